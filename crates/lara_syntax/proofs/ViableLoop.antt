-- What stands before the word at which a list of items stops can go on to a list.
use Rattle.std.proofs.Common.{◌≡◌, List, [], ◌∷◌, ◌++◌, Option, Some, None, refl, sym, ap, ◌∙◌, arith}
use Rattle.lara_syntax.specs.declared.item.Lexeme.{Lexeme}
use Rattle.lara_syntax.specs.Steps.{Items, Reader, ◌>>=◌, give, peek, behind, list_from, head_word}
use Rattle.lara_syntax.proofs.Turns.{TakesOne, read_of, rest_is, value_is, none_some, list_step, list_shortens}
use Rattle.lara_syntax.proofs.Readers.{IsReader, reads_bind, reads_give, bind_ok}
use Rattle.lara_syntax.proofs.SoundWords.{some_is}
use Rattle.lara_syntax.proofs.Viable.{IsViable, IsCase, same_end, viable_bind, viable_give, viable_choice}
use Rattle.lara_syntax.proofs.ViableTurns.{Keeps, IsTurn, turns_starts, viable_turns}

-- F: what may follow the list; G: what may follow an item
pub record IsItem {A : Type 0} (F G : Option Lexeme → Type 0) (item : List A → Reader (Option A)) : Type 0 where
  pub one : (ys : List A) → TakesOne (item ys)
  pub reader : (ys : List A) → IsReader (item ys)
  pub ends : (ys : List A) (v : Items) → F (head_word v) → item ys v ≡ read_of None v
  pub rests : (ys : List A) (ts u : Items) → item ys ts ≡ read_of None u → F (head_word u) → G (head_word ts)
  pub begins : (ys : List A) (ts : Items) (x : A) (u : Items) → item ys ts ≡ read_of (Some x) u → G (head_word ts)
  pub keeps : (ys : List A) → Keeps G (item ys)
  pub viable : (ys : List A) → IsViable F (item ys)

-- what a turn made of an item
item_some : {A : Type 0} (ys : List A) (o : Option A) (m : Items) (zs : List A) (u : Items) → read_of (behind ys o) m ≡ read_of (Some zs) u → (x : A) × (o ≡ Some x) × ((ys ++ x ∷ []) ≡ zs) × (m ≡ u)
item_some ys None m zs u e = absurd (none_some m u zs e)
item_some ys (Some x) m zs u e = (x, refl, some_is (ys ++ x ∷ []) zs (value_is (Some (ys ++ x ∷ [])) m (Some zs) u e), rest_is (Some (ys ++ x ∷ [])) m (Some zs) u e)

item_none : {A : Type 0} (ys : List A) (o : Option A) (m u : Items) → read_of (behind ys o) m ≡ read_of None u → (o ≡ None) × (m ≡ u)
item_none {A = A} ys None m u e = (refl, rest_is {A = Option (List A)} None m None u e)
item_none ys (Some x) m u e = absurd (none_some u m (ys ++ x ∷ []) (sym e))

record Gave {A : Type 0} (item : List A → Reader (Option A)) (ys : List A) (ts : Items) (zs : List A) (u : Items) : Type 0 where
  pub x : A
  pub made : (ys ++ x ∷ []) ≡ zs
  pub read : item ys ts ≡ read_of (Some x) u

gave : {A : Type 0} (item : List A → Reader (Option A)) (ys : List A) (ts : Items) (zs : List A) (u : Items) → list_step item ys ts ≡ read_of (Some zs) u → Gave item ys ts zs u
gave {A = A} item ys ts zs u e =
    let a = bind_ok (item ys ts) (λ x. give (behind ys x)) (Some zs, u) e in
    let b = item_some ys a.0 a.1 zs u a.3 in
    record { x = b.0; made = b.2; read = a.2 ∙ ap (λ (o : Option A). read_of o a.1) b.1 ∙ ap (λ (q : Items). read_of (Some b.0) q) b.3 }

gave_none : {A : Type 0} (item : List A → Reader (Option A)) (ys : List A) (ts u : Items) → list_step item ys ts ≡ read_of None u → item ys ts ≡ read_of None u
gave_none {A = A} item ys ts u e =
    let a = bind_ok (item ys ts) (λ x. give (behind ys x)) (None, u) e in
    let b = item_none ys a.0 a.1 u a.3 in
    a.2 ∙ ap (λ (o : Option A). read_of o a.1) b.0 ∙ ap (λ (q : Items). read_of {A = Option A} None q) b.1

list_keeps : {A : Type 0} (F G : Option Lexeme → Type 0) (item : List A → Reader (Option A)) → IsItem F G item → (ys : List A) → Keeps G (list_step item ys)
list_keeps {A = A} F G item ii ys before u v zs e after =
    let g = gave item ys (before ++ u) zs u e in
    rw (ii.keeps ys before u v g.x g.read after) (ap (λ (q : List A). read_of (Some q) v) g.made)

-- a turn is an item behind the others
list_turn : {A : Type 0} (F G : Option Lexeme → Type 0) (item : List A → Reader (Option A)) → IsItem F G item → IsTurn F G (list_step item)
list_turn F G item ii = record {
  shortens = list_shortens item ii.one;
  reader = λ ys. reads_bind (item ys) (λ x. give (behind ys x)) (ii.reader ys) (λ x. reads_give (behind ys x));
  ends = λ ys v after. rw (ii.ends ys v after) refl;
  rests = λ ys ts u e after. ii.rests ys ts u (gave_none item ys ts u e) after;
  begins = λ ys ts zs u e. let g = gave item ys ts zs u e in ii.begins ys ts g.x u g.read;
  keeps = list_keeps F G item ii;
  viable = λ ys. viable_bind F F (item ys) (λ x. give (behind ys x)) (ii.reader ys) (λ x. reads_give (behind ys x)) (ii.viable ys) (λ x. viable_give F (behind ys x)) (λ x. same_end F (behind ys x));
}

pub loop_starts : {A : Type 0} (F G : Option Lexeme → Type 0) (item : List A → Reader (Option A)) → IsItem F G item → (acc ys : List A) (ts v : Items) → list_from item acc ts ≡ read_of ys v → F (head_word v) → G (head_word ts)
loop_starts F G item ii acc ys ts v e after = turns_starts F G (list_step item) (list_turn F G item ii) acc ys ts v e after

pub viable_list : {A : Type 0} (F G : Option Lexeme → Type 0) (item : List A → Reader (Option A)) → IsItem F G item → (acc : List A) → IsViable F (list_from item acc)
viable_list F G item ii acc = viable_turns F G (list_step item) (list_turn F G item ii) acc

-- ---- items by the word that is next

pub keeps_viable : {A : Type 0} (G : Option Lexeme → Type 0) (item : Reader (Option A)) → IsViable G item → Keeps G item
keeps_viable G item v before u w x e after = v.stays before u w (Some x) e after

pub keeps_none : {A : Type 0} (G : Option Lexeme → Type 0) → Keeps {A = A} G (give None)
keeps_none G before u v x e after = absurd (none_some (before ++ u) u x e)

nothing_taken : {A : Type 0} (item : Reader (Option A)) → TakesOne item → (u : Items) (x : A) → item u ≡ read_of (Some x) u → ⊥
nothing_taken item one u x e = omega (arith, one.shorter u x u e)

pub keeps_choice : {A : Type 0} (G : Option Lexeme → Type 0) (by : Option Lexeme → Reader (Option A)) → TakesOne (peek >>= by) → ((w : Option Lexeme) → Keeps G (by w)) → Keeps G (peek >>= by)
keeps_choice G by one cases [] u v x e after = absurd (nothing_taken (peek >>= by) one u x e)
keeps_choice G by one cases (t ∷ before) u v x e after = cases (Some t.lexeme) (t ∷ before) u v x e after

-- an optional item: none where it takes no word
pub viable_item : {A : Type 0} (F : Option Lexeme → Type 0) (by : Option Lexeme → Reader (Option A)) → TakesOne (peek >>= by) → ((v : Items) → F (head_word v) → (peek >>= by) v ≡ read_of None v) → ((w : Option Lexeme) → IsCase F (by w)) → IsViable F (peek >>= by)
viable_item {A = A} F by one ends cases = viable_choice F by cases (λ u v o e after. still o u v e after) [] tt None ends
  where
    still : (o : Option A) (u v : Items) → (peek >>= by) u ≡ read_of o u → F (head_word v) → (peek >>= by) v ≡ read_of o v
    still None u v e after = ends v after
    still (Some x) u v e after = absurd (nothing_taken (peek >>= by) one u x e)
