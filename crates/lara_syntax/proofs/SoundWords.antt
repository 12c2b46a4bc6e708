-- What is read is in the grammar: words and lists.
use Rattle.std.proofs.Common.{◌≡◌, ℕ, zero, suc, ◌<◌, Bool, true, false, cond, List, [], ◌∷◌, ◌++◌, length, Option, Some, None, Ok, Err, refl, sym, ap, subst, ◌∙◌, arith, append_assoc}
use Rattle.std.proofs.lemmas.List.{append-nil}
use Rattle.lara_key.specs.declared.key.KeyType.{KeyType}
use Rattle.lara_key.specs.declared.key.KeyType.TheVariants as key_type_of
use Rattle.lara_semiring.specs.declared.value.ValType.{ValType}
use Rattle.lara_semiring.specs.declared.value.ValType.TheVariants as val_type_of
use Rattle.lara_syntax.specs.declared.item.Lexeme.{Lexeme}
use Rattle.lara_syntax.specs.declared.item.Lexeme.TheVariants as lex
use Rattle.lara_syntax.specs.declared.item.Keyword.{Keyword}
use Rattle.lara_syntax.specs.declared.item.Keyword.TheVariants as key
use Rattle.lara_syntax.specs.declared.item.Sign.{Sign}
use Rattle.lara_syntax.specs.declared.item.Sign.TheVariants.{Comma}
use Rattle.lara_data.specs.declared.refusal.Kind.TheVariants.{Unexpected}
use Rattle.lara_syntax.specs.declared.ast.AstName.{AstName}
use Rattle.lara_syntax.specs.declared.ast.AstLit.{AstLit}
use Rattle.lara_syntax.specs.declared.ast.AstValue.{AstValue}
use Rattle.lara_syntax.specs.declared.ast.AstValue.TheVariants as val
use Rattle.lara_syntax.specs.Steps.{Items, Read, Reader, onward, ◌>>=◌, give, refuse, skip, turns, turns_within, turn, behind, list_from, items_from, head_word}
use Rattle.lara_syntax.specs.WordReading as words
use Rattle.lara_syntax.specs.WordReading.{sign, sign_by, next_as, taken_as, comma_by}
use Rattle.lara_syntax.specs.WordGrammar.{Word, word, Mark, Key, Named, literal_word, Lit, key_type_word, KeyTyped, val_type_word, ValTyped, Many, none, more, CommaThen, comma_then, Commas, commas, Maybe, nothing}
use Rattle.lara_syntax.proofs.Turns.{TakesOne, read_of, pair_is, value_is, rest_is, err_ok, none_some, list_step}
use Rattle.lara_syntax.proofs.Readers.{bind_ok}
use Rattle.lara_syntax.specs.FixedWords.{same_keyword, same_sign}
use Rattle.lara_syntax.proofs.WordTextLaws.{same_keyword-is, same_sign-is}

-- ---- how a read ends

pub give_to : {A : Type 0} (P : A → Items → Type 0) (x : A) (m : Items) (y : A) (u : Items) → read_of x m ≡ read_of y u → P x m → P y u
give_to {A = A} P x m y u e h = subst (λ (p : A × Items). P p.0 p.1) (pair_is (x, m) (y, u) e) h

pub some_is : {A : Type 0} (x y : A) → (let o : Option A = Some x in o) ≡ Some y → x ≡ y
some_is x y e = cc

pub read_some : {A : Type 0} (r : Read A) (x : A) (us : Items) → onward r (λ y. give (Some y)) ≡ read_of (Some x) us → r ≡ read_of x us
read_some {A = A} (Ok (y, m)) x us e =
    let ey : y ≡ x = some_is y x (value_is (Some y) m (Some x) us e) in
    let em : m ≡ us = rest_is (Some y) m (Some x) us e in
    ap (λ (z : A). read_of z m) ey ∙ ap (λ (q : Items). read_of x q) em
read_some {A = A} (Err d) x us e = absurd (err_ok {A = Option A} d (Some x, us) e)

-- a step that gives some gives not none
pub some_none : {A : Type 0} (r : Read A) (us : Items) → onward r (λ y. give (Some y)) ≡ read_of None us → ⊥
some_none {A = A} (Ok (y, m)) us e = none_some us m y (sym e)
some_none {A = A} (Err d) us e = err_ok {A = Option A} d (None, us) e

-- ---- one word

-- the word that is taken
pub word_taken : (w : Lexeme) (ts : Items) (at : ℕ) (u : Items) → head_word ts ≡ Some w → skip ts ≡ read_of at u → Word w at ts u
word_taken w [] at u h e = absurd (err_ok {A = ℕ} _ (at, u) e)
word_taken w (t ∷ ts) at u h e =
    let same : t.lexeme ≡ w = some_is t.lexeme w h in
    give_to (λ a q. Word w a (t ∷ ts) q) t.at ts at u e (subst (λ (l : Lexeme). Word l t.at (t ∷ ts) ts) same (word t.at t.len ts))

pub tested : (b : Bool) (ts : Items) (x : ℕ) (u : Items) → cond b skip (refuse Unexpected) ts ≡ read_of x u → (b ≡ true) × (skip ts ≡ read_of x u)
tested true ts x u e = (refl, e)
tested false ts x u e = absurd (err_ok {A = ℕ} _ (x, u) e)

pub sign_when : (m : Sign) (o : Option Lexeme) (ts : Items) (x : ℕ) (u : Items) → head_word ts ≡ o → sign_by m o ts ≡ read_of x u → Mark m x ts u
sign_when m (Some (lex.Sign k)) ts x u h e =
    let t = tested (same_sign m k) ts x u e in
    word_taken (lex.Sign m) ts x u (h ∙ ap (λ (j : Sign). Some (lex.Sign j)) (same_sign-is m k t.0)) t.1
sign_when m w ts x u h e = absurd (err_ok {A = ℕ} _ (x, u) e)

pub sign_sound : (m : Sign) (ts : Items) (x : ℕ) (u : Items) → sign m ts ≡ read_of x u → Mark m x ts u
unfolding sign
sign_sound m ts x u e = sign_when m (head_word ts) ts x u refl e

keyword_when : (k : Keyword) (o : Option Lexeme) (ts : Items) (x : ℕ) (u : Items) → head_word ts ≡ o → words.keyword_by k o ts ≡ read_of x u → Key k x ts u
keyword_when k (Some (lex.Key j)) ts x u h e =
    let t = tested (same_keyword k j) ts x u e in
    word_taken (lex.Key k) ts x u (h ∙ ap (λ (i : Keyword). Some (lex.Key i)) (same_keyword-is k j t.0)) t.1
keyword_when k w ts x u h e = absurd (err_ok {A = ℕ} _ (x, u) e)

pub keyword_sound : (k : Keyword) (ts : Items) (x : ℕ) (u : Items) → words.keyword k ts ≡ read_of x u → Key k x ts u
unfolding words.keyword
keyword_sound k ts x u e = keyword_when k (head_word ts) ts x u refl e

abbrev pub Sound : {A : Type 0} → (A → Items → Items → Type 0) → Reader A → Type 0
Sound {A = A} X p = (ts : Items) (x : A) (u : Items) → p ts ≡ read_of x u → X x ts u

pub name_when : (o : Option Lexeme) (ts : Items) (x : AstName) (u : Items) → head_word ts ≡ o → words.name_by o ts ≡ read_of x u → Named x ts u
name_when (Some (lex.Name n)) ts x u h e =
    let a = bind_ok (skip ts) (λ at. give (record { name = n; at = at })) (x, u) e in
    give_to (λ y q. Named y ts q) (record { name = n; at = a.0 }) a.1 x u a.3 (word_taken (lex.Name n) ts a.0 a.1 h a.2)
name_when w ts x u h e = absurd (err_ok {A = AstName} _ (x, u) e)

pub name_sound : Sound Named words.name
unfolding words.name
name_sound ts x u e = name_when (head_word ts) ts x u refl e

-- a word that stands for x, and what is made of its place and that
pub record TakenAs {A B : Type 0} (make : ℕ → A → B) (f : Lexeme → Option A) (ts : Items) (y : B) (u : Items) : Type 0 where
  pub lexeme : Lexeme
  pub at : ℕ
  pub x : A
  pub stands : f lexeme ≡ Some x
  pub made : make at x ≡ y
  pub here : Word lexeme at ts u

as_taken : {A B : Type 0} (make : ℕ → A → B) (f : Lexeme → Option A) (w : Lexeme) (o : Option A) (ts : Items) (y : B) (u : Items) → f w ≡ o → head_word ts ≡ Some w → taken_as make o ts ≡ read_of y u → TakenAs make f ts y u
as_taken make f w (Some x) ts y u l h e =
    let a = bind_ok (skip ts) (λ at. give (make at x)) (y, u) e in
    record { lexeme = w; at = a.0; x = x; stands = l; made = value_is (make a.0 x) a.1 y u a.3; here = subst (λ (q : Items). Word w a.0 ts q) (rest_is (make a.0 x) a.1 y u a.3) (word_taken w ts a.0 a.1 h a.2) }
as_taken {B = B} make f w None ts y u l h e = absurd (err_ok {A = B} _ (y, u) e)

as_when : {A B : Type 0} (make : ℕ → A → B) (f : Lexeme → Option A) (o : Option Lexeme) (ts : Items) (y : B) (u : Items) → head_word ts ≡ o → taken_as make (next_as f o) ts ≡ read_of y u → TakenAs make f ts y u
as_when {B = B} make f None ts y u h e = absurd (err_ok {A = B} _ (y, u) e)
as_when make f (Some w) ts y u h e = as_taken make f w (f w) ts y u refl h e

literal_word_is : (w : Lexeme) (v : AstValue) → words.literal_of w ≡ Some v → w ≡ literal_word v
literal_word_is (lex.Number n) v e = ap literal_word (some_is (val.Number n) v e)
literal_word_is (lex.Text content) v e = ap literal_word (some_is (val.Text content) v e)
literal_word_is (lex.Key key.True) v e = ap literal_word (some_is (val.Flag true) v e)
literal_word_is (lex.Key key.False) v e = ap literal_word (some_is (val.Flag false) v e)
literal_word_is (lex.Key key.Inf) v e = ap literal_word (some_is val.Inf v e)
literal_word_is (lex.Key key.None) v e = ap literal_word (some_is val.None v e)
literal_word_is w v e = absurd cc

pub lit_sound : Sound Lit words.lit
unfolding words.lit
lit_sound ts x u e =
    let t = as_when words.lit_at words.literal_of (head_word ts) ts x u refl e in
    subst (λ (y : AstLit). Lit y ts u) t.made (subst (λ (w : Lexeme). Word w t.at ts u) (literal_word_is t.lexeme t.x t.stands) t.here)

key_type_word_is : (w : Lexeme) (t : KeyType) → words.word_key_type w ≡ Some t → w ≡ lex.Key (key_type_word t)
key_type_word_is (lex.Key key.Nat) t e = ap (λ (q : KeyType). lex.Key (key_type_word q)) (some_is key_type_of.Nat t e)
key_type_word_is (lex.Key key.Text) t e = ap (λ (q : KeyType). lex.Key (key_type_word q)) (some_is key_type_of.Text t e)
key_type_word_is (lex.Key key.Flag) t e = ap (λ (q : KeyType). lex.Key (key_type_word q)) (some_is key_type_of.Flag t e)
key_type_word_is w t e = absurd cc

pub key_type_sound : Sound KeyTyped words.key_type
unfolding words.key_type
key_type_sound ts x u e =
    let t = as_when words.without_place words.word_key_type (head_word ts) ts x u refl e in
    subst (λ (y : KeyType). KeyTyped y ts u) t.made (t.at, subst (λ (w : Lexeme). Word w t.at ts u) (key_type_word_is t.lexeme t.x t.stands) t.here)

val_type_word_is : (w : Lexeme) (t : ValType) → words.word_val_type w ≡ Some t → w ≡ lex.Key (val_type_word t)
val_type_word_is (lex.Key key.Count) t e = ap (λ (q : ValType). lex.Key (val_type_word q)) (some_is val_type_of.Count t e)
val_type_word_is (lex.Key key.MinPlus) t e = ap (λ (q : ValType). lex.Key (val_type_word q)) (some_is val_type_of.MinPlus t e)
val_type_word_is (lex.Key key.MaxMin) t e = ap (λ (q : ValType). lex.Key (val_type_word q)) (some_is val_type_of.MaxMin t e)
val_type_word_is (lex.Key key.Flag) t e = ap (λ (q : ValType). lex.Key (val_type_word q)) (some_is val_type_of.Flag t e)
val_type_word_is (lex.Key key.Last) t e = ap (λ (q : ValType). lex.Key (val_type_word q)) (some_is val_type_of.Last t e)
val_type_word_is (lex.Key key.Path) t e = ap (λ (q : ValType). lex.Key (val_type_word q)) (some_is val_type_of.Path t e)
val_type_word_is w t e = absurd cc

pub val_type_sound : Sound ValTyped words.val_type
unfolding words.val_type
val_type_sound ts x u e =
    let t = as_when words.without_place words.word_val_type (head_word ts) ts x u refl e in
    subst (λ (y : ValType). ValTyped y ts u) t.made (t.at, subst (λ (w : Lexeme). Word w t.at ts u) (val_type_word_is t.lexeme t.x t.stands) t.here)

-- ---- lists

-- where a list ends
pub record Listed {A : Type 0} (X : A → Items → Items → Type 0) (item : List A → Reader (Option A)) (acc ys : List A) (ts rest : Items) : Type 0 where
  pub xs : List A
  pub all : ys ≡ acc ++ xs
  pub end : Items
  pub many : Many X xs ts end
  pub ended : item ys end ≡ read_of None rest

abbrev pub ListSound : {A : Type 0} → (A → Items → Items → Type 0) → (List A → Reader (Option A)) → Type 0
ListSound {A = A} X item = (ys : List A) (ts : Items) (x : A) (us : Items) → item ys ts ≡ read_of (Some x) us → X x ts us

pub listed_by : {A : Type 0} (X : A → Items → Items → Type 0) (item : List A → Reader (Option A)) (n : ℕ) → ListSound X item
    → ((acc ys : List A) (ts rest : Items) → turns_within (list_step item) n acc ts ≡ read_of ys rest → length ts < n → Listed X item acc ys ts rest)
    → ((ys : List A) → TakesOne (item ys))
    → (r : Read (Option A)) (acc ys : List A) (ts rest : Items) → length ts < suc n → item acc ts ≡ r → onward (onward r (λ x. give (behind acc x))) (turn (give acc) (turns_within (list_step item) n)) ≡ read_of ys rest → Listed X item acc ys ts rest
listed_by {A = A} X item n sound next one (Ok (None, m)) acc ys ts rest lt h e =
    let same : acc ≡ ys = value_is acc m ys rest e in
    record { xs = []; all = sym same ∙ sym (append-nil acc); end = ts; many = none ts; ended = ap (λ (q : List A). item q ts) (sym same) ∙ h ∙ ap (λ (q : Items). read_of None q) (rest_is acc m ys rest e) }
listed_by X item n sound next one (Ok (Some x, m)) acc ys ts rest lt h e =
    let shorter = (one acc).shorter ts x m h in
    let l = next (acc ++ x ∷ []) ys m rest e (omega (arith, shorter)) in
    record { xs = x ∷ l.xs; all = l.all ∙ append_assoc acc (x ∷ []) l.xs; end = l.end; many = more x l.xs ts m l.end (sound acc ts x m h) l.many; ended = l.ended }
listed_by X item n sound next one (Err d) acc ys ts rest lt h e = absurd (err_ok d (ys, rest) e)

pub listed_within : {A : Type 0} (X : A → Items → Items → Type 0) (item : List A → Reader (Option A)) → ListSound X item → ((ys : List A) → TakesOne (item ys)) → (n : ℕ) (acc ys : List A) (ts rest : Items) → turns_within (list_step item) n acc ts ≡ read_of ys rest → length ts < n → Listed X item acc ys ts rest
unfolding turns_within
listed_within X item sound one zero acc ys ts rest e lt = absurd (omega arith)
listed_within X item sound one (suc n) acc ys ts rest e lt = listed_by X item n sound (listed_within X item sound one n) one (item acc ts) acc ys ts rest lt refl e

pub listed : {A : Type 0} (X : A → Items → Items → Type 0) (item : List A → Reader (Option A)) → ListSound X item → ((ys : List A) → TakesOne (item ys)) → (acc ys : List A) (ts rest : Items) → list_from item acc ts ≡ read_of ys rest → Listed X item acc ys ts rest
unfolding turns
listed X item sound one acc ys ts rest e = listed_within X item sound one (suc (length ts)) acc ys ts rest e (omega arith)

pub comma_when : {A : Type 0} (X : A → Items → Items → Type 0) (p : Reader A) → Sound X p → (o : Option Lexeme) (ts : Items) (x : A) (u : Items) → head_word ts ≡ o → comma_by p o ts ≡ read_of (Some x) u → CommaThen X x ts u
comma_when X p sound (Some (lex.Sign Comma)) ts x u h e =
    let a = bind_ok (skip ts) (λ at. p >>= λ y. give (Some y)) (Some x, u) e in
    comma_then a.0 x ts a.1 u (word_taken (lex.Sign Comma) ts a.0 a.1 h a.2) (sound a.1 x u (read_some (p a.1) x u a.3))
comma_when X p sound w ts x u h e = absurd (none_some ts u x e)

pub comma_sound : {A : Type 0} (X : A → Items → Items → Type 0) (p : Reader A) → Sound X p → (ts : Items) (x : A) (u : Items) → words.comma_then p ts ≡ read_of (Some x) u → CommaThen X x ts u
comma_sound X p sound ts x u e = comma_when X p sound (head_word ts) ts x u refl e

pub comma_none_by : {A : Type 0} (p : Reader A) (o : Option Lexeme) (ts : Items) (u : Items) → comma_by p o ts ≡ read_of None u → ts ≡ u
comma_none_by {A = A} p (Some (lex.Sign Comma)) ts u e =
    let a = bind_ok (skip ts) (λ at. p >>= λ y. give (Some y)) (None, u) e in absurd (some_none (p a.1) u a.3)
comma_none_by {A = A} p w ts u e = rest_is {A = Option A} None ts None u e

pub comma_none : {A : Type 0} (p : Reader A) (ts : Items) (u : Items) → words.comma_then p ts ≡ read_of None u → ts ≡ u
comma_none p ts u e = comma_none_by p (head_word ts) ts u e

pub commas_sound : {A : Type 0} (X : A → Items → Items → Type 0) (p : Reader A) → Sound X p → TakesOne (words.comma_then p) → (ts : Items) (xs : List A) (u : Items) → (p >>= λ x. items_from (words.comma_then p) (x ∷ [])) ts ≡ read_of xs u → Commas X xs ts u
commas_sound {A = A} X p sound one ts xs u e =
    let a = bind_ok (p ts) (λ x. items_from (words.comma_then p) (x ∷ [])) (xs, u) e in
    let l = listed (CommaThen X) (λ ys. words.comma_then p) (λ ys. comma_sound X p sound) (λ ys. one) (a.0 ∷ []) xs a.1 u a.3 in
    let end : l.end ≡ u = comma_none p l.end u l.ended in
    subst (λ (q : List A). Commas X q ts u) (sym l.all) (commas a.0 l.xs ts a.1 u (sound ts a.0 a.1 a.2) (subst (λ (q : Items). Many (CommaThen X) l.xs a.1 q) end l.many))

-- nothing is read
pub absent : {A : Type 0} (X : List A → Items → Items → Type 0) (ts : Items) (xs : List A) (u : Items) → read_of [] ts ≡ read_of xs u → Maybe X xs ts u
absent X ts xs u e = give_to (λ ys q. Maybe X ys ts q) [] ts xs u e (nothing ts)
