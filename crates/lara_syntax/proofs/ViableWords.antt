-- What stands before a refused word can go on: words, and lists of what ends by itself.
use Rattle.std.proofs.Common.{◌≡◌, ◌<◌, ℕ, List, [], ◌∷◌, length, Option, Some, None, Err, refl, sym, ap, ◌∙◌, arith, Bool, true, false, cond}
use Rattle.lara_syntax.specs.declared.item.Item.{Item}
use Rattle.lara_syntax.specs.declared.item.Lexeme.{Lexeme}
use Rattle.lara_syntax.specs.declared.item.Lexeme.TheVariants as lex
use Rattle.lara_syntax.specs.declared.item.Keyword.TheVariants as key
use Rattle.lara_syntax.specs.declared.item.Sign.{Sign}
use Rattle.lara_syntax.specs.declared.item.Sign.TheVariants.{Semi, Comma}
use Rattle.lara_data.specs.declared.refusal.Kind.TheVariants.{Unexpected}
use Rattle.lara_syntax.specs.declared.fault.Stop.{Stop}
use Rattle.lara_key.specs.declared.key.KeyType.TheVariants as key_type_of
use Rattle.lara_semiring.specs.declared.value.ValType.TheVariants as val_type_of
use Rattle.lara_syntax.specs.declared.ast.AstValue.TheVariants as val
use Rattle.lara_syntax.specs.declared.item.Keyword.{Keyword}
use Rattle.lara_syntax.specs.StartSymbols.{IsSpelled}
use Rattle.lara_syntax.specs.FixedWords.{keyword_text, sign_text}
use Rattle.lara_syntax.specs.Steps.{Items, Read, Reader, ◌>>=◌, give, refuse, peek, skip, items_from, head_word}
use Rattle.lara_syntax.specs.WordReading as words
use Rattle.lara_syntax.specs.FixedWords.{same_keyword, same_sign}
use Rattle.lara_syntax.specs.WordReading.{sign, sign_by}
use Rattle.lara_syntax.specs.WordGrammar.{Word, word}
use Rattle.lara_syntax.proofs.Turns.{read_of, erred, value_is, err_ok}
use Rattle.lara_syntax.proofs.Readers.{IsReader, reads_bind, reads_give, reads_skip, reads_items, skip_ok, ok_err, bind_ok, longer, skip_shortens}
use Rattle.lara_syntax.proofs.RuleReaders.{comma-reads, comma-one}
use Rattle.lara_syntax.proofs.Complete.{head_is, sign_reads, keyword_reads, NoComma, no_comma}
use Rattle.lara_syntax.proofs.SoundWords.{sign_sound, keyword_sound, name_sound}
use Rattle.lara_syntax.proofs.Viable.{Goes, IsViable, IsCase, Quiet, Starts, same_end, viable_narrow, case_viable, case_refuse, viable_bind, viable_give, viable_choice}
use Rattle.lara_syntax.proofs.ViableLoop.{IsItem, viable_list, keeps_viable, keeps_none, keeps_choice, viable_item}
use Rattle.lara_syntax.proofs.ViableTurns.{Keeps}

-- ---- what may follow

abbrev pub any : Option Lexeme → Type 0
any w = Unit {0}

-- the sign m
abbrev pub next_is : Sign → Option Lexeme → Type 0
next_is m w = w ≡ Some (lex.Sign m)

-- the end of the script
abbrev pub at_end : Option Lexeme → Type 0
at_end None = Unit {0}
at_end (Some w) = ⊥

-- a word of no place
abbrev pub token : Lexeme → Item
token w = record { at = 0; len = 0; lexeme = w }

-- ---- words that can be written

pub sign_spelled : (m : Sign) → IsSpelled (lex.Sign m)
sign_spelled m = (sign_text m, refl)

pub key_spelled : (k : Keyword) → IsSpelled (lex.Key k)
key_spelled k = (keyword_text k, refl)

-- `a`
abbrev pub a_name : List ℕ
a_name = 97 ∷ []

pub name_spelled : IsSpelled (lex.Name a_name)
unfolding Rattle.lara_base.specs.Names.is_name Rattle.lara_base.specs.Names.starts_name Rattle.lara_base.specs.Names.is_keyword Rattle.lara_base.specs.Names.goes_on
name_spelled = (a_name, (refl, refl))

-- `0`
pub number_spelled : IsSpelled (lex.Number 0)
number_spelled = (48 ∷ [], (record { some = λ e. absurd cc; digits = refl; value = refl }, omega arith))

-- ---- one word

pub skip_goes : (ts : Items) (d : Stop) → skip ts ≡ erred d → Goes any skip ts d
skip_goes [] d e = let s : record { left = 0; kind = Unexpected } ≡ d = cc in record { before = []; bad = []; parts = refl; place = sym (ap (λ (t : Stop). t.left) s); more = token (lex.Sign Semi) ∷ []; spelled = (sign_spelled Semi, tt); x = 0; on = λ v after. refl }
skip_goes (t ∷ ts) d e = absurd (ok_err t.at ts d e)

pub viable_skip : (F : Option Lexeme → Type 0) → IsViable F skip
viable_skip F = record {
  stays = λ before u v x e after. skip_ok before u v x e;
  word = token (lex.Sign Semi) ∷ [];
  spelled = (sign_spelled Semi, tt);
  value = 0;
  says = λ v after. refl;
  goes = λ ts d e. let g = skip_goes ts d e in record { before = g.before; bad = g.bad; parts = g.parts; place = g.place; more = g.more; spelled = g.spelled; x = g.x; on = λ v after. g.on v tt };
}

-- what is behind a word, once it is taken
pub viable_behind : {A : Type 0} (F : Option Lexeme → Type 0) (f : ℕ → Reader A) → ((at : ℕ) → IsReader (f at)) → ((at : ℕ) → IsViable F (f at)) → IsViable F (skip >>= f)
viable_behind F f reads viable = viable_bind F any skip f reads_skip reads (viable_skip any) viable (λ at ts y v e a. tt)

abbrev pub Takes : {A : Type 0} → Reader A → Type 0
Takes {A = A} p = (ts : Items) (x : A) (u : Items) → p ts ≡ read_of x u → length u < length ts

pub quiet_takes : {A : Type 0} (F : Option Lexeme → Type 0) (p : Reader A) → Takes p → Quiet F p
quiet_takes F p takes u v x e after = absurd (omega (arith, takes u x u e))

pub skip_takes : Takes skip
skip_takes ts x u e = skip_shortens (λ at. give at) (λ at. reads_give at) ts x u (taken ts x u e)
  where
    taken : (ts : Items) (x : ℕ) (u : Items) → skip ts ≡ read_of x u → (skip >>= λ at. give at) ts ≡ read_of x u
    taken [] x u e = e
    taken (t ∷ ts) x u e = e

pub refuse_takes : {A : Type 0} (ts : Items) (x : A) (u : Items) → (let r : Read A = Err (record { left = length ts; kind = Unexpected }) in r) ≡ read_of x u → length u < length ts
refuse_takes {A = A} ts x u e = absurd (err_ok {A = A} _ (x, u) e)

pub word_shorter : (w : Lexeme) (at : ℕ) (ts u : Items) → Word w at ts u → length u < length ts
word_shorter w at ts u (word a n q) = omega arith

pub case_cond : {A : Type 0} (F : Option Lexeme → Type 0) (b : Bool) (p q : Reader A) → IsCase F p → IsCase F q → IsCase F (cond b p q)
case_cond F true p q cp cq = cp
case_cond F false p q cp cq = cq

pub keeps_cond : {A : Type 0} (G : Option Lexeme → Type 0) (b : Bool) (p q : Reader (Option A)) → Keeps G p → Keeps G q → Keeps G (cond b p q)
keeps_cond G true p q kp kq = kp
keeps_cond G false p q kp kq = kq

pub sign_cases : (F : Option Lexeme → Type 0) (m : Sign) (w : Option Lexeme) → IsCase F (sign_by m w)
sign_cases F m (Some (lex.Sign k)) = case_cond F (same_sign m k) skip (refuse Unexpected) (case_viable F skip (viable_skip F)) (case_refuse F Unexpected)
sign_cases F m w = case_refuse F Unexpected

pub sign_takes : (m : Sign) → Takes (sign m)
sign_takes m ts x u e = word_shorter (lex.Sign m) x ts u (sign_sound m ts x u e)

pub sign_viable : (F : Option Lexeme → Type 0) (m : Sign) → IsViable F (sign m)
unfolding sign
sign_viable F m = viable_choice F (sign_by m) (sign_cases F m) (quiet_takes F (sign m) (sign_takes m)) (token (lex.Sign m) ∷ []) (sign_spelled m, tt) 0 (λ v after. sign_reads m 0 (token (lex.Sign m) ∷ v) v (word 0 0 v))

-- what begins with the sign m
pub sign_starts : {B : Type 0} (F : Option Lexeme → Type 0) (m : Sign) (f : ℕ → Reader B) → Starts F (next_is m) (sign m >>= f)
sign_starts F m f ts y v e after = let a = bind_ok (sign m ts) f (y, v) e in head_is (lex.Sign m) a.0 ts a.1 (sign_sound m ts a.0 a.1 a.2)

keyword_cases : (F : Option Lexeme → Type 0) (k : Keyword) (w : Option Lexeme) → IsCase F (words.keyword_by k w)
keyword_cases F k (Some (lex.Key j)) = case_cond F (same_keyword k j) skip (refuse Unexpected) (case_viable F skip (viable_skip F)) (case_refuse F Unexpected)
keyword_cases F k w = case_refuse F Unexpected

pub keyword_takes : (k : Keyword) → Takes (words.keyword k)
keyword_takes k ts x u e = word_shorter (lex.Key k) x ts u (keyword_sound k ts x u e)

pub keyword_viable : (F : Option Lexeme → Type 0) (k : Keyword) → IsViable F (words.keyword k)
unfolding words.keyword
keyword_viable F k = viable_choice F (words.keyword_by k) (keyword_cases F k) (quiet_takes F (words.keyword k) (keyword_takes k)) (token (lex.Key k) ∷ []) (key_spelled k, tt) 0 (λ v after. keyword_reads k 0 (token (lex.Key k) ∷ v) v (word 0 0 v))

pub name_cases : (F : Option Lexeme → Type 0) (w : Option Lexeme) → IsCase F (words.name_by w)
name_cases F (Some (lex.Name n)) = case_viable F _ (viable_behind F (λ at. give (record { name = n; at = at })) (λ at. reads_give _) (λ at. viable_give F _))
name_cases F w = case_refuse F Unexpected

pub name_takes : Takes words.name
name_takes ts x u e = word_shorter (lex.Name x.name) x.at ts u (name_sound ts x u e)

pub name_viable : (F : Option Lexeme → Type 0) → IsViable F words.name
unfolding words.name
name_viable F = viable_choice F words.name_by (name_cases F) (quiet_takes F words.name name_takes) (token (lex.Name a_name) ∷ []) (name_spelled, tt) (record { name = a_name; at = 0 }) (λ v after. refl)

pub as_cases : {A B : Type 0} (F : Option Lexeme → Type 0) (make : ℕ → A → B) (x : Option A) → IsCase F (words.taken_as make x)
as_cases F make (Some x) = case_viable F _ (viable_behind F (λ at. give (make at x)) (λ at. reads_give _) (λ at. viable_give F _))
as_cases F make None = case_refuse F Unexpected

pub as_takes : {A B : Type 0} (make : ℕ → A → B) (x : Option A) → Takes (words.taken_as make x)
as_takes make (Some x) ts y u e = skip_shortens (λ at. give (make at x)) (λ at. reads_give _) ts y u e
as_takes make None ts y u e = refuse_takes ts y u e

-- a word that stands for something; w is one
pub as_viable : {A B : Type 0} (F : Option Lexeme → Type 0) (make : ℕ → A → B) (f : Lexeme → Option A) (w : Lexeme) (x : A) → IsSpelled w → f w ≡ Some x → IsViable F (peek >>= λ o. words.taken_as make (words.next_as f o))
as_viable {A = A} F make f w x spelled e =
    viable_choice F (λ o. words.taken_as make (words.next_as f o)) (λ o. as_cases F make (words.next_as f o)) (quiet_takes F (peek >>= λ o. words.taken_as make (words.next_as f o)) (λ ts y u h. as_takes make (words.next_as f (head_word ts)) ts y u h))
    (token w ∷ []) (spelled, tt) (make 0 x) (λ v after. ap (λ (o : Option A). words.taken_as make o (token w ∷ v)) e)

pub key_type_viable : (F : Option Lexeme → Type 0) → IsViable F words.key_type
unfolding words.key_type
key_type_viable F = as_viable F words.without_place words.word_key_type (lex.Key key.Nat) key_type_of.Nat (key_spelled key.Nat) refl

pub val_type_viable : (F : Option Lexeme → Type 0) → IsViable F words.val_type
unfolding words.val_type
val_type_viable F = as_viable F words.without_place words.word_val_type (lex.Key key.Count) val_type_of.Count (key_spelled key.Count) refl

pub lit_viable : (F : Option Lexeme → Type 0) → IsViable F words.lit
unfolding words.lit
lit_viable F = as_viable F words.lit_at words.literal_of (lex.Number 0) (val.Number 0) number_spelled refl

pub lit_takes : Takes words.lit
unfolding words.lit
lit_takes ts x u e = as_takes words.lit_at (words.next_as words.literal_of (head_word ts)) ts x u e

-- two steps of which the first, or the second, takes a word
pub first_takes : {A B : Type 0} (p : Reader A) (f : A → Reader B) → Takes p → ((x : A) → IsReader (f x)) → Takes (p >>= f)
first_takes p f takes reads ts y u e =
    let a = bind_ok (p ts) f (y, u) e in
    let b = (reads a.0).front a.1 y u a.3 in
    omega (arith, takes ts a.0 a.1 a.2, longer a.1 b.0 u b.1)

pub second_takes : {A B : Type 0} (p : Reader A) (f : A → Reader B) → IsReader p → ((x : A) → Takes (f x)) → Takes (p >>= f)
second_takes p f reads takes ts y u e =
    let a = bind_ok (p ts) f (y, u) e in
    let b = reads.front ts a.0 a.1 a.2 in
    omega (arith, takes a.0 a.1 y u a.3, longer ts b.0 a.1 b.1)

-- ---- lists

-- "," X behind its comma
pub comma_rest_viable : {A : Type 0} (F : Option Lexeme → Type 0) (p : Reader A) → IsReader p → IsViable F p → (at : ℕ) → IsViable F (p >>= λ x. give (Some x))
comma_rest_viable F p ip vp at = viable_bind F F p (λ x. give (Some x)) ip (λ x. reads_give _) vp (λ x. viable_give F _) (λ x. same_end F _)

pub comma_behind_viable : {A : Type 0} (F : Option Lexeme → Type 0) (p : Reader A) → IsReader p → IsViable F p → IsViable F (skip >>= λ at. p >>= λ x. give (Some x))
comma_behind_viable F p ip vp = viable_behind F (λ at. p >>= λ x. give (Some x)) (λ at. reads_bind p (λ x. give (Some x)) ip (λ x. reads_give _)) (comma_rest_viable F p ip vp)

pub comma_cases : {A : Type 0} (F : Option Lexeme → Type 0) (p : Reader A) → IsReader p → IsViable F p → (w : Option Lexeme) → IsCase F (words.comma_by p w)
comma_cases F p ip vp (Some (lex.Sign Comma)) = case_viable F _ (comma_behind_viable F p ip vp)
comma_cases F p ip vp w = case_viable F (give None) (viable_give F None)

comma_keeps_by : {A : Type 0} (G : Option Lexeme → Type 0) (p : Reader A) → IsReader p → IsViable G p → (w : Option Lexeme) → Keeps G (words.comma_by p w)
comma_keeps_by G p ip vp (Some (lex.Sign Comma)) = keeps_viable G _ (comma_behind_viable G p ip vp)
comma_keeps_by G p ip vp w = keeps_none G

pub comma_keeps : {A : Type 0} (G : Option Lexeme → Type 0) (p : Reader A) → IsReader p → IsViable G p → Keeps G (words.comma_then p)
comma_keeps G p ip vp = keeps_choice G (words.comma_by p) (comma-one p ip) (comma_keeps_by G p ip vp)

pub comma_viable : {A : Type 0} (F : Option Lexeme → Type 0) → ((w : Option Lexeme) → F w → NoComma w) → (p : Reader A) → IsReader p → IsViable F p → IsViable F (words.comma_then p)
comma_viable F not_comma p ip vp = viable_item F (words.comma_by p) (comma-one p ip) (λ v after. no_comma p v (not_comma (head_word v) after)) (comma_cases F p ip vp)

pub comma_item : {A : Type 0} (F : Option Lexeme → Type 0) → ((w : Option Lexeme) → F w → NoComma w) → (p : Reader A) → IsReader p → IsViable any p → IsItem F any (λ (ys : List A). words.comma_then p)
comma_item F not_comma p ip vp = record {
  one = λ ys. comma-one p ip;
  reader = λ ys. comma-reads p ip;
  ends = λ ys v after. no_comma p v (not_comma (head_word v) after);
  rests = λ ys ts u e after. tt;
  begins = λ ys ts x u e. tt;
  keeps = λ ys. comma_keeps any p ip vp;
  viable = λ ys. comma_viable F not_comma p ip (viable_narrow F any (λ w a. tt) p vp);
}

-- X { "," X }
pub commas_viable : {A : Type 0} (F : Option Lexeme → Type 0) → ((w : Option Lexeme) → F w → NoComma w) → (p : Reader A) → IsReader p → IsViable any p → IsViable F (p >>= λ x. items_from (words.comma_then p) (x ∷ []))
commas_viable F not_comma p ip vp = viable_bind F any p (λ x. items_from (words.comma_then p) (x ∷ [])) ip (λ x. reads_items (words.comma_then p) (comma-one p ip) (comma-reads p ip) (x ∷ [])) vp (λ x. viable_list F any (λ ys. words.comma_then p) (comma_item F not_comma p ip vp) (x ∷ [])) (λ x ts y v e a. tt)

-- what is empty where it takes no word
pub quiet_list : {A : Type 0} (F : Option Lexeme → Type 0) (by : Option Lexeme → Reader (List A)) → ((u : Items) (xs : List A) → by (head_word u) u ≡ read_of xs u → xs ≡ []) → ((v : Items) → F (head_word v) → by (head_word v) v ≡ read_of [] v) → Quiet F (peek >>= by)
quiet_list {A = A} F by empty ends u v xs e after = ends v after ∙ ap (λ (q : List A). read_of q v) (sym (empty u xs e))

pub no_list : {A : Type 0} (p : Reader (List A)) → Takes p → (u : Items) (xs : List A) → p u ≡ read_of xs u → xs ≡ []
no_list p takes u xs e = absurd (omega (arith, takes u xs u e))

pub empty_list : {A : Type 0} (u : Items) (xs : List A) → read_of [] u ≡ read_of xs u → xs ≡ []
empty_list {A = A} u xs e = sym (value_is {A = List A} [] u xs u e)
