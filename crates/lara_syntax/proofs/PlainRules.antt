-- All refusals of a rule without limits are of one kind.
use Rattle.std.proofs.Common.{◌≡◌, ◌<◌, ℕ, zero, suc, List, [], ◌∷◌, ◌++◌, length, Option, Some, None, Ok, Err, inl, inr, refl, sym, ap, ◌∙◌, arith, Bool, true, false, cond}
use Rattle.lara_syntax.specs.declared.item.Lexeme.{Lexeme}
use Rattle.lara_syntax.specs.declared.item.Lexeme.TheVariants as lex
use Rattle.lara_syntax.specs.declared.item.Keyword.{Keyword}
use Rattle.lara_syntax.specs.declared.item.Keyword.TheVariants as key
use Rattle.lara_syntax.specs.declared.item.Sign.{Sign}
use Rattle.lara_syntax.specs.declared.item.Sign.TheVariants.{Semi, Comma, Colon, OpenBracket, CloseBracket, OpenBrace, CloseBrace}
use Rattle.lara_data.specs.declared.refusal.Kind.TheVariants.{Unexpected}
use Rattle.lara_syntax.specs.declared.fault.Stop.{Stop}
use Rattle.lara_syntax.specs.declared.fault.Fault.TheVariants as faults
use Rattle.lara_syntax.specs.declared.ast.AstEntry.{AstEntry}
use Rattle.lara_syntax.specs.Steps.{Items, Read, Reader, ◌>>=◌, give, refuse, peek, skip, items_from, head_word}
use Rattle.lara_syntax.specs.Reading as r
use Rattle.lara_syntax.specs.WordReading as words
use Rattle.lara_syntax.specs.FixedWords.{same_keyword, same_sign}
use Rattle.lara_syntax.specs.WordReading.{sign, sign_by}
use Rattle.lara_syntax.proofs.Turns.{TakesOne, erred, list-some, list-none, list-fail}
use Rattle.lara_syntax.proofs.Readers.{bind_err, ok_err, stop_is}
use Rattle.lara_syntax.proofs.RuleReaders.{comma_name-one, comma_key_col-one, comma_val_col-one, comma_lit-one, semi_entry-one, comma_pair-one}

abbrev pub Plain : {A : Type 0} → Reader A → Type 0
Plain {A = A} p = (ts : Items) (d : Stop) → p ts ≡ erred d → d.kind ≡ Unexpected

pub plain_bind : {A B : Type 0} (p : Reader A) (f : A → Reader B) → Plain p → ((x : A) → Plain (f x)) → Plain (p >>= f)
plain_bind p f pp pf ts d e = elim (bind_err (p ts) f d e) [
  | inl h ↦ pp ts d h
  | inr h ↦ pf h.0 h.1 d h.3
]

pub plain_give : {A : Type 0} (x : A) → Plain (give x)
plain_give x ts d e = absurd (ok_err x ts d e)

pub plain_refuse : {A : Type 0} → Plain (refuse {A = A} Unexpected)
plain_refuse {A = A} ts d e = let s : record { left = length ts; kind = Unexpected } ≡ d = stop_is {A = A} _ d e in sym (ap (λ (x : Stop). x.kind) s)

pub plain_skip : Plain skip
plain_skip [] d e = let s : record { left = 0; kind = Unexpected } ≡ d = stop_is {A = ℕ} _ d e in sym (ap (λ (x : Stop). x.kind) s)
plain_skip (t ∷ ts) d e = absurd (ok_err t.at ts d e)

plain_choice : {A : Type 0} (by : Option Lexeme → Reader A) → ((w : Option Lexeme) → Plain (by w)) → Plain (peek >>= by)
plain_choice by cases ts d e = cases (head_word ts) ts d e

plain_list_by : {A : Type 0} (item : Reader (Option A)) → TakesOne item → Plain item → (n : ℕ)
    → ((acc : List A) (ts : Items) (d : Stop) → length ts < n → items_from item acc ts ≡ erred d → d.kind ≡ Unexpected)
    → (o : Read (Option A)) (acc : List A) (ts : Items) (d : Stop) → item ts ≡ o → length ts < suc n → items_from item acc ts ≡ erred d → d.kind ≡ Unexpected
plain_list_by item one pi n next (Ok (None, m)) acc ts d h lt e = absurd (ok_err acc m d (sym (list-none (λ ys. item) (λ ys. one) acc ts None m h refl) ∙ e))
plain_list_by item one pi n next (Ok (Some x, m)) acc ts d h lt e = next (acc ++ x ∷ []) m d (omega (arith, lt, one.shorter ts x m h)) (sym (list-some (λ ys. item) (λ ys. one) acc ts x m h) ∙ e)
plain_list_by {A = A} item one pi n next (Err c) acc ts d h lt e =
    let same : c ≡ d = stop_is {A = List A} c d (sym (list-fail (λ ys. item) (λ ys. one) acc ts (faults.Stopped c) h) ∙ e) in
    pi ts d (h ∙ ap (λ (s : Stop). erred s) same)

plain_list_within : {A : Type 0} (item : Reader (Option A)) → TakesOne item → Plain item → (n : ℕ) (acc : List A) (ts : Items) (d : Stop) → length ts < n → items_from item acc ts ≡ erred d → d.kind ≡ Unexpected
plain_list_within item one pi zero acc ts d lt e = absurd (omega arith)
plain_list_within item one pi (suc n) acc ts d lt e = plain_list_by item one pi n (plain_list_within item one pi n) (item ts) acc ts d refl lt e

plain_items : {A : Type 0} (item : Reader (Option A)) → TakesOne item → Plain item → (acc : List A) → Plain (items_from item acc)
plain_items item one pi acc ts d e = plain_list_within item one pi (suc (length ts)) acc ts d (omega arith) e

plain_cond : {A : Type 0} (b : Bool) (p q : Reader A) → Plain p → Plain q → Plain (cond b p q)
plain_cond true p q pp pq = pp
plain_cond false p q pp pq = pq

sign_by-plain : (m : Sign) (w : Option Lexeme) → Plain (sign_by m w)
sign_by-plain m (Some (lex.Sign k)) = plain_cond (same_sign m k) skip (refuse Unexpected) plain_skip plain_refuse
sign_by-plain m w = plain_refuse

pub sign-plain : (m : Sign) → Plain (sign m)
unfolding sign
sign-plain m = plain_choice (sign_by m) (sign_by-plain m)

keyword_by-plain : (k : Keyword) (w : Option Lexeme) → Plain (words.keyword_by k w)
keyword_by-plain k (Some (lex.Key j)) = plain_cond (same_keyword k j) skip (refuse Unexpected) plain_skip plain_refuse
keyword_by-plain k w = plain_refuse

pub keyword-plain : (k : Keyword) → Plain (words.keyword k)
unfolding words.keyword
keyword-plain k = plain_choice (words.keyword_by k) (keyword_by-plain k)

name_by-plain : (w : Option Lexeme) → Plain (words.name_by w)
name_by-plain (Some (lex.Name n)) = plain_bind skip _ plain_skip (λ at. plain_give _)
name_by-plain w = plain_refuse

pub name-plain : Plain words.name
unfolding words.name
name-plain = plain_choice words.name_by name_by-plain

taken_as-plain : {A B : Type 0} (make : ℕ → A → B) (x : Option A) → Plain (words.taken_as make x)
taken_as-plain make (Some x) = plain_bind skip _ plain_skip (λ at. plain_give _)
taken_as-plain make None = plain_refuse

key_type-plain : Plain words.key_type
unfolding words.key_type
key_type-plain = plain_choice words.key_type_by (λ w. taken_as-plain words.without_place (words.next_as words.word_key_type w))

val_type-plain : Plain words.val_type
unfolding words.val_type
val_type-plain = plain_choice words.val_type_by (λ w. taken_as-plain words.without_place (words.next_as words.word_val_type w))

pub lit-plain : Plain words.lit
unfolding words.lit
lit-plain = plain_choice words.lit_by (λ w. taken_as-plain words.lit_at (words.next_as words.literal_of w))

comma_by-plain : {A : Type 0} (p : Reader A) → Plain p → (w : Option Lexeme) → Plain (words.comma_by p w)
comma_by-plain p pp (Some (lex.Sign Comma)) = plain_bind skip (λ at. p >>= λ x. give (Some x)) plain_skip (λ at. plain_bind p (λ x. give (Some x)) pp (λ x. plain_give (Some x)))
comma_by-plain p pp w = plain_give None

commas-plain : {A : Type 0} (p : Reader A) → Plain p → TakesOne (words.comma_then p) → Plain (p >>= λ x. items_from (words.comma_then p) (x ∷ []))
commas-plain p pp one = plain_bind p (λ x. items_from (words.comma_then p) (x ∷ [])) pp (λ x. plain_items (words.comma_then p) one (plain_choice (words.comma_by p) (comma_by-plain p pp)) (x ∷ []))

some_names_by-plain : (w : Option Lexeme) → Plain (r.some_names_by w)
unfolding r.comma_name
some_names_by-plain (Some (lex.Name n)) = commas-plain words.name name-plain comma_name-one
some_names_by-plain w = plain_give []

pub some_names-plain : Plain r.some_names
unfolding r.some_names
some_names-plain = plain_choice r.some_names_by some_names_by-plain

pub key_col-plain : Plain r.key_col
unfolding r.key_col
key_col-plain = plain_bind words.name _ name-plain (λ x. plain_bind (sign Colon) _ (sign-plain Colon) (λ at. plain_bind words.key_type _ key_type-plain (λ t. plain_give _)))

some_key_cols_by-plain : (w : Option Lexeme) → Plain (r.some_key_cols_by w)
unfolding r.comma_key_col
some_key_cols_by-plain (Some (lex.Name n)) = commas-plain r.key_col key_col-plain comma_key_col-one
some_key_cols_by-plain w = plain_give []

some_key_cols-plain : Plain r.some_key_cols
unfolding r.some_key_cols
some_key_cols-plain = plain_choice r.some_key_cols_by some_key_cols_by-plain

pub val_col-plain : Plain r.val_col
unfolding r.val_col
val_col-plain = plain_bind words.name _ name-plain (λ x. plain_bind (sign Colon) _ (sign-plain Colon) (λ at. plain_bind words.val_type _ val_type-plain (λ t. plain_give _)))

val_cols-plain : Plain r.val_cols
unfolding r.val_cols r.comma_val_col
val_cols-plain = commas-plain r.val_col val_col-plain comma_val_col-one

table_type-plain : Plain r.table_type
unfolding r.table_type
table_type-plain = plain_bind (sign OpenBracket) _ (sign-plain OpenBracket) (λ a. plain_bind r.some_key_cols _ some_key_cols-plain (λ ks. plain_bind (sign Colon) _ (sign-plain Colon) (λ b. plain_bind r.val_cols _ val_cols-plain (λ vs. plain_bind (sign CloseBracket) _ (sign-plain CloseBracket) (λ c. plain_give _)))))

lits-plain : Plain r.lits
unfolding r.lits r.comma_lit
lits-plain = commas-plain words.lit lit-plain comma_lit-one

some_lits_by-plain : (w : Option Lexeme) → Plain (r.some_lits_by w)
some_lits_by-plain w = plain_cond (words.is_literal w) r.lits (give []) lits-plain (plain_give [])

some_lits-plain : Plain r.some_lits
unfolding r.some_lits
some_lits-plain = plain_choice r.some_lits_by some_lits_by-plain

entry-plain : Plain r.entry
unfolding r.entry
entry-plain = plain_bind r.some_lits _ some_lits-plain (λ ks. plain_bind (sign Colon) _ (sign-plain Colon) (λ at. plain_bind r.lits _ lits-plain (λ row. plain_give _)))

an_entry-plain : Plain r.an_entry
an_entry-plain = plain_bind r.entry _ entry-plain (λ x. plain_give _)

entry_here_by-plain : (w : Option Lexeme) → Plain (r.entry_here_by w)
entry_here_by-plain (Some (lex.Sign Colon)) = an_entry-plain
entry_here_by-plain w = plain_cond (words.is_literal w) r.an_entry (give None) an_entry-plain (plain_give None)

entry_here-plain : Plain r.entry_here
unfolding r.entry_here
entry_here-plain = plain_choice r.entry_here_by entry_here_by-plain

semi_entry_by-plain : (w : Option Lexeme) → Plain (r.semi_entry_by w)
semi_entry_by-plain (Some (lex.Sign Semi)) = plain_bind skip (λ at. r.entry_here) plain_skip (λ at. entry_here-plain)
semi_entry_by-plain w = plain_give None

semi_entry-plain : Plain r.semi_entry
unfolding r.semi_entry
semi_entry-plain = plain_choice r.semi_entry_by semi_entry_by-plain

entries_from-plain : (o : Option AstEntry) → Plain (r.entries_from o)
entries_from-plain None = plain_give []
entries_from-plain (Some x) = plain_items r.semi_entry semi_entry-one semi_entry-plain (x ∷ [])

some_entries-plain : Plain r.some_entries
unfolding r.some_entries
some_entries-plain = plain_bind r.entry_here r.entries_from entry_here-plain entries_from-plain

leaf_by-plain : (w : Option Lexeme) → Plain (r.leaf_by w)
leaf_by-plain (Some (lex.Name n)) = plain_bind words.name _ name-plain (λ x. plain_give _)
leaf_by-plain (Some (lex.Key key.Load)) = plain_bind skip _ plain_skip (λ at. plain_bind words.name _ name-plain (λ x. plain_give _))
leaf_by-plain (Some (lex.Key key.Table)) = plain_bind skip _ plain_skip (λ at. plain_bind r.table_type _ table_type-plain (λ ty. plain_bind (sign OpenBrace) _ (sign-plain OpenBrace) (λ a. plain_bind r.some_entries _ some_entries-plain (λ es. plain_bind (sign CloseBrace) _ (sign-plain CloseBrace) (λ b. plain_give _)))))
leaf_by-plain w = plain_refuse

pub leaf-plain : Plain r.leaf
unfolding r.leaf
leaf-plain = plain_choice r.leaf_by leaf_by-plain

pair-plain : Plain r.pair
unfolding r.pair
pair-plain = plain_bind words.name _ name-plain (λ x. plain_bind (words.keyword key.To) _ (keyword-plain key.To) (λ at. plain_bind words.name _ name-plain (λ y. plain_give _)))

pub pairs-plain : Plain r.pairs
unfolding r.pairs r.comma_pair
pairs-plain = commas-plain r.pair pair-plain comma_pair-one

some_order_by-plain : (w : Option Lexeme) → Plain (r.some_order_by w)
some_order_by-plain (Some (lex.Key key.By)) = plain_bind skip _ plain_skip (λ at. plain_bind r.some_names _ some_names-plain (λ ns. plain_give _))
some_order_by-plain w = plain_give None

pub some_order-plain : Plain r.some_order
unfolding r.some_order
some_order-plain = plain_choice r.some_order_by some_order_by-plain
