-- Each rule is a reader, and what takes a word.
use Rattle.std.proofs.Common.{◌≡◌, ℕ, ◌<◌, [], ◌∷◌, length, Option, Some, None, Bool, true, false, cond}
use Rattle.lara_syntax.specs.declared.item.Lexeme.{Lexeme}
use Rattle.lara_syntax.specs.declared.item.Lexeme.TheVariants as lex
use Rattle.lara_syntax.specs.declared.item.Keyword.{Keyword}
use Rattle.lara_syntax.specs.declared.item.Keyword.TheVariants as key
use Rattle.lara_syntax.specs.declared.item.Sign.{Sign}
use Rattle.lara_syntax.specs.declared.item.Sign.TheVariants.{Semi, Comma, Colon, OpenBracket, CloseBracket, OpenBrace, CloseBrace}
use Rattle.lara_data.specs.declared.refusal.Kind.TheVariants.{Unexpected}
use Rattle.lara_syntax.specs.declared.ast.AstEntry.{AstEntry}
use Rattle.lara_syntax.specs.Steps.{Items, Reader, give, peek, items_from, head_word}
use Rattle.lara_syntax.specs.Reading.{comma_name, some_names, some_names_by, key_col, comma_key_col, some_key_cols, some_key_cols_by, val_col, comma_val_col, val_cols, table_type, comma_lit, lits, some_lits, some_lits_by, entry, an_entry, entry_here, entry_here_by, semi_entry, semi_entry_by, entries_from, some_entries, leaf, leaf_by, pair, comma_pair, pairs}
use Rattle.lara_syntax.specs.WordReading.{sign, sign_by, keyword, keyword_by, name, name_by, key_type, key_type_by, val_type, val_type_by, word_key_type, word_val_type, next_as, taken_as, without_place, literal_of, is_literal, lit, lit_at, lit_by, comma_by, comma_then}
use Rattle.lara_syntax.proofs.Turns.{TakesOne, read_of, none_some}
use Rattle.lara_syntax.proofs.Readers.{IsReader, reads_bind, reads_give, reads_refuse, reads_peek, reads_skip, reads_items, skip_shortens}

-- ---- one word

pub reads_cond : {A : Type 0} (b : Bool) (p q : Reader A) → IsReader p → IsReader q → IsReader (cond b p q)
reads_cond true p q ip iq = ip
reads_cond false p q ip iq = iq

sign_by-reads : (m : Sign) (w : Option Lexeme) → IsReader (sign_by m w)
sign_by-reads m (Some (lex.Sign k)) = reads_cond _ _ _ reads_skip (reads_refuse Unexpected)
sign_by-reads m w = reads_refuse Unexpected

pub sign-reads : (m : Sign) → IsReader (sign m)
unfolding sign
sign-reads m = reads_bind peek (sign_by m) reads_peek (sign_by-reads m)

keyword_by-reads : (k : Keyword) (w : Option Lexeme) → IsReader (keyword_by k w)
keyword_by-reads k (Some (lex.Key j)) = reads_cond _ _ _ reads_skip (reads_refuse Unexpected)
keyword_by-reads k w = reads_refuse Unexpected

pub keyword-reads : (k : Keyword) → IsReader (keyword k)
unfolding keyword
keyword-reads k = reads_bind peek (keyword_by k) reads_peek (keyword_by-reads k)

name_by-reads : (w : Option Lexeme) → IsReader (name_by w)
name_by-reads (Some (lex.Name n)) = reads_bind _ _ reads_skip (λ at. reads_give _)
name_by-reads w = reads_refuse Unexpected

pub name-reads : IsReader name
unfolding name
name-reads = reads_bind peek name_by reads_peek name_by-reads

taken_as-reads : {A B : Type 0} (make : ℕ → A → B) (x : Option A) → IsReader (taken_as make x)
taken_as-reads make (Some x) = reads_bind _ _ reads_skip (λ at. reads_give _)
taken_as-reads make None = reads_refuse Unexpected

pub key_type-reads : IsReader key_type
unfolding key_type
key_type-reads = reads_bind peek key_type_by reads_peek (λ w. taken_as-reads without_place (next_as word_key_type w))

pub val_type-reads : IsReader val_type
unfolding val_type
val_type-reads = reads_bind peek val_type_by reads_peek (λ w. taken_as-reads without_place (next_as word_val_type w))

pub lit-reads : IsReader lit
unfolding lit
lit-reads = reads_bind peek lit_by reads_peek (λ w. taken_as-reads lit_at (next_as literal_of w))

-- ---- lists

comma_by-reads : {A : Type 0} (p : Reader A) → IsReader p → (w : Option Lexeme) → IsReader (comma_by p w)
comma_by-reads p ip (Some (lex.Sign Comma)) = reads_bind _ _ reads_skip (λ at. reads_bind p _ ip (λ x. reads_give _))
comma_by-reads p ip w = reads_give None

pub comma-reads : {A : Type 0} (p : Reader A) → IsReader p → IsReader (comma_then p)
comma-reads p ip = reads_bind peek (comma_by p) reads_peek (comma_by-reads p ip)

comma_by-one : {A : Type 0} (p : Reader A) → IsReader p → (w : Option Lexeme) (ts : Items) (x : A) (u : Items) → comma_by p w ts ≡ read_of (Some x) u → length u < length ts
comma_by-one p ip (Some (lex.Sign Comma)) ts x u e = skip_shortens _ (λ at. reads_bind p _ ip (λ x. reads_give _)) ts (Some x) u e
comma_by-one p ip w ts x u e = absurd (none_some ts u x e)

pub comma-one : {A : Type 0} (p : Reader A) → IsReader p → TakesOne (comma_then p)
comma-one p ip = record { shorter = λ ts x u e. comma_by-one p ip (head_word ts) ts x u e }

-- ---- names

pub comma_name-reads : IsReader comma_name
unfolding comma_name
comma_name-reads = comma-reads name name-reads

pub comma_name-one : TakesOne comma_name
unfolding comma_name
comma_name-one = comma-one name name-reads

some_names_by-reads : (w : Option Lexeme) → IsReader (some_names_by w)
some_names_by-reads (Some (lex.Name n)) = reads_bind name (λ x. items_from comma_name (x ∷ [])) name-reads (λ x. reads_items comma_name comma_name-one comma_name-reads (x ∷ []))
some_names_by-reads w = reads_give []

pub some_names-reads : IsReader some_names
unfolding some_names
some_names-reads = reads_bind peek some_names_by reads_peek some_names_by-reads

-- ---- columns

pub key_col-reads : IsReader key_col
unfolding key_col
key_col-reads = reads_bind _ _ name-reads (λ x. reads_bind _ _ (sign-reads Colon) (λ at. reads_bind _ _ key_type-reads (λ t. reads_give _)))

pub comma_key_col-reads : IsReader comma_key_col
unfolding comma_key_col
comma_key_col-reads = comma-reads key_col key_col-reads

pub comma_key_col-one : TakesOne comma_key_col
unfolding comma_key_col
comma_key_col-one = comma-one key_col key_col-reads

some_key_cols_by-reads : (w : Option Lexeme) → IsReader (some_key_cols_by w)
some_key_cols_by-reads (Some (lex.Name n)) = reads_bind key_col (λ x. items_from comma_key_col (x ∷ [])) key_col-reads (λ x. reads_items comma_key_col comma_key_col-one comma_key_col-reads (x ∷ []))
some_key_cols_by-reads w = reads_give []

pub some_key_cols-reads : IsReader some_key_cols
unfolding some_key_cols
some_key_cols-reads = reads_bind peek some_key_cols_by reads_peek some_key_cols_by-reads

pub val_col-reads : IsReader val_col
unfolding val_col
val_col-reads = reads_bind _ _ name-reads (λ x. reads_bind _ _ (sign-reads Colon) (λ at. reads_bind _ _ val_type-reads (λ t. reads_give _)))

pub comma_val_col-reads : IsReader comma_val_col
unfolding comma_val_col
comma_val_col-reads = comma-reads val_col val_col-reads

pub comma_val_col-one : TakesOne comma_val_col
unfolding comma_val_col
comma_val_col-one = comma-one val_col val_col-reads

pub val_cols-reads : IsReader val_cols
unfolding val_cols
val_cols-reads = reads_bind val_col (λ x. items_from comma_val_col (x ∷ [])) val_col-reads (λ x. reads_items comma_val_col comma_val_col-one comma_val_col-reads (x ∷ []))

pub table_type-reads : IsReader table_type
unfolding table_type
table_type-reads = reads_bind _ _ (sign-reads OpenBracket) (λ at. reads_bind _ _ some_key_cols-reads (λ ks. reads_bind _ _ (sign-reads Colon) (λ mid. reads_bind _ _ val_cols-reads (λ vs. reads_bind _ _ (sign-reads CloseBracket) (λ end. reads_give _)))))

-- ---- entries

pub comma_lit-reads : IsReader comma_lit
unfolding comma_lit
comma_lit-reads = comma-reads lit lit-reads

pub comma_lit-one : TakesOne comma_lit
unfolding comma_lit
comma_lit-one = comma-one lit lit-reads

pub lits-reads : IsReader lits
unfolding lits
lits-reads = reads_bind lit (λ x. items_from comma_lit (x ∷ [])) lit-reads (λ x. reads_items comma_lit comma_lit-one comma_lit-reads (x ∷ []))

some_lits_by-reads : (w : Option Lexeme) → IsReader (some_lits_by w)
some_lits_by-reads w = reads_cond (is_literal w) lits (give []) lits-reads (reads_give [])

pub some_lits-reads : IsReader some_lits
unfolding some_lits
some_lits-reads = reads_bind peek some_lits_by reads_peek some_lits_by-reads

pub entry-reads : IsReader entry
unfolding entry
entry-reads = reads_bind _ _ some_lits-reads (λ ks. reads_bind _ _ (sign-reads Colon) (λ at. reads_bind _ _ lits-reads (λ row. reads_give _)))

pub an_entry-reads : IsReader an_entry
an_entry-reads = reads_bind _ _ entry-reads (λ x. reads_give _)

entry_here_by-reads : (w : Option Lexeme) → IsReader (entry_here_by w)
entry_here_by-reads (Some (lex.Sign Colon)) = an_entry-reads
entry_here_by-reads w = reads_cond (is_literal w) an_entry (give None) an_entry-reads (reads_give None)

pub entry_here-reads : IsReader entry_here
unfolding entry_here
entry_here-reads = reads_bind peek entry_here_by reads_peek entry_here_by-reads

semi_entry_by-reads : (w : Option Lexeme) → IsReader (semi_entry_by w)
semi_entry_by-reads (Some (lex.Sign Semi)) = reads_bind _ _ reads_skip (λ at. entry_here-reads)
semi_entry_by-reads w = reads_give None

pub semi_entry-reads : IsReader semi_entry
unfolding semi_entry
semi_entry-reads = reads_bind peek semi_entry_by reads_peek semi_entry_by-reads

semi_entry_by-one : (w : Option Lexeme) (ts : Items) (x : AstEntry) (u : Items) → semi_entry_by w ts ≡ read_of (Some x) u → length u < length ts
semi_entry_by-one (Some (lex.Sign Semi)) ts x u e = skip_shortens _ (λ at. entry_here-reads) ts (Some x) u e
semi_entry_by-one w ts x u e = absurd (none_some ts u x e)

pub semi_entry-one : TakesOne semi_entry
unfolding semi_entry
semi_entry-one = record { shorter = λ ts x u e. semi_entry_by-one (head_word ts) ts x u e }

pub entries_from-reads : (o : Option AstEntry) → IsReader (entries_from o)
entries_from-reads None = reads_give []
entries_from-reads (Some x) = reads_items semi_entry semi_entry-one semi_entry-reads (x ∷ [])

pub some_entries-reads : IsReader some_entries
unfolding some_entries
some_entries-reads = reads_bind entry_here entries_from entry_here-reads entries_from-reads

-- ---- pairs

pub pair-reads : IsReader pair
unfolding pair
pair-reads = reads_bind _ _ name-reads (λ x. reads_bind _ _ (keyword-reads key.To) (λ at. reads_bind _ _ name-reads (λ y. reads_give _)))

pub comma_pair-reads : IsReader comma_pair
unfolding comma_pair
comma_pair-reads = comma-reads pair pair-reads

pub comma_pair-one : TakesOne comma_pair
unfolding comma_pair
comma_pair-one = comma-one pair pair-reads

pub pairs-reads : IsReader pairs
unfolding pairs
pairs-reads = reads_bind pair (λ x. items_from comma_pair (x ∷ [])) pair-reads (λ x. reads_items comma_pair comma_pair-one comma_pair-reads (x ∷ []))

pub ruleset short_laws = (comma_name-one, comma_key_col-one, comma_val_col-one, comma_lit-one, semi_entry-one, comma_pair-one)

-- ---- tables

leaf_by-reads : (w : Option Lexeme) → IsReader (leaf_by w)
leaf_by-reads (Some (lex.Name n)) = reads_bind _ _ name-reads (λ x. reads_give _)
leaf_by-reads (Some (lex.Key key.Load)) = reads_bind _ _ reads_skip (λ at. reads_bind _ _ name-reads (λ x. reads_give _))
leaf_by-reads (Some (lex.Key key.Table)) = reads_bind _ _ reads_skip (λ at. reads_bind _ _ table_type-reads (λ ty. reads_bind _ _ (sign-reads OpenBrace) (λ from. reads_bind _ _ some_entries-reads (λ es. reads_bind _ _ (sign-reads CloseBrace) (λ end. reads_give _)))))
leaf_by-reads w = reads_refuse Unexpected

pub leaf-reads : IsReader leaf
unfolding leaf
leaf-reads = reads_bind peek leaf_by reads_peek leaf_by-reads
