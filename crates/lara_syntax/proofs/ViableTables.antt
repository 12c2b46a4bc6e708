-- What stands before a refused word can go on: names, columns, entries and leaves.
use Rattle.std.proofs.Common.{◌≡◌, ◌<◌, ℕ, Bool, true, false, cond, List, [], ◌∷◌, length, Option, Some, None, refl, sym, ap, subst, arith}
use Rattle.lara_syntax.specs.declared.item.Lexeme.{Lexeme}
use Rattle.lara_syntax.specs.declared.item.Lexeme.TheVariants as lex
use Rattle.lara_syntax.specs.declared.item.Keyword.TheVariants as key
use Rattle.lara_syntax.specs.declared.item.Sign.{Sign}
use Rattle.lara_syntax.specs.declared.item.Sign.TheVariants.{Semi, Colon, OpenBracket, CloseBracket, OpenBrace, CloseBrace}
use Rattle.lara_data.specs.declared.refusal.Kind.TheVariants.{Unexpected}
use Rattle.lara_syntax.specs.declared.ast.AstName.{AstName}
use Rattle.lara_syntax.specs.declared.ast.AstKeyCol.{AstKeyCol}
use Rattle.lara_syntax.specs.declared.ast.AstLit.{AstLit}
use Rattle.lara_syntax.specs.declared.ast.AstEntry.{AstEntry}
use Rattle.lara_syntax.specs.declared.ast.AstNode.{AstNode}
use Rattle.lara_syntax.specs.declared.ast.AstOp.TheVariants as op
use Rattle.lara_syntax.specs.Steps.{Items, Reader, ◌>>=◌, give, skip, items_from, head_word}
use Rattle.lara_syntax.specs.Reading as r
use Rattle.lara_syntax.specs.WordReading as words
use Rattle.lara_syntax.specs.Places.{node}
use Rattle.lara_syntax.specs.WordReading.{sign}
use Rattle.lara_syntax.proofs.Turns.{TakesOne, read_of, rest_is, none_some}
use Rattle.lara_syntax.proofs.Readers.{IsReader, reads_bind, reads_give, reads_items, skip_shortens}
use Rattle.lara_syntax.proofs.RuleReaders.{sign-reads, name-reads, keyword-reads, pair-reads, key_type-reads, val_type-reads, lit-reads, comma-reads, comma-one, key_col-reads, some_key_cols-reads, val_col-reads, val_cols-reads, table_type-reads, lits-reads, some_lits-reads, entry-reads, entry_here-reads, semi_entry-reads, semi_entry-one, entries_from-reads, some_entries-reads}
use Rattle.lara_syntax.proofs.Complete.{NoComma, AfterNames, no_names_by, names_comma}
use Rattle.lara_syntax.proofs.Viable.{IsViable, IsCase, Starts, case_viable, case_refuse, viable_bind, viable_give, viable_choice}
use Rattle.lara_syntax.proofs.ViableLoop.{IsItem, loop_starts, viable_list, keeps_viable, keeps_none, keeps_choice, viable_item}
use Rattle.lara_syntax.proofs.ViableTurns.{Keeps}
use Rattle.lara_syntax.proofs.ViableWords.{name_spelled, a_name, any, next_is, token, keyword_viable, viable_behind, Takes, quiet_takes, refuse_takes, sign_takes, sign_viable, sign_starts, name_takes, name_viable, key_type_viable, val_type_viable, lit_takes, case_cond, keeps_cond, lit_viable, first_takes, second_takes, commas_viable, quiet_list, no_list, empty_list}

-- ---- names

pub some_names_cases : (w : Option Lexeme) → IsCase AfterNames (r.some_names_by w)
unfolding r.comma_name
some_names_cases (Some (lex.Name n)) = case_viable AfterNames _ (commas_viable AfterNames names_comma words.name name-reads (name_viable any))
some_names_cases w = case_viable AfterNames (give []) (viable_give AfterNames [])

pub some_names_empty : (w : Option Lexeme) (u : Items) (xs : List AstName) → r.some_names_by w u ≡ read_of xs u → xs ≡ []
unfolding r.comma_name
some_names_empty (Some (lex.Name n)) u xs e = no_list (words.name >>= λ x. items_from (words.comma_then words.name) (x ∷ [])) (first_takes words.name _ name_takes (λ x. reads_items (words.comma_then words.name) (comma-one words.name name-reads) (comma-reads words.name name-reads) (x ∷ []))) u xs e
some_names_empty w u xs e = empty_list u xs e

pub some_names_viable : IsViable AfterNames r.some_names
unfolding r.some_names
some_names_viable = viable_choice AfterNames r.some_names_by some_names_cases (quiet_list AfterNames r.some_names_by (λ u xs e. some_names_empty (head_word u) u xs e) (λ v after. no_names_by (head_word v) v after)) [] tt [] (λ v after. no_names_by (head_word v) v after)

-- ---- pairs

pair_viable : (F : Option Lexeme → Type 0) → IsViable F r.pair
unfolding r.pair
pair_viable F =
    viable_bind F any words.name _ name-reads (λ x. reads_bind _ _ (keyword-reads key.To) (λ at. reads_bind _ _ name-reads (λ y. reads_give _))) (name_viable any)
    (λ x. viable_bind F any (words.keyword key.To) _ (keyword-reads key.To) (λ at. reads_bind _ _ name-reads (λ y. reads_give _)) (keyword_viable any key.To)
    (λ at. viable_bind F any words.name _ name-reads (λ y. reads_give _) (name_viable any) (λ y. viable_give F _) (λ y ts z v e a. tt)) (λ at ts y v e a. tt)) (λ x ts y v e a. tt)

pub pairs_viable : (F : Option Lexeme → Type 0) → ((w : Option Lexeme) → F w → NoComma w) → IsViable F r.pairs
unfolding r.pairs r.comma_pair
pairs_viable F not_comma = commas_viable F not_comma r.pair pair-reads (pair_viable any)

-- ---- columns

pub key_col_viable : (F : Option Lexeme → Type 0) → IsViable F r.key_col
unfolding r.key_col
key_col_viable F =
    viable_bind F any words.name _ name-reads (λ x. reads_bind _ _ (sign-reads Colon) (λ at. reads_bind _ _ key_type-reads (λ t. reads_give _))) (name_viable any)
    (λ x. viable_bind F any (sign Colon) _ (sign-reads Colon) (λ at. reads_bind _ _ key_type-reads (λ t. reads_give _)) (sign_viable any Colon)
    (λ at. viable_bind F any words.key_type _ key_type-reads (λ t. reads_give _) (key_type_viable any) (λ t. viable_give F _) (λ t ts y v e a. tt)) (λ at ts y v e a. tt)) (λ x ts y v e a. tt)

pub val_col_viable : (F : Option Lexeme → Type 0) → IsViable F r.val_col
unfolding r.val_col
val_col_viable F =
    viable_bind F any words.name _ name-reads (λ x. reads_bind _ _ (sign-reads Colon) (λ at. reads_bind _ _ val_type-reads (λ t. reads_give _))) (name_viable any)
    (λ x. viable_bind F any (sign Colon) _ (sign-reads Colon) (λ at. reads_bind _ _ val_type-reads (λ t. reads_give _)) (sign_viable any Colon)
    (λ at. viable_bind F any words.val_type _ val_type-reads (λ t. reads_give _) (val_type_viable any) (λ t. viable_give F _) (λ t ts y v e a. tt)) (λ at ts y v e a. tt)) (λ x ts y v e a. tt)

pub next_no : (m : Sign) → NoComma (Some (lex.Sign m)) → (w : Option Lexeme) → next_is m w → NoComma w
next_no m not_comma w e = subst NoComma (sym e) not_comma

pub key_col_takes : Takes r.key_col
unfolding r.key_col
key_col_takes = first_takes words.name _ name_takes (λ x. reads_bind _ _ (sign-reads Colon) (λ at. reads_bind _ _ key_type-reads (λ t. reads_give _)))

pub some_key_cols_cases : (w : Option Lexeme) → IsCase (next_is Colon) (r.some_key_cols_by w)
unfolding r.comma_key_col
some_key_cols_cases (Some (lex.Name n)) = case_viable (next_is Colon) _ (commas_viable (next_is Colon) (next_no Colon tt) r.key_col key_col-reads (key_col_viable any))
some_key_cols_cases w = case_viable (next_is Colon) (give []) (viable_give (next_is Colon) [])

pub some_key_cols_empty : (w : Option Lexeme) (u : Items) (xs : List AstKeyCol) → r.some_key_cols_by w u ≡ read_of xs u → xs ≡ []
unfolding r.comma_key_col
some_key_cols_empty (Some (lex.Name n)) u xs e = no_list (r.key_col >>= λ x. items_from (words.comma_then r.key_col) (x ∷ [])) (first_takes r.key_col _ key_col_takes (λ x. reads_items (words.comma_then r.key_col) (comma-one r.key_col key_col-reads) (comma-reads r.key_col key_col-reads) (x ∷ []))) u xs e
some_key_cols_empty w u xs e = empty_list u xs e

pub no_key_cols : (v : Items) → next_is Colon (head_word v) → r.some_key_cols_by (head_word v) v ≡ read_of [] v
no_key_cols v after = ap (λ (w : Option Lexeme). r.some_key_cols_by w v) after

pub some_key_cols_viable : IsViable (next_is Colon) r.some_key_cols
unfolding r.some_key_cols
some_key_cols_viable = viable_choice (next_is Colon) r.some_key_cols_by some_key_cols_cases (quiet_list (next_is Colon) r.some_key_cols_by (λ u xs e. some_key_cols_empty (head_word u) u xs e) no_key_cols) [] tt [] no_key_cols

pub val_cols_viable : IsViable (next_is CloseBracket) r.val_cols
unfolding r.val_cols r.comma_val_col
val_cols_viable = commas_viable (next_is CloseBracket) (next_no CloseBracket tt) r.val_col val_col-reads (val_col_viable any)

pub table_type_viable : (F : Option Lexeme → Type 0) → IsViable F r.table_type
unfolding r.table_type
table_type_viable F =
    viable_bind F any (sign OpenBracket) _ (sign-reads OpenBracket) (λ a. reads_bind _ _ some_key_cols-reads (λ ks. reads_bind _ _ (sign-reads Colon) (λ b. reads_bind _ _ val_cols-reads (λ vs. reads_bind _ _ (sign-reads CloseBracket) (λ c. reads_give _))))) (sign_viable any OpenBracket)
    (λ a. viable_bind F (next_is Colon) r.some_key_cols _ some_key_cols-reads (λ ks. reads_bind _ _ (sign-reads Colon) (λ b. reads_bind _ _ val_cols-reads (λ vs. reads_bind _ _ (sign-reads CloseBracket) (λ c. reads_give _)))) some_key_cols_viable
    (λ ks. viable_bind F any (sign Colon) _ (sign-reads Colon) (λ b. reads_bind _ _ val_cols-reads (λ vs. reads_bind _ _ (sign-reads CloseBracket) (λ c. reads_give _))) (sign_viable any Colon)
    (λ b. viable_bind F (next_is CloseBracket) r.val_cols _ val_cols-reads (λ vs. reads_bind _ _ (sign-reads CloseBracket) (λ c. reads_give _)) val_cols_viable
    (λ vs. viable_bind F any (sign CloseBracket) _ (sign-reads CloseBracket) (λ c. reads_give _) (sign_viable any CloseBracket) (λ c. viable_give F _) (λ c ts y v e a. tt))
    (λ vs. sign_starts F CloseBracket _)) (λ b ts y v e a. tt)) (λ ks. sign_starts F Colon _)) (λ from ts y v e a. tt)

-- ---- entries

pub lits_viable : (F : Option Lexeme → Type 0) → ((w : Option Lexeme) → F w → NoComma w) → IsViable F r.lits
unfolding r.lits r.comma_lit
lits_viable F not_comma = commas_viable F not_comma words.lit lit-reads (lit_viable any)

pub lits_takes : Takes r.lits
unfolding r.lits r.comma_lit
lits_takes = first_takes words.lit _ lit_takes (λ x. reads_items (words.comma_then words.lit) (comma-one words.lit lit-reads) (comma-reads words.lit lit-reads) (x ∷ []))

pub some_lits_cases : (w : Option Lexeme) → IsCase (next_is Colon) (r.some_lits_by w)
some_lits_cases w = case_cond (next_is Colon) (words.is_literal w) r.lits (give []) (case_viable (next_is Colon) _ (lits_viable (next_is Colon) (next_no Colon tt))) (case_viable (next_is Colon) (give []) (viable_give (next_is Colon) []))

pub some_lits_empty : (here : Bool) (u : Items) (xs : List AstLit) → cond here r.lits (give []) u ≡ read_of xs u → xs ≡ []
some_lits_empty true u xs e = no_list r.lits lits_takes u xs e
some_lits_empty false u xs e = empty_list u xs e

pub no_lits : (v : Items) → next_is Colon (head_word v) → r.some_lits_by (head_word v) v ≡ read_of [] v
no_lits v after = ap (λ (w : Option Lexeme). r.some_lits_by w v) after

pub some_lits_viable : IsViable (next_is Colon) r.some_lits
unfolding r.some_lits
some_lits_viable = viable_choice (next_is Colon) r.some_lits_by some_lits_cases (quiet_list (next_is Colon) r.some_lits_by (λ u xs e. some_lits_empty (words.is_literal (head_word u)) u xs e) no_lits) [] tt [] no_lits

pub entry_viable : (F : Option Lexeme → Type 0) → ((w : Option Lexeme) → F w → NoComma w) → IsViable F r.entry
unfolding r.entry
entry_viable F not_comma =
    viable_bind F (next_is Colon) r.some_lits _ some_lits-reads (λ ks. reads_bind _ _ (sign-reads Colon) (λ at. reads_bind _ _ lits-reads (λ row. reads_give _))) some_lits_viable
    (λ ks. viable_bind F any (sign Colon) _ (sign-reads Colon) (λ at. reads_bind _ _ lits-reads (λ row. reads_give _)) (sign_viable any Colon)
    (λ at. viable_bind F F r.lits _ lits-reads (λ row. reads_give _) (lits_viable F not_comma) (λ row. viable_give F _) (λ row ts y v e a. subst (λ q. F (head_word q)) (sym (rest_is _ ts y v e)) a)) (λ at ts y v e a. tt)) (λ ks. sign_starts F Colon _)

-- what may follow an entry
abbrev pub AfterEntry : Option Lexeme → Type 0
AfterEntry (Some (lex.Sign Semi)) = Unit {0}
AfterEntry (Some (lex.Sign CloseBrace)) = Unit {0}
AfterEntry w = ⊥

pub entry_no : (w : Option Lexeme) → AfterEntry w → NoComma w
entry_no (Some (lex.Sign Semi)) a = tt
entry_no (Some (lex.Sign CloseBrace)) a = tt
entry_no w a = absurd a

pub close_after : (w : Option Lexeme) → next_is CloseBrace w → AfterEntry w
close_after w e = subst AfterEntry (sym e) tt

-- no entry begins there
pub no_entry_by : (w : Option Lexeme) (ts : Items) → AfterEntry w → r.entry_here_by w ts ≡ read_of None ts
no_entry_by (Some (lex.Sign Semi)) ts a = refl
no_entry_by (Some (lex.Sign CloseBrace)) ts a = refl
no_entry_by w ts a = absurd a

pub an_entry_viable : (F : Option Lexeme → Type 0) → ((w : Option Lexeme) → F w → NoComma w) → IsViable F r.an_entry
an_entry_viable F not_comma = viable_bind F F r.entry (λ x. give (Some x)) entry-reads (λ x. reads_give _) (entry_viable F not_comma) (λ x. viable_give F _) (λ x ts y v e a. subst (λ q. F (head_word q)) (sym (rest_is _ ts y v e)) a)

pub entry_here_cases : (F : Option Lexeme → Type 0) → ((w : Option Lexeme) → F w → NoComma w) → (w : Option Lexeme) → IsCase F (r.entry_here_by w)
entry_here_cases F not_comma (Some (lex.Sign Colon)) = case_viable F _ (an_entry_viable F not_comma)
entry_here_cases F not_comma w = case_cond F (words.is_literal w) r.an_entry (give None) (case_viable F _ (an_entry_viable F not_comma)) (case_viable F (give None) (viable_give F None))

pub an_entry_takes : Takes r.an_entry
unfolding r.entry
an_entry_takes = first_takes r.entry (λ x. give (Some x)) (second_takes r.some_lits _ some_lits-reads (λ ks. first_takes (sign Colon) _ (sign_takes Colon) (λ at. reads_bind _ _ lits-reads (λ row. reads_give _)))) (λ x. reads_give _)

pub entry_at_one : (here : Bool) (ts : Items) (x : AstEntry) (u : Items) → cond here r.an_entry (give None) ts ≡ read_of (Some x) u → length u < length ts
entry_at_one true ts x u e = an_entry_takes ts (Some x) u e
entry_at_one false ts x u e = absurd (none_some ts u x e)

pub entry_here_by_one : (w : Option Lexeme) (ts : Items) (x : AstEntry) (u : Items) → r.entry_here_by w ts ≡ read_of (Some x) u → length u < length ts
entry_here_by_one (Some (lex.Sign Colon)) ts x u e = an_entry_takes ts (Some x) u e
entry_here_by_one w ts x u e = entry_at_one (words.is_literal w) ts x u e

pub entry_here-one : TakesOne r.entry_here
unfolding r.entry_here
entry_here-one = record { shorter = λ ts x u e. entry_here_by_one (head_word ts) ts x u e }

pub entry_here_viable : (F : Option Lexeme → Type 0) → ((w : Option Lexeme) → F w → AfterEntry w) → IsViable F r.entry_here
unfolding r.entry_here
entry_here_viable F sub = viable_item F r.entry_here_by entry_here-one (λ v after. no_entry_by (head_word v) v (sub (head_word v) after)) (entry_here_cases F (λ w a. entry_no w (sub w a)))

pub entry_here_keeps_by : (w : Option Lexeme) → Keeps AfterEntry (r.entry_here_by w)
entry_here_keeps_by (Some (lex.Sign Colon)) = keeps_viable AfterEntry _ (an_entry_viable AfterEntry entry_no)
entry_here_keeps_by w = keeps_cond AfterEntry (words.is_literal w) r.an_entry (give None) (keeps_viable AfterEntry _ (an_entry_viable AfterEntry entry_no)) (keeps_none AfterEntry)

pub entry_here_keeps : Keeps AfterEntry r.entry_here
unfolding r.entry_here
entry_here_keeps = keeps_choice AfterEntry r.entry_here_by entry_here-one entry_here_keeps_by

pub semi_behind_keeps : Keeps AfterEntry (skip >>= λ at. r.entry_here)
semi_behind_keeps [] u v x e after = absurd (omega (arith, skip_shortens (λ at. r.entry_here) (λ at. entry_here-reads) u (Some x) u e))
semi_behind_keeps (t ∷ before) u v x e after = entry_here_keeps before u v x e after

pub semi_keeps_by : (w : Option Lexeme) → Keeps AfterEntry (r.semi_entry_by w)
semi_keeps_by (Some (lex.Sign Semi)) = semi_behind_keeps
semi_keeps_by w = keeps_none AfterEntry

pub semi_cases : (w : Option Lexeme) → IsCase (next_is CloseBrace) (r.semi_entry_by w)
semi_cases (Some (lex.Sign Semi)) = case_viable (next_is CloseBrace) _ (viable_behind (next_is CloseBrace) (λ at. r.entry_here) (λ at. entry_here-reads) (λ at. entry_here_viable (next_is CloseBrace) close_after))
semi_cases w = case_viable (next_is CloseBrace) (give None) (viable_give (next_is CloseBrace) None)

pub no_semi_entry : (v : Items) → next_is CloseBrace (head_word v) → r.semi_entry v ≡ read_of None v
unfolding r.semi_entry
no_semi_entry v after = ap (λ (w : Option Lexeme). r.semi_entry_by w v) after

-- none was read: a `;` was taken, or nothing
pub semi_rests_by : (w : Option Lexeme) (ts u : Items) → r.semi_entry_by w ts ≡ read_of None u → next_is CloseBrace (head_word u) → head_word ts ≡ w → AfterEntry w
semi_rests_by (Some (lex.Sign Semi)) ts u e after h = tt
semi_rests_by w ts u e after h = subst AfterEntry h (subst (λ q. AfterEntry (head_word q)) (sym (rest_is {A = Option AstEntry} None ts None u e)) (close_after (head_word u) after))

pub semi_begins_by : (w : Option Lexeme) (ts : Items) (x : AstEntry) (u : Items) → r.semi_entry_by w ts ≡ read_of (Some x) u → AfterEntry w
semi_begins_by (Some (lex.Sign Semi)) ts x u e = tt
semi_begins_by w ts x u e = absurd (none_some ts u x e)

pub semi_item : IsItem (next_is CloseBrace) AfterEntry (λ (ys : List AstEntry). r.semi_entry)
unfolding r.semi_entry
semi_item = record {
  one = λ ys. semi_entry-one;
  reader = λ ys. semi_entry-reads;
  ends = λ ys v after. no_semi_entry v after;
  rests = λ ys ts u e after. semi_rests_by (head_word ts) ts u e after refl;
  begins = λ ys ts x u e. semi_begins_by (head_word ts) ts x u e;
  keeps = λ ys. keeps_choice AfterEntry r.semi_entry_by semi_entry-one semi_keeps_by;
  viable = λ ys. viable_item (next_is CloseBrace) r.semi_entry_by semi_entry-one no_semi_entry semi_cases;
}

pub entries_from_viable : (o : Option AstEntry) → IsViable (next_is CloseBrace) (r.entries_from o)
entries_from_viable None = viable_give (next_is CloseBrace) []
entries_from_viable (Some x) = viable_list (next_is CloseBrace) AfterEntry (λ ys. r.semi_entry) semi_item (x ∷ [])

pub entries_from_starts : (o : Option AstEntry) → Starts (next_is CloseBrace) AfterEntry (r.entries_from o)
entries_from_starts None ts y v e after = close_after (head_word ts) (subst (λ q. next_is CloseBrace (head_word q)) (sym (rest_is {A = List AstEntry} [] ts y v e)) after)
entries_from_starts (Some x) ts y v e after = loop_starts (next_is CloseBrace) AfterEntry (λ ys. r.semi_entry) semi_item (x ∷ []) y ts v e after

pub some_entries_viable : IsViable (next_is CloseBrace) r.some_entries
unfolding r.some_entries
some_entries_viable = viable_bind (next_is CloseBrace) AfterEntry r.entry_here r.entries_from entry_here-reads entries_from-reads (entry_here_viable AfterEntry (λ w a. a)) entries_from_viable entries_from_starts

-- ---- leaves

abbrev pub load_rest : ℕ → Reader AstNode
load_rest at = words.name >>= λ x. give (node at (op.Load x))

pub load_rest-reads : (at : ℕ) → IsReader (load_rest at)
load_rest-reads at = reads_bind words.name (λ x. give (node at (op.Load x))) name-reads (λ x. reads_give _)

pub load_rest_viable : (F : Option Lexeme → Type 0) (at : ℕ) → IsViable F (load_rest at)
load_rest_viable F at = viable_bind F any words.name (λ x. give (node at (op.Load x))) name-reads (λ x. reads_give _) (name_viable any) (λ x. viable_give F _) (λ x ts y v e a. tt)

-- a literal behind its first word
abbrev pub literal_rest : ℕ → Reader AstNode
literal_rest at = r.table_type >>= λ ty. sign OpenBrace >>= λ from. r.some_entries >>= λ es. sign CloseBrace >>= λ end. give (node at (op.Literal ty es))

pub literal_rest-reads : (at : ℕ) → IsReader (literal_rest at)
literal_rest-reads at = reads_bind _ _ table_type-reads (λ ty. reads_bind _ _ (sign-reads OpenBrace) (λ from. reads_bind _ _ some_entries-reads (λ es. reads_bind _ _ (sign-reads CloseBrace) (λ end. reads_give _))))

pub literal_rest_viable : (F : Option Lexeme → Type 0) (at : ℕ) → IsViable F (literal_rest at)
literal_rest_viable F at =
    viable_bind F any r.table_type _ table_type-reads (λ ty. reads_bind _ _ (sign-reads OpenBrace) (λ from. reads_bind _ _ some_entries-reads (λ es. reads_bind _ _ (sign-reads CloseBrace) (λ end. reads_give _)))) (table_type_viable any)
    (λ ty. viable_bind F any (sign OpenBrace) _ (sign-reads OpenBrace) (λ from. reads_bind _ _ some_entries-reads (λ es. reads_bind _ _ (sign-reads CloseBrace) (λ end. reads_give _))) (sign_viable any OpenBrace)
    (λ from. viable_bind F (next_is CloseBrace) r.some_entries _ some_entries-reads (λ es. reads_bind _ _ (sign-reads CloseBrace) (λ end. reads_give _)) some_entries_viable
    (λ es. viable_bind F any (sign CloseBrace) _ (sign-reads CloseBrace) (λ end. reads_give _) (sign_viable any CloseBrace) (λ end. viable_give F _) (λ end ts y v e a. tt))
    (λ es. sign_starts F CloseBrace _)) (λ from ts y v e a. tt)) (λ ty ts y v e a. tt)

pub leaf_cases : (F : Option Lexeme → Type 0) (w : Option Lexeme) → IsCase F (r.leaf_by w)
leaf_cases F (Some (lex.Name n)) = case_viable F _ (viable_bind F any words.name (λ x. give (node x.at (op.Named x))) name-reads (λ x. reads_give _) (name_viable any) (λ x. viable_give F _) (λ x ts y v e a. tt))
leaf_cases F (Some (lex.Key key.Load)) = case_viable F _ (viable_behind F load_rest load_rest-reads (load_rest_viable F))
leaf_cases F (Some (lex.Key key.Table)) = case_viable F _ (viable_behind F literal_rest literal_rest-reads (literal_rest_viable F))
leaf_cases F w = case_refuse F Unexpected

pub leaf_by_takes : (w : Option Lexeme) → Takes (r.leaf_by w)
leaf_by_takes (Some (lex.Name n)) ts x u e = first_takes words.name (λ y. give (node y.at (op.Named y))) name_takes (λ y. reads_give _) ts x u e
leaf_by_takes (Some (lex.Key key.Load)) ts x u e = skip_shortens load_rest load_rest-reads ts x u e
leaf_by_takes (Some (lex.Key key.Table)) ts x u e = skip_shortens literal_rest literal_rest-reads ts x u e
leaf_by_takes w ts x u e = refuse_takes ts x u e

pub leaf_takes : Takes r.leaf
unfolding r.leaf
leaf_takes ts x u e = leaf_by_takes (head_word ts) ts x u e

-- the shortest of all tables
abbrev pub a_node : AstNode
a_node = node 0 (op.Named (record { name = a_name; at = 0 }))

pub leaf_viable : (F : Option Lexeme → Type 0) → IsViable F r.leaf
unfolding r.leaf words.name
leaf_viable F = viable_choice F r.leaf_by (leaf_cases F) (quiet_takes F r.leaf leaf_takes) (token (lex.Name a_name) ∷ []) (name_spelled, tt) a_node (λ v after. refl)
