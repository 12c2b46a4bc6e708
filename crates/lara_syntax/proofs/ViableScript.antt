-- What stands before a refused word can go on: statements and scripts.
use Rattle.std.proofs.Common.{◌≡◌, ◌<◌, ℕ, [], ◌∷◌, length, Option, Some, None, refl, sym, ap, subst, ◌∙◌, Bool, true, false}
use Rattle.lara_syntax.specs.declared.item.Lexeme.{Lexeme}
use Rattle.lara_syntax.specs.declared.item.Lexeme.TheVariants as lex
use Rattle.lara_syntax.specs.declared.item.Keyword.TheVariants as key
use Rattle.lara_syntax.specs.declared.item.Sign.TheVariants.{Is, Semi}
use Rattle.lara_data.specs.declared.refusal.Kind.TheVariants.{Unexpected}
use Rattle.lara_syntax.specs.declared.ast.AstName.{AstName}
use Rattle.lara_syntax.specs.declared.ast.AstBy.{AstBy}
use Rattle.lara_syntax.specs.declared.ast.AstStatement.{AstStatement}
use Rattle.lara_syntax.specs.declared.ast.AstStatement.TheVariants as st
use Rattle.lara_syntax.specs.Limits.{Limits, none_counted}
use Rattle.lara_syntax.specs.Steps.{Items, Reader, ◌>>=◌, give, head_word}
use Rattle.lara_syntax.specs.Reading as r
use Rattle.lara_syntax.specs.WordReading as words
use Rattle.lara_syntax.specs.WordReading.{sign}
use Rattle.lara_syntax.proofs.Turns.{TakesOne, read_of, rest_is, err_ok, none_some}
use Rattle.lara_syntax.proofs.Readers.{IsReader, reads_bind, reads_give, skip_shortens}
use Rattle.lara_syntax.proofs.RuleReaders.{sign-reads, name-reads, some_names-reads}
use Rattle.lara_syntax.proofs.TableReaders.{table-reads, some_order-reads, statement-reads, statement-one, assign_end, assign_end-reads, assign_rest, assign_rest-reads, print_rest, print_rest-reads, next_statement-one, has_room, next_behind, next_behind-one, next_behind-reads, statements-reads, tree_given, tree_given-reads}
use Rattle.lara_syntax.proofs.Complete.{AfterNames, AfterTable}
use Rattle.lara_syntax.proofs.Viable.{IsViable, IsCase, case_viable, case_refuse, viable_bind, viable_give, viable_choice}
use Rattle.lara_syntax.proofs.ViableLoop.{IsItem, viable_list, keeps_viable, keeps_none, keeps_choice, viable_item}
use Rattle.lara_syntax.proofs.ViableTurns.{Keeps}
use Rattle.lara_syntax.proofs.ViableWords.{key_spelled, any, next_is, at_end, token, viable_behind, quiet_takes, sign_viable, sign_starts, name_viable}
use Rattle.lara_syntax.proofs.ViableTables.{some_names_viable}
use Rattle.lara_syntax.proofs.ViableOperands.{table_viable}

-- ---- statements

-- an order behind its first word
abbrev order_rest : ℕ → Reader (Option AstBy)
order_rest at = r.some_names >>= λ ns. give (Some (record { at = at; names = ns }))

order_rest-reads : (at : ℕ) → IsReader (order_rest at)
order_rest-reads at = reads_bind _ _ some_names-reads (λ ns. reads_give _)

order_rest_viable : (at : ℕ) → IsViable (next_is Semi) (order_rest at)
order_rest_viable at = viable_bind (next_is Semi) AfterNames r.some_names _ some_names-reads (λ ns. reads_give _) some_names_viable (λ ns. viable_give (next_is Semi) _) (λ ns ts y v e a. subst AfterNames (sym (ap head_word (rest_is _ ts y v e) ∙ a)) tt)

some_order_cases : (w : Option Lexeme) → IsCase (next_is Semi) (r.some_order_by w)
some_order_cases (Some (lex.Key key.By)) = case_viable (next_is Semi) _ (viable_behind (next_is Semi) order_rest order_rest-reads order_rest_viable)
some_order_cases w = case_viable (next_is Semi) (give None) (viable_give (next_is Semi) None)

some_order_by-one : (w : Option Lexeme) (ts : Items) (x : AstBy) (u : Items) → r.some_order_by w ts ≡ read_of (Some x) u → length u < length ts
some_order_by-one (Some (lex.Key key.By)) ts x u e = skip_shortens order_rest order_rest-reads ts (Some x) u e
some_order_by-one w ts x u e = absurd (none_some ts u x e)

some_order-one : TakesOne r.some_order
unfolding r.some_order
some_order-one = record { shorter = λ ts x u e. some_order_by-one (head_word ts) ts x u e }

no_order_here : (v : Items) → next_is Semi (head_word v) → r.some_order_by (head_word v) v ≡ read_of None v
no_order_here v after = ap (λ (w : Option Lexeme). r.some_order_by w v) after

some_order_viable : IsViable (next_is Semi) r.some_order
unfolding r.some_order
some_order_viable = viable_item (next_is Semi) r.some_order_by some_order-one no_order_here some_order_cases

pub assign_rest_viable : (F : Option Lexeme → Type 0) (limits : Limits) (x : AstName) → IsViable F (assign_rest limits x)
assign_rest_viable F limits x =
    let table = r.table limits.counted limits.levels none_counted in
    let reads = table-reads limits.counted limits.levels none_counted in
    viable_bind F any (sign Is) (λ is. table >>= assign_end x) (sign-reads Is) (λ is. reads_bind table (assign_end x) reads (assign_end-reads x)) (sign_viable any Is)
    (λ is. viable_bind F AfterTable table (assign_end x) reads (assign_end-reads x) (table_viable limits.counted limits.levels none_counted)
    (λ t. viable_bind F any (sign Semi) (λ end. give (st.Assign x.at x t.0)) (sign-reads Semi) (λ end. reads_give _) (sign_viable any Semi) (λ end. viable_give F _) (λ end ts y v e a. tt))
    (λ t ts y v e a. subst AfterTable (sym (sign_starts F Semi (λ end. give (st.Assign x.at x t.0)) ts y v e a)) tt)) (λ is ts y v e a. tt)

pub print_rest_viable : (F : Option Lexeme → Type 0) (at : ℕ) → IsViable F (print_rest at)
print_rest_viable F at =
    viable_bind F any words.name _ name-reads (λ x. reads_bind _ _ some_order-reads (λ by. reads_bind _ _ (sign-reads Semi) (λ end. reads_give _))) (name_viable any)
    (λ x. viable_bind F (next_is Semi) r.some_order _ some_order-reads (λ by. reads_bind _ _ (sign-reads Semi) (λ end. reads_give _)) some_order_viable
    (λ by. viable_bind F any (sign Semi) _ (sign-reads Semi) (λ end. reads_give _) (sign_viable any Semi) (λ end. viable_give F _) (λ end ts y v e a. tt))
    (λ by. sign_starts F Semi _)) (λ x ts y v e a. tt)

statement_cases : (F : Option Lexeme → Type 0) (limits : Limits) (w : Option Lexeme) → IsCase F (r.statement_by limits w)
statement_cases F limits (Some (lex.Name n)) = case_viable F _ (viable_bind F any words.name (assign_rest limits) name-reads (assign_rest-reads limits) (name_viable any) (assign_rest_viable F limits) (λ x ts y v e a. tt))
statement_cases F limits (Some (lex.Key key.Print)) = case_viable F _ (viable_behind F print_rest print_rest-reads (print_rest_viable F))
statement_cases F limits w = case_refuse F Unexpected

pub statement_viable : (F : Option Lexeme → Type 0) (limits : Limits) → IsViable F (r.statement limits)
unfolding r.statement
statement_viable F limits =
    let rest = print_rest_viable F 0 in
    viable_choice F (r.statement_by limits) (statement_cases F limits) (quiet_takes F (r.statement limits) (statement-one limits)) (token (lex.Key key.Print) ∷ rest.word) (key_spelled key.Print, rest.spelled) rest.value rest.says

a_statement_viable : (F : Option Lexeme → Type 0) (limits : Limits) → IsViable F (r.statement limits >>= λ x. give (Some x))
a_statement_viable F limits = viable_bind F any (r.statement limits) (λ x. give (Some x)) (statement-reads limits) (λ x. reads_give _) (statement_viable any limits) (λ x. viable_give F _) (λ x ts y v e a. tt)

next_cases : (limits : Limits) (room : Bool) (w : Option Lexeme) → IsCase at_end (r.next_by limits room w)
next_cases limits room None = case_viable at_end (give None) (viable_give at_end None)
next_cases limits true (Some w) = case_viable at_end _ (a_statement_viable at_end limits)
next_cases limits false (Some w) = case_refuse at_end (r.no_room w)

next_keeps_by : (limits : Limits) (room : Bool) (w : Option Lexeme) → Keeps any (r.next_by limits room w)
next_keeps_by limits room None = keeps_none any
next_keeps_by limits true (Some w) = keeps_viable any _ (a_statement_viable any limits)
next_keeps_by limits false (Some w) = λ before u v x e after. absurd (err_ok {A = Option AstStatement} _ (Some x, u) e)

next_keeps : (limits : Limits) (room : Bool) → Keeps any (r.next_statement limits room)
unfolding r.next_statement
next_keeps limits room = keeps_choice any (r.next_by limits room) (next_statement-one limits room) (next_keeps_by limits room)

no_next_by : (limits : Limits) (room : Bool) (w : Option Lexeme) (ts : Items) → at_end w → r.next_by limits room w ts ≡ read_of None ts
no_next_by limits room None ts a = refl
no_next_by limits room (Some w) ts a = absurd a

no_next : (limits : Limits) (room : Bool) (v : Items) → at_end (head_word v) → r.next_statement limits room v ≡ read_of None v
unfolding r.next_statement
no_next limits room v after = no_next_by limits room (head_word v) v after

next_viable : (limits : Limits) (room : Bool) → IsViable at_end (r.next_statement limits room)
unfolding r.next_statement
next_viable limits room = viable_item at_end (r.next_by limits room) (next_statement-one limits room) (no_next limits room) (next_cases limits room)

next_item : (limits : Limits) → IsItem at_end any (next_behind limits)
next_item limits = record {
  one = next_behind-one limits;
  reader = next_behind-reads limits;
  ends = λ ys v after. no_next limits (has_room limits ys) v after;
  rests = λ ys ts u e after. tt;
  begins = λ ys ts x u e. tt;
  keeps = λ ys. next_keeps limits (has_room limits ys);
  viable = λ ys. next_viable limits (has_room limits ys);
}

statements_viable : (limits : Limits) → IsViable at_end (r.statements limits [])
unfolding r.statements
statements_viable limits = viable_list at_end any (next_behind limits) (next_item limits) []

pub script_viable : (limits : Limits) → IsViable at_end (r.script limits)
unfolding r.script
script_viable limits = viable_bind at_end at_end (r.statements limits []) tree_given (statements-reads limits []) tree_given-reads (statements_viable limits) (λ xs. viable_give at_end (r.tree_of xs)) (λ xs ts y v e a. subst (λ q. at_end (head_word q)) (sym (rest_is (r.tree_of xs) ts y v e)) a)
