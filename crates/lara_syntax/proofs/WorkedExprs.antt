-- Expressions worked out: which operator stands under which, where each is, and what is refused.
use Rattle.std.specs.Prelude.{◌≡◌, ℕ, suc, List, [], ◌∷◌}
use Rattle.std.proofs.Common.{refl}
use Rattle.lara_data.specs.declared.expr.TwoOp.TheVariants as two
use Rattle.lara_data.specs.declared.expr.FunOp.TheVariants as fun
use Rattle.lara_data.specs.declared.refusal.Kind.{Kind}
use Rattle.lara_data.specs.declared.refusal.Kind.TheVariants.{Unexpected, TooMany}
use Rattle.lara_syntax.specs.declared.item.Lexeme.{Lexeme}
use Rattle.lara_syntax.specs.declared.item.Lexeme.TheVariants as lex
use Rattle.lara_syntax.specs.declared.item.Keyword.TheVariants as key
use Rattle.lara_syntax.specs.declared.item.Sign.TheVariants as mark
use Rattle.lara_syntax.specs.declared.count.Count.{Count}
use Rattle.lara_syntax.specs.declared.ast_expr.AstExpr.{AstExpr}
use Rattle.lara_syntax.specs.declared.ast_expr.AstForm.TheVariants as form
use Rattle.lara_syntax.specs.Limits.{most, none_counted}
use Rattle.lara_syntax.specs.ExprGrammar.{expr_at, two_at}
use Rattle.lara_syntax.specs.ExprReading.{expr, disjunction, negation, comparison, atom, deeper_expr, operator_sign, opening}
use Rattle.lara_syntax.specs.WordReading.{keyword, name, lit, sign}
use Rattle.lara_syntax.specs.Steps.{Items, turns, turns_within}
use Rattle.lara_syntax.proofs.Turns.{read_of, erred}

-- words, each at the place of its number
abbrev placed : ℕ → List Lexeme → Items
placed at [] = []
placed at (w ∷ ws) = record { at = at; len = 1; lexeme = w } ∷ placed (suc at) ws

-- a name of one letter, and the column of that name
abbrev n : ℕ → Lexeme
n letter = lex.Name (letter ∷ [])

abbrev col : ℕ → ℕ → AstExpr
col at letter = expr_at at (form.Column (letter ∷ []))

-- so many counted operators
abbrev signs : ℕ → Count
signs m = record { operators = 0; signs = m }

-- what words are read as, and what they are refused for, with so many words left
abbrev reads_as : List Lexeme → AstExpr → ℕ → Type 0
reads_as ws x m = expr most.counted most.levels none_counted (placed 0 ws) ≡ read_of (x, signs m) []

abbrev stops : ℕ → Count → List Lexeme → ℕ → Kind → Type 0
stops levels taken ws left kind = expr most.counted levels taken (placed 0 ws) ≡ erred (record { left = left; kind = kind })

-- ---- how operators bind

-- a or b and not c == d ++ e + f * g
precedence : reads_as (n 97 ∷ lex.Key key.Or ∷ n 98 ∷ lex.Key key.And ∷ lex.Key key.Not ∷ n 99 ∷ lex.Sign mark.Equal ∷ n 100 ∷ lex.Sign mark.PlusPlus ∷ n 101 ∷ lex.Sign mark.Plus ∷ n 102 ∷ lex.Sign mark.Times ∷ n 103 ∷ [])
    (two_at 1 two.Or (col 0 97) (two_at 3 two.And (col 2 98) (expr_at 4 (form.Not (two_at 6 two.Eq (col 5 99) (two_at 8 two.Cat (col 7 100) (two_at 10 two.Add (col 9 101) (two_at 12 two.Mul (col 11 102) (col 13 103)))))))))
    6
unfolding expr disjunction negation comparison atom deeper_expr operator_sign opening name turns turns_within
precedence = refl

-- a * b + c ++ d < e and f or g
tighter_first : reads_as (n 97 ∷ lex.Sign mark.Times ∷ n 98 ∷ lex.Sign mark.Plus ∷ n 99 ∷ lex.Sign mark.PlusPlus ∷ n 100 ∷ lex.Sign mark.Less ∷ n 101 ∷ lex.Key key.And ∷ n 102 ∷ lex.Key key.Or ∷ n 103 ∷ [])
    (two_at 11 two.Or (two_at 9 two.And (two_at 7 two.Lt (two_at 5 two.Cat (two_at 3 two.Add (two_at 1 two.Mul (col 0 97) (col 2 98)) (col 4 99)) (col 6 100)) (col 8 101)) (col 10 102)) (col 12 103))
    6
unfolding expr disjunction negation comparison atom operator_sign name turns turns_within
tighter_first = refl

-- a + b + c
groups_left : reads_as (n 97 ∷ lex.Sign mark.Plus ∷ n 98 ∷ lex.Sign mark.Plus ∷ n 99 ∷ []) (two_at 3 two.Add (two_at 1 two.Add (col 0 97) (col 2 98)) (col 4 99)) 2
unfolding expr disjunction negation comparison atom operator_sign name turns turns_within
groups_left = refl

-- ( a + b ) * len ( c ): brackets leave no trace, and a call is at its word
brackets : reads_as (lex.Sign mark.Open ∷ n 97 ∷ lex.Sign mark.Plus ∷ n 98 ∷ lex.Sign mark.Close ∷ lex.Sign mark.Times ∷ lex.Key key.Len ∷ lex.Sign mark.Open ∷ n 99 ∷ lex.Sign mark.Close ∷ [])
    (two_at 5 two.Mul (two_at 2 two.Add (col 1 97) (col 3 98)) (expr_at 6 (form.Fun fun.Len (col 8 99)))) 2
unfolding expr disjunction negation comparison atom deeper_expr operator_sign opening name sign turns turns_within
brackets = refl

-- if a then 1 else inf or b: what is behind `else` goes to the end
if_loosest : reads_as (lex.Key key.If ∷ n 97 ∷ lex.Key key.Then ∷ lex.Number 1 ∷ lex.Key key.Else ∷ lex.Key key.Inf ∷ lex.Key key.Or ∷ n 98 ∷ [])
    (expr_at 0 (form.If (col 1 97) (expr_at 3 (form.Number 1)) (two_at 6 two.Or (expr_at 5 form.Inf) (col 7 98)))) 1
unfolding expr disjunction negation comparison atom deeper_expr operator_sign opening keyword name lit turns turns_within
if_loosest = refl

-- ---- what is refused

-- a == not b: no `not` stands beside a comparison
no_not : stops 64 none_counted (n 97 ∷ lex.Sign mark.Equal ∷ lex.Key key.Not ∷ n 98 ∷ []) 2 Unexpected
unfolding expr disjunction negation comparison atom operator_sign name lit turns turns_within
no_not = refl

-- a < b < c ends before the second sign
no_second : expr most.counted most.levels none_counted (placed 0 (n 97 ∷ lex.Sign mark.Less ∷ n 98 ∷ lex.Sign mark.Less ∷ n 99 ∷ [])) ≡ read_of (two_at 1 two.Lt (col 0 97) (col 2 98), signs 1) (placed 3 (lex.Sign mark.Less ∷ n 99 ∷ []))
unfolding expr disjunction negation comparison atom operator_sign name turns turns_within
no_second = refl

-- behind 1,023 operators one may stand, and behind 1,024 none
last_sign : expr most.counted most.levels (signs 1023) (placed 0 (n 97 ∷ lex.Sign mark.Times ∷ n 98 ∷ [])) ≡ read_of (two_at 1 two.Mul (col 0 97) (col 2 98), signs 1024) []
unfolding expr disjunction negation comparison atom operator_sign name turns turns_within
last_sign = refl

sign_too_many : stops 64 (signs 1024) (n 97 ∷ lex.Key key.And ∷ n 98 ∷ []) 2 TooMany
unfolding expr disjunction negation comparison atom operator_sign name turns turns_within
sign_too_many = refl

-- with one level left `not a` stands, and `not` in it or a call in it does not
last_level : expr most.counted 1 none_counted (placed 0 (lex.Key key.Not ∷ n 97 ∷ [])) ≡ read_of (expr_at 0 (form.Not (col 1 97)), none_counted) []
unfolding expr disjunction negation comparison atom deeper_expr operator_sign opening name turns turns_within
last_level = refl

not_too_deep : stops 1 none_counted (lex.Key key.Not ∷ lex.Key key.Not ∷ n 97 ∷ []) 2 TooMany
unfolding expr disjunction negation comparison atom deeper_expr operator_sign opening name turns turns_within
not_too_deep = refl

call_too_deep : stops 1 none_counted (lex.Key key.If ∷ lex.Key key.Num ∷ lex.Sign mark.Semi ∷ []) 2 TooMany
unfolding expr disjunction negation comparison atom deeper_expr operator_sign opening name turns turns_within
call_too_deep = refl
