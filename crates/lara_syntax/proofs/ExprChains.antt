-- The rules of operators as one: parts with operators between them that bind equally tightly.
use Rattle.std.proofs.Common.{inl, inr, ◌⊎◌, ◌≡◌, ℕ, zero, suc, ◌<◌, Option, Some, None, Bool, true, false, cond, nat_eq, refl, sym, ap, subst, ◌∙◌, arith}
use Rattle.std.proofs.lemmas.Bool.{eq-eqb, eqb-true}
use Rattle.lara_data.specs.declared.expr.TwoOp.{TwoOp}
use Rattle.lara_data.specs.declared.expr.TwoOp.TheVariants as two
use Rattle.lara_syntax.specs.declared.item.Lexeme.{Lexeme}
use Rattle.lara_syntax.specs.declared.item.Lexeme.TheVariants as lex
use Rattle.lara_syntax.specs.declared.item.Keyword.TheVariants as key
use Rattle.lara_syntax.specs.declared.item.Sign.{Sign}
use Rattle.lara_syntax.specs.declared.item.Sign.TheVariants as mark
use Rattle.lara_syntax.specs.declared.count.Count.{Count}
use Rattle.lara_syntax.specs.declared.ast_expr.AstExpr.{AstExpr}
use Rattle.lara_syntax.specs.Limits.{one_sign, together}
use Rattle.lara_syntax.specs.WordGrammar.{Word}
use Rattle.lara_syntax.specs.ExprGrammar as g
use Rattle.lara_syntax.specs.ExprGrammar.{two_at, Comparison, equal, not_equal, less, less_equal, greater, greater_equal, Atom, Prod, Sum, Cat, Cmp, Not, And, Or}
use Rattle.lara_syntax.specs.ExprReading.{two_of, binding, only_binding, next_two}
use Rattle.lara_syntax.specs.WordReading.{next_as}
use Rattle.lara_syntax.specs.Steps.{Items}
use Rattle.lara_syntax.proofs.SoundWords.{some_is}

-- ---- operators and their words

-- the word of an operator
abbrev pub two_word : TwoOp → Lexeme
two_word two.Or = lex.Key key.Or
two_word two.And = lex.Key key.And
two_word two.Eq = lex.Sign mark.Equal
two_word two.Ne = lex.Sign mark.NotEqual
two_word two.Lt = lex.Sign mark.Less
two_word two.Le = lex.Sign mark.LessEqual
two_word two.Gt = lex.Sign mark.Greater
two_word two.Ge = lex.Sign mark.GreaterEqual
two_word two.Cat = lex.Sign mark.PlusPlus
two_word two.Add = lex.Sign mark.Plus
two_word two.Mul = lex.Sign mark.Times

pub two_of-word : (op : TwoOp) → two_of (two_word op) ≡ Some op
two_of-word two.Or = refl
two_of-word two.And = refl
two_of-word two.Eq = refl
two_of-word two.Ne = refl
two_of-word two.Lt = refl
two_of-word two.Le = refl
two_of-word two.Gt = refl
two_of-word two.Ge = refl
two_of-word two.Cat = refl
two_of-word two.Add = refl
two_of-word two.Mul = refl

two_word-is : (w : Lexeme) (op : TwoOp) → two_of w ≡ Some op → w ≡ two_word op
two_word-is (lex.Key key.Or) op e = ap two_word (some_is two.Or op e)
two_word-is (lex.Key key.And) op e = ap two_word (some_is two.And op e)
two_word-is (lex.Sign mark.Equal) op e = ap two_word (some_is two.Eq op e)
two_word-is (lex.Sign mark.NotEqual) op e = ap two_word (some_is two.Ne op e)
two_word-is (lex.Sign mark.Less) op e = ap two_word (some_is two.Lt op e)
two_word-is (lex.Sign mark.LessEqual) op e = ap two_word (some_is two.Le op e)
two_word-is (lex.Sign mark.Greater) op e = ap two_word (some_is two.Gt op e)
two_word-is (lex.Sign mark.GreaterEqual) op e = ap two_word (some_is two.Ge op e)
two_word-is (lex.Sign mark.PlusPlus) op e = ap two_word (some_is two.Cat op e)
two_word-is (lex.Sign mark.Plus) op e = ap two_word (some_is two.Add op e)
two_word-is (lex.Sign mark.Times) op e = ap two_word (some_is two.Mul op e)
two_word-is w op e = absurd cc

-- each operator's number is one of six
pub binding_below : (op : TwoOp) → binding op < 6
binding_below two.Or = omega arith
binding_below two.And = omega arith
binding_below two.Eq = omega arith
binding_below two.Ne = omega arith
binding_below two.Lt = omega arith
binding_below two.Le = omega arith
binding_below two.Gt = omega arith
binding_below two.Ge = omega arith
binding_below two.Cat = omega arith
binding_below two.Add = omega arith
binding_below two.Mul = omega arith

-- ---- the operator that is next

only_some : (tightly : ℕ) (op : TwoOp) → binding op ≡ tightly → only_binding tightly (Some op) ≡ Some op
only_some tightly op e = ap (λ (b : Bool). cond b (Some op) None) (eq-eqb (binding op) tightly e)

pub next_two-some : (tightly : ℕ) (op : TwoOp) → binding op ≡ tightly → next_two tightly (Some (two_word op)) ≡ Some op
next_two-some tightly op e = ap (only_binding tightly) (two_of-word op) ∙ only_some tightly op e

only_is : (tightly : ℕ) (o : Option TwoOp) (op : TwoOp) → only_binding tightly o ≡ Some op → (o ≡ Some op) × (binding op ≡ tightly)
only_is tightly None op e = absurd cc
only_is tightly (Some p) op e = only_if (nat_eq (binding p) tightly) refl e
  where
    only_if : (b : Bool) → nat_eq (binding p) tightly ≡ b → cond b (Some p) None ≡ Some op → (Some p ≡ Some op) × (binding op ≡ tightly)
    only_if true h e = (e, sym (ap binding (some_is p op e)) ∙ eqb-true (binding p) tightly h)
    only_if false h e = absurd cc

pub next_two-is : (tightly : ℕ) (w : Option Lexeme) (op : TwoOp) → next_two tightly w ≡ Some op → (w ≡ Some (two_word op)) × (binding op ≡ tightly)
next_two-is tightly None op e = absurd cc
next_two-is tightly (Some w) op e = let h = only_is tightly (two_of w) op e in (ap (λ (v : Lexeme). Some v) (two_word-is w op h.0), h.1)

-- an operator that binds less than this, or none
abbrev pub BindsLess : ℕ → Option TwoOp → Type 0
BindsLess tightly None = Unit {0}
BindsLess tightly (Some op) = binding op < tightly

-- the word that is next is no operator that binds so tightly or tighter
abbrev pub Looser : ℕ → Option Lexeme → Type 0
Looser tightly w = BindsLess tightly (next_as two_of w)

binds_less : (s t : ℕ) → s < suc t → (o : Option TwoOp) → BindsLess s o → BindsLess t o
binds_less s t lt None h = tt
binds_less s t lt (Some op) h = omega (arith, lt, h)

-- what is looser than this is looser than what is tighter
pub looser_than : (s t : ℕ) → s < suc t → (w : Option Lexeme) → Looser s w → Looser t w
looser_than s t lt w h = binds_less s t lt (next_as two_of w) h

pub looser_word : (op : TwoOp) (tightly : ℕ) → binding op < tightly → Looser tightly (Some (two_word op))
looser_word op tightly lt = subst (λ (o : Option TwoOp). BindsLess tightly o) (sym (two_of-word op)) lt

any_less : (o : Option TwoOp) → BindsLess 6 o
any_less None = tt
any_less (Some op) = binding_below op

-- nothing binds tighter than each operator
pub looser_any : (w : Option Lexeme) → Looser 6 w
looser_any w = any_less (next_as two_of w)

only_none : (tightly : ℕ) (o : Option TwoOp) → BindsLess tightly o → only_binding tightly o ≡ None
only_none tightly None h = refl
only_none tightly (Some op) h = only_if (nat_eq (binding op) tightly) refl
  where
    only_if : (b : Bool) → nat_eq (binding op) tightly ≡ b → cond b (Some op) None ≡ None
    only_if true e = absurd (omega (arith, h, eqb-true (binding op) tightly e))
    only_if false e = refl

pub next_two-none : (tightly : ℕ) (w : Option Lexeme) → Looser tightly w → next_two tightly w ≡ None
next_two-none tightly w h = only_none tightly (next_as two_of w) h

-- ---- chains and pairs

-- which words are which expression, and how much of what is counted they have
abbrev pub Part : Type 1
Part = Count → AstExpr → Items → Items → Type 0

-- X { op X }, where op binds so tightly
pub data Chain (tightly : ℕ) (X : Part) : Count → AstExpr → Items → Items → Type 0 where
  one : (n : Count) (x : AstExpr) (ts rest : Items) → X n x ts rest → Chain tightly X n x ts rest
  more : (m n : Count) (at : ℕ) (op : TwoOp) (a b : AstExpr) (t1 t2 t3 rest : Items) → binding op ≡ tightly
      → Chain tightly X m a t1 t2 → Word (two_word op) at t2 t3 → X n b t3 rest
      → Chain tightly X (one_sign (together m n)) (two_at at op a b) t1 rest

-- X [ op X ], likewise
pub data Pair (tightly : ℕ) (X : Part) : Count → AstExpr → Items → Items → Type 0 where
  alone : (n : Count) (x : AstExpr) (ts rest : Items) → X n x ts rest → Pair tightly X n x ts rest
  both : (m n : Count) (at : ℕ) (op : TwoOp) (a b : AstExpr) (t1 t2 t3 rest : Items) → binding op ≡ tightly
      → X m a t1 t2 → Word (two_word op) at t2 t3 → X n b t3 rest
      → Pair tightly X (one_sign (together m n)) (two_at at op a b) t1 rest

-- what is of one is of the other
abbrev pub Within : Part → Part → Type 0
Within X Y = (n : Count) (x : AstExpr) (ts rest : Items) → X n x ts rest → Y n x ts rest

-- ---- each rule is one of them, and it is each rule

pub prod_chain : (d : ℕ) → Within (Prod d) (Chain 5 (Atom d))
prod_chain d n x ts rest (g.atom e m y a b h) = one m y a b h
prod_chain d n x ts rest (g.times e l m at a b t1 t2 t3 t4 h1 h2 h3) = more l m at two.Mul a b t1 t2 t3 t4 refl (prod_chain e l a t1 t2 h1) h2 h3

pub sum_chain : (d : ℕ) → Within (Sum d) (Chain 4 (Prod d))
sum_chain d n x ts rest (g.prod e m y a b h) = one m y a b h
sum_chain d n x ts rest (g.plus e l m at a b t1 t2 t3 t4 h1 h2 h3) = more l m at two.Add a b t1 t2 t3 t4 refl (sum_chain e l a t1 t2 h1) h2 h3

pub cat_chain : (d : ℕ) → Within (Cat d) (Chain 3 (Sum d))
cat_chain d n x ts rest (g.sum e m y a b h) = one m y a b h
cat_chain d n x ts rest (g.plus_plus e l m at a b t1 t2 t3 t4 h1 h2 h3) = more l m at two.Cat a b t1 t2 t3 t4 refl (cat_chain e l a t1 t2 h1) h2 h3

comparison_is : (op : TwoOp) (m : Sign) → Comparison op m → (binding op ≡ 2) × (two_word op ≡ lex.Sign m)
comparison_is op m equal = (refl, refl)
comparison_is op m not_equal = (refl, refl)
comparison_is op m less = (refl, refl)
comparison_is op m less_equal = (refl, refl)
comparison_is op m greater = (refl, refl)
comparison_is op m greater_equal = (refl, refl)

pub cmp_pair : (d : ℕ) → Within (Cmp d) (Pair 2 (Cat d))
cmp_pair d n x ts rest (g.cat e m y a b h) = alone m y a b h
cmp_pair d n x ts rest (g.compared e l m at op s a b t1 t2 t3 t4 c h1 h2 h3) =
    let i = comparison_is op s c in both l m at op a b t1 t2 t3 t4 i.0 h1 (subst (λ (w : Lexeme). Word w at t2 t3) (sym i.1) h2) h3

pub and_chain : (d : ℕ) → Within (And d) (Chain 1 (Not d))
and_chain d n x ts rest (g.lone_not e m y a b h) = one m y a b h
and_chain d n x ts rest (g.and e l m at a b t1 t2 t3 t4 h1 h2 h3) = more l m at two.And a b t1 t2 t3 t4 refl (and_chain e l a t1 t2 h1) h2 h3

pub or_chain : (d : ℕ) → Within (Or d) (Chain 0 (And d))
or_chain d n x ts rest (g.lone_and e m y a b h) = one m y a b h
or_chain d n x ts rest (g.or e l m at a b t1 t2 t3 t4 h1 h2 h3) = more l m at two.Or a b t1 t2 t3 t4 refl (or_chain e l a t1 t2 h1) h2 h3

-- the operator that binds so tightly, where there is one
abbrev the_only : ℕ → TwoOp
the_only zero = two.Or
the_only (suc zero) = two.And
the_only (suc (suc (suc zero))) = two.Cat
the_only (suc (suc (suc (suc zero)))) = two.Add
the_only n = two.Mul

-- an operator that compares, with its sign
abbrev Compares : TwoOp → Type 0
Compares op = (m : Sign) × Comparison op m × (two_word op ≡ lex.Sign m) × (binding op ≡ 2)

compares_or : (op : TwoOp) → Compares op ⊎ ((op ≡ the_only (binding op)) × ((binding op ≡ 2) → ⊥))
compares_or two.Or = inr (refl, λ e. omega (arith, e))
compares_or two.And = inr (refl, λ e. omega (arith, e))
compares_or two.Eq = inl (mark.Equal, equal, refl, refl)
compares_or two.Ne = inl (mark.NotEqual, not_equal, refl, refl)
compares_or two.Lt = inl (mark.Less, less, refl, refl)
compares_or two.Le = inl (mark.LessEqual, less_equal, refl, refl)
compares_or two.Gt = inl (mark.Greater, greater, refl, refl)
compares_or two.Ge = inl (mark.GreaterEqual, greater_equal, refl, refl)
compares_or two.Cat = inr (refl, λ e. omega (arith, e))
compares_or two.Add = inr (refl, λ e. omega (arith, e))
compares_or two.Mul = inr (refl, λ e. omega (arith, e))

only_op : (op : TwoOp) (tightly : ℕ) → ((tightly ≡ 2) → ⊥) → binding op ≡ tightly → op ≡ the_only tightly
only_op op tightly other e = elim (compares_or op) [
  | inl c ↦ absurd (other (sym e ∙ c.3))
  | inr o ↦ o.0 ∙ ap the_only e
]

compares : (op : TwoOp) → binding op ≡ 2 → Compares op
compares op e = elim (compares_or op) [
  | inl c ↦ c
  | inr o ↦ absurd (o.1 e)
]

-- how a part and another behind an operator make the whole
abbrev Joins : TwoOp → Part → Part → Type 0
Joins op Y X = (m n : Count) (at : ℕ) (a b : AstExpr) (t1 t2 t3 rest : Items) → Y m a t1 t2 → Word (two_word op) at t2 t3 → X n b t3 rest → Y (one_sign (together m n)) (two_at at op a b) t1 rest

chain_is : (tightly : ℕ) (X Y : Part) → ((tightly ≡ 2) → ⊥) → Within X Y → Joins (the_only tightly) Y X → Within (Chain tightly X) Y
chain_is tightly X Y other lone joins n x ts rest (one m y a b h) = lone m y a b h
chain_is tightly X Y other lone joins n x ts rest (more l m at op a b t1 t2 t3 t4 e h1 h2 h3) =
    let same = only_op op tightly other e in
    subst (λ (p : TwoOp). Y (one_sign (together l m)) (two_at at p a b) t1 t4) (sym same)
    (joins l m at a b t1 t2 t3 t4 (chain_is tightly X Y other lone joins l a t1 t2 h1) (subst (λ (p : TwoOp). Word (two_word p) at t2 t3) same h2) h3)

pub chain_prod : (d : ℕ) → Within (Chain 5 (Atom d)) (Prod d)
chain_prod d = chain_is 5 (Atom d) (Prod d) (λ e. omega (arith, e)) (g.atom d) (g.times d)

pub chain_sum : (d : ℕ) → Within (Chain 4 (Prod d)) (Sum d)
chain_sum d = chain_is 4 (Prod d) (Sum d) (λ e. omega (arith, e)) (g.prod d) (g.plus d)

pub chain_cat : (d : ℕ) → Within (Chain 3 (Sum d)) (Cat d)
chain_cat d = chain_is 3 (Sum d) (Cat d) (λ e. omega (arith, e)) (g.sum d) (g.plus_plus d)

pub pair_cmp : (d : ℕ) → Within (Pair 2 (Cat d)) (Cmp d)
pair_cmp d n x ts rest (alone m y a b h) = g.cat d m y a b h
pair_cmp d n x ts rest (both l m at op a b t1 t2 t3 t4 e h1 h2 h3) =
    let c = compares op e in g.compared d l m at op c.0 a b t1 t2 t3 t4 c.1 h1 (subst (λ (w : Lexeme). Word w at t2 t3) c.2 h2) h3

pub chain_and : (d : ℕ) → Within (Chain 1 (Not d)) (And d)
chain_and d = chain_is 1 (Not d) (And d) (λ e. omega (arith, e)) (g.lone_not d) (g.and d)

pub chain_or : (d : ℕ) → Within (Chain 0 (And d)) (Or d)
chain_or d = chain_is 0 (And d) (Or d) (λ e. omega (arith, e)) (g.lone_and d) (g.or d)
