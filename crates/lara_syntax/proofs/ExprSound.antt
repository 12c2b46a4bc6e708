-- What is read as an expression is in the grammar.
use Rattle.std.proofs.Common.{◌≡◌, ℕ, zero, suc, ◌<◌, length, Option, Some, None, Ok, Err, Bool, true, false, cond, nat_lt, refl, sym, ap, subst, ◌∙◌, arith}
use Rattle.std.proofs.lemmas.Bool.{ltb-true}
use Rattle.lara_data.specs.declared.expr.TwoOp.{TwoOp}
use Rattle.lara_data.specs.declared.expr.FunOp.{FunOp}
use Rattle.lara_data.specs.declared.expr.FunOp.TheVariants as fun
use Rattle.lara_data.specs.declared.refusal.Kind.TheVariants.{TooMany}
use Rattle.lara_syntax.specs.declared.item.Lexeme.{Lexeme}
use Rattle.lara_syntax.specs.declared.item.Lexeme.TheVariants as lex
use Rattle.lara_syntax.specs.declared.item.Keyword.TheVariants as key
use Rattle.lara_syntax.specs.declared.item.Sign.TheVariants.{Open, Close}
use Rattle.lara_syntax.specs.declared.count.Count.{Count}
use Rattle.lara_syntax.specs.declared.fault.Fault.TheVariants as faults
use Rattle.lara_syntax.specs.declared.ast_expr.AstExpr.{AstExpr}
use Rattle.lara_syntax.specs.declared.ast_expr.AstForm.TheVariants as form
use Rattle.lara_syntax.specs.Limits.{none_counted, one_sign, together, IsWithin}
use Rattle.lara_syntax.specs.WordGrammar.{Word}
use Rattle.lara_syntax.specs.ExprGrammar as g
use Rattle.lara_syntax.specs.ExprGrammar.{expr_at, two_at, literal_form, fun_word, Atom, Prod, Sum, Cat, Cmp, Not, And, Or, Expr}
use Rattle.lara_syntax.specs.ExprReading as r
use Rattle.lara_syntax.specs.ExprReading.{CountedExpr, ExprReader, binding}
use Rattle.lara_syntax.specs.WordReading.{sign, keyword, name, lit, next_as}
use Rattle.lara_syntax.specs.Steps.{Items, Read, ◌>>=◌, give, refuse, skip, turns, head_word}
use Rattle.lara_syntax.proofs.Counts.{Counts}
use Rattle.lara_syntax.proofs.Turns.{read_of, err_ok}
use Rattle.lara_syntax.proofs.Readers.{bind_ok}
use Rattle.lara_syntax.proofs.SoundWords.{give_to, some_is, word_taken, sign_sound, keyword_sound, name_sound, lit_sound}
use Rattle.lara_syntax.proofs.ExprReaders.{ReadEach, right_of, joined-shortens, atom-reads, negation-reads, product_with-reads, sum_with-reads, conjunction_with-reads}
use Rattle.lara_syntax.proofs.ExprLoops.{chain-goes, chain-ends, chain-fails}
use Rattle.lara_syntax.proofs.ExprChains.{two_word, next_two-is, Part, Chain, one, more, Pair, alone, both, Within, chain_prod, chain_sum, chain_cat, pair_cmp, chain_and, chain_or}
use Rattle.lara_syntax.proofs.ExprComplete.{Below, by_levels, deeper_expr-suc, deeper_not-suc}

-- what p reads is of X
abbrev pub PartSound : Part → Count → ExprReader → Type 0
PartSound X limit p = (taken : Count) → IsWithin taken limit → (ts : Items) (x : CountedExpr) (u : Items) → p taken ts ≡ read_of x u → Counts X limit taken x ts u

sound_within : (X Y : Part) (limit : Count) (p : ExprReader) → Within X Y → PartSound X limit p → PartSound Y limit p
sound_within X Y limit p w h taken le ts x u e =
    let s = h taken le ts x u e in record { n = s.n; total = s.total; within = s.within; stands = w s.n x.0 ts u s.stands }

-- ---- operators

sign_when : (b : Bool) (ts : Items) (at : ℕ) (u : Items) → cond b skip (refuse TooMany) ts ≡ read_of at u → (b ≡ true) × (skip ts ≡ read_of at u)
sign_when true ts at u e = (refl, e)
sign_when false ts at u e = absurd (err_ok {A = ℕ} _ (at, u) e)

operator_sign_sound : (limit taken : Count) (w : Lexeme) (ts : Items) (at : ℕ) (u : Items) → head_word ts ≡ Some w → r.operator_sign limit taken ts ≡ read_of at u → (taken.signs < limit.signs) × Word w at ts u
unfolding r.operator_sign
operator_sign_sound limit taken w ts at u h e = let a = sign_when (nat_lt taken.signs limit.signs) ts at u e in (ltb-true taken.signs limit.signs a.0, word_taken w ts at u h a.1)

-- how a part and another behind an operator make the whole
abbrev Joins : ℕ → Part → Part → Part → Type 0
Joins tightly Y X Z = (m n : Count) (at : ℕ) (op : TwoOp) (a b : AstExpr) (t1 t2 t3 rest : Items) → binding op ≡ tightly → Y m a t1 t2 → Word (two_word op) at t2 t3 → X n b t3 rest → Z (one_sign (together m n)) (two_at at op a b) t1 rest

joined_sound : (tightly : ℕ) (X Y Z : Part) (limit : Count) (p : ExprReader) → PartSound X limit p → Joins tightly Y X Z → (taken : Count) (left : CountedExpr) (op : TwoOp) (ts0 ts : Items) (x : CountedExpr) (u : Items)
    → Counts Y limit taken left ts0 ts → r.next_two tightly (head_word ts) ≡ Some op → r.joined limit p left op ts ≡ read_of x u → Counts Z limit taken x ts0 u
joined_sound tightly X Y Z limit p ps joins taken left op ts0 ts x u before next e =
    let i = next_two-is tightly (head_word ts) op next in
    let w = bind_ok (r.operator_sign limit left.1 ts) (right_of p left op) (x, u) e in
    let word = operator_sign_sound limit left.1 (two_word op) ts w.0 w.1 i.0 w.2 in
    let f = bind_ok (p (one_sign left.1) w.1) (λ right. give (two_at w.0 op left.0 right.0, right.1)) (x, u) w.3 in
    let b = f.0 in
    let second = ps (one_sign left.1) (before.within.0, omega (arith, word.0)) w.1 b f.1 f.2 in
    give_to (λ y q. Counts Z limit taken y ts0 q) (two_at w.0 op left.0 b.0, b.1) f.1 x u f.3
    (record {
      n = one_sign (together before.n second.n);
      total = (omega (arith, before.total.0, second.total.0), omega (arith, before.total.1, second.total.1));
      within = second.within;
      stands = joins before.n second.n w.0 op left.0 b.0 ts0 ts w.1 f.1 i.1 before.stands word.1 second.stands;
    })

-- what is left of a chain
abbrev RestSound : ℕ → Part → Count → ExprReader → ℕ → Type 0
RestSound tightly X limit p fuel = (taken : Count) (left : CountedExpr) (ts0 ts : Items) (x : CountedExpr) (u : Items) → length ts < fuel → Counts (Chain tightly X) limit taken left ts0 ts → turns (r.operated tightly limit p) left ts ≡ read_of x u → Counts (Chain tightly X) limit taken x ts0 u

turn_sound : (tightly : ℕ) (X : Part) (limit : Count) (p : ExprReader) → ReadEach p → PartSound X limit p → (fuel : ℕ) → RestSound tightly X limit p fuel
    → (taken : Count) (left : CountedExpr) (op : TwoOp) (q : Read CountedExpr) (ts0 ts : Items) (x : CountedExpr) (u : Items) → r.next_two tightly (head_word ts) ≡ Some op → r.joined limit p left op ts ≡ q → length ts < suc fuel
    → Counts (Chain tightly X) limit taken left ts0 ts → turns (r.operated tightly limit p) left ts ≡ read_of x u → Counts (Chain tightly X) limit taken x ts0 u
turn_sound tightly X limit p ip ps fuel next taken left op (Ok (y, m)) ts0 ts x u n j lt before e =
    next taken y ts0 m x u (omega (arith, lt, joined-shortens limit p ip left op ts y m j))
    (joined_sound tightly X (Chain tightly X) (Chain tightly X) limit p ps (more) taken left op ts0 ts y m before n j)
    (sym (chain-goes tightly limit p ip left op ts y m n j) ∙ e)
turn_sound tightly X limit p ip ps fuel next taken left op (Err d) ts0 ts x u n j lt before e =
    absurd (err_ok {A = CountedExpr} d (x, u) (sym (chain-fails tightly limit p ip left op ts (faults.Stopped d) n j) ∙ e))

rest_by : (tightly : ℕ) (X : Part) (limit : Count) (p : ExprReader) → ReadEach p → PartSound X limit p → (fuel : ℕ) → RestSound tightly X limit p fuel
    → (o : Option TwoOp) (taken : Count) (left : CountedExpr) (ts0 ts : Items) (x : CountedExpr) (u : Items) → r.next_two tightly (head_word ts) ≡ o → length ts < suc fuel
    → Counts (Chain tightly X) limit taken left ts0 ts → turns (r.operated tightly limit p) left ts ≡ read_of x u → Counts (Chain tightly X) limit taken x ts0 u
rest_by tightly X limit p ip ps fuel next None taken left ts0 ts x u n lt before e =
    give_to (λ y q. Counts (Chain tightly X) limit taken y ts0 q) left ts x u (sym (chain-ends tightly limit p ip left ts n) ∙ e) before
rest_by tightly X limit p ip ps fuel next (Some op) taken left ts0 ts x u n lt before e =
    turn_sound tightly X limit p ip ps fuel next taken left op (r.joined limit p left op ts) ts0 ts x u n refl lt before e

rest_sound : (tightly : ℕ) (X : Part) (limit : Count) (p : ExprReader) → ReadEach p → PartSound X limit p → (fuel : ℕ) → RestSound tightly X limit p fuel
rest_sound tightly X limit p ip ps zero taken left ts0 ts x u lt before e = absurd (omega (arith, lt))
rest_sound tightly X limit p ip ps (suc fuel) taken left ts0 ts x u lt before e = rest_by tightly X limit p ip ps fuel (rest_sound tightly X limit p ip ps fuel) (r.next_two tightly (head_word ts)) taken left ts0 ts x u refl lt before e

lone_sound : (X Y : Part) (limit taken : Count) (x : CountedExpr) (ts u : Items) → Within X Y → Counts X limit taken x ts u → Counts Y limit taken x ts u
lone_sound X Y limit taken x ts u w s = record { n = s.n; total = s.total; within = s.within; stands = w s.n x.0 ts u s.stands }

chain_sound : (tightly : ℕ) (X : Part) (limit : Count) (p : ExprReader) → ReadEach p → PartSound X limit p → PartSound (Chain tightly X) limit (r.chain tightly limit p)
chain_sound tightly X limit p ip ps taken le ts x u e =
    let a = bind_ok (p taken ts) (turns (r.operated tightly limit p)) (x, u) e in
    let first = lone_sound X (Chain tightly X) limit taken a.0 ts a.1 (one) (ps taken le ts a.0 a.1 a.2) in
    rest_sound tightly X limit p ip ps (suc (length a.1)) taken a.0 ts a.1 x u (omega arith) first a.3

pair_by_sound : (tightly : ℕ) (X : Part) (limit : Count) (p : ExprReader) → PartSound X limit p → (taken : Count) (left : CountedExpr) (o : Option TwoOp) (ts0 ts : Items) (x : CountedExpr) (u : Items)
    → r.next_two tightly (head_word ts) ≡ o → Counts X limit taken left ts0 ts → r.pair_by limit p left o ts ≡ read_of x u → Counts (Pair tightly X) limit taken x ts0 u
pair_by_sound tightly X limit p ps taken left None ts0 ts x u n before e =
    give_to (λ y q. Counts (Pair tightly X) limit taken y ts0 q) left ts x u e (lone_sound X (Pair tightly X) limit taken left ts0 ts (alone) before)
pair_by_sound tightly X limit p ps taken left (Some op) ts0 ts x u n before e = joined_sound tightly X X (Pair tightly X) limit p ps (both) taken left op ts0 ts x u before n e

pair_sound : (tightly : ℕ) (X : Part) (limit : Count) (p : ExprReader) → PartSound X limit p → PartSound (Pair tightly X) limit (r.pair tightly limit p)
pair_sound tightly X limit p ps taken le ts x u e =
    let a = bind_ok (p taken ts) (r.paired tightly limit p) (x, u) e in
    pair_by_sound tightly X limit p ps taken a.0 (r.next_two tightly (head_word a.1)) ts a.1 x u refl (ps taken le ts a.0 a.1 a.2) a.3

-- ---- each rule, where what is read a level deeper is of the grammar

abbrev LevelSound : Count → ℕ → Type 0
LevelSound limit d = PartSound (Expr d) limit (r.expr limit d) × PartSound (Not d) limit (r.negation limit d)

-- a word that opens a level, where there is one
opened : (w : Lexeme) (d : ℕ) (ts : Items) (at : ℕ) (u : Items) → head_word ts ≡ Some w → r.opening d ts ≡ read_of at u → (e : ℕ) × (d ≡ suc e) × Word w at ts u
unfolding r.opening
opened w zero ts at u h e = absurd (err_ok {A = ℕ} _ (at, u) e)
opened w (suc d) ts at u h e = (d, refl, word_taken w ts at u h e)

inner_sound : (limit : Count) (d e : ℕ) → d ≡ suc e → Below (LevelSound limit) d → PartSound (Expr e) limit (r.deeper_expr limit d)
inner_sound limit d e same below taken le ts x u h =
    (below e same).0 taken le ts x u (sym (deeper_expr-suc limit e taken ts) ∙ ap (λ (q : ℕ). r.deeper_expr limit q taken ts) (sym same) ∙ h)

inner_not_sound : (limit : Count) (d e : ℕ) → d ≡ suc e → Below (LevelSound limit) d → PartSound (Not e) limit (r.deeper_not limit d)
inner_not_sound limit d e same below taken le ts x u h =
    (below e same).1 taken le ts x u (sym (deeper_not-suc limit e taken ts) ∙ ap (λ (q : ℕ). r.deeper_not limit q taken ts) (sym same) ∙ h)

-- with one level less
at_level : (X : ℕ → Part) (limit taken : Count) (d e : ℕ) (x : CountedExpr) (ts u : Items) → d ≡ suc e → Counts (X (suc e)) limit taken x ts u → Counts (X d) limit taken x ts u
at_level X limit taken d e x ts u same s = subst (λ (q : ℕ). Counts (X q) limit taken x ts u) (sym same) s

call_sound : (limit : Count) (d : ℕ) → Below (LevelSound limit) d → (f : FunOp) → (taken : Count) → IsWithin taken limit → (ts : Items) (x : CountedExpr) (u : Items) → head_word ts ≡ Some (lex.Key (fun_word f)) → r.call f d (r.deeper_expr limit d) taken ts ≡ read_of x u → Counts (Atom d) limit taken x ts u
call_sound limit d below f taken le ts x u h e =
    let i = r.deeper_expr limit d in
    let a = bind_ok (r.opening d ts) (r.call_rest f i taken) (x, u) e in
    let at = a.0 in
    let o = opened (lex.Key (fun_word f)) d ts at a.1 h a.2 in
    let b = bind_ok (sign Open a.1) (λ from. i taken >>= λ z. sign Close >>= λ end. give (expr_at at (form.Fun f z.0), z.1)) (x, u) a.3 in
    let c = bind_ok (i taken b.1) (λ z. sign Close >>= λ end. give (expr_at at (form.Fun f z.0), z.1)) (x, u) b.3 in
    let y = c.0 in
    let k = bind_ok (sign Close c.1) (λ end. give (expr_at at (form.Fun f y.0), y.1)) (x, u) c.3 in
    let inner = inner_sound limit d o.0 o.1 below taken le b.1 y c.1 c.2 in
    at_level Atom limit taken d o.0 x ts u o.1
    (give_to (λ z q. Counts (Atom (suc o.0)) limit taken z ts q) (expr_at at (form.Fun f y.0), y.1) k.1 x u k.3
    (record { n = inner.n; total = inner.total; within = inner.within; stands = g.function o.0 inner.n at b.0 k.0 f y.0 ts a.1 b.1 c.1 k.1 o.2 (sign_sound Open a.1 b.0 b.1 b.2) inner.stands (sign_sound Close c.1 k.0 k.1 k.2) }))

brackets_sound : (limit : Count) (d : ℕ) → Below (LevelSound limit) d → (taken : Count) → IsWithin taken limit → (ts : Items) (x : CountedExpr) (u : Items) → head_word ts ≡ Some (lex.Sign Open) → r.brackets d (r.deeper_expr limit d) taken ts ≡ read_of x u → Counts (Atom d) limit taken x ts u
brackets_sound limit d below taken le ts x u h e =
    let i = r.deeper_expr limit d in
    let a = bind_ok (r.opening d ts) (r.brackets_rest i taken) (x, u) e in
    let o = opened (lex.Sign Open) d ts a.0 a.1 h a.2 in
    let c = bind_ok (i taken a.1) (λ z. sign Close >>= λ end. give z) (x, u) a.3 in
    let y = c.0 in
    let k = bind_ok (sign Close c.1) (λ end. give y) (x, u) c.3 in
    let inner = inner_sound limit d o.0 o.1 below taken le a.1 y c.1 c.2 in
    at_level Atom limit taken d o.0 x ts u o.1
    (give_to (λ z q. Counts (Atom (suc o.0)) limit taken z ts q) y k.1 x u k.3
    (record { n = inner.n; total = inner.total; within = inner.within; stands = g.inside o.0 inner.n a.0 k.0 y.0 ts a.1 c.1 k.1 o.2 inner.stands (sign_sound Close c.1 k.0 k.1 k.2) }))

fun_word-is : (w : Lexeme) (f : FunOp) → r.fun_of w ≡ Some f → w ≡ lex.Key (fun_word f)
fun_word-is (lex.Key key.Num) f e = ap (λ (q : FunOp). lex.Key (fun_word q)) (some_is fun.Num f e)
fun_word-is (lex.Key key.Dist) f e = ap (λ (q : FunOp). lex.Key (fun_word q)) (some_is fun.Dist f e)
fun_word-is (lex.Key key.Len) f e = ap (λ (q : FunOp). lex.Key (fun_word q)) (some_is fun.Len f e)
fun_word-is (lex.Key key.Path) f e = ap (λ (q : FunOp). lex.Key (fun_word q)) (some_is fun.Path f e)
fun_word-is (lex.Key key.Text) f e = ap (λ (q : FunOp). lex.Key (fun_word q)) (some_is fun.Text f e)
fun_word-is w f e = absurd cc

pub next_fun-is : (w : Option Lexeme) (f : FunOp) → next_as r.fun_of w ≡ Some f → w ≡ Some (lex.Key (fun_word f))
next_fun-is None f e = absurd cc
next_fun-is (Some w) f e = ap (λ (v : Lexeme). Some v) (fun_word-is w f e)

call_when : (limit : Count) (d : ℕ) → Below (LevelSound limit) d → (taken : Count) → IsWithin taken limit → (o : Option FunOp) (ts : Items) (x : CountedExpr) (u : Items) → next_as r.fun_of (head_word ts) ≡ o → r.call_by d (r.deeper_expr limit d) taken o ts ≡ read_of x u → Counts (Atom d) limit taken x ts u
call_when limit d below taken le (Some f) ts x u h e = call_sound limit d below f taken le ts x u (next_fun-is (head_word ts) f h) e
call_when limit d below taken le None ts x u h e =
    let a = bind_ok (lit ts) (λ y. give (expr_at y.at (literal_form y.value), taken)) (x, u) e in
    give_to (λ z q. Counts (Atom d) limit taken z ts q) (expr_at (a.0).at (literal_form (a.0).value), taken) a.1 x u a.3
    (record { n = none_counted; total = (omega arith, omega arith); within = le; stands = g.literal d a.0 ts a.1 (lit_sound ts a.0 a.1 a.2) })

atom_when : (limit : Count) (d : ℕ) → Below (LevelSound limit) d → (taken : Count) → IsWithin taken limit → (o : Option Lexeme) (ts : Items) (x : CountedExpr) (u : Items) → head_word ts ≡ o → r.atom_by d (r.deeper_expr limit d) taken o ts ≡ read_of x u → Counts (Atom d) limit taken x ts u
atom_when limit d below taken le (Some (lex.Name n)) ts x u h e =
    let a = bind_ok (name ts) (λ y. give (expr_at y.at (form.Column y.name), taken)) (x, u) e in
    give_to (λ z q. Counts (Atom d) limit taken z ts q) (expr_at (a.0).at (form.Column (a.0).name), taken) a.1 x u a.3
    (record { n = none_counted; total = (omega arith, omega arith); within = le; stands = g.column d a.0 ts a.1 (name_sound ts a.0 a.1 a.2) })
atom_when limit d below taken le (Some (lex.Sign Open)) ts x u h e = brackets_sound limit d below taken le ts x u h e
atom_when limit d below taken le w ts x u h e = call_when limit d below taken le (next_as r.fun_of w) ts x u (ap (next_as r.fun_of) h) e

atom_from : (limit : Count) (d : ℕ) → Below (LevelSound limit) d → PartSound (Atom d) limit (r.atom limit d)
unfolding r.atom
atom_from limit d below taken le ts x u e = atom_when limit d below taken le (head_word ts) ts x u refl e

comparison_from : (limit : Count) (d : ℕ) → Below (LevelSound limit) d → PartSound (Cmp d) limit (r.comparison limit d)
unfolding r.comparison
comparison_from limit d below =
    let a = r.atom limit d in
    let p = r.product_with limit a in
    let s = r.sum_with limit a in
    let c = r.cat_with limit a in
    let prod = sound_within (Chain 5 (Atom d)) (Prod d) limit p (chain_prod d) (chain_sound 5 (Atom d) limit a (atom-reads limit d) (atom_from limit d below)) in
    let sum = sound_within (Chain 4 (Prod d)) (Sum d) limit s (chain_sum d) (chain_sound 4 (Prod d) limit p (product_with-reads limit a (atom-reads limit d)) prod) in
    let cat = sound_within (Chain 3 (Sum d)) (Cat d) limit c (chain_cat d) (chain_sound 3 (Sum d) limit s (sum_with-reads limit a (atom-reads limit d)) sum) in
    sound_within (Pair 2 (Cat d)) (Cmp d) limit (r.comparison_with limit a) (pair_cmp d) (pair_sound 2 (Cat d) limit c cat)

negation_when : (limit : Count) (d : ℕ) → Below (LevelSound limit) d → (taken : Count) → IsWithin taken limit → (o : Option Lexeme) (ts : Items) (x : CountedExpr) (u : Items) → head_word ts ≡ o → r.negation_by d (r.deeper_not limit d) (r.comparison limit d) taken o ts ≡ read_of x u → Counts (Not d) limit taken x ts u
negation_when limit d below taken le (Some (lex.Key key.Not)) ts x u h e =
    let i = r.deeper_not limit d in
    let a = bind_ok (r.opening d ts) (r.negated_rest i taken) (x, u) e in
    let at = a.0 in
    let o = opened (lex.Key key.Not) d ts at a.1 h a.2 in
    let c = bind_ok (i taken a.1) (λ z. give (expr_at at (form.Not z.0), z.1)) (x, u) a.3 in
    let y = c.0 in
    let inner = inner_not_sound limit d o.0 o.1 below taken le a.1 y c.1 c.2 in
    at_level Not limit taken d o.0 x ts u o.1
    (give_to (λ z q. Counts (Not (suc o.0)) limit taken z ts q) (expr_at at (form.Not y.0), y.1) c.1 x u c.3
    (record { n = inner.n; total = inner.total; within = inner.within; stands = g.negated o.0 inner.n at y.0 ts a.1 c.1 o.2 inner.stands }))
negation_when limit d below taken le w ts x u h e = lone_sound (Cmp d) (Not d) limit taken x ts u (g.cmp d) (comparison_from limit d below taken le ts x u e)

negation_from : (limit : Count) (d : ℕ) → Below (LevelSound limit) d → PartSound (Not d) limit (r.negation limit d)
unfolding r.negation
negation_from limit d below taken le ts x u e = negation_when limit d below taken le (head_word ts) ts x u refl e

disjunction_from : (limit : Count) (d : ℕ) → Below (LevelSound limit) d → PartSound (Or d) limit (r.disjunction limit d)
unfolding r.disjunction
disjunction_from limit d below =
    let n = r.negation limit d in
    let c = r.conjunction_with limit n in
    let and = sound_within (Chain 1 (Not d)) (And d) limit c (chain_and d) (chain_sound 1 (Not d) limit n (negation-reads limit d) (negation_from limit d below)) in
    sound_within (Chain 0 (And d)) (Or d) limit (r.disjunction_with limit n) (chain_or d) (chain_sound 0 (And d) limit c (conjunction_with-reads limit n (negation-reads limit d)) and)

expr_when : (limit : Count) (d : ℕ) → Below (LevelSound limit) d → (taken : Count) → IsWithin taken limit → (o : Option Lexeme) (ts : Items) (x : CountedExpr) (u : Items) → head_word ts ≡ o → r.expr_by d (r.deeper_expr limit d) (r.disjunction limit d) taken o ts ≡ read_of x u → Counts (Expr d) limit taken x ts u
expr_when limit d below taken le (Some (lex.Key key.If)) ts x u h e =
    let i = r.deeper_expr limit d in
    let a = bind_ok (r.opening d ts) (r.branches_rest i taken) (x, u) e in
    let at = a.0 in
    let o = opened (lex.Key key.If) d ts at a.1 h a.2 in
    let f1 = bind_ok (i taken a.1) (λ q. keyword key.Then >>= λ from. i q.1 >>= λ v. keyword key.Else >>= λ to. i v.1 >>= λ z. give (expr_at at (form.If q.0 v.0 z.0), z.1)) (x, u) a.3 in
    let c = f1.0 in
    let f2 = bind_ok (keyword key.Then f1.1) (λ from. i c.1 >>= λ v. keyword key.Else >>= λ to. i v.1 >>= λ z. give (expr_at at (form.If c.0 v.0 z.0), z.1)) (x, u) f1.3 in
    let f3 = bind_ok (i c.1 f2.1) (λ v. keyword key.Else >>= λ to. i v.1 >>= λ z. give (expr_at at (form.If c.0 v.0 z.0), z.1)) (x, u) f2.3 in
    let y = f3.0 in
    let f4 = bind_ok (keyword key.Else f3.1) (λ to. i y.1 >>= λ z. give (expr_at at (form.If c.0 y.0 z.0), z.1)) (x, u) f3.3 in
    let f5 = bind_ok (i y.1 f4.1) (λ z. give (expr_at at (form.If c.0 y.0 z.0), z.1)) (x, u) f4.3 in
    let z = f5.0 in
    let inner = inner_sound limit d o.0 o.1 below in
    let s1 = inner taken le a.1 c f1.1 f1.2 in
    let s2 = inner c.1 s1.within f2.1 y f3.1 f3.2 in
    let s3 = inner y.1 s2.within f4.1 z f5.1 f5.2 in
    at_level Expr limit taken d o.0 x ts u o.1
    (give_to (λ v q. Counts (Expr (suc o.0)) limit taken v ts q) (expr_at at (form.If c.0 y.0 z.0), z.1) f5.1 x u f5.3
    (record {
      n = together s1.n (together s2.n s3.n);
      total = (omega (arith, s1.total.0, s2.total.0, s3.total.0), omega (arith, s1.total.1, s2.total.1, s3.total.1));
      within = s3.within;
      stands = g.branches o.0 s1.n s2.n s3.n at f2.0 f4.0 c.0 y.0 z.0 ts a.1 f1.1 f2.1 f3.1 f4.1 f5.1 o.2 s1.stands (keyword_sound key.Then f1.1 f2.0 f2.1 f2.2) s2.stands (keyword_sound key.Else f3.1 f4.0 f4.1 f4.2) s3.stands;
    }))
expr_when limit d below taken le w ts x u h e = lone_sound (Or d) (Expr d) limit taken x ts u (g.lone_or d) (disjunction_from limit d below taken le ts x u e)

expr_from : (limit : Count) (d : ℕ) → Below (LevelSound limit) d → PartSound (Expr d) limit (r.expr limit d)
unfolding r.expr
expr_from limit d below taken le ts x u e = expr_when limit d below taken le (head_word ts) ts x u refl e

level_sound : (limit : Count) (d : ℕ) → LevelSound limit d
level_sound limit d = by_levels (LevelSound limit) (λ e below. (expr_from limit e below, negation_from limit e below)) d

pub expr_sound : (limit : Count) (d : ℕ) → PartSound (Expr d) limit (r.expr limit d)
expr_sound limit d = (level_sound limit d).0
