-- What is in the grammar of expressions is read, where no operator is behind it.
use Rattle.std.proofs.Common.{◌≡◌, ℕ, zero, suc, ◌<◌, Option, Some, None, Bool, true, false, cond, refl, sym, ap, subst, ◌∙◌, arith}
use Rattle.std.proofs.lemmas.Bool.{lt-ltb}
use Rattle.lara_data.specs.declared.expr.TwoOp.{TwoOp}
use Rattle.lara_data.specs.declared.expr.FunOp.{FunOp}
use Rattle.lara_data.specs.declared.expr.FunOp.TheVariants as fun
use Rattle.lara_data.specs.declared.refusal.Kind.TheVariants.{TooMany}
use Rattle.lara_syntax.specs.declared.item.Lexeme.{Lexeme}
use Rattle.lara_syntax.specs.declared.item.Lexeme.TheVariants as lex
use Rattle.lara_syntax.specs.declared.item.Keyword.TheVariants as key
use Rattle.lara_syntax.specs.declared.item.Sign.TheVariants.{Open, Close}
use Rattle.lara_syntax.specs.declared.count.Count.{Count}
use Rattle.lara_syntax.specs.declared.ast.AstValue.{AstValue}
use Rattle.lara_syntax.specs.declared.ast.AstValue.TheVariants as val
use Rattle.lara_syntax.specs.declared.ast_expr.AstExpr.{AstExpr}
use Rattle.lara_syntax.specs.declared.ast_expr.AstForm.TheVariants as form
use Rattle.lara_syntax.specs.Limits.{one_sign, together, IsWithin}
use Rattle.lara_syntax.specs.WordGrammar.{Word, literal_word}
use Rattle.lara_syntax.specs.ExprGrammar as g
use Rattle.lara_syntax.specs.ExprGrammar.{expr_at, two_at, literal_form, fun_word, Atom, Prod, Sum, Cat, Cmp, Not, And, Or, Expr}
use Rattle.lara_syntax.specs.ExprReading as r
use Rattle.lara_syntax.specs.ExprReading.{CountedExpr, ExprReader, binding}
use Rattle.lara_syntax.specs.WordReading.{sign, keyword, name, lit}
use Rattle.lara_syntax.specs.Steps.{Items, Read, ◌>>=◌, give, refuse, skip, turns, head_word}
use Rattle.lara_syntax.proofs.Counts.{IsSum, sum_none}
use Rattle.lara_syntax.proofs.Turns.{read_of}
use Rattle.lara_syntax.proofs.Complete.{head_is, skip_is, step, chosen, sign_reads, keyword_reads, name_reads, lit_reads}
use Rattle.lara_syntax.proofs.ExprReaders.{ReadEach, right_of, atom-reads, negation-reads, product_with-reads, sum_with-reads, conjunction_with-reads}
use Rattle.lara_syntax.proofs.ExprLoops.{chain-goes, chain-ends}
use Rattle.lara_syntax.proofs.ExprChains.{two_word, next_two-some, next_two-none, Looser, looser_than, looser_word, Part, Chain, one, more, Pair, alone, both, Within, prod_chain, sum_chain, cat_chain, cmp_pair, and_chain, or_chain}

-- ---- what is shown of each rule

-- p reads what X is, where the word behind it is no operator that binds so tightly or tighter; k was counted before, j is with it
abbrev pub PartReads : Count → ℕ → Part → ExprReader → Type 0
PartReads limit tightly X p = (n : Count) (x : AstExpr) (ts us : Items) → X n x ts us → (k j : Count) → IsSum k n j → IsWithin j limit → Looser tightly (head_word us) → p k ts ≡ read_of (x, j) us

reads_within : (limit : Count) (tightly : ℕ) (X Y : Part) (p : ExprReader) → Within X Y → PartReads limit tightly Y p → PartReads limit tightly X p
reads_within limit tightly X Y p w h n x ts us s k j total le after = h n x ts us (w n x ts us s) k j total le after

-- a word that ends an expression is behind it
ends : (w : Lexeme) (at : ℕ) (ts us : Items) → Word w at ts us → Looser 0 (Some w) → Looser 0 (head_word ts)
ends w at ts us h l = subst (λ (o : Option Lexeme). Looser 0 o) (sym (head_is w at ts us h)) l

-- ---- operators

sign_reads_at : (limit taken : Count) (w : Lexeme) (at : ℕ) (ts us : Items) → Word w at ts us → taken.signs < limit.signs → r.operator_sign limit taken ts ≡ read_of at us
unfolding r.operator_sign
sign_reads_at limit taken w at ts us h lt = ap (λ (b : Bool). cond b skip (refuse TooMany) ts) (lt-ltb taken.signs limit.signs lt) ∙ skip_is w at ts us h

joined_reads : (limit : Count) (p : ExprReader) (i j : Count) (at : ℕ) (op : TwoOp) (a b : AstExpr) (t2 t3 rest : Items) → Word (two_word op) at t2 t3 → i.signs < limit.signs → p (one_sign i) t3 ≡ read_of (b, j) rest → r.joined limit p (a, i) op t2 ≡ read_of (two_at at op a b, j) rest
joined_reads limit p i j at op a b t2 t3 rest h lt e =
    step (r.operator_sign limit i) (right_of p (a, i) op) t2 at t3 (read_of (two_at at op a b, j) rest) (sign_reads_at limit i (two_word op) at t2 t3 h lt)
    (step (p (one_sign i)) (λ right. give (two_at at op a right.0, right.1)) t3 (b, j) rest (read_of (two_at at op a b, j) rest) e refl)

operator_next : (tightly : ℕ) (op : TwoOp) (at : ℕ) (ts us : Items) → binding op ≡ tightly → Word (two_word op) at ts us → r.next_two tightly (head_word ts) ≡ Some op
operator_next tightly op at ts us e h = ap (r.next_two tightly) (head_is (two_word op) at ts us h) ∙ next_two-some tightly op e

tighter_part : (tightly : ℕ) (op : TwoOp) (at : ℕ) (ts us : Items) → binding op ≡ tightly → Word (two_word op) at ts us → Looser (suc tightly) (head_word ts)
tighter_part tightly op at ts us e h = subst (λ (o : Option Lexeme). Looser (suc tightly) o) (sym (head_is (two_word op) at ts us h)) (looser_word op (suc tightly) (omega (arith, e)))

-- a chain read so far, and the turns that are left
chain_so_far : (limit : Count) (tightly : ℕ) (X : Part) (p : ExprReader) → ReadEach p → PartReads limit (suc tightly) X p
    → (n : Count) (x : AstExpr) (ts us : Items) → Chain tightly X n x ts us → (k j : Count) → IsSum k n j → IsWithin j limit → Looser (suc tightly) (head_word us) → r.chain tightly limit p k ts ≡ turns (r.operated tightly limit p) (x, j) us
chain_so_far limit tightly X p ip reads n x ts us (one m y a b h) k j total le after =
    step (p k) (turns (r.operated tightly limit p)) a (y, j) b (turns (r.operated tightly limit p) (y, j) b) (reads m y a b h k j total le after) refl
chain_so_far limit tightly X p ip reads n x ts us (more l m at op a b t1 t2 t3 t4 e h1 h2 h3) k j total le after =
    let i = together k l in
    let before = chain_so_far limit tightly X p ip reads l a t1 t2 h1 k i (refl, refl) (omega (arith, total.0, le.0), omega (arith, total.1, le.1)) (tighter_part tightly op at t2 t3 e h2) in
    let right = reads m b t3 t4 h3 (one_sign i) j (omega (arith, total.0), omega (arith, total.1)) le after in
    before ∙ chain-goes tightly limit p ip (a, i) op t2 (two_at at op a b, j) t4 (operator_next tightly op at t2 t3 e h2) (joined_reads limit p i j at op a b t2 t3 t4 h2 (omega (arith, total.1, le.1)) right)

chain_reads : (limit : Count) (tightly : ℕ) (X : Part) (p : ExprReader) → ReadEach p → PartReads limit (suc tightly) X p → PartReads limit tightly (Chain tightly X) (r.chain tightly limit p)
chain_reads limit tightly X p ip reads n x ts us h k j total le after =
    chain_so_far limit tightly X p ip reads n x ts us h k j total le (looser_than tightly (suc tightly) (omega arith) (head_word us) after)
    ∙ chain-ends tightly limit p ip (x, j) us (next_two-none tightly (head_word us) after)

pair_ends : (limit : Count) (tightly : ℕ) (p : ExprReader) (left : CountedExpr) (o : Option TwoOp) (ts : Items) (y : Read CountedExpr) → r.next_two tightly (head_word ts) ≡ o → r.pair_by limit p left o ts ≡ y → r.paired tightly limit p left ts ≡ y
pair_ends limit tightly p left o ts y e h = ap (λ (q : Option TwoOp). r.pair_by limit p left q ts) e ∙ h

pair_reads : (limit : Count) (tightly : ℕ) (X : Part) (p : ExprReader) → PartReads limit (suc tightly) X p → PartReads limit tightly (Pair tightly X) (r.pair tightly limit p)
pair_reads limit tightly X p reads n x ts us (alone m y a b h) k j total le after =
    step (p k) (r.paired tightly limit p) a (y, j) b (read_of (y, j) b) (reads m y a b h k j total le (looser_than tightly (suc tightly) (omega arith) (head_word b) after))
    (pair_ends limit tightly p (y, j) None b (read_of (y, j) b) (next_two-none tightly (head_word b) after) refl)
pair_reads limit tightly X p reads n x ts us (both l m at op a b t1 t2 t3 t4 e h1 h2 h3) k j total le after =
    let i = together k l in
    let right = reads m b t3 t4 h3 (one_sign i) j (omega (arith, total.0), omega (arith, total.1)) le (looser_than tightly (suc tightly) (omega arith) (head_word t4) after) in
    step (p k) (r.paired tightly limit p) t1 (a, i) t2 (read_of (two_at at op a b, j) t4) (reads l a t1 t2 h1 k i (refl, refl) (omega (arith, total.0, le.0), omega (arith, total.1, le.1)) (tighter_part tightly op at t2 t3 e h2))
    (pair_ends limit tightly p (a, i) (Some op) t2 (read_of (two_at at op a b, j) t4) (operator_next tightly op at t2 t3 e h2) (joined_reads limit p i j at op a b t2 t3 t4 h2 (omega (arith, total.1, le.1)) right))

-- ---- the first word of a comparison

-- a word that is neither `not` nor `if`
abbrev pub BeginsPart : Option Lexeme → Type 0
BeginsPart (Some (lex.Key key.Not)) = ⊥
BeginsPart (Some (lex.Key key.If)) = ⊥
BeginsPart w = Unit {0}

literal_begins : (v : AstValue) → BeginsPart (Some (literal_word v))
literal_begins (val.Number n) = tt
literal_begins (val.Text content) = tt
literal_begins (val.Flag true) = tt
literal_begins (val.Flag false) = tt
literal_begins val.Inf = tt
literal_begins val.None = tt

fun_begins : (f : FunOp) → BeginsPart (Some (lex.Key (fun_word f)))
fun_begins fun.Num = tt
fun_begins fun.Dist = tt
fun_begins fun.Len = tt
fun_begins fun.Path = tt
fun_begins fun.Text = tt

begun : (B : Option Lexeme → Type 0) (w : Lexeme) (at : ℕ) (ts us : Items) → Word w at ts us → B (Some w) → B (head_word ts)
begun B w at ts us h b = subst B (sym (head_is w at ts us h)) b

-- what X is begins with a word of B
abbrev Begins : (Option Lexeme → Type 0) → Part → Type 0
Begins B X = (n : Count) (x : AstExpr) (ts us : Items) → X n x ts us → B (head_word ts)

atom_begins : (d : ℕ) → Begins BeginsPart (Atom d)
atom_begins d n x ts us (g.column e y a b h) = begun BeginsPart (lex.Name y.name) y.at a b h tt
atom_begins d n x ts us (g.literal e y a b h) = begun BeginsPart (literal_word y.value) y.at a b h (literal_begins y.value)
atom_begins d n x ts us (g.function e m at a b f y t1 t2 t3 t4 t5 h1 h2 h3 h4) = begun BeginsPart (lex.Key (fun_word f)) at t1 t2 h1 (fun_begins f)
atom_begins d n x ts us (g.inside e m a b y t1 t2 t3 t4 h1 h2 h3) = begun BeginsPart (lex.Sign Open) a t1 t2 h1 tt

chain_begins : (B : Option Lexeme → Type 0) (tightly : ℕ) (X : Part) → Begins B X → Begins B (Chain tightly X)
chain_begins B tightly X bx n x ts us (one m y a b h) = bx m y a b h
chain_begins B tightly X bx n x ts us (more l m at op a b t1 t2 t3 t4 e h1 h2 h3) = chain_begins B tightly X bx l a t1 t2 h1

pair_begins : (B : Option Lexeme → Type 0) (tightly : ℕ) (X : Part) → Begins B X → Begins B (Pair tightly X)
pair_begins B tightly X bx n x ts us (alone m y a b h) = bx m y a b h
pair_begins B tightly X bx n x ts us (both l m at op a b t1 t2 t3 t4 e h1 h2 h3) = bx l a t1 t2 h1

begins_within : (B : Option Lexeme → Type 0) (X Y : Part) → Within X Y → Begins B Y → Begins B X
begins_within B X Y w by n x ts us h = by n x ts us (w n x ts us h)

cmp_begins : (d : ℕ) → Begins BeginsPart (Cmp d)
cmp_begins d =
    let prod = begins_within BeginsPart (Prod d) (Chain 5 (Atom d)) (prod_chain d) (chain_begins BeginsPart 5 (Atom d) (atom_begins d)) in
    let sum = begins_within BeginsPart (Sum d) (Chain 4 (Prod d)) (sum_chain d) (chain_begins BeginsPart 4 (Prod d) prod) in
    let cat = begins_within BeginsPart (Cat d) (Chain 3 (Sum d)) (cat_chain d) (chain_begins BeginsPart 3 (Sum d) sum) in
    begins_within BeginsPart (Cmp d) (Pair 2 (Cat d)) (cmp_pair d) (pair_begins BeginsPart 2 (Cat d) cat)

-- a word that is not `if`
abbrev NoIf : Option Lexeme → Type 0
NoIf (Some (lex.Key key.If)) = ⊥
NoIf w = Unit {0}

part_no_if : (w : Option Lexeme) → BeginsPart w → NoIf w
part_no_if (Some (lex.Key key.Not)) h = tt
part_no_if (Some (lex.Key key.If)) h = h
part_no_if w h = tt

not_begins : (d : ℕ) → Begins NoIf (Not d)
not_begins d n x ts us (g.cmp e m y a b h) = part_no_if (head_word a) (cmp_begins e m y a b h)
not_begins d n x ts us (g.negated e m at y t1 t2 t3 h1 h2) = begun NoIf (lex.Key key.Not) at t1 t2 h1 tt

or_begins : (d : ℕ) → Begins NoIf (Or d)
or_begins d =
    let and = begins_within NoIf (And d) (Chain 1 (Not d)) (and_chain d) (chain_begins NoIf 1 (Not d) (not_begins d)) in
    begins_within NoIf (Or d) (Chain 0 (And d)) (or_chain d) (chain_begins NoIf 0 (And d) and)

-- ---- each rule, where what is a level deeper is read

-- P of the level below
abbrev pub Below : (ℕ → Type 0) → ℕ → Type 0
Below P d = (e : ℕ) → d ≡ suc e → P e

pub by_levels : (P : ℕ → Type 0) → ((d : ℕ) → Below P d → P d) → (d : ℕ) → P d
by_levels P make zero = make zero (λ e h. absurd (omega (arith, h)))
by_levels P make (suc d) = make (suc d) (λ e h. let same : d ≡ e = omega (arith, h) in subst P same (by_levels P make d))

pub deeper_expr-suc : (limit : Count) (d : ℕ) (taken : Count) (ts : Items) → r.deeper_expr limit (suc d) taken ts ≡ r.expr limit d taken ts
unfolding r.deeper_expr r.expr r.disjunction r.negation r.comparison r.atom
deeper_expr-suc limit d taken ts = refl

pub deeper_not-suc : (limit : Count) (d : ℕ) (taken : Count) (ts : Items) → r.deeper_not limit (suc d) taken ts ≡ r.negation limit d taken ts
unfolding r.deeper_not r.negation r.comparison r.atom
deeper_not-suc limit d taken ts = refl

-- an expression, and the operand of a `not`
abbrev LevelReads : Count → ℕ → Type 0
LevelReads limit d = PartReads limit 0 (Expr d) (r.expr limit d) × PartReads limit 2 (Not d) (r.negation limit d)

inner_reads : (limit : Count) (d : ℕ) → PartReads limit 0 (Expr d) (r.expr limit d) → PartReads limit 0 (Expr d) (r.deeper_expr limit (suc d))
inner_reads limit d h n x ts us s k j total le after = deeper_expr-suc limit d k ts ∙ h n x ts us s k j total le after

opening_reads : (w : Lexeme) (d at : ℕ) (ts us : Items) → Word w at ts us → r.opening (suc d) ts ≡ read_of at us
unfolding r.opening
opening_reads w d at ts us h = skip_is w at ts us h

literal_chosen : (levels : ℕ) (i : ExprReader) (k : Count) (v : AstValue) (ts : Items) → r.atom_by levels i k (Some (literal_word v)) ts ≡ r.call_by levels i k None ts
literal_chosen levels i k (val.Number n) ts = refl
literal_chosen levels i k (val.Text content) ts = refl
literal_chosen levels i k (val.Flag true) ts = refl
literal_chosen levels i k (val.Flag false) ts = refl
literal_chosen levels i k val.Inf ts = refl
literal_chosen levels i k val.None ts = refl

fun_chosen : (levels : ℕ) (i : ExprReader) (k : Count) (f : FunOp) (ts : Items) → r.atom_by levels i k (Some (lex.Key (fun_word f))) ts ≡ r.call f levels i k ts
fun_chosen levels i k fun.Num ts = refl
fun_chosen levels i k fun.Dist ts = refl
fun_chosen levels i k fun.Len ts = refl
fun_chosen levels i k fun.Path ts = refl
fun_chosen levels i k fun.Text ts = refl

atom_from : (limit : Count) (d : ℕ) → Below (LevelReads limit) d → PartReads limit 6 (Atom d) (r.atom limit d)
unfolding r.atom
atom_from limit d below n x ts us (g.column e y a b h) k j total le after =
    chosen (r.atom_by e (r.deeper_expr limit e) k) a (Some (lex.Name y.name)) (read_of _ b) (head_is _ y.at a b h)
    (step name (λ z. give (expr_at z.at (form.Column z.name), k)) a y b (read_of _ b) (name_reads y a b h) (ap (λ (q : Count). read_of (expr_at y.at (form.Column y.name), q) b) (sum_none k j total)))
atom_from limit d below n x ts us (g.literal e y a b h) k j total le after =
    chosen (r.atom_by e (r.deeper_expr limit e) k) a (Some (literal_word y.value)) (read_of _ b) (head_is _ y.at a b h)
    (literal_chosen e (r.deeper_expr limit e) k y.value a ∙ step lit (λ z. give (expr_at z.at (literal_form z.value), k)) a y b (read_of _ b) (lit_reads y a b h) (ap (λ (q : Count). read_of (expr_at y.at (literal_form y.value), q) b) (sum_none k j total)))
atom_from limit d below n x ts us (g.function e m at a b f y t1 t2 t3 t4 t5 h1 h2 h3 h4) k j total le after =
    let i = r.deeper_expr limit (suc e) in
    let whole : Read CountedExpr = read_of (expr_at at (form.Fun f y), j) t5 in
    chosen (r.atom_by (suc e) i k) t1 (Some (lex.Key (fun_word f))) whole (head_is _ at t1 t2 h1)
    (fun_chosen (suc e) i k f t1 ∙ step (r.opening (suc e)) (r.call_rest f i k) t1 at t2 whole (opening_reads _ e at t1 t2 h1)
    (step (sign Open) (λ from. i k >>= λ z. sign Close >>= λ end. give (expr_at at (form.Fun f z.0), z.1)) t2 a t3 whole (sign_reads Open a t2 t3 h2)
    (step (i k) (λ z. sign Close >>= λ end. give (expr_at at (form.Fun f z.0), z.1)) t3 (y, j) t4 whole (inner_reads limit e (below e refl).0 m y t3 t4 h3 k j total le (ends _ b t4 t5 h4 tt))
    (step (sign Close) (λ end. give (expr_at at (form.Fun f y), j)) t4 b t5 whole (sign_reads Close b t4 t5 h4) refl))))
atom_from limit d below n x ts us (g.inside e m a b y t1 t2 t3 t4 h1 h2 h3) k j total le after =
    let i = r.deeper_expr limit (suc e) in
    let whole : Read CountedExpr = read_of (y, j) t4 in
    chosen (r.atom_by (suc e) i k) t1 (Some (lex.Sign Open)) whole (head_is _ a t1 t2 h1)
    (step (r.opening (suc e)) (r.brackets_rest i k) t1 a t2 whole (opening_reads _ e a t1 t2 h1)
    (step (i k) (λ z. sign Close >>= λ end. give z) t2 (y, j) t3 whole (inner_reads limit e (below e refl).0 m y t2 t3 h2 k j total le (ends _ b t3 t4 h3 tt))
    (step (sign Close) (λ end. give (y, j)) t3 b t4 whole (sign_reads Close b t3 t4 h3) refl)))

comparison_from : (limit : Count) (d : ℕ) → Below (LevelReads limit) d → PartReads limit 2 (Cmp d) (r.comparison limit d)
unfolding r.comparison
comparison_from limit d below =
    let a = r.atom limit d in
    let p = r.product_with limit a in
    let s = r.sum_with limit a in
    let c = r.cat_with limit a in
    let ip = product_with-reads limit a (atom-reads limit d) in
    let is = sum_with-reads limit a (atom-reads limit d) in
    let prod = reads_within limit 5 (Prod d) (Chain 5 (Atom d)) p (prod_chain d) (chain_reads limit 5 (Atom d) a (atom-reads limit d) (atom_from limit d below)) in
    let sum = reads_within limit 4 (Sum d) (Chain 4 (Prod d)) s (sum_chain d) (chain_reads limit 4 (Prod d) p ip prod) in
    let cat = reads_within limit 3 (Cat d) (Chain 3 (Sum d)) c (cat_chain d) (chain_reads limit 3 (Sum d) s is sum) in
    reads_within limit 2 (Cmp d) (Pair 2 (Cat d)) (r.comparison_with limit a) (cmp_pair d) (pair_reads limit 2 (Cat d) c cat)

negation_else : (levels : ℕ) (i c : ExprReader) (k : Count) (w : Option Lexeme) (ts : Items) → BeginsPart w → r.negation_by levels i c k w ts ≡ c k ts
negation_else levels i c k (Some (lex.Key key.Not)) ts h = absurd h
negation_else levels i c k w ts h = refl

negation_from : (limit : Count) (d : ℕ) → Below (LevelReads limit) d → PartReads limit 2 (Not d) (r.negation limit d)
unfolding r.negation
negation_from limit d below n x ts us (g.cmp e m y a b h) k j total le after =
    negation_else e (r.deeper_not limit e) (r.comparison limit e) k (head_word a) a (cmp_begins e m y a b h) ∙ comparison_from limit e below m y a b h k j total le after
negation_from limit d below n x ts us (g.negated e m at y t1 t2 t3 h1 h2) k j total le after =
    let i = r.deeper_not limit (suc e) in
    let whole : Read CountedExpr = read_of (expr_at at (form.Not y), j) t3 in
    chosen (r.negation_by (suc e) i (r.comparison limit (suc e)) k) t1 (Some (lex.Key key.Not)) whole (head_is _ at t1 t2 h1)
    (step (r.opening (suc e)) (r.negated_rest i k) t1 at t2 whole (opening_reads _ e at t1 t2 h1)
    (step (i k) (λ z. give (expr_at at (form.Not z.0), z.1)) t2 (y, j) t3 whole (deeper_not-suc limit e k t2 ∙ (below e refl).1 m y t2 t3 h2 k j total le after) refl))

disjunction_from : (limit : Count) (d : ℕ) → Below (LevelReads limit) d → PartReads limit 0 (Or d) (r.disjunction limit d)
unfolding r.disjunction
disjunction_from limit d below =
    let n = r.negation limit d in
    let c = r.conjunction_with limit n in
    let and = reads_within limit 1 (And d) (Chain 1 (Not d)) c (and_chain d) (chain_reads limit 1 (Not d) n (negation-reads limit d) (negation_from limit d below)) in
    reads_within limit 0 (Or d) (Chain 0 (And d)) (r.disjunction_with limit n) (or_chain d) (chain_reads limit 0 (And d) c (conjunction_with-reads limit n (negation-reads limit d)) and)

expr_else : (levels : ℕ) (i o : ExprReader) (k : Count) (w : Option Lexeme) (ts : Items) → NoIf w → r.expr_by levels i o k w ts ≡ o k ts
expr_else levels i o k (Some (lex.Key key.If)) ts h = absurd h
expr_else levels i o k w ts h = refl

expr_from : (limit : Count) (d : ℕ) → Below (LevelReads limit) d → PartReads limit 0 (Expr d) (r.expr limit d)
unfolding r.expr
expr_from limit d below n x ts us (g.lone_or e m y a b h) k j total le after =
    expr_else e (r.deeper_expr limit e) (r.disjunction limit e) k (head_word a) a (or_begins e m y a b h) ∙ disjunction_from limit e below m y a b h k j total le after
expr_from limit d below n x ts us (g.branches e l m p at a b c y z t1 t2 t3 t4 t5 t6 t7 h1 h2 h3 h4 h5 h6) k j total le after =
    let i = r.deeper_expr limit (suc e) in
    let inner = inner_reads limit e (below e refl).0 in
    let k1 = together k l in
    let k2 = together k1 m in
    let whole : Read CountedExpr = read_of (expr_at at (form.If c y z), j) t7 in
    let first = inner l c t2 t3 h2 k k1 (refl, refl) (omega (arith, total.0, le.0), omega (arith, total.1, le.1)) (ends _ a t3 t4 h3 tt) in
    let second = inner m y t4 t5 h4 k1 k2 (refl, refl) (omega (arith, total.0, le.0), omega (arith, total.1, le.1)) (ends _ b t5 t6 h5 tt) in
    let third = inner p z t6 t7 h6 k2 j (omega (arith, total.0), omega (arith, total.1)) le after in
    chosen (r.expr_by (suc e) i (r.disjunction limit (suc e)) k) t1 (Some (lex.Key key.If)) whole (head_is _ at t1 t2 h1)
    (step (r.opening (suc e)) (r.branches_rest i k) t1 at t2 whole (opening_reads _ e at t1 t2 h1)
    (step (i k) (λ q. keyword key.Then >>= λ from. i q.1 >>= λ u. keyword key.Else >>= λ to. i u.1 >>= λ v. give (expr_at at (form.If q.0 u.0 v.0), v.1)) t2 (c, k1) t3 whole first
    (step (keyword key.Then) (λ from. i k1 >>= λ u. keyword key.Else >>= λ to. i u.1 >>= λ v. give (expr_at at (form.If c u.0 v.0), v.1)) t3 a t4 whole (keyword_reads key.Then a t3 t4 h3)
    (step (i k1) (λ u. keyword key.Else >>= λ to. i u.1 >>= λ v. give (expr_at at (form.If c u.0 v.0), v.1)) t4 (y, k2) t5 whole second
    (step (keyword key.Else) (λ to. i k2 >>= λ v. give (expr_at at (form.If c y v.0), v.1)) t5 b t6 whole (keyword_reads key.Else b t5 t6 h5)
    (step (i k2) (λ v. give (expr_at at (form.If c y v.0), v.1)) t6 (z, j) t7 whole third refl))))))

level_reads : (limit : Count) (d : ℕ) → LevelReads limit d
level_reads limit d = by_levels (LevelReads limit) (λ e below. (expr_from limit e below, negation_from limit e below)) d

-- Where k was counted before, j is with what the expression has. The word behind it is no operator.
pub expr_reads : (limit : Count) (d : ℕ) (n : Count) (x : AstExpr) (ts us : Items) → Expr d n x ts us → (k j : Count) → IsSum k n j → IsWithin j limit → Looser 0 (head_word us) → r.expr limit d k ts ≡ read_of (x, j) us
expr_reads limit d n x ts us h k j total le after = (level_reads limit d).0 n x ts us h k j total le after
