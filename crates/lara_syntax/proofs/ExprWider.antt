-- Each rule of expressions with wider limits: it gives the same, or goes past the word of which there are too many.
use Rattle.std.proofs.Common.{inl, inr, ◌≡◌, ℕ, zero, suc, ◌<◌, [], ◌∷◌, length, Option, Some, None, Bool, true, false, cond, nat_lt, refl, ap, arith}
use Rattle.std.proofs.lemmas.Bool.{ltb-true, lt-ltb}
use Rattle.lara_data.specs.declared.expr.TwoOp.{TwoOp}
use Rattle.lara_data.specs.declared.expr.FunOp.{FunOp}
use Rattle.lara_data.specs.declared.refusal.Kind.TheVariants.{TooMany}
use Rattle.lara_syntax.specs.declared.item.Item.{Item}
use Rattle.lara_syntax.specs.declared.item.Lexeme.{Lexeme}
use Rattle.lara_syntax.specs.declared.item.Lexeme.TheVariants as lex
use Rattle.lara_syntax.specs.declared.item.Keyword.TheVariants as key
use Rattle.lara_syntax.specs.declared.item.Sign.TheVariants.{Open, Close}
use Rattle.lara_syntax.specs.declared.count.Count.{Count}
use Rattle.lara_syntax.specs.declared.ast_expr.AstForm.TheVariants as form
use Rattle.lara_syntax.specs.Limits.{one_sign, IsWithin}
use Rattle.lara_syntax.specs.ExprGrammar.{expr_at, two_at, literal_form, fun_word}
use Rattle.lara_syntax.specs.ExprReading as r
use Rattle.lara_syntax.specs.ExprReading.{CountedExpr, ExprReader}
use Rattle.lara_syntax.specs.WordReading.{sign, keyword, name, lit, next_as}
use Rattle.lara_syntax.specs.Steps.{Items, Reader, ◌>>=◌, give, refuse, skip, turns, head_word}
use Rattle.lara_syntax.proofs.Counts.{AreWithin}
use Rattle.lara_syntax.proofs.Readers.{IsReader, reads_bind, reads_give}
use Rattle.lara_syntax.proofs.RuleReaders.{sign-reads, keyword-reads}
use Rattle.lara_syntax.proofs.PlainRules.{sign-plain, keyword-plain, name-plain, lit-plain}
use Rattle.lara_syntax.proofs.Wider.{LessCount, Wider, Widens, always, wider_onward, widens_bind, widens_give, widens_plain, wider_of}
use Rattle.lara_syntax.proofs.WiderTurns.{some_of, turns_widen}
use Rattle.lara_syntax.proofs.ExprReaders.{ReadEach, right_of, right_of-reads, some_of as given, operated-reads, operated-shorter, turns-reads, paired-reads, call_rest-reads, brackets_rest-reads, negated_rest-reads, branches_rest-reads, deeper_expr-reads, deeper_not-reads, atom-reads, product_with-reads, sum_with-reads, cat_with-reads, conjunction_with-reads, negation-reads}
use Rattle.lara_syntax.proofs.ExprChains.{two_word, next_two-is}
use Rattle.lara_syntax.proofs.ExprComplete.{Below, by_levels, deeper_expr-suc, deeper_not-suc}
use Rattle.lara_syntax.proofs.ExprSound.{next_fun-is}

abbrev pub PartWidens : Count → ExprReader → ExprReader → Type 0
PartWidens limit p q = (taken : Count) → IsWithin taken limit → Widens (AreWithin limit) (p taken) (q taken)

-- ---- operators

sign_wider : (b c : Bool) (P : Type 0) → (b ≡ true → P) → c ≡ true → (t : Item) (us : Items) → Wider (λ (at : ℕ). P) (cond b skip (refuse TooMany) (t ∷ us)) (cond c skip (refuse TooMany) (t ∷ us))
sign_wider true true P f e t us = inl (refl, f refl)
sign_wider false true P f e t us = inr (record { left = suc (length us); kind = TooMany }, refl, refl, omega arith)
sign_wider b false P f e t us = absurd cc

sign_widens : (limit more taken : Count) → LessCount limit more → IsWithin taken limit → (ts : Items) (w : Lexeme) → head_word ts ≡ Some w → Wider (λ (at : ℕ). taken.signs < limit.signs) (r.operator_sign limit taken ts) (r.operator_sign more taken ts)
unfolding r.operator_sign
sign_widens limit more taken lt le [] w h = absurd cc
sign_widens limit more taken lt le (t ∷ us) w h = sign_wider (nat_lt taken.signs limit.signs) (nat_lt taken.signs more.signs) (taken.signs < limit.signs) (ltb-true taken.signs limit.signs) (lt-ltb taken.signs more.signs (omega (arith, lt.1, le.1))) t us

joined_widens : (limit more : Count) → LessCount limit more → (p q : ExprReader) → ReadEach q → PartWidens limit p q → (left : CountedExpr) → AreWithin limit left → (op : TwoOp) (ts : Items) (w : Lexeme) → head_word ts ≡ Some w → Wider (AreWithin limit) (r.joined limit p left op ts) (r.joined more q left op ts)
joined_widens limit more lt p q iq pw left le op ts w h =
    wider_onward (λ at. (left.1).signs < limit.signs) (AreWithin limit) (right_of p left op) (right_of q left op)
    (λ at room. widens_bind (AreWithin limit) (AreWithin limit) (p (one_sign left.1)) (q (one_sign left.1)) (λ b. give (two_at at op left.0 b.0, b.1)) (λ b. give (two_at at op left.0 b.0, b.1)) (pw (one_sign left.1) (le.0, omega (arith, room))) (λ b hb. widens_give (AreWithin limit) (two_at at op left.0 b.0, b.1) hb) (λ b. reads_give _))
    (right_of-reads q iq left op) (r.operator_sign limit left.1 ts) (r.operator_sign more left.1 ts) (sign_widens limit more left.1 lt le ts w h)

operated_by_widens : (t : ℕ) (limit more : Count) → LessCount limit more → (p q : ExprReader) → ReadEach q → PartWidens limit p q → (o : Option TwoOp) (left : CountedExpr) → AreWithin limit left → (ts : Items) → r.next_two t (head_word ts) ≡ o → Wider (some_of (AreWithin limit)) (r.operated_by limit p left o ts) (r.operated_by more q left o ts)
operated_by_widens t limit more less p q iq pw None left le ts n = inl (refl, tt)
operated_by_widens t limit more less p q iq pw (Some op) left le ts n =
    wider_onward (AreWithin limit) (some_of (AreWithin limit)) given given (λ x hx. widens_give (some_of (AreWithin limit)) (Some x) hx) (λ x. reads_give (Some x)) (r.joined limit p left op ts) (r.joined more q left op ts)
    (joined_widens limit more less p q iq pw left le op ts (two_word op) (next_two-is t (head_word ts) op n).0)

chain_widens : (t : ℕ) (limit more : Count) → LessCount limit more → (p q : ExprReader) → ReadEach p → ReadEach q → PartWidens limit p q → PartWidens limit (r.chain t limit p) (r.chain t more q)
chain_widens t limit more less p q ip iq pw taken le =
    let step = r.operated t limit p in
    let wide = r.operated t more q in
    widens_bind (AreWithin limit) (AreWithin limit) (p taken) (q taken) (turns step) (turns wide) (pw taken le)
    (turns_widen (AreWithin limit) step wide (operated-shorter t limit p ip) (operated-shorter t more q iq) (operated-reads t more q iq) (λ left hl ts. operated_by_widens t limit more less p q iq pw (r.next_two t (head_word ts)) left hl ts refl))
    (turns-reads t more q iq)

pair_by_widens : (t : ℕ) (limit more : Count) → LessCount limit more → (p q : ExprReader) → ReadEach q → PartWidens limit p q → (o : Option TwoOp) (left : CountedExpr) → AreWithin limit left → (ts : Items) → r.next_two t (head_word ts) ≡ o → Wider (AreWithin limit) (r.pair_by limit p left o ts) (r.pair_by more q left o ts)
pair_by_widens t limit more less p q iq pw None left le ts n = inl (refl, le)
pair_by_widens t limit more less p q iq pw (Some op) left le ts n = joined_widens limit more less p q iq pw left le op ts (two_word op) (next_two-is t (head_word ts) op n).0

pair_widens : (t : ℕ) (limit more : Count) → LessCount limit more → (p q : ExprReader) → ReadEach q → PartWidens limit p q → PartWidens limit (r.pair t limit p) (r.pair t more q)
pair_widens t limit more less p q iq pw taken le =
    widens_bind (AreWithin limit) (AreWithin limit) (p taken) (q taken) (r.paired t limit p) (r.paired t more q) (pw taken le) (λ left hl ts. pair_by_widens t limit more less p q iq pw (r.next_two t (head_word ts)) left hl ts refl) (paired-reads t more q iq)

-- ---- each rule, where what is a level deeper widens

-- there is a level
abbrev IsLevel : ℕ → Type 0
IsLevel levels = (e : ℕ) × (levels ≡ suc e)

abbrev LevelWidens : Count → Count → ℕ → Type 0
LevelWidens limit more levels = (deeper : ℕ) → levels < deeper → PartWidens limit (r.expr limit levels) (r.expr more deeper) × PartWidens limit (r.negation limit levels) (r.negation more deeper)

opening_widens : (levels deeper : ℕ) → levels < deeper → (ts : Items) (w : Lexeme) → head_word ts ≡ Some w → Wider (λ (at : ℕ). IsLevel levels) (r.opening levels ts) (r.opening deeper ts)
unfolding r.opening
opening_widens levels zero lt ts w h = absurd (omega (arith, lt))
opening_widens levels (suc deeper) lt [] w h = absurd cc
opening_widens zero (suc deeper) lt (t ∷ us) w h = inr (record { left = suc (length us); kind = TooMany }, refl, refl, omega arith)
opening_widens (suc levels) (suc deeper) lt (t ∷ us) w h = inl (refl, (levels, refl))

opened_widens : (limit : Count) (levels deeper : ℕ) → levels < deeper → (f g : ℕ → Reader CountedExpr) → ((at : ℕ) → IsLevel levels → Widens (AreWithin limit) (f at) (g at)) → ((at : ℕ) → IsReader (g at)) → (ts : Items) (w : Lexeme) → head_word ts ≡ Some w → Wider (AreWithin limit) ((r.opening levels >>= f) ts) ((r.opening deeper >>= g) ts)
opened_widens limit levels deeper lt f g wf ig ts w h = wider_onward (λ at. IsLevel levels) (AreWithin limit) f g wf ig (r.opening levels ts) (r.opening deeper ts) (opening_widens levels deeper lt ts w h)

inner_widens : (limit more : Count) (levels deeper : ℕ) → levels < deeper → Below (LevelWidens limit more) levels → IsLevel levels → PartWidens limit (r.deeper_expr limit levels) (r.deeper_expr more deeper)
inner_widens limit more levels zero lt below some taken le ts = absurd (omega (arith, lt))
inner_widens limit more zero (suc deeper) lt below some taken le ts = absurd (omega (arith, some.1))
inner_widens limit more (suc levels) (suc deeper) lt below some taken le ts =
    wider_of (AreWithin limit) (r.deeper_expr limit (suc levels) taken ts) (r.expr limit levels taken ts) (r.deeper_expr more (suc deeper) taken ts) (r.expr more deeper taken ts) (deeper_expr-suc limit levels taken ts) (deeper_expr-suc more deeper taken ts)
    ((below levels refl deeper (omega (arith, lt))).0 taken le ts)

inner_not_widens : (limit more : Count) (levels deeper : ℕ) → levels < deeper → Below (LevelWidens limit more) levels → IsLevel levels → PartWidens limit (r.deeper_not limit levels) (r.deeper_not more deeper)
inner_not_widens limit more levels zero lt below some taken le ts = absurd (omega (arith, lt))
inner_not_widens limit more zero (suc deeper) lt below some taken le ts = absurd (omega (arith, some.1))
inner_not_widens limit more (suc levels) (suc deeper) lt below some taken le ts =
    wider_of (AreWithin limit) (r.deeper_not limit (suc levels) taken ts) (r.negation limit levels taken ts) (r.deeper_not more (suc deeper) taken ts) (r.negation more deeper taken ts) (deeper_not-suc limit levels taken ts) (deeper_not-suc more deeper taken ts)
    ((below levels refl deeper (omega (arith, lt))).1 taken le ts)

-- what is closed by `)`
closed_widens : (limit : Count) (y : CountedExpr) → AreWithin limit y → Widens (AreWithin limit) (sign Close >>= λ end. give y) (sign Close >>= λ end. give y)
closed_widens limit y le = widens_bind always (AreWithin limit) (sign Close) (sign Close) (λ end. give y) (λ end. give y) (widens_plain (sign Close) (sign-plain Close)) (λ end he. widens_give (AreWithin limit) y le) (λ end. reads_give y)

closed-reads : (y : CountedExpr) → IsReader (sign Close >>= λ end. give y)
closed-reads y = reads_bind (sign Close) _ (sign-reads Close) (λ end. reads_give y)

call_rest_widens : (limit : Count) (f : FunOp) (i j : ExprReader) → ReadEach j → PartWidens limit i j → (taken : Count) → IsWithin taken limit → (at : ℕ) → Widens (AreWithin limit) (r.call_rest f i taken at) (r.call_rest f j taken at)
call_rest_widens limit f i j ij w taken le at =
    widens_bind always (AreWithin limit) (sign Open) (sign Open) (λ from. i taken >>= λ x. sign Close >>= λ end. give (expr_at at (form.Fun f x.0), x.1)) (λ from. j taken >>= λ x. sign Close >>= λ end. give (expr_at at (form.Fun f x.0), x.1)) (widens_plain (sign Open) (sign-plain Open))
    (λ from hf. widens_bind (AreWithin limit) (AreWithin limit) (i taken) (j taken) (λ x. sign Close >>= λ end. give (expr_at at (form.Fun f x.0), x.1)) (λ x. sign Close >>= λ end. give (expr_at at (form.Fun f x.0), x.1)) (w taken le) (λ x hx. closed_widens limit (expr_at at (form.Fun f x.0), x.1) hx) (λ x. closed-reads _))
    (λ from. reads_bind (j taken) _ (ij taken) (λ x. closed-reads _))

brackets_rest_widens : (limit : Count) (i j : ExprReader) → PartWidens limit i j → (taken : Count) → IsWithin taken limit → (at : ℕ) → Widens (AreWithin limit) (r.brackets_rest i taken at) (r.brackets_rest j taken at)
brackets_rest_widens limit i j w taken le at = widens_bind (AreWithin limit) (AreWithin limit) (i taken) (j taken) (λ x. sign Close >>= λ end. give x) (λ x. sign Close >>= λ end. give x) (w taken le) (λ x hx. closed_widens limit x hx) closed-reads

negated_rest_widens : (limit : Count) (i j : ExprReader) → PartWidens limit i j → (taken : Count) → IsWithin taken limit → (at : ℕ) → Widens (AreWithin limit) (r.negated_rest i taken at) (r.negated_rest j taken at)
negated_rest_widens limit i j w taken le at = widens_bind (AreWithin limit) (AreWithin limit) (i taken) (j taken) (λ x. give (expr_at at (form.Not x.0), x.1)) (λ x. give (expr_at at (form.Not x.0), x.1)) (w taken le) (λ x hx. widens_give (AreWithin limit) (expr_at at (form.Not x.0), x.1) hx) (λ x. reads_give _)

-- the parts of an `if` behind its condition, behind its first branch
abbrev pub second_branch : ℕ → ExprReader → CountedExpr → CountedExpr → Reader CountedExpr
second_branch at i c x = keyword key.Else >>= λ to. i x.1 >>= λ y. give (expr_at at (form.If c.0 x.0 y.0), y.1)

abbrev pub first_branch : ℕ → ExprReader → CountedExpr → Reader CountedExpr
first_branch at i c = keyword key.Then >>= λ from. i c.1 >>= second_branch at i c

pub second_branch-reads : (at : ℕ) (i : ExprReader) → ReadEach i → (c x : CountedExpr) → IsReader (second_branch at i c x)
second_branch-reads at i ii c x = reads_bind (keyword key.Else) _ (keyword-reads key.Else) (λ to. reads_bind (i x.1) _ (ii x.1) (λ y. reads_give _))

pub first_branch-reads : (at : ℕ) (i : ExprReader) → ReadEach i → (c : CountedExpr) → IsReader (first_branch at i c)
first_branch-reads at i ii c = reads_bind (keyword key.Then) _ (keyword-reads key.Then) (λ from. reads_bind (i c.1) _ (ii c.1) (second_branch-reads at i ii c))

second_branch_widens : (limit : Count) (at : ℕ) (i j : ExprReader) → ReadEach j → PartWidens limit i j → (c x : CountedExpr) → AreWithin limit x → Widens (AreWithin limit) (second_branch at i c x) (second_branch at j c x)
second_branch_widens limit at i j ij w c x hx =
    widens_bind always (AreWithin limit) (keyword key.Else) (keyword key.Else) (λ to. i x.1 >>= λ y. give (expr_at at (form.If c.0 x.0 y.0), y.1)) (λ to. j x.1 >>= λ y. give (expr_at at (form.If c.0 x.0 y.0), y.1)) (widens_plain (keyword key.Else) (keyword-plain key.Else))
    (λ to ht. widens_bind (AreWithin limit) (AreWithin limit) (i x.1) (j x.1) (λ y. give (expr_at at (form.If c.0 x.0 y.0), y.1)) (λ y. give (expr_at at (form.If c.0 x.0 y.0), y.1)) (w x.1 hx) (λ y hy. widens_give (AreWithin limit) (expr_at at (form.If c.0 x.0 y.0), y.1) hy) (λ y. reads_give _))
    (λ to. reads_bind (j x.1) _ (ij x.1) (λ y. reads_give _))

first_branch_widens : (limit : Count) (at : ℕ) (i j : ExprReader) → ReadEach j → PartWidens limit i j → (c : CountedExpr) → AreWithin limit c → Widens (AreWithin limit) (first_branch at i c) (first_branch at j c)
first_branch_widens limit at i j ij w c hc =
    widens_bind always (AreWithin limit) (keyword key.Then) (keyword key.Then) (λ from. i c.1 >>= second_branch at i c) (λ from. j c.1 >>= second_branch at j c) (widens_plain (keyword key.Then) (keyword-plain key.Then))
    (λ from hf. widens_bind (AreWithin limit) (AreWithin limit) (i c.1) (j c.1) (second_branch at i c) (second_branch at j c) (w c.1 hc) (second_branch_widens limit at i j ij w c) (second_branch-reads at j ij c))
    (λ from. reads_bind (j c.1) _ (ij c.1) (second_branch-reads at j ij c))

branches_rest_widens : (limit : Count) (i j : ExprReader) → ReadEach j → PartWidens limit i j → (taken : Count) → IsWithin taken limit → (at : ℕ) → Widens (AreWithin limit) (r.branches_rest i taken at) (r.branches_rest j taken at)
branches_rest_widens limit i j ij w taken le at = widens_bind (AreWithin limit) (AreWithin limit) (i taken) (j taken) (first_branch at i) (first_branch at j) (w taken le) (first_branch_widens limit at i j ij w) (first_branch-reads at j ij)

call_by_widens : (limit more : Count) (levels deeper : ℕ) → levels < deeper → Below (LevelWidens limit more) levels → (taken : Count) → IsWithin taken limit → (o : Option FunOp) (ts : Items) → next_as r.fun_of (head_word ts) ≡ o → Wider (AreWithin limit) (r.call_by levels (r.deeper_expr limit levels) taken o ts) (r.call_by deeper (r.deeper_expr more deeper) taken o ts)
call_by_widens limit more levels deeper lt below taken le (Some f) ts h =
    let i = r.deeper_expr limit levels in
    let j = r.deeper_expr more deeper in
    let ij = deeper_expr-reads more deeper in
    opened_widens limit levels deeper lt (r.call_rest f i taken) (r.call_rest f j taken) (λ at some. call_rest_widens limit f i j ij (inner_widens limit more levels deeper lt below some) taken le at) (call_rest-reads f j ij taken) ts (lex.Key (fun_word f)) (next_fun-is (head_word ts) f h)
call_by_widens limit more levels deeper lt below taken le None ts h =
    widens_bind always (AreWithin limit) lit lit (λ x. give (expr_at x.at (literal_form x.value), taken)) (λ x. give (expr_at x.at (literal_form x.value), taken)) (widens_plain lit lit-plain) (λ x hx. widens_give (AreWithin limit) (expr_at x.at (literal_form x.value), taken) le) (λ x. reads_give _) ts

atom_by_widens : (limit more : Count) (levels deeper : ℕ) → levels < deeper → Below (LevelWidens limit more) levels → (taken : Count) → IsWithin taken limit → (w : Option Lexeme) (ts : Items) → head_word ts ≡ w → Wider (AreWithin limit) (r.atom_by levels (r.deeper_expr limit levels) taken w ts) (r.atom_by deeper (r.deeper_expr more deeper) taken w ts)
atom_by_widens limit more levels deeper lt below taken le (Some (lex.Name n)) ts h =
    widens_bind always (AreWithin limit) name name (λ x. give (expr_at x.at (form.Column x.name), taken)) (λ x. give (expr_at x.at (form.Column x.name), taken)) (widens_plain name name-plain) (λ x hx. widens_give (AreWithin limit) (expr_at x.at (form.Column x.name), taken) le) (λ x. reads_give _) ts
atom_by_widens limit more levels deeper lt below taken le (Some (lex.Sign Open)) ts h =
    let i = r.deeper_expr limit levels in
    let j = r.deeper_expr more deeper in
    opened_widens limit levels deeper lt (r.brackets_rest i taken) (r.brackets_rest j taken) (λ at some. brackets_rest_widens limit i j (inner_widens limit more levels deeper lt below some) taken le at) (brackets_rest-reads j (deeper_expr-reads more deeper) taken) ts (lex.Sign Open) h
atom_by_widens limit more levels deeper lt below taken le w ts h = call_by_widens limit more levels deeper lt below taken le (next_as r.fun_of w) ts (ap (next_as r.fun_of) h)

atom_from : (limit more : Count) (levels deeper : ℕ) → levels < deeper → Below (LevelWidens limit more) levels → PartWidens limit (r.atom limit levels) (r.atom more deeper)
unfolding r.atom
atom_from limit more levels deeper lt below taken le ts = atom_by_widens limit more levels deeper lt below taken le (head_word ts) ts refl

comparison_from : (limit more : Count) → LessCount limit more → (levels deeper : ℕ) → levels < deeper → Below (LevelWidens limit more) levels → PartWidens limit (r.comparison limit levels) (r.comparison more deeper)
unfolding r.comparison
comparison_from limit more less levels deeper lt below =
    let a = r.atom limit levels in
    let b = r.atom more deeper in
    let ia = atom-reads limit levels in
    let ib = atom-reads more deeper in
    let prod = chain_widens 5 limit more less a b ia ib (atom_from limit more levels deeper lt below) in
    let sum = chain_widens 4 limit more less (r.product_with limit a) (r.product_with more b) (product_with-reads limit a ia) (product_with-reads more b ib) prod in
    let cat = chain_widens 3 limit more less (r.sum_with limit a) (r.sum_with more b) (sum_with-reads limit a ia) (sum_with-reads more b ib) sum in
    pair_widens 2 limit more less (r.cat_with limit a) (r.cat_with more b) (cat_with-reads more b ib) cat

negation_by_widens : (limit more : Count) → LessCount limit more → (levels deeper : ℕ) → levels < deeper → Below (LevelWidens limit more) levels → (taken : Count) → IsWithin taken limit → (w : Option Lexeme) (ts : Items) → head_word ts ≡ w
    → Wider (AreWithin limit) (r.negation_by levels (r.deeper_not limit levels) (r.comparison limit levels) taken w ts) (r.negation_by deeper (r.deeper_not more deeper) (r.comparison more deeper) taken w ts)
negation_by_widens limit more less levels deeper lt below taken le (Some (lex.Key key.Not)) ts h =
    let i = r.deeper_not limit levels in
    let j = r.deeper_not more deeper in
    opened_widens limit levels deeper lt (r.negated_rest i taken) (r.negated_rest j taken) (λ at some. negated_rest_widens limit i j (inner_not_widens limit more levels deeper lt below some) taken le at) (negated_rest-reads j (deeper_not-reads more deeper) taken) ts (lex.Key key.Not) h
negation_by_widens limit more less levels deeper lt below taken le w ts h = comparison_from limit more less levels deeper lt below taken le ts

negation_from : (limit more : Count) → LessCount limit more → (levels deeper : ℕ) → levels < deeper → Below (LevelWidens limit more) levels → PartWidens limit (r.negation limit levels) (r.negation more deeper)
unfolding r.negation
negation_from limit more less levels deeper lt below taken le ts = negation_by_widens limit more less levels deeper lt below taken le (head_word ts) ts refl

disjunction_from : (limit more : Count) → LessCount limit more → (levels deeper : ℕ) → levels < deeper → Below (LevelWidens limit more) levels → PartWidens limit (r.disjunction limit levels) (r.disjunction more deeper)
unfolding r.disjunction
disjunction_from limit more less levels deeper lt below =
    let n = r.negation limit levels in
    let m = r.negation more deeper in
    let ns = negation-reads limit levels in
    let ms = negation-reads more deeper in
    let and = chain_widens 1 limit more less n m ns ms (negation_from limit more less levels deeper lt below) in
    chain_widens 0 limit more less (r.conjunction_with limit n) (r.conjunction_with more m) (conjunction_with-reads limit n ns) (conjunction_with-reads more m ms) and

expr_by_widens : (limit more : Count) → LessCount limit more → (levels deeper : ℕ) → levels < deeper → Below (LevelWidens limit more) levels → (taken : Count) → IsWithin taken limit → (w : Option Lexeme) (ts : Items) → head_word ts ≡ w
    → Wider (AreWithin limit) (r.expr_by levels (r.deeper_expr limit levels) (r.disjunction limit levels) taken w ts) (r.expr_by deeper (r.deeper_expr more deeper) (r.disjunction more deeper) taken w ts)
expr_by_widens limit more less levels deeper lt below taken le (Some (lex.Key key.If)) ts h =
    let i = r.deeper_expr limit levels in
    let j = r.deeper_expr more deeper in
    let ij = deeper_expr-reads more deeper in
    opened_widens limit levels deeper lt (r.branches_rest i taken) (r.branches_rest j taken) (λ at some. branches_rest_widens limit i j ij (inner_widens limit more levels deeper lt below some) taken le at) (branches_rest-reads j ij taken) ts (lex.Key key.If) h
expr_by_widens limit more less levels deeper lt below taken le w ts h = disjunction_from limit more less levels deeper lt below taken le ts

expr_from : (limit more : Count) → LessCount limit more → (levels deeper : ℕ) → levels < deeper → Below (LevelWidens limit more) levels → PartWidens limit (r.expr limit levels) (r.expr more deeper)
unfolding r.expr
expr_from limit more less levels deeper lt below taken le ts = expr_by_widens limit more less levels deeper lt below taken le (head_word ts) ts refl

pub expr_widens : (limit more : Count) (levels deeper : ℕ) → LessCount limit more → levels < deeper → PartWidens limit (r.expr limit levels) (r.expr more deeper)
expr_widens limit more levels deeper less lt =
    (by_levels (LevelWidens limit more) (λ l below d deep. (expr_from limit more less l d deep below, negation_from limit more less l d deep below)) levels deeper lt).0
