-- What is read is in the grammar: tables and statements.
use Rattle.std.proofs.Common.{◌≡◌, ℕ, zero, suc, ◌<◌, Bool, true, false, nat_lt, cond, List, [], ◌∷◌, Option, Some, None, refl, sym, subst, ◌∙◌, arith, length, ◌++◌, Ok, Err, append_assoc}
use Rattle.std.proofs.lemmas.List.{append-nil}
use Rattle.std.proofs.lemmas.Bool.{ltb-true}
use Rattle.lara_data.specs.declared.refusal.Kind.TheVariants.{TooMany}
use Rattle.lara_syntax.specs.declared.item.Lexeme.{Lexeme}
use Rattle.lara_syntax.specs.declared.item.Lexeme.TheVariants as lex
use Rattle.lara_syntax.specs.declared.item.Keyword.{Keyword}
use Rattle.lara_syntax.specs.declared.item.Keyword.TheVariants as key
use Rattle.lara_syntax.specs.declared.item.Sign.TheVariants.{Is, Semi, Open, Close}
use Rattle.lara_syntax.specs.declared.ast.AstBy.{AstBy}
use Rattle.lara_syntax.specs.declared.ast.AstNode.{AstNode}
use Rattle.lara_syntax.specs.declared.ast.AstOp.{AstOp}
use Rattle.lara_syntax.specs.declared.ast.AstOp.TheVariants as op
use Rattle.lara_syntax.specs.declared.ast.AstStatement.{AstStatement}
use Rattle.lara_syntax.specs.declared.ast.AstStatement.TheVariants as st
use Rattle.lara_syntax.specs.Limits.{Limits, none_counted, one_operator, together, IsWithin}
use Rattle.lara_syntax.proofs.Counts.{IsSum, Counts}
use Rattle.lara_syntax.specs.declared.count.Count.{Count}
use Rattle.lara_syntax.specs.Steps.{Items, Reader, ◌>>=◌, give, refuse, skip, head_word, Read}
use Rattle.lara_syntax.specs.Reading as r
use Rattle.lara_syntax.specs.WordReading as words
use Rattle.lara_syntax.specs.Places.{node}
use Rattle.lara_syntax.specs.Reading.{Counted, CountedDefs, CountedDef}
use Rattle.lara_syntax.specs.WordReading.{sign}
use Rattle.lara_syntax.specs.Grammar.{Operand, leaf, inside, Table, join, union, agg, rename, operand, SomeOrder, no_order, order, Statement, assign, print, map, promote, Def, KeyDef, Defs, MoreDefs, filter, def, defs, key_def, no_defs, more_defs}
use Rattle.lara_syntax.specs.WordGrammar.{Word, Many, CommaThen, comma_then}
use Rattle.lara_syntax.proofs.Levels.{inside_rest}
use Rattle.lara_syntax.proofs.Turns.{read_of, rest_is, err_ok, none_some}
use Rattle.lara_syntax.specs.declared.fault.Fault.TheVariants as faults
use Rattle.lara_syntax.proofs.TableReaders.{comma_def-one, defs-some, defs-none, defs-fail, assign_rest, print_rest, has_room, next_behind, next_behind-one}
use Rattle.lara_syntax.proofs.Readers.{bind_ok}
use Rattle.lara_syntax.proofs.SoundWords.{give_to, read_some, some_none, word_taken, sign_sound, keyword_sound, Sound, name_sound, listed, comma_none, comma_sound}
use Rattle.lara_syntax.proofs.Sound.{some_names_sound, pairs_sound, leaf_sound, val_col_sound, key_col_sound}
use Rattle.lara_syntax.specs.ExprReading.{expr}
use Rattle.lara_syntax.specs.declared.ast_part.AstDef.{AstDef}
use Rattle.lara_syntax.proofs.ExprSound.{expr_sound}

-- ---- definitions

def_sound : (limit : Count) (d : ℕ) (taken : Count) → IsWithin taken limit → Sound (λ x ts u. Counts (Def d) limit taken x ts u) (r.def limit d taken)
unfolding r.def
def_sound limit d taken le ts x u e =
    let a = bind_ok (r.val_col ts) (λ c. words.sign Is >>= λ at. expr limit d taken >>= λ y. give (record { col = c; expr = y.0 }, y.1)) (x, u) e in
    let b = bind_ok (words.sign Is a.1) (λ at. expr limit d taken >>= λ y. give (record { col = a.0; expr = y.0 }, y.1)) (x, u) a.3 in
    let c = bind_ok (expr limit d taken b.1) (λ y. give (record { col = a.0; expr = y.0 }, y.1)) (x, u) b.3 in
    let y = c.0 in
    let s = expr_sound limit d taken le b.1 y c.1 c.2 in
    give_to (λ z q. Counts (Def d) limit taken z ts q) (record { col = a.0; expr = y.0 }, y.1) c.1 x u c.3
    (record { n = s.n; total = s.total; within = s.within; stands = def s.n b.0 a.0 y.0 ts a.1 b.1 c.1 (val_col_sound ts a.0 a.1 a.2) (sign_sound Is a.1 b.0 b.1 b.2) s.stands })

key_def_sound : (limit : Count) (d : ℕ) (taken : Count) → IsWithin taken limit → Sound (λ x ts u. Counts (KeyDef d) limit taken x ts u) (r.key_def limit d taken)
unfolding r.key_def
key_def_sound limit d taken le ts x u e =
    let a = bind_ok (r.key_col ts) (λ c. words.sign Is >>= λ at. expr limit d taken >>= λ y. give (record { col = c; expr = y.0 }, y.1)) (x, u) e in
    let b = bind_ok (words.sign Is a.1) (λ at. expr limit d taken >>= λ y. give (record { col = a.0; expr = y.0 }, y.1)) (x, u) a.3 in
    let c = bind_ok (expr limit d taken b.1) (λ y. give (record { col = a.0; expr = y.0 }, y.1)) (x, u) b.3 in
    let y = c.0 in
    let s = expr_sound limit d taken le b.1 y c.1 c.2 in
    give_to (λ z q. Counts (KeyDef d) limit taken z ts q) (record { col = a.0; expr = y.0 }, y.1) c.1 x u c.3
    (record { n = s.n; total = s.total; within = s.within; stands = key_def s.n b.0 a.0 y.0 ts a.1 b.1 c.1 (key_col_sound ts a.0 a.1 a.2) (sign_sound Is a.1 b.0 b.1 b.2) s.stands })

-- definitions behind others
record Behind (limit : Count) (d : ℕ) (xs ys : CountedDefs) (ts u : Items) : Type 0 where
  pub zs : List AstDef
  pub all : ys.0 ≡ xs.0 ++ zs
  pub n : Count
  pub total : IsSum xs.1 n ys.1
  pub within : IsWithin ys.1 limit
  pub stands : MoreDefs d n zs ts u

abbrev BehindWithin : Count → ℕ → ℕ → Type 0
BehindWithin limit d n = (xs : List AstDef) (taken : Count) → IsWithin taken limit → (ts : Items) (ys : CountedDefs) (u : Items) → length ts < n → r.defs_from limit d (xs, taken) ts ≡ read_of ys u → Behind limit d (xs, taken) ys ts u

no_more : (limit : Count) (d : ℕ) (xs : List AstDef) (taken : Count) → IsWithin taken limit → (ts : Items) → Behind limit d (xs, taken) (xs, taken) ts ts
no_more limit d xs taken le ts = record { zs = []; all = sym (append-nil xs); n = none_counted; total = (omega arith, omega arith); within = le; stands = no_defs ts }

one_more : (limit : Count) (d : ℕ) (xs : List AstDef) (taken : Count) (x : CountedDef) (ys : CountedDefs) (ts m u : Items) → CommaThen (λ y vs w. Counts (Def d) limit taken y vs w) x ts m → Behind limit d (xs ++ x.0 ∷ [], x.1) ys m u → Behind limit d (xs, taken) ys ts u
one_more limit d xs taken x ys ts m u (comma_then at y a b c h k) rest = record {
  zs = y.0 ∷ rest.zs;
  all = rest.all ∙ append_assoc xs (y.0 ∷ []) rest.zs;
  n = together k.n rest.n;
  total = (omega (arith, k.total.0, rest.total.0), omega (arith, k.total.1, rest.total.1));
  within = rest.within;
  stands = more_defs k.n rest.n at y.0 rest.zs a b c u h k.stands rest.stands;
}

comma_def_sound : (limit : Count) (d : ℕ) (taken : Count) → IsWithin taken limit → (ts : Items) (x : CountedDef) (u : Items) → r.comma_def limit d taken ts ≡ read_of (Some x) u → CommaThen (λ y vs w. Counts (Def d) limit taken y vs w) x ts u
unfolding r.comma_def
comma_def_sound limit d taken le ts x u e = comma_sound (λ y vs w. Counts (Def d) limit taken y vs w) (r.def limit d taken) (def_sound limit d taken le) ts x u e

comma_def_none : (limit : Count) (d : ℕ) (taken : Count) (ts u : Items) → r.comma_def limit d taken ts ≡ read_of None u → ts ≡ u
unfolding r.comma_def
comma_def_none limit d taken ts u e = comma_none (r.def limit d taken) ts u e

within_one : (limit taken : Count) (x : CountedDef) (d : ℕ) (ts u : Items) → CommaThen (λ y vs w. Counts (Def d) limit taken y vs w) x ts u → IsWithin x.1 limit
within_one limit taken x d ts u (comma_then at y a b c h k) = k.within

defs_by : (limit : Count) (d n : ℕ) → BehindWithin limit d n → (xs : List AstDef) (taken : Count) → IsWithin taken limit → (o : Read (Option CountedDef)) (ts : Items) (ys : CountedDefs) (u : Items) → r.comma_def limit d taken ts ≡ o → length ts < suc n → r.defs_from limit d (xs, taken) ts ≡ read_of ys u → Behind limit d (xs, taken) ys ts u
defs_by limit d n next xs taken le (Ok (None, m)) ts ys u h lt e =
    give_to (λ z q. Behind limit d (xs, taken) z ts q) (xs, taken) m ys u (sym (defs-none limit d xs taken ts None m h refl) ∙ e)
    (subst (λ (q : Items). Behind limit d (xs, taken) (xs, taken) ts q) (comma_def_none limit d taken ts m h) (no_more limit d xs taken le ts))
defs_by limit d n next xs taken le (Ok (Some x, m)) ts ys u h lt e =
    let c = comma_def_sound limit d taken le ts x m h in
    let shorter = (comma_def-one limit d taken).shorter ts x m h in
    one_more limit d xs taken x ys ts m u c (next (xs ++ x.0 ∷ []) x.1 (within_one limit taken x d ts m c) m ys u (omega (arith, lt, shorter)) (sym (defs-some limit d xs taken ts x m h) ∙ e))
defs_by limit d n next xs taken le (Err c) ts ys u h lt e = absurd (err_ok {A = CountedDefs} c (ys, u) (sym (defs-fail limit d xs taken ts (faults.Stopped c) h) ∙ e))

defs_within : (limit : Count) (d n : ℕ) → BehindWithin limit d n
defs_within limit d zero = λ xs taken le ts ys u lt e. absurd (omega (arith, lt))
defs_within limit d (suc n) = λ xs taken le ts ys u lt e. defs_by limit d n (defs_within limit d n) xs taken le (r.comma_def limit d taken ts) ts ys u refl lt e

defs_sound : (limit : Count) (d : ℕ) (taken : Count) → IsWithin taken limit → (ts : Items) (x : CountedDefs) (u : Items) → r.defs limit d taken ts ≡ read_of x u → Counts (Defs d) limit taken x ts u
unfolding r.defs
defs_sound limit d taken le ts x u e =
    let a = bind_ok (r.def limit d taken ts) (λ y. r.defs_from limit d (y.0 ∷ [], y.1)) (x, u) e in
    let y = a.0 in
    let first = def_sound limit d taken le ts y a.1 a.2 in
    let others = defs_within limit d (suc (length a.1)) (y.0 ∷ []) y.1 first.within a.1 x u (omega arith) a.3 in
    record {
      n = together first.n others.n;
      total = (omega (arith, first.total.0, others.total.0), omega (arith, first.total.1, others.total.1));
      within = others.within;
      stands = subst (λ (zs : List AstDef). Defs d (together first.n others.n) zs ts u) (sym others.all) (defs first.n others.n y.0 others.zs ts a.1 u first.stands others.stands);
    }

-- ---- operands and tables

abbrev pub CountSound : (Count → AstNode → Items → Items → Type 0) → Count → (Count → Reader Counted) → Type 0
CountSound X limit p = (taken : Count) → IsWithin taken limit → (ts : Items) (x : Counted) (u : Items) → p taken ts ≡ read_of x u → Counts X limit taken x ts u

abbrev InsideSound : Count → ℕ → Type 0
InsideSound limit d = (taken : Count) → IsWithin taken limit → (ts : Items) (x : Counted) (u : Items) → head_word ts ≡ Some (lex.Sign Open) → r.inside limit d taken ts ≡ read_of x u → Counts (Operand d) limit taken x ts u

operand_when : (limit : Count) (d : ℕ) → InsideSound limit d → (taken : Count) → IsWithin taken limit → (o : Option Lexeme) (ts : Items) (x : Counted) (u : Items) → head_word ts ≡ o → r.operand_by (r.inside limit d) taken o ts ≡ read_of x u → Counts (Operand d) limit taken x ts u
operand_when limit d is taken le (Some (lex.Sign Open)) ts x u h e = is taken le ts x u h e
operand_when limit d is taken le w ts x u h e =
    let a = bind_ok (r.leaf ts) (λ y. give (y, taken)) (x, u) e in
    give_to (λ z q. Counts (Operand d) limit taken z ts q) (a.0, taken) a.1 x u a.3 (record { n = none_counted; total = (omega arith, omega arith); within = le; stands = leaf d a.0 ts a.1 (leaf_sound ts a.0 a.1 a.2) })

operand_from : (limit : Count) (d : ℕ) → InsideSound limit d → CountSound (Operand d) limit (r.operand limit d)
unfolding r.operand
operand_from limit d is taken le ts x u e = operand_when limit d is taken le (head_word ts) ts x u refl e

operator_when : (b : Bool) (ts : Items) (at : ℕ) (u : Items) → cond b skip (refuse TooMany) ts ≡ read_of at u → (b ≡ true) × (skip ts ≡ read_of at u)
operator_when true ts at u e = (refl, e)
operator_when false ts at u e = absurd (err_ok {A = ℕ} _ (at, u) e)

operator_sound : (limit taken : Count) (w : Lexeme) (ts : Items) (at : ℕ) (u : Items) → head_word ts ≡ Some w → r.operator_word limit taken ts ≡ read_of at u → (taken.operators < limit.operators) × Word w at ts u
unfolding r.operator_word
operator_sound limit taken w ts at u h e = let a = operator_when (nat_lt taken.operators limit.operators) ts at u e in (ltb-true taken.operators limit.operators a.0, word_taken w ts at u h a.1)

-- how two operands make a table
abbrev MakesTwo : ℕ → (AstNode → AstNode → AstOp) → Keyword → Type 0
MakesTwo d what k = (m n : Count) (at : ℕ) (x y : AstNode) (t1 t2 t3 rest : Items) → Word (lex.Key k) at t1 t2 → Operand d m x t2 t3 → Operand d n y t3 rest → Table d (one_operator (together m n)) (node at (what x y)) t1 rest

two_sound : (limit : Count) (d : ℕ) (what : AstNode → AstNode → AstOp) (k : Keyword) → MakesTwo d what k → CountSound (Operand d) limit (r.operand limit d) → (taken : Count) → IsWithin taken limit → (ts : Items) (x : Counted) (u : Items) → head_word ts ≡ Some (lex.Key k)
    → (r.operator_word limit taken >>= r.two_by what (r.operand limit d) taken) ts ≡ read_of x u → Counts (Table d) limit taken x ts u
two_sound limit d what k make os taken le ts x u h e =
    let o = r.operand limit d in
    let w = bind_ok (r.operator_word limit taken ts) (r.two_by what o taken) (x, u) e in
    let at = w.0 in
    let word = operator_sound limit taken (lex.Key k) ts at w.1 h w.2 in
    let f = bind_ok (o (one_operator taken) w.1) (λ y. o y.1 >>= λ z. give (node at (what y.0 z.0), z.1)) (x, u) w.3 in
    let a = f.0 in
    let first = os (one_operator taken) (omega (arith, word.0), le.1) w.1 a f.1 f.2 in
    let g = bind_ok (o a.1 f.1) (λ z. give (node at (what a.0 z.0), z.1)) (x, u) f.3 in
    let b = g.0 in
    let second = os a.1 first.within f.1 b g.1 g.2 in
    give_to (λ y q. Counts (Table d) limit taken y ts q) (node at (what a.0 b.0), b.1) g.1 x u g.3
    (record { n = one_operator (together first.n second.n); total = (omega (arith, first.total.0, second.total.0), omega (arith, first.total.1, second.total.1)); within = second.within; stands = make first.n second.n at a.0 b.0 ts w.1 f.1 g.1 word.1 first.stands second.stands })

-- what is read behind the operand of the operator k makes a table of it
abbrev MakesOne : Count → ℕ → Keyword → (ℕ → Counted → Reader Counted) → Type 0
MakesOne limit d k rest = (taken : Count) (at : ℕ) (a : Counted) (t1 t2 t3 : Items) → Word (lex.Key k) at t1 t2 → Counts (Operand d) limit (one_operator taken) a t2 t3 → (x : Counted) (u : Items) → rest at a t3 ≡ read_of x u → Counts (Table d) limit taken x t1 u

one_sound : (limit : Count) (d : ℕ) (k : Keyword) (rest : ℕ → Counted → Reader Counted) → MakesOne limit d k rest → CountSound (Operand d) limit (r.operand limit d) → (taken : Count) → IsWithin taken limit → (ts : Items) (x : Counted) (u : Items) → head_word ts ≡ Some (lex.Key k)
    → (r.operator_word limit taken >>= r.one_by rest (r.operand limit d) taken) ts ≡ read_of x u → Counts (Table d) limit taken x ts u
one_sound limit d k rest makes os taken le ts x u h e =
    let w = bind_ok (r.operator_word limit taken ts) (r.one_by rest (r.operand limit d) taken) (x, u) e in
    let word = operator_sound limit taken (lex.Key k) ts w.0 w.1 h w.2 in
    let f = bind_ok (r.operand limit d (one_operator taken) w.1) (rest w.0) (x, u) w.3 in
    makes taken w.0 f.0 ts w.1 f.1 word.1 (os (one_operator taken) (omega (arith, word.0), le.1) w.1 f.0 f.1 f.2) x u f.3

agg_makes : (limit : Count) (d : ℕ) → MakesOne limit d key.Agg r.agg_rest
agg_makes limit d taken at a t1 t2 t3 w first x u e =
    let g = bind_ok (words.keyword key.By t3) (λ by. r.some_names >>= λ ns. give (node at (op.Agg a.0 ns), a.1)) (x, u) e in
    let l = bind_ok (r.some_names g.1) (λ ns. give (node at (op.Agg a.0 ns), a.1)) (x, u) g.3 in
    give_to (λ y q. Counts (Table d) limit taken y t1 q) (node at (op.Agg a.0 l.0), a.1) l.1 x u l.3
    (record { n = one_operator first.n; total = (omega (arith, first.total.0), omega (arith, first.total.1)); within = first.within; stands = agg d first.n at g.0 a.0 l.0 t1 t2 t3 g.1 l.1 w first.stands (keyword_sound key.By t3 g.0 g.1 g.2) (some_names_sound g.1 l.0 l.1 l.2) })

map_makes : (limit : Count) (d : ℕ) → MakesOne limit d key.Map (r.map_rest limit d)
map_makes limit d taken at a t1 t2 t3 w first x u e =
    let g = bind_ok (words.keyword key.To t3) (λ to. r.defs limit d a.1 >>= λ ds. give (node at (op.Map a.0 ds.0), ds.1)) (x, u) e in
    let l = bind_ok (r.defs limit d a.1 g.1) (λ ds. give (node at (op.Map a.0 ds.0), ds.1)) (x, u) g.3 in
    let y = l.0 in
    let s = defs_sound limit d a.1 first.within g.1 y l.1 l.2 in
    give_to (λ z q. Counts (Table d) limit taken z t1 q) (node at (op.Map a.0 y.0), y.1) l.1 x u l.3
    (record { n = one_operator (together first.n s.n); total = (omega (arith, first.total.0, s.total.0), omega (arith, first.total.1, s.total.1)); within = s.within; stands = map d first.n s.n at g.0 a.0 y.0 t1 t2 t3 g.1 l.1 w first.stands (keyword_sound key.To t3 g.0 g.1 g.2) s.stands })

filter_makes : (limit : Count) (d : ℕ) → MakesOne limit d key.Filter (r.filter_rest limit d)
filter_makes limit d taken at a t1 t2 t3 w first x u e =
    let g = bind_ok (words.keyword key.Where t3) (λ wh. expr limit d a.1 >>= λ y. give (node at (op.Filter a.0 y.0), y.1)) (x, u) e in
    let l = bind_ok (expr limit d a.1 g.1) (λ y. give (node at (op.Filter a.0 y.0), y.1)) (x, u) g.3 in
    let y = l.0 in
    let s = expr_sound limit d a.1 first.within g.1 y l.1 l.2 in
    give_to (λ z q. Counts (Table d) limit taken z t1 q) (node at (op.Filter a.0 y.0), y.1) l.1 x u l.3
    (record { n = one_operator (together first.n s.n); total = (omega (arith, first.total.0, s.total.0), omega (arith, first.total.1, s.total.1)); within = s.within; stands = filter d first.n s.n at g.0 a.0 y.0 t1 t2 t3 g.1 l.1 w first.stands (keyword_sound key.Where t3 g.0 g.1 g.2) s.stands })

promote_makes : (limit : Count) (d : ℕ) → MakesOne limit d key.Promote (r.promote_rest limit d)
promote_makes limit d taken at a t1 t2 t3 w first x u e =
    let g = bind_ok (words.keyword key.To t3) (λ to. r.key_def limit d a.1 >>= λ c. give (node at (op.Promote a.0 c.0), c.1)) (x, u) e in
    let l = bind_ok (r.key_def limit d a.1 g.1) (λ c. give (node at (op.Promote a.0 c.0), c.1)) (x, u) g.3 in
    let y = l.0 in
    let s = key_def_sound limit d a.1 first.within g.1 y l.1 l.2 in
    give_to (λ z q. Counts (Table d) limit taken z t1 q) (node at (op.Promote a.0 y.0), y.1) l.1 x u l.3
    (record { n = one_operator (together first.n s.n); total = (omega (arith, first.total.0, s.total.0), omega (arith, first.total.1, s.total.1)); within = s.within; stands = promote d first.n s.n at g.0 a.0 y.0 t1 t2 t3 g.1 l.1 w first.stands (keyword_sound key.To t3 g.0 g.1 g.2) s.stands })

rename_makes : (limit : Count) (d : ℕ) → MakesOne limit d key.Rename r.rename_rest
rename_makes limit d taken at a t1 t2 t3 w first x u e =
    let g = bind_ok (r.pairs t3) (λ ps. give (node at (op.Rename a.0 ps), a.1)) (x, u) e in
    give_to (λ y q. Counts (Table d) limit taken y t1 q) (node at (op.Rename a.0 g.0), a.1) g.1 x u g.3
    (record { n = one_operator first.n; total = (omega (arith, first.total.0), omega (arith, first.total.1)); within = first.within; stands = rename d first.n at a.0 g.0 t1 t2 t3 g.1 w first.stands (pairs_sound t3 g.0 g.1 g.2) })

lone_sound : (limit : Count) (d : ℕ) → CountSound (Operand d) limit (r.operand limit d) → CountSound (Table d) limit (r.operand limit d)
lone_sound limit d os taken le ts x u e = let a = os taken le ts x u e in record { n = a.n; total = a.total; within = a.within; stands = operand d a.n x.0 ts u a.stands }

table_when : (limit : Count) (d : ℕ) → CountSound (Operand d) limit (r.operand limit d) → (taken : Count) → IsWithin taken limit → (o : Option Lexeme) (ts : Items) (x : Counted) (u : Items) → head_word ts ≡ o → r.table_by limit d (r.operand limit d) taken o ts ≡ read_of x u → Counts (Table d) limit taken x ts u
table_when limit d os taken le (Some (lex.Key key.Join)) ts x u h e = two_sound limit d op.Join key.Join (join d) os taken le ts x u h e
table_when limit d os taken le (Some (lex.Key key.Union)) ts x u h e = two_sound limit d op.Union key.Union (union d) os taken le ts x u h e
table_when limit d os taken le (Some (lex.Key key.Agg)) ts x u h e = one_sound limit d key.Agg r.agg_rest (agg_makes limit d) os taken le ts x u h e
table_when limit d os taken le (Some (lex.Key key.Map)) ts x u h e = one_sound limit d key.Map (r.map_rest limit d) (map_makes limit d) os taken le ts x u h e
table_when limit d os taken le (Some (lex.Key key.Filter)) ts x u h e = one_sound limit d key.Filter (r.filter_rest limit d) (filter_makes limit d) os taken le ts x u h e
table_when limit d os taken le (Some (lex.Key key.Promote)) ts x u h e = one_sound limit d key.Promote (r.promote_rest limit d) (promote_makes limit d) os taken le ts x u h e
table_when limit d os taken le (Some (lex.Key key.Rename)) ts x u h e = one_sound limit d key.Rename r.rename_rest (rename_makes limit d) os taken le ts x u h e
table_when limit d os taken le w ts x u h e = lone_sound limit d os taken le ts x u e

table_from : (limit : Count) (d : ℕ) → InsideSound limit d → CountSound (Table d) limit (r.table limit d)
unfolding r.table
table_from limit d is taken le ts x u e = table_when limit d (operand_from limit d is) taken le (head_word ts) ts x u refl e

inside_sound : (limit : Count) (d : ℕ) → InsideSound limit d
unfolding r.inside r.table r.operand
inside_sound limit zero taken le ts x u h e = absurd (err_ok {A = Counted} _ (x, u) e)
inside_sound limit (suc d) taken le ts x u h e =
    let a = bind_ok (skip ts) (inside_rest limit d taken) (x, u) e in
    let b = bind_ok (r.table limit d taken a.1) (λ y. sign Close >>= λ end. give y) (x, u) a.3 in
    let y = b.0 in
    let c = bind_ok (sign Close b.1) (λ end. give y) (x, u) b.3 in
    let inner = table_from limit d (inside_sound limit d) taken le a.1 y b.1 b.2 in
    give_to (λ z q. Counts (Operand (suc d)) limit taken z ts q) y c.1 x u c.3
    (record { n = inner.n; total = inner.total; within = inner.within; stands = inside d inner.n a.0 c.0 y.0 ts a.1 b.1 c.1 (word_taken (lex.Sign Open) ts a.0 a.1 h a.2) inner.stands (sign_sound Close b.1 c.0 c.1 c.2) })

table_sound : (limit : Count) (d : ℕ) → CountSound (Table d) limit (r.table limit d)
table_sound limit d = table_from limit d (inside_sound limit d)

-- ---- statements

some_order_when : (o : Option Lexeme) (ts : Items) (x : Option AstBy) (u : Items) → head_word ts ≡ o → r.some_order_by o ts ≡ read_of x u → SomeOrder x ts u
some_order_when (Some (lex.Key key.By)) ts x u h e =
    let a = bind_ok (skip ts) (λ at. r.some_names >>= λ ns. give (Some (record { at = at; names = ns }))) (x, u) e in
    let b = bind_ok (r.some_names a.1) (λ ns. give (Some (record { at = a.0; names = ns }))) (x, u) a.3 in
    give_to (λ y q. SomeOrder y ts q) (Some (record { at = a.0; names = b.0 })) b.1 x u b.3 (order a.0 b.0 ts a.1 b.1 (word_taken (lex.Key key.By) ts a.0 a.1 h a.2) (some_names_sound a.1 b.0 b.1 b.2))
some_order_when w ts x u h e = give_to (λ y q. SomeOrder y ts q) None ts x u e (no_order ts)

some_order_sound : Sound SomeOrder r.some_order
unfolding r.some_order
some_order_sound ts x u e = some_order_when (head_word ts) ts x u refl e

statement_when : (limits : Limits) (o : Option Lexeme) (ts : Items) (x : AstStatement) (u : Items) → head_word ts ≡ o → r.statement_by limits o ts ≡ read_of x u → Statement limits x ts u
statement_when limits (Some (lex.Name n)) ts x u h e =
    let a = bind_ok (words.name ts) (assign_rest limits) (x, u) e in
    let b = bind_ok (sign Is a.1) (λ is. r.table limits.counted limits.levels none_counted >>= λ t. sign Semi >>= λ end. give (st.Assign a.0.at a.0 t.0)) (x, u) a.3 in
    let c = bind_ok (r.table limits.counted limits.levels none_counted b.1) (λ t. sign Semi >>= λ end. give (st.Assign a.0.at a.0 t.0)) (x, u) b.3 in
    let t = c.0 in
    let d = bind_ok (sign Semi c.1) (λ end. give (st.Assign a.0.at a.0 t.0)) (x, u) c.3 in
    let s = table_sound limits.counted limits.levels none_counted (omega arith, omega arith) b.1 t c.1 c.2 in
    give_to (λ y q. Statement limits y ts q) (st.Assign a.0.at a.0 t.0) d.1 x u d.3
    (assign b.0 d.0 s.n a.0 t.0 ts a.1 b.1 c.1 d.1 (name_sound ts a.0 a.1 a.2) (sign_sound Is a.1 b.0 b.1 b.2) s.stands (omega (arith, s.total.0, s.within.0), omega (arith, s.total.1, s.within.1)) (sign_sound Semi c.1 d.0 d.1 d.2))
statement_when limits (Some (lex.Key key.Print)) ts x u h e =
    let a = bind_ok (skip ts) print_rest (x, u) e in
    let b = bind_ok (words.name a.1) (λ n. r.some_order >>= λ by. sign Semi >>= λ end. give (st.Print a.0 n by)) (x, u) a.3 in
    let c = bind_ok (r.some_order b.1) (λ by. sign Semi >>= λ end. give (st.Print a.0 b.0 by)) (x, u) b.3 in
    let d = bind_ok (sign Semi c.1) (λ end. give (st.Print a.0 b.0 c.0)) (x, u) c.3 in
    give_to (λ y q. Statement limits y ts q) (st.Print a.0 b.0 c.0) d.1 x u d.3
    (print a.0 d.0 b.0 c.0 ts a.1 b.1 c.1 d.1 (word_taken (lex.Key key.Print) ts a.0 a.1 h a.2) (name_sound a.1 b.0 b.1 b.2) (some_order_sound b.1 c.0 c.1 c.2) (sign_sound Semi c.1 d.0 d.1 d.2))
statement_when limits w ts x u h e = absurd (err_ok {A = AstStatement} _ (x, u) e)

pub statement_sound : (limits : Limits) → Sound (Statement limits) (r.statement limits)
unfolding r.statement
statement_sound limits ts x u e = statement_when limits (head_word ts) ts x u refl e

next_some : (limits : Limits) (room : Bool) (o : Option Lexeme) (ts : Items) (x : AstStatement) (u : Items) → r.next_by limits room o ts ≡ read_of (Some x) u → Statement limits x ts u
next_some limits room None ts x u e = absurd (none_some ts u x e)
next_some limits true (Some w) ts x u e = statement_sound limits ts x u (read_some (r.statement limits ts) x u e)
next_some limits false (Some w) ts x u e = absurd (err_ok {A = Option AstStatement} _ (Some x, u) e)

next_statement_sound : (limits : Limits) (room : Bool) (ts : Items) (x : AstStatement) (u : Items) → r.next_statement limits room ts ≡ read_of (Some x) u → Statement limits x ts u
unfolding r.next_statement
next_statement_sound limits room ts x u e = next_some limits room (head_word ts) ts x u e

head_none : (ts : Items) → head_word ts ≡ None → ts ≡ []
head_none [] e = refl
head_none (t ∷ ts) e = absurd cc

next_none : (limits : Limits) (room : Bool) (o : Option Lexeme) (ts : Items) (u : Items) → head_word ts ≡ o → r.next_by limits room o ts ≡ read_of None u → (ts ≡ []) × (u ≡ [])
next_none limits room None ts u h e = let n = head_none ts h in (n, sym (rest_is {A = Option AstStatement} None ts None u e) ∙ n)
next_none limits true (Some w) ts u h e = absurd (some_none (r.statement limits ts) u e)
next_none limits false (Some w) ts u h e = absurd (err_ok {A = Option AstStatement} _ (None, u) e)

next_statement_none : (limits : Limits) (room : Bool) (ts : Items) (u : Items) → r.next_statement limits room ts ≡ read_of None u → (ts ≡ []) × (u ≡ [])
unfolding r.next_statement
next_statement_none limits room ts u e = next_none limits room (head_word ts) ts u refl e

pub statements_sound : (limits : Limits) (ts : Items) (xs : List AstStatement) (u : Items) → r.statements limits [] ts ≡ read_of xs u → Many (Statement limits) xs ts [] × (u ≡ [])
unfolding r.statements
statements_sound limits ts xs u e =
    let l = listed (Statement limits) (next_behind limits) (λ ys. next_statement_sound limits (has_room limits ys)) (next_behind-one limits) [] xs ts u e in
    let n = next_statement_none limits (has_room limits xs) l.end u l.ended in
    let all : xs ≡ l.xs = l.all in
    (rw all (subst (λ (q : Items). Many (Statement limits) l.xs ts q) n.0 l.many), n.1)
