-- What is in the grammar is read: tables, statements and scripts.
use Rattle.std.proofs.Common.{◌≡◌, ℕ, suc, ◌<◌, ◌≤◌, ◌+◌, List, [], ◌∷◌, ◌++◌, length, Option, Some, None, refl, sym, ap, subst, ◌∙◌, arith, append_assoc, Bool, true, false, cond, nat_lt}
use Rattle.std.proofs.lemmas.List.{append-nil, length-append}
use Rattle.std.proofs.lemmas.Bool.{lt-ltb}
use Rattle.lara_data.specs.declared.refusal.Kind.TheVariants.{TooMany}
use Rattle.lara_syntax.specs.declared.item.Lexeme.{Lexeme}
use Rattle.lara_syntax.specs.declared.item.Lexeme.TheVariants as lex
use Rattle.lara_syntax.specs.declared.item.Keyword.{Keyword}
use Rattle.lara_syntax.specs.declared.item.Keyword.TheVariants as key
use Rattle.lara_syntax.specs.declared.item.Sign.TheVariants.{Is, Semi, Comma, Open, Close}
use Rattle.lara_syntax.specs.declared.ast.Ast.{Ast}
use Rattle.lara_syntax.specs.declared.ast.AstName.{AstName}
use Rattle.lara_syntax.specs.declared.ast.AstBy.{AstBy}
use Rattle.lara_syntax.specs.declared.ast.AstNode.{AstNode}
use Rattle.lara_syntax.specs.declared.ast.AstOp.{AstOp}
use Rattle.lara_syntax.specs.declared.ast.AstOp.TheVariants as op
use Rattle.lara_syntax.specs.declared.ast_expr.AstExpr.{AstExpr}
use Rattle.lara_syntax.specs.declared.ast_part.AstDef.{AstDef}
use Rattle.lara_syntax.specs.declared.ast_part.AstKeyDef.{AstKeyDef}
use Rattle.lara_syntax.specs.declared.ast_part.AstPair.{AstPair}
use Rattle.lara_syntax.specs.declared.ast.AstStatement.{AstStatement}
use Rattle.lara_syntax.specs.Limits.{Limits, none_counted, one_operator, together, IsWithin}
use Rattle.lara_syntax.proofs.Counts.{IsSum, sum_none}
use Rattle.lara_syntax.specs.declared.count.Count.{Count}
use Rattle.lara_syntax.specs.Steps.{Items, Read, Reader, ◌>>=◌, give, refuse, peek, skip, head_word}
use Rattle.lara_syntax.specs.Reading as r
use Rattle.lara_syntax.specs.Places.{node}
use Rattle.lara_syntax.specs.Reading.{Counted}
use Rattle.lara_syntax.specs.WordReading as words
use Rattle.lara_syntax.specs.WordReading.{sign}
use Rattle.lara_syntax.specs.ExprGrammar.{Expr}
use Rattle.lara_syntax.proofs.ExprChains.{Looser}
use Rattle.lara_syntax.proofs.ExprComplete.{expr_reads}
use Rattle.lara_syntax.specs.Grammar.{Pair, Def, def, MoreDefs, no_defs, more_defs, Defs, defs, KeyDef, key_def, Leaf, named, load, literal, Operand, leaf, inside, Table, join, union, agg, map, filter, promote, rename, operand, SomeOrder, no_order, order, Statement, assign, print, Script}
use Rattle.lara_syntax.specs.WordGrammar.{Word, Mark, Named, Many, none, more, Commas, Maybe}
use Rattle.lara_syntax.proofs.Levels.{inside_rest}
use Rattle.lara_syntax.proofs.Turns.{read_of}
use Rattle.lara_syntax.proofs.TableReaders.{defs-some, defs-none, has_room, next_behind, tree_given, statements-some, statements-none}
use Rattle.lara_syntax.proofs.Complete.{head_is, skip_is, step, chosen, sign_reads, keyword_reads, name_reads, NoComma, no_comma, key_col_reads, val_col_reads, AfterNames, some_names_reads, Next, pairs_reads, AfterTable, table_names, table_comma, leaf_reads}

-- ---- definitions

-- what may stand behind a definition
abbrev pub AfterDef : Option Lexeme → Type 0
AfterDef (Some (lex.Sign Comma)) = Unit {0}
AfterDef (Some (lex.Sign Semi)) = Unit {0}
AfterDef (Some (lex.Sign Close)) = Unit {0}
AfterDef w = ⊥

pub def_expr : (w : Option Lexeme) → AfterDef w → Looser 0 w
def_expr (Some (lex.Sign Comma)) a = tt
def_expr (Some (lex.Sign Semi)) a = tt
def_expr (Some (lex.Sign Close)) a = tt
def_expr w a = absurd a

pub table_def : (w : Option Lexeme) → AfterTable w → AfterDef w
table_def (Some (lex.Sign Semi)) a = tt
table_def (Some (lex.Sign Close)) a = tt
table_def w a = absurd a

def_reads : (limit : Count) (d : ℕ) (n : Count) (x : AstDef) (ts us : Items) → Def d n x ts us → (k j : Count) → IsSum k n j → IsWithin j limit → AfterDef (head_word us) → r.def limit d k ts ≡ read_of (x, j) us
unfolding r.def
def_reads limit d n x ts us (def m at c e a b f g h i l) k j total le after = rw (val_col_reads c a b h, sign_reads Is at b f i, expr_reads limit d m e f g l k j total le (def_expr (head_word g) after)) refl

comma_def_reads : (limit : Count) (d : ℕ) (n : Count) (at : ℕ) (x : AstDef) (ts us vs : Items) → Mark Comma at ts us → Def d n x us vs → (k j : Count) → IsSum k n j → IsWithin j limit → AfterDef (head_word vs) → r.comma_def limit d k ts ≡ read_of (Some (x, j)) vs
unfolding r.comma_def
comma_def_reads limit d n at x ts us vs h i k j total le after = chosen (words.comma_by (r.def limit d k)) ts (Some (lex.Sign Comma)) (read_of (Some (x, j)) vs) (head_is _ at ts us h) (rw (skip_is _ at ts us h, def_reads limit d n x us vs i k j total le after) refl)

no_comma_def : (limit : Count) (d : ℕ) (k : Count) (ts : Items) → NoComma (head_word ts) → r.comma_def limit d k ts ≡ read_of None ts
unfolding r.comma_def
no_comma_def limit d k ts after = no_comma (r.def limit d k) ts after

-- a definition, or what may stand behind a table, is next
defs_begin : (d : ℕ) (n : Count) (xs : List AstDef) (ts rest : Items) → MoreDefs d n xs ts rest → AfterTable (head_word rest) → AfterDef (head_word ts)
defs_begin d n xs ts rest (no_defs q) after = table_def (head_word q) after
defs_begin d n xs ts rest (more_defs l m at x ys a b c q h i hs) after = subst AfterDef (sym (head_is _ at a b h)) tt

defs_from_reads : (limit : Count) (d : ℕ) (n : Count) (xs : List AstDef) (ts rest : Items) → MoreDefs d n xs ts rest → AfterTable (head_word rest) → (acc : List AstDef) (k j : Count) → IsSum k n j → IsWithin j limit → r.defs_from limit d (acc, k) ts ≡ read_of (acc ++ xs, j) rest
defs_from_reads limit d n xs ts rest (no_defs q) after acc k j total le =
    defs-none limit d acc k q None q (no_comma_def limit d k q (table_comma (head_word q) after)) refl
    ∙ ap (λ (ys : List AstDef). read_of (ys, k) q) (sym (append-nil acc)) ∙ ap (λ (i : Count). read_of (acc ++ [], i) q) (sum_none k j total)
defs_from_reads limit d n xs ts rest (more_defs l m at x ys a b c q h i hs) after acc k j total le =
    defs-some limit d acc k a (x, together k l) c (comma_def_reads limit d l at x a b c h i k (together k l) (refl, refl) (omega (arith, total.0, le.0), omega (arith, total.1, le.1)) (defs_begin d m ys c q hs after))
    ∙ defs_from_reads limit d m ys c q hs after (acc ++ x ∷ []) (together k l) j (omega (arith, total.0), omega (arith, total.1)) le
    ∙ ap (λ (zs : List AstDef). read_of (zs, j) q) (append_assoc acc (x ∷ []) ys)

defs_reads : (limit : Count) (d : ℕ) (n : Count) (xs : List AstDef) (ts rest : Items) → Defs d n xs ts rest → (k j : Count) → IsSum k n j → IsWithin j limit → AfterTable (head_word rest) → r.defs limit d k ts ≡ read_of (xs, j) rest
unfolding r.defs
defs_reads limit d n xs ts rest (defs l m x ys a b c h hs) k j total le after =
    step (r.def limit d k) (λ y. r.defs_from limit d (y.0 ∷ [], y.1)) a (x, together k l) b (read_of (x ∷ ys, j) c)
    (def_reads limit d l x a b h k (together k l) (refl, refl) (omega (arith, total.0, le.0), omega (arith, total.1, le.1)) (defs_begin d m ys b c hs after))
    (defs_from_reads limit d m ys b c hs after (x ∷ []) (together k l) j (omega (arith, total.0), omega (arith, total.1)) le)

key_def_reads : (limit : Count) (d : ℕ) (n : Count) (x : AstKeyDef) (ts us : Items) → KeyDef d n x ts us → (k j : Count) → IsSum k n j → IsWithin j limit → AfterDef (head_word us) → r.key_def limit d k ts ≡ read_of (x, j) us
unfolding r.key_def
key_def_reads limit d n x ts us (key_def m at c e a b f g h i l) k j total le after = rw (key_col_reads c a b h, sign_reads Is at b f i, expr_reads limit d m e f g l k j total le (def_expr (head_word g) after)) refl

-- ---- operands and tables

-- what a choice does where a leaf is next
leaf_chosen : {A : Type 0} (by : Option Lexeme → Reader A) (x : AstNode) (ts us : Items) → Leaf x ts us → (y : Read A)
    → ((n : List ℕ) → by (Some (lex.Name n)) ts ≡ y) → by (Some (lex.Key key.Load)) ts ≡ y → by (Some (lex.Key key.Table)) ts ≡ y → (peek >>= by) ts ≡ y
leaf_chosen by x ts us (named n a b h) y f g k = chosen by a (Some (lex.Name n.name)) y (head_is _ n.at a b h) (f n.name)
leaf_chosen by x ts us (load at n a b c h l) y f g k = chosen by a (Some (lex.Key key.Load)) y (head_is _ at a b h) g
leaf_chosen by x ts us (literal at a b ty es t1 t2 t3 t4 t5 t6 h1 h2 h3 h4 h5) y f g k = chosen by t1 (Some (lex.Key key.Table)) y (head_is _ at t1 t2 h1) k

-- what a choice does where an operand is next
operand_chosen : {A : Type 0} (by : Option Lexeme → Reader A) (d : ℕ) (n : Count) (x : AstNode) (ts us : Items) → Operand d n x ts us → (y : Read A)
    → ((n : List ℕ) → by (Some (lex.Name n)) ts ≡ y) → by (Some (lex.Key key.Load)) ts ≡ y → by (Some (lex.Key key.Table)) ts ≡ y → by (Some (lex.Sign Open)) ts ≡ y → (peek >>= by) ts ≡ y
operand_chosen by d n x ts us (leaf e y a b h) z f g k l = leaf_chosen by y a b h z f g k
operand_chosen by d n x ts us (inside e m a b y t1 t2 t3 t4 h1 h2 h3) z f g k l = chosen by t1 (Some (lex.Sign Open)) z (head_is _ a t1 t2 h1) l

room_for : (m n : ℕ) → m < n → nat_lt m n ≡ true
room_for m n h = lt-ltb m n h

operator_reads : (limit taken : Count) (w : Lexeme) (at : ℕ) (ts us : Items) → Word w at ts us → taken.operators < limit.operators → r.operator_word limit taken ts ≡ read_of at us
unfolding r.operator_word
operator_reads limit taken w at ts us h lt = ap (λ (b : Bool). cond b skip (refuse TooMany) ts) (room_for taken.operators limit.operators lt) ∙ skip_is w at ts us h

operator_goes : {B : Type 0} (limit taken : Count) (w : Lexeme) (at : ℕ) (ts us : Items) → Word w at ts us → taken.operators < limit.operators → (f : ℕ → Reader B) (y : Read B) → f at us ≡ y → (r.operator_word limit taken >>= f) ts ≡ y
operator_goes limit taken w at ts us h lt f y g = step (r.operator_word limit taken) f ts at us y (operator_reads limit taken w at ts us h lt) g

two_goes : (what : AstNode → AstNode → AstOp) (o : Count → Reader Counted) (k i j : Count) (at : ℕ) (a b : AstNode) (ts us vs : Items) → o (one_operator k) ts ≡ read_of (a, i) us → o i us ≡ read_of (b, j) vs → r.two_by what o k at ts ≡ read_of (node at (what a b), j) vs
two_goes what o k i j at a b ts us vs h g =
    step (o (one_operator k)) (λ x. o x.1 >>= λ y. give (node at (what x.0 y.0), y.1)) ts (a, i) us (read_of (node at (what a b), j) vs) h
    (step (o i) (λ y. give (node at (what a y.0), y.1)) us (b, j) vs (read_of (node at (what a b), j) vs) g refl)

-- an operator with one operand
one_reads : (limit : Count) (levels : ℕ) (k : Count) (w : Keyword) (rest : ℕ → Counted → Reader Counted) (o : Count → Reader Counted) (at : ℕ) (a : Counted) (t1 t2 t3 : Items) (y : Read Counted) → Word (lex.Key w) at t1 t2 → k.operators < limit.operators → o (one_operator k) t2 ≡ read_of a t3 → rest at a t3 ≡ y
    → r.table_by limit levels o k (Some (lex.Key w)) t1 ≡ (r.operator_word limit k >>= r.one_by rest o k) t1 → (peek >>= r.table_by limit levels o k) t1 ≡ y
one_reads limit levels k w rest o at a t1 t2 t3 y h lt read g by =
    chosen (r.table_by limit levels o k) t1 (Some (lex.Key w)) y (head_is _ at t1 t2 h)
    (by ∙ operator_goes limit k _ at t1 t2 h lt (r.one_by rest o k) y (step (o (one_operator k)) (rest at) t2 a t3 y read g))

agg_rest_reads : (at by : ℕ) (a : Counted) (ns : List AstName) (us vs rest : Items) → Word (lex.Key key.By) by us vs → Maybe (Commas Named) ns vs rest → AfterNames (head_word rest) → r.agg_rest at a us ≡ read_of (node at (op.Agg a.0 ns), a.1) rest
agg_rest_reads at by a ns us vs rest h k after = rw (keyword_reads key.By by us vs h, some_names_reads ns vs rest k after) refl

map_rest_reads : (limit : Count) (d : ℕ) (n : Count) (at to : ℕ) (a : Counted) (ds : List AstDef) (j : Count) (us vs rest : Items) → Word (lex.Key key.To) to us vs → Defs d n ds vs rest → IsSum a.1 n j → IsWithin j limit → AfterTable (head_word rest) → r.map_rest limit d at a us ≡ read_of (node at (op.Map a.0 ds), j) rest
map_rest_reads limit d n at to a ds j us vs rest h hs total le after = rw (keyword_reads key.To to us vs h, defs_reads limit d n ds vs rest hs a.1 j total le after) refl

filter_rest_reads : (limit : Count) (d : ℕ) (n : Count) (at wh : ℕ) (a : Counted) (e : AstExpr) (j : Count) (us vs rest : Items) → Word (lex.Key key.Where) wh us vs → Expr d n e vs rest → IsSum a.1 n j → IsWithin j limit → AfterTable (head_word rest) → r.filter_rest limit d at a us ≡ read_of (node at (op.Filter a.0 e), j) rest
filter_rest_reads limit d n at wh a e j us vs rest h hs total le after = rw (keyword_reads key.Where wh us vs h, expr_reads limit d n e vs rest hs a.1 j total le (def_expr (head_word rest) (table_def (head_word rest) after))) refl

promote_rest_reads : (limit : Count) (d : ℕ) (n : Count) (at to : ℕ) (a : Counted) (c : AstKeyDef) (j : Count) (us vs rest : Items) → Word (lex.Key key.To) to us vs → KeyDef d n c vs rest → IsSum a.1 n j → IsWithin j limit → AfterTable (head_word rest) → r.promote_rest limit d at a us ≡ read_of (node at (op.Promote a.0 c), j) rest
promote_rest_reads limit d n at to a c j us vs rest h hs total le after = rw (keyword_reads key.To to us vs h, key_def_reads limit d n c vs rest hs a.1 j total le (table_def (head_word rest) after)) refl

rename_rest_reads : (at : ℕ) (a : Counted) (ps : List AstPair) (us rest : Items) → Commas Pair ps us rest → NoComma (head_word rest) → r.rename_rest at a us ≡ read_of (node at (op.Rename a.0 ps), a.1) rest
rename_rest_reads at a ps us rest h after = rw (pairs_reads ps us rest h after) refl

-- where k was counted before, j is with what the table has
mutual
  unfolding r.operand r.table r.inside

  operand_reads : (limit : Count) (d : ℕ) (n : Count) (x : AstNode) (ts us : Items) → Operand d n x ts us → (k j : Count) → IsSum k n j → IsWithin j limit → r.operand limit d k ts ≡ read_of (x, j) us
  operand_reads limit d n x ts us (leaf e y a b h) k j total le =
      let same : k ≡ j = sum_none k j total in
      let read : (r.leaf >>= λ z. give (z, k)) a ≡ read_of (y, j) b = step r.leaf (λ z. give (z, k)) a y b (read_of (y, j) b) (leaf_reads y a b h) (ap (λ (q : Count). read_of (y, q) b) same) in
      leaf_chosen (r.operand_by (r.inside limit e) k) y a b h (read_of (y, j) b) (λ m. read) read read
  operand_reads limit d n x ts us (inside e m a b y t1 t2 t3 t4 h1 h2 h3) k j total le =
      chosen (r.operand_by (r.inside limit (suc e)) k) t1 (Some (lex.Sign Open)) (read_of (y, j) t4) (head_is _ a t1 t2 h1)
      (step skip (inside_rest limit e k) t1 a t2 (read_of (y, j) t4) (skip_is _ a t1 t2 h1)
      (step (r.table limit e k) (λ z. sign Close >>= λ end. give z) t2 (y, j) t3 (read_of (y, j) t4) (table_reads limit e m y t2 t3 h2 k j total le (subst AfterTable (sym (head_is _ b t3 t4 h3)) tt))
      (step (sign Close) (λ end. give (y, j)) t3 b t4 (read_of (y, j) t4) (sign_reads Close b t3 t4 h3) refl)))

  table_reads : (limit : Count) (d : ℕ) (n : Count) (x : AstNode) (ts us : Items) → Table d n x ts us → (k j : Count) → IsSum k n j → IsWithin j limit → AfterTable (head_word us) → r.table limit d k ts ≡ read_of (x, j) us
  table_reads limit d n x ts us (join e l m at a b t1 t2 t3 t4 h1 h2 h3) k j total le after =
      chosen (r.table_by limit e (r.operand limit e) k) t1 (Some (lex.Key key.Join)) (read_of _ t4) (head_is _ at t1 t2 h1)
      (operator_goes limit k _ at t1 t2 h1 (omega (arith, total.0, le.0)) (r.two_by op.Join (r.operand limit e) k) (read_of _ t4)
      (two_goes op.Join (r.operand limit e) k (together (one_operator k) l) j at a b t2 t3 t4 (operand_reads limit e l a t2 t3 h2 (one_operator k) (together (one_operator k) l) (refl, refl) (omega (arith, total.0, le.0), omega (arith, total.1, le.1))) (operand_reads limit e m b t3 t4 h3 (together (one_operator k) l) j (omega (arith, total.0), omega (arith, total.1)) le)))
  table_reads limit d n x ts us (union e l m at a b t1 t2 t3 t4 h1 h2 h3) k j total le after =
      chosen (r.table_by limit e (r.operand limit e) k) t1 (Some (lex.Key key.Union)) (read_of _ t4) (head_is _ at t1 t2 h1)
      (operator_goes limit k _ at t1 t2 h1 (omega (arith, total.0, le.0)) (r.two_by op.Union (r.operand limit e) k) (read_of _ t4)
      (two_goes op.Union (r.operand limit e) k (together (one_operator k) l) j at a b t2 t3 t4 (operand_reads limit e l a t2 t3 h2 (one_operator k) (together (one_operator k) l) (refl, refl) (omega (arith, total.0, le.0), omega (arith, total.1, le.1))) (operand_reads limit e m b t3 t4 h3 (together (one_operator k) l) j (omega (arith, total.0), omega (arith, total.1)) le)))
  table_reads limit d n x ts us (agg e m at by a ns t1 t2 t3 t4 t5 h1 h2 h3 h4) k j total le after =
      one_reads limit e k key.Agg r.agg_rest (r.operand limit e) at (a, j) t1 t2 t3 (read_of _ t5) h1 (omega (arith, total.0, le.0)) (operand_reads limit e m a t2 t3 h2 (one_operator k) j (omega (arith, total.0), omega (arith, total.1)) le)
      (agg_rest_reads at by (a, j) ns t3 t4 t5 h3 h4 (table_names (head_word t5) after)) refl
  table_reads limit d n x ts us (map e l m at wh a ds t1 t2 t3 t4 t5 h1 h2 h3 h4) k j total le after =
      one_reads limit e k key.Map (r.map_rest limit e) (r.operand limit e) at (a, together (one_operator k) l) t1 t2 t3 (read_of _ t5) h1 (omega (arith, total.0, le.0))
      (operand_reads limit e l a t2 t3 h2 (one_operator k) (together (one_operator k) l) (refl, refl) (omega (arith, total.0, le.0), omega (arith, total.1, le.1)))
      (map_rest_reads limit e m at wh (a, together (one_operator k) l) ds j t3 t4 t5 h3 h4 (omega (arith, total.0), omega (arith, total.1)) le after) refl
  table_reads limit d n x ts us (filter e l m at wh a y t1 t2 t3 t4 t5 h1 h2 h3 h4) k j total le after =
      one_reads limit e k key.Filter (r.filter_rest limit e) (r.operand limit e) at (a, together (one_operator k) l) t1 t2 t3 (read_of _ t5) h1 (omega (arith, total.0, le.0))
      (operand_reads limit e l a t2 t3 h2 (one_operator k) (together (one_operator k) l) (refl, refl) (omega (arith, total.0, le.0), omega (arith, total.1, le.1)))
      (filter_rest_reads limit e m at wh (a, together (one_operator k) l) y j t3 t4 t5 h3 h4 (omega (arith, total.0), omega (arith, total.1)) le after) refl
  table_reads limit d n x ts us (promote e l m at wh a c t1 t2 t3 t4 t5 h1 h2 h3 h4) k j total le after =
      one_reads limit e k key.Promote (r.promote_rest limit e) (r.operand limit e) at (a, together (one_operator k) l) t1 t2 t3 (read_of _ t5) h1 (omega (arith, total.0, le.0))
      (operand_reads limit e l a t2 t3 h2 (one_operator k) (together (one_operator k) l) (refl, refl) (omega (arith, total.0, le.0), omega (arith, total.1, le.1)))
      (promote_rest_reads limit e m at wh (a, together (one_operator k) l) c j t3 t4 t5 h3 h4 (omega (arith, total.0), omega (arith, total.1)) le after) refl
  table_reads limit d n x ts us (rename e m at a ps t1 t2 t3 t4 h1 h2 h3) k j total le after =
      one_reads limit e k key.Rename r.rename_rest (r.operand limit e) at (a, j) t1 t2 t3 (read_of _ t4) h1 (omega (arith, total.0, le.0)) (operand_reads limit e m a t2 t3 h2 (one_operator k) j (omega (arith, total.0), omega (arith, total.1)) le)
      (rename_rest_reads at (a, j) ps t3 t4 h3 (table_comma (head_word t4) after)) refl
  table_reads limit d n x ts us (operand e m y a b h) k j total le after =
      let read = operand_reads limit e m y a b h k j total le in
      operand_chosen (r.table_by limit e (r.operand limit e) k) e m y a b h (read_of (y, j) b) (λ q. read) read read read

-- ---- statements

some_order_reads : (x : Option AstBy) (ts us : Items) → SomeOrder x ts us → Next Semi us → r.some_order ts ≡ read_of x us
unfolding r.some_order
some_order_reads x ts us (no_order q) after = chosen r.some_order_by q (Some (lex.Sign Semi)) (read_of None q) after refl
some_order_reads x ts us (order at ns a b c h k) after =
    chosen r.some_order_by a (Some (lex.Key key.By)) (read_of _ c) (head_is _ at a b h) (rw (skip_is _ at a b h, some_names_reads ns b c k (subst AfterNames (sym after) tt)) refl)

pub statement_reads : (limits : Limits) (x : AstStatement) (ts us : Items) → Statement limits x ts us → r.statement limits ts ≡ read_of x us
unfolding r.statement
statement_reads limits x ts us (assign a b m n t t1 t2 t3 t4 t5 h1 h2 h3 le h4) =
    chosen (r.statement_by limits) t1 (Some (lex.Name n.name)) (read_of _ t5) (head_is _ n.at t1 t2 h1)
    (rw (name_reads n t1 t2 h1, sign_reads Is a t2 t3 h2, table_reads limits.counted limits.levels m t t3 t4 h3 none_counted m (omega arith, omega arith) le (subst AfterTable (sym (head_is _ b t4 t5 h4)) tt), sign_reads Semi b t4 t5 h4) refl)
statement_reads limits x ts us (print at b n by t1 t2 t3 t4 t5 h1 h2 h3 h4) =
    chosen (r.statement_by limits) t1 (Some (lex.Key key.Print)) (read_of _ t5) (head_is _ at t1 t2 h1)
    (rw (skip_is _ at t1 t2 h1, name_reads n t2 t3 h2, some_order_reads by t3 t4 h3 (head_is _ b t4 t5 h4), sign_reads Semi b t4 t5 h4) refl)

-- a statement begins with a word
statement_head : (limits : Limits) (x : AstStatement) (ts us : Items) → Statement limits x ts us → (w : Lexeme) × (head_word ts ≡ Some w)
statement_head limits x ts us (assign a b m n t t1 t2 t3 t4 t5 h1 h2 h3 le h4) = (lex.Name n.name, head_is _ n.at t1 t2 h1)
statement_head limits x ts us (print at b n by t1 t2 t3 t4 t5 h1 h2 h3 h4) = (lex.Key key.Print, head_is _ at t1 t2 h1)

pub next_statement_reads : (limits : Limits) (x : AstStatement) (ts us : Items) → Statement limits x ts us → (room : Bool) → room ≡ true → r.next_statement limits room ts ≡ read_of (Some x) us
unfolding r.next_statement
next_statement_reads limits x ts us h false e = absurd cc
next_statement_reads limits x ts us h true e = let w = statement_head limits x ts us h in chosen (r.next_by limits true) ts (Some w.0) (read_of (Some x) us) w.1 (rw (statement_reads limits x ts us h) refl)

end_here : (limits : Limits) (room : Bool) → r.next_statement limits room [] ≡ read_of None []
unfolding r.next_statement
end_here limits room = refl

statements_go : (limits : Limits) (xs : List AstStatement) (ts rest : Items) → Many (Statement limits) xs ts rest → rest ≡ [] → (acc : List AstStatement) → length acc + length xs ≤ limits.statements → r.statements limits acc ts ≡ read_of (acc ++ xs) []
statements_go limits xs ts rest (none q) e acc le =
    statements-none limits acc q None [] (ap (next_behind limits acc) e ∙ end_here limits (has_room limits acc)) refl ∙ ap (λ q. read_of q []) (sym (append-nil acc))
statements_go limits xs ts rest (more x ys a b c h hs) e acc le =
    statements-some limits acc a x b (next_statement_reads limits x a b h (has_room limits acc) (room_for (length acc) limits.statements (omega (arith, le))))
    ∙ statements_go limits ys b c hs e (acc ++ x ∷ []) (omega (arith, le, length-append acc (x ∷ [])))
    ∙ ap (λ q. read_of q []) (append_assoc acc (x ∷ []) ys)

pub script_reads : (limits : Limits) (tree : Ast) (ts : Items) → Script limits tree ts → r.script limits ts ≡ read_of tree []
unfolding r.script
script_reads limits tree ts h = step (r.statements limits []) tree_given ts tree.statements [] (read_of tree []) (statements_go limits tree.statements ts [] h.0 refl [] (omega (arith, h.1))) refl
