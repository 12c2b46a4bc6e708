-- The operands of a tree that is meant are meant, and what is made of their tables is what the tree means.
use Rattle.std.proofs.Common.{◌≡◌, ◌<◌, List, length, Ok, sym, ap, ◌∙◌, refl}
use Rattle.std.proofs.Math.Path.{subst}
use Rattle.lara_data.specs.declared.node.Node.{Node}
use Rattle.lara_data.specs.declared.node.Op.{Op}
use Rattle.lara_data.specs.declared.node.Op.TheVariants.{Load, Named, Literal, Join, Union, Agg, Map, Filter, Promote, Rename, Apply}
use Rattle.lara_data.specs.declared.schema.Schema.{Schema}
use Rattle.lara_data.specs.declared.arg.Call.{Call}
use Rattle.lara_data.specs.declared.arg.Def.{Def}
use Rattle.lara_data.specs.declared.arg.KeyDef.{KeyDef}
use Rattle.lara_data.specs.declared.arg.NamePair.{NamePair}
use Rattle.lara_data.specs.declared.expr.Expr.{Expr}
use Rattle.lara_data.specs.Names.{Name}
use Rattle.lara_data.specs.Tables.{Entries, Table, table_of}
use Rattle.lara_data.specs.Algebra.{join_columns, join_tables, union_tables, agg_table}
use Rattle.lara_data.specs.declared.order.EachOp.TheVariants as each
use Rattle.lara_data.specs.Extensions.{ext, renamed}
use Rattle.lara_data.specs.TypeRules.{join_type, union_type, agg_type, map_type, promote_type, rename_type}
use Rattle.lara_data.specs.Plugins.{Plugins}
use Rattle.lara_data.specs.Denotations.{NamedTable, Database, table_named, table_or_empty, meaning, meaning_of}
use Rattle.lara_data.specs.Fits.{OpFits}
use Rattle.lara_data.specs.TypedTrees.{OpTyped, IsLiteral}
use Rattle.lara_data.specs.MeaningLaws.{IsTableOf-meaning}
use Rattle.lara_data.proofs.FitEquations.{fits_Join, fits_Union, fits_Agg, fits_Map, fits_Filter, fits_Promote, fits_Rename}
use Rattle.lara_data.proofs.MeaningEquations.{meaning_Load, meaning_Named, meaning_Literal, meaning_Join, meaning_Union, meaning_Agg, meaning_Map, meaning_Filter, meaning_Promote, meaning_Rename}
use Rattle.lara_data.proofs.TypedEquations.{typed_Literal, typed_Join, typed_Union, typed_Agg, typed_Map, typed_Filter, typed_Promote, typed_Rename, typed_Apply}
use Rattle.lara_assoc.specs.Meant.{IsMeant}

typed_as : (known : List Schema) (node : Node) (o : Op) (T : Type 0) → node.op ≡ o → OpTyped known o node.ty ≡ T → OpTyped known node.op node.ty → T
typed_as known node o T e q h = subst (λ (X : Type 0). X) q (subst (λ (p : Op). OpTyped known p node.ty) e h)

fits_as : (ps : Plugins) (db : Database) (node : Node) (o : Op) (T : Type 0) → node.op ≡ o → OpFits ps db o node.ty ≡ T → OpFits ps db node.op node.ty → T
fits_as ps db node o T e q h = subst (λ (X : Type 0). X) q (subst (λ (p : Op). OpFits ps db p node.ty) e h)

module _ (ps : Plugins) (db : Database) (tables : List NamedTable) where
  -- the table of a tree has the columns of its node
  its_columns : (node x : Node) (t : Table) → x ≡ node → t ≡ meaning_of ps db tables x → IsMeant ps db tables node → t.ty ≡ node.ty
  its_columns node x t i p h = ap (λ (z : Table). z.ty) (p ∙ ap (meaning_of ps db tables) i) ∙ (IsTableOf-meaning ps db h.known tables h.stands node.op node.ty h.typed h.fits).columns

  from_op : (node : Node) (o : Op) → node.op ≡ o → meaning ps db tables o node.ty ≡ meaning_of ps db tables node
  from_op node o e = ap (λ (p : Op). meaning ps db tables p node.ty) (sym e)

  pub load_means : (node : Node) (n : Name) → node.op ≡ Load n → table_or_empty node.ty (table_named n db) ≡ meaning_of ps db tables node
  load_means node n e = sym (meaning_Load ps db tables n node.ty) ∙ from_op node (Load n) e

  pub name_means : (node : Node) (n : Name) → node.op ≡ Named n → table_or_empty node.ty (table_named n tables) ≡ meaning_of ps db tables node
  name_means node n e = sym (meaning_Named ps db tables n node.ty) ∙ from_op node (Named n) e

  pub literal_means : (node : Node) (es : Entries) → node.op ≡ Literal es → table_of node.ty es ≡ meaning_of ps db tables node
  literal_means node es e = sym (meaning_Literal ps db tables es node.ty) ∙ from_op node (Literal es) e

  pub literal_typed : (node : Node) (es : Entries) → node.op ≡ Literal es → IsMeant ps db tables node → IsLiteral node.ty es
  literal_typed node es e h = typed_as h.known node (Literal es) (IsLiteral node.ty es) e (typed_Literal h.known es node.ty) h.typed

  -- joins
  pub join_left : (node a b x : Node) → node.op ≡ Join a b → x ≡ a → IsMeant ps db tables node → IsMeant ps db tables x
  join_left node a b x e i h =
      let t = typed_as h.known node (Join a b) _ e (typed_Join h.known a b node.ty) h.typed in
      let f = fits_as ps db node (Join a b) _ e (fits_Join ps db a b node.ty) h.fits in
      subst (IsMeant ps db tables) (sym i) (record { known = h.known; stands = h.stands; typed = t.1; fits = f.0 })

  pub join_right : (node a b x : Node) → node.op ≡ Join a b → x ≡ b → IsMeant ps db tables node → IsMeant ps db tables x
  join_right node a b x e i h =
      let t = typed_as h.known node (Join a b) _ e (typed_Join h.known a b node.ty) h.typed in
      let f = fits_as ps db node (Join a b) _ e (fits_Join ps db a b node.ty) h.fits in
      subst (IsMeant ps db tables) (sym i) (record { known = h.known; stands = h.stands; typed = t.2; fits = f.1 })

  pub join_means : (node a b x y : Node) (l r : Table) → node.op ≡ Join a b → x ≡ a → y ≡ b → l ≡ meaning_of ps db tables x → r ≡ meaning_of ps db tables y → join_tables l r ≡ meaning_of ps db tables node
  join_means node a b x y l r e i j p q =
      (λ k. join_tables ((p ∙ ap (meaning_of ps db tables) i) k) ((q ∙ ap (meaning_of ps db tables) j) k)) ∙ sym (meaning_Join ps db tables a b node.ty) ∙ from_op node (Join a b) e

  pub join_typed : (node a b x y : Node) (l r : Table) → node.op ≡ Join a b → x ≡ a → y ≡ b → IsMeant ps db tables node → l ≡ meaning_of ps db tables x → r ≡ meaning_of ps db tables y → join_type l.ty r.ty ≡ Ok node.ty
  join_typed node a b x y l r e i j h p q =
      let t = typed_as h.known node (Join a b) _ e (typed_Join h.known a b node.ty) h.typed in
      (λ k. join_type (its_columns a x l i p (join_left node a b a e refl h) k) (its_columns b y r j q (join_right node a b b e refl h) k)) ∙ t.0

  -- unions
  pub union_left : (node a b x : Node) → node.op ≡ Union a b → x ≡ a → IsMeant ps db tables node → IsMeant ps db tables x
  union_left node a b x e i h =
      let t = typed_as h.known node (Union a b) _ e (typed_Union h.known a b node.ty) h.typed in
      let f = fits_as ps db node (Union a b) _ e (fits_Union ps db a b node.ty) h.fits in
      subst (IsMeant ps db tables) (sym i) (record { known = h.known; stands = h.stands; typed = t.1; fits = f.0 })

  pub union_right : (node a b x : Node) → node.op ≡ Union a b → x ≡ b → IsMeant ps db tables node → IsMeant ps db tables x
  union_right node a b x e i h =
      let t = typed_as h.known node (Union a b) _ e (typed_Union h.known a b node.ty) h.typed in
      let f = fits_as ps db node (Union a b) _ e (fits_Union ps db a b node.ty) h.fits in
      subst (IsMeant ps db tables) (sym i) (record { known = h.known; stands = h.stands; typed = t.2; fits = f.1 })

  pub union_means : (node a b x y : Node) (l r : Table) → node.op ≡ Union a b → x ≡ a → y ≡ b → l ≡ meaning_of ps db tables x → r ≡ meaning_of ps db tables y → union_tables l r ≡ meaning_of ps db tables node
  union_means node a b x y l r e i j p q =
      (λ k. union_tables ((p ∙ ap (meaning_of ps db tables) i) k) ((q ∙ ap (meaning_of ps db tables) j) k)) ∙ sym (meaning_Union ps db tables a b node.ty) ∙ from_op node (Union a b) e

  pub union_typed : (node a b x y : Node) (l r : Table) → node.op ≡ Union a b → x ≡ a → y ≡ b → IsMeant ps db tables node → l ≡ meaning_of ps db tables x → r ≡ meaning_of ps db tables y → union_type l.ty r.ty ≡ Ok node.ty
  union_typed node a b x y l r e i j h p q =
      let t = typed_as h.known node (Union a b) _ e (typed_Union h.known a b node.ty) h.typed in
      (λ k. union_type (its_columns a x l i p (union_left node a b a e refl h) k) (its_columns b y r j q (union_right node a b b e refl h) k)) ∙ t.0

  -- aggs
  pub agg_below : (node a x : Node) (ks : List Name) → node.op ≡ Agg a ks → x ≡ a → IsMeant ps db tables node → IsMeant ps db tables x
  agg_below node a x ks e i h =
      let t = typed_as h.known node (Agg a ks) _ e (typed_Agg h.known a ks node.ty) h.typed in
      let f = fits_as ps db node (Agg a ks) _ e (fits_Agg ps db a ks node.ty) h.fits in
      subst (IsMeant ps db tables) (sym i) (record { known = h.known; stands = h.stands; typed = t.1; fits = f })

  pub agg_means : (node a x : Node) (ks : List Name) (l : Table) → node.op ≡ Agg a ks → x ≡ a → l ≡ meaning_of ps db tables x → agg_table l ks ≡ meaning_of ps db tables node
  agg_means node a x ks l e i p =
      ap (λ (t : Table). agg_table t ks) (p ∙ ap (meaning_of ps db tables) i) ∙ sym (meaning_Agg ps db tables a ks node.ty) ∙ from_op node (Agg a ks) e

  pub agg_typed : (node a x : Node) (ks : List Name) (l : Table) → node.op ≡ Agg a ks → x ≡ a → IsMeant ps db tables node → l ≡ meaning_of ps db tables x → agg_type l.ty ks ≡ Ok node.ty
  agg_typed node a x ks l e i h p =
      let t = typed_as h.known node (Agg a ks) _ e (typed_Agg h.known a ks node.ty) h.typed in
      (λ k. agg_type (its_columns a x l i p (agg_below node a a ks e refl h) k) ks) ∙ t.0

  -- aggs of joins
  pub agg_join_means : (node a x l r y z : Node) (ks : List Name) (s t : Table) → node.op ≡ Agg a ks → x ≡ a → x.op ≡ Join l r → y ≡ l → z ≡ r → s ≡ meaning_of ps db tables y → t ≡ meaning_of ps db tables z → agg_table (join_tables s t) ks ≡ meaning_of ps db tables node
  agg_join_means node a x l r y z ks s t e i o p q u v = agg_means node a x ks (join_tables s t) e i (join_means x l r y z s t o p q u v)

  pub agg_join_typed : (node a x l r y z : Node) (ks : List Name) (s t : Table) → node.op ≡ Agg a ks → x ≡ a → x.op ≡ Join l r → y ≡ l → z ≡ r → IsMeant ps db tables node → s ≡ meaning_of ps db tables y → t ≡ meaning_of ps db tables z → agg_type (join_columns s.ty t.ty) ks ≡ Ok node.ty
  unfolding join_tables
  agg_join_typed node a x l r y z ks s t e i o p q h u v = agg_typed node a x ks (join_tables s t) e i h (join_means x l r y z s t o p q u v)

  -- maps
  pub map_below : (node a x : Node) (ds : List Def) → node.op ≡ Map a ds → x ≡ a → IsMeant ps db tables node → IsMeant ps db tables x
  map_below node a x ds e i h =
      let t = typed_as h.known node (Map a ds) _ e (typed_Map h.known a ds node.ty) h.typed in
      let f = fits_as ps db node (Map a ds) _ e (fits_Map ps db a ds node.ty) h.fits in
      subst (IsMeant ps db tables) (sym i) (record { known = h.known; stands = h.stands; typed = t.2; fits = f })

  pub map_means : (node a x : Node) (ds : List Def) (l : Table) → node.op ≡ Map a ds → x ≡ a → l ≡ meaning_of ps db tables x → ext ps (each.Map ds) l ≡ meaning_of ps db tables node
  map_means node a x ds l e i p =
      ap (λ (t : Table). ext ps (each.Map ds) t) (p ∙ ap (meaning_of ps db tables) i) ∙ sym (meaning_Map ps db tables a ds node.ty) ∙ from_op node (Map a ds) e

  pub map_some : (node a : Node) (ds : List Def) → node.op ≡ Map a ds → IsMeant ps db tables node → 0 < length ds
  map_some node a ds e h = (typed_as h.known node (Map a ds) _ e (typed_Map h.known a ds node.ty) h.typed).0

  pub map_typed : (node a x : Node) (ds : List Def) (l : Table) → node.op ≡ Map a ds → x ≡ a → IsMeant ps db tables node → l ≡ meaning_of ps db tables x → map_type l.ty ds ≡ Ok node.ty
  map_typed node a x ds l e i h p =
      let t = typed_as h.known node (Map a ds) _ e (typed_Map h.known a ds node.ty) h.typed in
      (λ k. map_type (its_columns a x l i p (map_below node a a ds e refl h) k) ds) ∙ t.1

  -- filters
  pub filter_below : (node a x : Node) (test : Expr) → node.op ≡ Filter a test → x ≡ a → IsMeant ps db tables node → IsMeant ps db tables x
  filter_below node a x test e i h =
      let t = typed_as h.known node (Filter a test) _ e (typed_Filter h.known a test node.ty) h.typed in
      let f = fits_as ps db node (Filter a test) _ e (fits_Filter ps db a test node.ty) h.fits in
      subst (IsMeant ps db tables) (sym i) (record { known = h.known; stands = h.stands; typed = t.1; fits = f })

  pub filter_means : (node a x : Node) (test : Expr) (l : Table) → node.op ≡ Filter a test → x ≡ a → l ≡ meaning_of ps db tables x → ext ps (each.Filter test) l ≡ meaning_of ps db tables node
  filter_means node a x test l e i p =
      ap (λ (t : Table). ext ps (each.Filter test) t) (p ∙ ap (meaning_of ps db tables) i) ∙ sym (meaning_Filter ps db tables a test node.ty) ∙ from_op node (Filter a test) e

  -- promotes
  pub promote_below : (node a x : Node) (d : KeyDef) → node.op ≡ Promote a d → x ≡ a → IsMeant ps db tables node → IsMeant ps db tables x
  promote_below node a x d e i h =
      let t = typed_as h.known node (Promote a d) _ e (typed_Promote h.known a d node.ty) h.typed in
      let f = fits_as ps db node (Promote a d) _ e (fits_Promote ps db a d node.ty) h.fits in
      subst (IsMeant ps db tables) (sym i) (record { known = h.known; stands = h.stands; typed = t.1; fits = f })

  pub promote_means : (node a x : Node) (d : KeyDef) (l : Table) → node.op ≡ Promote a d → x ≡ a → l ≡ meaning_of ps db tables x → ext ps (each.Promote d) l ≡ meaning_of ps db tables node
  promote_means node a x d l e i p =
      ap (λ (t : Table). ext ps (each.Promote d) t) (p ∙ ap (meaning_of ps db tables) i) ∙ sym (meaning_Promote ps db tables a d node.ty) ∙ from_op node (Promote a d) e

  pub promote_typed : (node a x : Node) (d : KeyDef) (l : Table) → node.op ≡ Promote a d → x ≡ a → IsMeant ps db tables node → l ≡ meaning_of ps db tables x → promote_type l.ty d ≡ Ok node.ty
  promote_typed node a x d l e i h p =
      let t = typed_as h.known node (Promote a d) _ e (typed_Promote h.known a d node.ty) h.typed in
      (λ k. promote_type (its_columns a x l i p (promote_below node a a d e refl h) k) d) ∙ t.0

  -- renames
  pub rename_below : (node a x : Node) (ns : List NamePair) → node.op ≡ Rename a ns → x ≡ a → IsMeant ps db tables node → IsMeant ps db tables x
  rename_below node a x ns e i h =
      let t = typed_as h.known node (Rename a ns) _ e (typed_Rename h.known a ns node.ty) h.typed in
      let f = fits_as ps db node (Rename a ns) _ e (fits_Rename ps db a ns node.ty) h.fits in
      subst (IsMeant ps db tables) (sym i) (record { known = h.known; stands = h.stands; typed = t.1; fits = f })

  pub rename_means : (node a x : Node) (ns : List NamePair) (l : Table) → node.op ≡ Rename a ns → x ≡ a → l ≡ meaning_of ps db tables x → renamed ns l ≡ meaning_of ps db tables node
  rename_means node a x ns l e i p =
      ap (λ (t : Table). renamed ns t) (p ∙ ap (meaning_of ps db tables) i) ∙ sym (meaning_Rename ps db tables a ns node.ty) ∙ from_op node (Rename a ns) e

  pub rename_typed : (node a x : Node) (ns : List NamePair) (l : Table) → node.op ≡ Rename a ns → x ≡ a → IsMeant ps db tables node → l ≡ meaning_of ps db tables x → rename_type l.ty ns ≡ Ok node.ty
  rename_typed node a x ns l e i h p =
      let t = typed_as h.known node (Rename a ns) _ e (typed_Rename h.known a ns node.ty) h.typed in
      (λ k. rename_type (its_columns a x l i p (rename_below node a a ns e refl h) k) ns) ∙ t.0

  -- no tree that is meant has an operator without a type
  pub no_apply : (node a : Node) (c : Call) → node.op ≡ Apply a c → IsMeant ps db tables node → ⊥
  no_apply node a c e h = typed_as h.known node (Apply a c) ⊥ e (typed_Apply h.known a c node.ty) h.typed
