-- Each print and each store of a script stands at its statement, counted from 1.
use Rattle.std.specs.Prelude.{◌≡◌, ℕ, ◌+◌, ◌-◌, ◌<◌, fold, List, [], ◌∷◌, ◌++◌, length, Option, Some, None}
use Rattle.std.proofs.Common.{refl, sym, ap, ◌∙◌, subst, arith, zero, suc, append_assoc, length-append}
use Rattle.std.specs.List.{All, slice_get}
use Rattle.std.proofs.lemmas.List.Elements.{All-append}
use Rattle.lara_data.specs.declared.script.Statement.{Statement}
use Rattle.lara_data.specs.declared.script.Statement.TheVariants.{Assign, Print, Store}
use Rattle.lara_data.specs.Tables.{Table}
use Rattle.lara_data.specs.Plugins.{Plugins}
use Rattle.lara_data.specs.Denotations.{Database, Printed, Stored, Running, print_of, store_of, table_named, after, before_all, after_all, denotation}

-- the statement of that number prints the name in the order
pub record PrintsAt (ss : List Statement) (p : Printed) : Type 0 where
  pub counted : 0 < p.statement
  pub is : slice_get ss (p.statement - 1) ≡ Some (Print p.name p.order)

-- the statement of that number stores a name under the store's
pub record StoresAt (ss : List Statement) (s : Stored) : Type 0 where
  pub counted : 0 < s.statement
  pub old : List ℕ
  pub is : slice_get ss (s.statement - 1) ≡ Some (Store old s.name)

-- what is to be shown of a run over the first statements
record Numbered (ss : List Statement) (r : Running) : Type 0 where
  prints : All (PrintsAt ss) r.prints
  stores : All (StoresAt ss) r.stores

get_behind : (before behind : List Statement) (s : Statement) → slice_get (before ++ s ∷ behind) (length before) ≡ Some s
get_behind [] behind s = refl
get_behind (b ∷ before) behind s = get_behind before behind s

one : {X : Type 0} (P : X → Type 0) (x : X) → P x → All P (x ∷ [])
one P x h zero d l = h
one P x h (suc k) d l = absurd (omega (arith, l))

none : {X : Type 0} (P : X → Type 0) → All P []
none P k d l = absurd (omega (arith, l))

numbered_print : (before behind : List Statement) (n : ℕ) (name : List ℕ) (order : List (List ℕ)) (found : Option Table) → n ≡ length before → All (PrintsAt (before ++ Print name order ∷ behind)) (print_of (n + 1) name order found)
numbered_print before behind n name order None e = none (PrintsAt (before ++ Print name order ∷ behind))
numbered_print before behind n name order (Some t) e =
    one (PrintsAt (before ++ Print name order ∷ behind)) _ (record {
      counted = omega arith;
      is = ap (slice_get (before ++ Print name order ∷ behind)) (omega (arith, e)) ∙ get_behind before behind (Print name order);
    })

numbered_store : (before behind : List Statement) (n : ℕ) (old name : List ℕ) (found : Option Table) → n ≡ length before → All (StoresAt (before ++ Store old name ∷ behind)) (store_of (n + 1) name found)
numbered_store before behind n old name None e = none (StoresAt (before ++ Store old name ∷ behind))
numbered_store before behind n old name (Some t) e =
    one (StoresAt (before ++ Store old name ∷ behind)) _ (record {
      counted = omega arith;
      old = old;
      is = ap (slice_get (before ++ Store old name ∷ behind)) (omega (arith, e)) ∙ get_behind before behind (Store old name);
    })

numbered_after : (ps : Plugins) (db : Database) (r : Running) (before behind : List Statement) (s : Statement) → r.statement ≡ length before → Numbered (before ++ s ∷ behind) r → Numbered (before ++ s ∷ behind) (after ps db r s)
numbered_after ps db r before behind (Assign name node) e h = record { prints = h.prints; stores = h.stores }
numbered_after ps db r before behind (Print name order) e h =
    record {
      prints = All-append (PrintsAt (before ++ Print name order ∷ behind)) r.prints _ h.prints (numbered_print before behind r.statement name order (table_named name r.tables) e);
      stores = h.stores;
    }
numbered_after ps db r before behind (Store old new) e h =
    record {
      prints = h.prints;
      stores = All-append (StoresAt (before ++ Store old new ∷ behind)) r.stores _ h.stores (numbered_store before behind r.statement old new (table_named old r.tables) e);
    }

counted_after : (ps : Plugins) (db : Database) (r : Running) (s : Statement) → (after ps db r s).statement ≡ r.statement + 1
counted_after ps db r (Assign name node) = refl
counted_after ps db r (Print name order) = refl
counted_after ps db r (Store old new) = refl

numbered_from : (ps : Plugins) (db : Database) (r : Running) (before ss : List Statement) → r.statement ≡ length before → Numbered (before ++ ss) r → Numbered (before ++ ss) (fold (after ps db) r ss)
numbered_from ps db r before [] e h = h
numbered_from ps db r before (s ∷ ss) e h =
    let next = after ps db r s in
    let move : (before ++ s ∷ []) ++ ss ≡ before ++ s ∷ ss = append_assoc before (s ∷ []) ss in
    let count : next.statement ≡ length (before ++ s ∷ []) = counted_after ps db r s ∙ ap (λ n. n + 1) e ∙ sym (length-append before (s ∷ [])) in
    let here : Numbered ((before ++ s ∷ []) ++ ss) next = subst (λ (x : List Statement). Numbered x next) (sym move) (numbered_after ps db r before ss s e h) in
    subst (λ (x : List Statement). Numbered x (fold (after ps db) next ss)) move (numbered_from ps db next (before ++ s ∷ []) ss count here)

numbered : (ps : Plugins) (db : Database) (ss : List Statement) → Numbered ss (after_all ps db ss)
unfolding after_all
numbered ps db ss = numbered_from ps db before_all [] ss refl (record { prints = none (PrintsAt ss); stores = none (StoresAt ss) })

-- each print of a script stands at its statement
pub prints_at : (ps : Plugins) (db : Database) (ss : List Statement) → All (PrintsAt ss) (denotation ps db ss).prints
unfolding denotation
prints_at ps db ss = (numbered ps db ss).prints

-- each store of a script stands at its statement
pub stores_at : (ps : Plugins) (db : Database) (ss : List Statement) → All (StoresAt ss) (denotation ps db ss).stores
unfolding denotation
stores_at ps db ss = (numbered ps db ss).stores
