-- The columns of small tables, extensions and renames, worked out by hand from the rules.
use Rattle.std.specs.Prelude.{◌≡◌, ℕ, true, false, List, [], ◌∷◌, map}
use Rattle.std.proofs.Common.{refl}
use Rattle.lara_semiring.specs.declared.value.ValType.TheVariants as ty
use Rattle.lara_semiring.specs.declared.value.Value.TheVariants.{Count}
use Rattle.lara_key.specs.declared.key.KeyType.TheVariants as key_ty
use Rattle.lara_key.specs.declared.key.KeyVal.TheVariants.{Nat}
use Rattle.lara_data.specs.declared.arg.NamePair.{NamePair}
use Rattle.lara_data.specs.declared.expr.Expr.TheVariants as expr
use Rattle.lara_data.specs.declared.order.EachOp.TheVariants as each
use Rattle.lara_data.specs.declared.table_type.KeyCol.{KeyCol}
use Rattle.lara_data.specs.declared.table_type.ValCol.{ValCol}
use Rattle.lara_data.specs.TableTypes.{Columns, are_columns}
use Rattle.lara_data.specs.Names.{Name, same_name, has, distinct}
use Rattle.lara_data.specs.TypeRules.{types_differ}
use Rattle.lara_data.specs.Extensions.{each_columns, new_name, renamed_columns, renamed}

i : Name
i = 105 ∷ []

j : Name
j = 106 ∷ []

v : Name
v = 118 ∷ []

w : Name
w = 119 ∷ []

key : Name → KeyCol
key n = record { name = n; ty = key_ty.Nat }

val : Name → ValCol
val n = record { name = n; ty = ty.Count }

columns : List KeyCol → List ValCol → Columns
columns keys vals = record { keys = keys; vals = vals }

-- a map keeps the key columns and has the value columns that it defines alone, in their sequence
mapped : each_columns (each.Map (record { col = val w; expr = expr.Number 1 } ∷ record { col = val v; expr = expr.Number 2 } ∷ [])) (columns (key i ∷ []) (val v ∷ [])) ≡ columns (key i ∷ []) (val w ∷ val v ∷ [])
unfolding each_columns i v w key val columns
mapped = refl

filtered : each_columns (each.Filter (expr.Flag true)) (columns (key i ∷ []) (val v ∷ [])) ≡ columns (key i ∷ []) (val v ∷ [])
unfolding each_columns
filtered = refl

-- a promote puts the new key column last
promoted : each_columns (each.Promote (record { col = key j; expr = expr.Number 1 })) (columns (key i ∷ []) (val v ∷ [])) ≡ columns (key i ∷ key j ∷ []) (val v ∷ [])
unfolding each_columns i j v key val columns
promoted = refl

-- an apply puts the added key columns last
applied : each_columns (each.Apply (record { plugin = w; args = []; cols = key j ∷ key w ∷ [] })) (columns (key i ∷ []) (val v ∷ [])) ≡ columns (key i ∷ key j ∷ key w ∷ []) (val v ∷ [])
unfolding each_columns i j v w key val columns
applied = refl

to : Name → Name → NamePair
to old new = record { old = old; new = new }

-- two columns may change their names for each other's, since all are renamed at once
swapped : renamed_columns (to i j ∷ to j i ∷ to v w ∷ []) (columns (key i ∷ key j ∷ []) (val v ∷ [])) ≡ columns (key j ∷ key i ∷ []) (val w ∷ [])
unfolding renamed_columns new_name same_name i j v w key val columns to
swapped = refl

-- a rename changes no entry
kept : renamed (to i j ∷ []) (record { ty = columns (key i ∷ []) (val v ∷ []); entries = record { key = Nat 1 ∷ []; row = Count 2 ∷ [] } ∷ [] }) ≡ record { ty = columns (key j ∷ []) (val v ∷ []); entries = record { key = Nat 1 ∷ []; row = Count 2 ∷ [] } ∷ [] }
unfolding renamed renamed_columns new_name same_name i j v key val columns to
kept = refl

-- ---- how many columns, and of which names

keys_of : List ℕ → List KeyCol
keys_of ns = map (λ n. key (n ∷ [])) ns

vals_of : List ℕ → List ValCol
vals_of ns = map (λ n. val (n ∷ [])) ns

-- eight columns of either kind are a table's, nine are not
eight : are_columns (keys_of (1 ∷ 2 ∷ 3 ∷ 4 ∷ 5 ∷ 6 ∷ 7 ∷ 8 ∷ [])) (vals_of (11 ∷ 12 ∷ 13 ∷ 14 ∷ 15 ∷ 16 ∷ 17 ∷ 18 ∷ [])) ≡ true
unfolding are_columns keys_of vals_of key val distinct has same_name
eight = refl

nine_keys : are_columns (keys_of (1 ∷ 2 ∷ 3 ∷ 4 ∷ 5 ∷ 6 ∷ 7 ∷ 8 ∷ 9 ∷ [])) (vals_of (11 ∷ [])) ≡ false
unfolding are_columns keys_of vals_of key val distinct has same_name
nine_keys = refl

nine_vals : are_columns (keys_of (1 ∷ [])) (vals_of (11 ∷ 12 ∷ 13 ∷ 14 ∷ 15 ∷ 16 ∷ 17 ∷ 18 ∷ 19 ∷ [])) ≡ false
unfolding are_columns keys_of vals_of key val distinct has same_name
nine_vals = refl

-- a table has a value column
no_val : are_columns (keys_of (1 ∷ [])) [] ≡ false
unfolding are_columns keys_of key distinct has same_name
no_val = refl

-- no key column has a value column's name
one_name : are_columns (keys_of (1 ∷ 2 ∷ [])) (vals_of (2 ∷ [])) ≡ false
unfolding are_columns keys_of vals_of key val distinct has same_name
one_name = refl

-- ---- what a name stands for

-- a key on the left and a value on the right
two_kinds : types_differ (columns (keys_of (1 ∷ 2 ∷ [])) (vals_of (3 ∷ []))) (columns (keys_of (1 ∷ [])) (vals_of (2 ∷ []))) ≡ true
unfolding types_differ columns keys_of vals_of key val same_name
two_kinds = refl

-- a value on the left and a key on the right
kinds_turned : types_differ (columns (keys_of (1 ∷ [])) (vals_of (2 ∷ []))) (columns (keys_of (1 ∷ 2 ∷ [])) (vals_of (3 ∷ []))) ≡ true
unfolding types_differ columns keys_of vals_of key val same_name
kinds_turned = refl

-- one kind on both sides, and names that one side alone has
one_kind : types_differ (columns (keys_of (1 ∷ 2 ∷ [])) (vals_of (4 ∷ []))) (columns (keys_of (2 ∷ 3 ∷ [])) (vals_of (4 ∷ 5 ∷ []))) ≡ false
unfolding types_differ columns keys_of vals_of key val same_name
one_kind = refl
