-- What small scripts print and store, worked out by hand from the rules.
use Rattle.std.specs.Prelude.{◌≡◌, ℕ, List, [], ◌∷◌}
use Rattle.std.proofs.Common.{refl}
use Rattle.lara_semiring.specs.declared.value.ValType.TheVariants as ty
use Rattle.lara_semiring.specs.declared.value.Value.TheVariants.{Count}
use Rattle.lara_semiring.specs.Values.{value_zero, value_plus, value_is_zero}
use Rattle.lara_semiring.specs.Rows.{row_zero, row_plus, row_is_zero}
use Rattle.lara_key.specs.Keys.{tuple_cmp}
use Rattle.lara_key.specs.declared.key.KeyType.TheVariants as key_ty
use Rattle.lara_key.specs.declared.key.KeyVal.TheVariants.{Nat}
use Rattle.lara_data.specs.declared.node.Op.TheVariants.{Load, Literal}
use Rattle.lara_data.specs.declared.script.Statement.{Statement}
use Rattle.lara_data.specs.declared.script.Statement.TheVariants.{Assign, Print, Store}
use Rattle.lara_data.specs.KeyedTables.{same_key, before, at, key_put, key_set, at_keys, total}
use Rattle.lara_data.specs.TableTypes.{Columns}
use Rattle.lara_data.specs.Names.{Name, same_name}
use Rattle.lara_data.specs.Tables.{Entries, Table, table_of}
use Rattle.lara_data.specs.Plugins.{Plugins}
use Rattle.lara_data.specs.Denotations.{Database, meaning, after_all, denotation}
use Rattle.lara_data.specs.Newest.{newest}
use Rattle.lara_data.specs.Databases.{with_table, after_stores}

i : Name
i = 105 ∷ []

v : Name
v = 118 ∷ []

T : Name
T = 84 ∷ []

A : Name
A = 65 ∷ []

B : Name
B = 66 ∷ []

C : Name
C = 67 ∷ []

ty_of : Columns
ty_of = record { keys = record { name = i; ty = key_ty.Nat } ∷ []; vals = record { name = v; ty = ty.Count } ∷ [] }

three_and_four : Entries
three_and_four = record { key = Nat 1 ∷ []; row = Count 3 ∷ [] } ∷ record { key = Nat 1 ∷ []; row = Count 4 ∷ [] } ∷ []

-- the table with the row n at the key 1
at_one : ℕ → Table
at_one n = record { ty = ty_of; entries = record { key = Nat 1 ∷ []; row = Count n ∷ [] } ∷ [] }

-- `T = table ..; print T by i; store T as B; A = load B; print A;`, where B has another table before: the print and the store
-- have the numbers of their statements, and what is stored is not loaded
script : List Statement
script =
    Assign T (record { ty = ty_of; op = Literal three_and_four }) ∷ Print T (i ∷ []) ∷ Store T B
    ∷ Assign A (record { ty = ty_of; op = Load B }) ∷ Print A (i ∷ []) ∷ []

stored_before : Database
stored_before = record { name = B; table = at_one 9 } ∷ []

printed_and_stored : (ps : Plugins) →
    denotation ps stored_before script ≡ record {
      prints = record { statement = 2; name = T; order = i ∷ []; table = at_one 7 } ∷ record { statement = 5; name = A; order = i ∷ []; table = at_one 9 } ∷ [];
      stores = record { statement = 3; name = B; table = at_one 7 } ∷ [];
    }
unfolding i v T A B ty_of three_and_four at_one script stored_before denotation after_all newest meaning table_of total key_set key_put at_keys at before same_key tuple_cmp same_name value_zero value_plus value_is_zero row_zero row_plus row_is_zero
printed_and_stored ps = refl

-- a name that is assigned again has its newest table
assigned_again : (ps : Plugins) →
    denotation ps [] (Assign T (record { ty = ty_of; op = Literal [] }) ∷ Assign T (record { ty = ty_of; op = Literal three_and_four }) ∷ Print T (i ∷ []) ∷ [])
    ≡ record { prints = record { statement = 3; name = T; order = i ∷ []; table = at_one 7 } ∷ []; stores = [] }
unfolding i v T ty_of three_and_four at_one denotation after_all newest meaning table_of total key_set key_put at_keys at before same_key tuple_cmp same_name value_zero value_plus value_is_zero row_zero row_plus row_is_zero
assigned_again ps = refl

-- a new name goes to its place, and an old one keeps its own
in_order_of_names :
    after_stores (record { name = B; table = at_one 1 } ∷ []) (record { statement = 1; name = C; table = at_one 2 } ∷ record { statement = 2; name = A; table = at_one 3 } ∷ record { statement = 3; name = B; table = at_one 4 } ∷ record { statement = 4; name = A; table = at_one 5 } ∷ [])
    ≡ record { name = A; table = at_one 5 } ∷ record { name = B; table = at_one 4 } ∷ record { name = C; table = at_one 2 } ∷ []
unfolding A B C after_stores with_table same_name before
in_order_of_names = refl
