-- Keys with the columns of their table and no others, and the agg that keeps them all.
use Rattle.std.specs.Prelude.{◌≡◌, List, [], ◌∷◌}
use Rattle.std.proofs.Common.{refl, ap, ◌∙◌}
use Rattle.lara_key.specs.Keys.{tuple_cmp}
use Rattle.lara_data.specs.KeyedTables.{total, IsTable, AllKeys}
use Rattle.lara_data.specs.KeyedTotals.{total_table}
use Rattle.lara_data.specs.TupleOrders.{tuple_order}
use Rattle.lara_data.specs.TableTypes.{types}
use Rattle.lara_data.specs.Names.{Name, Tuple, cut}
use Rattle.lara_data.specs.Tables.{Entries, recut}
use Rattle.lara_data.specs.Algebra.{Heading, agg}

-- a key with the columns ns and no others
abbrev pub IsWhole : List Name → Tuple → Type 0
IsWhole ns k = cut ns ns k ≡ k

pub recut_itself : (ns : List Name) (es : Entries) → AllKeys (IsWhole ns) es → recut ns ns es ≡ es
unfolding recut AllKeys
recut_itself ns [] h = refl
recut_itself ns (e ∷ es) h = λ i. record { key = h.0 i; row = e.row } ∷ recut_itself ns es h.1 i

-- an agg that keeps every key column, in their sequence, is the table
pub agg_itself : (a : Heading) (es : Entries) → IsTable tuple_cmp (types a.vals) es → AllKeys (IsWhole a.keys) es → agg a a.keys es ≡ es
unfolding agg
agg_itself a es t h = ap (total tuple_cmp (types a.vals)) (recut_itself a.keys es h) ∙ total_table tuple_order (types a.vals) es t
