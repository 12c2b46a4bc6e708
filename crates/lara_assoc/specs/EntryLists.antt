-- Lists of entries of a type, as who makes a table builds them: entry by entry.
use Rattle.std.specs.Prelude.{◌≡◌, true, List, [], ◌∷◌, ◌++◌}
use Rattle.lara_key.specs.declared.key.KeyType.{KeyType}
use Rattle.lara_key.specs.Keys.{tuple_has}
use Rattle.lara_data.specs.KeyedTables.{AllKeys}
use Rattle.lara_data.specs.KeyedTypes.{all_have_none, all_have_push}
use Rattle.lara_data.specs.Apart.{keys_append}
use Rattle.lara_data.specs.TupleOrders.{tuple_order}
use Rattle.lara_data.specs.Names.{Tuple}
use Rattle.lara_data.specs.Tables.{Entry, Entries}

pub keys_none : (ts : List KeyType) → AllKeys {K = Tuple} (λ k. tuple_has ts k ≡ true) []
unfolding AllKeys
keys_none ts = tt

pub keys_push : (ts : List KeyType) (es : Entries) (e : Entry) → AllKeys (λ k. tuple_has ts k ≡ true) es → tuple_has ts e.key ≡ true → AllKeys (λ k. tuple_has ts k ≡ true) (es ++ e ∷ [])
unfolding AllKeys
keys_push ts es e h g = keys_append tuple_order (λ k. tuple_has ts k ≡ true) es (e ∷ []) h (g, tt)

pub ruleset entry_steps = (keys_none, keys_push, all_have_none, all_have_push)
