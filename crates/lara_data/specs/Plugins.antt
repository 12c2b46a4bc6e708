-- The list of plugins that a call is handed, asked through what the trait says that each means.
use Rattle.std.specs.Prelude.{◌≡◌, List, [], Option, Some}
use Rattle.std.specs.List.{find}
use Rattle.std.specs.Option.{option_and_then, option_map_or}
use Rattle.std.specs.declared.dyn_box.DynBox.{DynBox}
use Rattle.lara_key.specs.declared.key.KeyType.{KeyType}
use Rattle.lara_data.specs.declared.arg.Arg.{Arg}
use Rattle.lara_data.specs.declared.arg.Call.{Call}
use Rattle.lara_data.specs.declared.plugin.Plugin.{Ghosts}
use Rattle.lara_data.specs.AddedTuples.{added}
use Rattle.lara_data.specs.TableTypes.{Columns, key_types}
use Rattle.lara_data.specs.Names.{Name, Tuple, same_name}

-- boxed plugins: the implementations that stand behind boxes, the values of each and what they mean, and the boxes, over an
-- allocator
pub record Plugins : Type 1 where
  pub Impl : Type 0
  pub Held : Impl → Type 0
  pub Allocator : Type 0
  pub meaning : (i : Impl) → Ghosts (Held i)
  pub boxes : List (DynBox Impl Allocator Held)

-- the plugins that a call is handed
abbrev pub handed : {I A : Type 0} {H : I → Type 0} → ((i : I) → Ghosts (H i)) → List (DynBox I A H) → Plugins
handed {I} {A} {H} m ps = record { Impl = I; Held = H; Allocator = A; meaning = m; boxes = ps }

-- the first plugin of a name
abbrev pub first_of : (ps : Plugins) → Name → Option (DynBox ps.Impl ps.Allocator ps.Held)
first_of ps name = find (λ p. same_name ((ps.meaning p.vtable).called p.value) name) ps.boxes

-- the types of the key columns that it adds to a table; none where there is no plugin of the name, or it refuses
abbrev pub apply_types : Plugins → Name → Columns → List Arg → Option (List KeyType)
apply_types ps name ty args = option_and_then (λ p. (ps.meaning p.vtable).accepted p.value ty args) (first_of ps name)

-- the tuples that it adds to a key
abbrev pub apply_tuples : Plugins → Name → Columns → List Arg → Tuple → List Tuple
apply_tuples ps name ty args key = option_map_or (λ p. added ((ps.meaning p.vtable).accepted p.value ty args) ((ps.meaning p.vtable).given p.value ty args key)) (first_of ps name) []

-- the first plugin of the call's name is there, accepts the columns, and adds the call's types
abbrev pub CallFits : Plugins → Columns → Call → Type 0
CallFits ps ty call = apply_types ps call.plugin ty call.args ≡ Some (key_types call.cols)
