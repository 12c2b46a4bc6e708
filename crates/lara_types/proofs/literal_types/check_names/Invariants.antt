use Rattle.std.proofs.Common.{◌≡◌, [], ◌++◌, map, take, Ok}
use Rattle.lara_types.specs.Walks.{walk}
use Rattle.lara_types.specs.LiteralTypes.{one_more_key, one_more_val, key_col_name, val_col_name}
use Rattle.lara_types.specs.Seen.{Holds}
use Rattle.lara_types.proofs.literal_types.check_names.Given as goal

-- the names of the key columns so far differ, and the set holds them
abbrev pub invariant-loop-key : goal.invariant-loop-key
invariant-loop-key l = record {
  held : Holds l.seen (map key_col_name (take l.key-index l.keys));
  so_far : walk one_more_key [] (take l.key-index l.keys) ≡ Ok (map key_col_name (take l.key-index l.keys));
}

-- the same with the value columns so far
abbrev pub invariant-loop-val : goal.invariant-loop-val
invariant-loop-val l = record {
  held : Holds l.seen (map key_col_name l.keys ++ map val_col_name (take l.val-index l.vals));
  keys : walk one_more_key [] l.keys ≡ Ok (map key_col_name l.keys);
  so_far : walk one_more_val (map key_col_name l.keys) (take l.val-index l.vals) ≡ Ok (map key_col_name l.keys ++ map val_col_name (take l.val-index l.vals));
}
