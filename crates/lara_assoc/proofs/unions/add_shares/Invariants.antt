use Rattle.std.proofs.Common.{◌≡◌, ◌++◌, true}
use Rattle.lara_data.specs.KeyedTables.{all_have}
use Rattle.lara_data.specs.MapTables.{of_pairs}
use Rattle.lara_data.specs.TableTypes.{types}
use Rattle.lara_data.specs.Algebra.{heading, shares}
use Rattle.lara_assoc.specs.Summed.{IsLeft}
use Rattle.lara_assoc.proofs.unions.add_shares.Given as goal

-- the entries that are left, which are of the types
abbrev pub invariant-loop-key : goal.invariant-loop-key
invariant-loop-key l = record {
  left : IsLeft (types l.ty.vals) l.sums (shares (heading l.a.ty) (heading l.ty) (of_pairs l.key-iterator)) (l.fn.sums.entries ++ shares (heading l.a.ty) (heading l.ty) l.a.entries);
  typed : all_have (types l.a.ty.vals) (of_pairs l.key-iterator) ≡ true;
}
