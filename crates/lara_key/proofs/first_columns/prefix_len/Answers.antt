use Rattle.std.proofs.Common.{arith, take}
use Rattle.std.proofs.lemmas.List.{length-take}
use Rattle.lara_key.specs.PrefixLengths.{prefix_found, prefix_short}
use Rattle.lara_key.proofs.first_columns.prefix_len.Goals as goal

pub overflow_cast-result : goal.overflow_cast-result
overflow_cast-result c = omega (arith, length-take c.args.columns c.args.tys.now, prefix_short (take c.args.columns c.args.tys.now) c.args.key.now c.in-Some.rest.now c.known_bytes.ensures (rw c.as_slice.ensures at c.in-Some.ensures), c.requires.few)

pub returns-in-Some : goal.returns-in-Some
returns-in-Some c = prefix_found (take c.args.columns c.args.tys.now) c.args.key.now c.in-Some.rest.now c.known_bytes.ensures (rw c.as_slice.ensures at c.in-Some.ensures)
