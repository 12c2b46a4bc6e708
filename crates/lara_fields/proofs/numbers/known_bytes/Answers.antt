use Rattle.std.proofs.Common.{arith}
use Rattle.lara_fields.specs.Numbers.{all_bytes}
use Rattle.lara_fields.proofs.numbers.known_bytes.Goals as goal

pub returns : goal.returns
returns c = all_bytes c.args.bytes.now (λ i. omega (arith, c.type_inv.bytes i))
