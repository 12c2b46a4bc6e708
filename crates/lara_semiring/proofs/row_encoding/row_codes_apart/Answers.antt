use Rattle.lara_semiring.specs.RowDecoding.{row_codes_apart}
use Rattle.lara_semiring.proofs.row_encoding.row_codes_apart.Goals as goal

pub returns : goal.returns
returns c = row_codes_apart c.args.tys.now c.args.a.now c.args.b.now c.requires.left c.requires.right
