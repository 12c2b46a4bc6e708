-- The columns of a literal, as they are written.
use Rattle.std.specs.Prelude.{List}
use Rattle.lara_syntax.specs.declared.ast.AstKeyCol.{AstKeyCol}
use Rattle.lara_syntax.specs.declared.ast.AstValCol.{AstValCol}

-- the key columns and the value columns
pub record AstColumns : Type 0 where
  pub keys : List AstKeyCol
  pub vals : List AstValCol
