-- The names that a map defines, one after the other.
use Rattle.std.specs.Prelude.{ℕ, List}
use Rattle.lara_data.specs.Judgements.{Judged}
use Rattle.lara_syntax.specs.declared.ast_part.AstDef.{AstDef}
use Rattle.lara_types.specs.LiteralTypes.{one_more_name}

-- the name of a definition
abbrev pub def_name : AstDef → List ℕ
def_name d = d.col.name.name

-- the name of one definition more
abbrev pub one_more_def : List (List ℕ) → AstDef → Judged (List (List ℕ))
one_more_def names d = one_more_name names d.col.name
