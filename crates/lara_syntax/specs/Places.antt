-- How what is read gets its place.
use Rattle.std.specs.Prelude.{ℕ, List, [], ◌∷◌}
use Rattle.lara_syntax.specs.declared.ast.AstLit.{AstLit}
use Rattle.lara_syntax.specs.declared.ast.AstNode.{AstNode}
use Rattle.lara_syntax.specs.declared.ast.AstOp.{AstOp}

-- what makes a table, at its place
abbrev pub node : ℕ → AstOp → AstNode
node at what = record { at = at; op = what }

-- the place of the first of a list, or another
abbrev pub first_at : List AstLit → ℕ → ℕ
first_at [] at = at
first_at (x ∷ xs) at = x.at
