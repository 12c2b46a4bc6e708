-- The statements of a tree, one after the other.
use Rattle.std.specs.Prelude.{◌≡◌, ◌<◌, ◌+◌, ℕ, List, [], ◌∷◌, ◌++◌, take, length, Ok, Err}
use Rattle.std.proofs.Common.{refl, get_or}
use Rattle.lara_data.specs.declared.refusal.Refusal.{Refusal}
use Rattle.lara_data.specs.declared.schema.Schema.{Schema}
use Rattle.lara_data.specs.declared.script.Statement.{Statement}
use Rattle.lara_data.specs.Plugins.{Plugins}
use Rattle.lara_data.specs.TypedScripts.{known_after}
use Rattle.lara_syntax.specs.declared.ast.Ast.{Ast}
use Rattle.lara_syntax.specs.declared.ast.AstStatement.{AstStatement}
use Rattle.lara_types.specs.Checks.{checked_statement, at_start, one_more, checked}
use Rattle.lara_types.specs.Walks.{walk}
use Rattle.lara_types.specs.WalkLaws.{walk-none, walk-more, walk-stops}

module _ (ps : Plugins) (stored : List Schema) where
  pub checked_none : (known : List Schema) (ss : List Statement) → known ≡ [] → ss ≡ [] → walk (one_more ps stored) at_start [] ≡ Ok (record { known = known; statements = ss })
  checked_none known ss k s = rw (k, s) (walk-none (one_more ps stored) at_start)

  module _ (tree : Ast) (i : ℕ) (x : AstStatement) (known : List Schema) (ss : List Statement) (within : i < length tree.statements) (here : x ≡ get_or tree.statements i x) (so_far : walk (one_more ps stored) at_start (take i tree.statements) ≡ Ok (record { known = known; statements = ss })) where
    -- one statement more
    pub checked_more : (s : Statement) (news : List Schema) (more : List Statement) → checked_statement ps stored known x ≡ Ok s → news ≡ known_after known s → more ≡ ss ++ s ∷ [] → walk (one_more ps stored) at_start (take (i + 1) tree.statements) ≡ Ok (record { known = news; statements = more })
    checked_more s news more e k m = walk-more (one_more ps stored) at_start _ tree.statements i x _ within here so_far (rw (k, m, e) refl)

    -- a statement is refused
    pub checked_stops : (r : Refusal) → checked_statement ps stored known x ≡ Err r → checked ps stored tree ≡ Err r
    unfolding checked
    checked_stops r e = rw (walk-stops (one_more ps stored) at_start _ tree.statements i x r within here so_far (rw e refl)) refl
