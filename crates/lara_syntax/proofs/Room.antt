-- No more statements than there is room for.
use Rattle.std.proofs.Common.{◌≡◌, ◌<◌, ◌≤◌, ℕ, zero, suc, List, [], ◌∷◌, ◌++◌, length, Option, Some, None, Ok, Err, refl, sym, subst, ◌∙◌, arith, Bool, true, false}
use Rattle.std.proofs.lemmas.List.{length-append}
use Rattle.std.proofs.lemmas.Bool.{ltb-true}
use Rattle.lara_syntax.specs.declared.item.Lexeme.{Lexeme}
use Rattle.lara_syntax.specs.declared.fault.Fault.TheVariants as faults
use Rattle.lara_syntax.specs.declared.ast.AstStatement.{AstStatement}
use Rattle.lara_syntax.specs.Limits.{Limits}
use Rattle.lara_syntax.specs.Steps.{Items, Read, head_word}
use Rattle.lara_syntax.specs.Reading as r
use Rattle.lara_syntax.proofs.Turns.{read_of, value_is, err_ok, none_some}
use Rattle.lara_syntax.proofs.TableReaders.{has_room, next_behind, next_behind-one, statements-some, statements-none, statements-fail}

full_by : (limits : Limits) (w : Option Lexeme) (ts : Items) (x : AstStatement) (u : Items) → r.next_by limits false w ts ≡ read_of (Some x) u → ⊥
full_by limits None ts x u e = none_some ts u x e
full_by limits (Some w) ts x u e = err_ok {A = Option AstStatement} _ (Some x, u) e

full_gives_none : (limits : Limits) (ts : Items) (x : AstStatement) (u : Items) → r.next_statement limits false ts ≡ read_of (Some x) u → ⊥
unfolding r.next_statement
full_gives_none limits ts x u e = full_by limits (head_word ts) ts x u e

-- what was given had room
had_room : (limits : Limits) (room : Bool) (ts : Items) (x : AstStatement) (u : Items) → r.next_statement limits room ts ≡ read_of (Some x) u → room ≡ true
had_room limits true ts x u e = refl
had_room limits false ts x u e = absurd (full_gives_none limits ts x u e)

pub room_left : (limits : Limits) (acc : List AstStatement) (ts : Items) (x : AstStatement) (u : Items) → next_behind limits acc ts ≡ read_of (Some x) u → length acc < limits.statements
room_left limits acc ts x u e = ltb-true (length acc) limits.statements (had_room limits (has_room limits acc) ts x u e)

within_by : (limits : Limits) (n : ℕ) → ((acc ys : List AstStatement) (ts u : Items) → length ts < n → r.statements limits acc ts ≡ read_of ys u → length acc ≤ limits.statements → length ys ≤ limits.statements)
    → (o : Read (Option AstStatement)) (acc ys : List AstStatement) (ts u : Items) → next_behind limits acc ts ≡ o → length ts < suc n → r.statements limits acc ts ≡ read_of ys u → length acc ≤ limits.statements → length ys ≤ limits.statements
within_by limits n next (Ok (None, m)) acc ys ts u h lt e le =
    let same : acc ≡ ys = value_is acc m ys u (sym (statements-none limits acc ts None m h refl) ∙ e) in
    subst (λ (q : List AstStatement). length q ≤ limits.statements) same le
within_by limits n next (Ok (Some x, m)) acc ys ts u h lt e le =
    let room = room_left limits acc ts x m h in
    next (acc ++ x ∷ []) ys m u (omega (arith, lt, (next_behind-one limits acc).shorter ts x m h)) (sym (statements-some limits acc ts x m h) ∙ e) (omega (arith, room, length-append acc (x ∷ [])))
within_by limits n next (Err d) acc ys ts u h lt e le = absurd (err_ok {A = List AstStatement} d (ys, u) (sym (statements-fail limits acc ts (faults.Stopped d) h) ∙ e))

pub within : (limits : Limits) (n : ℕ) (acc ys : List AstStatement) (ts u : Items) → length ts < n → r.statements limits acc ts ≡ read_of ys u → length acc ≤ limits.statements → length ys ≤ limits.statements
within limits zero acc ys ts u lt e le = absurd (omega arith)
within limits (suc n) acc ys ts u lt e le = within_by limits n (within limits n) (next_behind limits acc ts) acc ys ts u refl lt e le
