-- The loop goes on behind a definition, of which each takes a word.
use Rattle.std.proofs.Common.{◌≡◌, ◌<◌, ℕ, List, [], ◌∷◌, ◌++◌, length, Option, Some, sym, ap, ◌∙◌, arith}
use Rattle.std.proofs.lemmas.List.{length-append}
use Rattle.lara_syntax.specs.declared.count.Count.{Count}
use Rattle.lara_syntax.specs.declared.ast_part.AstDef.{AstDef}
use Rattle.lara_syntax.specs.Limits.{most}
use Rattle.lara_syntax.specs.Steps.{Items}
use Rattle.lara_syntax.specs.Reading.{CountedDef, comma_def, defs_from}
use Rattle.lara_syntax.proofs.Turns.{read_of}
use Rattle.lara_syntax.proofs.TableReaders.{comma_def-one, defs-some}
use Rattle.lara_syntax.proofs.rules.defs.more_defs.Goals as goal

one_read : (levels : ℕ) (taken : Count) (ts u : Items) (o : Option CountedDef) (x : AstDef) (k : Count) → comma_def most.counted levels taken ts ≡ read_of o u → o ≡ Some (x, k) → comma_def most.counted levels taken ts ≡ read_of (Some (x, k)) u
one_read levels taken ts u o x k e h = e ∙ ap (λ (q : Option CountedDef). read_of q u) h

shorter : (levels : ℕ) (taken : Count) (ts u : Items) (o : Option CountedDef) (x : AstDef) (k : Count) → comma_def most.counted levels taken ts ≡ read_of o u → o ≡ Some (x, k) → length u < length ts
shorter levels taken ts u o x k e h = (comma_def-one most.counted levels taken).shorter ts (x, k) u (one_read levels taken ts u o x k e h)

goes_on : (levels : ℕ) (xs : List AstDef) (taken : Count) (ts u : Items) (o : Option CountedDef) (x : AstDef) (k : Count) → comma_def most.counted levels taken ts ≡ read_of o u → o ≡ Some (x, k) → defs_from most.counted levels (xs ++ x ∷ [], k) u ≡ defs_from most.counted levels (xs, taken) ts
goes_on levels xs taken ts u o x k e h = sym (defs-some most.counted levels xs taken ts (x, k) u (one_read levels taken ts u o x k e h))

pub loop-defs-smaller : goal.loop-defs-smaller
loop-defs-smaller c = shorter c.args.levels c.loop-defs.taken c.loop-defs.rest.now c.in_ok-x.after.now c.in_ok-x.x c.in-Some.x c.in-Some.counted c.in_ok-x.ensures c.in-Some.is

pub loop-defs-preserved : goal.loop-defs-preserved
loop-defs-preserved c =
    let pushed : c.push.new.self ≡ c.loop-defs.defs ++ c.in-Some.x ∷ [] = c.in_ok-push-in-Some.ensures.ok in
    record {
      some = omega (arith, ap length pushed, length-append c.loop-defs.defs (c.in-Some.x ∷ []));
      same = ap (λ (xs : List AstDef). defs_from most.counted c.args.levels (xs, c.in-Some.counted) c.in_ok-x.after.now) pushed
          ∙ goes_on c.args.levels c.loop-defs.defs c.loop-defs.taken c.loop-defs.rest.now c.in_ok-x.after.now c.in_ok-x.x c.in-Some.x c.in-Some.counted c.in_ok-x.ensures c.in-Some.is
          ∙ c.loop-defs.invariant.same;
    }
