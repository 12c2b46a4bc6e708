use Rattle.std.proofs.Common.{◌≡◌, ◌∙◌, arith, ap, ◌++◌, ◌∷◌, []}
use Rattle.std.specs.Prelude.{Some, None, slice_get}
use Rattle.lara.proofs.ArgumentFacts.{more_words, whole_words}
use Rattle.lara.proofs.arguments.arguments.Goals as goal

pub returns-in-None : goal.returns-in-None
returns-in-None g c = λ told is.
    let n = c.loop-number.number in
    let past : None ≡ slice_get told n = cc (c.in_ok-word.ensures told is) in
    c.loop-number.invariant.words told is ∙ whole_words told n past

pub loop-number-preserved : goal.loop-number-preserved
loop-number-preserved g c =
    let n = c.loop-number.number in
    let word = c.in-Some.word in
    let pushed : c.push.new.self ≡ c.loop-number.words ++ word ∷ [] = c.in_ok-push-in-Some.ensures.ok in
    record {
      some = omega arith;
      words = λ told is.
          let there : Some word ≡ slice_get told n = cc (c.in_ok-word.ensures told is) in
          pushed ∙ ap (λ xs. xs ++ word ∷ []) (c.loop-number.invariant.words told is) ∙ more_words told n word c.loop-number.invariant.some there;
    }
