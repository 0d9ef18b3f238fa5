use Rattle.std.proofs.Common.{ap, length, sym, ◌∙◌, arith}
use Rattle.std.proofs.lemmas.List.{length-drop}
use Rattle.wu_part.proofs.WalkLemmas.{drop_next}
use Rattle.wu_part.proofs.walks.entry_after.Goals as goal

pub returns-in_default : goal.returns-in_default
returns-in_default c =
    let none = ap length (sym c.loop.invariant.0 ∙ c.in_default.ensures.steps.0) in
    omega (arith, none, length-drop c.loop.counter c.args.terms, c.loop-test.true)

pub loop-preserved : goal.loop-preserved
loop-preserved c = drop_next _ _ _ _ (sym c.loop.invariant.0 ∙ c.in-Some.ensures.steps)
