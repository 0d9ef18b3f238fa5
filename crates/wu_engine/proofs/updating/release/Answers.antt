use Rattle.std.proofs.Common.{◌∙◌, ap}
use Rattle.std.proofs.lemmas.Result.{on_ok_weaker}
use Rattle.wu_space.specs.Addresses.{Addresses, range_of}
use Rattle.wu_engine.proofs.NumberedEntries.{none-removed}
use Rattle.wu_engine.proofs.updating.release.Goals as goal

pub returns-in-Some-clause-none : goal.returns-in-Some-clause-none
returns-in-Some-clause-none c =
    let ino = c.in-Some.ino in
    on_ok_weaker c.retire.result
    (λ _.
    rw c.in-Some.is
    (ap (λ (s : Addresses). range_of s.ranges ino) c.release.ensures
    ∙ none-removed c.args.space.now.ranges ino c.keeps_the_rules.ensures.by_number))
    c.retire.ensures.retired
