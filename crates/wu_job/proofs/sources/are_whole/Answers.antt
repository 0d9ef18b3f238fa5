use Rattle.std.proofs.Common.{◌≡◌, rules}
use Rattle.std.specs.Prelude.{None, Some}
use Rattle.wu_job.proofs.Whole.{whole_one, whole_both}
use Rattle.wu_job.proofs.sources.are_whole.Goals as goal

pub returns-in-Some-clause-whole : goal.returns-in-Some-clause-whole
returns-in-Some-clause-whole c =
    let is : c.args.right.now ≡ Some c.in-Some.source = search rules in
    whole_both c.args.left.now c.args.right.now c.in-Some.source _ _ is c.is_spelled.ensures.1.holds c.is_spelled-in-Some.ensures.1.holds

pub returns-in-None-clause-whole : goal.returns-in-None-clause-whole
returns-in-None-clause-whole c =
    let is : c.args.right.now ≡ None = search rules in
    whole_one c.args.left.now c.args.right.now _ is c.is_spelled.ensures.1.holds
