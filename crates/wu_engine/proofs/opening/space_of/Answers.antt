use Rattle.std.proofs.Common.{◌≡◌, ◌∙◌, rules}
use Rattle.std.specs.Prelude.{IsPermutation}
use Rattle.wu_engine.proofs.OpenedFiles.{space_is}
use Rattle.wu_engine.proofs.opening.space_of.Goals as goal

pub returns : goal.returns
returns c =
    let next : c.unwrap-space.result.next ≡ c.args.next = search rules in
    let moved : IsPermutation c.deref.result.now c.unwrap-space.result.ranges = search rules in
    space_is c.unwrap-space.result c.args.next c.args.files.now c.deref.result.now next
    (c.deref.ensures.value ∙ c.in_ok-ranges.ensures) moved c.requires.ascend c.keeps_the_rules.ensures
