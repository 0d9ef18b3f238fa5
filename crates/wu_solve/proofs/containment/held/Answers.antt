use Rattle.std.proofs.Common.{◌≡◌, ◌∙◌, refl, arith}
use Rattle.std.proofs.lemmas.Grind.{common_steps}
use Rattle.wu_solve.proofs.Walking.{walk_held, walk_held_is}
use Rattle.wu_solve.proofs.containment.held.Goals as goal

pub returns : goal.returns
returns c =
    let whole : c.loop-extent.kept.items ≡ walk_held c.args.wanted c.args.extents.now c.args.others.now = grind (arith, common_steps) in
    whole ∙ walk_held_is c.args.wanted c.args.extents.now c.args.others.now c.args.others.now c.requires.extents_ascend
    c.requires.others_ascend (λ x has. refl)
