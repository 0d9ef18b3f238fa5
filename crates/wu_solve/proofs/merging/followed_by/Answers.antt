use Rattle.std.proofs.Common.{◌≡◌, arith}
use Rattle.std.proofs.lemmas.Grind.{common_steps}
use Rattle.wu_solve.proofs.Spans.{spans, spans_inner}
use Rattle.wu_solve.proofs.merging.followed_by.Goals as goal

pub returns : goal.returns
returns c =
    let whole : c.loop-i.found.items ≡ spans c.args.left.now c.args.right.now = grind (arith, common_steps) in
    rw whole (spans_inner c.args.left.now c.args.right.now c.requires.left_ascends c.requires.right_ascends)
