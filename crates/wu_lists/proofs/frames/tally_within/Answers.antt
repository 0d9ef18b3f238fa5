use Rattle.std.proofs.Common.{filter}
use Rattle.wu_layout.specs.Postings.{is_live}
use Rattle.wu_lists.proofs.Tallying.{counts}
use Rattle.wu_lists.proofs.frames.tally_within.Goals as goal

pub returns : goal.returns
returns c =
    counts c.args.frames.now c.requires.order (filter (is_live c.args.frames.now) c.args.addresses.now) c.args.tally.now
    c.count_within.new.tally c.count_within.ensures
