use Rattle.std.proofs.Common.{◌∙◌}
use Rattle.wu_query.proofs.NearLists.{among_either_way}
use Rattle.wu_query.proofs.near.is_needed.Goals as goal

pub returns : goal.returns
returns c = c.is_among.ensures ∙ among_either_way c.args.needed.now c.args.term.now
