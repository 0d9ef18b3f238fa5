use Rattle.std.proofs.Common.{◌∙◌, rules}
use Rattle.wu_parts.proofs.Covering.{all_kept}
use Rattle.wu_parts.proofs.flushing.live_among.Goals as goal

pub returns-then-all_live-clause-at : goal.returns-then-all_live-clause-at
returns-then-all_live-clause-at c =
    c.from.ensures ∙ all_kept c.args.live.now c.args.addresses.items (c.requires.all (search rules))
