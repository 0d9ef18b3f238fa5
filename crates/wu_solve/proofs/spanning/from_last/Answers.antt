use Rattle.std.proofs.Common.{◌∙◌, ap, drop}
use Rattle.std.proofs.lemmas.List.{take_rest}
use Rattle.wu_solve.proofs.NearSpans.{from_last_is}
use Rattle.wu_solve.proofs.spanning.from_last.Goals as goal

pub returns : goal.returns
returns c =
    take_rest c.args.starts.now c.saturating_sub.result
    ∙ ap (λ n. drop n c.args.starts.now) c.saturating_sub.ensures
    ∙ from_last_is c.args.starts.now c.args.bound c.below-passed.result c.requires c.below-passed.ensures
