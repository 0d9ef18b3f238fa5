use Rattle.std.proofs.Common.{◌≡◌, false, ◌∙◌, sym, arith, rules}
use Rattle.std.proofs.lemmas.Bool.{leb-false}
use Rattle.wu_base.specs.declared.limits.TheConstants.{ADDRESSES_MAX}
use Rattle.wu_job.specs.declared.live.LiveRange.{LiveRange}
use Rattle.wu_job.proofs.Ranks.{ends_from_place}
use Rattle.wu_job.proofs.live.reach_of_ended.Goals as goal

pub returns-then-not-ends_by-clause-others : goal.returns-then-not-ends_by-clause-others
returns-then-not-ends_by-clause-others c =
    let d : LiveRange = record { start = 0; len = 0; before = 0 } in
    let not_ended : c.ends_by.result ≡ false = search rules in
    ends_from_place c.args.address 0 ADDRESSES_MAX c.loop-end.end c.args.ranges.now d c.requires (omega arith)
    (leb-false _ _ (sym c.ends_by.ensures ∙ not_ended))
