use Rattle.std.proofs.Common.{arith}
use Rattle.wu_base.specs.declared.limits.TheConstants.{ADDRESSES_MAX}
use Rattle.wu_job.specs.declared.live.LiveRange.{LiveRange}
use Rattle.wu_job.proofs.Ranks.{first_is, starts_by}
use Rattle.wu_job.proofs.live.first_live.Goals as goal

pub returns-in-len1-up-clause-first : goal.returns-in-len1-up-clause-first
returns-in-len1-up-clause-first c =
    let d : LiveRange = record { start = 0; len = 0; before = 0 } in
    omega (
      arith,
      c.max.ensures,
      c.from_address.ensures.first,
      first_is c.args.from c.from_address.result.now d c.from_address.ensures.ends (omega (arith, c.in-len1-up.len_at_least)),
    )

pub returns-in-len1-up-clause-low : goal.returns-in-len1-up-clause-low
returns-in-len1-up-clause-low c = λ address alive from.
    let left = c.from_address.result.now in
    let starts = starts_by ADDRESSES_MAX address c.args.live.now left (record { start = 0; len = 0; before = 0 }) c.requires alive
    (c.from_address.ensures.same address from) (omega (arith, c.in-len1-up.len_at_least)) in
    omega (arith, c.max.ensures, starts)
