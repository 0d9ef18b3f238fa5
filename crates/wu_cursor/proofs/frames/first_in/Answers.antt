use Rattle.std.proofs.Common.{◌≡◌, ℕ, ◌-◌, ◌∙◌, ap, subst, arith}
use Rattle.std.specs.Prelude.{Some}
use Rattle.wu_gcl.specs.Regions.{region_of}
use Rattle.wu_cursor.specs.Within.{set_in, IsFirst, NoneStarts}
use Rattle.wu_cursor.proofs.InFrames.{first_moved, none_moved}
use Rattle.wu_cursor.proofs.frames.first_in.Goals as goal

pub moved-requires-clause-fits : goal.moved-requires-clause-fits
moved-requires-clause-fits c = omega (arith, c.in_ok-extent.ensures.member.extent.within, c.requires.frame)

pub moved-requires-clause-ordered : goal.moved-requires-clause-ordered
moved-requires-clause-ordered c = c.in_ok-extent.ensures.member.extent.ordered

pub returns-in_err-extent : goal.returns-in_err-extent
returns-in_err-extent c =
    let same : c.saturating_sub-from.result ≡ c.args.address - c.args.frame.start = omega arith in
    let set = set_in (region_of c.args.expr.now) c.args.lists.now c.args.frame in
    rw c.from_residual.ensures
    (none_moved (region_of c.args.expr.now) c.args.lists.now c.args.frame c.args.address
    (subst (λ (from : ℕ). NoneStarts c.args.frame.len set from) same c.in_err-extent.ensures))

pub returns : goal.returns
returns c =
    let same : c.saturating_sub-from.result ≡ c.args.address - c.args.frame.start = omega arith in
    let set = set_in (region_of c.args.expr.now) c.args.lists.now c.args.frame in
    ap Some c.moved.ensures
    ∙ first_moved (region_of c.args.expr.now) c.args.lists.now c.args.frame c.args.address c.in_ok-extent.extent
    (subst (λ (from : ℕ). IsFirst c.args.frame.len set from c.in_ok-extent.extent) same c.in_ok-extent.ensures)
