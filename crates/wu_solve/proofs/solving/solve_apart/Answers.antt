use Rattle.std.proofs.Common.{◌≡◌}
use Rattle.std.proofs.lemmas.Result.{IfOk-weaker}
use Rattle.wu_gcl.specs.Regions.{region_of}
use Rattle.wu_solve.specs.Listing.{IsAscending}
use Rattle.wu_solve.specs.Solving.{frames_hits}
use Rattle.wu_base.specs.Ranges.{AreApart}
use Rattle.wu_solve.proofs.Results.{frames_ascend}
use Rattle.wu_solve.proofs.solving.solve_apart.Goals as goal

pub returns-then-is_one_term-clause-ascending : goal.returns-then-is_one_term-clause-ascending
returns-then-is_one_term-clause-ascending c =
    let region = region_of c.args.expr.now in
    let lists = c.args.lists.now in
    let frames = c.args.frames.now in
    IfOk-weaker c.solve_at_once.result (λ v. v.items ≡ frames_hits region lists frames) (λ v. IsAscending v.items)
    (λ v same. rw same (frames_ascend region lists frames c.requires.apart)) c.solve_at_once.ensures

pub returns-in-Some-clause-ascending : goal.returns-in-Some-clause-ascending
returns-in-Some-clause-ascending c =
    let region = region_of c.args.expr.now in
    let lists = c.args.lists.now in
    let met = c.deref.result.now in
    let apart : AreApart c.in-Some.met.items = rw c.in-Some.is at c.in_ok-some.ensures.apart in
    IfOk-weaker c.solve_parts.result (λ v. v.items ≡ frames_hits region lists met) (λ v. IsAscending v.items)
    (λ v same. rw same (frames_ascend region lists met (rw c.deref.ensures.value apart))) c.solve_parts.ensures

pub returns-in-None-clause-ascending : goal.returns-in-None-clause-ascending
returns-in-None-clause-ascending c =
    let region = region_of c.args.expr.now in
    let lists = c.args.lists.now in
    let frames = c.args.frames.now in
    IfOk-weaker c.solve_parts-in-None.result (λ v. v.items ≡ frames_hits region lists frames) (λ v. IsAscending v.items)
    (λ v same. rw same (frames_ascend region lists frames c.requires.apart)) c.solve_parts-in-None.ensures
