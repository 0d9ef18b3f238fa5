use Rattle.std.proofs.Common.{◌-◌, ◌∙◌, arith}
use Rattle.std.specs.Prelude.{nat_le}
use Rattle.wu_gcl.specs.Regions.{region_of}
use Rattle.wu_solve.specs.Solving.{frames_hits}
use Rattle.wu_solve.proofs.Results.{frames_ascend}
use Rattle.wu_cursor.proofs.InFrames.{found_low_back}
use Rattle.wu_cursor.proofs.InLists.{ending_from_zero, ending_from_first, ending_behind}
use Rattle.wu_cursor.proofs.cursors.Cursor.rho.Goals as goal

pub returns-then-k-eq0 : goal.returns-then-k-eq0
returns-then-k-eq0 c =
    let region = region_of c.args.self.now.expr.now in
    let lists = c.args.self.now.lists.now in
    let frames = c.args.self.now.frames.now in
    c.tau.ensures ∙ ending_from_zero (frames_hits region lists frames) c.args.k (frames_ascend region lists frames c.requires.apart)
    (omega arith)

pub overflow_add-before : goal.overflow_add-before
overflow_add-before c =
    let region = region_of c.args.self.now.expr.now in
    let lists = c.args.self.now.lists.now in
    let frames = c.args.self.now.frames.now in
    let low = found_low_back region lists frames (λ x. nat_le x.end (c.args.k - 1)) c.in-Some.before c.requires.frames c.in-Some.ensures in
    omega (arith, low.0, low.1)

pub returns-in-Some : goal.returns-in-Some
returns-in-Some c =
    let region = region_of c.args.self.now.expr.now in
    let lists = c.args.self.now.lists.now in
    let frames = c.args.self.now.frames.now in
    c.tau-in-Some.ensures
    ∙ ending_behind (frames_hits region lists frames) c.args.k (frames_ascend region lists frames c.requires.apart) c.in-Some.before
    (omega arith)
    c.in-Some.ensures

pub returns-in-None : goal.returns-in-None
returns-in-None c =
    let region = region_of c.args.self.now.expr.now in
    let lists = c.args.self.now.lists.now in
    let frames = c.args.self.now.frames.now in
    c.tau-in-None.ensures
    ∙ ending_from_first (frames_hits region lists frames) c.args.k (frames_ascend region lists frames c.requires.apart) (omega arith)
    c.in-None.ensures
