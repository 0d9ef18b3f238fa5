use Rattle.std.proofs.Common.{◌+◌, ◌-◌, ◌^◌, ◌∙◌, arith, leb-true}
use Rattle.std.specs.Prelude.{nat_le}
use Rattle.wu_gcl.specs.Regions.{region_of}
use Rattle.wu_solve.specs.Solving.{frames_hits}
use Rattle.wu_solve.proofs.Results.{frames_ascend}
use Rattle.wu_cursor.proofs.InFrames.{hits_low, found_low}
use Rattle.wu_cursor.proofs.InLists.{starting_to_last, starting_before_none, starting_before}
use Rattle.wu_cursor.proofs.cursors.Cursor.rho_back.Goals as goal

pub returns-then-k-eq18446744073709551615 : goal.returns-then-k-eq18446744073709551615
returns-then-k-eq18446744073709551615 c =
    let region = region_of c.args.self.now.expr.now in
    let lists = c.args.self.now.lists.now in
    let frames = c.args.self.now.frames.now in
    c.tau_back.ensures
    ∙ starting_to_last (frames_hits region lists frames) c.args.k (frames_ascend region lists frames c.requires.apart) (2 ^ 64 - 1)
    (λ y has. let low = hits_low region lists frames y c.requires.frames has in (omega (arith, low.0, low.1), omega (arith, low.1)))

pub overflow_sub-behind : goal.overflow_sub-behind
overflow_sub-behind c =
    let region = region_of c.args.self.now.expr.now in
    let lists = c.args.self.now.lists.now in
    let frames = c.args.self.now.frames.now in
    let x = c.in-Some.behind in
    let low = found_low region lists frames (λ y. nat_le (c.args.k + 1) y.start) x c.requires.frames c.in-Some.ensures in
    omega (arith, low.0, leb-true (c.args.k + 1) x.start low.2)

pub returns-in-Some : goal.returns-in-Some
returns-in-Some c =
    let region = region_of c.args.self.now.expr.now in
    let lists = c.args.self.now.lists.now in
    let frames = c.args.self.now.frames.now in
    let x = c.in-Some.behind in
    let low = found_low region lists frames (λ y. nat_le (c.args.k + 1) y.start) x c.requires.frames c.in-Some.ensures in
    c.tau_back-in-Some.ensures
    ∙ starting_before (frames_hits region lists frames) c.args.k (frames_ascend region lists frames c.requires.apart) x
    (omega (arith, low.0, leb-true (c.args.k + 1) x.start low.2)) c.in-Some.ensures

pub returns-in-None : goal.returns-in-None
returns-in-None c =
    let region = region_of c.args.self.now.expr.now in
    let lists = c.args.self.now.lists.now in
    let frames = c.args.self.now.frames.now in
    c.tau_back-in-None.ensures
    ∙ starting_before_none (frames_hits region lists frames) c.args.k (frames_ascend region lists frames c.requires.apart) (2 ^ 64 - 1)
    (λ y has. let low = hits_low region lists frames y c.requires.frames has in omega (arith, low.1)) c.in-None.ensures
