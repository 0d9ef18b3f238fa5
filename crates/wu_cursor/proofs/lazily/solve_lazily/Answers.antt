use Rattle.std.proofs.Common.{◌≡◌, ◌++◌}
use Rattle.wu_gcl.specs.Regions.{region_of}
use Rattle.wu_solve.specs.Solving.{frames_hits}
use Rattle.wu_solve.proofs.Results.{frames_ascend}
use Rattle.wu_cursor.proofs.lazily.solve_lazily.Goals as goal

pub returns-then-are_apart-clause-ascending : goal.returns-then-are_apart-clause-ascending
returns-then-are_apart-clause-ascending c = λ apart.
    let region = region_of c.args.expr.now in
    let lists = c.args.lists.now in
    let frames = c.args.frames.now in
    let put : c.put_extents.new.found.items ≡ c.new-found.result.items ++ frames_hits region lists frames = c.in_ok-put_extents.ensures in
    rw (put, c.new-found.ensures.items) (frames_ascend region lists frames apart)
