use Rattle.std.proofs.Common.{◌≡◌, ◌∙◌, ◌+◌, ◌-◌, length, length-drop, take, drop, ap, arith}
use Rattle.wu_gcl.specs.Regions.{region_of}
use Rattle.wu_solve.specs.Solving.{frames_hits}
use Rattle.wu_solve.proofs.FrameCounts.{hits_of_part, files_of_part, hits_taken}
use Rattle.wu_solve.proofs.FramePlaces.{apart_taken, apart_dropped}
use Rattle.wu_solve.proofs.counting.count_parts.Goals as goal

pub solve_at_once-requires-clause-apart : goal.solve_at_once-requires-clause-apart
solve_at_once-requires-clause-apart c =
    apart_taken (c.loop-from.from + c.frames_at_once-some.result - c.loop-from.from) (drop c.loop-from.from c.args.frames.now)
    (apart_dropped c.loop-from.from c.args.frames.now c.requires.apart)

pub frames_of-files-requires-clause-apart : goal.frames_of-files-requires-clause-apart
frames_of-files-requires-clause-apart c =
    apart_taken (c.loop-from.from + c.frames_at_once-some.result - c.loop-from.from) (drop c.loop-from.from c.args.frames.now)
    (apart_dropped c.loop-from.from c.args.frames.now c.requires.apart)

pub overflow_add-hits : goal.overflow_add-hits
overflow_add-hits c =
    let region = region_of c.args.expr.now in
    let lists = c.args.lists.now in
    let frames = c.args.frames.now in
    let from = c.loop-from.from in
    let some = c.frames_at_once-some.result in
    let m = from + some - from in
    let same : m ≡ some = omega arith in
    let part = hits_of_part region lists frames from some m same in
    let all = hits_taken region lists frames (from + some) in
    let found : length c.in_ok-extents.extents.items ≡ length (frames_hits region lists (take m (drop from frames))) =
    ap length c.in_ok-extents.ensures in
    omega (arith, part, all, found, c.loop-from.invariant.hits, c.requires.few, c.len.ensures, c.in_ok-extents.extents.ok.0)

pub loop-from-preserved : goal.loop-from-preserved
loop-from-preserved c =
    let region = region_of c.args.expr.now in
    let lists = c.args.lists.now in
    let frames = c.args.frames.now in
    let from = c.loop-from.from in
    let some = c.frames_at_once-some.result in
    let m = from + some - from in
    let same : m ≡ some = omega arith in
    let part = hits_of_part region lists frames from some m same in
    let parts = files_of_part region lists frames from some m same in
    let found : length c.in_ok-extents.extents.items ≡ length (frames_hits region lists (take m (drop from frames))) =
    ap length c.in_ok-extents.ensures in
    let seen : length c.deref.result.now ≡ length c.in_ok-extents.extents.items = ap length c.deref.ensures.value in
    let counted = c.frames_of-files.ensures.files region lists (c.deref.ensures.value ∙ c.in_ok-extents.ensures) in record {
      within = omega (arith, length-drop from frames);
      hits = omega (arith, part, found, c.loop-from.invariant.hits, c.len.ensures, c.in_ok-extents.extents.ok.0);
      files = omega (arith, parts, counted, c.loop-from.invariant.files);
      few = omega (
        arith,
        found,
        seen,
        c.frames_of-files.ensures.few,
        c.loop-from.invariant.few,
        c.len.ensures,
        c.in_ok-extents.extents.ok.0,
      );
    }
