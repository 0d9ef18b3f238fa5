use Rattle.std.proofs.Common.{◌≡◌, ◌+◌, ◌-◌, drop, length-drop, map, take, arith}
use Rattle.wu_gcl.specs.Regions.{region_of}
use Rattle.wu_solve.proofs.FrameCounts.{files_of_part, hits_of_part, hits_taken}
use Rattle.wu_solve.proofs.FramePlaces.{apart_dropped, apart_taken}
use Rattle.wu_query.specs.Near.{whole}
use Rattle.wu_query.proofs.NearGroups.{files_few, part_few}
use Rattle.wu_query.proofs.groups.count_groups.Goals as goal

pub count_group-requires-clause-apart : goal.count_group-requires-clause-apart
count_group-requires-clause-apart c =
    let from = c.loop-from.from in
    apart_taken (from + c.frames_within-some.result - from) (drop from c.args.frames.now)
    (apart_dropped from c.args.frames.now c.requires.apart)

pub count_group-requires-clause-few : goal.count_group-requires-clause-few
count_group-requires-clause-few c =
    let from = c.loop-from.from in
    let some = c.frames_within-some.result in
    part_few (region_of c.args.expr.now) (map whole c.args.gathered.now) c.args.frames.now from some (from + some - from) (omega arith)
    c.requires.few

pub overflow_add-hits : goal.overflow_add-hits
overflow_add-hits c =
    let region = region_of c.args.expr.now in
    let lists = map whole c.args.gathered.now in
    let frames = c.args.frames.now in
    let from = c.loop-from.from in
    let some = c.frames_within-some.result in
    let m = from + some - from in
    let same : m ≡ some = omega arith in
    omega (
      arith,
      hits_of_part region lists frames from some m same,
      hits_taken region lists frames (from + some),
      c.in_ok-counts.ensures.hits,
      c.loop-from.invariant.hits,
      c.requires.few,
    )

pub overflow_add-files : goal.overflow_add-files
overflow_add-files c =
    let region = region_of c.args.expr.now in
    let lists = map whole c.args.gathered.now in
    let frames = c.args.frames.now in
    let from = c.loop-from.from in
    let some = c.frames_within-some.result in
    let m = from + some - from in
    let same : m ≡ some = omega arith in
    omega (
      arith,
      files_of_part region lists frames from some m same,
      files_few region lists (take (from + some) frames),
      hits_taken region lists frames (from + some),
      c.in_ok-counts.ensures.files,
      c.loop-from.invariant.files,
      c.requires.few,
    )

pub loop-from-preserved : goal.loop-from-preserved
loop-from-preserved c =
    let region = region_of c.args.expr.now in
    let lists = map whole c.args.gathered.now in
    let frames = c.args.frames.now in
    let from = c.loop-from.from in
    let some = c.frames_within-some.result in
    let m = from + some - from in
    let same : m ≡ some = omega arith in
    record {
      within = omega (arith, length-drop from frames);
      hits = omega (arith, hits_of_part region lists frames from some m same, c.in_ok-counts.ensures.hits, c.loop-from.invariant.hits);
      files = omega (
        arith,
        files_of_part region lists frames from some m same,
        c.in_ok-counts.ensures.files,
        c.loop-from.invariant.files,
      );
    }
