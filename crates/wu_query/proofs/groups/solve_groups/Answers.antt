use Rattle.std.proofs.Common.{◌≡◌, ◌∙◌, ◌++◌, ◌+◌, ◌-◌, List, ap, arith, drop, length-drop, map, sym, take}
use Rattle.wu_base.specs.declared.addresses.Extent.{Extent}
use Rattle.wu_gcl.specs.Regions.{region_of}
use Rattle.wu_solve.specs.Solving.{frames_hits}
use Rattle.wu_solve.proofs.FrameCounts.{joined_part}
use Rattle.wu_solve.proofs.FramePlaces.{apart_dropped, apart_taken}
use Rattle.wu_query.specs.Near.{whole}
use Rattle.wu_query.proofs.groups.solve_groups.Goals as goal

pub solve_group-requires-clause-apart : goal.solve_group-requires-clause-apart
solve_group-requires-clause-apart c =
    let from = c.loop-from.from in
    apart_taken (from + c.frames_within-some.result - from) (drop from c.args.frames.now)
    (apart_dropped from c.args.frames.now c.requires.apart)

pub loop-from-preserved : goal.loop-from-preserved
loop-from-preserved c =
    let region = region_of c.args.expr.now in
    let lists = map whole c.args.gathered.now in
    let frames = c.args.frames.now in
    let from = c.loop-from.from in
    let some = c.frames_within-some.result in
    let m = from + some - from in
    let same : m ≡ some = omega arith in
    record {
      within = omega (arith, length-drop from frames);
      found = c.in_ok-extend_from_slice.ensures.items
          ∙ ap (λ (xs : List Extent). xs ++ c.deref.result.now) c.loop-from.invariant.found
          ∙ ap (λ (xs : List Extent). frames_hits region lists (take from frames) ++ xs)
          (c.deref.ensures.value ∙ c.in_ok-extents.ensures)
          ∙ sym (joined_part region lists frames from some m same);
    }
