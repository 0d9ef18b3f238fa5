use Rattle.std.proofs.Common.{◌≡◌, ◌∙◌, ◌++◌, ◌+◌, ◌-◌, List, length-drop, take, drop, sym, ap, arith}
use Rattle.wu_base.specs.declared.addresses.Extent.{Extent}
use Rattle.wu_gcl.specs.Regions.{region_of}
use Rattle.wu_solve.specs.Solving.{frames_hits}
use Rattle.wu_solve.proofs.FrameCounts.{joined_part}
use Rattle.wu_solve.proofs.FramePlaces.{apart_taken, apart_dropped}
use Rattle.wu_solve.proofs.solving.solve_parts.Goals as goal

pub solve_at_once-requires-in-loop-from-clause-apart : goal.solve_at_once-requires-in-loop-from-clause-apart
solve_at_once-requires-in-loop-from-clause-apart c =
    apart_taken (c.loop-from.from + c.frames_at_once-some.result - c.loop-from.from) (drop c.loop-from.from c.args.frames.now)
    (apart_dropped c.loop-from.from c.args.frames.now c.requires.apart)

pub loop-from-preserved : goal.loop-from-preserved
loop-from-preserved c =
    let region = region_of c.args.expr.now in
    let lists = c.args.lists.now in
    let frames = c.args.frames.now in
    let from = c.loop-from.from in
    let some = c.frames_at_once-some.result in
    let m = from + some - from in
    let same : m ≡ some = omega arith in record {
      within = omega (arith, length-drop from frames);
      found = c.in_ok-extend_from_slice.ensures.items
          ∙ ap (λ (xs : List Extent). xs ++ c.deref.result.now) c.loop-from.invariant.found
          ∙ ap (λ (xs : List Extent). frames_hits region lists (take from frames) ++ xs) (c.deref.ensures.value ∙ c.in_ok-extents.ensures)
          ∙ sym (joined_part region lists frames from some m same);
    }
