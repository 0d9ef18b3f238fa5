use Rattle.std.proofs.Common.{ap, arith, length, rules}
use Rattle.std.proofs.lemmas.List.{length-drop}
use Rattle.wu_query.specs.Units.{count_before, end_of}
use Rattle.wu_query.proofs.PassedFrames.{all_placed, apart_drop, placed_next}
use Rattle.wu_query.proofs.units.placed.Goals as goal

pub loop-first-preserved : goal.loop-first-preserved
loop-first-preserved c =
    let told = c.loop-first.invariant in
    let rest = c.loop-first.rest.now in
    let left = c.loop-first.left.now in
    let from = c.frames_from-from.result.now in
    let frame = c.in-Some-first.frame.now in
    let after = c.in_ok-rest-in-Some-first.rest.now in
    record {
      whole =
          placed_next left from c.split_at.result.1.now rest after c.in-Some.first.now frame c.loop-first.units.items
          c.put_frame.new.units.items _ c.in-Some.ensures.value c.in-Some-first.ensures.value c.frames_from-from.ensures.same told.whole
          c.in_ok-rest-in-Some-first.ensures.units c.in_ok-rest-in-Some-first.ensures.rest c.split_at.ensures.back;
      fits =
          omega (
            arith,
            told.fits,
            ap length c.in_ok-rest-in-Some-first.ensures.rest,
            length-drop (count_before (end_of frame) rest) rest,
          );
      ends = search rules;
      apart = rw c.split_at.ensures.back (apart_drop 1 from c.frames_from-from.ensures.apart);
    }

pub returns : goal.returns
returns c =
    all_placed c.loop-first.left.now c.loop-first.rest.now c.loop-first.units.items _ c.in_default.ensures.value
    c.loop-first.invariant.whole
