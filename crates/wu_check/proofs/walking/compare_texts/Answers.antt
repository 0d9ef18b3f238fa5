use Rattle.std.proofs.Common.{◌≡◌, ◌<◌, ◌&&◌, ◌∙◌, length, arith}
use Rattle.wu_check.specs.Reads.{texts_ranges}
use Rattle.wu_check.specs.Walking.{ranges_of}
use Rattle.wu_check.proofs.ComparedFiles.{at_place, both_true, next_place, one_false, place_within, turn_broken, turn_compared}
use Rattle.wu_check.proofs.ReadRanges.{ended_all, front_all, turn_all, turn_front}
use Rattle.wu_check.proofs.ReadWalks.{unless_given}
use Rattle.wu_check.proofs.walking.compare_texts.Goals as goal
use Rattle.wu_check.proofs.walking.compare_texts.Goals.{then-same, else-same}

pub returns-in-None-clause-compared : goal.returns-in-None-clause-compared
returns-in-None-clause-compared g c = λ lists index.
    let files = c.args.files.now in
    let i = c.loop-file.file-index in
    let within : i < length files = omega arith in
    let holds = g.D.Store.holds in
    let place = at_place files i within c.loop-file.place c.loop-file.invariant.place in
    turn_broken files i within (holds c.args.store.now) (holds c.loop-file.store) c.loop-file.invariant.holds lists c.loop-file.same
    (c.loop-file.invariant.compared lists index) c.in_ok-found.field-0 c.in-None.is
    (c.in_ok-found.ensures.compared (ranges_of files) lists index place)

pub returns-in_err-found-clause-ranges : goal.returns-in_err-found-clause-ranges
returns-in_err-found-clause-ranges g c =
    let within : c.loop-file.file-index < length c.args.files.now = omega arith in
    let reads = g.D.Store.reads in
    turn_front c.args.files.now c.loop-file.file-index within (reads c.args.store.now) (reads c.loop-file.store)
    (reads c.compare_file.new.store) c.loop-file.invariant.ranges c.compare_file.ensures.ranges

pub returns-in-None-clause-ranges : goal.returns-in-None-clause-ranges
returns-in-None-clause-ranges g c =
    let within : c.loop-file.file-index < length c.args.files.now = omega arith in
    let reads = g.D.Store.reads in
    turn_front c.args.files.now c.loop-file.file-index within (reads c.args.store.now) (reads c.loop-file.store)
    (reads c.compare_file.new.store) c.loop-file.invariant.ranges c.compare_file.ensures.ranges

pub returns-clause-ranges : goal.returns-clause-ranges
returns-clause-ranges g c =
    let reads = g.D.Store.reads in
    front_all (texts_ranges c.args.files.now) (reads c.args.store.now) (reads c.loop-file.store)
    (ended_all c.args.files.now c.loop-file.file-index (reads c.args.store.now) (reads c.loop-file.store) (omega arith)
    c.loop-file.invariant.ranges)

pub overflow_add-place : goal.overflow_add-place
overflow_add-place g c =
    let files = c.args.files.now in
    let i = c.loop-file.file-index in
    let within : i < length files = omega arith in
    omega (arith, place_within files i within c.loop-file.place c.loop-file.invariant.place, c.requires.long, c.args.index.now.numbers.small)

pub loop-file-preserved : goal.loop-file-preserved
loop-file-preserved g c =
    let files = c.args.files.now in
    let i = c.loop-file.file-index in
    let within : i < length files = omega arith in
    let holds = g.D.Store.holds in
    let before = c.loop-file.invariant in
    let both : c.if-same.same ≡ (c.loop-file.same && c.in-Some.found) =
    elim c.if-same.branch [
      | then-same w ↦ both_true c.loop-file.same c.in-Some.found c.if-same.same w.if-same.true w.same-is
      | else-same w ↦ one_false c.loop-file.same c.in-Some.found c.if-same.same w.if-same.false (w.same-is ∙ w.if-same.false)
    ] in
    record {
      holds = c.compare_file.ensures.reads.holds ∙ before.holds;
      moments = c.compare_file.ensures.reads.moments ∙ before.moments;
      calm = c.in_ok-found.ensures.reads.calm ∙ before.calm;
      place = next_place files i within c.loop-file.place before.place;
      compared = λ lists index.
          turn_compared files i within (holds c.args.store.now) (holds c.loop-file.store) before.holds lists c.loop-file.same
          (before.compared lists index) c.in_ok-found.field-0 c.in-Some.found c.if-same.same c.in-Some.is both
          (c.in_ok-found.ensures.compared (ranges_of files) lists index (at_place files i within c.loop-file.place before.place));
      ranges =
          turn_all files i within (g.D.Store.reads c.args.store.now) (g.D.Store.reads c.loop-file.store)
          (g.D.Store.reads c.compare_file.new.store) before.ranges (rw c.in-Some.is at c.in_ok-found.ensures.whole);
    }

pub returns-clause-whole : goal.returns-clause-whole
returns-clause-whole g c =
    let reads = g.D.Store.reads in
    unless_given c.verdict_of.result
    (ended_all c.args.files.now c.loop-file.file-index (reads c.args.store.now) (reads c.loop-file.store) (omega arith)
    c.loop-file.invariant.ranges)
