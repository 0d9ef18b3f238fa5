use Rattle.std.proofs.Common.{◌≡◌, ◌<◌, ◌∙◌, false, true, length, arith, rules}
use Rattle.wu_check.specs.Reads.{texts_ranges}
use Rattle.wu_check.proofs.ComparedFiles.{turn_sound, turn_wrong}
use Rattle.wu_check.proofs.ReadRanges.{ended_all, front_all, turn_all, turn_front}
use Rattle.wu_check.proofs.texts.first_broken.Goals as goal

pub returns-in_err-is_whole-clause-ranges : goal.returns-in_err-is_whole-clause-ranges
returns-in_err-is_whole-clause-ranges g c =
    let within : c.loop-file.file-index < length c.args.files.now = omega arith in
    let reads = g.D.Store.reads in
    turn_front c.args.files.now c.loop-file.file-index within (reads c.args.store.now) (reads c.loop-file.store)
    (reads c.is_whole.new.store) c.loop-file.invariant.ranges c.is_whole.ensures.ranges

pub returns-then-not-branch-clause-found : goal.returns-then-not-branch-clause-found
returns-then-not-branch-clause-found g c =
    let within : c.loop-file.file-index < length c.args.files.now = omega arith in
    let holds = g.D.Store.holds in
    let fails : c.in_ok-is_whole.field-0 ≡ false = search rules in
    turn_wrong c.args.files.now c.loop-file.file-index within (holds c.args.store.now) (holds c.loop-file.store)
    c.loop-file.invariant.holds c.in_ok-is_whole.field-0 fails c.loop-file.invariant.texts c.in_ok-is_whole.ensures.whole

pub returns-then-not-branch-clause-ranges : goal.returns-then-not-branch-clause-ranges
returns-then-not-branch-clause-ranges g c =
    let within : c.loop-file.file-index < length c.args.files.now = omega arith in
    let reads = g.D.Store.reads in
    turn_front c.args.files.now c.loop-file.file-index within (reads c.args.store.now) (reads c.loop-file.store)
    (reads c.is_whole.new.store) c.loop-file.invariant.ranges c.is_whole.ensures.ranges

pub loop-file-preserved : goal.loop-file-preserved
loop-file-preserved g c =
    let files = c.args.files.now in
    let i = c.loop-file.file-index in
    let within : i < length files = omega arith in
    let holds = g.D.Store.holds in
    let reads = g.D.Store.reads in
    let before = c.loop-file.invariant in
    let passes : c.in_ok-is_whole.field-0 ≡ true = search rules in
    record {
      holds = c.is_whole.ensures.reads.holds ∙ before.holds;
      moments = c.is_whole.ensures.reads.moments ∙ before.moments;
      calm = c.in_ok-is_whole.ensures.reads.calm ∙ before.calm;
      texts =
          turn_sound files i within (holds c.args.store.now) (holds c.loop-file.store) before.holds c.in_ok-is_whole.field-0 passes
          before.texts c.in_ok-is_whole.ensures.whole;
      ranges =
          turn_all files i within (reads c.args.store.now) (reads c.loop-file.store) (reads c.is_whole.new.store) before.ranges
          (c.in_ok-is_whole.ensures.read (search rules));
    }

pub returns-clause-ranges : goal.returns-clause-ranges
returns-clause-ranges g c =
    let reads = g.D.Store.reads in
    front_all (texts_ranges c.args.files.now) (reads c.args.store.now) (reads c.loop-file.store)
    (ended_all c.args.files.now c.loop-file.file-index (reads c.args.store.now) (reads c.loop-file.store) (omega arith)
    c.loop-file.invariant.ranges)
