use Rattle.std.proofs.Common.{◌≡◌, ℕ, ◌+◌, ◌-◌, ◌<◌, ◌≤◌, ◌∙◌, List, [], length, take, drop, get_or, refl, arith, subst, sym}
use Rattle.std.specs.Prelude.{Option, None, IfSome}
use Rattle.std.specs.List.{AllByRecursion}
use Rattle.std.proofs.lemmas.List.{take_rest}
use Rattle.wu_layout.proofs.EntryLemmas.{IfSome-all}
use Rattle.wu_image.specs.declared.records.FileRec.{FileRec}
use Rattle.wu_check.specs.Reads.{ReadsAll, ReadsFront, texts_ranges}
use Rattle.wu_check.specs.Walking.{FindsPart, FindsText}
use Rattle.wu_check.specs.Wrong.{AreSoundTexts}
use Rattle.wu_check.proofs.ReadWalks.{IsReadTo, if_none, read_none, walk_all, walk_more, walk_some, walk_stopped}
use Rattle.wu_check.proofs.SoundParts.{LiesIn}
use Rattle.wu_check.proofs.Walks.{ends_parts, ends_text, no_part, own_apart, own_lie, reached_next, reached_none}
use Rattle.wu_check.proofs.Walks.{turn_parts, turn_text, turn_texts}
use Rattle.wu_check.proofs.walking.first_wrong.Goals as goal

pub check_part-requires-clause-apart : goal.check_part-requires-clause-apart
check_part-requires-clause-apart g c =
    own_apart c.loop-part.done (c.loop-part.done + c.count_started.result - c.loop-part.done) c.args.files.now c.requires.apart

pub check_part-requires-clause-lie : goal.check_part-requires-clause-lie
check_part-requires-clause-lie g c =
    let files : List FileRec = c.args.files.now in
    let parts = c.args.parts.now in
    let i = c.loop-part.part-index in
    let done = c.loop-part.done in
    let n = c.count_started.result in
    let within : i < length parts = omega arith in
    let count : n ≡ done + n - done = omega arith in
    let rest = take_rest files done in
    let few : n ≤ length (drop done files) = subst (λ (l : List FileRec). n ≤ length l) rest c.count_started.ensures.within in
    let started = subst
    (λ (l : List FileRec). AllByRecursion (λ file. file.range.start ≤ (get_or parts i no_part).high) (take n l)) rest
    c.count_started.ensures.started in
    subst (λ (m : ℕ). AllByRecursion (LiesIn (get_or parts i no_part)) (take m (drop done files))) count
    (own_lie files parts i done n within few c.loop-part.invariant.reached c.requires.files (c.requires.homes (omega arith)) started)

pub returns-in-BrokenText-clause-found : goal.returns-in-BrokenText-clause-found
returns-in-BrokenText-clause-found g c =
    let files : List FileRec = c.args.files.now in
    let parts = c.args.parts.now in
    let i = c.loop-part.part-index in
    let done = c.loop-part.done in
    let n = c.count_started.result in
    let within : i < length parts = omega arith in
    let holds = g.D.Store.holds in
    let few : n ≤ length (drop done files) =
    subst (λ (l : List FileRec). n ≤ length l) (take_rest files done) c.count_started.ensures.within in
    turn_text files parts i done n within few c.loop-part.invariant.reached
    (holds c.args.store.now) (holds c.loop-part.store) c.loop-part.invariant.holds (done + n - done) (omega arith) c.in_ok-verdict.verdict
    c.loop-part.invariant.texts c.in_ok-verdict.ensures.verdict c.in-BrokenText.blob c.in-BrokenText.is

pub loop-part-init : goal.loop-part-init
loop-part-init g c =
    let holds = g.D.Store.holds c.args.store.now in
    let files : List FileRec = c.args.files.now in
    record {
      holds = refl;
      moments = refl;
      calm = refl;
      reached = reached_none files c.args.parts.now c.requires.spans;
      texts = IfSome-all (λ content. AreSoundTexts content []) holds (λ content. tt);
      found = IfSome-all (λ content. FindsPart content files [] None) holds (λ content. tt);
      read = read_none files c.args.parts.now (g.D.Store.reads c.args.store.now);
    }

pub loop-part-preserved : goal.loop-part-preserved
loop-part-preserved g c =
    let files : List FileRec = c.args.files.now in
    let parts = c.args.parts.now in
    let i = c.loop-part.part-index in
    let done = c.loop-part.done in
    let n = c.count_started.result in
    let within : i < length parts = omega arith in
    let holds = g.D.Store.holds in
    let rest = take_rest files done in
    let few : n ≤ length (drop done files) = subst (λ (l : List FileRec). n ≤ length l) rest c.count_started.ensures.within in
    let started = subst
    (λ (l : List FileRec). AllByRecursion (λ file. file.range.start ≤ (get_or parts i no_part).high) (take n l)) rest
    c.count_started.ensures.started in
    let later = subst
    (λ (l : List FileRec). AllByRecursion (λ file. (get_or parts i no_part).high < file.range.start) (drop n l)) rest
    c.count_started.ensures.others in
    let before = c.loop-part.invariant in
    let reads = g.D.Store.reads in
    record {
      holds = c.check_part.ensures.reads.holds ∙ before.holds;
      moments = c.check_part.ensures.reads.moments ∙ before.moments;
      calm = c.in_ok-verdict.ensures.reads.calm ∙ before.calm;
      reached = reached_next files parts i done n within few before.reached started later;
      texts =
          turn_texts files parts i done n within few before.reached (holds c.args.store.now) (holds c.loop-part.store) before.holds
          (done + n - done) (omega arith) c.in_ok-verdict.verdict before.texts c.in_ok-verdict.ensures.verdict
          c.in_default.not-BrokenText c.requires.files later;
      found =
          subst
          (λ (wrong : Option ℕ). IfSome (holds c.args.store.now) (λ content. FindsPart content files (take (i + 1) parts) wrong))
          (sym c.leftmost-wrong.ensures)
          (turn_parts files parts i done n within few before.reached (holds c.args.store.now) (holds c.loop-part.store) before.holds
          (done + n - done) (omega arith) c.in_ok-verdict.verdict before.texts c.in_ok-verdict.ensures.verdict
          c.in_default.not-BrokenText c.requires.files later c.loop-part.wrong before.found);
      read =
          subst
          (λ (wrong : Option ℕ). IsReadTo files parts (i + 1) (done + n) wrong (reads c.args.store.now) (reads c.check_part.new.store))
          (sym c.leftmost-wrong.ensures)
          (walk_more files parts i done n within c.loop-part.wrong (reads c.args.store.now) (reads c.loop-part.store)
          (reads c.check_part.new.store) before.read started later (done + n - done) (omega arith) c.in_ok-verdict.verdict
          (get_or parts i no_part).blob c.in_default.not-BrokenText c.in_ok-verdict.ensures.tried
          (λ sound. c.in_ok-verdict.ensures.whole cc));
    }

pub returns-in-Some-clause-found : goal.returns-in-Some-clause-found
returns-in-Some-clause-found g c =
    let holds = g.D.Store.holds in
    let files : List FileRec = c.args.files.now in
    let found = subst
    (λ (l : List FileRec). IfSome (holds c.loop-part.store) (λ content. FindsText content l c.in_ok-blob.field-0))
    (take_rest files c.loop-part.done) c.in_ok-blob.ensures.found in
    ends_text (holds c.args.store.now) (holds c.loop-part.store) c.loop-part.invariant.holds files c.args.parts.now
    c.loop-part.done c.in_ok-blob.field-0 c.loop-part.invariant.texts found c.in-Some.blob c.in-Some.is

pub returns-in-None-clause-found : goal.returns-in-None-clause-found
returns-in-None-clause-found g c =
    let holds = g.D.Store.holds in
    let files : List FileRec = c.args.files.now in
    let found = subst
    (λ (l : List FileRec). IfSome (holds c.loop-part.store) (λ content. FindsText content l c.in_ok-blob.field-0))
    (take_rest files c.loop-part.done) c.in_ok-blob.ensures.found in
    ends_parts (holds c.args.store.now) (holds c.loop-part.store) c.loop-part.invariant.holds files c.args.parts.now
    c.loop-part.done c.in_ok-blob.field-0 c.loop-part.invariant.texts found c.loop-part.part-index
    c.loop-part.wrong (omega arith) c.in-None.is c.loop-part.invariant.found

pub returns-in_err-verdict-clause-ranges : goal.returns-in_err-verdict-clause-ranges
returns-in_err-verdict-clause-ranges g c =
    let files : List FileRec = c.args.files.now in
    let parts = c.args.parts.now in
    let i = c.loop-part.part-index in
    let done = c.loop-part.done in
    let n = c.count_started.result in
    let within : i < length parts = omega arith in
    let reads = g.D.Store.reads in
    let rest = take_rest files done in
    let started = subst
    (λ (l : List FileRec). AllByRecursion (λ file. file.range.start ≤ (get_or parts i no_part).high) (take n l)) rest
    c.count_started.ensures.started in
    let later = subst
    (λ (l : List FileRec). AllByRecursion (λ file. (get_or parts i no_part).high < file.range.start) (drop n l)) rest
    c.count_started.ensures.others in
    walk_stopped files parts i done n within c.loop-part.wrong (reads c.args.store.now) (reads c.loop-part.store)
    (reads c.check_part.new.store) c.loop-part.invariant.read started later (done + n - done) (omega arith) c.check_part.ensures.ranges

pub returns-in-BrokenText-clause-ranges : goal.returns-in-BrokenText-clause-ranges
returns-in-BrokenText-clause-ranges g c =
    let files : List FileRec = c.args.files.now in
    let parts = c.args.parts.now in
    let i = c.loop-part.part-index in
    let done = c.loop-part.done in
    let n = c.count_started.result in
    let within : i < length parts = omega arith in
    let reads = g.D.Store.reads in
    let rest = take_rest files done in
    let started = subst
    (λ (l : List FileRec). AllByRecursion (λ file. file.range.start ≤ (get_or parts i no_part).high) (take n l)) rest
    c.count_started.ensures.started in
    let later = subst
    (λ (l : List FileRec). AllByRecursion (λ file. (get_or parts i no_part).high < file.range.start) (drop n l)) rest
    c.count_started.ensures.others in
    walk_stopped files parts i done n within c.loop-part.wrong (reads c.args.store.now) (reads c.loop-part.store)
    (reads c.check_part.new.store) c.loop-part.invariant.read started later (done + n - done) (omega arith) c.check_part.ensures.ranges

pub returns-in_err-blob-clause-ranges : goal.returns-in_err-blob-clause-ranges
returns-in_err-blob-clause-ranges g c =
    let reads = g.D.Store.reads in
    let files : List FileRec = c.args.files.now in
    let here = subst
    (λ (l : List FileRec). ReadsFront (texts_ranges l) (reads c.loop-part.store) (reads c.first_broken.new.store))
    (take_rest files c.loop-part.done) c.first_broken.ensures.ranges in
    walk_some files c.args.parts.now c.loop-part.part-index c.loop-part.done (omega arith) c.loop-part.wrong (reads c.args.store.now)
    (reads c.loop-part.store) (reads c.first_broken.new.store) c.loop-part.invariant.read here

pub returns-in-Some-clause-ranges : goal.returns-in-Some-clause-ranges
returns-in-Some-clause-ranges g c =
    let reads = g.D.Store.reads in
    let files : List FileRec = c.args.files.now in
    let here = subst
    (λ (l : List FileRec). ReadsFront (texts_ranges l) (reads c.loop-part.store) (reads c.first_broken.new.store))
    (take_rest files c.loop-part.done) c.first_broken.ensures.ranges in
    walk_some files c.args.parts.now c.loop-part.part-index c.loop-part.done (omega arith) c.loop-part.wrong (reads c.args.store.now)
    (reads c.loop-part.store) (reads c.first_broken.new.store) c.loop-part.invariant.read here

pub returns-in-None-clause-ranges : goal.returns-in-None-clause-ranges
returns-in-None-clause-ranges g c =
    let reads = g.D.Store.reads in
    let files : List FileRec = c.args.files.now in
    let here = subst
    (λ (l : List FileRec). ReadsFront (texts_ranges l) (reads c.loop-part.store) (reads c.first_broken.new.store))
    (take_rest files c.loop-part.done) c.first_broken.ensures.ranges in
    walk_some files c.args.parts.now c.loop-part.part-index c.loop-part.done (omega arith) c.loop-part.wrong (reads c.args.store.now)
    (reads c.loop-part.store) (reads c.first_broken.new.store) c.loop-part.invariant.read here

pub returns-in-None-clause-whole : goal.returns-in-None-clause-whole
returns-in-None-clause-whole g c =
    let reads = g.D.Store.reads in
    let files : List FileRec = c.args.files.now in
    let here = subst
    (λ (l : List FileRec). ReadsAll (texts_ranges l) (reads c.loop-part.store) (reads c.first_broken.new.store))
    (take_rest files c.loop-part.done) (rw c.in-None.is at c.in_ok-blob.ensures.whole) in
    if_none c.loop-part.wrong
    (λ none. walk_all files c.args.parts.now c.loop-part.part-index c.loop-part.done (omega arith) c.loop-part.wrong
    (reads c.args.store.now) (reads c.loop-part.store) (reads c.first_broken.new.store) c.loop-part.invariant.read none here)
