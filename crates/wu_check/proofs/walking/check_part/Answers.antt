use Rattle.std.proofs.Common.{◌++◌, inl, refl}
use Rattle.std.proofs.lemmas.Result.{IfOk-weaker}
use Rattle.wu_check.specs.Reads.{part_ranges, texts_ranges}
use Rattle.wu_check.proofs.ReadRanges.{all_joined, front_joined, front_more}
use Rattle.wu_check.proofs.ReadWalks.{if_none_more, unless_more, unless_without}
use Rattle.wu_check.proofs.SoundParts.{verdict_told}
use Rattle.wu_check.proofs.walking.check_part.Goals as goal

pub returns-in-Some-clause-verdict : goal.returns-in-Some-clause-verdict
returns-in-Some-clause-verdict g c =
    let holds = g.D.Store.holds in
    IfOk-weaker c.compare_texts.result _ _
    (λ verdict compared. verdict_told (holds c.args.store.now) (holds c.index_of.new.store) c.in_ok-index.ensures.reads.holds
    c.args.part.now c.args.files.now c.in-Some.index verdict c.requires.apart c.requires.lie
    (rw c.in-Some.is at c.in_ok-index.ensures.found) compared)
    c.compare_texts.ensures.compared

pub returns-in_err-index-clause-ranges : goal.returns-in_err-index-clause-ranges
returns-in_err-index-clause-ranges g c =
    let reads = g.D.Store.reads in
    let own = part_ranges c.args.part.now in
    let texts = texts_ranges c.args.files.now in (
      own ++ texts,
      (own, inl refl, refl),
      front_more own texts (reads c.args.store.now) (reads c.index_of.new.store) c.index_of.ensures.ranges,
    )

pub returns-in-Some-clause-ranges : goal.returns-in-Some-clause-ranges
returns-in-Some-clause-ranges g c =
    let reads = g.D.Store.reads in
    let own = part_ranges c.args.part.now in
    let texts = texts_ranges c.args.files.now in (
      own ++ texts,
      (own, inl refl, refl),
      front_joined own texts (reads c.args.store.now) (reads c.index_of.new.store) (reads c.compare_texts.new.store)
          (rw c.in-Some.is at c.in_ok-index.ensures.whole) c.compare_texts.ensures.ranges,
    )

pub returns-in-Some-clause-tried : goal.returns-in-Some-clause-tried
returns-in-Some-clause-tried g c =
    let reads = g.D.Store.reads in
    let own = part_ranges c.args.part.now in
    let texts = texts_ranges c.args.files.now in
    IfOk-weaker c.compare_texts.result _ _
    (λ verdict unless. unless_more verdict
    (λ all. (
      own ++ texts,
      (own, inl refl, refl),
      all_joined own texts (reads c.args.store.now) (reads c.index_of.new.store) (reads c.compare_texts.new.store)
          (rw c.in-Some.is at c.in_ok-index.ensures.whole) all,
    ))
    unless)
    c.compare_texts.ensures.whole

pub returns-in-Some-clause-whole : goal.returns-in-Some-clause-whole
returns-in-Some-clause-whole g c = λ sound.
    let reads = g.D.Store.reads in
    all_joined (part_ranges c.args.part.now) (texts_ranges c.args.files.now) (reads c.args.store.now) (reads c.index_of.new.store)
    (reads c.compare_texts.new.store) (rw c.in-Some.is at c.in_ok-index.ensures.whole) (rw sound at c.compare_texts.ensures.whole)

pub returns-in_err-first_broken-in-None-clause-ranges : goal.returns-in_err-first_broken-in-None-clause-ranges
returns-in_err-first_broken-in-None-clause-ranges g c =
    let reads = g.D.Store.reads in
    let texts = texts_ranges c.args.files.now in
    let tries = c.in_ok-index.ensures.tried in (
      tries.0 ++ texts,
      (tries.0, tries.1, refl),
      front_joined tries.0 texts (reads c.args.store.now) (reads c.index_of.new.store) (reads c.first_broken.new.store) tries.2
          c.first_broken.ensures.ranges,
    )

pub returns-in_ok-first_broken-in-None-clause-ranges : goal.returns-in_ok-first_broken-in-None-clause-ranges
returns-in_ok-first_broken-in-None-clause-ranges g c =
    let reads = g.D.Store.reads in
    let texts = texts_ranges c.args.files.now in
    let tries = c.in_ok-index.ensures.tried in (
      tries.0 ++ texts,
      (tries.0, tries.1, refl),
      front_joined tries.0 texts (reads c.args.store.now) (reads c.index_of.new.store) (reads c.first_broken.new.store) tries.2
          c.first_broken.ensures.ranges,
    )

pub returns-in_ok-first_broken-in-None-clause-tried : goal.returns-in_ok-first_broken-in-None-clause-tried
returns-in_ok-first_broken-in-None-clause-tried g c =
    let reads = g.D.Store.reads in
    let texts = texts_ranges c.args.files.now in
    let tries = c.in_ok-index.ensures.tried in
    unless_without _ c.in_ok-first_broken-in-None.field-0 c.without_part.result c.without_part.ensures
    (if_none_more c.in_ok-first_broken-in-None.field-0
    (λ all. (
      tries.0 ++ texts,
      (tries.0, tries.1, refl),
      all_joined tries.0 texts (reads c.args.store.now) (reads c.index_of.new.store) (reads c.first_broken.new.store) tries.2 all,
    ))
    c.in_ok-first_broken-in-None.ensures.whole)
