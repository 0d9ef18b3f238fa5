use Rattle.std.proofs.Common.{refl, arith, rules}
use Rattle.wu_part.specs.Entries.{HasAnEntry}
use Rattle.wu_part.proofs.DirectoryLemmas.{entries_of_directory, whole_of_directory}
use Rattle.wu_part.proofs.ReadingLemmas.{stand_within}
use Rattle.wu_part.proofs.reading.check_directory.Goals as goal

pub returns-in-None-clause-none : goal.returns-in-None-clause-none
returns-in-None-clause-none c d s size = c.in-None.ensures.none d s

pub returns-then-size-place-clause-none : goal.returns-then-size-place-clause-none
returns-then-size-place-clause-none c d s size =
    let within = stand_within _ _ _ s.holds.places in absurd (omega (arith, c.if-size-place.true, size))

pub returns-in_err-marks-clause-err : goal.returns-in_err-marks-clause-err
returns-in_err-marks-clause-err c =
    let entry : HasAnEntry c.args.size c.args.bytes.now = record {
      head = c.in-Some.taken.0;
      entries = c.in-Some.taken.1.now;
      numbers = c.in-Some.ensures.found;
      first = c.in_err-marks.ensures.err;
    } in
    search (entry, rules)

pub returns-in-None-2-clause-none : goal.returns-in-None-2-clause-none
returns-in-None-2-clause-none c d s size =
    let none = rw c.in-None-2.is at c.in_ok-marks.ensures.none in
    let head = c.in-Some.ensures.found in
    none d.terms (entries_of_directory d _ _ _ _ _ s head refl size)
    (whole_of_directory d _ _ _ d.terms s head refl)

pub returns-clause-found : goal.returns-clause-found
returns-clause-found c = record {
  entries = c.in-Some.taken.1.now;
  head = c.in-Some.ensures.found;
  start = refl;
  place = refl;
  are = rw c.in-Some-2.is at c.in_ok-marks.ensures.found;
}
