use Rattle.std.proofs.Common.{◌≡◌, ◌-◌, refl, arith}
use Rattle.wu_part.specs.Marks.{last_from, mark_of}
use Rattle.wu_part.proofs.MarkLemmas.{last_read, none_read}
use Rattle.wu_part.proofs.marks.is_far.Goals as goal

pub returns-in-Some : goal.returns-in-Some
returns-in-Some c =
    let marks = c.args.marks.now in
    let last : last_from (mark_of 0 0 0) marks ≡ c.in-Some.last.now = last_read (mark_of 0 0 0) marks _ c.in-Some.ensures.value in
    rw (c.is_distance.ensures, c.saturating_sub-in-Some.ensures, c.saturating_sub.ensures, last) refl

pub returns-in-None : goal.returns-in-None
returns-in-None c =
    let marks = c.args.marks.now in
    let last : last_from (mark_of 0 0 0) marks ≡ mark_of 0 0 0 = none_read (mark_of 0 0 0) marks c.in-None.ensures.value in
    let terms : c.args.number - 0 ≡ c.args.number = omega arith in
    let bytes : c.args.offset - 0 ≡ c.args.offset = omega arith in
    rw (c.is_distance-in-None.ensures, last, terms, bytes) refl
