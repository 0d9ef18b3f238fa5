use Rattle.std.proofs.Common.{ℕ, ap}
use Rattle.wu_frames.specs.declared.Frames.{Frames}
use Rattle.wu_frames.proofs.Turns.{last-is, last-same, promoted-now}
use Rattle.wu_frames.proofs.walks.last_to_front.Goals as goal

pub returns-in-Some-clause-entries : goal.returns-in-Some-clause-entries
returns-in-Some-clause-entries c = λ rest entry e.
    let now = c.args.kept.now.entries in
    let same = last-same now rest entry c.in-Some.uid.now c.in-Some.field-0-1.now e c.in-Some.ensures in
    rw c.promote.ensures.entries
    (promoted-now now rest entry c.in-Some.uid.now e (ap (λ (x : ℕ × Frames). x.0) same) c.len.ensures.valid.0)

pub returns-in_default-clause-entries : goal.returns-in_default-clause-entries
returns-in_default-clause-entries c = λ rest entry e.
    let is = (last-is c.args.kept.now.entries rest entry e).0 in let none = c.in_default.ensures in cc
