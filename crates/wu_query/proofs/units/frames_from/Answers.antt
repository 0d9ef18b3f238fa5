use Rattle.std.proofs.Common.{◌≤◌, ℕ, subst, sym, take}
use Rattle.std.specs.List.{AllByRecursion}
use Rattle.wu_frames.specs.declared.Frame.{Frame}
use Rattle.wu_query.specs.Units.{end_of}
use Rattle.wu_query.proofs.PassedFrames.{apart_drop, passed}
use Rattle.wu_query.proofs.units.frames_from.Goals as goal

pub returns-clause-apart : goal.returns-clause-apart
returns-clause-apart c = rw c.split_at.ensures.back (apart_drop c.count_passed.result c.args.frames.now c.requires.apart)

pub returns-clause-same : goal.returns-clause-same
returns-clause-same c = λ x xs is.
    let frames = c.args.frames.now in
    let n = c.count_passed.result in
    rw c.split_at.ensures.back
    (passed n frames x xs
    (subst (λ (a : ℕ). AllByRecursion (λ (frame : Frame). end_of frame ≤ a) (take n frames)) (sym is) c.count_passed.ensures.passed))
