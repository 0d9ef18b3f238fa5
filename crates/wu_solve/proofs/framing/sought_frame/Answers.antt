use Rattle.std.proofs.Common.{◌+◌, ◌∙◌, get_or, sym, subst, List, nat_le, nat_lt, leb-true, ltb-true}
use Rattle.std.proofs.lemmas.Bool.{and_parts}
use Rattle.std.proofs.lemmas.List.{take_rest, length-drop}
use Rattle.wu_base.specs.declared.addresses.Range.{Range}
use Rattle.wu_solve.specs.Frames.{EndsAfter}
use Rattle.wu_solve.proofs.FramePlaces.{apart_dropped, ends_here, ends_in_rest}
use Rattle.wu_solve.proofs.framing.sought_frame.Goals as goal

pub ended-requires-clause-apart : goal.ended-requires-clause-apart
ended-requires-clause-apart c =
    rw (take_rest c.args.frames.now c.passed_over-passed.result)
    (apart_dropped c.passed_over-passed.result c.args.frames.now c.requires.apart)

pub returns-then-is_in_frame : goal.returns-then-is_in_frame
returns-then-is_in_frame c =
    let d : Range = record { start = 0; len = 0 } in
    let a = c.args.address in
    let next = c.saturating_add-next.result in
    let frame = get_or c.args.frames.now next d in
    let both = and_parts (nat_le frame.start a) (nat_lt a (frame.start + frame.len)) (sym c.is_in_frame.ensures ∙ c.if-is_in_frame.true) in
    ends_here c.args.frames.now a next d c.requires.apart c.if-next-frames.true
    (leb-true frame.start a both.0) (ltb-true a (frame.start + frame.len) both.1)

pub returns : goal.returns
returns c =
    let frames = c.args.frames.now in
    let n = c.passed_over-passed.result in
    ends_in_rest frames c.args.address n c.ended.result c.passed_over-passed.ensures.within c.passed_over-passed.ensures.ended
    (subst (λ (fs : List Range). EndsAfter fs c.args.address c.ended.result) (take_rest frames n) c.ended.ensures) (length-drop n frames)
