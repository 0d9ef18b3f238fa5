use Rattle.std.proofs.Common.{◌+◌, ◌∙◌, get_or, sym, nat_le, nat_lt, leb-true, ltb-true}
use Rattle.std.proofs.lemmas.Bool.{and_parts}
use Rattle.wu_base.specs.declared.addresses.Range.{Range}
use Rattle.wu_solve.proofs.FramePlaces.{ends_here}
use Rattle.wu_solve.proofs.framing.frame_at.Goals as goal

pub returns-then-is_in_frame : goal.returns-then-is_in_frame
returns-then-is_in_frame c =
    let d : Range = record { start = 0; len = 0 } in
    let a = c.args.address in
    let frame = get_or c.args.frames.now c.args.remembered d in
    let both = and_parts (nat_le frame.start a) (nat_lt a (frame.start + frame.len)) (sym c.is_in_frame.ensures ∙ c.if-is_in_frame.true) in
    ends_here c.args.frames.now a c.args.remembered d c.requires.apart c.if-remembered-frames.true
    (leb-true frame.start a both.0) (ltb-true a (frame.start + frame.len) both.1)
