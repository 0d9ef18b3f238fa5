use Rattle.std.proofs.Common.{◌≡◌, ◌∙◌, ◌-◌, ◌≤◌, true, nat_le, nat_lt, ap}
use Rattle.std.specs.Prelude.{All, filter}
use Rattle.std.proofs.lemmas.List.Elements.{All-filter, recursion_from_All}
use Rattle.std.proofs.lemmas.Result.{IfOk-weaker}
use Rattle.wu_solve.specs.Frames.{lies_in_one}
use Rattle.wu_solve.specs.Merging.{is_wanted}
use Rattle.wu_solve.specs.Solving.{IsFrame}
use Rattle.wu_solve.specs.Windows.{lies_in_window}
use Rattle.wu_solve.proofs.FramePlaces.{apart_kept}
use Rattle.wu_solve.proofs.Results.{filter_alike}
use Rattle.wu_solve.proofs.Roomy.{by_length}
use Rattle.wu_solve.proofs.Sets.{all_has}
use Rattle.wu_solve.proofs.windows.held_by_windows.Goals as goal

pub short_in-requires-clause-frames : goal.short_in-requires-clause-frames
short_in-requires-clause-frames c =
    rw (c.deref.ensures.value, c.in_ok-roomy.ensures, c.from-room.ensures)
    (All-filter (λ frame. nat_le c.args.size frame.len) IsFrame c.args.frames.now c.requires.frames)

pub short_in-requires-clause-apart : goal.short_in-requires-clause-apart
short_in-requires-clause-apart c =
    rw (c.deref.ensures.value, c.in_ok-roomy.ensures, c.from-room.ensures)
    (apart_kept (λ frame. nat_le c.args.size frame.len) c.args.frames.now c.requires.apart)

pub returns-then-have_room : goal.returns-then-have_room
returns-then-have_room c = λ lie.
    let frames = c.args.frames.now in
    let extents = c.args.extents.now in
    let size = c.args.size in
    let wanted = c.args.wanted in
    let room : All (λ frame. size ≤ frame.len) frames = rw c.from-room.ensures at (c.have_room.ensures c.if-have_room.true) in
    IfOk-weaker c.no_longer.result
    (λ v. v.items ≡ filter (λ x. is_wanted wanted (nat_lt (x.end - x.start) size)) extents)
    (λ v. v.items ≡ filter (λ x. is_wanted wanted (lies_in_window size frames x)) extents)
    (λ v same. same ∙ filter_alike (λ x. is_wanted wanted (nat_lt (x.end - x.start) size))
    (λ x. is_wanted wanted (lies_in_window size frames x)) extents
    (λ x has. ap (is_wanted wanted) (by_length size frames x room
    (all_has (λ x. lies_in_one frames x ≡ true) extents x (recursion_from_All (λ x. lies_in_one frames x ≡ true) extents lie) has))))
    c.no_longer.ensures

pub returns : goal.returns
returns c = λ lie. rw (c.deref.ensures.value, c.in_ok-roomy.ensures, c.from-room.ensures) at c.short_in.ensures
