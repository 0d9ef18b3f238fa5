-- Windows of frames that all have room for one: extents that lie in frames lie in a window by their length alone.
use Rattle.std.proofs.Common.{◌≡◌, ℕ, ◌-◌, ◌≤◌, true, List, [], ◌∷◌, nat_le, nat_lt, refl, sym, le-leb}
use Rattle.std.specs.Prelude.{filter}
use Rattle.std.specs.List.{All, AllByRecursion}
use Rattle.std.proofs.Math.Bool.{and-true}
use Rattle.std.proofs.lemmas.List.Elements.{All-from_recursion, recursion_from_All}
use Rattle.wu_base.specs.declared.addresses.Extent.{Extent}
use Rattle.wu_base.specs.declared.addresses.Range.{Range}
use Rattle.wu_base.specs.declared.addresses.TermList.{TermList}
use Rattle.wu_gcl.specs.Regions.{Region}
use Rattle.wu_solve.specs.Frames.{lies_in_one}
use Rattle.wu_solve.specs.Solving.{frames_hits}
use Rattle.wu_solve.specs.Windows.{lies_in_window}
use Rattle.wu_solve.proofs.OneFrame.{in_some_frame, lies_one}
use Rattle.wu_solve.proofs.Results.{extent_lies}
use Rattle.wu_solve.proofs.Sets.{all_from}

all_roomy : (size : ℕ) (frames : List Range) → AllByRecursion (λ frame. size ≤ frame.len) frames
    → filter (λ frame. nat_le size frame.len) frames ≡ frames
all_roomy size [] room = refl
all_roomy size (f ∷ frames) room = rw (le-leb size f.len room.0, all_roomy size frames room.1) refl

pub by_length : (size : ℕ) (frames : List Range) (x : Extent) → All (λ frame. size ≤ frame.len) frames → lies_in_one frames x ≡ true
    → nat_lt (x.end - x.start) size ≡ lies_in_window size frames x
by_length size frames x room lies =
    rw (all_roomy size frames (recursion_from_All (λ frame. size ≤ frame.len) frames room), lies)
    (sym (and-true (nat_lt (x.end - x.start) size)))

-- the extents of an expression lie in the frames
pub all_lie : (region : Region) (lists : List TermList) (frames : List Range)
    → All (λ x. lies_in_one frames x ≡ true) (frames_hits region lists frames)
all_lie region lists frames =
    All-from_recursion (λ x. lies_in_one frames x ≡ true) (frames_hits region lists frames)
    (all_from (λ x. lies_in_one frames x ≡ true) (frames_hits region lists frames) (λ x has.
    let s = in_some_frame region lists frames x has in
    lies_one frames s.0 x s.1 (extent_lies region lists s.0 x s.2)))
