-- How many addresses there are, and how many of the frames have one of them.
use Rattle.std.specs.Prelude.{ℕ, ◌≡◌, ◌+◌, ◌-◌, ◌^◌, List, [], ◌∷◌, ◌++◌, length}
use Rattle.wu_base.specs.declared.addresses.Range.{Range}
use Rattle.wu_base.specs.Ranges.{frames_with}
use Rattle.wu_lists.specs.declared.tallies.Tally.{Tally}
use Rattle.wu_lists.specs.Ascending.{AscendBetween}

-- the address after the last of these, or `before` where there are none
abbrev pub after_last : ℕ → List ℕ → ℕ
after_last before [] = before
after_last before (address ∷ later) = after_last (address + 1) later

-- Where the addresses ascend, `after` tells whether the next address that lies in a frame is that frame's first: exactly where the frame
-- begins there or later.
abbrev pub tally_of : List Range → List ℕ → Tally
tally_of frames addresses =
    record { hits = length addresses; frames = frames_with frames addresses; after = after_last 0 addresses }

-- more addresses were counted, as long as they ascend together with those that were counted before
abbrev pub Counts : List Range → List ℕ → Tally → Tally → Type 0
Counts frames more before after = (found : List ℕ) → AscendBetween 0 (2 ^ 64 - 1) (found ++ more)
    → before ≡ tally_of frames found → after ≡ tally_of frames (found ++ more)

-- addresses of a kind were counted
pub record Tallies (frames : List Range) (Kind : List ℕ → Type 0) (before after : Tally) : Type 0 where
  pub more : List ℕ
  pub kind : Kind more
  pub told : Counts frames more before after
