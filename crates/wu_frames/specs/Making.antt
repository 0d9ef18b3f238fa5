-- Frames, made of the first files of a view.
use Rattle.std.specs.Prelude.{◌≡◌, ℕ, ◌<◌, ◌^◌, List, take}
use Rattle.std.specs.List.{AllByRecursion}
use Rattle.wu_view.specs.declared.Seen.{Seen}
use Rattle.wu_space.specs.Addresses.{Ranges}
use Rattle.wu_frames.specs.declared.Frame.{Frame}
use Rattle.wu_frames.specs.UserFrames.{frames_in}

-- the frames of the first files, so many
pub record AreMadeUpTo (place : ℕ) (ranges : Ranges) (view : List Seen) (frames : List Frame) : Type 0 where
  pub made : frames ≡ frames_in ranges (take place view)
  pub numbers : AllByRecursion (λ file. file.ino < 2 ^ 32) (take place view)
