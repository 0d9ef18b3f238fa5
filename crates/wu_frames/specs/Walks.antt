-- A turn of a walk over what is kept.
use Rattle.std.specs.Prelude.{◌≡◌, ℕ, [], ◌∷◌, ◌++◌}
use Rattle.wu_frames.specs.declared.Frames.{Frames}
use Rattle.wu_frames.specs.UserFrames.{Kept}

-- the user who asked longest ago stands before all others now
abbrev pub MovesLast : Kept → Kept → Type 0
MovesLast before after = (rest : Kept) (entry : ℕ × Frames) → before ≡ rest ++ entry ∷ [] → after ≡ entry ∷ rest
