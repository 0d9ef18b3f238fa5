-- Addresses that ascend.
use Rattle.std.specs.Prelude.{ℕ, ◌+◌, ◌≤◌, List, [], ◌∷◌}

-- the addresses ascend strictly, none below the low one, and all below the high one
abbrev pub AscendBetween : ℕ → ℕ → List ℕ → Type 0
AscendBetween low high [] = low ≤ high
AscendBetween low high (address ∷ addresses) = (low ≤ address) × AscendBetween (address + 1) high addresses
