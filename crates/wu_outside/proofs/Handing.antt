-- What is handed on of an answer of the system.
use Rattle.std.proofs.Common.{◌≡◌, ℕ, Result, Ok, Err}
use Rattle.wu_outside.specs.Faults.{HandsOn}

-- a value that was handed on is the one that was answered
pub handed_value : {T E F : Type 0} (before now : ℕ) (answer : Result T E) (r : Result T F) (value : T) → HandsOn before now answer r
    → r ≡ Ok value → answer ≡ Ok value
handed_value before now (Ok v) (Ok w) value hands is = cc
handed_value before now (Ok v) (Err f) value hands is = absurd (cc)
handed_value before now (Err e) (Ok w) value hands is = let failed = hands.0 in absurd (cc)
handed_value before now (Err e) (Err f) value hands is = absurd (cc)
