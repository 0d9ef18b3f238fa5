-- Where a seek goes, and what is read there.
use Rattle.std.proofs.Common.{◌≡◌, ℕ, List, Option, Some, None, Result, Ok, Err, IfOk, IfSome, ap, ◌∙◌}
use Rattle.std.specs.Io.Seek.{SeekMoves}
use Rattle.std.specs.declared.io.traits.SeekFrom.TheVariants.{Start}

-- a seek to a place from the start that succeeded leaves a known position there
pub sought_place : {E : Type 0} (old new : Option ℕ) (bytes : Option (List ℕ)) (place n : ℕ) (r : Result ℕ E)
    → r ≡ Ok n → SeekMoves old new bytes (Start place) r → IfSome old (λ _. new ≡ Some place)
sought_place None new bytes place n r went moves = tt
sought_place (Some position) new bytes place n (Ok m) went moves = moves.1 ∙ ap Some moves.0
sought_place (Some position) new bytes place n (Err e) went moves = absurd (cc)

-- what a stream gives is given by one that is at the place
pub taken_there : {F E : Type 0} (IsThere : F → Type 0) (Takes : F → ℕ → Type 0) (Within : Type 0) (sought : F) (r : Result ℕ E)
    → IsThere sought → IfOk r (λ n. Takes sought n) → IfOk r (λ n. Within → (x : F) × IsThere x × Takes x n)
taken_there IsThere Takes Within sought (Ok n) there takes = λ _. (sought, there, takes)
taken_there IsThere Takes Within sought (Err e) there takes = tt
