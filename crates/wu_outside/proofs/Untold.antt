-- A store that tells nothing keeps what the clauses say of what is told.
use Rattle.std.proofs.Common.{◌≡◌, ℕ, List, Option, None, Result, Ok, Err, MatchResult, option_map, refl, inl}
use Rattle.wu_outside.specs.Content.{Does, Writes}
use Rattle.wu_outside.specs.declared.traits.Fault.{Fault}

-- a step that nothing is told of
pub untold_step : {X T : Type 0} (step : X → X) (r : Result T Fault) → Does {X = X} step None None r
untold_step step (Ok v) = record { done = refl; failed = tt; out_of_memory = λ _. refl }
untold_step step (Err e) = record { done = tt; failed = inl refl; out_of_memory = λ _. refl }

-- a write that nothing is told of
pub untold_write : {X T : Type 0} (step : Option (List ℕ) → X → X) (bytes : List ℕ) (r : Result T Fault)
    → Writes {X = X} step bytes None None r
untold_write step bytes (Ok v) = record { done = refl; failed = tt; out_of_memory = λ _. refl }
untold_write step bytes (Err e) = record { done = tt; failed = (None, inl refl); out_of_memory = λ _. refl }

-- a sync that nothing is told of
pub untold_sync : {X T E : Type 0} (step : X → X) (r : Result T E)
    → MatchResult r (λ _. None ≡ option_map step None) (λ _. ◌≡◌ {A = Option X} None None)
untold_sync step (Ok v) = refl
untold_sync step (Err e) = refl
