-- The first and the last of some places that pass a test.
use Rattle.std.specs.Prelude.{◌≡◌, ℕ, ◌<◌, ◌≤◌, Bool, true, false}

-- the first of the places from the one on, below n, that passes
pub record IsFirstPlace (n : ℕ) (test : ℕ → Bool) (from place : ℕ) : Type 0 where
  pub low : from ≤ place
  pub within : place < n
  pub passes : test place ≡ true
  pub before : (p : ℕ) → from ≤ p → p < place → test p ≡ false

-- none of these passes
pub record HasNoneFrom (n : ℕ) (test : ℕ → Bool) (from : ℕ) : Type 0 where
  pub none : (p : ℕ) → from ≤ p → p < n → test p ≡ false

-- the last of the places up to the one, below n, that passes
pub record IsLastPlace (n : ℕ) (test : ℕ → Bool) (to place : ℕ) : Type 0 where
  pub high : place ≤ to
  pub within : place < n
  pub passes : test place ≡ true
  pub after : (p : ℕ) → place < p → p ≤ to → p < n → test p ≡ false

-- none of these passes
pub record HasNoneTo (n : ℕ) (test : ℕ → Bool) (to : ℕ) : Type 0 where
  pub none : (p : ℕ) → p ≤ to → p < n → test p ≡ false

-- no place from the one on passes before it, and it passes if it is that one
pub record IsLeap (n : ℕ) (test : ℕ → Bool) (from place : ℕ) : Type 0 where
  pub low : from ≤ place
  pub within : place < n
  pub least : (p : ℕ) → from ≤ p → p < n → test p ≡ true → place ≤ p
  pub passes : place ≡ from → test place ≡ true

-- no place up to the one passes after it, and it passes if it is that one
pub record IsLeapBack (n : ℕ) (test : ℕ → Bool) (to place : ℕ) : Type 0 where
  pub high : place ≤ to
  pub within : place < n
  pub greatest : (p : ℕ) → p ≤ to → p < n → test p ≡ true → p ≤ place
  pub passes : place ≡ to → test place ≡ true
