-- Draws of a linear congruential generator of 64 bits, that of Knuth's MMIX. Its multiplier is one of The Art of Computer Programming,
-- volume 2, third edition, section 3.3.4, table 1.
use Rattle.std.specs.Prelude.{ℕ, zero, suc, ◌+◌, ◌*◌, ◌/◌, ◌%◌, ◌^◌, List, [], ◌∷◌}

-- what is drawn from a state, and the state after it
abbrev pub Draws : Type 0 → Type 0
Draws A = ℕ → A × ℕ

-- the value, without a draw
abbrev pub give : {A : Type 0} → A → Draws A
give value state = (value, state)

-- one after the other
infixl 10 ◌>>=◌
abbrev pub ◌>>=◌ : {A B : Type 0} → Draws A → (A → Draws B) → Draws B
(draws >>= others) state = others (draws state).0 (draws state).1

abbrev pub next_state : ℕ → ℕ
next_state state = (state * 6364136223846793005 + 1442695040888963407) % 2 ^ 64

-- a number below the bound, of the upper 31 bits of the next state
unfoldable pub draw : ℕ → Draws ℕ
draw bound state = (next_state state / 2 ^ 33 % bound, next_state state)

-- of count numbers, from n on, in turn
unfoldable pub in_turn : {A : Type 0} → (ℕ → Draws A) → ℕ → ℕ → Draws (List A)
in_turn draws n zero = give []
in_turn draws n (suc count) = do
  first ← draws n
  others ← in_turn draws (n + 1) count
  give (first ∷ others)
