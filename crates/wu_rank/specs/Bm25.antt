-- The BM25 weight of Robertson and others, as in Büttcher, Clarke and Cormack, Information Retrieval, chapter 8, with
-- k1 = 1.2 and b = 0.75, in whole numbers.
use Rattle.std.specs.Prelude.{◌≡◌, ℕ, ◌+◌, ◌*◌, ◌/◌, ◌^◌, ◌<◌, ◌≤◌}

-- idf · f · (k1 + 1) / (f + k1 (1 - b + b · l / average)), rounded down, where t / n is the average length of the n units
unfoldable pub weigh : ℕ → ℕ → ℕ → ℕ → ℕ → ℕ
weigh idf f l n t = idf * 22 * f * t / (10 * f * t + 3 * t + 9 * l * n)

-- what a ranking asks for: a word of inverse document frequency idf that stands f times in a unit of length l
pub record InRange (idf f l : ℕ) : Type 0 where
  pub rarity : idf ≤ 2 ^ 22
  pub frequency : f ≤ l
  pub length : l < 2 ^ 26

-- a closure, by where it may be called and what it may answer, that weighs for n units of summed length t
pub record IsWeigher (pre : ℕ → ℕ → ℕ → Type 0) (post : ℕ → ℕ → ℕ → ℕ → Type 0) (n t : ℕ) : Type 0 where
  pub callable : (idf f l : ℕ) → InRange idf f l → pre idf f l
  pub answers : (idf f l answer : ℕ) → InRange idf f l → post idf f l answer → answer ≡ weigh idf f l n t
