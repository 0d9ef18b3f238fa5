-- Lemmas on blocks whose addresses lie near to each other: their numbers are short.
use Rattle.std.proofs.Common.{◌≡◌, ℕ, ◌+◌, ◌-◌, ◌^◌, ◌<◌, ◌≤◌, ⊎_elim, inl, inr, List, [], ◌∷◌, Some, arith}
use Rattle.std.proofs.lemmas.Bool.{cases_lt}
use Rattle.std.specs.List.{last_or}
use Rattle.wu_vbyte.specs.Numbers.{StartsWithNumber}
use Rattle.wu_vbyte.specs.Blocks.{SpellsGaps, SpellsAfterFirst, AreFromTo, AreShort}
use Rattle.wu_vbyte.proofs.NumberLemmas.{starts_not_empty, starts_with_last, starts_with_more}

gaps_up : (start last : ℕ) (later bytes : List ℕ) → SpellsGaps start later bytes → last_or (Some start) later ≡ Some last → start ≤ last
gaps_up start last [] bytes s end = let same : start ≡ last = cc in omega arith
gaps_up start last (a ∷ later) bytes s end = omega (arith, s.0, gaps_up a last later s.1 s.3 end)

-- a number below 2^14, and what comes after it
number_short : (before n : ℕ) (bytes rest : List ℕ) → before < 128 → 0 < n → n < 2 ^ 14 → StartsWithNumber bytes n rest
    → ((end : ℕ) → end < 128 → AreShort end rest) → AreShort before bytes
number_short before n [] rest low some few s later = absurd (starts_not_empty n rest s)
number_short before n (byte ∷ left) rest low some few s later =
    ⊎_elim
    (λ (small : byte < 128).
    let one = starts_with_last byte n left rest small s in
    (omega (arith, one.0), inr small, rw one.1 (later byte small)))
    (λ (large : 128 ≤ byte).
    let more = starts_with_more byte n left rest large s in
    (omega arith, inl low, second_short byte more.0 left rest more.1 (omega (arith, more.2)) more.3 later))
    (cases_lt byte 128)
  where
    second_short : (byte m : ℕ) (left rest : List ℕ) → 0 < m → m < 128 → StartsWithNumber left m rest
        → ((end : ℕ) → end < 128 → AreShort end rest) → AreShort byte left
    second_short byte m [] rest some few s later = absurd (starts_not_empty m rest s)
    second_short byte m (second ∷ left) rest some few s later =
        ⊎_elim
        (λ (small : second < 128).
        let one = starts_with_last second m left rest small s in
        (omega (arith, one.0), inr small, rw one.1 (later second small)))
        (λ (large : 128 ≤ second). let more = starts_with_more second m left rest large s in absurd (omega (arith, more.1, more.2)))
        (cases_lt second 128)

gaps_short : (before start last : ℕ) (later bytes : List ℕ) → before < 128 → SpellsGaps start later bytes
    → last_or (Some start) later ≡ Some last → last < start + 2 ^ 14 → AreShort before bytes
gaps_short before start last [] bytes low s end near = rw s tt
gaps_short before start last (a ∷ later) bytes low s end near =
    let up = gaps_up a last later s.1 s.3 end in
    number_short before (a - start) bytes s.1 low (omega (arith, s.0)) (omega arith) s.2
    (λ byte small. gaps_short byte a last later s.1 small s.3 end (omega (arith, s.0)))

pub near_short : (count first last : ℕ) (all bytes : List ℕ) → SpellsAfterFirst first all bytes → AreFromTo count first last all
    → last < first + 2 ^ 14 → AreShort 0 bytes
near_short count first last [] bytes b f near = absurd b
near_short count first last (address ∷ later) bytes b f near =
    gaps_short 0 first last later bytes (omega arith) b.1 (rw b.0 at f.end) near

pub block_up : (count first last : ℕ) (all bytes : List ℕ) → SpellsAfterFirst first all bytes → AreFromTo count first last all → first ≤ last
block_up count first last [] bytes b f = absurd b
block_up count first last (address ∷ later) bytes b f = gaps_up first last later bytes b.1 (rw b.0 at f.end)
