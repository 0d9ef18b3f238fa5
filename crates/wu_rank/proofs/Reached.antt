-- How many units could be among the first ones of a ranking, by a test of each.
use Rattle.std.proofs.Common.{◌≡◌, ℕ, ◌-◌, Bool, true, false, cond, eqb, leb, ◌&&◌, List, [], length, refl, ap, ◌∙◌}
use Rattle.std.specs.List.{filter}
use Rattle.std.specs.Prelude.{count_by}
use Rattle.std.proofs.lemmas.List.Sums.{length-filter}
use Rattle.wu_log2.specs.Logarithm.{lg}
use Rattle.wu_rank.specs.declared.results.Unit.{Unit as RankedUnit}
use Rattle.wu_rank.specs.Pruning.{bound, last_score, reaching}
use Rattle.wu_rank.specs.Scores.{holds}

abbrev pub reaches : {W : Type 0} → (W → RankedUnit → ℕ) → List RankedUnit → List W → ℕ → RankedUnit → Bool
reaches count units words k unit = holds count words unit && leb (last_score count units words k) (bound count units words unit)

kept : (b : Bool) (units : List RankedUnit) → length (cond b [] units) ≡ cond b 0 (length units)
kept true units = refl
kept false units = refl

pub length-reaching : {W : Type 0} (count : W → RankedUnit → ℕ) (units : List RankedUnit) (words : List W) (k : ℕ)
    → length (reaching count units words k) ≡ cond (eqb k 0) 0 (count_by (reaches count units words k) units)
unfolding reaching
length-reaching count units words k =
    kept (eqb k 0) (filter (reaches count units words k) units)
    ∙ ap (λ (n : ℕ). cond (eqb k 0) 0 n) (length-filter (reaches count units words k) units)

pub idf_alike : (h n i m : ℕ) → h ≡ i → n ≡ m → cond (eqb h 0) 0 (lg n - lg h) ≡ cond (eqb i 0) 0 (lg m - lg i)
idf_alike h n i m hi nm = rw (hi, nm) refl
