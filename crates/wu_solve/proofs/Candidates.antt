-- One more candidate, taken up before the innermost of the others or passed over.
use Rattle.std.proofs.Common.{◌⊎◌, List, ◌∷◌, refl, subst, inl, inr, arith}
use Rattle.wu_base.specs.declared.addresses.Extent.{Extent}
use Rattle.wu_solve.specs.Listing.{IsBefore}
use Rattle.wu_solve.specs.Merging.{AreInnermost}
use Rattle.wu_solve.proofs.Sets.{Holds, holds_means, holds_from, all_from}
use Rattle.wu_solve.proofs.Operators.{holds_through}

pub itself : (x : Extent) → Holds x x
itself x = record { start = omega arith; last = omega arith }

module _ (IsCandidate IsOther : Extent → Type 0) (xs : List Extent) (inner : AreInnermost IsOther xs)
    (wider : (x : Extent) → IsOther x → IsCandidate x) where
  -- one that stands before the others, of which each that is left holds it
  pub taken : (v : Extent) → IsCandidate v → ((x : Extent) → IsOther x → IsBefore v x)
      → ((x : Extent) → IsCandidate x → Holds x v ⊎ IsOther x) → AreInnermost IsCandidate (v ∷ xs)
  taken v is before cases = record {
    ascending = (all_from (IsBefore v) xs (λ x has. before x (inner.sound x has)), inner.ascending);
    sound = λ x has. elim has [ inl here ↦ subst IsCandidate here is | inr more ↦ wider x (inner.sound x more) ];
    dense = λ x candidate. elim (cases x candidate) [
      | inl h ↦ (v, inl refl, holds_from x v h)
      | inr other ↦ let d = inner.dense x other in (d.0, inr d.1, d.2)
    ];
  }

  -- each candidate holds one of the others
  pub passed : ((x : Extent) → IsCandidate x → (y : Extent) × IsOther y × Holds x y) → AreInnermost IsCandidate xs
  passed holds_other = record {
    ascending = inner.ascending;
    sound = λ x has. wider x (inner.sound x has);
    dense = λ x candidate.
        let o = holds_other x candidate in
        let d = inner.dense o.0 o.1 in
        (d.0, d.1, holds_from x d.0 (holds_through x o.0 d.0 o.2 (holds_means o.0 d.0 d.2)));
  }
