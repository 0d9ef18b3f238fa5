use Rattle.std.proofs.Common.{◌≡◌, ◌↔◌, ◌⊎◌, ℕ, List, [], ◌∷◌}
use Rattle.std.specs.Prelude.{Contains}
use Rattle.std.proofs.lemmas.Result.{IfOk-weaker}
use Rattle.wu_gcl.specs.Reading.{tag_text}
use Rattle.wu_solve.proofs.NeededTerms.{alone, either_alike, both_ways_through}
use Rattle.wu_solve.proofs.needed.both_tags.Goals as goal

pub returns-clause-members : goal.returns-clause-members
returns-clause-members c =
    let one = tag_text c.args.one in
    let other = tag_text c.args.other in
    IfOk-weaker c.in_either.result
    (λ v. (term : List ℕ) → Contains v.items term ↔ (Contains c.in_ok-tag_alone.field-0.items term ⊎ Contains c.deref.result.now term))
    (λ v. (term : List ℕ) → Contains v.items term ↔ ((one ≡ term) ⊎ (other ≡ term)))
    (λ v members term. both_ways_through (Contains v.items term) (Contains (one ∷ []) term ⊎ Contains (other ∷ []) term)
    ((one ≡ term) ⊎ (other ≡ term))
    (rw (c.in_ok-tag_alone.ensures, c.deref.ensures.value, c.in_ok-other.ensures) at (members term))
    (either_alike (Contains (one ∷ []) term) (Contains (other ∷ []) term) (one ≡ term) (other ≡ term) (alone one term) (alone other term)))
    c.in_either.ensures.members
