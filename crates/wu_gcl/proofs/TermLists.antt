-- A list sorted and without repeats has the same terms.
use Rattle.std.proofs.Common.{◌≡◌, ℕ, List}
use Rattle.std.specs.Prelude.{◌↔◌, Contains}
use Rattle.std.specs.List.Sorted.{IsStrictlySortedBy}
use Rattle.std.specs.Cmp.Lexicographic.{slice_cmp}
use Rattle.std.specs.Ordering.{nat_cmp}
use Rattle.wu_gcl.specs.Regions.{Region}
use Rattle.wu_gcl.specs.Terms.{terms_in, AreTerms}

pub are_terms : (region : Region) (named kept : List (List ℕ)) → named ≡ terms_in region → IsStrictlySortedBy (slice_cmp nat_cmp) kept
    → ((term : List ℕ) → Contains kept term ↔ Contains named term) → AreTerms region kept
are_terms region named kept is up members = record {
  ascending = up;
  none_else = λ term has. rw is at (members term).0 has;
  all = λ term has. (members term).1 (rw is has);
}
