-- The lists that the operators make, and the sets that they stand for.
use Rattle.std.proofs.Common.{◌≡◌, ℕ, ◌+◌, ◌≤◌, Bool, true, false, List, [], ◌∷◌, refl, arith, eqb, eqb-true, eq-eqb}
use Rattle.std.proofs.Math.Bool.{and-true}
use Rattle.std.specs.Cmp.{both_ways}
use Rattle.std.proofs.lemmas.Bool.{and_parts}
use Rattle.wu_base.specs.declared.addresses.Extent.{Extent}
use Rattle.wu_gcl.specs.declared.expressions.Op.{Op}
use Rattle.wu_gcl.specs.declared.expressions.Op.TheVariants.{Containing, ContainedIn, NotContaining, NotContainedIn, OneOf, BothOf}
use Rattle.wu_gcl.specs.declared.expressions.Op.TheVariants.{FollowedBy}
use Rattle.wu_gcl.specs.declared.expressions.Tag.{Tag}
use Rattle.wu_gcl.specs.declared.expressions.Tag.TheVariants.{FileStart, FileEnd, LineStart, LineEnd}
use Rattle.wu_gcl.specs.Regions.{Region, Phrase, Mark, WholeFile, WholeLine, Both}
use Rattle.wu_gcl.specs.Reading.{tag_text}
use Rattle.wu_gcl.specs.Extents.{combined, is_in, is_term_at}
use Rattle.wu_solve.specs.Listing.{Lists}
use Rattle.wu_solve.specs.Merging.{holding, held, IsOneOf, IsCover, IsSpan, AreInnermost}
use Rattle.wu_solve.proofs.Operators.{same_lists, containing_listed, not_containing_listed, contained_in_listed, not_contained_in_listed}
use Rattle.wu_solve.proofs.Innermost.{one_of_listed, both_of_listed, followed_by_listed}

module _ (n : ℕ) (left right : Extent → Bool) (ys zs : List Extent) (ly : Lists n left ys) (lz : Lists n right zs) where
  pub containing_combined : Lists n (combined Containing n left right) (holding true ys zs)
  unfolding combined
  containing_combined = containing_listed n left right ys zs ly lz

  pub not_containing_combined : Lists n (combined NotContaining n left right) (holding false ys zs)
  unfolding combined
  not_containing_combined = not_containing_listed n left right ys zs ly lz

  pub contained_in_combined : Lists n (combined ContainedIn n left right) (held true ys zs)
  unfolding combined
  contained_in_combined = contained_in_listed n left right ys zs ly lz

  pub not_contained_in_combined : Lists n (combined NotContainedIn n left right) (held false ys zs)
  unfolding combined
  not_contained_in_combined = not_contained_in_listed n left right ys zs ly lz

  pub one_of_combined : (xs : List Extent) → AreInnermost (IsOneOf ys zs) xs → Lists n (combined OneOf n left right) xs
  unfolding combined
  one_of_combined xs inner = one_of_listed n left right ys zs xs ly lz inner

  pub both_of_combined : (xs : List Extent) → AreInnermost (IsCover ys zs) xs → Lists n (combined BothOf n left right) xs
  unfolding combined
  both_of_combined xs inner = both_of_listed n left right ys zs xs ly lz inner

  pub followed_by_combined : (xs : List Extent) → AreInnermost (IsSpan ys zs) xs → Lists n (combined FollowedBy n left right) xs
  unfolding combined
  followed_by_combined xs inner = followed_by_listed n left right ys zs xs ly lz inner

-- operands

one_place : (a b : ℕ) → eqb (a + 1) (b + 1) ≡ eqb a b
one_place a b = both_ways (eqb (a + 1) (b + 1)) (eqb a b)
    (λ is. let same : a + 1 ≡ b + 1 = eqb-true (a + 1) (b + 1) is in eq-eqb a b (omega arith))
    (λ is. let same : a ≡ b = eqb-true a b is in eq-eqb (a + 1) (b + 1) (omega arith))

-- a phrase of one word is that word's places
pub word_listed : (n : ℕ) (stands : List ℕ → ℕ → Bool) (term : List ℕ) (xs : List Extent) → Lists n (is_in (Phrase (term ∷ [])) stands n) xs
    → Lists n (is_term_at stands term) xs
unfolding is_in
word_listed n stands term xs lists =
    same_lists n (is_in (Phrase (term ∷ [])) stands n) (is_term_at stands term) xs
    (λ x. rw (one_place x.start x.end, and-true (stands term x.start)) refl) lists

-- no word stands nowhere
pub no_phrase : (n : ℕ) (stands : List ℕ → ℕ → Bool) → Lists n (is_in (Phrase []) stands n) []
unfolding is_in
no_phrase n stands = record {
  ascending = tt;
  sound = λ x has. absurd has;
  complete = λ x is passes.
      let b = and_parts (eqb (x.start + 0) (x.end + 1)) true passes in
      let ends : x.start + 0 ≡ x.end + 1 = eqb-true (x.start + 0) (x.end + 1) b.0 in
      let ordered : x.start ≤ x.end = is.ordered in
      absurd (omega arith);
}

module _ (n : ℕ) (stands : List ℕ → ℕ → Bool) (xs : List Extent) where
  pub mark_listed : (tag : Tag) → Lists n (is_term_at stands (tag_text tag)) xs → Lists n (is_in (Mark tag) stands n) xs
  unfolding is_in
  mark_listed tag lists = lists

  pub file_listed : Lists n (combined FollowedBy n (is_term_at stands (tag_text FileStart)) (is_term_at stands (tag_text FileEnd))) xs
      → Lists n (is_in WholeFile stands n) xs
  unfolding is_in
  file_listed lists = lists

  pub line_listed : Lists n (combined FollowedBy n (is_term_at stands (tag_text LineStart)) (is_term_at stands (tag_text LineEnd))) xs
      → Lists n (is_in WholeLine stands n) xs
  unfolding is_in
  line_listed lists = lists

  pub both_listed : (op : Op) (left right : Region) → Lists n (combined op n (is_in left stands n) (is_in right stands n)) xs
      → Lists n (is_in (Both op left right) stands n) xs
  unfolding is_in
  both_listed op left right lists = lists
