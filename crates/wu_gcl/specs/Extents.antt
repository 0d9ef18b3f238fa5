-- Which extents of a text a region expression means.
-- After the generalized concordance lists of Clarke, Cormack and Burkowski, The Computer Journal 38(1), 1995.
use Rattle.std.specs.Prelude.{ℕ, zero, suc, ◌+◌, ◌-◌, ◌==◌, ◌&&◌, ◌||◌, Bool, true, false, not, nat_le, nat_lt, nat_eq, List, [], ◌∷◌}
use Rattle.std.specs.Prelude.{filter, map, length}
use Rattle.std.specs.List.{list_any, flat_map, range_with_len}
use Rattle.std.specs.Cmp.Lexicographic.{pointwise}
use Rattle.wu_base.specs.declared.addresses.Extent.{Extent}
use Rattle.wu_gcl.specs.declared.expressions.Tag.TheVariants.{FileStart, FileEnd, LineStart, LineEnd}
use Rattle.wu_gcl.specs.declared.expressions.Op.{Op}
use Rattle.wu_gcl.specs.declared.expressions.Op.TheVariants.{Containing, ContainedIn, NotContaining, NotContainedIn, OneOf, BothOf}
use Rattle.wu_gcl.specs.declared.expressions.Op.TheVariants.{FollowedBy}
use Rattle.wu_gcl.specs.Regions.{Region, Phrase, Mark, WholeFile, WholeLine, Window, Both}
use Rattle.wu_gcl.specs.Reading.{tag_text}

-- the outer extent starts no later and ends no earlier than the inner one
abbrev pub holds : Extent → Extent → Bool
holds outer inner = nat_le outer.start inner.start && nat_le inner.end outer.end

abbrev pub same_extent : Extent → Extent → Bool
same_extent one other = one.start == other.start && one.end == other.end

-- every extent of a text of n places, by its start, then by its end
unfoldable pub extents_of : ℕ → List Extent
extents_of n = flat_map (λ first. map (λ last. record { start = first; end = last }) (range_with_len first (n - first)))
    (range_with_len 0 n)

-- A set of extents is told by a test, true of the extents in it. The text has n places.
-- Some extent of the text passes the test.
unfoldable pub some_extent : ℕ → (Extent → Bool) → Bool
some_extent n test = list_any test (extents_of n)

-- the extents of the left set that hold one of the right set
unfoldable pub containing : ℕ → (Extent → Bool) → (Extent → Bool) → Extent → Bool
containing n left right x = left x && some_extent n (λ y. holds x y && right y)

-- the extents of the left set that one of the right set holds
unfoldable pub contained_in : ℕ → (Extent → Bool) → (Extent → Bool) → Extent → Bool
contained_in n left right x = left x && some_extent n (λ y. holds y x && right y)

-- the extents of the left set that hold none of the right set
unfoldable pub not_containing : ℕ → (Extent → Bool) → (Extent → Bool) → Extent → Bool
not_containing n left right x = left x && not (some_extent n (λ y. holds x y && right y))

-- the extents of the left set that none of the right set holds
unfoldable pub not_contained_in : ℕ → (Extent → Bool) → (Extent → Bool) → Extent → Bool
not_contained_in n left right x = left x && not (some_extent n (λ y. holds y x && right y))

-- the extents of the set that hold no other extent of it
unfoldable pub innermost : ℕ → (Extent → Bool) → Extent → Bool
innermost n set x = set x && not (some_extent n (λ y. holds x y && not (same_extent x y) && set y))

-- in the left set or in the right one
abbrev pub in_either : (Extent → Bool) → (Extent → Bool) → Extent → Bool
in_either left right x = left x || right x

-- holds an extent of the left set and one of the right set
unfoldable pub holds_both : ℕ → (Extent → Bool) → (Extent → Bool) → Extent → Bool
holds_both n left right x = some_extent n (λ y. holds x y && left y) && some_extent n (λ z. holds x z && right z)

-- holds an extent of the left set, and one of the right set that starts after its end
unfoldable pub holds_in_order : ℕ → (Extent → Bool) → (Extent → Bool) → Extent → Bool
holds_in_order n left right x =
    some_extent n (λ y. holds x y && left y && some_extent n (λ z. holds x z && right z && nat_lt y.end z.start))

-- Which extents an operator makes of two sets.
unfoldable pub combined : Op → ℕ → (Extent → Bool) → (Extent → Bool) → Extent → Bool
combined Containing n left right = containing n left right
combined ContainedIn n left right = contained_in n left right
combined NotContaining n left right = not_containing n left right
combined NotContainedIn n left right = not_contained_in n left right
combined OneOf n left right = innermost n (in_either left right)
combined BothOf n left right = innermost n (holds_both n left right)
combined FollowedBy n left right = innermost n (holds_in_order n left right)

-- Where terms stand is told by a test of a term and a place.
-- The words stand there, one after the other from the place on.
abbrev pub words_stand : (List ℕ → ℕ → Bool) → List (List ℕ) → ℕ → Bool
words_stand stands [] place = true
words_stand stands (word ∷ words) place = stands word place && words_stand stands words (place + 1)

-- the extent is one place, where the term stands
abbrev pub is_term_at : (List ℕ → ℕ → Bool) → List ℕ → Extent → Bool
is_term_at stands term x = x.start == x.end && stands term x.start

-- the extent is one that the expression means, in a text of n places
unfoldable pub is_in : Region → (List ℕ → ℕ → Bool) → ℕ → Extent → Bool
is_in (Phrase words) stands n x = x.start + length words == x.end + 1 && words_stand stands words x.start
is_in (Mark tag) stands n x = is_term_at stands (tag_text tag) x
is_in WholeFile stands n x = combined FollowedBy n (is_term_at stands (tag_text FileStart)) (is_term_at stands (tag_text FileEnd)) x
is_in WholeLine stands n x = combined FollowedBy n (is_term_at stands (tag_text LineStart)) (is_term_at stands (tag_text LineEnd)) x
is_in (Window size) stands n x = x.start + size == x.end + 1
is_in (Both op left right) stands n x = combined op n (is_in left stands n) (is_in right stands n) x

-- the extents that the expression means, by start, then by end
unfoldable pub hits : Region → (List ℕ → ℕ → Bool) → ℕ → List Extent
hits region stands n = filter (is_in region stands n) (extents_of n)

-- the token at the place is the term
abbrev pub is_token_at : List (List ℕ) → List ℕ → ℕ → Bool
is_token_at [] term place = false
is_token_at (token ∷ tokens) term zero = pointwise nat_eq token term
is_token_at (token ∷ tokens) term (suc place) = is_token_at tokens term place

-- the same of a text with these tokens
abbrev pub token_hits : Region → List (List ℕ) → List Extent
token_hits region tokens = hits region (is_token_at tokens) (length tokens)
