-- Frames of files at any addresses, in any order: their extents, and how many these are. A number tells each file: its place in a view.
use Rattle.std.proofs.Common.{◌≡◌, ℕ, zero, suc, ◌+◌, ◌≤◌, ◌<◌, ◌^◌, Bool, true, false, cond, ◌&&◌, ◌||◌, ◌⊎◌, List, [], ◌∷◌, length, map}
use Rattle.std.proofs.Common.{get_or, refl, sym, ap, ap₂, ◌∙◌, subst, inl, inr, arith, length-append}
use Rattle.std.proofs.Math.Bool.{or-true}
use Rattle.std.proofs.lemmas.List.{length-map}
use Rattle.std.proofs.lemmas.List.Concat.{length-flat_map}
use Rattle.std.proofs.lemmas.List.Sorted.{sum_by-IsPermutation}
use Rattle.std.proofs.lemmas.List.Sums.{sum_by-cons}
use Rattle.std.specs.Cmp.{both_ways}
use Rattle.std.proofs.lemmas.List.Elements.{recursion_from_All}
use Rattle.std.specs.Prelude.{All, nat_eq, nat_lt, Contains, count_by}
use Rattle.std.specs.List.{flat_map, sum_by, AllByRecursion}
use Rattle.std.specs.List.Sorted.{IsStrictlyIncreasing, IsStrictlySortedBy, IsPermutation}
use Rattle.std.specs.Cmp.Lexicographic.{pointwise, slice_cmp, nat_list_eq_equiv, same_text}
use Rattle.std.specs.Ordering.{nat_cmp}
use Rattle.wu_base.specs.declared.addresses.Extent.{Extent}
use Rattle.wu_base.specs.declared.addresses.Range.{Range}
use Rattle.wu_base.specs.declared.addresses.TermList.{TermList}
use Rattle.wu_layout.proofs.BlobLemmas.{count-cons}
use Rattle.wu_gcl.specs.Extents.{hits, is_token_at, token_hits}
use Rattle.wu_gcl.specs.Regions.{Region}
use Rattle.wu_gcl.specs.Terms.{terms_in}
use Rattle.wu_solve.specs.Addresses.{is_among, has_address, stands_by, AreLists}
use Rattle.wu_solve.specs.Listing.{IsBefore, IsAscending}
use Rattle.wu_solve.specs.Solving.{moved, frame_hits, frames_hits, IsFrame}
use Rattle.wu_base.specs.Ranges.{AreApart}
use Rattle.wu_query.specs.Units.{list_at}
use Rattle.wu_solve.proofs.Results.{frame_of_text, hits_listed}
use Rattle.wu_solve.proofs.Sets.{all_from}

-- The frame is as long as the file's tokens, and a term has an address of the frame exactly where the token there is the term.
pub record IsFrameOf (addresses : List ℕ → List ℕ) (tokens : List (List ℕ)) (frame : Range) : Type 0 where
  pub long : frame.len ≡ length tokens
  pub told : (term : List ℕ) (i : ℕ) → i < length tokens → is_among (addresses term) (frame.start + i) ≡ is_token_at tokens term i

-- The frames of the files with these places, where functions tell each file's tokens and its frame; each term's addresses ascend.
-- Whether the frames lie apart matters only to the bound on their extents.
pub record FramesOf (addresses : List ℕ → List ℕ) (tokens : ℕ → List (List ℕ)) (frame : ℕ → Range) (places : List ℕ) : Type 0 where
  pub each : AllByRecursion (λ place. IsFrameOf addresses (tokens place) (frame place)) places
  pub ascending : (term : List ℕ) → IsStrictlyIncreasing (addresses term)

-- the expression's terms are among these
abbrev pub HasTerms : Region → List (List ℕ) → Type 0
HasTerms region terms = (term : List ℕ) → Contains (terms_in region) term → Contains terms term

-- ---- the lists

chosen : (p a b : Bool) → ((p && a) || b) ≡ true → ((p ≡ true) × (a ≡ true)) ⊎ (b ≡ true)
chosen true true b h = inl (refl, refl)
chosen true false b h = inr h
chosen false a b h = inr h

found : (addresses : List ℕ → List ℕ) (term : List ℕ) (terms : List (List ℕ)) (address : ℕ)
    → has_address (map (list_at addresses) terms) term address ≡ true → is_among (addresses term) address ≡ true
found addresses term [] address h = absurd (cc)
found addresses term (t ∷ terms) address h =
    elim (chosen (pointwise nat_eq t term) (is_among (addresses t) address)
    (has_address (map (list_at addresses) terms) term address) h) [
      | inl here ↦ subst (λ w. is_among (addresses w) address ≡ true) (same_text t term (sym here.0)) here.1
      | inr more ↦ found addresses term terms address more
    ]

finds : (addresses : List ℕ → List ℕ) (term : List ℕ) (terms : List (List ℕ)) (address k : ℕ) → k < length terms
    → get_or terms k term ≡ term → is_among (addresses term) address ≡ true
    → has_address (map (list_at addresses) terms) term address ≡ true
finds addresses term [] address k within is h = absurd (omega arith)
finds addresses term (t ∷ terms) address zero within is h =
    let same : pointwise nat_eq t term ≡ true = subst (λ w. pointwise nat_eq t w ≡ true) is (nat_list_eq_equiv.refl t) in
    let among : is_among (addresses t) address ≡ true = subst (λ w. is_among (addresses w) address ≡ true) (sym is) h in
    rw (same, among) refl
finds addresses term (t ∷ terms) address (suc k) within is h =
    rw (finds addresses term terms address k (omega arith) is h) (or-true (pointwise nat_eq t term && is_among (addresses t) address))

-- lists made by a function of the term have exactly its addresses
pub lists_have : (addresses : List ℕ → List ℕ) (term : List ℕ) (terms : List (List ℕ)) (address : ℕ) → Contains terms term
    → has_address (map (list_at addresses) terms) term address ≡ is_among (addresses term) address
lists_have addresses term terms address has =
    both_ways (has_address (map (list_at addresses) terms) term address) (is_among (addresses term) address)
    (found addresses term terms address) (finds addresses term terms address has.0 has.1 has.2)

-- lists of ascending terms whose addresses ascend are what the solver asks for
pub are_lists : (terms : List (List ℕ)) (lists : List TermList) → map (λ list. list.term) lists ≡ terms
    → All (λ list. IsStrictlyIncreasing list.at) lists → IsStrictlySortedBy (slice_cmp nat_cmp) terms → AreLists lists
are_lists terms lists named up sorted = record {
  terms = subst (IsStrictlySortedBy (slice_cmp nat_cmp)) (sym named) sorted;
  addresses = recursion_from_All (λ (list : TermList). IsStrictlyIncreasing list.at) lists up;
}

-- ---- extents

-- the extents in a file's frame are those of its tokens, moved by the frame's start
pub frame_of_file : (region : Region) (addresses : List ℕ → List ℕ) (terms tokens : List (List ℕ)) (frame : Range)
    → HasTerms region terms → IsFrameOf addresses tokens frame
    → frame_hits region (map (list_at addresses) terms) frame ≡ map (moved frame.start) (token_hits region tokens)
frame_of_file region addresses terms tokens frame all is =
    frame_of_text region (map (list_at addresses) terms) frame tokens is.long
    (λ term has i within. lists_have addresses term terms (frame.start + i) (all term has) ∙ is.told term i within)

-- ---- how many extents there are

-- the frames have as many extents as the files with these places, and as many have one
pub record IsCounted (region : Region) (lists : List TermList) (frames : List Range) (extents : ℕ → List Extent) (places : List ℕ)
    : Type 0 where
  pub hits : length (frames_hits region lists frames) ≡ length (flat_map extents places)
  pub files : count_by (λ frame. nat_lt 0 (length (frame_hits region lists frame))) frames
      ≡ count_by (λ place. nat_lt 0 (length (extents place))) places

in_this_order : (region : Region) (addresses : List ℕ → List ℕ) (terms : List (List ℕ)) (tokens : ℕ → List (List ℕ)) (frame : ℕ → Range)
    (places : List ℕ) → HasTerms region terms → AllByRecursion (λ place. IsFrameOf addresses (tokens place) (frame place)) places
    → IsCounted region (map (list_at addresses) terms) (map frame places) (λ place. token_hits region (tokens place)) places
in_this_order region addresses terms tokens frame [] all each = record { hits = refl; files = refl }
in_this_order region addresses terms tokens frame (place ∷ places) all each =
    let lists = map (list_at addresses) terms in
    let here = token_hits region (tokens place) in
    let same : length (frame_hits region lists (frame place)) ≡ length here =
    ap length (frame_of_file region addresses terms (tokens place) (frame place) all each.0)
    ∙ length-map here (moved (frame place).start) in
    let more = in_this_order region addresses terms tokens frame places all each.1 in
    record {
      hits = length-append (frame_hits region lists (frame place)) (frames_hits region lists (map frame places))
          ∙ ap₂ (λ (m n : ℕ). m + n) same more.hits
          ∙ sym (length-append here (flat_map (λ p. token_hits region (tokens p)) places));
      files = count-cons (λ f. nat_lt 0 (length (frame_hits region lists f))) (frame place) (map frame places)
          ∙ ap₂ (λ (m n : ℕ). cond (nat_lt 0 m) 1 0 + n) same more.files
          ∙ sym (count-cons (λ p. nat_lt 0 (length (token_hits region (tokens p)))) place places);
    }

-- the frames may come in any order
pub frames_counted : (region : Region) (addresses : List ℕ → List ℕ) (terms : List (List ℕ)) (tokens : ℕ → List (List ℕ))
    (frame : ℕ → Range) (places order : List ℕ) → HasTerms region terms → FramesOf addresses tokens frame order → IsPermutation places order
    → IsCounted region (map (list_at addresses) terms) (map frame order) (λ place. token_hits region (tokens place)) places
frames_counted region addresses terms tokens frame places order all framed same =
    let extents : ℕ → List Extent = λ place. token_hits region (tokens place) in
    let is = in_this_order region addresses terms tokens frame order all framed.each in
    record {
      hits = is.hits ∙ length-flat_map extents order ∙ sum_by-IsPermutation (λ p. length (extents p)) places order same
          ∙ sym (length-flat_map extents places);
      files = is.files ∙ sum_by-IsPermutation (λ p. cond (nat_lt 0 (length (extents p))) 1 0) places order same;
    }

-- ---- no more extents than addresses

few_ascend : (low high : ℕ) (xs : List Extent) → IsAscending xs → AllByRecursion (λ x. low ≤ x.start) xs
    → AllByRecursion (λ x. x.start < high) xs → low ≤ high → length xs + low ≤ high
few_ascend low high [] up above below within = omega arith
few_ascend low high (x ∷ xs) up above below within =
    let more = few_ascend (x.start + 1) high xs up.1 (later xs up.0) below.1 (omega (arith, below.0)) in
    omega (arith, more, above.0) where
      later : (ys : List Extent) → AllByRecursion (IsBefore x) ys → AllByRecursion (λ y. x.start + 1 ≤ y.start) ys
      later [] before = tt
      later (y ∷ ys) before = (omega (arith, before.0.starts), later ys before.1)

-- no more than there are places
hits_few : (region : Region) (stands : List ℕ → ℕ → Bool) (n : ℕ) → length (hits region stands n) ≤ n
hits_few region stands n =
    let listed = hits_listed region stands n in
    let xs = hits region stands n in
    let few = few_ascend 0 n xs listed.ascending (all_from (λ x. 0 ≤ x.start) xs (λ x has. omega arith))
    (all_from (λ x. x.start < n) xs (λ x has. let sound = (listed.sound x has).0 in omega (arith, sound.ordered, sound.within)))
    (omega arith) in
    omega (arith, few)

few_here : (region : Region) (lists : List TermList) (frames : List Range)
    → length (frames_hits region lists frames) ≤ sum_by (λ frame. frame.len) frames
few_here region lists [] = omega arith
few_here region lists (frame ∷ frames) =
    let here = frame_hits region lists frame in
    omega (
      arith,
      length-append here (frames_hits region lists frames),
      length-map (hits region (stands_by lists frame.start) frame.len) (moved frame.start),
      hits_few region (stands_by lists frame.start) frame.len,
      few_here region lists frames,
      sum_by-cons (λ (f : Range). f.len) frame frames,
    )

few_addresses : (low high : ℕ) (frames : List Range) → low ≤ high → AllByRecursion (λ frame. low ≤ frame.start) frames
    → AllByRecursion (λ frame. frame.start + frame.len ≤ high) frames → AreApart frames → sum_by (λ frame. frame.len) frames + low ≤ high
few_addresses low high [] some above below apart = omega arith
few_addresses low high (frame ∷ frames) some above below apart =
    omega (
      arith,
      above.0,
      few_addresses (frame.start + frame.len) high frames below.0 apart.0 below.1 apart.1,
      sum_by-cons (λ (f : Range). f.len) frame frames,
    )

-- frames that lie apart, in any order, have no more extents than there are addresses
pub frames_few : (region : Region) (lists : List TermList) (by_address frames : List Range) → IsPermutation by_address frames
    → AreApart by_address → AllByRecursion IsFrame by_address → length (frames_hits region lists frames) ≤ 2 ^ 47
frames_few region lists by_address frames same apart are =
    omega (
      arith,
      few_here region lists frames,
      sum_by-IsPermutation (λ (f : Range). f.len) by_address frames same,
      few_addresses 0 (2 ^ 47) by_address (omega arith) (all_above by_address) are apart,
    ) where
      all_above : (fs : List Range) → AllByRecursion (λ f. 0 ≤ f.start) fs
      all_above [] = tt
      all_above (g ∷ fs) = (omega arith, all_above fs)
