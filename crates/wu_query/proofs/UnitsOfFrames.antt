-- The units of a query in frames of files, at any addresses and in any order: how often a word is in one, and their ranking.
use Rattle.std.proofs.Common.{◌≡◌, ℕ, zero, suc, ◌+◌, ◌-◌, ◌≤◌, ◌<◌, Bool, true, false, cond, ◌||◌, List, [], ◌∷◌, ◌++◌, length, take, drop}
use Rattle.std.proofs.Common.{get_or, map, refl, sym, ap, ap₂, ◌∙◌, subst, arith, append_assoc, length-append, length-drop, eqb}
use Rattle.std.proofs.lemmas.Bool.Decides.{nat_tests}
use Rattle.std.proofs.lemmas.Grind.{flat_map-append}
use Rattle.std.proofs.lemmas.List.{length-map, map-append}
use Rattle.std.proofs.lemmas.List.Sorted.{IsPermutation-refl, IsPermutation-trans, IsPermutation-append_left, IsPermutation-append_right}
use Rattle.std.proofs.lemmas.List.Sorted.{IsPermutation-append_comm, sum_by-IsPermutation}
use Rattle.std.proofs.lemmas.List.Sums.{sum_by-cons, sum_by-append}
use Rattle.std.specs.Prelude.{nat_eq, count_by}
use Rattle.std.specs.List.{flat_map, AllByRecursion, sum_by}
use Rattle.std.specs.List.Sorted.{IsStrictlyIncreasing, IsPermutation}
use Rattle.std.specs.Cmp.Lexicographic.{pointwise, nat_list_eq_equiv}
use Rattle.wu_base.specs.declared.addresses.Extent.{Extent}
use Rattle.wu_base.specs.declared.addresses.Range.{Range}
use Rattle.wu_base.specs.declared.addresses.TermList.{TermList}
use Rattle.wu_layout.proofs.BlobLemmas.{count-cons}
use Rattle.wu_gcl.specs.Extents.{is_token_at, token_hits}
use Rattle.wu_gcl.specs.Regions.{Region}
use Rattle.wu_rank.specs.declared.results.Unit.{Unit as RankedUnit}
use Rattle.wu_rank.specs.declared.results.Ranked.{Ranked}
use Rattle.wu_rank.specs.Scores.{length_of, lies_in, frequency, count_at}
use Rattle.wu_rank.specs.Order.{listed}
use Rattle.wu_rank.specs.Pruning.{reaching}
use Rattle.wu_rank.proofs.Shifting.{Agrees, shifted, shifted_ranked, listed_shifted, length-reaching-shifted}
use Rattle.wu_rank.proofs.Reordering.{listed-IsPermutation, length-reaching-IsPermutation}
use Rattle.wu_solve.specs.Addresses.{is_among}
use Rattle.wu_solve.specs.Listing.{IsExtentIn}
use Rattle.wu_solve.specs.Solving.{moved, frame_hits}
use Rattle.wu_solve.proofs.Numbers.{increasing_rest}
use Rattle.wu_solve.proofs.Results.{hits_in as inside_text}
use Rattle.wu_solve.proofs.Sets.{all_from}
use Rattle.wu_query.specs.Rankings.{unit_at}
use Rattle.wu_query.specs.Units.{list_at, relative_to_file}
use Rattle.wu_query.proofs.FramesOfFiles.{IsFrameOf, FramesOf, HasTerms, frame_of_file}

-- the units of the files with these places, where a function tells each file's extents
abbrev pub units_at : (ℕ → List Extent) → List ℕ → List RankedUnit
units_at extents places = flat_map (λ place. map (unit_at place) (extents place)) places

abbrev pub units_in_frames : Region → List TermList → (ℕ → Range) → List ℕ → List RankedUnit
units_in_frames region lists frame places = units_at (λ place. frame_hits region lists (frame place)) places

abbrev pub units_in_files : Region → (ℕ → List (List ℕ)) → List ℕ → List RankedUnit
units_in_files region tokens places = units_at (λ place. token_hits region (tokens place)) places

-- how often the word is in the unit, where a function tells each file's tokens
abbrev pub frequency_at : (ℕ → List (List ℕ)) → List ℕ → RankedUnit → ℕ
frequency_at tokens word unit =
    count_by (pointwise nat_eq word) (take (length_of unit.extent) (drop unit.extent.start (tokens unit.place)))

abbrev pub start_of : (ℕ → Range) → ℕ → ℕ
start_of frame place = (frame place).start

-- ---- the units at addresses

moved_units : (start : ℕ → ℕ) (place : ℕ) (xs : List Extent)
    → map (unit_at place) (map (moved (start place)) xs) ≡ map (shifted start) (map (unit_at place) xs)
moved_units start place [] = refl
moved_units start place (x ∷ xs) = ap (λ (us : List RankedUnit). shifted start (unit_at place x) ∷ us) (moved_units start place xs)

pub units_shifted : (region : Region) (addresses : List ℕ → List ℕ) (terms : List (List ℕ)) (tokens : ℕ → List (List ℕ)) (frame : ℕ → Range)
    (places : List ℕ) → HasTerms region terms → AllByRecursion (λ place. IsFrameOf addresses (tokens place) (frame place)) places
    → units_in_frames region (map (list_at addresses) terms) frame places
    ≡ map (shifted (start_of frame)) (units_in_files region tokens places)
units_shifted region addresses terms tokens frame [] all each = refl
units_shifted region addresses terms tokens frame (place ∷ places) all each =
    let here = token_hits region (tokens place) in
    ap₂ (λ (us vs : List RankedUnit). us ++ vs)
    (ap (map (unit_at place)) (frame_of_file region addresses terms (tokens place) (frame place) all each.0)
    ∙ moved_units (start_of frame) place here)
    (units_shifted region addresses terms tokens frame places all each.1)
    ∙ sym (map-append (shifted (start_of frame)) (map (unit_at place) here) (units_in_files region tokens places))

-- ---- a unit's file

-- a unit has a file with a frame, and its extent lies within the file's tokens
pub record IsUnitIn (addresses : List ℕ → List ℕ) (tokens : ℕ → List (List ℕ)) (frame : ℕ → Range) (unit : RankedUnit) : Type 0 where
  pub framed : IsFrameOf addresses (tokens unit.place) (frame unit.place)
  pub inside : IsExtentIn (length (tokens unit.place)) unit.extent

pub both_all : {X : Type 0} (P : X → Type 0) (xs ys : List X) → AllByRecursion P xs → AllByRecursion P ys → AllByRecursion P (xs ++ ys)
both_all P [] ys one other = other
both_all P (x ∷ xs) ys one other = (one.0, both_all P xs ys one.1 other)

placed_all : (addresses : List ℕ → List ℕ) (tokens : ℕ → List (List ℕ)) (frame : ℕ → Range) (place : ℕ) (xs : List Extent)
    → IsFrameOf addresses (tokens place) (frame place) → AllByRecursion (IsExtentIn (length (tokens place))) xs
    → AllByRecursion (IsUnitIn addresses tokens frame) (map (unit_at place) xs)
placed_all addresses tokens frame place [] framed inside = tt
placed_all addresses tokens frame place (x ∷ xs) framed inside =
    (record { framed = framed; inside = inside.0 }, placed_all addresses tokens frame place xs framed inside.1)

pub units_inside : (region : Region) (addresses : List ℕ → List ℕ) (tokens : ℕ → List (List ℕ)) (frame : ℕ → Range) (places : List ℕ)
    → AllByRecursion (λ place. IsFrameOf addresses (tokens place) (frame place)) places
    → AllByRecursion (IsUnitIn addresses tokens frame) (units_in_files region tokens places)
units_inside region addresses tokens frame [] each = tt
units_inside region addresses tokens frame (place ∷ places) each =
    let here = token_hits region (tokens place) in
    both_all (IsUnitIn addresses tokens frame) (map (unit_at place) here) (units_in_files region tokens places)
    (placed_all addresses tokens frame place here each.0
    (all_from (IsExtentIn (length (tokens place))) here (inside_text region (is_token_at (tokens place)) (length (tokens place)))))
    (units_inside region addresses tokens frame places each.1)

-- there are as many units as extents
pub length-units_at : (extents : ℕ → List Extent) (places : List ℕ) → length (units_at extents places) ≡ length (flat_map extents places)
length-units_at extents [] = refl
length-units_at extents (place ∷ places) =
    omega (
      arith,
      length-append (map (unit_at place) (extents place)) (units_at extents places),
      length-map (extents place) (unit_at place),
      length-units_at extents places,
      length-append (extents place) (flat_map extents places),
    )

-- ---- how often a word is in a unit

-- from the bound on, each above the one before it
abbrev pub Climbs : ℕ → List ℕ → Type 0
Climbs low [] = Unit {0}
Climbs low (x ∷ xs) = (low ≤ x) × Climbs (suc x) xs

pub climbs : (low : ℕ) (xs : List ℕ) → IsStrictlyIncreasing xs → (0 < length xs → low ≤ get_or xs 0 0) → Climbs low xs
climbs low [] up from = tt
climbs low (x ∷ xs) up from =
    (from (omega arith), climbs (suc x) xs (increasing_rest x xs up) (λ some. let next = up 0 (omega (arith, some)) in omega (arith, next)))

-- an address below all is none of them
none_lower : (a low : ℕ) (xs : List ℕ) → Climbs low xs → a < low → (count_by (λ x. eqb x a) xs ≡ 0) × (is_among xs a ≡ false)
none_lower a low [] up less = (refl, refl)
none_lower a low (x ∷ xs) up less =
    let more = none_lower a (suc x) xs up.1 (omega (arith, up.0)) in
    let other : eqb x a ≡ false = grind (arith, nat_tests, up.0) in
    let none : 0 + count_by (λ y. eqb y a) xs ≡ 0 = omega (arith, more.0) in (
      count-cons (λ y. eqb y a) x xs ∙ ap (λ (b : Bool). cond b 1 0 + count_by (λ y. eqb y a) xs) other ∙ none,
      ap (λ (b : Bool). b || is_among xs a) other ∙ more.1,
    )

-- each address is there once at most
there_once : (a low : ℕ) (xs : List ℕ) → Climbs low xs → count_by (λ x. eqb x a) xs ≡ cond (is_among xs a) 1 0
there_once a low [] up = refl
there_once a low (x ∷ xs) up = count-cons (λ y. eqb y a) x xs ∙ by (eqb x a) refl (there_once a (suc x) xs up.1) where
  by : (b : Bool) → eqb x a ≡ b → count_by (λ y. eqb y a) xs ≡ cond (is_among xs a) 1 0
      → cond b 1 0 + count_by (λ y. eqb y a) xs ≡ cond (b || is_among xs a) 1 0
  by true is rest = let others = none_lower a (suc x) xs up.1 (grind (arith, nat_tests, is)) in omega (arith, others.0)
  by false is rest = let same : 0 + count_by (λ y. eqb y a) xs ≡ count_by (λ y. eqb y a) xs = omega arith in same ∙ rest

once_if : (a : ℕ) (xs : List ℕ) (b : Bool) → Climbs 0 xs → is_among xs a ≡ b → count_by (λ x. eqb x a) xs ≡ cond b 1 0
once_if a xs b up is = there_once a 0 xs up ∙ ap (λ (c : Bool). cond c 1 0) is

abbrev from_to : ℕ → ℕ → Extent
from_to a b = record { start = a; end = b }

first_or_later : (a b x : ℕ) → a ≤ b → cond (lies_in (from_to a b) x) 1 0 ≡ cond (eqb x a) 1 0 + cond (lies_in (from_to (suc a) b) x) 1 0
first_or_later a b x some = grind (arith, nat_tests)

split_first : (a b : ℕ) (xs : List ℕ) → a ≤ b
    → count_by (lies_in (from_to a b)) xs ≡ count_by (λ x. eqb x a) xs + count_by (lies_in (from_to (suc a) b)) xs
split_first a b [] some = refl
split_first a b (x ∷ xs) some =
    omega (
      arith,
      first_or_later a b x some,
      split_first a b xs some,
      count-cons (lies_in (from_to a b)) x xs,
      count-cons (λ y. eqb y a) x xs,
      count-cons (lies_in (from_to (suc a) b)) x xs,
    )

none_inside : (a b : ℕ) (xs : List ℕ) → b < a → count_by (lies_in (from_to a b)) xs ≡ 0
none_inside a b [] less = refl
none_inside a b (x ∷ xs) less =
    let out : lies_in (from_to a b) x ≡ false = grind (arith, nat_tests) in
    let none : 0 + count_by (lies_in (from_to a b)) xs ≡ 0 = omega (arith, none_inside a b xs less) in
    count-cons (lies_in (from_to a b)) x xs ∙ ap (λ (c : Bool). cond c 1 0 + count_by (lies_in (from_to a b)) xs) out ∙ none

-- addresses that tell where the word is are as many as its places
counted_places : (xs word : List ℕ) (k a b : ℕ) (tokens : List (List ℕ)) → Climbs 0 xs → a + k ≡ b + 1 → k ≤ length tokens
    → ((i : ℕ) → i < length tokens → is_among xs (a + i) ≡ is_token_at tokens word i)
    → count_by (lies_in (from_to a b)) xs ≡ count_by (pointwise nat_eq word) (take k tokens)
counted_places xs word zero a b tokens up ends fits told = none_inside a b xs (omega arith)
counted_places xs word (suc k) a b [] up ends fits told = absurd (omega arith)
counted_places xs word (suc k) a b (token ∷ tokens) up ends fits told =
    let first : a ≡ a + 0 = omega arith in
    let here : is_among xs a ≡ pointwise nat_eq word token =
    ap (is_among xs) first ∙ told 0 (omega arith) ∙ nat_list_eq_equiv.symm token word in
    let rest = counted_places xs word k (suc a) b tokens up (omega arith) (omega arith)
    (λ i within. let same : suc a + i ≡ a + suc i = omega arith in ap (is_among xs) same ∙ told (suc i) (omega arith)) in
    omega (
      arith,
      split_first a b xs (omega arith),
      once_if a xs (pointwise nat_eq word token) up here,
      rest,
      count-cons (pointwise nat_eq word) token (take k tokens),
    )

dropped : (tokens : List (List ℕ)) (word : List ℕ) (s i : ℕ) → is_token_at tokens word (s + i) ≡ is_token_at (drop s tokens) word i
dropped tokens word zero i = let same : 0 + i ≡ i = omega arith in ap (is_token_at tokens word) same
dropped [] word (suc s) i = refl
dropped (token ∷ tokens) word (suc s) i =
    let same : suc s + i ≡ suc (s + i) = omega arith in ap (is_token_at (token ∷ tokens) word) same ∙ dropped tokens word s i

-- the word's addresses in a unit are as many as its places among the file's tokens
abbrev pub AgreesAt : (List ℕ → List ℕ) → (ℕ → List (List ℕ)) → (ℕ → Range) → RankedUnit → Type 0
AgreesAt addresses tokens frame = Agrees count_at (frequency_at tokens) (start_of frame) (list_at addresses)

pub unit_agrees : (addresses : List ℕ → List ℕ) (tokens : ℕ → List (List ℕ)) (frame : ℕ → Range) (unit : RankedUnit)
    → ((term : List ℕ) → IsStrictlyIncreasing (addresses term)) → IsUnitIn addresses tokens frame unit
    → AgreesAt addresses tokens frame unit
unfolding frequency
unit_agrees addresses tokens frame unit up is = λ word.
    let xs = addresses word in
    let ts = tokens unit.place in
    let s = unit.extent.start in
    let start = (frame unit.place).start in
    let ordered : unit.extent.start ≤ unit.extent.end = is.inside.ordered in
    let within : unit.extent.end < length ts = is.inside.within in
    let long = length-drop s ts in
    counted_places xs word (length_of unit.extent) (start + s) (start + unit.extent.end) (drop s ts)
    (climbs 0 xs (up word) (λ some. omega arith)) (omega arith) (omega (arith, long))
    (λ i fits. let same : (start + s) + i ≡ start + (s + i) = omega arith in
    ap (is_among xs) same ∙ is.framed.told word (s + i) (omega (arith, long, fits)) ∙ dropped ts word s i)

all_agree : (addresses : List ℕ → List ℕ) (tokens : ℕ → List (List ℕ)) (frame : ℕ → Range) (units : List RankedUnit)
    → ((term : List ℕ) → IsStrictlyIncreasing (addresses term)) → AllByRecursion (IsUnitIn addresses tokens frame) units
    → AllByRecursion (AgreesAt addresses tokens frame) units
all_agree addresses tokens frame [] up are = tt
all_agree addresses tokens frame (unit ∷ units) up are =
    (unit_agrees addresses tokens frame unit up are.0, all_agree addresses tokens frame units up are.1)

-- ---- in any order

abbrev SameSums : List ℕ → List ℕ → Type 0
SameSums xs ys = (g : ℕ → ℕ) → sum_by g xs ≡ sum_by g ys

-- a list that counts a number has it somewhere
abbrev SplitAt : ℕ → List ℕ → Type 0
SplitAt x ys = (front : List ℕ) × (back : List ℕ) × (ys ≡ front ++ x ∷ back)

split_at : (x : ℕ) (ys : List ℕ) → 1 ≤ count_by (λ y. eqb y x) ys → SplitAt x ys
split_at x [] some = absurd (omega arith)
split_at x (y ∷ ys) some = by (eqb y x) refl (subst (λ (n : ℕ). 1 ≤ n) (count-cons (λ z. eqb z x) y ys) some) (split_at x ys) where
  by : (b : Bool) → eqb y x ≡ b → 1 ≤ cond b 1 0 + count_by (λ z. eqb z x) ys → (1 ≤ count_by (λ z. eqb z x) ys → SplitAt x ys)
      → SplitAt x (y ∷ ys)
  by true is more rest = let same : y ≡ x = grind (arith, nat_tests, is) in ([], ys, ap (λ (z : ℕ). z ∷ ys) same)
  by false is more rest =
      let split = rest (omega (arith, more)) in (y ∷ split.0, split.1, ap (λ (zs : List ℕ). y ∷ zs) split.2)

to_middle : {Y : Type 0} (us front back : List Y) → IsPermutation (us ++ (front ++ back)) (front ++ (us ++ back))
to_middle us front back = subst (λ vs. IsPermutation vs (front ++ (us ++ back))) (append_assoc us front back)
    (subst (IsPermutation ((us ++ front) ++ back)) (append_assoc front us back)
    (IsPermutation-append_left back (us ++ front) (front ++ us) (IsPermutation-append_comm us front)))

permuted : {Y : Type 0} (f : ℕ → List Y) (xs ys : List ℕ) → SameSums xs ys → IsPermutation (flat_map f xs) (flat_map f ys)
permuted f [] [] same = IsPermutation-refl []
permuted f [] (y ∷ ys) same = absurd (omega (arith, same (λ z. 1), sum_by-cons (λ z. 1) y ys))
permuted f (x ∷ xs) ys same =
    let counts : ℕ → ℕ = λ y. cond (eqb y x) 1 0 in
    let itself : counts x ≡ 1 = grind (arith, nat_tests) in
    let cut = split_at x ys (omega (arith, same counts, sum_by-cons counts x xs, itself)) in
    let front = cut.0 in
    let back = cut.1 in
    let rest : SameSums xs (front ++ back) = λ g. omega (
      arith,
      same g,
      sum_by-cons g x xs,
      ap (sum_by g) cut.2,
      sum_by-append g front (x ∷ back),
      sum_by-cons g x back,
      sum_by-append g front back,
    ) in
    let more = subst (IsPermutation (flat_map f xs)) (flat_map-append f front back) (permuted f xs (front ++ back) rest) in
    subst (IsPermutation (f x ++ flat_map f xs)) (sym (ap (flat_map f) cut.2 ∙ flat_map-append f front (x ∷ back)))
    (IsPermutation-trans (f x ++ flat_map f xs) (f x ++ (flat_map f front ++ flat_map f back))
    (flat_map f front ++ (f x ++ flat_map f back))
    (IsPermutation-append_right (f x) (flat_map f xs) (flat_map f front ++ flat_map f back) more)
    (to_middle (f x) (flat_map f front) (flat_map f back)))

-- what is made of numbers in another order comes in another order
pub flat_map-IsPermutation : {Y : Type 0} (f : ℕ → List Y) (xs ys : List ℕ) → IsPermutation xs ys
    → IsPermutation (flat_map f xs) (flat_map f ys)
flat_map-IsPermutation f xs ys same = permuted f xs ys (λ g. sym (sum_by-IsPermutation g xs ys same))

-- ---- the ranking

-- the ranking at addresses, of frames in any order, is that of the files' tokens, at addresses
pub frames_ranked : (region : Region) (addresses : List ℕ → List ℕ) (terms words : List (List ℕ)) (tokens : ℕ → List (List ℕ))
    (frame : ℕ → Range) (places order : List ℕ) → HasTerms region terms → FramesOf addresses tokens frame order → IsPermutation places order
    → listed count_at (units_in_frames region (map (list_at addresses) terms) frame order) (map (list_at addresses) words)
    ≡ map (shifted_ranked (start_of frame)) (listed (frequency_at tokens) (units_in_files region tokens places) words)
frames_ranked region addresses terms words tokens frame places order all framed same =
    let extents : ℕ → List Extent = λ place. token_hits region (tokens place) in
    ap (λ (us : List RankedUnit). listed count_at us (map (list_at addresses) words))
    (units_shifted region addresses terms tokens frame order all framed.each)
    ∙ listed_shifted count_at (frequency_at tokens) (start_of frame) (list_at addresses) (units_at extents order) words
    (all_agree addresses tokens frame (units_at extents order) framed.ascending
    (units_inside region addresses tokens frame order framed.each))
    ∙ ap (map (shifted_ranked (start_of frame)))
    (listed-IsPermutation (frequency_at tokens) (units_at extents places) (units_at extents order) words
    (flat_map-IsPermutation (λ place. map (unit_at place) (extents place)) places order same))

-- and as many of the units could be among the first k
pub frames_weighed : (region : Region) (addresses : List ℕ → List ℕ) (terms words : List (List ℕ)) (tokens : ℕ → List (List ℕ))
    (frame : ℕ → Range) (places order : List ℕ) (k : ℕ) → HasTerms region terms → FramesOf addresses tokens frame order
    → IsPermutation places order
    → length (reaching count_at (units_in_frames region (map (list_at addresses) terms) frame order) (map (list_at addresses) words) k)
    ≡ length (reaching (frequency_at tokens) (units_in_files region tokens places) words k)
frames_weighed region addresses terms words tokens frame places order k all framed same =
    let extents : ℕ → List Extent = λ place. token_hits region (tokens place) in
    ap (λ (us : List RankedUnit). length (reaching count_at us (map (list_at addresses) words) k))
    (units_shifted region addresses terms tokens frame order all framed.each)
    ∙ length-reaching-shifted count_at (frequency_at tokens) (start_of frame) (list_at addresses) (units_at extents order) words k
    (all_agree addresses tokens frame (units_at extents order) framed.ascending
    (units_inside region addresses tokens frame order framed.each))
    ∙ length-reaching-IsPermutation (frequency_at tokens) (units_at extents places) (units_at extents order) words k
    (flat_map-IsPermutation (λ place. map (unit_at place) (extents place)) places order same)

-- ---- back to the files

abbrev ranked_of : ℕ → ℕ → ℕ → ℕ → Ranked
ranked_of points place first last = record { score = points; unit = unit_at place (from_to first last) }

pub shifted_back_one : (start : ℕ → ℕ) (r : Ranked) → relative_to_file start (shifted_ranked start r) ≡ r
shifted_back_one start r =
    let s = start r.unit.place in
    let first : (s + r.unit.extent.start) - s ≡ r.unit.extent.start = omega arith in
    let last : (s + r.unit.extent.end) - s ≡ r.unit.extent.end = omega arith in
    ap₂ (λ (m n : ℕ). ranked_of r.score r.unit.place m n) first last
