-- How many extents frames have, and in how many of them there are any.
use Rattle.std.proofs.Common.{◌≡◌, ℕ, zero, suc, ◌+◌, ◌≤◌, ◌<◌, Bool, true, false, cond, List, [], ◌∷◌, ◌++◌, length, take, drop, get_or}
use Rattle.std.proofs.Common.{refl, sym, ap, ◌∙◌, subst, inl, inr, arith, append-nil, length-append, lt-ltb, le-ltb}
use Rattle.std.specs.Prelude.{count_by, nat_lt}
use Rattle.std.specs.List.{AllByRecursion}
use Rattle.std.proofs.lemmas.Bool.Decides.{nat_tests}
use Rattle.std.proofs.lemmas.Grind.{flat_map-append}
use Rattle.std.proofs.lemmas.List.{take_more, drop_more}
use Rattle.std.proofs.lemmas.List.Sums.{sum_by-append}
use Rattle.wu_base.specs.declared.addresses.Extent.{Extent}
use Rattle.wu_base.specs.declared.addresses.Range.{Range}
use Rattle.wu_base.specs.declared.addresses.TermList.{TermList}
use Rattle.wu_gcl.specs.Regions.{Region}
use Rattle.wu_solve.specs.FirstExtents.{skipped, from_start}
use Rattle.wu_solve.specs.Listing.{Has}
use Rattle.wu_solve.specs.Solving.{frame_hits, frames_hits}
use Rattle.wu_base.specs.Ranges.{AreApart}
use Rattle.wu_solve.proofs.Results.{extent_lies, lies_behind}

-- the frame has an extent
abbrev pub has_hits : Region → List TermList → Range → Bool
has_hits region lists frame = nat_lt 0 (length (frame_hits region lists frame))

module _ (region : Region) (lists : List TermList) where
  pub hits_of_parts : (one other : List Range)
      → length (frames_hits region lists (one ++ other)) ≡ length (frames_hits region lists one) + length (frames_hits region lists other)
  hits_of_parts one other = ap length (flat_map-append (frame_hits region lists) one other)
      ∙ length-append (frames_hits region lists one) (frames_hits region lists other)

  pub files_of_parts : (one other : List Range)
      → count_by (has_hits region lists) (one ++ other) ≡ count_by (has_hits region lists) one + count_by (has_hits region lists) other
  files_of_parts one other = sum_by-append (λ f. cond (has_hits region lists f) 1 0) one other

  pub hits_taken : (frames : List Range) (n : ℕ)
      → length (frames_hits region lists (take n frames)) ≤ length (frames_hits region lists frames)
  hits_taken [] zero = omega arith
  hits_taken [] (suc n) = omega arith
  hits_taken (frame ∷ frames) zero = omega arith
  hits_taken (frame ∷ frames) (suc n) =
      omega (
        arith,
        hits_taken frames n,
        length-append (frame_hits region lists frame)
            (frames_hits region lists (take n frames)),
        length-append (frame_hits region lists frame) (frames_hits region lists frames),
      )

  pub hits_of_one : (frame : Range) → length (frames_hits region lists (frame ∷ [])) ≡ length (frame_hits region lists frame)
  hits_of_one frame = ap length (append-nil (frame_hits region lists frame))

none_taken : (n : ℕ) (frames : List Range) → length frames ≡ 0 → take n frames ≡ []
none_taken zero frames none = refl
none_taken (suc n) [] none = refl
none_taken (suc n) (f ∷ frames) none = absurd (omega arith)

-- so many frames behind those so far
pub taken_on : (n m : ℕ) (frames : List Range) → take (n + m) frames ≡ take n frames ++ take m (drop n frames)
taken_on zero m frames = ap (λ (i : ℕ). take i frames) (zero_add m)
  where
    zero_add : (m : ℕ) → 0 + m ≡ m
    zero_add m = omega arith
taken_on (suc n) m [] = none_taken (suc n + m) [] refl ∙ sym (none_taken m [] refl)
taken_on (suc n) m (f ∷ frames) =
    let more : suc n + m ≡ suc (n + m) = omega arith in
    ap (λ (i : ℕ). take i (f ∷ frames)) more ∙ ap (λ (fs : List Range). f ∷ fs) (taken_on n m frames)

module _ (region : Region) (lists : List TermList) (frames : List Range) (from some m : ℕ) (same : m ≡ some) where
  part_taken : take (from + some) frames ≡ take from frames ++ take m (drop from frames)
  part_taken = taken_on from some frames ∙ ap (λ (i : ℕ). take from frames ++ take i (drop from frames)) (sym same)

  pub joined_part : frames_hits region lists (take (from + some) frames)
      ≡ frames_hits region lists (take from frames) ++ frames_hits region lists (take m (drop from frames))
  joined_part = ap (λ (fs : List Range). frames_hits region lists fs) part_taken
      ∙ flat_map-append (frame_hits region lists) (take from frames) (take m (drop from frames))

  -- one part more
  pub hits_of_part : length (frames_hits region lists (take (from + some) frames))
      ≡ length (frames_hits region lists (take from frames)) + length (frames_hits region lists (take m (drop from frames)))
  hits_of_part = ap (λ (fs : List Range). length (frames_hits region lists fs)) part_taken
      ∙ hits_of_parts region lists (take from frames) (take m (drop from frames))

  pub files_of_part : count_by (has_hits region lists) (take (from + some) frames)
      ≡ count_by (has_hits region lists) (take from frames) + count_by (has_hits region lists) (take m (drop from frames))
  files_of_part = ap (count_by (has_hits region lists)) part_taken
      ∙ files_of_parts region lists (take from frames) (take m (drop from frames))

-- one frame more
pub hits_more : (region : Region) (lists : List TermList) (frames : List Range) (i : ℕ) (d : Range) → i < length frames
    → length (frames_hits region lists (take (i + 1) frames))
    ≡ length (frames_hits region lists (take i frames)) + length (frames_hits region lists (get_or frames i d ∷ []))
hits_more region lists frames i d within =
    ap (λ (fs : List Range). length (frames_hits region lists fs)) (take_more frames i d within)
    ∙ hits_of_parts region lists (take i frames) (get_or frames i d ∷ [])

pub counted_left : (behind rest : ℕ) → behind ≤ rest → cond (nat_lt behind rest) 1 0 + behind ≤ rest
counted_left behind rest fewer = grind (arith, nat_tests)

-- ---- passing a frame's extents

pub no_more_left : (test : Extent → Bool) (xs : List Extent) → length (skipped test xs) ≤ length xs
no_more_left test [] = omega arith
no_more_left test (x ∷ xs) = by_test (test x) (no_more_left test xs)
  where
    by_test : (b : Bool) → length (skipped test xs) ≤ length xs → length (cond b (skipped test xs) (x ∷ xs)) ≤ length (x ∷ xs)
    by_test true less = omega arith
    by_test false less = omega arith

skipped_all : (test : Extent → Bool) (xs ys : List Extent) → ((x : Extent) → Has xs x → test x ≡ true)
    → skipped test (xs ++ ys) ≡ skipped test ys
skipped_all test [] ys passes = refl
skipped_all test (x ∷ xs) ys passes = rw (passes x (inl refl)) (skipped_all test xs ys (λ z has. passes z (inr has)))

skipped_none : (test : Extent → Bool) (ys : List Extent) → ((y : Extent) → Has ys y → test y ≡ false) → skipped test ys ≡ ys
skipped_none test [] fails = refl
skipped_none test (y ∷ ys) fails = rw (fails y (inl refl)) refl

behind_frame : (region : Region) (lists : List TermList) (f : Range) (frames : List Range)
    → AllByRecursion (λ next. f.start + f.len ≤ next.start) frames
    → from_start (f.start + f.len) (frame_hits region lists f ++ frames_hits region lists frames) ≡ frames_hits region lists frames
behind_frame region lists f frames behind =
    skipped_all (λ y. nat_lt y.start (f.start + f.len)) (frame_hits region lists f) (frames_hits region lists frames)
    (λ x has. let l = extent_lies region lists f x has in lt-ltb x.start (f.start + f.len) (omega (arith, l.ordered, l.high)))
    ∙ skipped_none (λ y. nat_lt y.start (f.start + f.len)) (frames_hits region lists frames)
    (λ y has. let l = lies_behind region lists frames (f.start + f.len) y behind has in le-ltb y.start (f.start + f.len) l.0)

apart_there : (frames : List Range) (i : ℕ) (d : Range) → AreApart frames → i < length frames
    → AllByRecursion (λ next. (get_or frames i d).start + (get_or frames i d).len ≤ next.start) (drop (i + 1) frames)
apart_there [] i d apart within = absurd (omega arith)
apart_there (f ∷ frames) zero d apart within = apart.0
apart_there (f ∷ frames) (suc i) d apart within =
    let next : suc (i + 1) ≡ suc i + 1 = omega arith in
    subst (λ (n : ℕ). AllByRecursion (λ next. (get_or frames i d).start + (get_or frames i d).len ≤ next.start) (drop n (f ∷ frames))) next
    (apart_there frames i d apart.1 (omega arith))

module _ (region : Region) (lists : List TermList) (frames : List Range) (i : ℕ) (d : Range) (apart : AreApart frames)
    (within : i < length frames) (rest : List Extent) (is : rest ≡ frames_hits region lists (drop i frames)) where
  left_is : rest ≡ frame_hits region lists (get_or frames i d) ++ frames_hits region lists (drop (i + 1) frames)
  left_is = is ∙ ap (λ (fs : List Range). frames_hits region lists fs) (drop_more frames i d within)

  pub passed_frame : from_start ((get_or frames i d).start + (get_or frames i d).len) rest ≡ frames_hits region lists (drop (i + 1) frames)
  passed_frame =
      ap (from_start ((get_or frames i d).start + (get_or frames i d).len)) left_is
      ∙ behind_frame region lists (get_or frames i d) (drop (i + 1) frames) (apart_there frames i d apart within)

  -- the frame has extents where fewer are left behind it
  pub fewer_behind : (behind : List Extent) → behind ≡ from_start ((get_or frames i d).start + (get_or frames i d).len) rest
      → nat_lt (length behind) (length rest) ≡ has_hits region lists (get_or frames i d)
  fewer_behind behind same =
      let long = ap length left_is in
      let both = length-append (frame_hits region lists (get_or frames i d)) (frames_hits region lists (drop (i + 1) frames)) in
      let short = ap length (same ∙ passed_frame) in
      grind (arith, nat_tests, long, both, short)
