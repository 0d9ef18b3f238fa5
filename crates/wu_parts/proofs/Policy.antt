-- The job that the policy names by records and live ranges is the one that it names in the layout.
use Rattle.std.proofs.Common.{◌≡◌, ℕ, suc, ◌+◌, ◌*◌, ◌<◌, ◌==◌, not, nat_le, nat_lt, Bool, cond, List, [], ◌∷◌, ◌++◌, length, map, drop}
use Rattle.std.proofs.Common.{Option, Some, None, option_map, position, zip, refl, ap, ap₂, sym, ◌∙◌, subst, append_assoc}
use Rattle.std.specs.Option.{option_or}
use Rattle.std.specs.List.{AllByRecursion, AllZip, position_or_len}
use Rattle.wu_base.specs.declared.addresses.PartRec.{PartRec}
use Rattle.wu_outside.specs.Content.{Content}
use Rattle.wu_layout.specs.Layouts.{Part, Layout, Text, first_address, ranges_by_number, ranges_of, stored_in}
use Rattle.wu_layout.specs.Postings.{Ascend, live_of}
use Rattle.wu_layout.specs.Invariants.{IsLayoutOf}
use Rattle.wu_layout.specs.Steps.{alike_neighbours, is_half_dead as half_dead_in, job_at, pick}
use Rattle.wu_layout.proofs.HomeLemmas.{postings_split}
use Rattle.wu_layout.proofs.LiveCounts.{IsSpan, half_dead_by_numbers, live_in_part, span_of}
use Rattle.wu_layout.proofs.PostingLemmas.{Ascend-split}
use Rattle.wu_part.specs.Directories.{PartDirectory}
use Rattle.wu_space.specs.Addresses.{Ranges, live_in}
use Rattle.wu_parts.specs.Holdings.{HoldParts}
use Rattle.wu_parts.specs.Units.{as_parts, count_of, is_half_dead, next_job, place_of}
use Rattle.wu_parts.specs.declared.working.NextJob.{NextJob}
use Rattle.wu_parts.specs.declared.working.NextJob.TheVariants.{Merge, Collect}
use Rattle.wu_parts.proofs.HeldParts.{hold-generations}

-- ---- the first that passes, of lists side by side

module _ {X Y : Type 0} (test : X → Bool) (other : Y → Bool) where
  found_alike : (xs : List X) (ys : List Y) → AllZip (λ x y. test x ≡ other y) xs ys → position_or_len test xs ≡ position_or_len other ys
  found_alike [] [] h = refl
  found_alike [] (y ∷ ys) h = absurd h
  found_alike (x ∷ xs) [] h = absurd h
  found_alike (x ∷ xs) (y ∷ ys) h = ap₂ (λ (b : Bool) (n : ℕ). cond (not b) (1 + n) 0) h.0 (found_alike xs ys h.1)

  long_alike : (xs : List X) (ys : List Y) → AllZip (λ x y. test x ≡ other y) xs ys → length xs ≡ length ys
  long_alike [] [] h = refl
  long_alike [] (y ∷ ys) h = absurd h
  long_alike (x ∷ xs) [] h = absurd h
  long_alike (x ∷ xs) (y ∷ ys) h = ap (λ (n : ℕ). suc n) (long_alike xs ys h.1)

  position_alike : (xs : List X) (ys : List Y) → AllZip (λ x y. test x ≡ other y) xs ys → position test xs ≡ position other ys
  position_alike xs ys h =
      ap₂ (λ (n m : ℕ). cond (nat_lt n m) (Some n) None) (found_alike xs ys h) (long_alike xs ys h)

-- ---- neighbours

abbrev SameGeneration : Part → Part → Type 0
SameGeneration a b = a.generation ≡ b.generation

pairs_alike : (ls bs cs ds : List Part) → AllZip SameGeneration ls bs → AllZip SameGeneration cs ds
    → AllZip (λ p q. (p.0.generation == p.1.generation) ≡ (q.0.generation == q.1.generation)) (zip ls cs) (zip bs ds)
pairs_alike [] [] cs ds g h = tt
pairs_alike [] (b ∷ bs) cs ds g h = absurd g
pairs_alike (a ∷ ls) [] cs ds g h = absurd g
pairs_alike (a ∷ ls) (b ∷ bs) [] [] g h = tt
pairs_alike (a ∷ ls) (b ∷ bs) [] (d ∷ ds) g h = absurd h
pairs_alike (a ∷ ls) (b ∷ bs) (c ∷ cs) [] g h = absurd h
pairs_alike (a ∷ ls) (b ∷ bs) (c ∷ cs) (d ∷ ds) g h = (ap₂ (λ (n m : ℕ). n == m) g.0 h.0, pairs_alike ls bs cs ds g.1 h.1)

later_alike : (ls bs : List Part) → AllZip SameGeneration ls bs → AllZip SameGeneration (drop 1 ls) (drop 1 bs)
later_alike [] [] g = tt
later_alike [] (b ∷ bs) g = absurd g
later_alike (a ∷ ls) [] g = absurd g
later_alike (a ∷ ls) (b ∷ bs) g = g.1

pub neighbours_alike : (ls bs : List Part) → AllZip SameGeneration ls bs → alike_neighbours ls ≡ alike_neighbours bs
neighbours_alike ls bs g =
    position_alike (λ pair. pair.0.generation == pair.1.generation) (λ pair. pair.0.generation == pair.1.generation)
    (zip ls (drop 1 ls)) (zip bs (drop 1 bs)) (pairs_alike ls bs (drop 1 ls) (drop 1 bs) g (later_alike ls bs g))

-- ---- half dead parts

module _ (is_file : ℕ → Bool) (text_of : ℕ → Text) (layout : Layout) (content : Content) (d : IsLayoutOf is_file text_of layout) where
  abbrev ranges : Ranges
  ranges = ranges_by_number layout.files

  dead_alike : (before parts : List Part) (records : List PartRec) (directories : List PartDirectory) (low high : ℕ)
      → layout.parts ≡ before ++ parts → AllByRecursion (λ part. 0 < length part.postings) parts → Ascend low high (stored_in parts)
      → HoldParts content records directories parts
      → AllZip (λ recorded part. is_half_dead ranges recorded ≡ half_dead_in (ranges_of layout.files) part) records parts
  dead_alike before [] [] [] low high e f a h = tt
  dead_alike before (part ∷ parts) [] [] low high e f a h = absurd h
  dead_alike before parts [] (x ∷ directories) low high e f a h = absurd h
  dead_alike before parts (r ∷ records) [] low high e f a h = absurd h
  dead_alike before [] (r ∷ records) (x ∷ directories) low high e f a h = absurd h
  dead_alike before (part ∷ parts) (r ∷ records) (x ∷ directories) low high e f a h =
      let split = Ascend-split low high part.postings (stored_in parts) a in
      let span : IsSpan r.low r.high part.postings =
      subst (λ n. IsSpan n r.high part.postings) (sym h.0.record_of.low)
      (subst (λ n. IsSpan (first_address part.postings) n part.postings) (sym h.0.record_of.high)
      (span_of low split.0 part.postings split.1.0 f.0)) in
      let live : live_in ranges r.low r.high ≡ length (live_of (ranges_of layout.files) part.postings) =
      live_in_part is_file text_of layout r.low r.high d before part parts e span in (
        ap₂ (λ (n m : ℕ). nat_le (2 * n) m) live h.0.record_of.stored ∙ sym (half_dead_by_numbers (ranges_of layout.files) part),
        dead_alike (before ++ part ∷ []) parts records directories split.0 high
            (e ∙ sym (append_assoc before (part ∷ []) parts)) f.1 split.1.1 h.1,
      )

  module _ (records : List PartRec) (directories : List PartDirectory) (h : HoldParts content records directories layout.parts) where
    stored_ascend : Ascend 0 layout.next (stored_in layout.parts ++ layout.memory)
    stored_ascend = subst (λ ps. Ascend 0 layout.next ps) (postings_split layout.parts layout.memory) d.addresses.ascend

    half_dead_is : position (is_half_dead ranges) records ≡ position (half_dead_in (ranges_of layout.files)) layout.parts
    half_dead_is =
        let split = Ascend-split 0 layout.next (stored_in layout.parts) layout.memory stored_ascend in
        position_alike (is_half_dead ranges) (half_dead_in (ranges_of layout.files)) records layout.parts
        (dead_alike [] layout.parts records directories 0 split.0 refl d.addresses.filled split.1.0 h)

    -- the job that the policy names
    pub picked_is : pick layout ≡ option_map (λ next. job_at layout (count_of next) (place_of next)) (next_job ranges records)
    picked_is =
        let same : alike_neighbours (as_parts records) ≡ alike_neighbours layout.parts =
        neighbours_alike (as_parts records) layout.parts (hold-generations content records directories layout.parts h) in
        ap₂ (λ (o p : Option ℕ). option_or (option_map (job_at layout 2) o) (option_map (job_at layout 1) p)) (sym same) (sym half_dead_is)
        ∙ named (alike_neighbours (as_parts records)) (position (is_half_dead ranges) records)
      where
        named : (o p : Option ℕ) → option_or (option_map (job_at layout 2) o) (option_map (job_at layout 1) p)
            ≡ option_map (λ (next : NextJob). job_at layout (count_of next) (place_of next))
            (option_or (option_map (λ place. Merge place) o) (option_map (λ place. Collect place) p))
        named None None = refl
        named None (Some p) = refl
        named (Some o) p = refl

pub position-map : {X Y : Type 0} (f : X → Y) (test : Y → Bool) (xs : List X) → position (λ x. test (f x)) xs ≡ position test (map f xs)
position-map {X} {Y} f test xs = position_alike (λ x. test (f x)) test xs (map f xs) (same xs)
  where
    same : (xs : List X) → AllZip (λ x y. test (f x) ≡ test y) xs (map f xs)
    same [] = tt
    same (x ∷ xs) = (refl, same xs)
