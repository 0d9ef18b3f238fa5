-- What is read of a term in one part or two.
use Rattle.std.proofs.Common.{◌≡◌, ℕ, ◌+◌, ◌<◌, ◌≤◌, Bool, true, false, List, [], ◌∷◌, ◌++◌, map, refl, ap, ap₂, sym, ◌∙◌, subst, arith}
use Rattle.std.proofs.Common.{append-nil, inl, inr}
use Rattle.std.specs.Prelude.{Option, None, Some}
use Rattle.std.specs.List.{AllByRecursion}
use Rattle.std.proofs.lemmas.List.{map-append}
use Rattle.std.proofs.lemmas.List.Elements.{filter-append}
use Rattle.wu_base.specs.declared.addresses.Range.{Range}
use Rattle.wu_base.specs.declared.limits.TheConstants.{ADDRESSES_MAX}
use Rattle.wu_base.specs.declared.troubles.Trouble.{Trouble}
use Rattle.wu_outside.specs.Content.{Content}
use Rattle.wu_outside.specs.declared.ranges.ReadRange.{ReadRange}
use Rattle.wu_base.proofs.Members.{Has}
use Rattle.wu_base.proofs.EachLemmas.{each-append}
use Rattle.wu_layout.specs.Ascending.{AscendBetween}
use Rattle.wu_layout.proofs.Ascending.{ascend-bounds, ascend-higher, ascend-join, ascend-lower}
use Rattle.wu_layout.specs.Invariants.{SomeOf}
use Rattle.wu_layout.specs.Postings.{is_live}
use Rattle.wu_job.specs.declared.live.Cut.{Cut}
use Rattle.wu_job.specs.declared.sources.Source.{Source}
use Rattle.wu_job.specs.Jobs.{JobPart, JobState, AreKept, StandWithin, highest, lowest}
use Rattle.wu_job.specs.Keeping.{AreMarks, IsNewCut, addresses_in, has}
use Rattle.wu_job.specs.Live.{live_below}
use Rattle.wu_job.specs.Reading.{IsCutOf, IsNew}
use Rattle.wu_job.specs.Sources.{AreSources, part_of, parts_of}
use Rattle.wu_job.specs.Steps.{HasWholeRange, HasWholeRanges, ReadsFront, adds, ranges_of, step_ranges}
use Rattle.wu_job.proofs.Fronts.{adds-more, front_first, front_then}
use Rattle.wu_job.proofs.Marking.{unmarked_new}

-- ---- addresses

stand_within : (parts : List JobPart) (low high : ℕ) (xs : List ℕ) → lowest parts ≤ low → high ≤ highest parts
    → AscendBetween low (high + 1) xs → StandWithin parts xs
stand_within parts low high [] l h a = tt
stand_within parts low high (x ∷ xs) l h a =
    let up = ascend-bounds (x + 1) (high + 1) xs a.1 in
    ((omega (arith, l, a.0), omega (arith, h, up)), stand_within parts (x + 1) high xs (omega (arith, l, a.0)) h a.1)

pub lowest_left : (left : Source) (right : Option Source) → lowest (parts_of left right) ≡ left.directory.low
lowest_left left None = refl
lowest_left left (Some right) = refl

pub highest_alone : (left : Source) (right : Option Source) → right ≡ None → highest (parts_of left right) ≡ left.directory.high
highest_alone left right e = ap (λ (o : Option Source). highest (parts_of left o)) e

pub highest_with : (left : Source) (right : Option Source) (other : Source) → right ≡ Some other
    → highest (parts_of left right) ≡ other.directory.high
highest_with left right other e = ap (λ (o : Option Source). highest (parts_of left o)) e

pub new_one : (job : JobState) (marks : List Bool) (low high : ℕ) (cut : Cut) → AreMarks job.live marks job.done → high < ADDRESSES_MAX
    → lowest job.parts ≤ low → high ≤ highest job.parts → IsNew job.live marks low high cut → IsNewCut job cut
new_one job marks low high cut m l least most n = record {
  within = stand_within job.parts low high cut.addresses.items least most n.ascend;
  ascend =
      ascend-lower 0 low ADDRESSES_MAX cut.addresses.items (omega arith)
      (ascend-higher low (high + 1) ADDRESSES_MAX cut.addresses.items (omega arith) n.ascend);
  live = n.alive;
  places = n.places;
  new = unmarked_new job.live marks job.done cut.addresses.items m n.alive n.unmarked;
}

pub new_both : (job : JobState) (marks : List Bool) (low high other top : ℕ) (cut more both : Cut) → AreMarks job.live marks job.done
    → high < other → top < ADDRESSES_MAX → lowest job.parts ≤ low → top ≤ highest job.parts → IsNew job.live marks low high cut
    → IsNew job.live marks other top more → both.addresses.items ≡ cut.addresses.items ++ more.addresses.items → both.places.items ≡ cut.places.items ++ more.places.items
    → IsNewCut job both
new_both job marks low high other top cut more both m l t least most a b e f =
    let low_high = ascend-bounds low (high + 1) cut.addresses.items a.ascend in
    let other_top = ascend-bounds other (top + 1) more.addresses.items b.ascend in
    let P = λ (address : ℕ). is_live job.live address ≡ true in
    let live : AllByRecursion P (cut.addresses.items ++ more.addresses.items) =
    each-append P cut.addresses.items more.addresses.items a.alive b.alive in
    let first = ascend-higher low (high + 1) other cut.addresses.items (omega arith) a.ascend in
    let second = ascend-higher other (top + 1) ADDRESSES_MAX more.addresses.items (omega arith) b.ascend in
    let N = λ (address : ℕ). has (addresses_in job.done) address ≡ false in
    record {
      ascend =
          subst (AscendBetween 0 ADDRESSES_MAX) (sym e)
          (ascend-join 0 other ADDRESSES_MAX cut.addresses.items more.addresses.items
          (ascend-lower 0 low other cut.addresses.items (omega arith) first) second);
      within =
          subst (StandWithin job.parts) (sym e)
          (each-append (λ address. (lowest job.parts ≤ address) × (address ≤ highest job.parts)) cut.addresses.items more.addresses.items
          (stand_within job.parts low high cut.addresses.items least (omega arith) a.ascend)
          (stand_within job.parts other top more.addresses.items (omega arith) most b.ascend));
      live = subst (AllByRecursion P) (sym e) live;
      places =
          f ∙ ap₂ ◌++◌ a.places b.places
          ∙ sym (map-append (live_below job.live) cut.addresses.items more.addresses.items)
          ∙ ap (map (live_below job.live)) (sym e);
      new =
          subst (AllByRecursion N) (sym e)
          (each-append N cut.addresses.items more.addresses.items
          (unmarked_new job.live marks job.done cut.addresses.items m a.alive a.unmarked)
          (unmarked_new job.live marks job.done more.addresses.items m b.alive b.unmarked));
    }

pub kept_one : (content : Content) (live : List Range) (term : List ℕ) (left : Source) (kept : List ℕ)
    → IsCutOf content live term (part_of left) kept → AreKept content (parts_of left None) live term kept
kept_one content live term left kept c =
    (c.0, (c.0, [], c.1, refl, sym (append-nil c.0)), c.2)

pub kept_both : (content : Content) (live : List Range) (term : List ℕ) (left right : Source) (kept more both : List ℕ)
    → IsCutOf content live term (part_of left) kept → IsCutOf content live term (part_of right) more → both ≡ kept ++ more
    → AreKept content (parts_of left (Some right)) live term both
kept_both content live term left right kept more both c d e = (
  c.0 ++ d.0,
  (c.0, d.0, c.1, (d.0, [], d.1, refl, sym (append-nil d.0)), refl),
  e ∙ ap₂ ◌++◌ c.2 d.2 ∙ sym (filter-append (is_live live) c.0 d.0),
)

-- ---- ranges

ranges_one : (terms : List (List ℕ)) (term : List ℕ) (later : List (List ℕ)) (left : Source) → terms ≡ term ∷ later
    → step_ranges terms (parts_of left None) ≡ ranges_of term (part_of left)
ranges_one terms term later left e =
    ap (λ ts. step_ranges ts (parts_of left None)) e ∙ append-nil (ranges_of term (part_of left))

ranges_both : (terms : List (List ℕ)) (term : List ℕ) (later : List (List ℕ)) (left right : Source) → terms ≡ term ∷ later
    → step_ranges terms (parts_of left (Some right)) ≡ ranges_of term (part_of left) ++ ranges_of term (part_of right)
ranges_both terms term later left right e =
    ap (λ ts. step_ranges ts (parts_of left (Some right))) e
    ∙ ap (λ (rs : List ReadRange). ranges_of term (part_of left) ++ rs) (append-nil (ranges_of term (part_of right)))

pub reads_one : (terms : List (List ℕ)) (term : List ℕ) (later : List (List ℕ)) (left : Source) (old new : Option (List ReadRange))
    → terms ≡ term ∷ later → new ≡ adds (ranges_of term (part_of left)) old → new ≡ adds (step_ranges terms (parts_of left None)) old
reads_one terms term later left old new e r = r ∙ ap (λ (rs : List ReadRange). adds rs old) (sym (ranges_one terms term later left e))

pub reads_both : (terms : List (List ℕ)) (term : List ℕ) (later : List (List ℕ)) (left right : Source) (old mid new : Option (List ReadRange))
    → terms ≡ term ∷ later → mid ≡ adds (ranges_of term (part_of left)) old → new ≡ adds (ranges_of term (part_of right)) mid
    → new ≡ adds (step_ranges terms (parts_of left (Some right))) old
reads_both terms term later left right old mid new e r s =
    s ∙ ap (adds (ranges_of term (part_of right))) r
    ∙ adds-more (ranges_of term (part_of left)) (ranges_of term (part_of right)) old
    ∙ ap (λ (rs : List ReadRange). adds rs old) (sym (ranges_both terms term later left right e))

pub whole_one : (content : Content) (terms : List (List ℕ)) (term : List ℕ) (later : List (List ℕ)) (left : Source) → terms ≡ term ∷ later
    → HasWholeRanges content (ranges_of term (part_of left)) → HasWholeRanges content (step_ranges terms (parts_of left None))
whole_one content terms term later left e w = subst (HasWholeRanges content) (sym (ranges_one terms term later left e)) w

pub whole_both : (content : Content) (terms : List (List ℕ)) (term : List ℕ) (later : List (List ℕ)) (left right : Source)
    → terms ≡ term ∷ later → HasWholeRanges content (ranges_of term (part_of left))
    → HasWholeRanges content (ranges_of term (part_of right))
    → HasWholeRanges content (step_ranges terms (parts_of left (Some right)))
whole_both content terms term later left right e w v =
    subst (HasWholeRanges content) (sym (ranges_both terms term later left right e))
    (each-append (λ range. HasWholeRange (content.blobs range.blob) range) (ranges_of term (part_of left))
    (ranges_of term (part_of right)) w v)

-- a trouble in the first part
pub front_of_left : (terms : List (List ℕ)) (term : List ℕ) (later : List (List ℕ)) (left : Source) (right : Option Source)
    (old new : Option (List ReadRange)) (t : Trouble) → terms ≡ term ∷ later → ReadsFront (ranges_of term (part_of left)) old new t
    → ReadsFront (step_ranges terms (parts_of left right)) old new t
front_of_left terms term later left None old new t e f =
    subst (λ rs. ReadsFront rs old new t) (sym (ranges_one terms term later left e)) f
front_of_left terms term later left (Some right) old new t e f =
    subst (λ rs. ReadsFront rs old new t) (sym (ranges_both terms term later left right e))
    (front_first (ranges_of term (part_of left)) (ranges_of term (part_of right)) old new t f)

pub front_of_right : (terms : List (List ℕ)) (term : List ℕ) (later : List (List ℕ)) (left right : Source)
    (old mid new : Option (List ReadRange)) (t : Trouble) → terms ≡ term ∷ later → mid ≡ adds (ranges_of term (part_of left)) old
    → ReadsFront (ranges_of term (part_of right)) mid new t
    → ReadsFront (step_ranges terms (parts_of left (Some right))) old new t
front_of_right terms term later left right old mid new t e r f =
    subst (λ rs. ReadsFront rs old new t) (sym (ranges_both terms term later left right e))
    (front_then (ranges_of term (part_of left)) (ranges_of term (part_of right)) old mid new t r f)

-- ---- where it is known whether there is a right part

module _ (left : Source) (right : Option Source) where
  pub kept_alone : (content : Content) (live : List Range) (term kept : List ℕ) → right ≡ None
      → IsCutOf content live term (part_of left) kept → AreKept content (parts_of left right) live term kept
  kept_alone content live term kept e c =
      subst (λ r. AreKept content (parts_of left r) live term kept) (sym e) (kept_one content live term left kept c)

  pub kept_with : (content : Content) (live : List Range) (term : List ℕ) (other : Source) (kept more both : List ℕ) → right ≡ Some other
      → IsCutOf content live term (part_of left) kept → IsCutOf content live term (part_of other) more → both ≡ kept ++ more
      → AreKept content (parts_of left right) live term both
  kept_with content live term other kept more both e c d f =
      subst (λ r. AreKept content (parts_of left r) live term both) (sym e) (kept_both content live term left other kept more both c d f)

  pub reads_alone : (terms : List (List ℕ)) (term : List ℕ) (later : List (List ℕ)) (old new : Option (List ReadRange)) → right ≡ None
      → terms ≡ term ∷ later → new ≡ adds (ranges_of term (part_of left)) old → new ≡ adds (step_ranges terms (parts_of left right)) old
  reads_alone terms term later old new n e r =
      subst (λ o. new ≡ adds (step_ranges terms (parts_of left o)) old) (sym n) (reads_one terms term later left old new e r)

  pub reads_with : (terms : List (List ℕ)) (term : List ℕ) (later : List (List ℕ)) (other : Source) (old mid new : Option (List ReadRange))
      → right ≡ Some other → terms ≡ term ∷ later → mid ≡ adds (ranges_of term (part_of left)) old
      → new ≡ adds (ranges_of term (part_of other)) mid → new ≡ adds (step_ranges terms (parts_of left right)) old
  reads_with terms term later other old mid new n e r s =
      subst (λ o. new ≡ adds (step_ranges terms (parts_of left o)) old) (sym n) (reads_both terms term later left other old mid new e r s)

  pub whole_alone : (content : Content) (terms : List (List ℕ)) (term : List ℕ) (later : List (List ℕ)) → right ≡ None
      → terms ≡ term ∷ later → HasWholeRanges content (ranges_of term (part_of left))
      → HasWholeRanges content (step_ranges terms (parts_of left right))
  whole_alone content terms term later n e w =
      subst (λ o. HasWholeRanges content (step_ranges terms (parts_of left o))) (sym n) (whole_one content terms term later left e w)

  pub whole_with : (content : Content) (terms : List (List ℕ)) (term : List ℕ) (later : List (List ℕ)) (other : Source) → right ≡ Some other
      → terms ≡ term ∷ later → HasWholeRanges content (ranges_of term (part_of left))
      → HasWholeRanges content (ranges_of term (part_of other)) → HasWholeRanges content (step_ranges terms (parts_of left right))
  whole_with content terms term later other n e w v =
      subst (λ o. HasWholeRanges content (step_ranges terms (parts_of left o))) (sym n)
      (whole_both content terms term later left other e w v)

  pub front_with : (terms : List (List ℕ)) (term : List ℕ) (later : List (List ℕ)) (other : Source)
      (old mid new : Option (List ReadRange)) (t : Trouble) → right ≡ Some other → terms ≡ term ∷ later
      → mid ≡ adds (ranges_of term (part_of left)) old → ReadsFront (ranges_of term (part_of other)) mid new t
      → ReadsFront (step_ranges terms (parts_of left right)) old new t
  front_with terms term later other old mid new t n e r f =
      subst (λ o. ReadsFront (step_ranges terms (parts_of left o)) old new t) (sym n)
      (front_of_right terms term later left other old mid new t e r f)

  pub spans_apart : (other : Source) → right ≡ Some other → AreSources left right → left.directory.high < other.directory.low
  spans_apart other n s = both (subst (AreSources left) n s)
    where
      both : AreSources left (Some other) → left.directory.high < other.directory.low
      both t = t.2

  pub has_with : (other : Source) → right ≡ Some other → Has (part_of other) (parts_of left right)
  has_with other n = subst (λ o. Has (part_of other) (parts_of left o)) (sym n) (inr (inl refl))

  pub some_with : (P : JobPart → Type 0) (other : Source) → right ≡ Some other → P (part_of other) → SomeOf P (parts_of left right)
  some_with P other n p = subst (λ o. SomeOf P (parts_of left o)) (sym n) (inr (inl p))
