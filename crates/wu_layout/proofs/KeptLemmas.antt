-- Postings of which some are dropped, but none of a live range: what a flush does to memory, and a job to its parts.
use Rattle.std.proofs.Common.{◌≡◌, ◌⊎◌, ℕ, ◌+◌, ◌≤◌, true, false, cond, List, [], ◌∷◌, ◌++◌, length, Some, IfSome, refl, ap, sym, ◌∙◌}
use Rattle.std.proofs.Common.{arith, ⊎_elim, inl, inr, length-append, append-nil}
use Rattle.std.specs.Ordering.{nat_cmp}
use Rattle.std.specs.List.{flat_map}
use Rattle.std.specs.BTreeMap.{is_at}
use Rattle.std.proofs.lemmas.Bool.{or_left, or_right, or_parts, cases_Bool}
use Rattle.std.proofs.lemmas.List.{nil_from_length}
use Rattle.std.proofs.lemmas.List.Concat.{flat_map-append}
use Rattle.wu_base.specs.declared.addresses.Range.{Range}
use Rattle.wu_layout.specs.Postings.{Posting, cut, has_some, is_live, live_of, Ascend}
use Rattle.wu_base.specs.Ranges.{is_in}
use Rattle.wu_layout.specs.Layouts.{Text, FileEntry, entry_of, ranges_of}
use Rattle.wu_layout.specs.Invariants.{SomeOf, HasText, IsAmong}
use Rattle.wu_layout.proofs.PostingLemmas.{Ascend-filter, cut-append, cut_from_none, length-placed}
use Rattle.wu_layout.proofs.EntryLemmas.{IfSome-map}

-- ---- the live postings of some ranges

pub live_at : (ranges : List Range) (range : Range) (a : ℕ) → IsAmong ranges range → is_in range a ≡ true → is_live ranges a ≡ true
live_at [] range a h t = absurd h
live_at (other ∷ ranges) range a h t =
    ⊎_elim
    (λ e. or_left (is_in other a) (is_live ranges a) (ap (λ (r : Range). is_in r a) e ∙ t))
    (λ i. or_right (is_in other a) (is_live ranges a) (live_at ranges range a i t))
    h

-- they have all that the postings have at one of the ranges
pub cut-live_of : (ranges : List Range) (range : Range) (ps : List Posting) → IsAmong ranges range
    → cut range (live_of ranges ps) ≡ cut range ps
cut-live_of ranges range [] h = refl
cut-live_of ranges range (p ∷ ps) h =
    let rest : cut range (live_of ranges ps) ≡ cut range ps = cut-live_of ranges range ps h in
    ⊎_elim
    (λ (l : is_live ranges p.address ≡ true). rw l (ap (λ (qs : List Posting). cond (is_in range p.address) (p ∷ qs) qs) rest))
    (λ (d : is_live ranges p.address ≡ false).
    ⊎_elim
    (λ (t : is_in range p.address ≡ true). let l : is_live ranges p.address ≡ true = live_at ranges range p.address h t in absurd cc)
    (λ (f : is_in range p.address ≡ false). rw (d, f) rest)
    (cases_Bool (is_in range p.address)))
    (cases_Bool (is_live ranges p.address))

-- they have nothing where the postings have nothing
pub none-live_of : (ranges : List Range) (range : Range) (ps : List Posting) → has_some range ps ≡ false
    → cut range (live_of ranges ps) ≡ []
none-live_of ranges range [] h = refl
none-live_of ranges range (p ∷ ps) h =
    let parts = or_parts (is_in range p.address) (has_some range ps) h in
    let rest : cut range (live_of ranges ps) ≡ [] = none-live_of ranges range ps parts.1 in
    elim (is_live ranges p.address) as (λ b. cut range (cond b (p ∷ live_of ranges ps) (live_of ranges ps)) ≡ []) [
      | true ↦ rw parts.0 rest
      | false ↦ rest
    ]

pub length-live_of : (ranges : List Range) (ps : List Posting) → length (live_of ranges ps) ≤ length ps
length-live_of ranges [] = omega arith
length-live_of ranges (p ∷ ps) =
    let rest : length (live_of ranges ps) ≤ length ps = length-live_of ranges ps in
    elim (is_live ranges p.address) as (λ b. length (cond b (p ∷ live_of ranges ps) (live_of ranges ps)) ≤ length (p ∷ ps)) [
      | true ↦ omega arith
      | false ↦ omega arith
    ]

-- a file's range is one of the live ranges
pub among_ranges : (files : List (ℕ × FileEntry)) (ino : ℕ) → IfSome (entry_of files ino) (λ entry. IsAmong (ranges_of files) entry.range)
among_ranges [] ino = tt
among_ranges (file ∷ files) ino =
    elim (is_at (nat_cmp ino) file.0) as
    (λ b. IfSome (cond b (Some file.1) (entry_of files ino)) (λ entry. IsAmong (ranges_of (file ∷ files)) entry.range)) [
      | true ↦ inl refl
      | false ↦ IfSome-map _ _ (entry_of files ino) (λ entry h. inr h) (among_ranges files ino)
    ]

-- ---- what is kept of postings

-- of the postings these are kept: all at addresses of live ranges, and they still ascend
pub record IsKeptOf (files : List (ℕ × FileEntry)) (all kept : List Posting) : Type 0 where
  pub live : (ino : ℕ) → IfSome (entry_of files ino) (λ entry. cut entry.range kept ≡ cut entry.range all)
  pub ascends : (low high : ℕ) → Ascend low high all → Ascend low high kept
  pub shorter : length kept ≤ length all

pub live_is_kept : (files : List (ℕ × FileEntry)) (all : List Posting) → IsKeptOf files all (live_of (ranges_of files) all)
live_is_kept files all = record {
  live = λ ino. IfSome-map _ _ (entry_of files ino) (λ entry h. cut-live_of (ranges_of files) entry.range all h) (among_ranges files ino);
  ascends = λ low high a. Ascend-filter (λ p. is_live (ranges_of files) p.address) low high all a;
  shorter = length-live_of (ranges_of files) all;
}

pub was_live_is_kept : (files : List (ℕ × FileEntry)) (all : List Posting) (live : List Range)
    → ((ino : ℕ) → IfSome (entry_of files ino) (λ entry. (has_some entry.range all ≡ false) ⊎ IsAmong live entry.range))
    → IsKeptOf files all (live_of live all)
was_live_is_kept files all live was = record {
  live = λ ino.
      IfSome-map _ _ (entry_of files ino)
      (λ entry h.
      ⊎_elim
      (λ n. none-live_of live entry.range all n ∙ sym (cut_from_none entry.range all n))
      (λ i. cut-live_of live entry.range all i)
      h)
      (was ino);
  ascends = λ low high a. Ascend-filter (λ p. is_live live p.address) low high all a;
  shorter = length-live_of live all;
}

-- ---- homes exchanged

abbrev pub flat : List (List Posting) → List Posting
flat homes = flat_map (λ home. home) homes

module _ {X : Type 0} (P : X → Type 0) where
  pub SomeOf-left : (xs ys : List X) → SomeOf P xs → SomeOf P (xs ++ ys)
  SomeOf-left [] ys h = absurd h
  SomeOf-left (x ∷ xs) ys h = ⊎_elim (λ a. inl a) (λ b. inr (SomeOf-left xs ys b)) h

  pub SomeOf-right : (xs ys : List X) → SomeOf P ys → SomeOf P (xs ++ ys)
  SomeOf-right [] ys h = h
  SomeOf-right (x ∷ xs) ys h = inr (SomeOf-right xs ys h)

  pub SomeOf-cases : (xs ys : List X) → SomeOf P (xs ++ ys) → SomeOf P xs ⊎ SomeOf P ys
  SomeOf-cases [] ys h = inr h
  SomeOf-cases (x ∷ xs) ys h =
      ⊎_elim (λ a. inl (inl a)) (λ b. ⊎_elim (λ c. inl (inr c)) (λ d. inr d) (SomeOf-cases xs ys b)) h

module _ (text : Text) (range : Range) where
  abbrev Has : List Posting → Type 0
  Has ps = HasText text range ps

  cut_long : (ps : List Posting) → Has ps → length (cut range ps) ≡ length text.terms
  cut_long ps h = ap length h ∙ length-placed range.start text.terms

  long_append : (ps qs : List Posting) → length (cut range (ps ++ qs)) ≡ length (cut range ps) + length (cut range qs)
  long_append ps qs = ap length (cut-append range ps qs) ∙ length-append (cut range ps) (cut range qs)

  -- where one home has the whole text, and no more stands at the range, all homes together have just the text
  together : (homes : List (List Posting)) → SomeOf Has homes → length (cut range (flat homes)) ≤ length text.terms → Has (flat homes)
  together [] h l = absurd h
  together (home ∷ homes) h l =
      ⊎_elim
      (λ a.
      let none : cut range (flat homes) ≡ [] =
      nil_from_length (cut range (flat homes)) (omega (arith, long_append home (flat homes), cut_long home a)) in
      cut-append range home (flat homes) ∙ ap (λ (ps : List Posting). cut range home ++ ps) none ∙ append-nil (cut range home) ∙ a)
      (λ b.
      let rest : Has (flat homes) = together homes b (omega (arith, long_append home (flat homes))) in
      let none : cut range home ≡ [] =
      nil_from_length (cut range home) (omega (arith, long_append home (flat homes), cut_long (flat homes) rest)) in
      cut-append range home (flat homes) ∙ ap (λ (ps : List Posting). ps ++ cut range (flat homes)) none ∙ rest)
      h

  module _ (front middle back : List (List Posting)) (kept : List Posting) (same : cut range kept ≡ cut range (flat middle)) where
    abbrev Before : List (List Posting)
    Before = front ++ (middle ++ back)

    abbrev After : List (List Posting)
    After = front ++ (kept ∷ back)

    flat_before : cut range (flat Before) ≡ cut range (flat front) ++ (cut range (flat middle) ++ cut range (flat back))
    flat_before =
        ap (cut range) (flat_map-append (λ (home : List Posting). home) front (middle ++ back))
        ∙ ap (λ (ps : List Posting). cut range (flat front ++ ps)) (flat_map-append (λ (home : List Posting). home) middle back)
        ∙ cut-append range (flat front) (flat middle ++ flat back)
        ∙ ap (λ (ps : List Posting). cut range (flat front) ++ ps) (cut-append range (flat middle) (flat back))

    flat_after : cut range (flat After) ≡ cut range (flat front) ++ (cut range kept ++ cut range (flat back))
    flat_after =
        ap (cut range) (flat_map-append (λ (home : List Posting). home) front (kept ∷ back))
        ∙ cut-append range (flat front) (kept ++ flat back)
        ∙ ap (λ (ps : List Posting). cut range (flat front) ++ ps) (cut-append range kept (flat back))

    pub cut_exchanged : cut range (flat After) ≡ cut range (flat Before)
    cut_exchanged =
        flat_after
        ∙ ap (λ (ps : List Posting). cut range (flat front) ++ (ps ++ cut range (flat back))) same
        ∙ sym flat_before

    pub home_exchanged : Has (flat Before) → SomeOf Has Before → SomeOf Has After
    home_exchanged w h =
        ⊎_elim
        (λ a. SomeOf-left Has front (kept ∷ back) a)
        (λ b.
        ⊎_elim
        (λ m.
        let long : length (cut range (flat middle)) ≤ length text.terms =
        omega (
          arith,
          cut_long (flat Before) w,
          ap length flat_before,
          length-append (cut range (flat front)) (cut range (flat middle) ++ cut range (flat back)),
          length-append (cut range (flat middle)) (cut range (flat back)),
        ) in
        SomeOf-right Has front (kept ∷ back) (inl (same ∙ together middle m long)))
        (λ c. SomeOf-right Has front (kept ∷ back) (inr c))
        (SomeOf-cases Has middle back b))
        (SomeOf-cases Has front (middle ++ back) h)
