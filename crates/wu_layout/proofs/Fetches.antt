-- What a fetch of a term finds of a text that is indexed at a frame.
use Rattle.std.proofs.Common.{◌≡◌, ℕ, zero, suc, ◌+◌, ◌<◌, ◌==◌, ◌||◌, nat_eq, Bool, true, false, cond, List, [], ◌∷◌, ◌++◌, length, map}
use Rattle.std.proofs.Common.{filter, count_by, refl, ap, sym, ◌∙◌, arith, ⊎_elim, append-nil, append_assoc}
use Rattle.std.specs.List.{list_any, flat_map}
use Rattle.std.specs.Cmp.Lexicographic.{pointwise}
use Rattle.std.proofs.lemmas.Bool.{cases_Bool, eq-eqb, ne_eqb, and_from, le-leb, lt-ltb}
use Rattle.std.proofs.lemmas.List.Elements.{filter-append}
use Rattle.std.proofs.lemmas.List.Sums.{sum_by-cons}
use Rattle.wu_base.specs.declared.addresses.Range.{Range}
use Rattle.wu_layout.specs.Postings.{Posting, placed_from, is_of, addresses_of, is_live, fetched}
use Rattle.wu_base.specs.Ranges.{is_in}
use Rattle.wu_layout.specs.Layouts.{Text, Part, stored_in, postings_of}
use Rattle.wu_layout.specs.Invariants.{HasText, IsAmong}
use Rattle.wu_layout.proofs.KeptLemmas.{live_at}
use Rattle.wu_layout.proofs.TermLemmas.{addresses_of-append, addresses_of-cut}

-- ---- the postings of a text

pub placed-append : (start : ℕ) (terms more : List (List ℕ))
    → placed_from start (terms ++ more) ≡ placed_from start terms ++ placed_from (start + length terms) more
placed-append start [] more = ap (λ (n : ℕ). placed_from n more) (omega arith)
placed-append start (term ∷ terms) more =
    ap (λ (ps : List Posting). record { address = start; term = term } ∷ ps)
    (placed-append (start + 1) terms more
    ∙ ap (λ (n : ℕ). placed_from (start + 1) terms ++ placed_from n more) (omega arith))

-- the term is the one at the place
abbrev pub is_term_at : List (List ℕ) → List ℕ → ℕ → Bool
is_term_at [] term place = false
is_term_at (first ∷ terms) term zero = pointwise nat_eq first term
is_term_at (first ∷ terms) term (suc place) = is_term_at terms term place

abbrev pub has : List ℕ → ℕ → Bool
has addresses address = list_any (λ a. a == address) addresses

module _ (term : List ℕ) where
  -- no address before the first
  none_before : (start address : ℕ) (terms : List (List ℕ)) → address < start
      → has (addresses_of term (placed_from start terms)) address ≡ false
  none_before start address [] l = refl
  none_before start address (first ∷ terms) l =
      let rest : has (addresses_of term (placed_from (start + 1) terms)) address ≡ false =
      none_before (start + 1) address terms (omega arith) in
      elim (pointwise nat_eq first term) as
      (λ b. has (map (λ (p : Posting). p.address)
      (cond b (record { address = start; term = first } ∷ filter (is_of term) (placed_from (start + 1) terms))
      (filter (is_of term) (placed_from (start + 1) terms)))) address ≡ false) [
        | true ↦ rw (ne_eqb start address (λ e. omega arith)) rest
        | false ↦ rest
      ]

  -- the term stands at an address exactly where it is the text's term at the place
  pub placed_at : (start place : ℕ) (terms : List (List ℕ))
      → has (addresses_of term (placed_from start terms)) (start + place) ≡ is_term_at terms term place
  placed_at start place [] = refl
  placed_at start zero (first ∷ terms) =
      let rest : has (addresses_of term (placed_from (start + 1) terms)) (start + 0) ≡ false =
      none_before (start + 1) (start + 0) terms (omega arith) in
      elim (pointwise nat_eq first term) as
      (λ b. has (map (λ (p : Posting). p.address)
      (cond b (record { address = start; term = first } ∷ filter (is_of term) (placed_from (start + 1) terms))
      (filter (is_of term) (placed_from (start + 1) terms)))) (start + 0) ≡ b) [
        | true ↦ rw (eq-eqb start (start + 0) (omega arith)) refl
        | false ↦ rest
      ]
  placed_at start (suc place) (first ∷ terms) =
      let rest : has (addresses_of term (placed_from (start + 1) terms)) (start + suc place) ≡ is_term_at terms term place =
      ap (has (addresses_of term (placed_from (start + 1) terms))) (omega arith) ∙ placed_at (start + 1) place terms in
      elim (pointwise nat_eq first term) as
      (λ b. has (map (λ (p : Posting). p.address)
      (cond b (record { address = start; term = first } ∷ filter (is_of term) (placed_from (start + 1) terms))
      (filter (is_of term) (placed_from (start + 1) terms)))) (start + suc place) ≡ is_term_at terms term place) [
        | true ↦ rw (ne_eqb start (start + suc place) (λ e. omega arith)) rest
        | false ↦ rest
      ]

  -- as many addresses as the text has the term
  pub placed_count : (start : ℕ) (terms : List (List ℕ))
      → length (addresses_of term (placed_from start terms)) ≡ count_by (λ other. pointwise nat_eq other term) terms
  placed_count start [] = refl
  placed_count start (first ∷ terms) =
      let rest : length (addresses_of term (placed_from (start + 1) terms))
      ≡ count_by (λ (other : List ℕ). pointwise nat_eq other term) terms =
      placed_count (start + 1) terms in
      let step : length (addresses_of term (placed_from start (first ∷ terms)))
      ≡ cond {A = ℕ} (pointwise nat_eq first term) 1 0 + length (addresses_of term (placed_from (start + 1) terms)) =
      elim (pointwise nat_eq first term) as
      (λ b. length (map (λ (p : Posting). p.address)
      (cond b (record { address = start; term = first } ∷ filter (is_of term) (placed_from (start + 1) terms))
      (filter (is_of term) (placed_from (start + 1) terms))))
      ≡ cond {A = ℕ} b 1 0 + length (addresses_of term (placed_from (start + 1) terms))) [
        | true ↦ omega arith
        | false ↦ omega arith
      ] in
      omega (arith, sum_by-cons (λ (other : List ℕ). cond {A = ℕ} (pointwise nat_eq other term) 1 0) first terms)

-- ---- what is fetched within one frame

has-filter : (test : ℕ → Bool) (address : ℕ) (addresses : List ℕ) → test address ≡ true
    → has (filter test addresses) address ≡ has addresses address
has-filter test address [] t = refl
has-filter test address (a ∷ addresses) t =
    let rest : has (filter test addresses) address ≡ has addresses address = has-filter test address addresses t in
    ⊎_elim
    (λ (p : test a ≡ true). rw p (ap (λ (b : Bool). (a == address) || b) rest))
    (λ (f : test a ≡ false).
    let other : (a == address) ≡ false =
    ne_eqb a address (λ e. let p : test a ≡ true = ap test e ∙ t in absurd cc) in
    rw (f, other) rest)
    (cases_Bool (test a))

filter_within : (frames : List Range) (frame : Range) (addresses : List ℕ) → IsAmong frames frame
    → filter (is_in frame) (filter (is_live frames) addresses) ≡ filter (is_in frame) addresses
filter_within frames frame [] h = refl
filter_within frames frame (a ∷ addresses) h =
    let rest : filter (is_in frame) (filter (is_live frames) addresses) ≡ filter (is_in frame) addresses =
    filter_within frames frame addresses h in
    ⊎_elim
    (λ (l : is_live frames a ≡ true). rw l (ap (λ (xs : List ℕ). cond (is_in frame a) (a ∷ xs) xs) rest))
    (λ (d : is_live frames a ≡ false).
    ⊎_elim
    (λ (t : is_in frame a ≡ true). let l : is_live frames a ≡ true = live_at frames frame a h t in absurd cc)
    (λ (f : is_in frame a ≡ false). rw (d, f) rest)
    (cases_Bool (is_in frame a)))
    (cases_Bool (is_live frames a))

module _ (frames : List Range) (postings : List Posting) (term : List ℕ) (text : Text) (frame : Range)
    (among : IsAmong frames frame) (indexed : HasText text frame postings) where
  -- what is fetched within the frame are the addresses of the term in its text
  pub fetched_in_frame : filter (is_in frame) (fetched frames postings term) ≡ addresses_of term (placed_from frame.start text.terms)
  fetched_in_frame =
      filter_within frames frame (addresses_of term postings) among
      ∙ sym (addresses_of-cut term frame postings)
      ∙ ap (addresses_of term) indexed

  -- an address of the frame is fetched exactly where the text has the term at the place
  pub fetched_at : (place : ℕ) → place < frame.len
      → has (fetched frames postings term) (frame.start + place) ≡ is_term_at text.terms term place
  fetched_at place l =
      let inside : is_in frame (frame.start + place) ≡ true =
      and_from _ _ (le-leb frame.start (frame.start + place) (omega arith))
      (lt-ltb (frame.start + place) (frame.start + frame.len) (omega arith)) in
      sym (has-filter (is_in frame) (frame.start + place) (fetched frames postings term) inside)
      ∙ ap (λ (xs : List ℕ). has xs (frame.start + place)) fetched_in_frame
      ∙ placed_at term frame.start place text.terms

  -- as many addresses are fetched in the frame as the text has the term
  pub fetched_count : length (filter (is_in frame) (fetched frames postings term))
      ≡ count_by (λ other. pointwise nat_eq other term) text.terms
  fetched_count = ap length fetched_in_frame ∙ placed_count term frame.start text.terms

-- ---- part by part

pub addresses_of-stored : (term : List ℕ) (parts : List Part)
    → addresses_of term (stored_in parts) ≡ flat_map (λ part. addresses_of term part.postings) parts
addresses_of-stored term [] = refl
addresses_of-stored term (part ∷ parts) =
    addresses_of-append term part.postings (stored_in parts)
    ∙ ap (λ (xs : List ℕ). addresses_of term part.postings ++ xs) (addresses_of-stored term parts)

-- what is fetched of all are what is fetched of each part, from left to right, and then of memory
pub fetched_by_parts : (frames : List Range) (term : List ℕ) (parts : List Part) (memory : List Posting)
    → fetched frames (postings_of parts memory) term
    ≡ flat_map (λ part. fetched frames part.postings term) parts ++ fetched frames memory term
fetched_by_parts frames term [] memory =
    ap (λ (ps : List Posting). fetched frames ps term) (append-nil memory)
fetched_by_parts frames term (part ∷ parts) memory =
    let rest : fetched frames (postings_of parts memory) term
    ≡ flat_map (λ (p : Part). fetched frames p.postings term) parts ++ fetched frames memory term =
    fetched_by_parts frames term parts memory in
    ap (filter (is_live frames)) (addresses_of-append term part.postings (postings_of parts memory))
    ∙ filter-append (is_live frames) (addresses_of term part.postings) (addresses_of term (postings_of parts memory))
    ∙ ap (λ (xs : List ℕ). fetched frames part.postings term ++ xs) rest
    ∙ sym (append_assoc (fetched frames part.postings term)
    (flat_map (λ (p : Part). fetched frames p.postings term) parts) (fetched frames memory term))
