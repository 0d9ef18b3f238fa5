-- Marks of the live addresses that stand in lists, and what a list more does to them.
use Rattle.std.proofs.Common.{◌≡◌, ℕ, ◌+◌, ◌<◌, ◌==◌, ◌||◌, eqb, Bool, true, false, List, [], ◌∷◌, ◌++◌, length, map, get_or, filter}
use Rattle.std.proofs.Common.{replicate, refl, ap, ap₂, sym, ◌∙◌, arith, ⊎_elim, inl, inr, append-nil}
use Rattle.std.specs.List.{AllByRecursion, IsDistinct, list_any}
use Rattle.std.proofs.lemmas.Bool.{cases_eq, eq-eqb, ne_eqb, eqb-true, or_cases}
use Rattle.std.proofs.lemmas.List.{get_or-replicate, length-replicate}
use Rattle.std.proofs.lemmas.List.Folds.{list_any-append}
use Rattle.std.proofs.lemmas.Grind.{flat_map-append}
use Rattle.wu_base.specs.declared.addresses.Range.{Range}
use Rattle.wu_base.specs.declared.addresses.TermList.{TermList}
use Rattle.wu_base.proofs.Members.{Has, filter_has}
use Rattle.wu_layout.specs.Ascending.{AscendBetween}
use Rattle.wu_layout.specs.Postings.{is_live}
use Rattle.wu_job.specs.Jobs.{list_for}
use Rattle.wu_job.specs.Keeping.{AreMarks, addresses_in, has}
use Rattle.wu_job.specs.Live.{live_below, total_of}
use Rattle.wu_job.specs.Reading.{is_some_marked}
use Rattle.wu_job.proofs.Ranks.{below_total, same_place}

abbrev AreLive : List Range → List ℕ → Type 0
AreLive live addresses = AllByRecursion (λ address. is_live live address ≡ true) addresses

-- ---- the addresses of one list more

pub addresses_more : (lists : List TermList) (term kept : List ℕ) → addresses_in (lists ++ list_for term kept) ≡ addresses_in lists ++ kept
addresses_more lists term [] =
    flat_map-append (λ (l : TermList). l.at) lists [] ∙ refl
addresses_more lists term (a ∷ kept) =
    flat_map-append (λ (l : TermList). l.at) lists (list_for term (a ∷ kept))
    ∙ ap (λ (l : List ℕ). addresses_in lists ++ l) (append-nil (a ∷ kept))

-- ---- places within the marks

pub places_within : (live : List Range) (n : ℕ) (kept : List ℕ) → total_of live ≡ n → AreLive live kept
    → AllByRecursion (λ place. place < n) (map (live_below live) kept)
places_within live n [] e a = tt
places_within live n (x ∷ kept) e a = (omega (arith, below_total live x a.0), places_within live n kept e a.1)

-- ---- no list

pub no_marks : (live : List Range) (marks : List Bool) (n : ℕ) → marks ≡ replicate n false → n ≡ total_of live → AreMarks live marks []
no_marks live marks n e m = record {
  long = ap (λ (ms : List Bool). length ms) e ∙ length-replicate n false ∙ m;
  exact = λ a l.
      ap (λ (ms : List Bool). get_or ms (live_below live a) false) e
      ∙ get_or-replicate n (live_below live a) false false (omega (arith, below_total live a l, m));
}

-- ---- one list more

place_among : (live : List Range) (a : ℕ) (kept : List ℕ) → is_live live a ≡ true → AreLive live kept
    → list_any (λ place. place == live_below live a) (map (live_below live) kept) ≡ has kept a
place_among live a [] l all = refl
place_among live a (x ∷ kept) l all =
    let rest : list_any (λ place. place == live_below live a) (map (live_below live) kept) ≡ has kept a =
    place_among live a kept l all.1 in
    let first : (live_below live x == live_below live a) ≡ (x == a) =
    ⊎_elim
    (λ (e : x ≡ a). eq-eqb (live_below live x) (live_below live a) (ap (live_below live) e) ∙ sym (eq-eqb x a e))
    (λ (n : x ≡ a → ⊥).
    ne_eqb (live_below live x) (live_below live a) (λ e. n (same_place live x a all.0 l e)) ∙ sym (ne_eqb x a n))
    (cases_eq x a) in
    ap₂ ◌||◌ first rest

or_swap : (a b : Bool) → (a || b) ≡ (b || a)
or_swap true true = refl
or_swap true false = refl
or_swap false true = refl
or_swap false false = refl

pub marks_more : (live : List Range) (marks new : List Bool) (lists : List TermList) (term kept : List ℕ) → AreMarks live marks lists
    → AreLive live kept → length new ≡ length marks
    → ((k : ℕ) → get_or new k false ≡ (list_any (λ place. place == k) (map (live_below live) kept) || get_or marks k false))
    → AreMarks live new (lists ++ list_for term kept)
marks_more live marks new lists term kept m all long is = record {
  long = long ∙ m.long;
  exact = λ a l.
      is (live_below live a)
      ∙ ap₂ ◌||◌ (place_among live a kept l all) (m.exact a l)
      ∙ or_swap (has kept a) (has (addresses_in lists) a)
      ∙ sym (list_any-append (λ (x : ℕ). x == a) (addresses_in lists) kept)
      ∙ sym (ap (λ (l : List ℕ). has l a) (addresses_more lists term kept));
}

-- ---- what marks tell of addresses

or_false_left : (a b : Bool) → (a || b) ≡ false → a ≡ false
or_false_left true b e = e
or_false_left false b e = refl

or_false_right : (a b : Bool) → (a || b) ≡ false → b ≡ false
or_false_right true b e = absurd cc
or_false_right false b e = e

pub unmarked_new : (live : List Range) (marks : List Bool) (lists : List TermList) (kept : List ℕ) → AreMarks live marks lists
    → AreLive live kept → is_some_marked live marks kept ≡ false
    → AllByRecursion (λ address. has (addresses_in lists) address ≡ false) kept
unmarked_new live marks lists [] m all u = tt
unmarked_new live marks lists (x ∷ kept) m all u = (
  sym (m.exact x all.0) ∙ or_false_left _ _ u,
  unmarked_new live marks lists kept m all.1 (or_false_right _ _ u),
)

some_marked_has : (live : List Range) (marks : List Bool) (kept : List ℕ) → is_some_marked live marks kept ≡ true
    → (a : ℕ) × (Has a kept × (get_or marks (live_below live a) false ≡ true))
some_marked_has live marks [] u = absurd cc
some_marked_has live marks (x ∷ kept) u =
    ⊎_elim
    (λ (t : get_or marks (live_below live x) false ≡ true). (x, (inl refl, t)))
    (λ t. let r = some_marked_has live marks kept t in (r.0, (inr r.1.0, r.1.1)))
    (or_cases _ _ u)

has_list : (xs : List ℕ) (a : ℕ) → has xs a ≡ true → Has a xs
has_list [] a h = absurd cc
has_list (x ∷ xs) a h = ⊎_elim (λ (t : (x == a) ≡ true). inl (eqb-true x a t)) (λ t. inr (has_list xs a t)) (or_cases _ _ h)

-- an address that is marked stands in a list
pub marked_twice : (live : List Range) (marks : List Bool) (lists : List TermList) (all : List ℕ) → AreMarks live marks lists
    → is_some_marked live marks (filter (is_live live) all) ≡ true
    → (a : ℕ) × (Has a all × Has a (addresses_in lists))
marked_twice live marks lists all m u =
    let r = some_marked_has live marks (filter (is_live live) all) u in
    let f = filter_has (is_live live) r.0 all r.1.0 in
    (r.0, (f.0, has_list (addresses_in lists) r.0 (sym (m.exact r.0 f.1) ∙ r.1.1)))

some_of : (a : ℕ) (xs : List ℕ) → Has a xs → 0 < length xs
some_of a [] h = absurd h
some_of a (x ∷ xs) h = omega arith

-- a list with a marked address has an address
pub marked_some : (live : List Range) (marks : List Bool) (all : List ℕ) → is_some_marked live marks (filter (is_live live) all) ≡ true
    → 0 < length all
marked_some live marks all u =
    let r = some_marked_has live marks (filter (is_live live) all) u in
    some_of r.0 all (filter_has (is_live live) r.0 all r.1.0).0

-- ---- distinct addresses

distinct_from : (x : ℕ) (xs ys : List ℕ) → AllByRecursion (λ y. eqb x y ≡ false) xs
    → AllByRecursion (λ y. (eqb x y || has xs y) ≡ false) ys → AllByRecursion (λ y. eqb x y ≡ false) (xs ++ ys)
distinct_from x [] [] a b = tt
distinct_from x [] (y ∷ ys) a b = (or_false_left _ _ b.0, distinct_from x [] ys a b.1)
distinct_from x (z ∷ xs) ys a b =
    (a.0, distinct_from x xs ys a.1 (fewer x z xs ys b))
  where
    fewer : (x z : ℕ) (xs ys : List ℕ) → AllByRecursion (λ y. (eqb x y || has (z ∷ xs) y) ≡ false) ys
        → AllByRecursion (λ y. (eqb x y || has xs y) ≡ false) ys
    fewer x z xs [] b = tt
    fewer x z xs (y ∷ ys) b =
        let first : eqb x y ≡ false = or_false_left _ _ b.0 in
        let rest : has xs y ≡ false = or_false_right (z == y) (has xs y) (or_false_right _ _ b.0) in
        (rw (first, rest) refl, fewer x z xs ys b.1)

pub distinct_join : (xs ys : List ℕ) → IsDistinct eqb xs → IsDistinct eqb ys → AllByRecursion (λ y. has xs y ≡ false) ys
    → IsDistinct eqb (xs ++ ys)
unfolding IsDistinct
distinct_join [] ys d e a = e
distinct_join (x ∷ xs) ys d e a = (distinct_from x xs ys d.0 a, distinct_join xs ys d.1 e (later x xs ys a))
  where
    later : (x : ℕ) (xs ys : List ℕ) → AllByRecursion (λ y. has (x ∷ xs) y ≡ false) ys → AllByRecursion (λ y. has xs y ≡ false) ys
    later x xs [] a = tt
    later x xs (y ∷ ys) a = (or_false_right (x == y) (has xs y) a.0, later x xs ys a.1)

above_differ : (x low high : ℕ) (ys : List ℕ) → x < low → AscendBetween low high ys → AllByRecursion (λ y. eqb x y ≡ false) ys
above_differ x low high [] l a = tt
above_differ x low high (y ∷ ys) l a =
    (ne_eqb x y (λ e. omega (arith, a.0)), above_differ x (y + 1) high ys (omega (arith, a.0)) a.1)

pub ascending_distinct : (low high : ℕ) (ys : List ℕ) → AscendBetween low high ys → IsDistinct eqb ys
unfolding IsDistinct
ascending_distinct low high [] a = tt
ascending_distinct low high (y ∷ ys) a = (above_differ y (y + 1) high ys (omega arith) a.1, ascending_distinct (y + 1) high ys a.1)
