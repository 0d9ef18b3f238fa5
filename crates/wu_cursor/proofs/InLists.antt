-- The access functions of an ascending list, from two of them.
use Rattle.std.proofs.Common.{◌≡◌, ℕ, ◌+◌, ◌-◌, ◌<◌, ◌≤◌, Bool, true, false, ◌⊎◌, List, [], ◌∷◌, ◌++◌, reverse, refl, sym, ap, ◌∙◌, subst}
use Rattle.std.proofs.Common.{inl, inr, arith, cond, leb-true, leb-false, le-leb, le-ltb, lt-ltb, append_assoc}
use Rattle.std.specs.Prelude.{Option, Some, None, nat_le}
use Rattle.std.specs.List.{find}
use Rattle.std.specs.Cmp.{both_ways}
use Rattle.std.proofs.lemmas.Bool.{false≢true}
use Rattle.wu_base.specs.declared.addresses.Extent.{Extent}
use Rattle.wu_solve.specs.FirstExtents.{from_start}
use Rattle.wu_solve.specs.Listing.{IsBefore, IsAscending, Has}
use Rattle.wu_solve.proofs.Sets.{all_has}
use Rattle.wu_cursor.specs.Access.{first_starting, first_ending, last_ending, last_starting}
use Rattle.wu_cursor.proofs.Finding.{find_none, find_some, last_none, last_some}

abbrev StartsBy : ℕ → Extent → Bool
StartsBy k x = nat_le k x.start

-- the one of two that is before the other

data Order (x y : Extent) : Type 0 where
  Same : x ≡ y → Order x y
  First : IsBefore x y → Order x y
  Second : IsBefore y x → Order x y

order : (xs : List Extent) (x y : Extent) → IsAscending xs → Has xs x → Has xs y → Order x y
order [] x y up hx hy = absurd hx
order (z ∷ zs) x y up (inl a) (inl b) = Same (sym a ∙ b)
order (z ∷ zs) x y up (inl a) (inr b) = First (subst (λ (e : Extent). IsBefore e y) a (all_has (IsBefore z) zs y up.0 b))
order (z ∷ zs) x y up (inr a) (inl b) = Second (subst (λ (e : Extent). IsBefore e x) b (all_has (IsBefore z) zs x up.0 a))
order (z ∷ zs) x y up (inr a) (inr b) = order zs x y up.1 a b

starts_after : (xs : List Extent) (x y : Extent) → IsAscending xs → Has xs x → Has xs y → x.end < y.end → x.start < y.start
starts_after xs x y up hx hy less =
    elim (order xs x y up hx hy) [
      | Same same ↦ let ends : x.end ≡ y.end = ap (λ (e : Extent). e.end) same in absurd (omega arith)
      | First before ↦ before.starts
      | Second before ↦ absurd (omega (arith, before.ends))
    ]

ends_after : (xs : List Extent) (x y : Extent) → IsAscending xs → Has xs x → Has xs y → x.start < y.start → x.end < y.end
ends_after xs x y up hx hy less =
    elim (order xs x y up hx hy) [
      | Same same ↦ let starts : x.start ≡ y.start = ap (λ (e : Extent). e.start) same in absurd (omega arith)
      | First before ↦ before.ends
      | Second before ↦ absurd (omega (arith, before.starts))
    ]

-- what a search gave

record IsFound (p : Extent → Bool) (xs : List Extent) (x : Extent) : Type 0 where
  has : Has xs x
  passes : p x ≡ true
  least : (y : Extent) → Has xs y → p y ≡ true → x.start ≤ y.start

record IsFoundLast (p : Extent → Bool) (xs : List Extent) (x : Extent) : Type 0 where
  has : Has xs x
  passes : p x ≡ true
  greatest : (y : Extent) → Has xs y → p y ≡ true → y.start ≤ x.start

data Search (p : Extent → Bool) (xs : List Extent) : Type 0 where
  Nothing : ((y : Extent) → Has xs y → p y ≡ false) → Search p xs
  Found : (x : Extent) → IsFound p xs x → Search p xs

data SearchLast (p : Extent → Bool) (xs : List Extent) : Type 0 where
  NothingLast : ((y : Extent) → Has xs y → p y ≡ false) → SearchLast p xs
  FoundLast : (x : Extent) → IsFoundLast p xs x → SearchLast p xs

first_by : (p : Extent → Bool) (z : Extent) (zs : List Extent) → IsAscending (z ∷ zs) → Search p zs → (b : Bool) → p z ≡ b → Search p
    (z ∷ zs)
first_by p z zs up rest true now = Found z (record {
  has = inl refl;
  passes = now;
  least = λ y has is. elim has [
    | inl here ↦ let starts : z.start ≡ y.start = ap (λ (e : Extent). e.start) here in omega arith
    | inr more ↦ omega (arith, (all_has (IsBefore z) zs y up.0 more).starts)
  ];
})
first_by p z zs up (Nothing none) false now =
    Nothing (λ y has. elim has [ inl here ↦ subst (λ (e : Extent). p e ≡ false) here now | inr more ↦ none y more ])
first_by p z zs up (Found x f) false now = Found x (record {
  has = inr f.has;
  passes = f.passes;
  least = λ y has is. elim has [
    | inl here ↦ absurd (false≢true (sym (subst (λ (e : Extent). p e ≡ false) here now) ∙ is))
    | inr more ↦ f.least y more is
  ];
})

search_first : (p : Extent → Bool) (xs : List Extent) → IsAscending xs → Search p xs
search_first p [] up = Nothing (λ y has. absurd has)
search_first p (z ∷ zs) up = first_by p z zs up (search_first p zs up.1) (p z) refl

last_by : (p : Extent → Bool) (z : Extent) (zs : List Extent) → IsAscending (z ∷ zs) → SearchLast p zs → (b : Bool) → p z ≡ b
    → SearchLast p (z ∷ zs)
last_by p z zs up (FoundLast x f) b now = FoundLast x (record {
  has = inr f.has;
  passes = f.passes;
  greatest = λ y has is. elim has [
    | inl here ↦
        let starts : z.start ≡ y.start = ap (λ (e : Extent). e.start) here in
        omega (arith, (all_has (IsBefore z) zs x up.0 f.has).starts)
    | inr more ↦ f.greatest y more is
  ];
})
last_by p z zs up (NothingLast none) true now = FoundLast z (record {
  has = inl refl;
  passes = now;
  greatest = λ y has is. elim has [
    | inl here ↦ let starts : z.start ≡ y.start = ap (λ (e : Extent). e.start) here in omega arith
    | inr more ↦ absurd (false≢true (sym (none y more) ∙ is))
  ];
})
last_by p z zs up (NothingLast none) false now =
    NothingLast (λ y has. elim has [ inl here ↦ subst (λ (e : Extent). p e ≡ false) here now | inr more ↦ none y more ])

search_last : (p : Extent → Bool) (xs : List Extent) → IsAscending xs → SearchLast p xs
search_last p [] up = NothingLast (λ y has. absurd has)
search_last p (z ∷ zs) up = last_by p z zs up (search_last p zs up.1) (p z) refl

some_none : {x : Extent} → Some x ≡ None → ⊥
some_none is = cc

found_first : (p : Extent → Bool) (xs : List Extent) (x : Extent) → IsAscending xs → Some x ≡ find p xs → IsFound p xs x
found_first p xs x up is =
    elim (search_first p xs up) [
      | Nothing none ↦ absurd (some_none (is ∙ find_none p xs none))
      | Found y f ↦
          let both : Some x ≡ Some y = is ∙ find_some p xs y up f.has f.passes f.least in
          let same : x ≡ y = cc in
          subst (λ (e : Extent). IsFound p xs e) (sym same) f
    ]

none_first : (p : Extent → Bool) (xs : List Extent) → IsAscending xs → None ≡ find p xs → (y : Extent) → Has xs y → p y ≡ false
none_first p xs up is =
    elim (search_first p xs up) [
      | Nothing none ↦ none
      | Found y f ↦ absurd (some_none (sym (find_some p xs y up f.has f.passes f.least) ∙ sym is))
    ]

found_last : (p : Extent → Bool) (xs : List Extent) (x : Extent) → IsAscending xs → Some x ≡ find p (reverse xs) → IsFoundLast p xs x
found_last p xs x up is =
    elim (search_last p xs up) [
      | NothingLast none ↦ absurd (some_none (is ∙ last_none p xs none))
      | FoundLast y f ↦
          let both : Some x ≡ Some y = is ∙ last_some p xs y up f.has f.passes f.greatest in
          let same : x ≡ y = cc in
          subst (λ (e : Extent). IsFoundLast p xs e) (sym same) f
    ]

none_last : (p : Extent → Bool) (xs : List Extent) → IsAscending xs → None ≡ find p (reverse xs) → (y : Extent) → Has xs y → p y ≡ false
none_last p xs up is =
    elim (search_last p xs up) [
      | NothingLast none ↦ none
      | FoundLast y f ↦ absurd (some_none (sym (last_some p xs y up f.has f.passes f.greatest) ∙ sym is))
    ]

-- searches by tests that pass the same of the list

same_first : (p q : Extent → Bool) (xs : List Extent) → IsAscending xs → ((y : Extent) → Has xs y → p y ≡ q y) → find p xs ≡ find q xs
same_first p q [] up same = refl
same_first p q (z ∷ zs) up same =
    rw (same z (inl refl)) (ap (λ (r : Option Extent). cond (q z) (Some z) r) (same_first p q zs up.1 (λ y has. same y (inr has))))

same_last : (p q : Extent → Bool) (xs : List Extent) → IsAscending xs → ((y : Extent) → Has xs y → p y ≡ q y)
    → find p (reverse xs) ≡ find q (reverse xs)
same_last p q xs up same =
    elim (search_last p xs up) [
      | NothingLast none ↦ last_none p xs none ∙ sym (last_none q xs (λ y has. sym (same y has) ∙ none y has))
      | FoundLast x f ↦
          last_some p xs x up f.has f.passes f.greatest
          ∙ sym (last_some q xs x up f.has (sym (same x f.has) ∙ f.passes) (λ y has is. f.greatest y has (same y has ∙ is)))
    ]

test_same : (a b c d : ℕ) → (a ≤ b → c ≤ d) → (c ≤ d → a ≤ b) → nat_le a b ≡ nat_le c d
test_same a b c d to back = both_ways (nat_le a b) (nat_le c d)
    (λ is. le-leb c d (to (leb-true a b is))) (λ is. le-leb a b (back (leb-true c d is)))

not_le : (a b : ℕ) → nat_le a b ≡ false → b < a
not_le a b is = leb-false a b is

module _ (xs : List Extent) (k : ℕ) (up : IsAscending xs) where
  pub ending_from_zero : k ≡ 0 → first_starting 0 xs ≡ first_ending k xs
  ending_from_zero is_zero = same_first (λ x. nat_le 0 x.start) (λ x. nat_le k x.end) xs up
      (λ y has. test_same 0 y.start k y.end (λ is. omega arith) (λ is. omega arith))

  pub ending_from_first : 0 < k → None ≡ last_ending (k - 1) xs → first_starting 0 xs ≡ first_ending k xs
  ending_from_first some none = same_first (λ x. nat_le 0 x.start) (λ x. nat_le k x.end) xs up
      (λ y has. test_same 0 y.start k y.end
      (λ is. omega (arith, not_le y.end (k - 1) (none_last (λ x. nat_le x.end (k - 1)) xs up none y has)))
      (λ is. omega arith))

  pub ending_behind : (x : Extent) → 0 < k → Some x ≡ last_ending (k - 1) xs → first_starting (x.start + 1) xs ≡ first_ending k xs
  ending_behind x some is =
      let f = found_last (λ x. nat_le x.end (k - 1)) xs x up is in
      let high : x.end ≤ k - 1 = leb-true x.end (k - 1) f.passes in
      same_first (λ y. nat_le (x.start + 1) y.start) (λ y. nat_le k y.end) xs up
      (λ y has. test_same (x.start + 1) y.start k y.end
      (λ behind.
      let cases : (k ≤ y.end) ⊎ (y.end ≤ k - 1) = grind arith in
      elim cases [ inl good ↦ good | inr bad ↦ absurd (omega (arith, f.greatest y has (le-leb y.end (k - 1) bad))) ])
      (λ late. omega (arith, starts_after xs x y up f.has has (omega arith))))

  pub starting_to_last : (top : ℕ) → ((y : Extent) → Has xs y → (y.start ≤ k) × (y.end ≤ top)) → last_ending top xs ≡ last_starting k xs
  starting_to_last top all = same_last (λ x. nat_le x.end top) (λ x. nat_le x.start k) xs up
      (λ y has. test_same y.end top y.start k (λ is. (all y has).0) (λ is. (all y has).1))

  pub starting_before_none : (top : ℕ) → ((y : Extent) → Has xs y → y.end ≤ top) → None ≡ first_starting (k + 1) xs
      → last_ending top xs ≡ last_starting k xs
  starting_before_none top all none = starting_to_last top
      (λ y has. (omega (arith, not_le (k + 1) y.start (none_first (λ x. nat_le (k + 1) x.start) xs up none y has)), all y has))

  pub starting_before : (x : Extent) → 0 < x.end → Some x ≡ first_starting (k + 1) xs → last_ending (x.end - 1) xs ≡ last_starting k xs
  starting_before x some is =
      let f = found_first (λ x. nat_le (k + 1) x.start) xs x up is in
      let low : k + 1 ≤ x.start = leb-true (k + 1) x.start f.passes in
      same_last (λ y. nat_le y.end (x.end - 1)) (λ y. nat_le y.start k) xs up
      (λ y has. test_same y.end (x.end - 1) y.start k
      (λ before.
      let cases : (y.start ≤ k) ⊎ (k + 1 ≤ y.start) = grind arith in
      elim cases [
        | inl good ↦ good
        | inr bad ↦
            let least : x.start ≤ y.start = f.least y has (le-leb (k + 1) y.start bad) in
            let first : y.start < x.start = starts_after xs y x up has f.has (omega arith) in
            absurd (omega arith)
      ])
      (λ first. omega (arith, ends_after xs y x up has f.has (omega arith))))

-- the extents from the first on

no_skip : (place : ℕ) (zs : List Extent) → ((y : Extent) → Has zs y → place ≤ y.start) → from_start place zs ≡ zs
no_skip place [] all = refl
no_skip place (z ∷ zs) all = rw (le-ltb z.start place (all z (inl refl))) refl

rest_by : (place : ℕ) (z : Extent) (zs : List Extent) (x : Extent) → IsAscending (z ∷ zs)
    → (Some x ≡ first_starting place zs → from_start place zs ≡ x ∷ from_start (x.start + 1) zs) → (b : Bool) → nat_le place z.start ≡ b
    → Some x ≡ cond b (Some z) (first_starting place zs) → from_start place (z ∷ zs) ≡ x ∷ from_start (x.start + 1) (z ∷ zs)
rest_by place z zs x up more true now is =
    let same : x ≡ z = cc in
    let starts : x.start ≡ z.start = ap (λ (e : Extent). e.start) same in
    let behind : from_start (x.start + 1) zs ≡ zs = no_skip (x.start + 1) zs
    (λ y has. omega (arith, (all_has (IsBefore z) zs y up.0 has).starts)) in
    rw (le-ltb z.start place (leb-true place z.start now), lt-ltb z.start (x.start + 1) (omega arith), behind, same) refl
rest_by place z zs x up more false now is =
    let before : z.start < place = leb-false place z.start now in
    let f = found_first (λ y. nat_le place y.start) zs x up.1 is in
    let low : place ≤ x.start = leb-true place x.start f.passes in
    rw (lt-ltb z.start place before, lt-ltb z.start (x.start + 1) (omega arith)) (more is)

pub rest_from_first : (place : ℕ) (xs : List Extent) (x : Extent) → IsAscending xs → Some x ≡ first_starting place xs
    → from_start place xs ≡ x ∷ from_start (x.start + 1) xs
rest_from_first place [] x up is = absurd (some_none is)
rest_from_first place (z ∷ zs) x up is =
    rest_by place z zs x up (rest_from_first place zs x up.1) (nat_le place z.start) refl is

pub rest_from_none : (place : ℕ) (xs : List Extent) → IsAscending xs → None ≡ first_starting place xs → from_start place xs ≡ []
rest_from_none place xs up is = all_skipped xs (none_first (λ y. nat_le place y.start) xs up is)
  where
    all_skipped : (zs : List Extent) → ((y : Extent) → Has zs y → nat_le place y.start ≡ false) → from_start place zs ≡ []
    all_skipped [] none = refl
    all_skipped (z ∷ zs) none =
        rw (lt-ltb z.start place (leb-false place z.start (none z (inl refl)))) (all_skipped zs (λ y has. none y (inr has)))

pub rest_from_zero : (xs : List Extent) → from_start 0 xs ≡ xs
rest_from_zero xs = no_skip 0 xs (λ y has. omega arith)

-- extents put one after the other

pub put_first : (found xs all : List Extent) (place : ℕ) (x : Extent) → IsAscending xs → Some x ≡ first_starting place xs
    → found ++ from_start place xs ≡ all → (found ++ x ∷ []) ++ from_start (x.start + 1) xs ≡ all
put_first found xs all place x up is before =
    append_assoc found (x ∷ []) (from_start (x.start + 1) xs) ∙ ap (λ (ys : List Extent). found ++ ys) (sym
    (rest_from_first place xs x up is)) ∙ before

pub put_none : (found xs all : List Extent) (place : ℕ) → IsAscending xs → None ≡ first_starting place xs
    → found ++ from_start place xs ≡ all → found ≡ all
put_none found xs all place up is before =
    sym (append_none found) ∙ ap (λ (ys : List Extent). found ++ ys) (sym (rest_from_none place xs up is)) ∙ before
  where
    append_none : (xs : List Extent) → xs ++ [] ≡ xs
    append_none [] = refl
    append_none (x ∷ xs) = ap (λ (ys : List Extent). x ∷ ys) (append_none xs)

pub put_start : (found xs : List Extent) → found ++ from_start 0 xs ≡ found ++ xs
put_start found xs = ap (λ (ys : List Extent). found ++ ys) (rest_from_zero xs)
