-- Walking two ascending lists side by side keeps what a filter over all pairs keeps.
use Rattle.std.proofs.Common.{◌≡◌, ◌<◌, ◌≤◌, Bool, true, false, List, [], ◌∷◌, refl, sym, ap, ◌∙◌, subst, inl, inr, arith, ltb, ltb-false}
use Rattle.std.proofs.Common.{le-ltb, leb-true, le-leb}
use Rattle.std.specs.Cmp.{both_ways}
use Rattle.std.specs.Prelude.{nat_lt, if◌then◌else◌}
use Rattle.std.specs.List.{list_any}
use Rattle.std.proofs.lemmas.Bool.{false≢true}
use Rattle.wu_base.specs.declared.addresses.Extent.{Extent}
use Rattle.wu_gcl.specs.Extents.{holds}
use Rattle.wu_solve.specs.Listing.{IsBefore, IsAscending, Has}
use Rattle.wu_solve.specs.Merging.{is_wanted, holding, held}
use Rattle.wu_solve.specs.FirstExtents.{from_start, from_end, first_ends_by, first_starts_by}
use Rattle.wu_solve.proofs.Sets.{Holds, holds_means, holds_from, found, finds, all_has}
use Rattle.wu_solve.proofs.Skipping.{in_skipped, has_skipped, skipped_ascending, first_skipped}

-- what is kept of extents, where no other but those that are left counts for them

abbrev pub walk_holding : Bool → List Extent → List Extent → List Extent
walk_holding wanted [] others = []
walk_holding wanted (x ∷ xs) others =
    let left = from_start x.start others in
    if is_wanted wanted (first_ends_by x.end left) then x ∷ walk_holding wanted xs left else walk_holding wanted xs left

abbrev pub walk_held : Bool → List Extent → List Extent → List Extent
walk_held wanted [] others = []
walk_held wanted (x ∷ xs) others =
    let left = from_end x.end others in
    if is_wanted wanted (first_starts_by x.start left) then x ∷ walk_held wanted xs left else walk_held wanted xs left

pub first_is_before : (z y : Extent) (zs : List Extent) → IsAscending (z ∷ zs) → Has (z ∷ zs) y → (z.start ≤ y.start) × (z.end ≤ y.end)
first_is_before z y zs up (inl here) =
    let starts : z.start ≡ y.start = ap (λ (e : Extent). e.start) here in
    let ends : z.end ≡ y.end = ap (λ (e : Extent). e.end) here in
    (omega arith, omega arith)
first_is_before z y zs up (inr more) = let before = all_has (IsBefore z) zs y up.0 more in
    (omega (arith, before.starts), omega (arith, before.ends))

-- an extent holds one of what is left where it holds the first

first_held : (x y : Extent) (left : List Extent) → IsAscending left → Has left y → Holds x y → first_ends_by x.end left ≡ true
first_held x y [] up has h = absurd has
first_held x y (z ∷ zs) up has h = let before = first_is_before z y zs up has in le-leb z.end x.end (omega (arith, before.1, h.last))

held_first : (x : Extent) (others left : List Extent) → left ≡ from_start x.start others → first_ends_by x.end left ≡ true
    → list_any (λ y. holds x y) others ≡ true
held_first x others [] same is = absurd (false≢true is)
held_first x others (z ∷ zs) same is =
    let late : ltb z.start x.start ≡ false = first_skipped (λ y. nat_lt y.start x.start) others zs z (sym same) in
    let in_left : Has (from_start x.start others) z = subst (λ (l : List Extent). Has l z) same (inl refl) in
    finds (λ y. holds x y) others z (in_skipped (λ y. nat_lt y.start x.start) others z in_left)
    (holds_from x z (record { start = ltb-false z.start x.start late; last = leb-true z.end x.end is }))

holds_first : (x : Extent) (others : List Extent) → IsAscending others
    → first_ends_by x.end (from_start x.start others) ≡ list_any (λ y. holds x y) others
holds_first x others up = both_ways _ _
    (held_first x others (from_start x.start others) refl)
    (λ is.
    let f = found (λ y. holds x y) others is in
    let h = holds_means x f.0 f.2 in
    let late : nat_lt f.0.start x.start ≡ false = le-ltb f.0.start x.start h.start in
    first_held x f.0 (from_start x.start others) (skipped_ascending (λ y. nat_lt y.start x.start) others up)
    (has_skipped (λ y. nat_lt y.start x.start) others f.0 late f.1) h)

-- a later extent holds none of those that are skipped
holds_left : (x z : Extent) (others : List Extent) → x.start < z.start
    → list_any (λ y. holds z y) (from_start x.start others) ≡ list_any (λ y. holds z y) others
holds_left x z others later = both_ways _ _
    (λ is. let f = found (λ y. holds z y) (from_start x.start others) is in finds (λ y. holds z y) others f.0
    (in_skipped (λ y. nat_lt y.start x.start) others f.0 f.1) f.2)
    (λ is.
    let f = found (λ y. holds z y) others is in
    let h = holds_means z f.0 f.2 in
    let late : nat_lt f.0.start x.start ≡ false = le-ltb f.0.start x.start (omega (arith, h.start)) in
    finds (λ y. holds z y) (from_start x.start others) f.0 (has_skipped (λ y. nat_lt y.start x.start) others f.0 late f.1) f.2)

pub walk_holding_is : (wanted : Bool) (xs others all : List Extent) → IsAscending xs → IsAscending others →
    ((x : Extent) → Has xs x → list_any (λ y. holds x y) others ≡ list_any (λ y. holds x y) all) →
    walk_holding wanted xs others ≡ holding wanted xs all
walk_holding_is wanted [] others all up others_up same = refl
walk_holding_is wanted (x ∷ xs) others all up others_up same =
    let left : List Extent = from_start x.start others in
    let here : first_ends_by x.end (from_start x.start others) ≡ list_any (λ y. holds x y) all = holds_first x others others_up
    ∙ same x (inl refl) in
    let rest : walk_holding wanted xs (from_start x.start others) ≡ holding wanted xs all =
    walk_holding_is wanted xs (from_start x.start others) all up.1 (skipped_ascending (λ y. nat_lt y.start x.start) others others_up)
    (λ z has. holds_left x z others (all_has (IsBefore x) xs z up.0 has).starts ∙ same z (inr has)) in
    rw (here, rest) refl

-- an extent is held by one of what is left where the first holds it

first_holds : (x y : Extent) (left : List Extent) → IsAscending left → Has left y → Holds y x → first_starts_by x.start left ≡ true
first_holds x y [] up has h = absurd has
first_holds x y (z ∷ zs) up has h = let before = first_is_before z y zs up has in le-leb z.start x.start (omega (arith, before.0, h.start))

by_first : (x : Extent) (others left : List Extent) → left ≡ from_end x.end others → first_starts_by x.start left ≡ true
    → list_any (λ y. holds y x) others ≡ true
by_first x others [] same is = absurd (false≢true is)
by_first x others (z ∷ zs) same is =
    let late : ltb z.end x.end ≡ false = first_skipped (λ y. nat_lt y.end x.end) others zs z (sym same) in
    let in_left : Has (from_end x.end others) z = subst (λ (l : List Extent). Has l z) same (inl refl) in
    finds (λ y. holds y x) others z (in_skipped (λ y. nat_lt y.end x.end) others z in_left)
    (holds_from z x (record { start = leb-true z.start x.start is; last = ltb-false z.end x.end late }))

held_by_first : (x : Extent) (others : List Extent) → IsAscending others
    → first_starts_by x.start (from_end x.end others) ≡ list_any (λ y. holds y x) others
held_by_first x others up = both_ways _ _
    (by_first x others (from_end x.end others) refl)
    (λ is.
    let f = found (λ y. holds y x) others is in
    let h = holds_means f.0 x f.2 in
    let late : nat_lt f.0.end x.end ≡ false = le-ltb f.0.end x.end h.last in
    first_holds x f.0 (from_end x.end others) (skipped_ascending (λ y. nat_lt y.end x.end) others up)
    (has_skipped (λ y. nat_lt y.end x.end) others f.0 late f.1) h)

held_left : (x z : Extent) (others : List Extent) → x.end < z.end
    → list_any (λ y. holds y z) (from_end x.end others) ≡ list_any (λ y. holds y z) others
held_left x z others later = both_ways _ _
    (λ is. let f = found (λ y. holds y z) (from_end x.end others) is in finds (λ y. holds y z) others f.0
    (in_skipped (λ y. nat_lt y.end x.end) others f.0 f.1) f.2)
    (λ is.
    let f = found (λ y. holds y z) others is in
    let h = holds_means f.0 z f.2 in
    let late : nat_lt f.0.end x.end ≡ false = le-ltb f.0.end x.end (omega (arith, h.last)) in
    finds (λ y. holds y z) (from_end x.end others) f.0 (has_skipped (λ y. nat_lt y.end x.end) others f.0 late f.1) f.2)

pub walk_held_is : (wanted : Bool) (xs others all : List Extent) → IsAscending xs → IsAscending others →
    ((x : Extent) → Has xs x → list_any (λ y. holds y x) others ≡ list_any (λ y. holds y x) all) →
    walk_held wanted xs others ≡ held wanted xs all
walk_held_is wanted [] others all up others_up same = refl
walk_held_is wanted (x ∷ xs) others all up others_up same =
    let here : first_starts_by x.start (from_end x.end others) ≡ list_any (λ y. holds y x) all = held_by_first x others others_up
    ∙ same x (inl refl) in
    let rest : walk_held wanted xs (from_end x.end others) ≡ held wanted xs all =
    walk_held_is wanted xs (from_end x.end others) all up.1 (skipped_ascending (λ y. nat_lt y.end x.end) others others_up)
    (λ z has. held_left x z others (all_has (IsBefore x) xs z up.0 has).ends ∙ same z (inr has)) in
    rw (here, rest) refl
