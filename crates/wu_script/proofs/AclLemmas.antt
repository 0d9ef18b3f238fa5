-- The access lists that lines give are ones that a node may have.
use Rattle.std.proofs.Common.{◌≡◌, ℕ, ◌-◌, ◌≤◌, List, [], ◌∷◌, length, take, drop, map, Bool, true, false, cond, refl, ap, sym, subst}
use Rattle.std.proofs.Common.{arith}
use Rattle.std.specs.Prelude.{Option, Some, None, nat_lt, nat_le, not, position, unwrap_or, if◌then◌else◌}
use Rattle.std.specs.Ordering.{nat_cmp}
use Rattle.std.specs.List.{AllByRecursion, position_or_len, slice_split}
use Rattle.std.specs.List.Sorted.{IsStrictlySortedBy}
use Rattle.std.proofs.lemmas.Bool.{and_parts, ltb-true, ltb-false}
use Rattle.std.proofs.lemmas.List.Sums.{prefix_len-le-length}
use Rattle.wu_base.proofs.EachLemmas.{each-drop, each-take}
use Rattle.wu_access.specs.declared.acls.Acl.{Acl}
use Rattle.wu_access.specs.Access.{AreEntries, IsAcl}
use Rattle.wu_tree.specs.Lists.{ascends}
use Rattle.wu_tree.specs.Steps.{IsEvent}
use Rattle.wu_tree.proofs.ListTests.{decided_yes, decides_ascends}
use Rattle.wu_fields.specs.Numbers.{is_octal_digit}
use Rattle.wu_fields.specs.Fields.{all_some}
use Rattle.wu_script.specs.declared.acls.Piece.{Piece}
use Rattle.wu_script.specs.Commands.{acl_in, acl_of, after_owning, bits_of, entries_in, groups_at_front, is_comma, is_mask}
use Rattle.wu_script.specs.Commands.{is_owning, mask_in, node_of, piece_of, pieces_of, setting_of, users_at_front}
use Rattle.wu_script.proofs.GivenValues.{Given, after_any, map_given, then_given}

-- ---- places

pub first_or_length : {X : Type 0} (p : X → Bool) (xs : List X) → unwrap_or (position p xs) (length xs) ≡ position_or_len p xs
first_or_length p xs =
    elim (nat_lt (position_or_len p xs) (length xs)) as
    (λ b. nat_lt (position_or_len p xs) (length xs) ≡ b
    → unwrap_or (cond b (Some (position_or_len p xs)) None) (length xs) ≡ position_or_len p xs) [
      | true ↦ λ h. refl
      | false ↦ λ h. omega (arith, ltb-false (position_or_len p xs) (length xs) h, prefix_len-le-length (λ x. not (p x)) xs)
    ] refl

pub at_most_length : {X : Type 0} (p : X → Bool) (xs : List X) → position_or_len p xs ≤ length xs
at_most_length p xs = prefix_len-le-length (λ x. not (p x)) xs

-- ---- bits

abbrev HasLowBits : Piece → Type 0
HasLowBits piece = piece.entry.bits ≤ 7

bits_given : (digits : List ℕ) → Given (λ b. b ≤ 7) (bits_of digits)
unfolding bits_of
bits_given [] = tt
bits_given (digit ∷ []) = by_test (is_octal_digit digit) refl
  where
    by_test : (b : Bool) → is_octal_digit digit ≡ b → Given (λ n. n ≤ 7) (if b then Some (digit - 48) else None)
    by_test true h =
        let p = and_parts (nat_le 48 digit) (nat_lt digit 56) h in
        omega (arith, ltb-true digit 56 p.1)
    by_test false h = tt
bits_given (digit ∷ next ∷ digits) = tt

piece_given : (written : List ℕ) → Given HasLowBits (piece_of written)
piece_given written = after_any HasLowBits _ _ (λ o. then_given (λ b. b ≤ 7) HasLowBits _ (bits_of _) (bits_given _) (λ b low. low))

first_given : {B : Type 0} (P : B → Type 0) (first : Option B) (more : List (Option B)) → Given P first
    → Given (AllByRecursion P) (all_some more) → Given (AllByRecursion P) (all_some (first ∷ more))
first_given P None more g h = tt
first_given P (Some y) more g h = map_given (AllByRecursion P) (AllByRecursion P) (λ ys. y ∷ ys) (all_some more) h (λ ys all. (g, all))

all_given : {A B : Type 0} (P : B → Type 0) (f : A → Option B) → ((x : A) → Given P (f x)) → (xs : List A)
    → Given (AllByRecursion P) (all_some (map f xs))
all_given P f each [] = tt
all_given P f each (x ∷ xs) = first_given P (f x) (map f xs) (each x) (all_given P f each xs)

pieces_given : (field : List ℕ) → Given (AllByRecursion HasLowBits) (pieces_of field)
unfolding pieces_of
pieces_given field = all_given HasLowBits piece_of piece_given (slice_split is_comma field)

-- ---- lists

entries_low : (pieces : List Piece) → AllByRecursion HasLowBits pieces
    → AllByRecursion (λ entry. entry.bits ≤ 7) (map (λ piece. piece.entry) pieces)
entries_low [] low = tt
entries_low (piece ∷ pieces) low = (low.0, entries_low pieces low.1)

numbers_same : (pieces : List Piece) → map (λ entry. entry.id) (map (λ piece. piece.entry) pieces) ≡ map (λ piece. piece.entry.id) pieces
numbers_same [] = refl
numbers_same (piece ∷ pieces) = ap (λ ids. piece.entry.id ∷ ids) (numbers_same pieces)

entries_given : (pieces : List Piece) → AllByRecursion HasLowBits pieces → Given AreEntries (entries_in pieces)
unfolding entries_in
entries_given pieces low = by_test (ascends nat_cmp (map (λ piece. piece.entry.id) pieces)) refl
  where
    by_test : (b : Bool) → ascends nat_cmp (map (λ piece. piece.entry.id) pieces) ≡ b
        → Given AreEntries (if b then Some (map (λ piece. piece.entry) pieces) else None)
    by_test true h =
        let sorted : IsStrictlySortedBy nat_cmp (map (λ piece. piece.entry.id) pieces) =
        decided_yes _ _ (decides_ascends nat_cmp (map (λ piece. piece.entry.id) pieces)) h in
        (entries_low pieces low, subst (IsStrictlySortedBy nat_cmp) (sym (numbers_same pieces)) sorted)
    by_test false h = tt

mask_given : (pieces : List Piece) → AllByRecursion HasLowBits pieces → Given (λ m. m ≤ 7) (mask_in pieces)
mask_given [] low = tt
mask_given (piece ∷ []) low = by_test (is_mask piece.tag)
  where
    by_test : (b : Bool) → Given (λ m. m ≤ 7) (if b then Some piece.entry.bits else None)
    by_test true = low.0
    by_test false = tt
mask_given (piece ∷ next ∷ pieces) low = tt

abbrev IsSetting : Acl × ℕ → Type 0
IsSetting read = IsAcl read.0 × (read.1 ≤ 7)

after_owning_given : (owning : ℕ) (pieces : List Piece) → owning ≤ 7 → AllByRecursion HasLowBits pieces
    → Given IsSetting (after_owning owning pieces)
after_owning_given owning pieces small low =
    let users = take (users_at_front pieces) pieces in
    let later = drop (users_at_front pieces) pieces in
    let groups = take (groups_at_front later) later in
    let last = drop (groups_at_front later) later in
    let low_later : AllByRecursion HasLowBits later = each-drop HasLowBits (users_at_front pieces) pieces low in
    then_given AreEntries IsSetting _ (entries_in users) (entries_given users (each-take HasLowBits (users_at_front pieces) pieces low))
    (λ u fits_u.
    then_given AreEntries IsSetting _ (entries_in groups)
    (entries_given groups (each-take HasLowBits (groups_at_front later) later low_later))
    (λ g fits_g.
    then_given (λ m. m ≤ 7) IsSetting _ (mask_in last)
    (mask_given last (each-drop HasLowBits (groups_at_front later) later low_later))
    (λ m fits_m. (record { owning = small; users = fits_u; groups = fits_g }, fits_m))))

read_given : (pieces : List Piece) → AllByRecursion HasLowBits pieces → Given IsSetting (acl_in pieces)
unfolding acl_in
read_given [] low = tt
read_given (piece ∷ pieces) low = by_test (is_owning piece.tag)
  where
    by_test : (b : Bool) → Given IsSetting (if b then after_owning piece.entry.bits pieces else None)
    by_test true = after_owning_given piece.entry.bits pieces low.0 low.1
    by_test false = tt

-- what the entries of a field make fits
pub read_fits : (field : List ℕ) (pieces : List Piece) (acl : Acl) (mask : ℕ) → Some pieces ≡ pieces_of field
    → Some (acl, mask) ≡ acl_in pieces → IsAcl acl × (mask ≤ 7)
read_fits field pieces acl mask cut read =
    let low : AllByRecursion HasLowBits pieces = subst (Given (AllByRecursion HasLowBits)) (sym cut) (pieces_given field) in
    subst (Given IsSetting) (sym read) (read_given pieces low)

setting_given : (ino : ℕ) (field : List ℕ) → Given IsEvent (setting_of ino field)
setting_given ino [] = (tt, omega arith)
setting_given ino (byte ∷ bytes) =
    then_given (AllByRecursion HasLowBits) IsEvent _ (pieces_of (byte ∷ bytes)) (pieces_given (byte ∷ bytes))
    (λ pieces low. then_given IsSetting IsEvent _ (acl_in pieces) (read_given pieces low) (λ read fits. fits))

pub acl_given : (fields : List (List ℕ)) → Given IsEvent (acl_of fields)
unfolding acl_of
acl_given (ino ∷ entries ∷ []) = after_any IsEvent _ (node_of ino) (λ i. setting_given i entries)
acl_given _ = tt
