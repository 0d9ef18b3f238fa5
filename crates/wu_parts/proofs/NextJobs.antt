-- The first two parts alike, found one after another; parts taken out one by one.
use Rattle.std.proofs.Common.{◌≡◌, ℕ, zero, suc, ◌+◌, ◌<◌, ◌≤◌, ◌==◌, true, false, List, [], ◌∷◌, ◌++◌, length, take, drop, get_or, remove}
use Rattle.std.proofs.Common.{Option, Some, None, option_map, refl, ap, ap₂, sym, ◌∙◌, arith}
use Rattle.std.specs.Prelude.{nat_lt, position, zip}
use Rattle.std.specs.Option.{option_or}
use Rattle.std.specs.List.{position_or_len}
use Rattle.std.proofs.lemmas.Bool.{ltb-true}
use Rattle.std.proofs.lemmas.Option.{cond_some}
use Rattle.wu_base.specs.declared.addresses.PartRec.{PartRec}
use Rattle.wu_base.proofs.Positions.{first_here, first_later}
use Rattle.wu_space.specs.Addresses.{Ranges}
use Rattle.wu_layout.specs.Steps.{alike_neighbours}
use Rattle.wu_layout.proofs.Picks.{alike}
use Rattle.wu_parts.specs.StoredParts.{records_of}
use Rattle.wu_parts.specs.Units.{as_part, as_parts, is_half_dead, next_job, replaced}
use Rattle.wu_parts.specs.declared.working.NextJob.TheVariants.{Merge, Collect}
use Rattle.wu_parts.specs.declared.writing.StoredPart.{StoredPart}

abbrev pub alike_of : List StoredPart → Option ℕ
alike_of parts = alike_neighbours (as_parts (records_of parts))

module _ (a b : StoredPart) where
  later_at : (parts : List StoredPart) (place : ℕ) → suc place < length parts → a ≡ get_or parts place a → b ≡ get_or parts (suc place) b
      → (a.recorded.generation == b.recorded.generation) ≡ false
      → alike_of (drop place parts) ≡ option_map (λ k. suc k) (alike_of (drop (suc place) parts))
  later_at [] place l e f g = absurd (omega (arith, l))
  later_at (x ∷ []) place l e f g = absurd (omega (arith, l))
  later_at (x ∷ y ∷ parts) zero l e f g =
      first_later alike (as_part x.recorded, as_part y.recorded) (zip (as_parts (records_of (y ∷ parts))) (as_parts (records_of parts)))
      (ap₂ (λ (n m : ℕ). n == m) (sym (ap (λ (p : StoredPart). p.recorded.generation) e))
      (sym (ap (λ (p : StoredPart). p.recorded.generation) f)) ∙ g)
  later_at (x ∷ y ∷ parts) (suc place) l e f g = later_at (y ∷ parts) place (omega (arith, l)) e f g

  here_at : (parts : List StoredPart) (place : ℕ) → suc place < length parts → a ≡ get_or parts place a → b ≡ get_or parts (suc place) b
      → (a.recorded.generation == b.recorded.generation) ≡ true → alike_of (drop place parts) ≡ Some 0
  here_at [] place l e f g = absurd (omega (arith, l))
  here_at (x ∷ []) place l e f g = absurd (omega (arith, l))
  here_at (x ∷ y ∷ parts) zero l e f g =
      first_here alike (as_part x.recorded, as_part y.recorded) (zip (as_parts (records_of (y ∷ parts))) (as_parts (records_of parts)))
      (ap₂ (λ (n m : ℕ). n == m) (sym (ap (λ (p : StoredPart). p.recorded.generation) e))
      (sym (ap (λ (p : StoredPart). p.recorded.generation) f)) ∙ g)
  here_at (x ∷ y ∷ parts) (suc place) l e f g = here_at (y ∷ parts) place (omega (arith, l)) e f g

  module _ (parts : List StoredPart) (place : ℕ) (l : place + 1 < length parts) (e : a ≡ get_or parts place a)
      (f : b ≡ get_or parts (place + 1) b) where
    next_at : b ≡ get_or parts (suc place) b
    next_at = let next : place + 1 ≡ suc place = omega arith in f ∙ ap (λ (n : ℕ). get_or parts n b) next

    pub alike_later : (a.recorded.generation == b.recorded.generation) ≡ false
        → alike_of (drop place parts) ≡ option_map (λ k. suc k) (alike_of (drop (place + 1) parts))
    alike_later g =
        let next : suc place ≡ place + 1 = omega arith in
        later_at parts place (omega (arith, l)) e next_at g
        ∙ ap (λ (n : ℕ). option_map (λ (k : ℕ). suc k) (alike_of (drop n parts))) next

    pub alike_here : (a.recorded.generation == b.recorded.generation) ≡ true → alike_of (drop place parts) ≡ Some 0
    alike_here g = here_at parts place (omega (arith, l)) e next_at g

pub alike_few : (parts : List StoredPart) → length parts ≤ 1 → alike_of parts ≡ None
alike_few [] l = refl
alike_few (x ∷ []) l = refl
alike_few (x ∷ y ∷ parts) l = absurd (omega (arith, l))

pub from_zero : (o : Option ℕ) → option_map (λ k. 0 + k) o ≡ o
from_zero None = refl
from_zero (Some k) = ap (λ (m : ℕ). Some m) (omega arith)

pub one_further : (n : ℕ) (o : Option ℕ) → option_map (λ k. n + k) (option_map (λ k. suc k) o) ≡ option_map (λ k. (n + 1) + k) o
one_further n None = refl
one_further n (Some k) = ap (λ (m : ℕ). Some m) (omega arith)

-- ---- the job that the policy names

merge_from : (o p : Option ℕ) (place : ℕ)
    → option_or (option_map (λ k. Merge k) o) (option_map (λ k. Collect k) p) ≡ Some (Merge place) → o ≡ Some place
merge_from None None place e = absurd cc
merge_from None (Some q) place e = absurd cc
merge_from (Some q) p place e = cc

collect_from : (o p : Option ℕ) (place : ℕ)
    → option_or (option_map (λ k. Merge k) o) (option_map (λ k. Collect k) p) ≡ Some (Collect place) → p ≡ Some place
collect_from None None place e = absurd cc
collect_from None (Some q) place e = cc
collect_from (Some q) p place e = absurd cc

pub merge_at : (ranges : Ranges) (records : List PartRec) (place : ℕ) → next_job ranges records ≡ Some (Merge place)
    → alike_neighbours (as_parts records) ≡ Some place
merge_at ranges records place e = merge_from (alike_neighbours (as_parts records)) (position (is_half_dead ranges) records) place e

pub collect_at : (ranges : Ranges) (records : List PartRec) (place : ℕ) → next_job ranges records ≡ Some (Collect place)
    → place < length records
collect_at ranges records place e =
    let found : position (is_half_dead ranges) records ≡ Some place =
    collect_from (alike_neighbours (as_parts records)) (position (is_half_dead ranges) records) place e in
    let r = cond_some (nat_lt (position_or_len (is_half_dead ranges) records) (length records))
    (position_or_len (is_half_dead ranges) records) place found in
    omega (arith, ltb-true _ _ r.0, r.1)

-- ---- one more taken out

module _ {X : Type 0} where
  take_next : (n : ℕ) (xs : List X) (x : X) → n < length xs → x ≡ get_or xs n x → take (suc n) xs ≡ take n xs ++ x ∷ []
  take_next n [] x l e = absurd (omega (arith, l))
  take_next zero (y ∷ xs) x l e = ap (λ (z : X). z ∷ []) (sym e)
  take_next (suc n) (y ∷ xs) x l e = ap (λ (zs : List X). y ∷ zs) (take_next n xs x (omega (arith, l)) e)

  drop_next : (n : ℕ) (xs : List X) → drop 1 (drop n xs) ≡ drop (suc n) xs
  drop_next zero xs = refl
  drop_next (suc n) [] = refl
  drop_next (suc n) (x ∷ xs) = drop_next n xs

  removed_back : (place : ℕ) (xs ys : List X) → place ≤ length xs → remove (take place xs ++ ys) place ≡ take place xs ++ drop 1 ys
  removed_back zero xs ys l = refl
  removed_back (suc place) [] ys l = absurd (omega (arith, l))
  removed_back (suc place) (x ∷ xs) ys l = ap (λ (zs : List X). x ∷ zs) (removed_back place xs ys (omega (arith, l)))

  got_back : (place : ℕ) (xs ys : List X) (x : X) → place ≤ length xs → get_or (take place xs ++ ys) place x ≡ get_or ys 0 x
  got_back zero xs ys x l = refl
  got_back (suc place) [] ys x l = absurd (omega (arith, l))
  got_back (suc place) (y ∷ xs) ys x l = got_back place xs ys x (omega (arith, l))

  got_first : (n : ℕ) (ys : List X) (x : X) → get_or (drop n ys) 0 x ≡ get_or ys n x
  got_first zero ys x = refl
  got_first (suc n) [] x = refl
  got_first (suc n) (y ∷ ys) x = got_first n ys x

  pub one_out : (place n : ℕ) (old now new : List X) → place ≤ length old → now ≡ replaced place n [] old → new ≡ remove now place
      → new ≡ replaced place (n + 1) [] old
  one_out place n old now new l e f =
      let next : suc n ≡ n + 1 = omega arith in
      f
      ∙ ap (λ (xs : List X). remove xs place) e
      ∙ removed_back place old (drop n (drop place old)) l
      ∙ ap (λ (xs : List X). take place old ++ xs) (drop_next n (drop place old) ∙ ap (λ (m : ℕ). drop m (drop place old)) next)

  pub which_out : (place n : ℕ) (old now : List X) (x : X) → place + n < length old → now ≡ replaced place n [] old → x ≡ get_or now place x
      → take (n + 1) (drop place old) ≡ take n (drop place old) ++ x ∷ []
  which_out place n old now x l e g =
      let next : n + 1 ≡ suc n = omega arith in
      ap (λ (m : ℕ). take m (drop place old)) next
      ∙ take_next n (drop place old) x (long place old l)
      (g
      ∙ ap (λ (xs : List X). get_or xs place x) e
      ∙ got_back place old (drop n (drop place old)) x (omega (arith, l))
      ∙ got_first n (drop place old) x)
    where
      long : (place : ℕ) (old : List X) → place + n < length old → n < length (drop place old)
      long zero old l = omega (arith, l)
      long (suc place) [] l = absurd (omega (arith, l))
      long (suc place) (x ∷ old) l = long place old (omega (arith, l))
