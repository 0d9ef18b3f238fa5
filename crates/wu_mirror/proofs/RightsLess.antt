-- Which rights grant no more than others: the meet of two modes, a mode of nothing, and a mode that has the mask alone.
use Rattle.std.proofs.Common.{◌≡◌, ◌≢◌, ℕ, ◌+◌, ◌*◌, ◌/◌, ◌%◌, ◌<◌, List, [], ◌∷◌, refl, ap, sym, ◌∙◌, subst, Bool, true, false, cond, arith}
use Rattle.std.specs.Prelude.{◌==◌, ◌&&◌, Option, None, Some, is_some}
use Rattle.std.specs.Int.Bits.{bit_and}
use Rattle.std.specs.Int.{bit_at}
use Rattle.std.proofs.lemmas.Nat.Bits.{bit_at_and, bit_at-lt}
use borrow.Author.Tests.{eqb-true, eq-eqb, ne_eqb}
use Rattle.wu_access.specs.declared.acls.Acl.{Acl}
use Rattle.wu_access.specs.declared.Perm.{Perm}
use Rattle.wu_access.specs.declared.UserRec.{UserRec}
use Rattle.wu_access.specs.declared.Want.{Want}
use Rattle.wu_access.specs.declared.Want.TheVariants.{Read, Execute}
use Rattle.wu_access.specs.Access.{is_granted, owner_digit, group_digit, other_digit, is_allowed, is_member, entry_for, entry_grants, is_in_class}
use Rattle.wu_access.specs.Access.{class_grants}
use Rattle.wu_mirror.specs.Searches.{GrantsNoMore}

-- ---- tests
cond_mono : (b : Bool) (x y z w : Bool) → (x ≡ true → z ≡ true) → (y ≡ true → w ≡ true) → cond b x y ≡ true → cond b z w ≡ true
cond_mono true x y z w f g h = f h
cond_mono false x y z w f g h = g h

and_mono : (x y g : Bool) → (x ≡ true → y ≡ true) → (x && g) ≡ true → (y && g) ≡ true
and_mono true y g f h = rw (f refl) h
and_mono false y g f h = absurd cc

cond_false : (b x y : Bool) → x ≡ false → y ≡ false → cond b x y ≡ false
cond_false true x y f g = f
cond_false false x y f g = g

and_false : (x g : Bool) → x ≡ false → (x && g) ≡ false
and_false x g h = rw h refl

-- ---- modes
-- each digit of the one mode grants no more than that of the other
pub record DigitsNoMore (m n : ℕ) : Type 0 where
  pub owner : (want : Want) → is_granted (owner_digit m) want ≡ true → is_granted (owner_digit n) want ≡ true
  pub group : (want : Want) → is_granted (group_digit m) want ≡ true → is_granted (group_digit n) want ≡ true
  pub other : (want : Want) → is_granted (other_digit m) want ≡ true → is_granted (other_digit n) want ≡ true

owner_read : (m : ℕ) → m / 64 % 8 / 4 % 2 ≡ bit_at m 8
owner_read m = omega arith

owner_pass : (m : ℕ) → m / 64 % 8 % 2 ≡ bit_at m 6
owner_pass m = omega arith

group_read : (m : ℕ) → m / 8 % 8 / 4 % 2 ≡ bit_at m 5
group_read m = omega arith

group_pass : (m : ℕ) → m / 8 % 8 % 2 ≡ bit_at m 3
group_pass m = omega arith

other_read : (m : ℕ) → m % 8 / 4 % 2 ≡ bit_at m 2
other_read m = omega arith

other_pass : (m : ℕ) → m % 8 % 2 ≡ bit_at m 0
other_pass m = omega arith

module _ (a b : ℕ) where
  meet_left : (i : ℕ) → bit_at (bit_and a b) i ≡ 1 → bit_at a i ≡ 1
  meet_left i h = let e = bit_at_and a b i in let l : bit_at a i < 2 = bit_at-lt a i in omega arith

  meet_right : (i : ℕ) → bit_at (bit_and a b) i ≡ 1 → bit_at b i ≡ 1
  meet_right i h = let e = bit_at_and a b i in let l : bit_at b i < 2 = bit_at-lt b i in omega arith

  left_bit : (f : ℕ → ℕ) (i : ℕ) → ((m : ℕ) → f m ≡ bit_at m i) → (f (bit_and a b) == 1) ≡ true → (f a == 1) ≡ true
  left_bit f i e h = eq-eqb (f a) 1 (e a ∙ meet_left i (sym (e (bit_and a b)) ∙ eqb-true (f (bit_and a b)) 1 h))

  right_bit : (f : ℕ → ℕ) (i : ℕ) → ((m : ℕ) → f m ≡ bit_at m i) → (f (bit_and a b) == 1) ≡ true → (f b == 1) ≡ true
  right_bit f i e h = eq-eqb (f b) 1 (e b ∙ meet_right i (sym (e (bit_and a b)) ∙ eqb-true (f (bit_and a b)) 1 h))

  owner_left : (want : Want) → is_granted (owner_digit (bit_and a b)) want ≡ true → is_granted (owner_digit a) want ≡ true
  owner_left Read h = left_bit (λ m. m / 64 % 8 / 4 % 2) 8 owner_read h
  owner_left Execute h = left_bit (λ m. m / 64 % 8 % 2) 6 owner_pass h

  group_left : (want : Want) → is_granted (group_digit (bit_and a b)) want ≡ true → is_granted (group_digit a) want ≡ true
  group_left Read h = left_bit (λ m. m / 8 % 8 / 4 % 2) 5 group_read h
  group_left Execute h = left_bit (λ m. m / 8 % 8 % 2) 3 group_pass h

  other_left : (want : Want) → is_granted (other_digit (bit_and a b)) want ≡ true → is_granted (other_digit a) want ≡ true
  other_left Read h = left_bit (λ m. m % 8 / 4 % 2) 2 other_read h
  other_left Execute h = left_bit (λ m. m % 8 % 2) 0 other_pass h

  owner_right : (want : Want) → is_granted (owner_digit (bit_and a b)) want ≡ true → is_granted (owner_digit b) want ≡ true
  owner_right Read h = right_bit (λ m. m / 64 % 8 / 4 % 2) 8 owner_read h
  owner_right Execute h = right_bit (λ m. m / 64 % 8 % 2) 6 owner_pass h

  group_right : (want : Want) → is_granted (group_digit (bit_and a b)) want ≡ true → is_granted (group_digit b) want ≡ true
  group_right Read h = right_bit (λ m. m / 8 % 8 / 4 % 2) 5 group_read h
  group_right Execute h = right_bit (λ m. m / 8 % 8 % 2) 3 group_pass h

  other_right : (want : Want) → is_granted (other_digit (bit_and a b)) want ≡ true → is_granted (other_digit b) want ≡ true
  other_right Read h = right_bit (λ m. m % 8 / 4 % 2) 2 other_read h
  other_right Execute h = right_bit (λ m. m % 8 % 2) 0 other_pass h

  -- the meet of two modes
  pub meet_first : DigitsNoMore (bit_and a b) a
  meet_first = record { owner = owner_left; group = group_left; other = other_left }

  pub meet_second : DigitsNoMore (bit_and a b) b
  meet_second = record { owner = owner_right; group = group_right; other = other_right }

granted_by : (d e : ℕ) (want : Want) → d ≡ e → is_granted d want ≡ true → is_granted e want ≡ true
granted_by d e want p h = subst (λ x. is_granted x want ≡ true) p h

none_granted : (d : ℕ) (want : Want) → d ≡ 0 → is_granted d want ≡ true → ⊥
none_granted d Read e h = let f : is_granted 0 Read ≡ true = subst (λ x. is_granted x Read ≡ true) e h in cc
none_granted d Execute e h = let f : is_granted 0 Execute ≡ true = subst (λ x. is_granted x Execute ≡ true) e h in cc

-- a mode that has the mask alone
pub mask_alone : (mode : ℕ) → DigitsNoMore (group_digit mode * 8) mode
mask_alone mode = record {
  owner = λ want h. absurd (none_granted (owner_digit (group_digit mode * 8)) want (omega arith) h);
  group = λ want h. granted_by (group_digit (group_digit mode * 8)) (group_digit mode) want (omega arith) h;
  other = λ want h. absurd
      (none_granted (other_digit (group_digit mode * 8)) want (omega arith) h);
}

-- ---- rights
abbrev pub moded : Perm → ℕ → Perm
moded perm mode = record perm { mode = mode }

-- with another mode, and the same owner, group and list
pub mode_grants : (perm : Perm) (acl : Option Acl) (m n : ℕ) → DigitsNoMore m n → GrantsNoMore (moded perm m) acl (moded perm n) acl
mode_grants perm None m n d user want u h =
    cond_mono (user.uid == 0) true _ true _ (λ e. e)
    (cond_mono (user.uid == perm.uid) _ _ _ _ (d.owner want) (cond_mono (is_member user perm) _ _ _ _ (d.group want) (d.other want))) h
mode_grants perm (Some acl) m n d user want u h =
    cond_mono (user.uid == 0) true _ true _ (λ e. e)
    (cond_mono (user.uid == perm.uid) _ _ _ _ (d.owner want)
    (cond_mono (is_some (entry_for user acl)) _ _ _ _
    (and_mono (is_granted (group_digit m) want) (is_granted (group_digit n) want) (entry_grants (entry_for user acl) want) (d.group want))
    (cond_mono (is_in_class user.groups perm acl) _ _ _ _
    (and_mono (is_granted (group_digit m) want) (is_granted (group_digit n) want) (class_grants user.groups perm acl want) (d.group want))
    (d.other want)))) h

not_granted : (want : Want) → is_granted 0 want ≡ false
not_granted Read = refl
not_granted Execute = refl

-- a mode of nothing lets nobody in but user 0
pub nothing_allowed : (perm : Perm) (acl : Option Acl) (user : UserRec) (want : Want) → user.uid ≢ 0
    → is_allowed user (moded perm 0) acl want ≡ false
nothing_allowed perm None user want u =
    rw (ne_eqb user.uid 0 u)
    (cond_false (user.uid == perm.uid) _ _ (not_granted want) (cond_false (is_member user perm) _ _ (not_granted want) (not_granted want)))
nothing_allowed perm (Some acl) user want u =
    rw (ne_eqb user.uid 0 u)
    (cond_false (user.uid == perm.uid) _ _ (not_granted want)
    (cond_false (is_some (entry_for user acl)) _ _ (and_false (is_granted 0 want) (entry_grants (entry_for user acl) want) (not_granted want))
    (cond_false (is_in_class user.groups perm acl) _ _
    (and_false (is_granted 0 want) (class_grants user.groups perm acl want) (not_granted want)) (not_granted want))))

pub nothing_grants : (perm : Perm) (acl : Option Acl) (other : Perm) (other_acl : Option Acl)
    → GrantsNoMore (moded perm 0) acl other other_acl
nothing_grants perm acl other other_acl user want u h =
    absurd (let e : is_allowed user (moded perm 0) acl want ≡ false = nothing_allowed perm acl user want u in cc)
