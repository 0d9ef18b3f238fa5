-- Numbers of blobs differ just where they rise once sorted.
use Rattle.std.proofs.Common.{◌≡◌, ℕ, suc, ◌+◌, ◌^◌, ◌<◌, ◌≤◌, Bool, true, false, eqb, List, [], ◌∷◌, sym, subst, ◌∙◌, ⊎_elim, arith}
use Rattle.std.specs.Prelude.{◌≢◌, IsPermutation, MatchBool}
use Rattle.std.specs.List.{AllByRecursion, IsDistinct}
use Rattle.std.specs.List.Sorted.{IsNonDecreasingBy}
use Rattle.std.proofs.lemmas.Bool.Decides.{eqb_tells}
use Rattle.std.proofs.lemmas.Map.Keys.{IsDistinct-IsPermutation}
use Rattle.std.proofs.lemmas.Bool.{cases_lt, ne_eqb, eq-eqb, false≢true}
use Rattle.std.proofs.lemmas.List.Sorted.{IsNonDecreasingBy-drop, IsPermutation-sym}
use Rattle.wu_base.proofs.EachLemmas.{each-permuted}
use Rattle.wu_image.specs.Checks.{RiseFrom}
use Rattle.wu_image.proofs.RuleLemmas.{all_at}

rise_above : (from : ℕ) (numbers : List ℕ) → RiseFrom from numbers → AllByRecursion (λ number. from ≤ number) numbers
rise_above from [] r = tt
rise_above from (number ∷ numbers) r = (r.0, lower numbers (rise_above (number + 1) numbers r.1))
  where
    lower : (ns : List ℕ) → AllByRecursion (λ n. number + 1 ≤ n) ns → AllByRecursion (λ n. from ≤ n) ns
    lower [] a = tt
    lower (n ∷ ns) a = let begin = r.0 in let above = a.0 in (omega arith, lower ns a.1)

pub distinct_of_rise : (from : ℕ) (numbers : List ℕ) → RiseFrom from numbers → IsDistinct eqb numbers
unfolding IsDistinct
distinct_of_rise from [] r = tt
distinct_of_rise from (number ∷ numbers) r =
    (others numbers (rise_above (number + 1) numbers r.1), distinct_of_rise (number + 1) numbers r.1)
  where
    others : (ns : List ℕ) → AllByRecursion (λ n. number + 1 ≤ n) ns → AllByRecursion (λ n. eqb number n ≡ false) ns
    others [] a = tt
    others (n ∷ ns) a = (ne_eqb number n (λ e. let above = a.0 in omega arith), others ns a.1)

abbrev NumbersRise : List ℕ → Type 0
NumbersRise [] = Unit {0}
NumbersRise (number ∷ numbers) = AllByRecursion (λ later. number ≤ later) numbers × NumbersRise numbers

numbers_rise : (numbers : List ℕ) → IsNonDecreasingBy (λ number. number) numbers → NumbersRise numbers
numbers_rise [] s = tt
numbers_rise (number ∷ numbers) s = (
  all_at (λ (later : ℕ). number ≤ later) numbers number (λ k l. s 0 (suc k) number (omega arith) (omega arith)),
  numbers_rise numbers (IsNonDecreasingBy-drop (λ (n : ℕ). n) 1 (number ∷ numbers) s),
)

next_above : (number : ℕ) (ns : List ℕ) → AllByRecursion (λ n. number ≤ n) ns → AllByRecursion (λ n. eqb number n ≡ false) ns
    → AllByRecursion (λ n. number + 1 ≤ n) ns
next_above number [] a b = tt
next_above number (n ∷ ns) a b =
    let above = a.0 in
    let other : number ≡ n → ⊥ = λ e. false≢true (sym b.0 ∙ eq-eqb number n e) in (
      ⊎_elim (λ (l : number < n). less_next l) (λ (l : n ≤ number). absurd (other (omega arith))) (cases_lt number n),
      next_above number ns a.1 b.1,
    )
  where
    less_next : number < n → number + 1 ≤ n
    less_next l = omega arith

rise_of : (from : ℕ) (numbers : List ℕ) → NumbersRise numbers → AllByRecursion (λ number. from ≤ number) numbers
    → IsDistinct eqb numbers → RiseFrom from numbers
unfolding IsDistinct
rise_of from [] s a d = tt
rise_of from (number ∷ numbers) s a d = (a.0, rise_of (number + 1) numbers s.1 (next_above number numbers s.0 d.0) d.1)

all_from_none : (numbers : List ℕ) → AllByRecursion (λ number. 0 ≤ number) numbers
all_from_none [] = tt
all_from_none (number ∷ numbers) = (omega arith, all_from_none numbers)

pub rise_of_distinct : (numbers : List ℕ) → IsNonDecreasingBy (λ number. number) numbers → IsDistinct eqb numbers → RiseFrom 0 numbers
rise_of_distinct numbers s d = rise_of 0 numbers (numbers_rise numbers s) (all_from_none numbers) d

-- the numbers that are left to be asked
pub record RiseLeft (numbers rest : List ℕ) (from : ℕ) : Type 0 where
  pub on : RiseFrom from rest → RiseFrom 0 numbers
  pub back : RiseFrom 0 numbers → RiseFrom from rest

pub all_rise_left : (numbers : List ℕ) → RiseLeft numbers numbers 0
all_rise_left numbers = record { on = λ a. a; back = λ a. a }

pub one_number_less : (numbers rest later : List ℕ) (number from new_from : ℕ) → RiseLeft numbers rest from → rest ≡ number ∷ later
    → from ≤ number → new_from ≡ number + 1 → RiseLeft numbers later new_from
one_number_less numbers rest later number from new_from l e p f =
    rw f (record {
      on = λ a. l.on (rw e (p, a));
      back = λ a. let b : RiseFrom from (number ∷ later) = subst (λ r. RiseFrom from r) e (l.back a) in b.1;
    })

pub is_early : (numbers rest later : List ℕ) (number from : ℕ) → RiseLeft numbers rest from → rest ≡ number ∷ later → number < from
    → RiseFrom 0 numbers → ⊥
is_early numbers rest later number from l e p a =
    let b : RiseFrom from (number ∷ later) = subst (λ r. RiseFrom from r) e (l.back a) in
    let begin = b.0 in
    omega arith

pub no_number_left : (numbers rest : List ℕ) (from : ℕ) → RiseLeft numbers rest from → rest ≡ [] → RiseFrom 0 numbers
no_number_left numbers rest from l e = l.on (subst (λ r. RiseFrom from r) (sym e) tt)

-- ---- sorted numbers

-- blobs that were drawn are below the greatest number
pub drawn_fit : (next : ℕ) (blobs : List ℕ) → next < 2 ^ 64 → AllByRecursion (λ blob. (0 < blob) × (blob < next)) blobs
    → AllByRecursion (λ blob. blob + 1 < 2 ^ 64) blobs
drawn_fit next [] small a = tt
drawn_fit next (blob ∷ blobs) small a = let below = a.0.1 in (omega arith, drawn_fit next blobs small a.1)

pub drawn_moved : (next : ℕ) (blobs sorted : List ℕ) → IsPermutation blobs sorted
    → AllByRecursion (λ blob. (0 < blob) × (blob < next)) blobs
    → AllByRecursion (λ blob. (0 < blob) × (blob < next)) sorted
drawn_moved next blobs sorted p a = each-permuted (λ (b : ℕ). (0 < b) × (b < next)) blobs sorted p a

eqb_flips : (x y : ℕ) → eqb x y ≡ eqb y x
eqb_flips x y =
    ⊎_elim
    (λ (p : (eqb x y ≡ true) × (x ≡ y)). p.0 ∙ sym (eq-eqb y x (sym p.1)))
    (λ (p : (eqb x y ≡ false) × (x ≢ y)). p.0 ∙ sym (ne_eqb y x (λ e. p.1 (sym e))))
    (eqb_tells x y)

pub blobs_decided : {W : Type 0} (blobs sorted : List ℕ) (b : Bool) → IsPermutation blobs sorted
    → IsNonDecreasingBy (λ blob. blob) sorted → W → MatchBool b (RiseFrom 0 sorted) (RiseFrom 0 sorted → ⊥)
    → MatchBool b (IsDistinct eqb blobs × W) (IsDistinct eqb blobs → W → ⊥)
blobs_decided blobs sorted true p s w m =
    (IsDistinct-IsPermutation eqb eqb_flips sorted blobs (IsPermutation-sym blobs sorted p) (distinct_of_rise 0 sorted m), w)
blobs_decided blobs sorted false p s w m = λ distinct v.
    m (rise_of_distinct sorted s (IsDistinct-IsPermutation eqb eqb_flips blobs sorted p distinct))
