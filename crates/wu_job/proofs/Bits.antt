-- Lemmas on marks of one bit each.
use Rattle.std.proofs.Common.{◌≡◌, ◌≢◌, ℕ, zero, suc, ◌+◌, ◌*◌, ◌/◌, ◌%◌, ◌^◌, ◌<◌, ◌≤◌, ◌==◌, ◌||◌, Bool, false, List, [], ◌∷◌, length}
use Rattle.std.proofs.Common.{get_or, replicate, refl, ap, sym, subst, ◌∙◌, ⊎_elim, arith, w64}
use Rattle.std.specs.Int.{bit_at}
use Rattle.std.specs.Int.Bits.{bit_or}
use Rattle.std.proofs.Math.ListN.{set}
use Rattle.std.proofs.lemmas.Bool.{cases_eq, cases_lt, eq-eqb, ne_eqb}
use Rattle.std.proofs.lemmas.List.{get_or-set_other}
use Rattle.std.proofs.lemmas.Nat.Bits.{bit_at-zero, bit_at_set_other, bit_at_set_same}
use Rattle.wu_job.specs.Marks.{is_set, marks_from}

pub length-marks : (words : List ℕ) (place count : ℕ) → length (marks_from words place count) ≡ count
length-marks words place zero = refl
length-marks words place (suc count) = omega (arith, length-marks words (suc place) count)

pub mark_at : (words : List ℕ) (place count i : ℕ) → i < count → get_or (marks_from words place count) i false ≡ is_set words (place + i)
mark_at words place zero i l = absurd (omega arith)
mark_at words place (suc count) zero l = let same : place ≡ place + 0 = omega arith in ap (is_set words) same
mark_at words place (suc count) (suc i) l =
    let same : suc place + i ≡ place + suc i = omega arith in
    mark_at words (suc place) count i (omega arith) ∙ ap (is_set words) same

pub no_mark_at : (words : List ℕ) (place count i : ℕ) → count ≤ i → get_or (marks_from words place count) i false ≡ false
no_mark_at words place zero i l = refl
no_mark_at words place (suc count) zero l = absurd (omega arith)
no_mark_at words place (suc count) (suc i) l = no_mark_at words (suc place) count i (omega arith)

pub none_set : (words : List ℕ) (place count : ℕ) → ((k : ℕ) → is_set words k ≡ false)
    → marks_from words place count ≡ replicate count false
none_set words place zero n = refl
none_set words place (suc count) n =
    ap (λ (b : Bool). b ∷ marks_from words (suc place) count) (n place)
    ∙ ap (λ (bs : List Bool). false ∷ bs) (none_set words (suc place) count n)

get_or-set_same : (xs : List ℕ) (i v : ℕ) → i < length xs → get_or (set xs i v) i 0 ≡ v
get_or-set_same [] i v l = absurd (omega arith)
get_or-set_same (x ∷ xs) zero v l = refl
get_or-set_same (x ∷ xs) (suc i) v l = get_or-set_same xs i v (omega arith)

-- what setting the bit of one place does to those of all
pub one_set : (words : List ℕ) (place : ℕ) (k : ℕ) → place / 64 < length words
    → is_set (set words (place / 64) (bit_or (get_or words (place / 64) 0) (1 * 2 ^ (place % 64) % 2 ^ 64))) k
    ≡ (place == k || is_set words k)
one_set words place k l =
    let word : ℕ = get_or words (place / 64) 0 in
    let new : ℕ = bit_or word (1 * 2 ^ (place % 64) % 2 ^ 64) in
    let all : List ℕ = set words (place / 64) new in
    ⊎_elim
    (λ (same : place ≡ k).
    let at : get_or all (place / 64) 0 ≡ new = get_or-set_same words (place / 64) new l in
    let bit : bit_at new (place % 64) ≡ 1 = bit_at_set_same w64 word (place % 64) (omega arith) in
    subst (λ (n : ℕ). is_set all n ≡ (place == n || is_set words n)) same
    (ap (λ (n : ℕ). bit_at n (place % 64) == 1) at ∙ ap (λ (n : ℕ). n == 1) bit
    ∙ sym (ap (λ (b : Bool). b || is_set words place) (eq-eqb place place refl))))
    (λ (other : place ≡ k → ⊥).
    let kept : is_set all k ≡ is_set words k =
    ⊎_elim
    (λ (here : k / 64 ≡ place / 64).
    let differ : k % 64 ≢ place % 64 = λ e. other (omega arith) in
    let at : get_or all (k / 64) 0 ≡ new = ap (λ (n : ℕ). get_or all n 0) here ∙ get_or-set_same words (place / 64) new l in
    let bit : bit_at new (k % 64) ≡ bit_at word (k % 64) = bit_at_set_other w64 word (place % 64) (omega arith) (k % 64) differ in
    ap (λ (n : ℕ). bit_at n (k % 64) == 1) at ∙ ap (λ (n : ℕ). n == 1) bit
    ∙ ap (λ (n : ℕ). bit_at (get_or words n 0) (k % 64) == 1) (sym here))
    (λ (away : k / 64 ≡ place / 64 → ⊥).
    ap (λ (n : ℕ). bit_at n (k % 64) == 1) (get_or-set_other words (place / 64) (k / 64) new 0 away))
    (cases_eq (k / 64) (place / 64)) in
    kept ∙ sym (ap (λ (b : Bool). b || is_set words k) (ne_eqb place k other)))
    (cases_eq place k)

-- the same of the marks
pub marked_one : (words new : List ℕ) (count place : ℕ) → place < count → ((k : ℕ) → is_set new k ≡ (place == k || is_set words k))
    → (k : ℕ) → get_or (marks_from new 0 count) k false ≡ (place == k || get_or (marks_from words 0 count) k false)
marked_one words new count place l is k =
    ⊎_elim
    (λ (within : k < count).
    let start : 0 + k ≡ k = omega arith in
    let mine = mark_at words 0 count k within ∙ ap (is_set words) start in
    mark_at new 0 count k within ∙ (ap (is_set new) start ∙ (is k ∙ ap (λ (b : Bool). place == k || b) (sym mine))))
    (λ (past : count ≤ k).
    let differ : (place == k) ≡ false = ne_eqb place k (λ e. omega arith) in
    let none = no_mark_at words 0 count k past in
    no_mark_at new 0 count k past ∙ sym (ap (λ (b : Bool). b || get_or (marks_from words 0 count) k false) differ ∙ none))
    (cases_lt k count)

-- no bit of words that are all 0 is set
pub none_of_zero : (n k : ℕ) → is_set (replicate n 0) k ≡ false
none_of_zero n k = ap (λ (w : ℕ). bit_at w (k % 64) == 1) (zeros n (k / 64) 0) ∙ ap (λ (b : ℕ). b == 1) (bit_at-zero (k % 64))
  where
    zeros : (n i z : ℕ) → get_or (replicate n z) i z ≡ z
    zeros zero i z = refl
    zeros (suc n) zero z = refl
    zeros (suc n) (suc i) z = zeros n i z
