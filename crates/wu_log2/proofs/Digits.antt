-- What the digits of the logarithm are: their size, their order, and how near they are to the true logarithm.
use Rattle.std.proofs.Common.{◌≡◌, ℕ, zero, suc, ◌+◌, ◌-◌, ◌*◌, ◌/◌, ◌^◌, ◌<◌, ◌≤◌, refl, sym, ap, ◌∙◌, ⊎_elim, arith, lit<, lit≤}
use Rattle.std.proofs.lemmas.Bool.{cases_lt, le-leb, lt-leb}
use Rattle.std.proofs.lemmas.Nat.{pow_pos, pow-add, pow_below, mul-lt, mul-pow, le-div, div_below}
use Rattle.std.proofs.Math.Nat.{pow-suc, pow-zero, one-mul, two-pow-succ, one-le-pow, pow-le-pow_right, mul-le-mul_left}
use Rattle.std.proofs.Math.Nat.{mul-le-mul_right, mul-le-mul, mul-lt-mul_of_pos_left, div-mul-le_self, lt-mul-div-succ, mul_comm}
use Rattle.std.proofs.Math.Nat.{mul-div_cancel}
use Rattle.wu_log2.specs.Logarithm.{highest_place, with_digits, lg}

-- ---- the highest place

highest_place-reached : (k n : ℕ) → 2 ^ suc k ≤ n → highest_place (suc k) n ≡ suc k
unfolding highest_place
highest_place-reached k n h = rw le-leb refl

highest_place-past : (k n : ℕ) → n < 2 ^ suc k → highest_place (suc k) n ≡ highest_place k n
unfolding highest_place
highest_place-past k n h = rw lt-leb refl

highest_place-zero : (n : ℕ) → highest_place zero n ≡ 0
unfolding highest_place
highest_place-zero n = refl

-- the place of the highest set bit of n
pub record IsPlace (n place : ℕ) : Type 0 where
  pub reached : 2 ^ place ≤ n
  pub last : n < 2 * 2 ^ place

pub highest_place-is : (k n : ℕ) → 1 ≤ n → n < 2 ^ suc k → IsPlace n (highest_place k n)
highest_place-is zero n l h = rw (highest_place-zero n) (record { reached = omega arith; last = omega arith })
highest_place-is (suc k) n l h =
    ⊎_elim
    (λ (s : n < 2 ^ suc k). rw (highest_place-past k n s) (highest_place-is k n l s))
    (λ (s : 2 ^ suc k ≤ n). rw (highest_place-reached k n s) (record { reached = s; last = omega (arith, pow-suc 2 (suc k)) }))
    (cases_lt n (2 ^ suc k))

pub highest_place-le : (k n : ℕ) → highest_place k n ≤ k
highest_place-le zero n = rw (highest_place-zero n) (omega arith)
highest_place-le (suc k) n =
    ⊎_elim
    (λ (s : n < 2 ^ suc k). rw (highest_place-past k n s) (omega (arith, highest_place-le k n)))
    (λ (s : 2 ^ suc k ≤ n). rw (highest_place-reached k n s) (omega arith))
    (cases_lt n (2 ^ suc k))

-- a number has one such place
pub place-le : (n m i j : ℕ) → n ≤ m → IsPlace n i → IsPlace m j → i ≤ j
place-le n m i j h p q =
    ⊎_elim
    (λ (s : j < i).
    let two : 0 < 2 = omega arith in
    let more : suc j ≤ i = omega arith in
    absurd (omega (arith, pow-le-pow_right two more, pow-suc 2 j, p.reached, q.last)))
    (λ (s : i ≤ j). s)
    (cases_lt j i)

-- ---- one digit more

pub with_digits-none : (b m : ℕ) → with_digits zero b m ≡ b
unfolding with_digits
with_digits-none b m = refl

pub with_digits-one : (k b m : ℕ) → 2 ^ 63 ≤ m * m → with_digits (suc k) b m ≡ with_digits k (2 * b + 1) (m * m / 2 ^ 32)
unfolding with_digits
with_digits-one k b m h = rw le-leb refl

pub with_digits-zero : (k b m : ℕ) → m * m < 2 ^ 63 → with_digits (suc k) b m ≡ with_digits k (2 * b) (m * m / 2 ^ 31)
unfolding with_digits
with_digits-zero k b m h = rw lt-leb refl

pub record IsMantissa (m : ℕ) : Type 0 where
  pub least : 2 ^ 31 ≤ m
  pub most : m < 2 ^ 32

pub square-lt : (m : ℕ) → IsMantissa m → m * m < 2 ^ 64
square-lt m h = omega (arith, mul-lt m m (2 ^ 32) (2 ^ 32) h.most h.most)

pub IsMantissa-one : (m : ℕ) → IsMantissa m → 2 ^ 63 ≤ m * m → IsMantissa (m * m / 2 ^ 32)
IsMantissa-one m h s = let t = square-lt m h in record { least = omega arith; most = omega arith }

pub IsMantissa-zero : (m : ℕ) → IsMantissa m → m * m < 2 ^ 63 → IsMantissa (m * m / 2 ^ 31)
IsMantissa-zero m h s =
    let t : 2 ^ 62 ≤ m * m = omega (arith, mul-le-mul h.least h.least) in
    record { least = omega arith; most = omega arith }

-- ---- how large they are

pub with_digits-ge : (k b m : ℕ) → b * 2 ^ k ≤ with_digits k b m
with_digits-ge zero b m = rw (with_digits-none b m) (omega arith)
with_digits-ge (suc k) b m =
    rw (pow-suc 2 k)
    (⊎_elim
    (λ (s : m * m < 2 ^ 63). rw (with_digits-zero k b m s) (omega (arith, with_digits-ge k (2 * b) (m * m / 2 ^ 31))))
    (λ (s : 2 ^ 63 ≤ m * m). rw (with_digits-one k b m s) (omega (arith, with_digits-ge k (2 * b + 1) (m * m / 2 ^ 32))))
    (cases_lt (m * m) (2 ^ 63)))

pub with_digits-lt : (k b m : ℕ) → with_digits k b m < (b + 1) * 2 ^ k
with_digits-lt zero b m = rw (with_digits-none b m) (omega arith)
with_digits-lt (suc k) b m =
    rw (pow-suc 2 k)
    (⊎_elim
    (λ (s : m * m < 2 ^ 63). rw (with_digits-zero k b m s) (omega (arith, with_digits-lt k (2 * b) (m * m / 2 ^ 31), pow_pos k)))
    (λ (s : 2 ^ 63 ≤ m * m). rw (with_digits-one k b m s) (omega (arith, with_digits-lt k (2 * b + 1) (m * m / 2 ^ 32))))
    (cases_lt (m * m) (2 ^ 63)))

-- ---- a greater mantissa has no smaller digits

div-mono_31 : (s t : ℕ) → s ≤ t → s / 2 ^ 31 ≤ t / 2 ^ 31
div-mono_31 s t h = omega arith

div-mono_32 : (s t : ℕ) → s ≤ t → s / 2 ^ 32 ≤ t / 2 ^ 32
div-mono_32 s t h = omega arith

pub with_digits-mono : (k b m n : ℕ) → m ≤ n → with_digits k b m ≤ with_digits k b n
with_digits-mono zero b m n h = rw (with_digits-none b m, with_digits-none b n) (omega arith)
with_digits-mono (suc k) b m n h =
    let e : m * m ≤ n * n = mul-le-mul h h in
    ⊎_elim
    (λ (s : m * m < 2 ^ 63).
    ⊎_elim
    (λ (t : n * n < 2 ^ 63).
    rw (with_digits-zero k b m s, with_digits-zero k b n t)
    (with_digits-mono k (2 * b) (m * m / 2 ^ 31) (n * n / 2 ^ 31) (div-mono_31 _ _ e)))
    (λ (t : 2 ^ 63 ≤ n * n).
    rw (with_digits-zero k b m s, with_digits-one k b n t)
    (omega (arith, with_digits-lt k (2 * b) (m * m / 2 ^ 31), with_digits-ge k (2 * b + 1) (n * n / 2 ^ 32))))
    (cases_lt (n * n) (2 ^ 63)))
    (λ (s : 2 ^ 63 ≤ m * m).
    let t : 2 ^ 63 ≤ n * n = omega arith in
    rw (with_digits-one k b m s, with_digits-one k b n t)
    (with_digits-mono k (2 * b + 1) (m * m / 2 ^ 32) (n * n / 2 ^ 32) (div-mono_32 _ _ e)))
    (cases_lt (m * m) (2 ^ 63))

-- ---- the digits against the true logarithm

power-one : (p : ℕ) → p ^ 1 ≡ p
power-one p = pow-suc p 0 ∙ (rw (pow-zero p) (one-mul p))

power-square : (p k : ℕ) → p ^ (2 ^ suc k) ≡ (p * p) ^ (2 ^ k)
power-square p k = rw (two-pow-succ k) (pow-add p (2 ^ k) (2 ^ k) ∙ sym (mul-pow p p (2 ^ k)))

below-step_one : (x m p q : ℕ) → x * m ≤ 2 ^ 31 * p → q * 2 ^ 32 ≤ m * m → x * x * 2 * q ≤ 2 ^ 31 * (p * p)
below-step_one x m p q h l = omega (arith, mul-le-mul h h, mul-le-mul_left (x * x) l)

below-step_zero : (x m p q : ℕ) → x * m ≤ 2 ^ 31 * p → q * 2 ^ 31 ≤ m * m → x * x * q ≤ 2 ^ 31 * (p * p)
below-step_zero x m p q h l = omega (arith, mul-le-mul h h, mul-le-mul_left (x * x) l)

power-even : (b : ℕ) → 2 ^ (2 * b) ≡ 2 ^ b * 2 ^ b
power-even b = ap (λ (i : ℕ). 2 ^ i) (let e : 2 * b ≡ b + b = omega arith in e) ∙ pow-add 2 b b

power-odd : (b : ℕ) → 2 ^ (2 * b + 1) ≡ 2 ^ b * 2 ^ b * 2
power-odd b = pow-add 2 (2 * b) 1 ∙ ap (λ (i : ℕ). i * 2) (power-even b)

-- where 2^b (m / 2^31) is at most p, the digits after b are at most the logarithm of p, times 2^k
pub with_digits-below : (k b m p : ℕ) → IsMantissa m → 2 ^ b * m ≤ 2 ^ 31 * p → 2 ^ with_digits k b m ≤ p ^ (2 ^ k)
with_digits-below zero b m p r h =
    rw (with_digits-none b m, power-one p) (omega (arith, mul-le-mul_left (2 ^ b) r.least))
with_digits-below (suc k) b m p r h =
    rw (power-square p k)
    (⊎_elim
    (λ (s : m * m < 2 ^ 63).
    rw (with_digits-zero k b m s)
    (with_digits-below k (2 * b) (m * m / 2 ^ 31) (p * p) (IsMantissa-zero m r s)
    (rw (power-even b) (below-step_zero (2 ^ b) m p (m * m / 2 ^ 31) h (omega arith)))))
    (λ (s : 2 ^ 63 ≤ m * m).
    rw (with_digits-one k b m s)
    (with_digits-below k (2 * b + 1) (m * m / 2 ^ 32) (p * p) (IsMantissa-one m r s)
    (rw (power-odd b) (below-step_one (2 ^ b) m p (m * m / 2 ^ 32) h (omega arith)))))
    (cases_lt (m * m) (2 ^ 63)))

square-within_zero : (m d q : ℕ) → m * m ≤ 2 ^ 31 * (q + 1) → 2 * m + d ≤ 3 * 2 ^ 31 → (m + d) * (m + d) ≤ 2 ^ 31 * (q + (3 * d + 1))
square-within_zero m d q h l = omega (arith, mul-le-mul_right d l)

square-within_one : (m d q : ℕ) → m * m ≤ 2 ^ 32 * (q + 1) → 2 * m + d ≤ 3 * 2 ^ 32 → (m + d) * (m + d) ≤ 2 ^ 32 * (q + (3 * d + 1))
square-within_one m d q h l = omega (arith, mul-le-mul_right d l)

above-step_zero : (x a p c : ℕ) → p * 2 ^ 31 ≤ x * a → a * a ≤ 2 ^ 31 * c → p * p * 2 ^ 31 ≤ x * x * c
above-step_zero x a p c h l = omega (arith, mul-le-mul h h, mul-le-mul_left (x * x) l)

above-step_one : (x a p c : ℕ) → p * 2 ^ 31 ≤ x * a → a * a ≤ 2 ^ 32 * c → p * p * 2 ^ 31 ≤ x * x * 2 * c
above-step_one x a p c h l = omega (arith, mul-le-mul h h, mul-le-mul_left (x * x) l)

-- below the square root of 2
below-root : (m : ℕ) → m * m < 2 ^ 63 → m < 3037000500
below-root m h =
    ⊎_elim (λ (s : m < 3037000500). s) (λ (s : 3037000500 ≤ m). absurd (omega (arith, mul-le-mul s s))) (cases_lt m 3037000500)

error-le : (d k : ℕ) → (2 * d + 1) * 3 ^ k ≤ 2 ^ 27 → d ≤ 2 ^ 26
error-le d k h = omega (arith, mul-le-mul_left (2 * d + 1) (one-le-pow k 3 (let e : 0 < 3 = omega arith in e)))

-- where p is at most 2^b ((m + d) / 2^31), the logarithm of p, times 2^k, is less than two units above the digits.
-- The error d at most triples, and gains one, with each digit.
pub with_digits-within : (k b m d p : ℕ) → IsMantissa m → (2 * d + 1) * 3 ^ k ≤ 2 ^ 27 → p * 2 ^ 31 ≤ 2 ^ b * (m + d) → p ^ (2 ^ k) < 2 ^ (with_digits k b m + 2)
with_digits-within zero b m d p r l h =
    let t : m + d < 2 ^ 33 = omega (arith, error-le d 0 l, r.most) in
    rw (with_digits-none b m, power-one p, pow-add 2 b 2) (omega (arith, mul-lt-mul_of_pos_left t (pow_pos b)))
with_digits-within (suc k) b m d p r l h =
    let small : d ≤ 2 ^ 26 = error-le d (suc k) l in
    let tripled : (2 * (3 * d + 1) + 1) * 3 ^ k ≤ 2 ^ 27 = omega (arith, rw (pow-suc 3 k) at l) in
    rw (power-square p k)
    (⊎_elim
    (λ (s : m * m < 2 ^ 63).
    rw (with_digits-zero k b m s)
    (with_digits-within k (2 * b) (m * m / 2 ^ 31) (3 * d + 1) (p * p) (IsMantissa-zero m r s) tripled
    (rw (power-even b)
    (above-step_zero (2 ^ b) (m + d) p (m * m / 2 ^ 31 + (3 * d + 1)) h
    (square-within_zero m d (m * m / 2 ^ 31) (omega arith) (omega (arith, below-root m s)))))))
    (λ (s : 2 ^ 63 ≤ m * m).
    rw (with_digits-one k b m s)
    (with_digits-within k (2 * b + 1) (m * m / 2 ^ 32) (3 * d + 1) (p * p) (IsMantissa-one m r s) tripled
    (rw (power-odd b)
    (above-step_one (2 ^ b) (m + d) p (m * m / 2 ^ 32 + (3 * d + 1)) h
    (square-within_one m d (m * m / 2 ^ 32) (omega arith) (omega (arith, r.most)))))))
    (cases_lt (m * m) (2 ^ 63)))

-- ---- the logarithm

pub first_mantissa : (n e : ℕ) → IsPlace n e → IsMantissa (n * 2 ^ 31 / 2 ^ e)
first_mantissa n e h = record {
  least = le-div (2 ^ 31) (n * 2 ^ 31) (2 ^ e) (pow_pos e) (omega (arith, h.reached));
  most = div_below (n * 2 ^ 31) (2 ^ e) (2 ^ 32) (pow_pos e) (omega (arith, h.last));
}

pub lg-at : (n e : ℕ) → n < 2 ^ 64 → IsPlace n e → lg n ≡ with_digits 16 e (n * 2 ^ 31 / 2 ^ e)
unfolding lg
lg-at n e h p =
    let l : 1 ≤ n = omega (arith, pow_pos e, p.reached) in
    let q = highest_place-is 63 n l h in
    let refl_n : n ≤ n = omega arith in
    let i : highest_place 63 n ≤ e = place-le n n (highest_place 63 n) e refl_n q p in
    let j : e ≤ highest_place 63 n = place-le n n e (highest_place 63 n) refl_n p q in
    let same : highest_place 63 n ≡ e = omega arith in
    ap (λ (k : ℕ). with_digits 16 k (n * 2 ^ 31 / 2 ^ k)) same

-- some number's highest place
pub record Placed (n : ℕ) : Type 0 where
  pub place : ℕ
  pub is : IsPlace n place
  pub within : place ≤ 63

pub place_of : (n : ℕ) → 1 ≤ n → n < 2 ^ 64 → Placed n
place_of n l h = record { place = highest_place 63 n; is = highest_place-is 63 n l h; within = highest_place-le 63 n }

pub lg-lt : (n : ℕ) → 1 ≤ n → n < 2 ^ 64 → lg n < 2 ^ 22
lg-lt n l h =
    let p = place_of n l h in
    rw (lg-at n p.place h p.is) (omega (arith, with_digits-lt 16 p.place (n * 2 ^ 31 / 2 ^ p.place), p.within))

pub lg-below : (n : ℕ) → 1 ≤ n → n < 2 ^ 64 → 2 ^ lg n ≤ n ^ 65536
lg-below n l h =
    let p = place_of n l h in
    rw (lg-at n p.place h p.is)
    (with_digits-below 16 p.place (n * 2 ^ 31 / 2 ^ p.place) n (first_mantissa n p.place p.is)
    (omega (arith, div-mul-le_self (n * 2 ^ 31) (2 ^ p.place))))

pub lg-within : (n : ℕ) → 1 ≤ n → n < 2 ^ 64 → n ^ 65536 < 2 ^ (lg n + 2)
lg-within n l h =
    let p = place_of n l h in
    rw (lg-at n p.place h p.is)
    (with_digits-within 16 p.place (n * 2 ^ 31 / 2 ^ p.place) 1 n (first_mantissa n p.place p.is) (lit≤ tt)
    (omega (arith, lt-mul-div-succ (n * 2 ^ 31) (pow_pos p.place))))

div-mono : (a b k : ℕ) → 0 < k → a ≤ b → a / k ≤ b / k
div-mono a b k z h = le-div (a / k) b k z (omega (arith, div-mul-le_self a k))

pub lg-mono : (m n : ℕ) → 1 ≤ m → m ≤ n → n < 2 ^ 64 → lg m ≤ lg n
lg-mono m n l s h =
    let hm : m < 2 ^ 64 = omega arith in
    let ln : 1 ≤ n = omega arith in
    let p = place_of m l hm in
    let q = place_of n ln h in
    let le : p.place ≤ q.place = place-le m n p.place q.place s p.is q.is in
    rw (lg-at m p.place hm p.is, lg-at n q.place h q.is)
    (⊎_elim
    (λ (t : p.place < q.place).
    omega (arith, with_digits-lt 16 p.place (m * 2 ^ 31 / 2 ^ p.place), with_digits-ge 16 q.place (n * 2 ^ 31 / 2 ^ q.place)))
    (λ (t : q.place ≤ p.place).
    let same : q.place ≡ p.place = omega arith in
    rw same
    (with_digits-mono 16 p.place (m * 2 ^ 31 / 2 ^ p.place) (n * 2 ^ 31 / 2 ^ p.place)
    (div-mono (m * 2 ^ 31) (n * 2 ^ 31) (2 ^ p.place) (pow_pos p.place) (omega arith))))
    (cases_lt p.place q.place))

with_digits-of_one : (k b : ℕ) → with_digits k b (2 ^ 31) ≡ b * 2 ^ k
with_digits-of_one zero b = rw (with_digits-none b (2 ^ 31)) (omega arith)
with_digits-of_one (suc k) b =
    let s : 2 ^ 31 * 2 ^ 31 < 2 ^ 63 = lit< tt in
    with_digits-zero k b (2 ^ 31) s ∙ with_digits-of_one k (2 * b) ∙ (rw (pow-suc 2 k) (omega arith))

pub lg-of_power : (k : ℕ) → k < 64 → lg (2 ^ k) ≡ 65536 * k
lg-of_power k h =
    let p : IsPlace (2 ^ k) k = record { reached = omega arith; last = omega (arith, pow_pos k) } in
    let e : 2 ^ k * 2 ^ 31 / 2 ^ k ≡ 2 ^ 31 = ap (λ (i : ℕ). i / 2 ^ k) (mul_comm (2 ^ k) (2 ^ 31)) ∙ mul-div_cancel (2 ^ 31) (pow_pos k) in
    lg-at (2 ^ k) k (pow_below k 64 h) p ∙ ap (λ (i : ℕ). with_digits 16 k i) e ∙ with_digits-of_one 16 k ∙ (omega arith)

doubled : (b k : ℕ) → 0 < k → 2 * b ≤ b * 2 ^ k
doubled b zero h = absurd (omega arith)
doubled b (suc k) h = rw (pow-suc 2 k) (omega (arith, mul-le-mul_left b (pow_pos k)))

-- ---- a turn of the loop, with i digits found

pub record Turned (i b m v : ℕ) : Type 0 where
  pub so_far : with_digits (16 - i) b m ≡ v
  pub ranged : IsMantissa m

pub turn_one : (i b m v c n : ℕ) → i < 16 → Turned i b m v → 2 ^ 63 ≤ m * m → c ≡ 2 * b + 1 → n ≡ m * m / 2 ^ 32 → Turned (i + 1) c n v
turn_one i b m v c n h t s e f =
    let k : 16 - i ≡ suc (16 - (i + 1)) = omega arith in
    rw (e, f)
    (record {
      so_far = sym (with_digits-one (16 - (i + 1)) b m s) ∙ ap (λ (j : ℕ). with_digits j b m) (sym k) ∙ t.so_far;
      ranged = IsMantissa-one m t.ranged s;
    })

pub turn_zero : (i b m v c n : ℕ) → i < 16 → Turned i b m v → m * m < 2 ^ 63 → c ≡ 2 * b → n ≡ m * m / 2 ^ 31 → Turned (i + 1) c n v
turn_zero i b m v c n h t s e f =
    let k : 16 - i ≡ suc (16 - (i + 1)) = omega arith in
    rw (e, f)
    (record {
      so_far = sym (with_digits-zero (16 - (i + 1)) b m s) ∙ ap (λ (j : ℕ). with_digits j b m) (sym k) ∙ t.so_far;
      ranged = IsMantissa-zero m t.ranged s;
    })

-- what is found so far still doubles within the whole
pub digits_so_far : (i b m n : ℕ) → i < 16 → Turned i b m (lg n) → 1 ≤ n → n < 2 ^ 64 → 2 * b < 2 ^ 22
digits_so_far i b m n h e l s =
    let t : 2 * b ≤ b * 2 ^ (16 - i) = doubled b (16 - i) (omega arith) in
    omega (arith, with_digits-ge (16 - i) b m, e.so_far, lg-lt n l s)

pub all_digits : (i b m n : ℕ) → 16 ≤ i → Turned i b m (lg n) → b ≡ lg n
all_digits i b m n h t =
    let none : 16 - i ≡ 0 = omega arith in
    sym (with_digits-none b m) ∙ ap (λ (j : ℕ). with_digits j b m) (sym none) ∙ t.so_far
