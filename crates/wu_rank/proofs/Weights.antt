-- How large a weight may be.
use Rattle.std.proofs.Common.{◌≡◌, ℕ, zero, suc, ◌+◌, ◌*◌, ◌/◌, ◌^◌, ◌<◌, ◌≤◌, ◌⊎◌, ap, ◌∙◌, inl, inr, arith}
use Rattle.std.proofs.lemmas.Nat.{le-div}
use Rattle.std.proofs.Math.Nat.{zero-div, div-mul-le_self, le_of_mul-le-mul_right}
use Rattle.wu_rank.specs.Bm25.{weigh}

nothing-over : (a d : ℕ) → a ≡ 0 → a / d ≡ 0
nothing-over a d e = ap (λ (k : ℕ). k / d) e ∙ zero-div d

-- a quotient of i·22·p by at least 10·p
quotient-le : (i p r : ℕ) → i * 22 * p / (10 * p + r) ≤ 22 * i / 10
quotient-le i zero r = rw (nothing-over (i * 22 * 0) (10 * 0 + r) (omega arith)) (omega arith)
quotient-le i (suc k) r =
    let q : ℕ = i * 22 * suc k / (10 * suc k + r) in
    let below : q * (10 * suc k + r) ≤ i * 22 * suc k = div-mul-le_self (i * 22 * suc k) (10 * suc k + r) in
    let positive : 0 < suc k = omega arith in
    let times : (q * 10) * suc k ≤ (22 * i) * suc k = omega arith in
    let ten : 0 < 10 = omega arith in
    le-div q (22 * i) 10 ten (le_of_mul-le-mul_right times positive)

pub weigh-le : (idf f l n t : ℕ) → weigh idf f l n t ≤ 22 * idf / 10
unfolding weigh
weigh-le idf f l n t =
    let e : idf * 22 * f * t ≡ idf * 22 * (f * t) = omega arith in
    let d : 10 * f * t + 3 * t + 9 * l * n ≡ 10 * (f * t) + (3 * t + 9 * l * n) = omega arith in
    rw (e, d) (quotient-le idf (f * t) (3 * t + 9 * l * n))

pub weigh-lt : (idf f l n t : ℕ) → idf ≤ 2 ^ 22 → weigh idf f l n t < 2 ^ 24
weigh-lt idf f l n t h = omega (arith, weigh-le idf f l n t)

pub weigh-zero : (idf f l n t : ℕ) → (idf ≡ 0) ⊎ (f ≡ 0) → weigh idf f l n t ≡ 0
unfolding weigh
weigh-zero idf f l n t (inl e) = nothing-over _ _ (rw e (omega arith))
weigh-zero idf f l n t (inr e) = nothing-over _ _ (rw e (omega arith))
