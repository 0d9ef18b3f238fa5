-- How many addresses of a list an extent has.
use Rattle.std.proofs.Common.{◌≡◌, ℕ, ◌+◌, ◌-◌, ◌<◌, ◌≤◌, Bool, true, false, cond, leb, Some, None, List, [], ◌∷◌, ◌++◌, length, take, drop}
use Rattle.std.proofs.Common.{max, refl, sym, ap, ap₂, ◌∙◌, ⊎_elim, arith}
use Rattle.std.specs.List.{AllByRecursion}
use Rattle.std.proofs.lemmas.Bool.{cases_lt, le-leb, lt-leb, lt-ltb}
use Rattle.std.proofs.lemmas.List.{take-append-drop, length-take-le}
use Rattle.std.proofs.lemmas.List.Sums.{sum_by-cons, sum_by-append}
use Rattle.std.proofs.Math.Bool.{and-false}
use Rattle.std.proofs.Math.Nat.{add-zero}
use Rattle.wu_base.specs.declared.addresses.Extent.{Extent}
use Rattle.wu_rank.specs.declared.results.Unit.{Unit as RankedUnit}
use Rattle.wu_rank.specs.Scores.{frequency, lies_in, length_of}
use Rattle.wu_rank.specs.Entries.{times_in}
use Rattle.wu_rank.specs.Sweeps.{AscendFrom}

lies-before : (e : Extent) (x : ℕ) → x < e.start → lies_in e x ≡ false
lies-before e x h = rw (lt-leb e.start x h) refl

lies-within : (e : Extent) (x : ℕ) → e.start ≤ x → x ≤ e.end → lies_in e x ≡ true
lies-within e x h l = rw (le-leb e.start x h, le-leb x e.end l) refl

lies-after : (e : Extent) (x : ℕ) → e.end < x → lies_in e x ≡ false
lies-after e x h = rw (lt-leb x e.end h) (and-false (leb e.start x))

frequency-none : (e : Extent) → frequency e [] ≡ 0
unfolding frequency
frequency-none e = refl

frequency-cons : (e : Extent) (x : ℕ) (xs : List ℕ) (b : Bool) (n : ℕ) → lies_in e x ≡ b → frequency e xs ≡ n
    → frequency e (x ∷ xs) ≡ cond b 1 0 + n
unfolding frequency
frequency-cons e x xs b n h f =
    sum_by-cons (λ y. cond (lies_in e y) 1 0) x xs ∙ ap₂ (λ (c : Bool) (m : ℕ). cond c 1 0 + m) h f

frequency-append : (e : Extent) (xs ys : List ℕ) → frequency e (xs ++ ys) ≡ frequency e xs + frequency e ys
unfolding frequency
frequency-append e xs ys = sum_by-append (λ y. cond (lies_in e y) 1 0) xs ys

pub before-none : (e : Extent) (limit : ℕ) (xs : List ℕ) → limit ≤ e.start → AllByRecursion (λ x. x < limit) xs → frequency e xs ≡ 0
before-none e limit [] l a = frequency-none e
before-none e limit (x ∷ xs) l a =
    frequency-cons e x xs false 0 (lies-before e x (omega (arith, a.0))) (before-none e limit xs l a.1)

pub after-none : (e : Extent) (xs : List ℕ) → AllByRecursion (λ x. e.end < x) xs → frequency e xs ≡ 0
after-none e [] a = frequency-none e
after-none e (x ∷ xs) a = frequency-cons e x xs false 0 (lies-after e x a.0) (after-none e xs a.1)

within-all : (e : Extent) (low : ℕ) (xs : List ℕ) → e.start ≤ low → AscendFrom low xs → AllByRecursion (λ x. x ≤ e.end) xs
    → frequency e xs ≡ length xs
within-all e low [] l a b = frequency-none e
within-all e low (x ∷ xs) l a b =
    frequency-cons e x xs true (length xs) (lies-within e x (omega (arith, a.0)) b.0)
    (within-all e (x + 1) xs (omega (arith, a.0)) a.1 b.1)
    ∙ (omega arith)

-- of addresses from the start on, the first n up to the end are those that it has
pub counted : (e : Extent) (xs : List ℕ) (n : ℕ) → n ≤ length xs → AscendFrom e.start xs → AllByRecursion (λ x. x ≤ e.end) (take n xs)
    → AllByRecursion (λ x. e.end < x) (drop n xs) → AscendFrom e.start (take n xs) → frequency e xs ≡ n
counted e xs n l a b c d =
    ap (frequency e) (sym (take-append-drop n xs))
    ∙ frequency-append e (take n xs) (drop n xs)
    ∙ ap₂ (λ (i j : ℕ). i + j) (within-all e e.start (take n xs) (omega arith) d b ∙ length-take-le n xs l) (after-none e (drop n xs) c)
    ∙ add-zero n

-- without those before its start, it has as many
pub frequency-later : (e : Extent) (limit : ℕ) (before xs : List ℕ) → limit ≤ e.start → AllByRecursion (λ x. x < limit) before
    → frequency e (before ++ xs) ≡ frequency e xs
frequency-later e limit before xs l a =
    frequency-append e before xs ∙ ap (λ (n : ℕ). n + frequency e xs) (before-none e limit before l a) ∙ (omega arith)

-- no more than it has addresses
fits : (e : Extent) (low : ℕ) (xs : List ℕ) → AscendFrom low xs → frequency e xs ≤ e.end + 1 - max low e.start
fits e low [] a = rw (frequency-none e) (omega arith)
fits e low (x ∷ xs) a =
    let rest : frequency e xs ≤ e.end + 1 - max (x + 1) e.start = fits e (x + 1) xs a.1 in
    ⊎_elim
    (λ (h : x < e.start). let c = frequency-cons e x xs false (frequency e xs) (lies-before e x h) refl in omega (arith, c, rest, a.0))
    (λ (h : e.start ≤ x).
    ⊎_elim
    (λ (g : e.end < x). let c = frequency-cons e x xs false (frequency e xs) (lies-after e x g) refl in omega (arith, c, rest, a.0))
    (λ (g : x ≤ e.end). let c = frequency-cons e x xs true (frequency e xs) (lies-within e x h g) refl in omega (arith, c, rest, a.0))
    (cases_lt e.end x))
    (cases_lt x e.start)

pub frequency-le : (e : Extent) (xs : List ℕ) → AscendFrom 0 xs → frequency e xs ≤ length_of e
frequency-le e xs a = omega (arith, fits e 0 xs a)

pub times-some : (xs : List ℕ) (u : RankedUnit) (n : ℕ) → frequency u.extent xs ≡ n → 0 < n → times_in xs u ≡ Some n
times-some xs u n e h = rw (e, lt-ltb 0 n h) refl

pub times-none : (xs : List ℕ) (u : RankedUnit) → frequency u.extent xs ≡ 0 → times_in xs u ≡ None
times-none xs u e = rw e refl
