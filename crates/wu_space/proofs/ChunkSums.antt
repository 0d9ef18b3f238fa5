-- The sums of each chunk of slots, after a slot is put at the end or changed.
use Rattle.std.proofs.Common.{◌≡◌, ℕ, zero, suc, ◌+◌, ◌-◌, ◌*◌, ◌/◌, ◌<◌, ◌≤◌, ◌^◌, List, [], ◌∷◌, ◌++◌, length, get_or, set, take, drop}
use Rattle.std.proofs.Common.{refl, ap, sym, ◌∙◌, subst, ⊎_elim, inl, inr, arith, sum, lit<}
use Rattle.std.specs.Prelude.{sum_by}
use Rattle.std.proofs.lemmas.Bool.{cases_lt}
use Rattle.std.proofs.lemmas.List.{length-set, length_push, take_all, take-take, take-append-le, take-set-le, drop-take, take_more}
use Rattle.std.proofs.lemmas.List.{length-take-le}
use Rattle.std.proofs.lemmas.List.Sums.{sum_by-cons, sum_by_push, sum_by-take-le, sum_by_more, sum_by-set, sum_by-take-drop}
use Rattle.std.proofs.lemmas.List.Sums.{get_or-le-sum_by}
use Rattle.wu_space.specs.declared.slots.Slot.{Slot}
use Rattle.wu_space.specs.Slots.{AreSums, length_of}

-- the sum of a front after a write within it
pub sum_by-take-set : {X : Type 0} (f : X → ℕ) (xs : List X) (k n : ℕ) (y d : X) → k < length xs → k < n
    → sum_by f (take n (set xs k y)) + f (get_or xs k d) ≡ sum_by f (take n xs) + f y
sum_by-take-set f [] k n y d l h = absurd (omega arith)
sum_by-take-set f (x ∷ xs) k zero y d l h = absurd (omega arith)
sum_by-take-set f (x ∷ xs) zero (suc n) y d l h = omega (arith, sum_by-cons f y (take n xs), sum_by-cons f x (take n xs))
sum_by-take-set f (x ∷ xs) (suc k) (suc n) y d l h =
    omega (arith, sum_by-cons f x (take n (set xs k y)), sum_by-cons f x (take n xs), sum_by-take-set f xs k n y d (omega arith) (omega arith))

-- what stands between two fronts is at most the difference of their sums
pub item-le-fronts : {X : Type 0} (f : X → ℕ) (xs : List X) (low k high : ℕ) (d : X) → low ≤ k → k < high → k < length xs
    → sum_by f (take low xs) + f (get_or xs k d) ≤ sum_by f (take high xs)
item-le-fronts f xs low k high d l h w =
    let a : sum_by f (take low (take k xs)) ≤ sum_by f (take k xs) = sum_by-take-le f (take k xs) low in
    let b : sum_by f (take (k + 1) (take high xs)) ≤ sum_by f (take high xs) = sum_by-take-le f (take high xs) (k + 1) in
    let e : take low (take k xs) ≡ take low xs = take-take low k xs l in
    let g : take (k + 1) (take high xs) ≡ take (k + 1) xs = take-take (k + 1) high xs (omega arith) in
    omega (arith, ap (sum_by f) e, ap (sum_by f) g, sum_by_more f xs k d w, a, b)

module _ (slots : List Slot) (sums : List ℕ) (s : AreSums slots sums) where
  pub AreSums-room : AreSums slots (sums ++ 0 ∷ [])
  AreSums-room = record {
    enough = omega (arith, s.enough, length_push sums 0);
    so_far = λ c h.
        ⊎_elim
        (λ (l : c < length sums + 1). rw (take-append-le c sums (0 ∷ []) (omega arith)) (s.so_far c (omega arith)))
        (λ (l : length sums + 1 ≤ c).
        let e : take c (sums ++ 0 ∷ []) ≡ sums ++ 0 ∷ [] = take_all c (sums ++ 0 ∷ []) (omega (arith, length_push sums 0)) in
        let all : take (length sums) sums ≡ sums = take_all (length sums) sums (omega arith) in
        let short : take (512 * length sums) slots ≡ slots = take_all (512 * length sums) slots s.enough in
        let long : take (512 * c) slots ≡ slots = take_all (512 * c) slots (omega (arith, s.enough)) in
        omega (
          arith,
          ap (λ (xs : List ℕ). sum xs) e,
          sum_by_push (λ (x : ℕ). x) sums 0,
          ap (λ (xs : List ℕ). sum xs) all,
          ap length_of short,
          ap length_of long,
          s.so_far (length sums) (omega arith),
        ))
        (cases_lt c (length sums + 1));
    small = s.small;
  }

  -- a slot of that length after the others
  pub AreSums-push : (slot : Slot) (chunk v : ℕ) → chunk ≡ length slots / 512 → chunk < length sums
      → length_of slots + slot.len < 2 ^ 64 → v ≡ get_or sums chunk 0 + slot.len
      → AreSums (slots ++ slot ∷ []) (set sums chunk v)
  AreSums-push slot chunk v is h small w = record {
    enough = omega (arith, s.enough, length_push slots slot, length-set sums chunk v);
    so_far = λ c l.
        ⊎_elim
        (λ (b : chunk < c).
        let e : take (512 * c) (slots ++ slot ∷ []) ≡ slots ++ slot ∷ [] = take_all (512 * c) (slots ++ slot ∷ []) (omega (arith, length_push slots slot)) in
        let g : take (512 * c) slots ≡ slots = take_all (512 * c) slots (omega arith) in
        omega (
          arith,
          ap length_of e,
          ap length_of g,
          sum_by_push (λ (x : Slot). x.len) slots slot,
          length-set sums chunk v,
          sum_by-take-set (λ (x : ℕ). x) sums chunk c v 0 h b,
          s.so_far c (omega (arith, length-set sums chunk v)),
        ))
        (λ (b : c < chunk + 1).
        let e : take (512 * c) (slots ++ slot ∷ []) ≡ take (512 * c) slots = take-append-le (512 * c) slots (slot ∷ []) (omega arith) in
        let g : take c (set sums chunk v) ≡ take c sums = take-set-le c sums chunk v (omega arith) in
        rw (e, g) (s.so_far c (omega arith)))
        (⊎_elim (λ x. inl x) (λ x. inr (omega arith)) (cases_lt chunk c));
    small = omega (arith, sum_by_push (λ (x : Slot). x.len) slots slot);
  }

  pub chunk-covers : (place chunk : ℕ) (d : Slot) → place < length slots → chunk ≡ place / 512
      → (chunk < length sums) × ((get_or slots place d).len ≤ get_or sums chunk 0)
  chunk-covers place chunk d h is =
      let within : chunk < length sums = omega (arith, s.enough) in
      let a : sum (take chunk sums) ≡ length_of (take (512 * chunk) slots) = s.so_far chunk (omega arith) in
      let b : sum (take (chunk + 1) sums) ≡ length_of (take (512 * (chunk + 1)) slots) = s.so_far (chunk + 1) (omega arith) in
      let m : sum (take (chunk + 1) sums) ≡ sum (take chunk sums) + get_or sums chunk 0 = sum_by_more (λ (x : ℕ). x) sums chunk 0 within in
      let i : length_of (take (512 * chunk) slots) + (get_or slots place d).len ≤ length_of (take (512 * (chunk + 1)) slots) =
      item-le-fronts (λ (x : Slot). x.len) slots (512 * chunk) place (512 * (chunk + 1)) d (omega arith) (omega arith) h in
      (within, omega arith)

  -- another slot, of no addresses, at that place
  pub AreSums-release : (place chunk v : ℕ) (slot d : Slot) → place < length slots → chunk ≡ place / 512 → slot.len ≡ 0
      → v ≡ get_or sums chunk 0 - (get_or slots place d).len
      → AreSums (set slots place slot) (set sums chunk v)
  AreSums-release place chunk v slot d h is none w =
      let r = chunk-covers place chunk d h is in
      let within : chunk < length sums = r.0 in
      let less : (get_or slots place d).len ≤ get_or sums chunk 0 = r.1 in
      record {
        enough = omega (arith, s.enough, length-set slots place slot, length-set sums chunk v);
        so_far = λ c l.
            ⊎_elim
            (λ (b : chunk < c).
            omega (
              arith,
              sum_by-take-set (λ (x : ℕ). x) sums chunk c v 0 within b,
              sum_by-take-set (λ (x : Slot). x.len) slots place (512 * c) slot d h (omega arith),
              s.so_far c (omega (arith, length-set sums chunk v)),
            ))
            (λ (b : c < chunk + 1).
            let e : take (512 * c) (set slots place slot) ≡ take (512 * c) slots = take-set-le (512 * c) slots place slot (omega arith) in
            let g : take c (set sums chunk v) ≡ take c sums = take-set-le c sums chunk v (omega arith) in
            rw (e, g) (s.so_far c (omega arith)))
            (⊎_elim (λ x. inl x) (λ x. inr (omega arith)) (cases_lt chunk c));
        small = omega (arith, s.small, sum_by-set (λ (x : Slot). x.len) slots place slot d h);
      }

  -- the first slots, so many, have the addresses of whole chunks and of a part of one
  pub record Fronts (count chunk : ℕ) : Type 0 where
    pub inside : chunk ≤ length sums
    pub whole : sum (take chunk sums) + length_of (take (count - chunk * 512) (drop (chunk * 512) slots)) ≡ length_of (take count slots)
    pub small : length_of (take count slots) < 2 ^ 64

  pub fronts : (count chunk : ℕ) → count ≤ length slots → chunk ≡ count / 512 → Fronts count chunk
  fronts count chunk h is =
      let n : ℕ = 512 * chunk in
      let e : n + (count - n) ≡ count = omega arith in
      let a : length_of (take n (take count slots)) + length_of (drop n (take count slots)) ≡ length_of (take count slots) =
      sum_by-take-drop (λ (x : Slot). x.len) (take count slots) n in
      let b : take n (take count slots) ≡ take n slots = take-take n count slots (omega arith) in
      let g : drop n (take (n + (count - n)) slots) ≡ take (count - n) (drop n slots) = drop-take n (count - n) slots in
      let k : drop n (take count slots) ≡ take (count - n) (drop n slots) = subst (λ (m : ℕ). drop n (take m slots) ≡ take (count - n) (drop n slots)) e g in
      let w : chunk * 512 ≡ n = omega arith in
      record {
        inside = omega (arith, s.enough);
        whole = rw w (omega (arith, ap length_of b, ap length_of k, a, s.so_far chunk (omega (arith, s.enough))));
        small = omega (arith, sum_by-take-le (λ (x : Slot). x.len) slots count, s.small);
      }

pub sum-fits : (slots : List Slot) (sums : List ℕ) (chunk : ℕ) → AreSums slots sums → chunk < length sums
    → get_or sums chunk 0 ≤ length_of slots
sum-fits slots sums chunk s h =
    let all : take (length sums) sums ≡ sums = take_all (length sums) sums (omega arith) in
    omega (
      arith,
      get_or-le-sum_by (λ (x : ℕ). x) sums chunk 0 h,
      ap (λ (xs : List ℕ). sum xs) all,
      s.so_far (length sums) (omega arith),
      sum_by-take-le (λ (x : Slot). x.len) slots (512 * length sums),
    )

pub AreSums-more : (slots : List Slot) (sums : List ℕ) (place : ℕ) (d : Slot) → AreSums (take place slots) sums → place < length slots
    → length slots ≤ 512 * length sums → length_of slots < 2 ^ 64
    → AreSums (take (place + 1) slots) (set sums (place / 512) (get_or sums (place / 512) 0 + (get_or slots place d).len))
AreSums-more slots sums place d s h enough small =
    let g : take (place + 1) slots ≡ take place slots ++ get_or slots place d ∷ [] = take_more slots place d h in
    let n : length (take place slots) ≡ place = length-take-le place slots (omega arith) in
    let all : length_of (take place slots) + (get_or slots place d).len < 2 ^ 64 =
    omega (
      arith,
      ap length_of g,
      sum_by_push (λ (x : Slot). x.len) (take place slots) (get_or slots place d),
      sum_by-take-le (λ (x : Slot). x.len) slots (place + 1),
    ) in
    rw g (AreSums-push (take place slots) sums s (get_or slots place d) (place / 512) _ (omega (arith, n)) (omega arith) all refl)

pub sum-fits-more : (slots : List Slot) (sums : List ℕ) (place : ℕ) (d : Slot) → AreSums (take place slots) sums → place < length slots
    → length slots ≤ 512 * length sums → length_of slots < 2 ^ 64
    → get_or sums (place / 512) 0 + (get_or slots place d).len < 2 ^ 64
sum-fits-more slots sums place d s h enough small =
    omega (
      arith,
      sum-fits (take place slots) sums (place / 512) s (omega arith),
      sum_by_more (λ (x : Slot). x.len) slots place d h,
      sum_by-take-le (λ (x : Slot). x.len) slots (place + 1),
    )

pub AreSums-none : (sums : List ℕ) → ((k : ℕ) → k < length sums → get_or sums k 0 ≡ 0) → AreSums [] sums
AreSums-none sums z = record {
  enough = omega arith;
  so_far = λ c h. zeros sums c z ∙ sym (none (512 * c));
  small = lit< tt;
}
  where
    none : (n : ℕ) → length_of (take n []) ≡ 0
    none zero = refl
    none (suc n) = refl

    zeros : (xs : List ℕ) (c : ℕ) → ((k : ℕ) → k < length xs → get_or xs k 0 ≡ 0) → sum (take c xs) ≡ 0
    zeros xs zero z = refl
    zeros [] (suc c) z = refl
    zeros (x ∷ xs) (suc c) z =
        omega (arith, sum_by-cons (λ (y : ℕ). y) x (take c xs), z 0 (omega arith), zeros xs c (λ k h. z (suc k) (omega arith)))
