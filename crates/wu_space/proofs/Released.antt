-- A slot whose addresses were taken from it.
use Rattle.std.proofs.Common.{◌≡◌, ℕ, zero, suc, ◌<◌, List, length, get_or, set, refl, ap, arith}
use Rattle.std.proofs.lemmas.Bool.{lt-ltb}
use Rattle.std.proofs.lemmas.List.Sums.{sum_by-set}
use Rattle.wu_space.specs.declared.slots.Slot.{Slot}
use Rattle.wu_space.specs.Slots.{Parts, Releases, dead, file_of, weight}
use Rattle.wu_space.proofs.Order.{holder-is, holder-none, order-set}

pub Releases-none : (start : ℕ) (slots : List Slot) → Parts start slots zero → Releases start slots slots
Releases-none start slots p = record {
  order = λ slot h e l low high o. o;
  same = λ slot h e l low high o f. absurd (holder-none start slots slot p h (omega arith));
  sum = λ slot h e l low high o. absurd (holder-none start slots slot p h (omega arith));
}

pub Releases-set : (start place : ℕ) (slots : List Slot) (d : Slot) → Parts start slots (suc place) → place < length slots
    → Releases start slots (set slots place (dead (get_or slots place d)))
Releases-set start place slots d p h = record {
  order = λ slot i e l low high o. order-set low slots high place (dead (get_or slots place d)) d o h refl (omega arith);
  same = λ slot i e l low high o f.
      let s : get_or slots place d ≡ slot = holder-is low slots high start place slot d o p i (omega arith) (omega arith) in
      let w : weight f slot ≡ f (file_of slot) = rw (lt-ltb 0 slot.len l) refl in
      omega (arith, sum_by-set (weight f) slots place (dead (get_or slots place d)) d h, ap (weight f) s, w);
  sum = λ slot i e l low high o.
      let s : get_or slots place d ≡ slot = holder-is low slots high start place slot d o p i (omega arith) (omega arith) in
      omega (arith, sum_by-set (λ (x : Slot). x.len) slots place (dead (get_or slots place d)) d h, ap (λ (x : Slot). x.len) s);
}
