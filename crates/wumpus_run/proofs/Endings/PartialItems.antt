-- Bytes in which no item is whole.
use Rattle.std.proofs.Common.{◌≡◌, ℕ, ◌-◌, ◌<◌, Bool, true, false, List, [], ◌++◌, length, take, drop, refl, sym, ap, ◌∙◌, arith}
use Rattle.std.proofs.Common.{append-nil, length-append}
use Rattle.std.proofs.lemmas.List.{take-append-drop, take-append-le, length-take-le}
use Rattle.wu_script.specs.declared.types.Item.{Item}
use Rattle.wu_script.specs.Holding.{Held, but_last}
use Rattle.wu_script.specs.Items.{First, first_of, whole_items_of, IsOneItem}
use Rattle.wu_script.proofs.ItemListLemmas.{first_more}
use Rattle.wu_script.proofs.UnclosedLemmas.{open_none}

-- no item is whole in a prefix of one item
none_whole : (last_read : ℕ) (new : Held) (item : Item) (used : List ℕ) (n : ℕ) → IsOneItem last_read new item used → n < length used
    → whole_items_of (take n used) ≡ []
none_whole last_read new item used n one less = by_case (first_of (take n used)).closed refl
  where
    by_case : (closed : Bool) → (first_of (take n used)).closed ≡ closed → whole_items_of (take n used) ≡ []
    by_case false unclosed = open_none (take n used) unclosed
    by_case true closed =
        let first : first_of used
        ≡ record { entry = (first_of (take n used)).entry; rest = (first_of (take n used)).rest ++ drop n used; closed = true } =
        ap first_of (sym (take-append-drop n used)) ∙ first_more (take n used) (drop n used) closed in
        let none = ap length (sym (ap (λ (f : First). f.rest) first) ∙ one.all) in
        absurd (omega (
          arith,
          none,
          length-append (first_of (take n used)).rest (drop n used),
          ap length (take-append-drop n used),
          length-append
              (take n used) (drop n used),
          length-take-le n used (omega (arith, less)),
          less,
        ))

-- nor in one that isn't closed
none_unclosed : (used : List ℕ) (n : ℕ) → (first_of used).closed ≡ false → whole_items_of (take n used) ≡ []
none_unclosed used n unclosed = by_case (first_of (take n used)).closed refl
  where
    by_case : (closed : Bool) → (first_of (take n used)).closed ≡ closed → whole_items_of (take n used) ≡ []
    by_case false none = open_none (take n used) none
    by_case true closed =
        let first = ap (λ (f : First). f.closed)
        (ap first_of (sym (take-append-drop n used)) ∙ first_more (take n used) (drop n used) closed) in
        cc (first, unclosed)

-- nor in one item and what is held after it, but for the bytes of the last read
pub none_but_last : (last_read : ℕ) (new : Held) (item : Item) (used : List ℕ) → IsOneItem last_read new item used
    → whole_items_of (but_last last_read (used ++ new.bytes)) ≡ []
none_but_last last_read new item used one = by_case (first_of used).closed refl
  where
    n : ℕ
    n = length (used ++ new.bytes) - last_read

    by_case : (closed : Bool) → (first_of used).closed ≡ closed → whole_items_of (take n (used ++ new.bytes)) ≡ []
    by_case true closed =
        let less : n < length used = omega (arith, length-append used new.bytes, one.last.feed closed, one.some) in
        ap whole_items_of (take-append-le n used new.bytes (omega (arith, less))) ∙ none_whole last_read new item used n one less
    by_case false unclosed =
        let all : used ++ new.bytes ≡ used = ap (λ bs. used ++ bs) (one.last.end unclosed).0 ∙ append-nil used in
        ap (λ bs. whole_items_of (take n bs)) all ∙ none_unclosed used n unclosed
