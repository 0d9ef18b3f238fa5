-- A part, and what is recorded of a file, is a few numbers, with which bytes start in one way at most.
use Rattle.std.proofs.Common.{◌≡◌, ℕ, ◌+◌, ◌-◌, ◌<◌, ◌≤◌, List, [], ◌∷◌, ◌++◌, length, get_or, set, take, drop, refl, ap, sym, subst, ◌∙◌}
use Rattle.std.proofs.Common.{append-nil, arith}
use Rattle.std.specs.Prelude.{map}
use Rattle.std.proofs.lemmas.List.{drop_more, length-take, map-append, take-append-drop, take_all, take_more_set}
use Rattle.wu_base.specs.declared.addresses.PartRec.{PartRec}
use Rattle.wu_image.specs.declared.records.FileRec.{FileRec}
use Rattle.wu_image.specs.Items.{Item, Number, StartsWith}
use Rattle.wu_image.specs.Checkpoints.{text_items, part_items}
use Rattle.wu_image.specs.Reading.{FitsPart}
use Rattle.wu_image.proofs.ItemLemmas.{IsUnique, after_number, joined}

-- ---- as many numbers as are asked

-- as many numbers are the same
pub same_numbers : (ns ms : List ℕ) (xs ys : List Item) (bytes rest last : List ℕ) → length ns ≡ length ms
    → StartsWith bytes (map Number ns ++ xs) rest → StartsWith bytes (map Number ms ++ ys) last
    → (ns ≡ ms) × (left : List ℕ) × StartsWith left xs rest × StartsWith left ys last
same_numbers [] [] xs ys bytes rest last l s t = (refl, bytes, s, t)
same_numbers [] (m ∷ ms) xs ys bytes rest last l s t = absurd (omega arith)
same_numbers (n ∷ ns) [] xs ys bytes rest last l s t = absurd (omega arith)
same_numbers (n ∷ ns) (m ∷ ms) xs ys bytes rest last l s t =
    let a = after_number bytes n m (map Number ns ++ xs) (map Number ms ++ ys) rest last s t in
    let more = same_numbers ns ms xs ys a.left rest last (omega arith) a.mine a.its in
    (ap (λ k. k ∷ ns) a.number ∙ ap (λ (k : List ℕ). m ∷ k) more.0, more.1, more.2, more.3)

-- one number fewer stands there than are asked
pub too_few_numbers : (bytes rest last numbers others : List ℕ) (place : ℕ) → place < length numbers → length others ≡ length numbers
    → StartsWith bytes (map Number (take place numbers)) rest
    → ((number : ℕ) (items : List Item) (after : List ℕ) → StartsWith rest (Number number ∷ items) after → ⊥)
    → StartsWith bytes (map Number others) last → ⊥
too_few_numbers bytes rest last numbers others place inside long s none t =
    let split : map Number others ≡ map Number (take place others) ++ map Number (drop place others) =
    ap (λ (l : List ℕ). map Number l) (sym (take-append-drop place others)) ∙ map-append Number (take place others) (drop place others) in
    let h = same_numbers (take place numbers) (take place others) [] (map Number (drop place others)) bytes rest last
    (omega (arith, length-take place numbers, length-take place others))
    (subst (λ (i : List Item). StartsWith bytes i rest) (sym (append-nil (map Number (take place numbers)))) s)
    (subst (λ (i : List Item). StartsWith bytes i last) split t) in
    let more = subst (λ (l : List ℕ). StartsWith rest (map Number l) last) (drop_more others place 0 (omega arith))
    (subst (λ (b : List ℕ). StartsWith b (map Number (drop place others)) last) h.2 h.3) in
    none (get_or others place 0) (map Number (drop (place + 1) others)) last more

-- one number more
pub one_number_more : (bytes rest after numbers new : List ℕ) (place number : ℕ) → place < length numbers
    → StartsWith bytes (map Number (take place numbers)) rest → StartsWith rest (Number number ∷ []) after
    → new ≡ set numbers place number → StartsWith bytes (map Number (take (place + 1) new)) after
one_number_more bytes rest after numbers new place number inside s t e =
    let split : map Number (take (place + 1) new) ≡ map Number (take place numbers) ++ Number number ∷ [] =
    ap (λ (l : List ℕ). map Number (take (place + 1) l)) e
    ∙ (ap (λ (l : List ℕ). map Number l) (take_more_set numbers place number inside)
    ∙ map-append Number (take place numbers) (number ∷ [])) in
    subst (λ (i : List Item). StartsWith bytes i after) (sym split)
    (joined bytes rest after (map Number (take place numbers)) (Number number ∷ []) s t)

-- all the numbers
pub all_numbers : (bytes rest numbers : List ℕ) (place : ℕ) → length numbers ≤ place
    → StartsWith bytes (map Number (take place numbers)) rest → StartsWith bytes (map Number numbers) rest
all_numbers bytes rest numbers place long s =
    subst (λ (l : List ℕ). StartsWith bytes (map Number l) rest) (take_all place numbers long) s

-- ---- parts

part_numbers : PartRec → List ℕ
part_numbers part = part.blob ∷ part.size ∷ part.generation ∷ part.low ∷ (part.high - part.low) ∷ part.stored ∷ []

part_with : List ℕ → PartRec
part_with ns = record {
  blob = get_or ns 0 0;
  size = get_or ns 1 0;
  generation = get_or ns 2 0;
  low = get_or ns 3 0;
  high = get_or ns 3 0 + get_or ns 4 0;
  stored = get_or ns 5 0;
}

part_is : (part : PartRec) → part.low ≤ part.high → part ≡ part_with (part_numbers part)
unfolding part_numbers part_with
part_is part span =
    let make : ℕ → PartRec = λ h. record part { high = h } in
    let high : part.high ≡ part.low + (part.high - part.low) = omega arith in
    ap make high

pub unique_part : IsUnique part_items FitsPart
unfolding part_numbers
unique_part = record {
  one = λ x y bytes rest last p q s t.
      let a = same_numbers (part_numbers x) (part_numbers y) [] [] bytes rest last refl s t in
      (part_is x p.span ∙ (ap part_with a.0 ∙ sym (part_is y q.span)), sym a.2 ∙ a.3);
}

-- ---- what is recorded of files

file_with : ℕ → List ℕ → FileRec
file_with ino ns = record {
  ino = ino;
  len = get_or ns 0 0;
  blob = get_or ns 1 0;
  range = record { start = get_or ns 2 0; len = get_or ns 3 0 };
}

text_numbers : FileRec → List ℕ
text_numbers file = file.len ∷ file.blob ∷ file.range.start ∷ file.range.len ∷ []

pub same_text_items : (x y : FileRec) (bytes rest last : List ℕ) → x.ino ≡ y.ino → StartsWith bytes (text_items x) rest
    → StartsWith bytes (text_items y) last → (x ≡ y) × (rest ≡ last)
unfolding text_numbers file_with
same_text_items x y bytes rest last e s t =
    let a = same_numbers (text_numbers x) (text_numbers y) [] [] bytes rest last refl s t in
    (ap (λ i. file_with i (text_numbers x)) e ∙ ap (λ ns. file_with y.ino ns) a.0, sym a.2 ∙ a.3)

-- ---- parts and records by their numbers

-- six numbers, and four
pub six : (numbers : List ℕ) → length numbers ≡ 6
    → numbers ≡ get_or numbers 0 0 ∷ get_or numbers 1 0 ∷ get_or numbers 2 0 ∷ get_or numbers 3 0 ∷ get_or numbers 4 0
    ∷ get_or numbers 5 0 ∷ []
six [] l = absurd (omega arith)
six (a ∷ []) l = absurd (omega arith)
six (a ∷ b ∷ []) l = absurd (omega arith)
six (a ∷ b ∷ c ∷ []) l = absurd (omega arith)
six (a ∷ b ∷ c ∷ d ∷ []) l = absurd (omega arith)
six (a ∷ b ∷ c ∷ d ∷ e ∷ []) l = absurd (omega arith)
six (a ∷ b ∷ c ∷ d ∷ e ∷ f ∷ []) l = refl
six (a ∷ b ∷ c ∷ d ∷ e ∷ f ∷ g ∷ numbers) l = absurd (omega arith)

pub four : (numbers : List ℕ) → length numbers ≡ 4
    → numbers ≡ get_or numbers 0 0 ∷ get_or numbers 1 0 ∷ get_or numbers 2 0 ∷ get_or numbers 3 0 ∷ []
four [] l = absurd (omega arith)
four (a ∷ []) l = absurd (omega arith)
four (a ∷ b ∷ []) l = absurd (omega arith)
four (a ∷ b ∷ c ∷ []) l = absurd (omega arith)
four (a ∷ b ∷ c ∷ d ∷ []) l = refl
four (a ∷ b ∷ c ∷ d ∷ e ∷ numbers) l = absurd (omega arith)

-- the part that six numbers spell
pub part_spelled : (bytes rest numbers : List ℕ) (part : PartRec) → length numbers ≡ 6 → StartsWith bytes (map Number numbers) rest
    → part.blob ≡ get_or numbers 0 0 → part.size ≡ get_or numbers 1 0 → part.generation ≡ get_or numbers 2 0
    → part.low ≡ get_or numbers 3 0 → part.high ≡ get_or numbers 3 0 + get_or numbers 4 0 → part.stored ≡ get_or numbers 5 0
    → StartsWith bytes (part_items part) rest
unfolding part_numbers
part_spelled bytes rest numbers part long s blob size generation low high stored =
    let span : part.high - part.low ≡ get_or numbers 4 0 = omega arith in
    let make : ℕ → ℕ → ℕ → ℕ → ℕ → ℕ → List ℕ = λ b n g l d t. b ∷ n ∷ g ∷ l ∷ d ∷ t ∷ [] in
    let same : numbers ≡ part_numbers part =
    six numbers long
    ∙ (ap (λ x. make x (get_or numbers 1 0) (get_or numbers 2 0) (get_or numbers 3 0) (get_or numbers 4 0) (get_or numbers 5 0)) (sym blob)
    ∙ (ap (λ x. make part.blob x (get_or numbers 2 0) (get_or numbers 3 0) (get_or numbers 4 0) (get_or numbers 5 0)) (sym size)
    ∙ (ap (λ x. make part.blob part.size x (get_or numbers 3 0) (get_or numbers 4 0) (get_or numbers 5 0)) (sym generation)
    ∙ (ap (λ x. make part.blob part.size part.generation x (get_or numbers 4 0) (get_or numbers 5 0)) (sym low)
    ∙ (ap (λ x. make part.blob part.size part.generation part.low x (get_or numbers 5 0)) (sym span)
    ∙ ap (λ x. make part.blob part.size part.generation part.low (part.high - part.low) x) (sym stored)))))) in
    subst (λ (l : List ℕ). StartsWith bytes (map Number l) rest) same s

-- the numbers that a part's spelling begins with
pub numbers_of_part : (bytes rest last numbers : List ℕ) (part : PartRec) → length numbers ≡ 6 → StartsWith bytes (map Number numbers) rest
    → StartsWith bytes (part_items part) last
    → (part.generation ≡ get_or numbers 2 0) × (part.low ≡ get_or numbers 3 0) × (part.high - part.low ≡ get_or numbers 4 0)
unfolding part_numbers
numbers_of_part bytes rest last numbers part long s t =
    let h = same_numbers numbers (part_numbers part) [] [] bytes rest last long
    (subst (λ (i : List Item). StartsWith bytes i rest) (sym (append-nil (map Number numbers))) s) t in (
      ap (λ (l : List ℕ). get_or l 2 0) (sym h.0),
      ap (λ (l : List ℕ). get_or l 3 0) (sym h.0),
      ap (λ (l : List ℕ). get_or l 4 0) (sym h.0),
    )

pub text_spelled : (bytes rest numbers : List ℕ) (file : FileRec) → length numbers ≡ 4 → StartsWith bytes (map Number numbers) rest
    → file.len ≡ get_or numbers 0 0 → file.blob ≡ get_or numbers 1 0 → file.range.start ≡ get_or numbers 2 0
    → file.range.len ≡ get_or numbers 3 0 → StartsWith bytes (text_items file) rest
unfolding text_numbers
text_spelled bytes rest numbers file long s len blob start addresses =
    let make : ℕ → ℕ → ℕ → ℕ → List ℕ = λ l b t n. l ∷ b ∷ t ∷ n ∷ [] in
    let same : numbers ≡ text_numbers file =
    four numbers long
    ∙ (ap (λ x. make x (get_or numbers 1 0) (get_or numbers 2 0) (get_or numbers 3 0)) (sym len)
    ∙ (ap (λ x. make file.len x (get_or numbers 2 0) (get_or numbers 3 0)) (sym blob)
    ∙ (ap (λ x. make file.len file.blob x (get_or numbers 3 0)) (sym start)
    ∙ ap (λ x. make file.len file.blob file.range.start x) (sym addresses)))) in
    subst (λ (l : List ℕ). StartsWith bytes (map Number l) rest) same s

pub length_of_text : (bytes rest last numbers : List ℕ) (file : FileRec) → length numbers ≡ 4 → StartsWith bytes (map Number numbers) rest
    → StartsWith bytes (text_items file) last → file.len ≡ get_or numbers 0 0
unfolding text_numbers
length_of_text bytes rest last numbers file long s t =
    let h = same_numbers numbers (text_numbers file) [] [] bytes rest last long
    (subst (λ (i : List Item). StartsWith bytes i rest) (sym (append-nil (map Number numbers))) s) t in
    ap (λ (l : List ℕ). get_or l 0 0) (sym h.0)
