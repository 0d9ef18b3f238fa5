-- Ascending addresses, cut to frames in order.
use Rattle.std.proofs.Common.{◌≡◌, ℕ, ◌+◌, ◌<◌, ◌≤◌, nat_le, Bool, true, false, cond, List, [], ◌∷◌, ◌++◌, filter, length, get_or, drop}
use Rattle.std.proofs.Common.{refl, ap, ap₂, sym, ◌∙◌, subst, arith, ⊎_elim}
use Rattle.std.specs.List.{AllByRecursion}
use Rattle.std.proofs.lemmas.Bool.{cases_lt, le-leb, lt-leb, lt-ltb, le-ltb, and_left, and_right, and_from}
use Rattle.std.proofs.lemmas.List.Elements.{filter-append}
use Rattle.wu_base.specs.declared.addresses.Range.{Range}
use Rattle.wu_layout.specs.Postings.{is_live}
use Rattle.wu_base.specs.Ranges.{is_in}
use Rattle.wu_lists.specs.Ascending.{AscendBetween, AreInOrder}
use Rattle.wu_lists.proofs.Ascending.{all_from}

module _ {X : Type 0} where
  filter-none : (p : X → Bool) (xs : List X) → AllByRecursion (λ x. p x ≡ false) xs → filter p xs ≡ []
  filter-none p [] a = refl
  filter-none p (x ∷ xs) a = rw a.0 (filter-none p xs a.1)

  pub filter-all : (p : X → Bool) (xs : List X) → AllByRecursion (λ x. p x ≡ true) xs → filter p xs ≡ xs
  filter-all p [] a = refl
  filter-all p (x ∷ xs) a = rw a.0 (ap (λ (l : List X). x ∷ l) (filter-all p xs a.1))

  filter-same : (p q : X → Bool) (xs : List X) → AllByRecursion (λ x. p x ≡ q x) xs → filter p xs ≡ filter q xs
  filter-same p q [] a = refl
  filter-same p q (x ∷ xs) a = rw a.0 (ap (λ (l : List X). cond (q x) (x ∷ l) l) (filter-same p q xs a.1))

  pub all_weaker : (P Q : X → Type 0) (xs : List X) → ((x : X) → P x → Q x) → AllByRecursion P xs → AllByRecursion Q xs
  all_weaker P Q [] h a = tt
  all_weaker P Q (x ∷ xs) h a = (h x a.0, all_weaker P Q xs h a.1)

  pub all_both : (P Q R : X → Type 0) (xs : List X) → ((x : X) → P x → Q x → R x) → AllByRecursion P xs → AllByRecursion Q xs
      → AllByRecursion R xs
  all_both P Q R [] h a b = tt
  all_both P Q R (x ∷ xs) h a b = (h x a.0 b.0, all_both P Q R xs h a.1 b.1)

  pub all_front : (P : X → Type 0) (xs ys : List X) → AllByRecursion P (xs ++ ys) → AllByRecursion P xs
  all_front P [] ys a = tt
  all_front P (x ∷ xs) ys a = (a.0, all_front P xs ys a.1)

-- before the first frame there is none
pub dead_below : (low high address : ℕ) (frames : List Range) → address < low → AreInOrder low high frames → is_live frames address ≡ false
dead_below low high address [] l o = refl
dead_below low high address (f ∷ fs) l o =
    let away : is_in f address ≡ false = and_left _ _ (lt-leb f.start address (omega (arith, o.0))) in
    rw away (dead_below (f.start + f.len) high address fs (omega (arith, o.0)) o.1)

pub inside_is_live : (f : Range) (fs : List Range) (address : ℕ) → f.start ≤ address → address < f.start + f.len
    → is_live (f ∷ fs) address ≡ true
inside_is_live f fs address l h =
    let inside : is_in f address ≡ true = and_from _ _ (le-leb f.start address l) (lt-ltb address (f.start + f.len) h) in
    rw inside refl

after_first : (f : Range) (fs : List Range) (address : ℕ) → f.start + f.len ≤ address → is_live (f ∷ fs) address ≡ is_live fs address
after_first f fs address l =
    let away : is_in f address ≡ false = and_right _ _ (le-ltb address (f.start + f.len) l) in
    rw away refl

-- one frame: the addresses before it go, those inside stay, and the others are left to the later frames
pub cut_frame : (high : ℕ) (f : Range) (later : List Range) (before inside after : List ℕ)
    → AreInOrder 0 high (f ∷ later) → AllByRecursion (λ x. x < f.start) before
    → AscendBetween f.start high (inside ++ after) → AllByRecursion (λ x. x < f.start + f.len) inside
    → AscendBetween (f.start + f.len) high after
    → filter (is_live (f ∷ later)) (before ++ (inside ++ after)) ≡ inside ++ filter (is_live later) after
cut_frame high f later before inside after o below from within rest =
    let live : ℕ → Bool = is_live (f ∷ later) in
    let order : AreInOrder f.start high (f ∷ later) = (omega arith, o.1) in
    let none : filter live before ≡ [] =
    filter-none live before
    (all_weaker (λ x. x < f.start) (λ x. live x ≡ false) before (λ x l. dead_below f.start high x (f ∷ later) l order) below) in
    let starts : AllByRecursion (λ x. f.start ≤ x) inside =
    all_front (λ x. f.start ≤ x) inside after (all_from f.start high (inside ++ after) from) in
    let all : filter live inside ≡ inside =
    filter-all live inside
    (all_both (λ x. f.start ≤ x) (λ x. x < f.start + f.len) (λ x. live x ≡ true) inside
    (λ x a b. inside_is_live f later x a b) starts within) in
    let others : filter live after ≡ filter (is_live later) after =
    filter-same live (is_live later) after
    (all_weaker (λ x. f.start + f.len ≤ x) (λ x. live x ≡ is_live later x) after (λ x l. after_first f later x l)
    (all_from (f.start + f.len) high after rest)) in
    filter-append live before (inside ++ after)
    ∙ ap (λ (l : List ℕ). l ++ filter live (inside ++ after)) none
    ∙ filter-append live inside after
    ∙ ap₂ ◌++◌ all others

-- the same of the first of some frames, where `from_start` are the addresses that it leaves
pub cut_first : (high : ℕ) (left later : List Range) (d : Range) (rest before from_start inside after : List ℕ) → 0 < length left
    → later ≡ drop 1 left → AreInOrder 0 high left → before ++ from_start ≡ rest → inside ++ after ≡ from_start
    → AllByRecursion (λ x. x < (get_or left 0 d).start) before
    → AscendBetween (get_or left 0 d).start high from_start
    → AllByRecursion (λ x. x < (get_or left 0 d).start + (get_or left 0 d).len) inside
    → AscendBetween ((get_or left 0 d).start + (get_or left 0 d).len) high after
    → filter (is_live left) rest ≡ inside ++ filter (is_live later) after
cut_first high [] later d rest before from_start inside after l m o b i p q r s = absurd (omega arith)
cut_first high (f ∷ fs) later d rest before from_start inside after l m o b i p q r s =
    let from : AscendBetween f.start high (inside ++ after) = subst (AscendBetween f.start high) (sym i) q in
    ap (filter (is_live (f ∷ fs))) (sym b ∙ ap (λ (l : List ℕ). before ++ l) (sym i))
    ∙ cut_frame high f fs before inside after o p from r s
    ∙ ap (λ (l : List Range). inside ++ filter (is_live l) after) (sym m)

pub dead_in_ended : (ended left : List Range) (low address : ℕ) → AllByRecursion (λ f. f.start + f.len ≤ low) ended → low ≤ address
    → is_live left address ≡ is_live (ended ++ left) address
dead_in_ended [] left low address e l = refl
dead_in_ended (f ∷ fs) left low address e l =
    dead_in_ended fs left low address e.1 l ∙ sym (after_first f (fs ++ left) address (omega (arith, e.0)))

no_frames : (addresses : List ℕ) → filter (is_live []) addresses ≡ []
no_frames [] = refl
no_frames (x ∷ xs) = no_frames xs

pub none_left : (frames : List Range) (addresses : List ℕ) → length frames < 1 → filter (is_live frames) addresses ≡ []
none_left [] addresses l = no_frames addresses
none_left (f ∷ fs) addresses l = absurd (omega arith)

-- no frame has an address below the low one
pub filter-from : (low high : ℕ) (frames : List Range) → AreInOrder low high frames → (addresses : List ℕ)
    → filter (is_live frames) (filter (nat_le low) addresses) ≡ filter (is_live frames) addresses
filter-from low high frames o [] = refl
filter-from low high frames o (x ∷ xs) =
    ⊎_elim
    (λ (below : x < low).
    rw (lt-leb low x below, dead_below low high x frames below o) (filter-from low high frames o xs))
    (λ (from : low ≤ x).
    rw (le-leb low x from) (ap (λ (l : List ℕ). cond (is_live frames x) (x ∷ l) l) (filter-from low high frames o xs)))
    (cases_lt x low)
