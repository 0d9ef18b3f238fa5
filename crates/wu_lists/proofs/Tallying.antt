-- Addresses that are counted beside frames.
use Rattle.std.proofs.Common.{◌≡◌, ℕ, suc, ◌+◌, ◌-◌, ◌^◌, ◌<◌, ◌≤◌, ◌&&◌, ◌||◌, nat_le, min, not, Bool, true, false, cond, List, [], ◌∷◌}
use Rattle.std.proofs.Common.{◌++◌, filter, length, get_or, take, drop, refl, ap, ap₂, sym, ◌∙◌, subst, arith, leb, ltb, append-nil}
use Rattle.std.proofs.Common.{append_assoc, length-append, ⊎_elim}
use Rattle.std.specs.List.{AllByRecursion, list_any}
use Rattle.std.proofs.lemmas.Bool.{cases_lt, le-leb, lt-leb, lt-ltb, le-ltb, leb-true, ltb-true, and_left, and_right, and_from, and_parts}
use Rattle.std.proofs.lemmas.List.{take-append-drop}
use Rattle.std.proofs.lemmas.List.Folds.{list_any-append}
use Rattle.std.proofs.lemmas.List.Sums.{sum_by-cons}
use Rattle.wu_base.specs.declared.addresses.Range.{Range}
use Rattle.wu_layout.specs.Postings.{is_live}
use Rattle.wu_base.specs.Ranges.{frames_with, is_in}
use Rattle.wu_lists.specs.declared.tallies.Tally.{Tally}
use Rattle.wu_lists.specs.Ascending.{AscendBetween, AreInOrder}
use Rattle.wu_lists.specs.Gaining.{opens, tally_on, tally_on-alike, tally_on-append, with_address, with_frame, with_several}
use Rattle.wu_lists.specs.Tallying.{Counts, Tallies, after_last, tally_of}
use Rattle.wu_lists.proofs.Ascending.{all_from, ascend-bounds, ascend-filter, ascend-last, ascend-length, order-lower}
use Rattle.wu_lists.proofs.Cutting.{all_front, dead_below}

or_none : (b : Bool) → (b || false) ≡ b
or_none true = refl
or_none false = refl

or_one : (b : Bool) → (b || true) ≡ true
or_one true = refl
or_one false = refl

pub ascend-front : (low high : ℕ) (xs ys : List ℕ) → AscendBetween low high (xs ++ ys) → AscendBetween low high xs
ascend-front low high [] ys a = ascend-bounds low high ys a
ascend-front low high (x ∷ xs) ys a = (a.0, ascend-front (x + 1) high xs ys a.1)

-- ---- which frames open

-- an address that lies in no frame opens none
shut : (frames : List Range) (after x : ℕ) → is_live frames x ≡ false → opens frames after x ≡ false
shut [] after x e = refl
shut (f ∷ fs) after x e =
    elim (is_in f x) as (λ b. (b || is_live fs x) ≡ false → ((b && nat_le after f.start) || opens fs after x) ≡ false) [
      | true ↦ λ t. absurd (let never : true ≡ false = t in cc)
      | false ↦ λ t. shut fs after x t
    ] e

passed : (f : Range) (fs : List Range) (after x : ℕ) → f.start + f.len ≤ x → opens (f ∷ fs) after x ≡ opens fs after x
passed f fs after x l =
    let away : is_in f x ≡ false = and_right _ _ (le-ltb x (f.start + f.len) l) in
    rw away refl

open_in_ended : (ended left : List Range) (low after x : ℕ) → AllByRecursion (λ f. f.start + f.len ≤ low) ended → low ≤ x
    → opens left after x ≡ opens (ended ++ left) after x
open_in_ended [] left low after x e l = refl
open_in_ended (f ∷ fs) left low after x e l =
    open_in_ended fs left low after x e.1 l ∙ sym (passed f (fs ++ left) after x (omega (arith, e.0)))

-- frames that end before an address aren't opened by later ones
pub opens-drop : (n low : ℕ) (frames : List Range) → AllByRecursion (λ f. f.start + f.len ≤ low) (take n frames)
    → (after x : ℕ) → low ≤ x → opens (drop n frames) after x ≡ opens frames after x
opens-drop n low frames e after x l =
    open_in_ended (take n frames) (drop n frames) low after x e l
    ∙ ap (λ (fs : List Range). opens fs after x) (take-append-drop n frames)

-- ---- the addresses of one frame

module _ (f : Range) (later : List Range) (high : ℕ) (order : AreInOrder 0 high (f ∷ later)) where
  inside_opens : (after x : ℕ) → f.start ≤ x → x < f.start + f.len → opens (f ∷ later) after x ≡ nat_le after f.start
  inside_opens after x l h =
      let inside : is_in f x ≡ true = and_from _ _ (le-leb f.start x l) (lt-ltb x (f.start + f.len) h) in
      let others : opens later after x ≡ false = shut later after x (dead_below (f.start + f.len) high x later h order.1) in
      rw (inside, others) (or_none (nat_le after f.start))

  -- those after its first
  more_inside : (t : Tally) (xs : List ℕ) → t.hits ≤ 2 ^ 64 - 1 → f.start < t.after → AllByRecursion (λ x. f.start ≤ x) xs
      → AllByRecursion (λ x. x < f.start + f.len) xs
      → tally_on (f ∷ later) t xs
      ≡ record { hits = min (t.hits + length xs) (2 ^ 64 - 1); frames = t.frames; after = after_last t.after xs }
  more_inside t [] few l a b =
      let same : t.hits ≡ min (t.hits + 0) (2 ^ 64 - 1) = omega arith in
      ap (λ (n : ℕ). record { hits = n; frames = t.frames; after = t.after }) same
  more_inside t (x ∷ xs) few l a b =
      let hits : ℕ = min (t.hits + 1) (2 ^ 64 - 1) in
      let none : opens (f ∷ later) t.after x ≡ false = inside_opens t.after x a.0 b.0 ∙ lt-leb t.after f.start l in
      let same : min (hits + length xs) (2 ^ 64 - 1) ≡ min (t.hits + suc (length xs)) (2 ^ 64 - 1) = omega arith in
      ap (λ (o : Bool). tally_on (f ∷ later) (record {
        hits = hits;
        frames = cond o (min (t.frames + 1) (2 ^ 64 - 1)) t.frames;
        after = x + 1;
      }) xs) none
      ∙ more_inside (record { hits = hits; frames = t.frames; after = x + 1 }) xs (omega arith) (omega (arith, a.0)) a.1 b.1
      ∙ ap (λ (n : ℕ). record { hits = n; frames = t.frames; after = after_last (x + 1) xs }) same

  pub inside_frame : (t : Tally) (xs : List ℕ) → AllByRecursion (λ x. f.start ≤ x) xs → AllByRecursion (λ x. x < f.start + f.len) xs
      → tally_on (f ∷ later) t xs ≡ with_frame f.start t xs
  inside_frame t [] a b = refl
  inside_frame t (x ∷ xs) a b =
      let hits : ℕ = min (t.hits + 1) (2 ^ 64 - 1) in
      let frames : ℕ = cond (nat_le t.after f.start) (min (t.frames + 1) (2 ^ 64 - 1)) t.frames in
      let same : min (hits + length xs) (2 ^ 64 - 1) ≡ min (t.hits + suc (length xs)) (2 ^ 64 - 1) = omega arith in
      ap (λ (o : Bool). tally_on (f ∷ later) (record {
        hits = hits;
        frames = cond o (min (t.frames + 1) (2 ^ 64 - 1)) t.frames;
        after = x + 1;
      }) xs) (inside_opens t.after x a.0 b.0)
      ∙ more_inside (record { hits = hits; frames = frames; after = x + 1 }) xs (omega arith) (omega (arith, a.0)) a.1 b.1
      ∙ ap (λ (n : ℕ). record { hits = n; frames = frames; after = after_last (x + 1) xs }) same

  -- and then others, of later frames
  frame_first : (t : Tally) (inside rest : List ℕ) → AllByRecursion (λ x. f.start ≤ x) inside
      → AllByRecursion (λ x. x < f.start + f.len) inside → AllByRecursion (λ x. f.start + f.len ≤ x) rest
      → tally_on (f ∷ later) t (inside ++ rest) ≡ tally_on later (with_frame f.start t inside) rest
  frame_first t inside rest a b over =
      tally_on-append (f ∷ later) t inside rest
      ∙ ap (λ (u : Tally). tally_on (f ∷ later) u rest) (inside_frame t inside a b)
      ∙ tally_on-alike (f ∷ later) later (f.start + f.len) (passed f later) (with_frame f.start t inside) rest over

pub counted_first : (high : ℕ) (left : List Range) (d : Range) (t : Tally) (from_start inside after : List ℕ) → 0 < length left
    → AreInOrder 0 high left → inside ++ after ≡ from_start → AscendBetween (get_or left 0 d).start high from_start
    → AllByRecursion (λ x. x < (get_or left 0 d).start + (get_or left 0 d).len) inside
    → AscendBetween ((get_or left 0 d).start + (get_or left 0 d).len) high after
    → tally_on left t (inside ++ filter (is_live (drop 1 left)) after)
    ≡ tally_on (drop 1 left) (with_frame (get_or left 0 d).start t inside) (filter (is_live (drop 1 left)) after)
counted_first high [] d t from_start inside after l o i q r s = absurd (omega arith)
counted_first high (f ∷ fs) d t from_start inside after l o i q r s =
    let from : AscendBetween f.start high (inside ++ after) = subst (AscendBetween f.start high) (sym i) q in
    frame_first f fs high o t inside (filter (is_live fs) after)
    (all_front (λ x. f.start ≤ x) inside after (all_from f.start high (inside ++ after) from)) r
    (all_from (f.start + f.len) high (filter (is_live fs) after) (ascend-filter (is_live fs) (f.start + f.len) high after s))

abbrev pub tally_with : ℕ → ℕ → ℕ → Tally
tally_with hits frames after = record { hits = hits; frames = frames; after = after }

same_tally : (hits frames after hits_too frames_too after_too : ℕ) → hits ≡ hits_too → frames ≡ frames_too → after ≡ after_too
    → tally_with hits frames after ≡ tally_with hits_too frames_too after_too
same_tally hits frames after hits_too frames_too after_too h f a =
    ap (λ (n : ℕ). tally_with n frames after) h ∙ ap₂ (tally_with hits_too) f a

-- the last address, by its place
pub after_place : (address : ℕ) (later : List ℕ) (d : ℕ) → after_last (address + 1) later ≡ get_or (address ∷ later) (length later) d + 1
after_place address [] d = refl
after_place address (x ∷ later) d = after_place x later d

pub counted_several : (start : ℕ) (t now : Tally) (count after : ℕ) → now.hits ≡ min (t.hits + count) (2 ^ 64 - 1)
    → now.frames ≡ cond (nat_le t.after start) (min (t.frames + 1) (2 ^ 64 - 1)) t.frames
    → tally_with now.hits now.frames after ≡ with_several start t count after
counted_several start t now count after h f =
    same_tally now.hits now.frames after (min (t.hits + count) (2 ^ 64 - 1))
    (cond (nat_le t.after start) (min (t.frames + 1) (2 ^ 64 - 1)) t.frames) after h f refl

pub counted_frame : (start : ℕ) (t : Tally) (addresses : List ℕ) (d : ℕ) → 0 < length addresses
    → with_several start t (length addresses) (get_or addresses (length addresses - 1) d + 1) ≡ with_frame start t addresses
counted_frame start t [] d some = absurd (omega arith)
counted_frame start t (x ∷ xs) d some =
    let place : length (x ∷ xs) - 1 ≡ length xs = omega arith in
    ap (with_several start t (length (x ∷ xs))) (ap (λ (n : ℕ). get_or (x ∷ xs) n d + 1) place ∙ sym (after_place x xs d))

-- ---- one more address than those of a tally

after_least : (before high : ℕ) (xs : List ℕ) → AscendBetween before high xs → before ≤ after_last before xs
after_least before high [] a = omega arith
after_least before high (x ∷ xs) a = let r : x + 1 ≤ after_last (x + 1) xs = after_least (x + 1) high xs a.1 in omega (arith, a.0)

after_push : (before x : ℕ) (xs : List ℕ) → after_last before (xs ++ x ∷ []) ≡ x + 1
after_push before x [] = refl
after_push before x (y ∷ ys) = after_push (y + 1) x ys

-- of the addresses before x one lies in the frame of x exactly where the last one does
before_in : (f : Range) (x before : ℕ) (xs : List ℕ) → f.start ≤ x → x < f.start + f.len → before ≤ f.start → AscendBetween before x xs
    → list_any (is_in f) xs ≡ not (nat_le (after_last before xs) f.start)
before_in f x before [] l h b a = sym (ap not (le-leb before f.start b))
before_in f x before (y ∷ ys) l h b a =
    ⊎_elim
    (λ (below : y < f.start).
    let away : is_in f y ≡ false = and_left _ _ (lt-leb f.start y below) in
    rw away (before_in f x (y + 1) ys l h (omega arith) a.1))
    (λ (from : f.start ≤ y).
    let bound : y + 1 ≤ x = ascend-bounds (y + 1) x ys a.1 in
    let here : is_in f y ≡ true = and_from _ _ (le-leb f.start y from) (lt-ltb y (f.start + f.len) (omega arith)) in
    let least : y + 1 ≤ after_last (y + 1) ys = after_least (y + 1) x ys a.1 in
    rw (here, lt-leb (after_last (y + 1) ys) f.start (omega arith)) refl)
    (cases_lt y f.start)

frames_cons : (f : Range) (fs : List Range) (xs : List ℕ)
    → frames_with (f ∷ fs) xs ≡ cond (list_any (is_in f) xs) 1 0 + frames_with fs xs
frames_cons f fs xs = sum_by-cons (λ (g : Range). cond (list_any (is_in g) xs) 1 0) f fs

sum_none : (all next : ℕ) → all ≡ 0 + next → next ≡ 0 → all ≡ 0
sum_none all next p q = omega (arith, p, q)

pub frames_with-none : (frames : List Range) → frames_with frames [] ≡ 0
frames_with-none [] = refl
frames_with-none (f ∷ fs) = sum_none (frames_with (f ∷ fs) []) (frames_with fs []) (frames_cons f fs []) (frames_with-none fs)

sum_first : (b : Bool) (all old next now : ℕ) → all ≡ 1 + next → next ≡ now + 0 → old ≡ cond (not b) 1 0 + now → all ≡ old + cond b 1 0
sum_first true all old next now p q r = omega (arith, p, q, r)
sum_first false all old next now p q r = omega (arith, p, q, r)

sum_later : (all old next now first more : ℕ) → all ≡ first + next → next ≡ now + more → old ≡ first + now → all ≡ old + more
sum_later all old next now first more p q r = omega (arith, p, q, r)

frames_step : (low high : ℕ) (frames : List Range) (x : ℕ) (found : List ℕ) → AreInOrder low high frames → AscendBetween 0 x found
    → frames_with frames (found ++ x ∷ []) ≡ frames_with frames found + cond (opens frames (after_last 0 found) x) 1 0
frames_step low high [] x found o a = refl
frames_step low high (f ∷ fs) x found o a =
    let after : ℕ = after_last 0 found in
    let others : frames_with fs (found ++ x ∷ []) ≡ frames_with fs found + cond (opens fs after x) 1 0 =
    frames_step (f.start + f.len) high fs x found o.1 a in
    let any : list_any (is_in f) (found ++ x ∷ []) ≡ (list_any (is_in f) found || (is_in f x || false)) =
    list_any-append (is_in f) found (x ∷ []) in
    elim (is_in f x) as
    (λ b. is_in f x ≡ b
    → frames_with (f ∷ fs) (found ++ x ∷ []) ≡ frames_with (f ∷ fs) found + cond (opens (f ∷ fs) after x) 1 0) [
      | true ↦ λ e.
          let parts = and_parts (leb f.start x) (ltb x (f.start + f.len)) e in
          let from : f.start ≤ x = leb-true f.start x parts.0 in
          let to : x < f.start + f.len = ltb-true x (f.start + f.len) parts.1 in
          let one : list_any (is_in f) (found ++ x ∷ []) ≡ true =
          any ∙ ap (λ (b : Bool). list_any (is_in f) found || (b || false)) e ∙ or_one (list_any (is_in f) found) in
          let none : opens fs after x ≡ false = shut fs after x (dead_below (f.start + f.len) high x fs to o.1) in
          sum_first (nat_le after f.start) (frames_with (f ∷ fs) (found ++ x ∷ [])) (frames_with (f ∷ fs) found)
          (frames_with fs (found ++ x ∷ [])) (frames_with fs found)
          (frames_cons f fs (found ++ x ∷ []) ∙ ap (λ (b : Bool). cond b 1 0 + frames_with fs (found ++ x ∷ [])) one)
          (others ∙ ap (λ (b : Bool). frames_with fs found + cond b 1 0) none)
          (frames_cons f fs found
          ∙ ap (λ (b : Bool). cond b 1 0 + frames_with fs found) (before_in f x 0 found from to (omega arith) a))
          ∙ ap (λ (b : Bool). frames_with (f ∷ fs) found + cond b 1 0)
          (sym (inside_opens f fs high (order-lower 0 low high (f ∷ fs) (omega arith) o) after x from to))
      | false ↦ λ e.
          let same : list_any (is_in f) (found ++ x ∷ []) ≡ list_any (is_in f) found =
          any ∙ ap (λ (b : Bool). list_any (is_in f) found || (b || false)) e ∙ or_none (list_any (is_in f) found) in
          let still : opens fs after x ≡ opens (f ∷ fs) after x = rw e refl in
          sum_later (frames_with (f ∷ fs) (found ++ x ∷ [])) (frames_with (f ∷ fs) found) (frames_with fs (found ++ x ∷ []))
          (frames_with fs found) (cond (list_any (is_in f) found) 1 0) (cond (opens (f ∷ fs) after x) 1 0)
          (frames_cons f fs (found ++ x ∷ []) ∙ ap (λ (b : Bool). cond b 1 0 + frames_with fs (found ++ x ∷ [])) same)
          (others ∙ ap (λ (b : Bool). frames_with fs found + cond b 1 0) still)
          (frames_cons f fs found)
    ] refl

raised : (b : Bool) (before after most high : ℕ) → before ≤ most → most + 1 ≤ high → after ≡ before + cond b 1 0
    → (cond b (min (before + 1) high) before ≡ after) × (after ≤ most + 1)
raised true before after most high l h e = (omega (arith, e), omega (arith, e))
raised false before after most high l h e = (omega (arith, e), omega (arith, e))

-- ---- counted one by one, and all at once

module _ (frames : List Range) (order : AreInOrder 0 (2 ^ 64 - 1) frames) where
  abbrev IsFew : List ℕ → Type 0
  IsFew found = frames_with frames found ≤ length found

  module _ (found : List ℕ) (x : ℕ) (a : AscendBetween 0 (2 ^ 64 - 1) (found ++ x ∷ [])) (few : IsFew found) where
    long : length (found ++ x ∷ []) ≡ length found + 1
    long = length-append found (x ∷ [])

    short : length found + 1 ≤ 2 ^ 64 - 1
    short = let most = ascend-length 0 (2 ^ 64 - 1) (found ++ x ∷ []) a in omega (arith, long, most)

    frames_now : (cond (opens frames (after_last 0 found) x) (min (frames_with frames found + 1) (2 ^ 64 - 1)) (frames_with frames found)
        ≡ frames_with frames (found ++ x ∷ []))
        × (frames_with frames (found ++ x ∷ []) ≤ length found + 1)
    frames_now =
        raised (opens frames (after_last 0 found) x) (frames_with frames found) (frames_with frames (found ++ x ∷ [])) (length found)
        (2 ^ 64 - 1) few short
        (frames_step 0 (2 ^ 64 - 1) frames x found order (ascend-last 0 (2 ^ 64 - 1) x found a).0)

    few_step : IsFew (found ++ x ∷ [])
    few_step = let most = frames_now.1 in omega (arith, long, most)

    tally_step : with_address frames (tally_of frames found) x ≡ tally_of frames (found ++ x ∷ [])
    tally_step =
        let hits : min (length found + 1) (2 ^ 64 - 1) ≡ length (found ++ x ∷ []) = omega (arith, long, short) in
        same_tally (min (length found + 1) (2 ^ 64 - 1)) _ (x + 1) (length (found ++ x ∷ [])) (frames_with frames (found ++ x ∷ []))
        (after_last 0 (found ++ x ∷ [])) hits frames_now.0 (sym (after_push 0 x found))

  regroup : (found : List ℕ) (x : ℕ) (more : List ℕ) → found ++ x ∷ more ≡ (found ++ x ∷ []) ++ more
  regroup found x more = sym (append_assoc found (x ∷ []) more)

  few_more : (found more : List ℕ) → AscendBetween 0 (2 ^ 64 - 1) (found ++ more) → IsFew found → IsFew (found ++ more)
  few_more found [] a few = subst IsFew (sym (append-nil found)) few
  few_more found (x ∷ more) a few =
      let all : AscendBetween 0 (2 ^ 64 - 1) ((found ++ x ∷ []) ++ more) =
      subst (AscendBetween 0 (2 ^ 64 - 1)) (regroup found x more) a in
      subst IsFew (sym (regroup found x more))
      (few_more (found ++ x ∷ []) more all (few_step found x (ascend-front 0 (2 ^ 64 - 1) (found ++ x ∷ []) more all) few))

  tally_more : (found more : List ℕ) → AscendBetween 0 (2 ^ 64 - 1) (found ++ more) → IsFew found
      → tally_on frames (tally_of frames found) more ≡ tally_of frames (found ++ more)
  tally_more found [] a few = ap (tally_of frames) (sym (append-nil found))
  tally_more found (x ∷ more) a few =
      let all : AscendBetween 0 (2 ^ 64 - 1) ((found ++ x ∷ []) ++ more) =
      subst (AscendBetween 0 (2 ^ 64 - 1)) (regroup found x more) a in
      let front : AscendBetween 0 (2 ^ 64 - 1) (found ++ x ∷ []) = ascend-front 0 (2 ^ 64 - 1) (found ++ x ∷ []) more all in
      ap (λ (t : Tally). tally_on frames t more) (tally_step found x front few)
      ∙ tally_more (found ++ x ∷ []) more all (few_step found x front few)
      ∙ ap (tally_of frames) (sym (regroup found x more))

  pub counts : (more : List ℕ) (before after : Tally) → after ≡ tally_on frames before more → Counts frames more before after
  counts more before after e = λ found a is.
      let none : IsFew [] = let zero = frames_with-none frames in omega (arith, zero) in
      e
      ∙ ap (λ (t : Tally). tally_on frames t more) is
      ∙ tally_more found more a (few_more [] found (ascend-front 0 (2 ^ 64 - 1) found more a) none)

  pub tallied : (Kind : List ℕ → Type 0) (gathered : List ℕ) (before after : Tally)
      → after ≡ tally_on frames before (filter (is_live frames) gathered) → Kind (filter (is_live frames) gathered)
      → Tallies frames Kind before after
  tallied Kind gathered before after gained kind =
      let more : List ℕ = filter (is_live frames) gathered in
      record { more = more; kind = kind; told = counts more before after gained }
