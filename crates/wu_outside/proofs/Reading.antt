-- What a read out of memory takes.
use Rattle.std.proofs.Common.{◌≡◌, ℕ, ◌+◌, ◌-◌, ◌≤◌, List, ◌++◌, Option, arith, length, take, drop, slice_range, sym, ap, ◌∙◌, subst}
use Rattle.std.proofs.Common.{le_refl, drop_at, length-take-le}
use Rattle.std.proofs.lemmas.List.{take-append-drop, take_at, drop-drop}
use Rattle.std.proofs.lemmas.Slice.{take-put_mid_below}
use Rattle.std.proofs.KnownBytes.{Consumes-trans}
use Rattle.std.specs.Io.KnownBytes.{Consumes}
use borrow.Rule.Slice.PartMut.{put_mid, post_of}
use lib.Seq.{take-add, take-append-le}

-- the bytes after the place are those that the read gave, and then those after the new place
pub taken_from_rest : (bytes front behind : List ℕ) (place n : ℕ) → n ≤ length (drop place bytes) → front ≡ take n (drop place bytes)
    → drop place bytes ≡ take n (front ++ behind) ++ drop (place + n) bytes
taken_from_rest bytes front behind place n within is =
    let rest = drop place bytes in
    let given : take n (front ++ behind) ≡ take n rest = take_at front behind n (ap length is ∙ length-take-le n rest within) ∙ is in
    sym (take-append-drop n rest) ∙ ap (λ xs. xs ++ drop n rest) (sym given)
    ∙ ap (λ xs. take n (front ++ behind) ++ xs) (drop-drop n place bytes)

-- ---- reads into the rest of a buffer, one after the other

front_and_range : (a b : ℕ) (old new : List ℕ) → a ≤ b → take a new ≡ take a old → take a old ++ slice_range new a b ≡ take b new
front_and_range a b old new h front =
    let same : a + (b - a) ≡ b = omega arith in
    ap (λ l. l ++ slice_range new a b) (sym front) ∙ sym (take-add a (b - a) new) ∙ ap (λ n. take n new) same

range_put : (a k n : ℕ) (xs ys : List ℕ) → a ≤ length xs → n ≤ length ys → slice_range (put_mid a k xs ys) a (a + n) ≡ take n ys
range_put a k n xs ys within fits =
    let same : (a + n) - a ≡ n = omega arith in
    let after = post_of a k xs in
    ap (take ((a + n) - a)) (drop_at (take a xs) (ys ++ after) a (length-take-le a xs within)) ∙ ap (λ m. take m (ys ++ after)) same
    ∙ take-append-le n ys after fits

-- what was read into the front of the buffer, and n bytes into its rest, is what is in the front of the buffer then
pub read_more : (before between now : Option (List ℕ)) (buffer part : List ℕ) (place room n : ℕ) → place ≤ length buffer → n ≤ length part
    → Consumes before between (take place buffer) → Consumes between now (take n part)
    → Consumes before now (take (place + n) (put_mid place room buffer part))
read_more before between now buffer part place room n within fits first second =
    let there = range_put place room n buffer part within fits in
    let joined = front_and_range place (place + n) buffer (put_mid place room buffer part) (omega arith)
    (take-put_mid_below _ _ _ _ _ (le_refl _) within) in
    subst (Consumes before now) (ap (λ l. take place buffer ++ l) (sym there) ∙ joined)
    (Consumes-trans before between now (take place buffer) (take n part) first second)
