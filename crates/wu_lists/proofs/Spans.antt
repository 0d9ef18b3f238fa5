-- Spans of blocks beside frames, and the addresses of a block.
use Rattle.std.proofs.Common.{◌≡◌, ℕ, ◌+◌, ◌<◌, ◌≤◌, nat_le, true, false, List, [], ◌∷◌, ◌++◌, filter, length, get_or, take}
use Rattle.std.proofs.Common.{drop, refl, ap, sym, ◌∙◌, arith, ⊎_elim}
use Rattle.std.specs.Prelude.{Some}
use Rattle.std.specs.List.{AllByRecursion, last_or}
use Rattle.std.proofs.lemmas.Bool.{cases_lt, le-leb, lt-leb, lt-ltb, le-ltb, and_left, and_right, and_from}
use Rattle.std.proofs.lemmas.List.{take-append-drop}
use Rattle.std.proofs.lemmas.Option.{same_Some}
use Rattle.wu_base.specs.declared.addresses.Range.{Range}
use Rattle.wu_layout.specs.Postings.{is_live}
use Rattle.wu_base.specs.Ranges.{is_in}
use Rattle.wu_vbyte.specs.Blocks.{SpellsGaps}
use Rattle.wu_lists.specs.declared.blocks.Block.{Block}
use Rattle.wu_lists.specs.Ascending.{AscendBetween, AreInOrder}
use Rattle.wu_lists.specs.Blocks.{IsSpelling, meets, overlaps}
use Rattle.wu_lists.proofs.Ascending.{ascend-bounds}
use Rattle.wu_lists.proofs.Cutting.{dead_in_ended}

-- ---- frames that end before a block

missed_first : (f : Range) (fs : List Range) (block : Block) → f.start + f.len ≤ block.first → meets (f ∷ fs) block ≡ meets fs block
missed_first f fs block l =
    let away : overlaps block f ≡ false = and_right _ _ (le-ltb block.first (f.start + f.len) l) in
    rw away refl

missed_in_ended : (ended left : List Range) (low : ℕ) (block : Block) → AllByRecursion (λ f. f.start + f.len ≤ low) ended
    → low ≤ block.first → meets left block ≡ meets (ended ++ left) block
missed_in_ended [] left low block e l = refl
missed_in_ended (f ∷ fs) left low block e l =
    missed_in_ended fs left low block e.1 l ∙ sym (missed_first f (fs ++ left) block (omega (arith, e.0)))

-- frames that end before an address have none of the later ones
pub live-drop : (n low : ℕ) (frames : List Range) → AllByRecursion (λ f. f.start + f.len ≤ low) (take n frames)
    → (address : ℕ) → low ≤ address → is_live (drop n frames) address ≡ is_live frames address
live-drop n low frames e address l =
    dead_in_ended (take n frames) (drop n frames) low address e l
    ∙ ap (λ (fs : List Range). is_live fs address) (take-append-drop n frames)

pub meets-drop : (n low : ℕ) (frames : List Range) → AllByRecursion (λ f. f.start + f.len ≤ low) (take n frames)
    → (block : Block) → low ≤ block.first → meets (drop n frames) block ≡ meets frames block
meets-drop n low frames e block l =
    missed_in_ended (take n frames) (drop n frames) low block e l
    ∙ ap (λ (fs : List Range). meets fs block) (take-append-drop n frames)

-- ---- the first frame tells

starts_later : (f : Range) (block : Block) → block.last < f.start → overlaps block f ≡ false
starts_later f block l = and_left _ _ (lt-leb f.start block.last l)

pub none_from : (low high : ℕ) (frames : List Range) (block : Block) → block.last < low → AreInOrder low high frames
    → meets frames block ≡ false
none_from low high [] block l o = refl
none_from low high (f ∷ fs) block l o =
    rw (starts_later f block (omega (arith, o.0))) (none_from (f.start + f.len) high fs block (omega (arith, o.0)) o.1)

needed_first : (low high : ℕ) (f : Range) (fs : List Range) (block : Block) → AreInOrder low high (f ∷ fs)
    → block.first < f.start + f.len → nat_le f.start block.last ≡ meets (f ∷ fs) block
needed_first low high f fs block o l =
    ⊎_elim
    (λ (later : block.last < f.start).
    let none : meets (f ∷ fs) block ≡ false =
    rw (starts_later f block later) (none_from (f.start + f.len) high fs block (omega arith) o.1) in
    lt-leb f.start block.last later ∙ sym none)
    (λ (from : f.start ≤ block.last).
    let both : overlaps block f ≡ true =
    and_from _ _ (le-leb f.start block.last from) (lt-ltb block.first (f.start + f.len) l) in
    let any : meets (f ∷ fs) block ≡ true = rw both refl in
    le-leb f.start block.last from ∙ sym any)
    (cases_lt block.last f.start)

pub needed_at : (high : ℕ) (frames : List Range) (d : Range) (block : Block) → 0 < length frames → AreInOrder 0 high frames
    → AllByRecursion (λ f. block.first < f.start + f.len) frames → nat_le (get_or frames 0 d).start block.last ≡ meets frames block
needed_at high [] d block n o a = absurd (omega arith)
needed_at high (f ∷ fs) d block n o a = needed_first 0 high f fs block o a.0

pub needed_none : (frames : List Range) (block : Block) → length frames < 1 → false ≡ meets frames block
needed_none [] block n = refl
needed_none (f ∷ fs) block n = absurd (omega arith)

-- ---- the addresses of a block

gaps_ascend : (before last : ℕ) (later bytes : List ℕ) → SpellsGaps before later bytes → last_or (Some before) later ≡ Some last
    → AscendBetween (before + 1) (last + 1) later
gaps_ascend before last [] bytes g e = let same : before ≡ last = same_Some before last e in omega arith
gaps_ascend before last (a ∷ later) bytes g e = (omega (arith, g.0), gaps_ascend a last later g.1 g.3 e)

pub spelled_ascend : (block : Block) (addresses bytes : List ℕ) → IsSpelling block addresses bytes
    → AscendBetween block.first (block.last + 1) addresses
spelled_ascend block [] bytes s = absurd s.spelled
spelled_ascend block (first ∷ later) bytes s =
    let same : first ≡ block.first = same_Some first block.first s.span.begin in
    (omega (arith, same), gaps_ascend first block.last later s.spelled.1 s.spelled.3 s.span.end)

-- ---- a block that no frame overlaps with

dead_outside : (f : Range) (block : Block) (address : ℕ) → block.first ≤ address → address ≤ block.last → overlaps block f ≡ false
    → is_in f address ≡ false
dead_outside f block address l h none =
    ⊎_elim
    (λ (before : address < f.start). and_left _ _ (lt-leb f.start address before))
    (λ (from : f.start ≤ address).
    ⊎_elim
    (λ (inside : address < f.start + f.len).
    let both : overlaps block f ≡ true =
    and_from _ _ (le-leb f.start block.last (omega arith)) (lt-ltb block.first (f.start + f.len) (omega arith)) in
    absurd (let never : true ≡ false = sym both ∙ none in cc))
    (λ (after : f.start + f.len ≤ address). and_right _ _ (le-ltb address (f.start + f.len) after))
    (cases_lt address (f.start + f.len)))
    (cases_lt address f.start)

dead_in_missed : (frames : List Range) (block : Block) (address : ℕ) → block.first ≤ address → address ≤ block.last
    → meets frames block ≡ false → is_live frames address ≡ false
dead_in_missed [] block address l h m = refl
dead_in_missed (f ∷ fs) block address l h m =
    elim (overlaps block f) as (λ b. overlaps block f ≡ b → is_live (f ∷ fs) address ≡ false) [
      | true ↦ λ e. absurd (let any : meets (f ∷ fs) block ≡ true = rw e refl in let never : true ≡ false = sym any ∙ m in cc)
      | false ↦ λ e.
          let rest : meets fs block ≡ false = (let same : meets (f ∷ fs) block ≡ meets fs block = rw e refl in sym same ∙ m) in
          rw (dead_outside f block address l h e) (dead_in_missed fs block address l h rest)
    ] refl

pub none_live : (frames : List Range) (block : Block) (low : ℕ) (addresses : List ℕ) → meets frames block ≡ false → block.first ≤ low
    → AscendBetween low (block.last + 1) addresses → filter (is_live frames) addresses ≡ []
none_live frames block low [] m l a = refl
none_live frames block low (x ∷ xs) m l a =
    let up : x + 1 ≤ block.last + 1 = ascend-bounds (x + 1) (block.last + 1) xs a.1 in
    rw (dead_in_missed frames block x (omega (arith, a.0)) (omega arith) m) (none_live frames block (x + 1) xs m (omega (arith, a.0)) a.1)
