-- Addresses in blocks: they ascend within the block's span, and a blob holds one list of them.
use Rattle.std.proofs.Common.{◌≡◌, ℕ, ◌+◌, ◌-◌, ◌<◌, ◌≤◌, List, [], ◌∷◌, ◌++◌, length, take, drop, ap₂, sym, ◌∙◌, subst, arith, ⊎_elim}
use Rattle.std.specs.Prelude.{Option, None, Some}
use Rattle.std.specs.List.{last_or}
use Rattle.std.proofs.lemmas.List.{take-append-drop}
use Rattle.std.proofs.lemmas.Option.{same_Some}
use Rattle.wu_base.proofs.Members.{Has}
use Rattle.wu_layout.specs.Ascending.{AscendBetween}
use Rattle.wu_layout.proofs.Ascending.{ascend-bounds, ascend-join, ascend-lower}
use Rattle.wu_vbyte.specs.Blocks.{SpellsGaps, SpellsBlock, AreFromTo}
use Rattle.wu_vbyte.specs.declared.blocks.TheConstants.{BLOCK_LEN}
use Rattle.wu_vbyte.proofs.BlockLemmas.{block_same}
use Rattle.wu_part.specs.declared.entries.BlockEntry.{BlockEntry}
use Rattle.wu_part.specs.declared.entries.TermEntry.{TermEntry}
use Rattle.wu_part.specs.Directories.{AreBlocks, IsEntry}
use Rattle.wu_part.specs.Parts.{HoldBlocks}
use Rattle.wu_part.proofs.ReadingLemmas.{count_within}
use Rattle.wu_job.specs.Jobs.{HoldsEntry}

gaps_ascend : (before last : ℕ) (later bytes : List ℕ) → SpellsGaps before later bytes → last_or (Some before) later ≡ Some last
    → AscendBetween (before + 1) (last + 1) later
gaps_ascend before last [] bytes s e = let same = same_Some before last e in omega arith
gaps_ascend before last (a ∷ later) bytes s e = (omega (arith, s.0), gaps_ascend a last later s.1 s.3 e)

pub block_ascends : (low count first last : ℕ) (addresses bytes : List ℕ) → SpellsBlock low addresses bytes
    → AreFromTo count first last addresses → AscendBetween first (last + 1) addresses
block_ascends low count first last [] bytes s a = absurd s
block_ascends low count first last (address ∷ later) bytes s a =
    let same : address ≡ first = same_Some address first a.begin in
    (omega arith, gaps_ascend address last later s.1 s.3 a.end)

blocks_ascend : (low from high count : ℕ) (blob : List ℕ) (blocks : List BlockEntry) (addresses : List ℕ)
    → AreBlocks from high count blocks → HoldBlocks low blob blocks addresses → from ≤ high + 1 → AscendBetween from (high + 1) addresses
blocks_ascend low from high count blob [] addresses a h l = subst (AscendBetween from (high + 1)) (sym h) l
blocks_ascend low from high count blob (b ∷ blocks) addresses a h l =
    let one : AscendBetween b.first (b.last + 1) (take BLOCK_LEN addresses) =
    block_ascends low (length (take BLOCK_LEN addresses)) b.first b.last (take BLOCK_LEN addresses) _ h.0.spelled h.0.span in
    let later : AscendBetween (b.last + 1) (high + 1) (drop BLOCK_LEN addresses) =
    blocks_ascend low (b.last + 1) high (count - BLOCK_LEN) blob blocks (drop BLOCK_LEN addresses) a.2 h.1 (omega (arith, a.1.end)) in
    subst (AscendBetween from (high + 1)) (take-append-drop BLOCK_LEN addresses)
    (ascend-join from (b.last + 1) (high + 1) (take BLOCK_LEN addresses) (drop BLOCK_LEN addresses)
    (ascend-lower from b.first (b.last + 1) (take BLOCK_LEN addresses) a.1.begin one) later)

ascend_has : (low high a : ℕ) (xs : List ℕ) → AscendBetween low high xs → Has a xs → (low ≤ a) × (a < high)
ascend_has low high a [] s h = absurd h
ascend_has low high a (x ∷ xs) s h =
    ⊎_elim
    (λ (e : x ≡ a). let top : x + 1 ≤ high = ascend-bounds (x + 1) high xs s.1 in (omega (arith, s.0), omega arith))
    (λ (i : Has a xs). let r = ascend_has (x + 1) high a xs s.1 i in (omega (arith, s.0, r.0), r.1))
    h

-- the addresses of an entry lie within the part's span
pub entry_spans : (o : Option (List ℕ)) (low high : ℕ) (entry : TermEntry) (addresses : List ℕ) (a : ℕ) → IsEntry low high entry
    → HoldsEntry o low entry addresses → Has a addresses → (low ≤ a) × (a ≤ high)
entry_spans None low high entry addresses a is h i = absurd h
entry_spans (Some blob) low high entry addresses a is h i =
    let within : low ≤ high + 1 = omega (arith, count_within low high entry.count entry.blocks is.count is.cut, is.count) in
    let r = ascend_has low (high + 1) a addresses (blocks_ascend low low high entry.count blob entry.blocks addresses is.cut h.blocks within) i in
    (r.0, omega (arith, r.1))

-- ---- one list is held

hold_same : (low : ℕ) (blob : List ℕ) (blocks : List BlockEntry) (xs ys : List ℕ) → HoldBlocks low blob blocks xs
    → HoldBlocks low blob blocks ys → xs ≡ ys
hold_same low blob [] xs ys h g = h ∙ sym g
hold_same low blob (b ∷ blocks) xs ys h g =
    sym (take-append-drop BLOCK_LEN xs)
    ∙ ap₂ ◌++◌ (block_same low (take BLOCK_LEN xs) (take BLOCK_LEN ys) _ h.0.spelled g.0.spelled)
    (hold_same low blob blocks (drop BLOCK_LEN xs) (drop BLOCK_LEN ys) h.1 g.1)
    ∙ take-append-drop BLOCK_LEN ys

pub entry_same : (o : Option (List ℕ)) (low : ℕ) (entry : TermEntry) (xs ys : List ℕ) → HoldsEntry o low entry xs → HoldsEntry o low entry ys
    → xs ≡ ys
entry_same None low entry xs ys h g = absurd h
entry_same (Some blob) low entry xs ys h g = hold_same low blob entry.blocks xs ys h.blocks g.blocks
