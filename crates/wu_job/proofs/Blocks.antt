-- The blocks of an entry, read one after another.
use Rattle.std.proofs.Common.{◌≡◌, ℕ, ◌+◌, ◌-◌, ◌<◌, ◌≤◌, ◌==◌, true, min, List, [], ◌∷◌, ◌++◌, length, take, drop, refl, ap, sym, ◌∙◌}
use Rattle.std.proofs.Common.{subst, arith, append_assoc, append-nil, length-append, length-drop}
use Rattle.std.specs.Prelude.{Option, None, Some}
use Rattle.std.specs.List.{list_any}
use Rattle.std.proofs.lemmas.Bool.{eq-eqb}
use Rattle.std.proofs.lemmas.List.{length-take}
use Rattle.wu_outside.specs.Content.{Content}
use Rattle.wu_outside.specs.declared.ranges.ReadRange.{ReadRange}
use Rattle.wu_layout.specs.Ascending.{AscendBetween}
use Rattle.wu_layout.proofs.Ascending.{ascend-higher, ascend-join, ascend-lower}
use Rattle.wu_vbyte.specs.declared.blocks.TheConstants.{BLOCK_LEN}
use Rattle.wu_part.specs.declared.entries.BlockEntry.{BlockEntry}
use Rattle.wu_part.specs.declared.entries.TermEntry.{TermEntry}
use Rattle.wu_part.specs.Directories.{AreBlocks, IsEntry}
use Rattle.wu_part.specs.Parts.{HoldBlocks, LieIn}
use Rattle.wu_part.proofs.ReadingLemmas.{count_within}
use Rattle.wu_job.specs.Jobs.{HoldsEntry}
use Rattle.wu_job.specs.Reading.{HasBytes, HoldsInBlock, IsNoBlock, AreNoBlocks}
use Rattle.wu_base.specs.declared.troubles.Trouble.{Trouble}
use Rattle.wu_base.specs.declared.troubles.Trouble.TheVariants.{Damaged}
use Rattle.wu_part.proofs.ReadBackLemmas.{IsAfter, hold_cons}
use Rattle.wu_job.specs.Steps.{HasWholeRange, HasWholeRanges, ReadsFront, adds, block_range, block_ranges}
use Rattle.wu_job.proofs.Fronts.{adds-more, adds-none, front_first, front_none, front_then}

-- ---- one block, and those after it

holds_more : (o : Option (List ℕ)) (low : ℕ) (entry left : TermEntry) (block : BlockEntry) (addresses rest : List ℕ)
    → IsAfter entry left block → length addresses ≡ min entry.count BLOCK_LEN → HoldsInBlock o low block addresses
    → HoldsEntry o low left rest → 0 < entry.count → HoldsEntry o low entry (addresses ++ rest)
holds_more None low entry left block addresses rest is n h g some = absurd h
holds_more (Some blob) low entry left block addresses rest is n h g some =
    let m : length rest ≡ entry.count - BLOCK_LEN = sym g.count ∙ is.count in
    record {
      term = refl;
      count = omega (arith, length-append addresses rest, n, m);
      blocks =
          subst (λ bs. HoldBlocks low blob bs (addresses ++ rest)) (sym is.blocks)
          (hold_cons low blob entry.count block left.blocks addresses rest n m h g.blocks);
    }

-- ---- what is broken

no_block : (o : Option (List ℕ)) (low : ℕ) (entry left : TermEntry) (block : BlockEntry) → IsAfter entry left block
    → IsNoBlock o low (min entry.count BLOCK_LEN) block → AreNoBlocks o low entry
no_block None low entry left block is n = tt
no_block (Some blob) low entry left block is n = λ lie addresses h.
    let held : HoldBlocks low blob (block ∷ left.blocks) addresses = subst (λ bs. HoldBlocks low blob bs addresses) is.blocks h.blocks in
    let lies : LieIn (length blob) (block ∷ left.blocks) = subst (LieIn (length blob)) is.blocks lie in
    n lies.0 (take BLOCK_LEN addresses) (omega (arith, length-take BLOCK_LEN addresses, h.count)) held.0

no_later_blocks : (o : Option (List ℕ)) (low : ℕ) (entry left : TermEntry) (block : BlockEntry) → IsAfter entry left block
    → AreNoBlocks o low left → AreNoBlocks o low entry
no_later_blocks None low entry left block is n = tt
no_later_blocks (Some blob) low entry left block is n = λ lie addresses h.
    let held : HoldBlocks low blob (block ∷ left.blocks) addresses = subst (λ bs. HoldBlocks low blob bs addresses) is.blocks h.blocks in
    let lies : LieIn (length blob) (block ∷ left.blocks) = subst (LieIn (length blob)) is.blocks lie in
    n lies.1 (drop BLOCK_LEN addresses)
    (record { term = refl; count = is.count ∙ omega (arith, length-drop BLOCK_LEN addresses, h.count); blocks = held.1 })

-- ---- the walk

-- What was read of the first entry, where that entry is left: in the first place of the blob, if it is there.
pub record AreRead (o : Option (List ℕ)) (low : ℕ) (first left : TermEntry) (found : List ℕ) : Type 0 where
  pub held : (rest : List ℕ) → HoldsEntry o low left rest → HoldsEntry o low first (found ++ rest)
  pub there : 0 < length found → (blob : List ℕ) × (o ≡ Some blob)
  pub broken : AreNoBlocks o low left → AreNoBlocks o low first

-- the same over every store
pub record IsReadTo (low high : ℕ) (first left : TermEntry) (found : List ℕ) : Type 0 where
  pub from : ℕ
  pub ascend : AscendBetween low from found
  pub within : from ≤ high + 1
  pub blocks : AreBlocks from high left.count left.blocks
  pub long : length found + left.count ≡ first.count

pub record AreRangesRead (blob : ℕ) (first left : TermEntry) (old now : Option (List ReadRange)) : Type 0 where
  pub before : List ReadRange
  pub whole : before ++ block_ranges blob left.blocks ≡ block_ranges blob first.blocks
  pub reads : now ≡ adds before old

pub read_none : (o : Option (List ℕ)) (low : ℕ) (first : TermEntry) (found : List ℕ) → found ≡ [] → AreRead o low first first found
read_none o low first found e =
    subst (AreRead o low first first) (sym e)
    (record { held = λ rest h. h; there = λ l. absurd (omega arith); broken = λ b. b })

is_there : (o : Option (List ℕ)) (low : ℕ) (block : BlockEntry) (addresses : List ℕ) → HoldsInBlock o low block addresses
    → (blob : List ℕ) × (o ≡ Some blob)
is_there None low block addresses h = absurd h
is_there (Some blob) low block addresses h = (blob, refl)

pub read_more : (o : Option (List ℕ)) (low : ℕ) (first entry left : TermEntry) (block : BlockEntry) (found addresses : List ℕ)
    → AreRead o low first entry found → IsAfter entry left block → length addresses ≡ min entry.count BLOCK_LEN → 0 < entry.count
    → HoldsInBlock o low block addresses → AreRead o low first left (found ++ addresses)
read_more o low first entry left block found addresses r is n some h = record {
  held = λ rest g.
      subst (HoldsEntry o low first) (sym (append_assoc found addresses rest))
      (r.held (addresses ++ rest) (holds_more o low entry left block addresses rest is n h g some));
  there = λ l. is_there o low block addresses h;
  broken = λ b. r.broken (no_later_blocks o low entry left block is b);
}

pub read_broken : (o : Option (List ℕ)) (low count : ℕ) (first entry left : TermEntry) (block : BlockEntry) (found : List ℕ)
    → AreRead o low first entry found → IsAfter entry left block → count ≡ min entry.count BLOCK_LEN
    → IsNoBlock o low count block → AreNoBlocks o low first
read_broken o low count first entry left block found r is n b =
    r.broken (no_block o low entry left block is (subst (λ k. IsNoBlock o low k block) n b))

pub read_all : (o : Option (List ℕ)) (low high : ℕ) (first left : TermEntry) (found : List ℕ) → AreRead o low first left found
    → IsReadTo low high first left found → left.blocks ≡ [] → 0 < first.count → HoldsEntry o low first found
read_all o low high first left found r to none some =
    let nothing : left.count ≡ 0 = subst (AreBlocks to.from high left.count) none to.blocks in
    let there = r.there (omega (arith, to.long)) in
    let last : HoldsEntry o low left [] =
    subst (λ p. HoldsEntry p low left []) (sym there.1)
    (record { term = refl; count = nothing; blocks = subst (λ bs. HoldBlocks low there.0 bs []) (sym none) refl }) in
    subst (HoldsEntry o low first) (append-nil found) (r.held [] last)

pub to_none : (low high : ℕ) (first : TermEntry) (found : List ℕ) → found ≡ [] → IsEntry low high first → IsReadTo low high first first found
to_none low high first found e is =
    subst (IsReadTo low high first first) (sym e)
    (record {
      from = low;
      ascend = omega arith;
      within = omega (arith, count_within low high first.count first.blocks is.count is.cut, is.count);
      blocks = is.cut;
      long = omega arith;
    })

pub to_more : (low high : ℕ) (first entry left : TermEntry) (block : BlockEntry) (found addresses : List ℕ)
    → IsReadTo low high first entry found → IsAfter entry left block → length addresses ≡ min entry.count BLOCK_LEN
    → AscendBetween block.first (block.last + 1) addresses → IsReadTo low high first left (found ++ addresses)
to_more low high first entry left block found addresses to is n a =
    let blocks : AreBlocks to.from high entry.count (block ∷ left.blocks) = subst (AreBlocks to.from high entry.count) is.blocks to.blocks in
    record {
      from = block.last + 1;
      ascend =
          ascend-join low to.from (block.last + 1) found addresses to.ascend
          (ascend-lower to.from block.first (block.last + 1) addresses blocks.1.begin a);
      within = omega (arith, blocks.1.end);
      blocks = subst (λ k. AreBlocks (block.last + 1) high k left.blocks) (sym is.count) blocks.2;
      long = omega (arith, length-append found addresses, n, is.count, to.long);
    }

pub some_left : (low high : ℕ) (first entry left : TermEntry) (block : BlockEntry) (found : List ℕ)
    → IsReadTo low high first entry found → IsAfter entry left block → 0 < entry.count
some_left low high first entry left block found to is =
    let blocks : AreBlocks to.from high entry.count (block ∷ left.blocks) = subst (AreBlocks to.from high entry.count) is.blocks to.blocks in
    blocks.0

pub to_all : (low high : ℕ) (first left : TermEntry) (found : List ℕ) → IsReadTo low high first left found → AscendBetween low (high + 1) found
to_all low high first left found to = ascend-higher low to.from (high + 1) found to.within to.ascend

-- ---- whole blocks

-- where some bytes are there and all that the block has, the blob has the whole block
pub whole_block : (o : Option (List ℕ)) (number : ℕ) (block : BlockEntry) (bytes : List ℕ) → length bytes ≡ block.len → 0 < length bytes
    → HasBytes o block bytes → HasWholeRange o (block_range number block)
whole_block None number block bytes l some h = absurd h
whole_block (Some blob) number block bytes l some h =
    let cut = length-take (block.at + block.len - block.at) (drop block.at blob) in
    omega (arith, ap (λ (xs : List ℕ). length xs) h, cut, length-drop block.at blob)

-- where the blocks are whole that are left, all of the first entry are
abbrev pub AreWholeTo : Content → ℕ → TermEntry → TermEntry → Type 0
AreWholeTo content blob first left =
    HasWholeRanges content (block_ranges blob left.blocks) → HasWholeRanges content (block_ranges blob first.blocks)

pub whole_more : (content : Content) (blob : ℕ) (first entry left : TermEntry) (block : BlockEntry) → AreWholeTo content blob first entry
    → IsAfter entry left block → HasWholeRange (content.blobs blob) (block_range blob block) → AreWholeTo content blob first left
whole_more content blob first entry left block r is w = λ later.
    r (subst (λ bs. HasWholeRanges content (block_ranges blob bs)) (sym is.blocks) (w, later))

pub whole_all : (content : Content) (blob : ℕ) (first left : TermEntry) → AreWholeTo content blob first left → left.blocks ≡ []
    → HasWholeRanges content (block_ranges blob first.blocks)
whole_all content blob first left r none = r (subst (λ bs. HasWholeRanges content (block_ranges blob bs)) (sym none) tt)

-- ---- the ranges read

pub ranges_none : (blob : ℕ) (first : TermEntry) (old : Option (List ReadRange)) → AreRangesRead blob first first old old
ranges_none blob first old = record { before = []; whole = refl; reads = sym (adds-none old) }

pub ranges_more : (blob : ℕ) (first entry left : TermEntry) (block : BlockEntry) (old now new : Option (List ReadRange))
    → AreRangesRead blob first entry old now → IsAfter entry left block → new ≡ adds (block_range blob block ∷ []) now
    → AreRangesRead blob first left old new
ranges_more blob first entry left block old now new r is e = record {
  before = r.before ++ block_range blob block ∷ [];
  whole =
      append_assoc r.before (block_range blob block ∷ []) (block_ranges blob left.blocks)
      ∙ ap (λ (bs : List BlockEntry). r.before ++ block_ranges blob bs) (sym is.blocks)
      ∙ r.whole;
  reads = e ∙ ap (adds (block_range blob block ∷ [])) r.reads ∙ adds-more r.before (block_range blob block ∷ []) old;
}

pub ranges_all : (blob : ℕ) (first left : TermEntry) (old now : Option (List ReadRange)) → AreRangesRead blob first left old now
    → left.blocks ≡ [] → now ≡ adds (block_ranges blob first.blocks) old
ranges_all blob first left old now r none =
    r.reads
    ∙ ap (λ (rs : List ReadRange). adds rs old)
    (sym (append-nil r.before) ∙ ap (λ (bs : List BlockEntry). r.before ++ block_ranges blob bs) (sym none) ∙ r.whole)

pub ranges_failed : (blob : ℕ) (first entry left : TermEntry) (block : BlockEntry) (old now new : Option (List ReadRange)) (t : Trouble)
    → AreRangesRead blob first entry old now → IsAfter entry left block → ReadsFront (block_range blob block ∷ []) now new t
    → ReadsFront (block_ranges blob first.blocks) old new t
ranges_failed blob first entry left block old now new t r is f =
    let rest : List ReadRange = block_ranges blob left.blocks in
    let whole : r.before ++ (block_range blob block ∷ rest) ≡ block_ranges blob first.blocks =
    ap (λ (bs : List BlockEntry). r.before ++ block_ranges blob bs) (sym is.blocks) ∙ r.whole in
    subst (λ rs. ReadsFront rs old new t) whole
    (front_then r.before (block_range blob block ∷ rest) old now new t r.reads
    (front_first (block_range blob block ∷ []) rest now new t f))

pub ranges_stopped : (blob : ℕ) (first left : TermEntry) (old now : Option (List ReadRange)) (t : Trouble)
    → AreRangesRead blob first left old now → ((b : ℕ) → t ≡ Damaged b → ⊥)
    → ReadsFront (block_ranges blob first.blocks) old now t
ranges_stopped blob first left old now t r n =
    subst (λ rs. ReadsFront rs old now t) r.whole
    (front_then r.before (block_ranges blob left.blocks) old now now t r.reads (front_none (block_ranges blob left.blocks) now now t refl n))

-- an entry has a block, so its part's blob is read
pub blocks_read : (blob low high : ℕ) (entry : TermEntry) → IsEntry low high entry
    → list_any (λ range. range.blob == blob) (block_ranges blob entry.blocks) ≡ true
blocks_read blob low high entry is = any_of entry.count entry.blocks is.count is.cut
  where
    any_of : (count : ℕ) (blocks : List BlockEntry) → 0 < count → AreBlocks low high count blocks
        → list_any (λ range. range.blob == blob) (block_ranges blob blocks) ≡ true
    any_of count [] l a = absurd (omega (arith, a))
    any_of count (block ∷ later) l a = let same : (blob == blob) ≡ true = eq-eqb blob blob refl in rw same refl
