-- The blocks of an entry, read one after another from the bytes of a part.
use Rattle.std.proofs.Common.{◌≡◌, ℕ, ◌+◌, ◌-◌, ◌<◌, ◌≤◌, min, List, [], ◌∷◌, ◌++◌, length, take, drop, refl, sym, ◌∙◌}
use Rattle.std.proofs.Common.{subst, arith, append_assoc, append-nil, length-append, length-drop}
use Rattle.std.proofs.lemmas.List.{length-take}
use Rattle.wu_layout.specs.Ascending.{AscendBetween}
use Rattle.wu_layout.proofs.Ascending.{ascend-higher, ascend-join, ascend-lower}
use Rattle.std.specs.Prelude.{Some}
use Rattle.std.specs.List.{last_or}
use Rattle.std.proofs.lemmas.Option.{same_Some}
use Rattle.wu_vbyte.specs.Blocks.{SpellsGaps, SpellsBlock, AreFromTo}
use Rattle.wu_vbyte.specs.declared.blocks.TheConstants.{BLOCK_LEN}
use Rattle.wu_part.specs.declared.entries.BlockEntry.{BlockEntry}
use Rattle.wu_part.specs.declared.entries.TermEntry.{TermEntry}
use Rattle.wu_part.specs.Directories.{AreBlocks, IsEntry}
use Rattle.wu_part.specs.Parts.{HoldsBlock, HoldBlocks, LieIn}
use Rattle.wu_part.proofs.ReadingLemmas.{count_within}
use Rattle.wu_part.proofs.ReadBackLemmas.{IsAfter, hold_cons}
use Rattle.wu_check.specs.Indexing.{HoldsAddresses}

gaps_ascend : (before last : ℕ) (later bytes : List ℕ) → SpellsGaps before later bytes → last_or (Some before) later ≡ Some last
    → AscendBetween (before + 1) (last + 1) later
gaps_ascend before last [] bytes s e = let same = same_Some before last e in omega arith
gaps_ascend before last (a ∷ later) bytes s e = (omega (arith, s.0), gaps_ascend a last later s.1 s.3 e)

spelled_ascend : (low count first last : ℕ) (addresses code : List ℕ) → SpellsBlock low addresses code
    → AreFromTo count first last addresses → AscendBetween first (last + 1) addresses
spelled_ascend low count first last [] code s a = absurd s
spelled_ascend low count first last (address ∷ later) code s a =
    let same : address ≡ first = same_Some address first a.begin in
    (omega arith, gaps_ascend address last later s.1 s.3 a.end)

pub block_ascends : (low : ℕ) (bytes : List ℕ) (block : BlockEntry) (addresses : List ℕ) → HoldsBlock low bytes block addresses
    → AscendBetween block.first (block.last + 1) addresses
block_ascends low bytes block addresses h = spelled_ascend low (length addresses) block.first block.last addresses _ h.spelled h.span

holds_more : (low : ℕ) (bytes : List ℕ) (entry left : TermEntry) (block : BlockEntry) (addresses rest : List ℕ)
    → IsAfter entry left block → length addresses ≡ min entry.count BLOCK_LEN → HoldsBlock low bytes block addresses
    → HoldsAddresses low bytes left rest → 0 < entry.count → HoldsAddresses low bytes entry (addresses ++ rest)
holds_more low bytes entry left block addresses rest is n h g some =
    let m : length rest ≡ entry.count - BLOCK_LEN = sym g.0 ∙ is.count in (
      omega (arith, length-append addresses rest, n, m),
      subst (λ bs. HoldBlocks low bytes bs (addresses ++ rest)) (sym is.blocks)
          (hold_cons low bytes entry.count block left.blocks addresses rest n m h g.1),
    )

holds_first : (low : ℕ) (bytes : List ℕ) (entry left : TermEntry) (block : BlockEntry) (all : List ℕ) → IsAfter entry left block
    → HoldsAddresses low bytes entry all
    → HoldsBlock low bytes block (take BLOCK_LEN all) × HoldsAddresses low bytes left (drop BLOCK_LEN all)
holds_first low bytes entry left block all is h =
    let held : HoldBlocks low bytes (block ∷ left.blocks) all = subst (λ bs. HoldBlocks low bytes bs all) is.blocks h.1 in
    (held.0, (is.count ∙ omega (arith, length-drop BLOCK_LEN all, h.0), held.1))

-- What was read of the first entry, where that entry is left.
pub record AreRead (low high : ℕ) (bytes : List ℕ) (first left : TermEntry) (found : List ℕ) : Type 0 where
  pub held : (rest : List ℕ) → HoldsAddresses low bytes left rest → HoldsAddresses low bytes first (found ++ rest)
  pub broken : ((rest : List ℕ) → HoldsAddresses low bytes left rest → ⊥) → (all : List ℕ) → HoldsAddresses low bytes first all → ⊥
  pub lie : LieIn (length bytes) left.blocks
  pub from : ℕ
  pub ascend : AscendBetween low from found
  pub within : from ≤ high + 1
  pub blocks : AreBlocks from high left.count left.blocks

pub read_none : (low high : ℕ) (bytes : List ℕ) (first : TermEntry) (found : List ℕ) → found ≡ [] → IsEntry low high first
    → LieIn (length bytes) first.blocks → AreRead low high bytes first first found
read_none low high bytes first found e is lie =
    subst (AreRead low high bytes first first) (sym e)
    (record {
      held = λ rest h. h;
      broken = λ n. n;
      lie = lie;
      from = low;
      ascend = omega arith;
      within = omega (arith, count_within low high first.count first.blocks is.count is.cut, is.count);
      blocks = is.cut;
    })

pub read_more : (low high count : ℕ) (bytes : List ℕ) (first entry left : TermEntry) (block : BlockEntry) (found addresses : List ℕ)
    → AreRead low high bytes first entry found → IsAfter entry left block → count ≡ min entry.count BLOCK_LEN
    → length addresses ≡ count → HoldsBlock low bytes block addresses → AreRead low high bytes first left (found ++ addresses)
read_more low high count bytes first entry left block found addresses r is n long h =
    let blocks : AreBlocks r.from high entry.count (block ∷ left.blocks) = subst (AreBlocks r.from high entry.count) is.blocks r.blocks in
    let lies : LieIn (length bytes) (block ∷ left.blocks) = subst (LieIn (length bytes)) is.blocks r.lie in
    let many : length addresses ≡ min entry.count BLOCK_LEN = long ∙ n in
    record {
      held = λ rest g.
          subst (HoldsAddresses low bytes first) (sym (append_assoc found addresses rest))
          (r.held (addresses ++ rest) (holds_more low bytes entry left block addresses rest is many h g blocks.0));
      broken = λ none. r.broken
          (λ all g. none (drop BLOCK_LEN all) (holds_first low bytes entry left block all is g).1);
      lie = lies.1;
      from = block.last + 1;
      ascend =
          ascend-join low r.from (block.last + 1) found addresses r.ascend
          (ascend-lower r.from block.first (block.last + 1) addresses blocks.1.begin (block_ascends low bytes block addresses h));
      within = omega (arith, blocks.1.end);
      blocks = subst (λ k. AreBlocks (block.last + 1) high k left.blocks) (sym is.count) blocks.2;
    }

pub read_broken : (low high count : ℕ) (bytes : List ℕ) (first entry left : TermEntry) (block : BlockEntry) (found : List ℕ)
    → AreRead low high bytes first entry found → IsAfter entry left block → count ≡ min entry.count BLOCK_LEN
    → (block.at + block.len ≤ length bytes → (addresses : List ℕ) → length addresses ≡ count → HoldsBlock low bytes block addresses → ⊥)
    → (all : List ℕ) → HoldsAddresses low bytes first all → ⊥
read_broken low high count bytes first entry left block found r is n none =
    let lies : LieIn (length bytes) (block ∷ left.blocks) = subst (LieIn (length bytes)) is.blocks r.lie in
    r.broken (λ all g. none lies.0 (take BLOCK_LEN all) (omega (arith, length-take BLOCK_LEN all, g.0, n))
    (holds_first low bytes entry left block all is g).0)

pub read_all : (low high : ℕ) (bytes : List ℕ) (first left : TermEntry) (found : List ℕ) → AreRead low high bytes first left found
    → left.blocks ≡ [] → HoldsAddresses low bytes first found × AscendBetween low (high + 1) found
read_all low high bytes first left found r none =
    let nothing : left.count ≡ 0 = subst (AreBlocks r.from high left.count) none r.blocks in
    let last : HoldsAddresses low bytes left [] = (nothing, subst (λ bs. HoldBlocks low bytes bs []) (sym none) refl) in (
      subst (HoldsAddresses low bytes first) (append-nil found) (r.held [] last),
      ascend-higher low r.from (high + 1) found r.within r.ascend,
    )
