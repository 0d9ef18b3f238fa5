-- Blocks whose bytes were copied, and what they are decoded to.
use Rattle.std.proofs.Common.{◌≡◌, ℕ, ◌+◌, ◌-◌, ◌*◌, ◌%◌, ◌^◌, ◌<◌, ◌≤◌, Bool, false, cond, zero, suc, List, [], ◌∷◌, ◌++◌, filter, length, take}
use Rattle.std.proofs.Common.{drop, get_or, refl, ap, ap₂, sym, ◌∙◌, subst, arith, append-nil, append_assoc, length-append, length-drop}
use Rattle.std.specs.Prelude.{None, Some}
use Rattle.std.specs.List.{AllByRecursion, last_or}
use Rattle.std.specs.List.Sorted.{IsNonDecreasingBy}
use Rattle.std.proofs.lemmas.Bool.{le-ltb, lt-ltb}
use Rattle.std.proofs.lemmas.List.{drop-append-le, take-append-le, take_all}
use Rattle.std.proofs.lemmas.List.Elements.{filter-append}
use Rattle.std.proofs.lemmas.Option.{same_Some}
use Rattle.std.proofs.Math.Seq.{drop-append_seam}
use Rattle.wu_base.specs.declared.addresses.Range.{Range}
use Rattle.wu_base.proofs.EachLemmas.{each-drop, each-push}
use Rattle.wu_layout.specs.Postings.{is_live}
use Rattle.wu_vbyte.specs.Blocks.{SpellsBlock, SpellsGaps}
use Rattle.wu_vbyte.specs.Numbers.{IsCode, value_of}
use Rattle.wu_lists.specs.Ascending.{AreInOrder, AscendBetween}
use Rattle.wu_lists.specs.Blocks.{IsSpelling, bytes_of, meets}
use Rattle.wu_lists.specs.Gaining.{LiveAlike, filter-alike}
use Rattle.wu_lists.specs.Gathering.{AreCopied, IsCopied, Leaves, addresses_at, addresses_in, decoded}
use Rattle.wu_lists.specs.declared.blocks.Block.{Block}
use Rattle.wu_lists.proofs.Ascending.{all_from, ascend-bounds, ascend-lower}
use Rattle.wu_lists.proofs.Spans.{none_from, none_live, spelled_ascend}
use Rattle.wu_lists.proofs.Tallying.{ascend-front}

-- ---- what bytes are decoded to

weights : (sum group more w : ℕ) → sum + group * w + more * (w * 128) ≡ sum + (group + 128 * more) * w
weights sum group more w = grind arith

decoded-code : (code rest : List ℕ) (sum weight : ℕ) → IsCode code
    → decoded sum weight (code ++ rest) ≡ (sum + value_of code * weight) ∷ decoded (sum + value_of code * weight) 1 rest
decoded-code [] rest sum weight is = absurd is
decoded-code (byte ∷ []) rest sum weight is =
    let value : byte ≡ byte % 128 + 128 * 0 = omega arith in
    ap
    (λ (b : Bool). cond b ((sum + byte * weight) ∷ decoded (sum + byte * weight) 1 rest)
    (decoded (sum + byte % 128 * weight) (weight * 128) rest))
    (lt-ltb byte 128 is)
    ∙ ap (λ (n : ℕ). (sum + n * weight) ∷ decoded (sum + n * weight) 1 rest) value
decoded-code (byte ∷ next ∷ bytes) rest sum weight is =
    let low : ℕ = sum + byte % 128 * weight in
    let same : low + value_of (next ∷ bytes) * (weight * 128) ≡ sum + (byte % 128 + 128 * value_of (next ∷ bytes)) * weight =
    weights sum (byte % 128) (value_of (next ∷ bytes)) weight in
    ap
    (λ (b : Bool). cond b ((sum + byte * weight) ∷ decoded (sum + byte * weight) 1 ((next ∷ bytes) ++ rest))
    (decoded low (weight * 128) ((next ∷ bytes) ++ rest)))
    (le-ltb byte 128 is.0)
    ∙ decoded-code (next ∷ bytes) rest low (weight * 128) is.3
    ∙ ap (λ (n : ℕ). n ∷ decoded n 1 rest) same

decoded-gaps : (before : ℕ) (later bytes : List ℕ) → SpellsGaps before later bytes → decoded before 1 bytes ≡ later
decoded-gaps before [] bytes s = ap (decoded before 1) s
decoded-gaps before (address ∷ later) bytes s =
    let number : before + value_of s.2.0 * 1 ≡ address = omega (arith, s.0, s.2.1.value) in
    ap (decoded before 1) s.2.2
    ∙ decoded-code s.2.0 s.1 before 1 s.2.1.form
    ∙ ap (λ (n : ℕ). n ∷ decoded n 1 s.1) number
    ∙ ap (λ (l : List ℕ). address ∷ l) (decoded-gaps address later s.1 s.3)

decoded-block : (low : ℕ) (addresses bytes : List ℕ) → SpellsBlock low addresses bytes → decoded low 1 bytes ≡ addresses
decoded-block low [] bytes s = absurd s
decoded-block low (first ∷ later) bytes s =
    let number : low + value_of s.2.0 * 1 ≡ first = omega (arith, s.0, s.2.1.value) in
    ap (decoded low 1) s.2.2
    ∙ decoded-code s.2.0 s.1 low 1 s.2.1.form
    ∙ ap (λ (n : ℕ). n ∷ decoded n 1 s.1) number
    ∙ ap (λ (l : List ℕ). first ∷ l) (decoded-gaps first later s.1 s.3)

-- what was found to be spelled is what stands there
pub found-there : (bytes : List ℕ) (block : Block) (found own : List ℕ) → own ≡ bytes_of block bytes → IsSpelling block found own
    → found ≡ addresses_at bytes block
found-there bytes block found own same s =
    sym (decoded-block block.low found own s.spelled) ∙ ap (decoded block.low 1) same

-- ---- more bytes

bytes-longer : (bytes more : List ℕ) (block : Block) → block.at + block.len ≤ length bytes
    → bytes_of block (bytes ++ more) ≡ bytes_of block bytes
bytes-longer bytes more block within =
    let len : ℕ = block.at + block.len - block.at in
    let front : block.at ≤ length bytes = omega arith in
    let enough : len ≤ length (drop block.at bytes) = omega (arith, length-drop block.at bytes) in
    ap (take len) (drop-append-le block.at bytes more front)
    ∙ take-append-le len (drop block.at bytes) more enough

copied-more : (bytes more : List ℕ) (block : Block) → IsCopied bytes block → IsCopied (bytes ++ more) block
copied-more bytes more block is = record {
  within = omega (arith, is.within, length-append bytes more);
  spelled =
      subst (λ (own : List ℕ). IsSpelling block (decoded block.low 1 own) own) (sym (bytes-longer bytes more block is.within)) is.spelled;
}

pub copied-longer : (bytes more : List ℕ) (blocks : List Block) → AreCopied bytes blocks → AreCopied (bytes ++ more) blocks
copied-longer bytes more [] are = tt
copied-longer bytes more (block ∷ blocks) are = (copied-more bytes more block are.0, copied-longer bytes more blocks are.1)

pub addresses-longer : (bytes more : List ℕ) (blocks : List Block) → AreCopied bytes blocks
    → addresses_in (bytes ++ more) blocks ≡ addresses_in bytes blocks
addresses-longer bytes more [] are = refl
addresses-longer bytes more (block ∷ blocks) are =
    ap₂ (λ (own others : List ℕ). decoded block.low 1 own ++ others) (bytes-longer bytes more block are.0.within)
    (addresses-longer bytes more blocks are.1)

addresses-push : (bytes : List ℕ) (blocks : List Block) (block : Block)
    → addresses_in bytes (blocks ++ block ∷ []) ≡ addresses_in bytes blocks ++ addresses_at bytes block
addresses-push bytes [] block = append-nil (addresses_at bytes block)
addresses-push bytes (first ∷ blocks) block =
    ap (λ (l : List ℕ). addresses_at bytes first ++ l) (addresses-push bytes blocks block)
    ∙ sym (append_assoc (addresses_at bytes first) (addresses_in bytes blocks) (addresses_at bytes block))

-- one more block, whose bytes stand at the end
module _ (bytes own : List ℕ) (blocks : List Block) (block copy : Block) (begin : copy.at ≡ length bytes) (len : copy.len ≡ length own)
    (low : copy.low ≡ block.low) (count : copy.count ≡ block.count) (first : copy.first ≡ block.first) (last : copy.last ≡ block.last)
    (are : AreCopied bytes blocks) where
  own-bytes : bytes_of copy (bytes ++ own) ≡ own
  own-bytes =
      let same : copy.at + copy.len - copy.at ≡ length own = omega (arith, len) in
      ap₂ (λ (n m : ℕ). take n (drop m (bytes ++ own))) same begin
      ∙ ap (take (length own)) (drop-append_seam bytes own)
      ∙ take_all (length own) own (omega arith)

  spelled-copy : (addresses : List ℕ) → IsSpelling block addresses own → IsSpelling copy addresses own
  spelled-copy addresses s = record {
    spelled = subst (λ (n : ℕ). SpellsBlock n addresses own) (sym low) s.spelled;
    span = record {
      number = s.span.number ∙ sym count;
      begin = s.span.begin ∙ ap Some (sym first);
      end = s.span.end ∙ ap Some (sym last);
    };
  }

  decoded-copy : (addresses : List ℕ) → IsSpelling block addresses own → addresses_at (bytes ++ own) copy ≡ addresses
  decoded-copy addresses s =
      ap (decoded copy.low 1) own-bytes ∙ decoded-block copy.low addresses own (spelled-copy addresses s).spelled

  pub copied-push : (addresses : List ℕ) → IsSpelling block addresses own → AreCopied (bytes ++ own) (blocks ++ copy ∷ [])
  copied-push addresses s =
      each-push (IsCopied (bytes ++ own)) blocks copy (copied-longer bytes own blocks are)
      (record {
        within = omega (arith, begin, len, length-append bytes own);
        spelled =
            subst (λ (l : List ℕ). IsSpelling copy l (bytes_of copy (bytes ++ own))) (sym (decoded-copy addresses s))
            (subst (IsSpelling copy addresses) (sym own-bytes) (spelled-copy addresses s));
      })

  pub addresses-copied : (addresses : List ℕ) → IsSpelling block addresses own
      → addresses_in (bytes ++ own) (blocks ++ copy ∷ []) ≡ addresses_in bytes blocks ++ addresses
  addresses-copied addresses s =
      addresses-push (bytes ++ own) blocks copy
      ∙ ap₂ (λ (xs ys : List ℕ). xs ++ ys) (addresses-longer bytes own blocks are) (decoded-copy addresses s)

-- ---- blocks beside frames

pub ascend-back : (low high : ℕ) (xs ys : List ℕ) → AscendBetween low high (xs ++ ys) → AscendBetween low high ys
ascend-back low high [] ys a = a
ascend-back low high (x ∷ xs) ys a = ascend-lower low (x + 1) high ys (omega (arith, a.0)) (ascend-back (x + 1) high xs ys a.1)

-- they begin at the block's first address
from_begin : (block : Block) (low high : ℕ) (own others bytes : List ℕ) → IsSpelling block own bytes → AscendBetween low high (own ++ others)
    → AllByRecursion (λ (x : ℕ). block.first ≤ x) (own ++ others)
from_begin block low high [] others bytes s a = absurd s.spelled
from_begin block low high (first ∷ own) others bytes s a =
    let same : Some first ≡ Some block.first = s.span.begin in
    let is : first ≡ block.first = cc in
    all_from block.first high (first ∷ own ++ others) (omega (arith, is), a.1)

module _ (bytes : List ℕ) (block : Block) (later : List Block) (high : ℕ) (is : IsCopied bytes block)
    (ascend : AscendBetween 0 high (addresses_in bytes (block ∷ later))) where
  abbrev own : List ℕ
  own = addresses_at bytes block

  abbrev others : List ℕ
  others = addresses_in bytes later

  pub later_ascend : AscendBetween 0 high others
  later_ascend = ascend-back 0 high own others ascend

  -- the block's, and then those of the later blocks
  pub cut_block : (left nearer : List Range) (before after : List ℕ) → LiveAlike block.first nearer left
      → after ≡ before ++ filter (is_live nearer) own
      → after ++ filter (is_live nearer) others ≡ before ++ filter (is_live left) (addresses_in bytes (block ∷ later))
  cut_block left nearer before after alike made =
      ap (λ (l : List ℕ). l ++ filter (is_live nearer) others) made
      ∙ append_assoc before (filter (is_live nearer) own) (filter (is_live nearer) others)
      ∙ ap (λ (l : List ℕ). before ++ l)
      (sym (filter-append (is_live nearer) own others)
      ∙ filter-alike (is_live nearer) (is_live left) block.first (own ++ others) alike
      (from_begin block 0 high own others (bytes_of block bytes) is.spelled ascend))

-- the same of the first of some blocks
module _ (bytes : List ℕ) (high : ℕ) where
  pub first_copied : (rest : List Block) (d : Block) → 0 < length rest → AreCopied bytes rest → IsCopied bytes (get_or rest 0 d)
  first_copied [] d some are = absurd (omega arith)
  first_copied (block ∷ later) d some are = are.0

  pub later_copied : (rest : List Block) → AreCopied bytes rest → AreCopied bytes (drop 1 rest)
  later_copied [] are = are
  later_copied (block ∷ later) are = are.1

  pub first_ascend : (rest : List Block) (d : Block) → 0 < length rest → AscendBetween 0 high (addresses_in bytes rest)
      → AscendBetween 0 high (addresses_at bytes (get_or rest 0 d))
  first_ascend [] d some a = absurd (omega arith)
  first_ascend (block ∷ later) d some a = ascend-front 0 high (addresses_at bytes block) (addresses_in bytes later) a

  pub rest_ascend : (rest : List Block) (d : Block) → 0 < length rest → AreCopied bytes rest
      → AscendBetween 0 high (addresses_in bytes rest) → AscendBetween 0 high (addresses_in bytes (drop 1 rest))
  rest_ascend [] d some are a = absurd (omega arith)
  rest_ascend (block ∷ later) d some are a = later_ascend bytes block later high are.0 a

  pub cut_rest : (rest : List Block) (d : Block) → 0 < length rest → AreCopied bytes rest
      → AscendBetween 0 high (addresses_in bytes rest) → (left nearer : List Range) (before after : List ℕ)
      → LiveAlike (get_or rest 0 d).first nearer left
      → after ≡ before ++ filter (is_live nearer) (addresses_at bytes (get_or rest 0 d))
      → after ++ filter (is_live nearer) (addresses_in bytes (drop 1 rest)) ≡ before ++ filter (is_live left) (addresses_in bytes rest)
  cut_rest [] d some are a left nearer before after alike made = absurd (omega arith)
  cut_rest (block ∷ later) d some are a left nearer before after alike made =
      cut_block bytes block later high are.0 a left nearer before after alike made

  pub none_in : (rest : List Block) → length rest < 1 → addresses_in bytes rest ≡ []
  none_in [] none = refl
  none_in (block ∷ later) none = absurd (omega arith)

-- none of a block's addresses lies in frames that don't need it
pub none_needed : (bytes : List ℕ) (block : Block) (frames : List Range) → IsCopied bytes block → meets frames block ≡ false
    → filter (is_live frames) (addresses_at bytes block) ≡ []
none_needed bytes block frames is missed =
    none_live frames block block.first (addresses_at bytes block) missed (omega arith)
    (spelled_ascend block (addresses_at bytes block) (bytes_of block bytes) is.spelled)

-- ---- blocks that are passed over

-- the addresses after a block's are above its last one
own_end : (own others : List ℕ) (last low high : ℕ) → AscendBetween low high (own ++ others) → last_or None own ≡ Some last
    → AscendBetween (last + 1) high others
own_end [] others last low high a e = absurd cc
own_end (x ∷ []) others last low high a e =
    let same : x ≡ last = same_Some x last e in subst (λ (n : ℕ). AscendBetween (n + 1) high others) same a.1
own_end (x ∷ y ∷ own) others last low high a e = own_end (y ∷ own) others last (x + 1) high a.1 e

last_from : (block : Block) (own others bytes : List ℕ) (low high : ℕ) → IsSpelling block own bytes → AscendBetween low high (own ++ others)
    → low ≤ block.last
last_from block [] others bytes low high s a = absurd s.spelled
last_from block (first ∷ own) others bytes low high s a =
    let up = spelled_ascend block (first ∷ own) bytes s in
    let most : first + 1 ≤ block.last + 1 = ascend-bounds (first + 1) (block.last + 1) own up.1 in
    omega (arith, a.0)

lasts_from : (bytes : List ℕ) (low high : ℕ) (blocks : List Block) → AreCopied bytes blocks
    → AscendBetween low high (addresses_in bytes blocks) → AllByRecursion (λ block. low ≤ block.last) blocks
lasts_from bytes low high [] are a = tt
lasts_from bytes low high (block ∷ later) are a =
    let own : List ℕ = addresses_at bytes block in
    let others : List ℕ = addresses_in bytes later in (
      last_from block own others (bytes_of block bytes) low high are.0.spelled a,
      lasts_from bytes low high later are.1 (ascend-back low high own others a),
    )

at_place : (least : ℕ) (blocks : List Block) (j : ℕ) (d : Block) → AllByRecursion (λ block. least ≤ block.last) blocks → j < length blocks
    → least ≤ (get_or blocks j d).last
at_place least [] j d a l = absurd (omega arith)
at_place least (block ∷ later) zero d a l = a.0
at_place least (block ∷ later) (suc j) d a l = at_place least later j d a.1 (omega arith)

pub lasts_rise : (bytes : List ℕ) (low high : ℕ) (blocks : List Block) → AreCopied bytes blocks
    → AscendBetween low high (addresses_in bytes blocks) → IsNonDecreasingBy (λ (block : Block). block.last) blocks
lasts_rise bytes low high [] are a i j d l h = absurd (omega arith)
lasts_rise bytes low high (block ∷ later) are a zero zero d l h = omega arith
lasts_rise bytes low high (block ∷ later) are a zero (suc j) d l h =
    let own : List ℕ = addresses_at bytes block in
    let others : List ℕ = addresses_in bytes later in
    let after : AscendBetween (block.last + 1) high others = own_end own others block.last low high a are.0.spelled.span.end in
    let up = at_place (block.last + 1) later j d (lasts_from bytes (block.last + 1) high later are.1 after) (omega arith) in
    omega (arith, up)
lasts_rise bytes low high (block ∷ later) are a (suc i) zero d l h = absurd (omega arith)
lasts_rise bytes low high (block ∷ later) are a (suc i) (suc j) d l h =
    lasts_rise bytes low high later are.1 (ascend-back low high (addresses_at bytes block) (addresses_in bytes later) a) i j d
    (omega arith) (omega arith)

-- blocks that end before the first of the frames
pub before_frames : (frames : List Range) (d : Range) (blocks : List Block) → 0 < length frames → AreInOrder 0 (2 ^ 64 - 1) frames
    → AllByRecursion (λ block. block.last < (get_or frames 0 d).start) blocks
    → AllByRecursion (λ block. meets frames block ≡ false) blocks
before_frames frames d [] some o a = tt
before_frames [] d (block ∷ later) some o a = absurd (omega arith)
before_frames (f ∷ fs) d (block ∷ later) some o a =
    let order : AreInOrder f.start (2 ^ 64 - 1) (f ∷ fs) = (omega arith, o.1) in
    (none_from f.start (2 ^ 64 - 1) (f ∷ fs) block a.0 order, before_frames (f ∷ fs) d later some o a.1)

pub no_frames_left : (frames : List Range) (blocks : List Block) → length frames < 1
    → AllByRecursion (λ block. meets frames block ≡ false) blocks
no_frames_left [] [] none = tt
no_frames_left [] (block ∷ later) none = (refl, no_frames_left [] later none)
no_frames_left (f ∷ fs) blocks none = absurd (omega arith)

-- none of the addresses of those that are left out lies in the frames
module _ (bytes : List ℕ) (high : ℕ) (frames : List Range) where
  skipped : (n : ℕ) (blocks : List Block) → AreCopied bytes blocks
      → AllByRecursion (λ block. meets frames block ≡ false) (take n blocks)
      → filter (is_live frames) (addresses_in bytes (drop n blocks)) ≡ filter (is_live frames) (addresses_in bytes blocks)
  skipped zero blocks are a = refl
  skipped (suc n) [] are a = refl
  skipped (suc n) (block ∷ later) are a =
      skipped n later are.1 a.1
      ∙ ap (λ (l : List ℕ). l ++ filter (is_live frames) (addresses_in bytes later)) (sym (none_needed bytes block frames are.0 a.0))
      ∙ sym (filter-append (is_live frames) (addresses_at bytes block) (addresses_in bytes later))

  ascend_left : (n : ℕ) (blocks : List Block) → AscendBetween 0 high (addresses_in bytes blocks)
      → AscendBetween 0 high (addresses_in bytes (drop n blocks))
  ascend_left zero blocks a = a
  ascend_left (suc n) [] a = a
  ascend_left (suc n) (block ∷ later) a =
      ascend_left n later (ascend-back 0 high (addresses_at bytes block) (addresses_in bytes later) a)

  module _ (blocks left : List Block) (l : Leaves frames blocks left) where
    pub left_copied : AreCopied bytes blocks → AreCopied bytes left
    left_copied are = subst (AreCopied bytes) (sym l.rest) (each-drop (IsCopied bytes) l.out blocks are)

    pub left_ascend : AscendBetween 0 high (addresses_in bytes blocks) → AscendBetween 0 high (addresses_in bytes left)
    left_ascend a =
        subst (λ (bs : List Block). AscendBetween 0 high (addresses_in bytes bs)) (sym l.rest) (ascend_left l.out blocks a)

    pub left_same : AreCopied bytes blocks
        → filter (is_live frames) (addresses_in bytes left) ≡ filter (is_live frames) (addresses_in bytes blocks)
    left_same are =
        ap (λ (bs : List Block). filter (is_live frames) (addresses_in bytes bs)) l.rest ∙ skipped l.out blocks are l.unneeded
