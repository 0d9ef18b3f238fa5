-- Lemmas on the one spelling that lists have as a part.
use Rattle.std.proofs.Common.{◌≡◌, ℕ, ◌+◌, ◌-◌, ◌≤◌, List, [], ◌∷◌, ◌++◌, length, take, drop, refl, ap, sym, subst, ◌∙◌, append_assoc}
use Rattle.std.proofs.Common.{length-append, length-drop, true, false, ◌||◌, ◌==◌, arith}
use Rattle.std.specs.Prelude.{Some, codes, slice_range}
use Rattle.std.specs.Int.{w64, to_be_bytes}
use Rattle.std.specs.List.{AllByRecursion, AllZip, flat_map, list_any}
use Rattle.std.proofs.lemmas.Bool.{eqb-true}
use Rattle.std.proofs.lemmas.List.{at_drop_all, length-take}
use Rattle.std.proofs.lemmas.List.Folds.{drop_split}
use Rattle.std.proofs.Math.Seq.{drop-append_seam}
use Rattle.wu_base.specs.declared.addresses.TermList.{TermList}
use Rattle.wu_vbyte.specs.declared.blocks.TheConstants.{BLOCK_LEN}
use Rattle.wu_vbyte.specs.Blocks.{SpellsBlock}
use Rattle.wu_vbyte.proofs.BlockLemmas.{block_code, block_some}
use Rattle.wu_part.specs.declared.entries.BlockEntry.{BlockEntry}
use Rattle.wu_part.specs.declared.entries.TermEntry.{TermEntry}
use Rattle.wu_part.specs.declared.headers.TheConstants.{HEADER_LEN}
use Rattle.wu_part.specs.Directories.{PartDirectory, IsEntry, AreBlocks, StandFrom, all_blocks}
use Rattle.wu_vbyte.specs.Numbers.{StartsWithNumber}
use Rattle.wu_part.specs.Directories.{StartsWithNumbers, StartsWithEntry, SpellsEntries, block_numbers}
use Rattle.wu_part.specs.Parts.{HoldBlocks, HoldsList, IsDirectoryOf, SpellsPart}
use Rattle.wu_part.proofs.ReadingLemmas.{stand_within}
use Rattle.wu_part.proofs.PartLemmas.{held_number, held_sum}
use Rattle.wu_part.proofs.LawLemmas.{numbers_code, number_code}

zip_join : {X Y : Type 0} (R : X → Y → Type 0) (xs us : List X) (ys vs : List Y) → AllZip R xs ys → AllZip R us vs
    → AllZip R (xs ++ us) (ys ++ vs)
zip_join R [] us [] vs a b = b
zip_join R [] us (y ∷ ys) vs a b = absurd a
zip_join R (x ∷ xs) us [] vs a b = absurd a
zip_join R (x ∷ xs) us (y ∷ ys) vs a b = (a.0, zip_join R xs us ys vs a.1 b)

-- ---- the lowest and the highest address

-- the blocks have the same first and last address
pub record IsSameSpan (a b : BlockEntry) : Type 0 where
  pub first : a.first ≡ b.first
  pub last : a.last ≡ b.last

some_same : (a b : ℕ) → Some a ≡ Some b → a ≡ b
some_same a b e = cc

nothing_held : (low : ℕ) (bytes addresses : List ℕ) → addresses ≡ [] → SpellsBlock low (take BLOCK_LEN addresses) bytes → ⊥
nothing_held low bytes addresses none s =
    let some = block_some low (take BLOCK_LEN addresses) bytes s in
    let length_none = ap length none in
    omega (arith, length-take BLOCK_LEN addresses)

same_spans : (low other : ℕ) (blob another : List ℕ) (blocks others : List BlockEntry) (addresses : List ℕ)
    → HoldBlocks low blob blocks addresses
    → HoldBlocks other another others addresses → AllZip IsSameSpan blocks others
same_spans low other blob another [] [] addresses a b = tt
same_spans low other blob another [] (y ∷ others) addresses a b = nothing_held other _ addresses a b.0.spelled
same_spans low other blob another (x ∷ blocks) [] addresses a b = nothing_held low _ addresses b a.0.spelled
same_spans low other blob another (x ∷ blocks) (y ∷ others) addresses a b = (
  record {
    first = some_same x.first y.first (sym a.0.span.begin ∙ b.0.span.begin);
    last = some_same x.last y.last (sym a.0.span.end ∙ b.0.span.end);
  },
  same_spans low other blob another blocks others (drop BLOCK_LEN addresses) a.1 b.1,
)

spans_of_lists : (low other : ℕ) (blob another : List ℕ) (terms others : List TermEntry) (lists : List TermList)
    → AllZip (HoldsList low blob) terms lists → AllZip (HoldsList other another) others lists
    → AllZip IsSameSpan (all_blocks terms) (all_blocks others)
spans_of_lists low other blob another [] [] [] a b = tt
spans_of_lists low other blob another [] (y ∷ others) [] a b = absurd b
spans_of_lists low other blob another [] others (list ∷ lists) a b = absurd a
spans_of_lists low other blob another (x ∷ terms) others [] a b = absurd a
spans_of_lists low other blob another (x ∷ terms) [] (list ∷ lists) a b = absurd b
spans_of_lists low other blob another (x ∷ terms) (y ∷ others) (list ∷ lists) a b =
    zip_join IsSameSpan x.blocks (all_blocks terms) y.blocks (all_blocks others)
    (same_spans low other blob another x.blocks y.blocks list.at a.0.blocks b.0.blocks)
    (spans_of_lists low other blob another terms others lists a.1 b.1)

-- the blocks lie within these bounds
abbrev LieWithin : ℕ → ℕ → List BlockEntry → Type 0
LieWithin low high blocks = AllByRecursion (λ block. (low ≤ block.first) × (block.last ≤ high)) blocks

blocks_lie : (low from high count : ℕ) (blocks : List BlockEntry) → low ≤ from → AreBlocks from high count blocks
    → LieWithin low high blocks
blocks_lie low from high count [] l a = tt
blocks_lie low from high count (block ∷ later) l a =
    let some = a.0 in
    let begin = a.1.begin in
    let end = a.1.end in
    let room = a.1.room in
    ((omega arith, end), blocks_lie low (block.last + 1) high (count - BLOCK_LEN) later (omega arith) a.2)

lie_joined : (low high : ℕ) (blocks more : List BlockEntry) → LieWithin low high blocks → LieWithin low high more
    → LieWithin low high (blocks ++ more)
lie_joined low high [] more a b = b
lie_joined low high (block ∷ blocks) more a b = (a.0, lie_joined low high blocks more a.1 b)

entries_lie : (low high : ℕ) (terms : List TermEntry) → AllByRecursion (IsEntry low high) terms → LieWithin low high (all_blocks terms)
entries_lie low high [] a = tt
entries_lie low high (entry ∷ terms) a =
    lie_joined low high entry.blocks (all_blocks terms) (blocks_lie low low high entry.count entry.blocks (omega arith) a.0.cut)
    (entries_lie low high terms a.1)

low_of_spans : (low other high : ℕ) (blocks others : List BlockEntry) → AllZip IsSameSpan blocks others
    → list_any (λ block. block.first == low) blocks ≡ true → LieWithin other high others → other ≤ low
low_of_spans low other high [] others z any l = absurd cc
low_of_spans low other high (x ∷ blocks) [] z any l = absurd z
low_of_spans low other high (x ∷ blocks) (y ∷ others) z any l =
    elim (x.first == low) as (λ v. (x.first == low) ≡ v → (v || list_any (λ block. block.first == low) blocks) ≡ true → other ≤ low) [
      | true ↦ λ p t. let is = eqb-true x.first low p in let same = z.0.first in let within = l.0.0 in omega arith
      | false ↦ λ p t. low_of_spans low other high blocks others z.1 t l.1
    ] refl any

high_of_spans : (low high other : ℕ) (blocks others : List BlockEntry) → AllZip IsSameSpan blocks others
    → list_any (λ block. block.last == high) blocks ≡ true → LieWithin low other others → high ≤ other
high_of_spans low high other [] others z any l = absurd cc
high_of_spans low high other (x ∷ blocks) [] z any l = absurd z
high_of_spans low high other (x ∷ blocks) (y ∷ others) z any l =
    elim (x.last == high) as (λ v. (x.last == high) ≡ v → (v || list_any (λ block. block.last == high) blocks) ≡ true → high ≤ other) [
      | true ↦ λ p t. let is = eqb-true x.last high p in let same = z.0.last in let within = l.0.1 in omega arith
      | false ↦ λ p t. high_of_spans low high other blocks others z.1 t l.1
    ] refl any

pub same_bounds : (d e : PartDirectory) (lists : List TermList) (blob another : List ℕ) → SpellsPart d lists blob
    → SpellsPart e lists another
    → (d.low ≡ e.low) × (d.high ≡ e.high)
same_bounds d e lists blob another s t =
    let its = s.own.code_spelled.holds in
    let others = t.own.code_spelled.holds in
    let there = spans_of_lists d.low e.low blob another d.terms e.terms lists s.lists_held t.lists_held in
    let back = spans_of_lists e.low d.low another blob e.terms d.terms lists t.lists_held s.lists_held in
    let mine_lie = entries_lie d.low d.high d.terms its.entries in
    let others_lie = entries_lie e.low e.high e.terms others.entries in
    let a = low_of_spans d.low e.low e.high (all_blocks d.terms) (all_blocks e.terms) there its.begin others_lie in
    let b = low_of_spans e.low d.low d.high (all_blocks e.terms) (all_blocks d.terms) back others.begin mine_lie in
    let f = high_of_spans e.low d.high e.high (all_blocks d.terms) (all_blocks e.terms) there its.end others_lie in
    let g = high_of_spans d.low e.high d.high (all_blocks e.terms) (all_blocks d.terms) back others.end mine_lie in
    (omega arith, omega arith)

-- ---- the bytes

-- the block's bytes in the blob
abbrev bytes_of : List ℕ → BlockEntry → List ℕ
bytes_of blob block = slice_range blob block.at (block.at + block.len)

abbrev AreInside : ℕ → List BlockEntry → Type 0
AreInside size blocks = AllByRecursion (λ block. block.at + block.len ≤ size) blocks

inside_of_places : (place size : ℕ) (blocks : List BlockEntry) → StandFrom place size blocks → AreInside size blocks
inside_of_places place size [] s = tt
inside_of_places place size (block ∷ later) s =
    let within = stand_within (place + block.len) size later s.1 in
    let begin = s.0 in
    (omega arith, inside_of_places (place + block.len) size later s.1)

inside_front : (size : ℕ) (blocks more : List BlockEntry) → AreInside size (blocks ++ more) → AreInside size blocks × AreInside size more
inside_front size [] more a = (tt, a)
inside_front size (block ∷ blocks) more a = let later = inside_front size blocks more a.1 in ((a.0, later.0), later.1)

bytes_length : (blob : List ℕ) (block : BlockEntry) → block.at + block.len ≤ length blob → length (bytes_of blob block) ≡ block.len
bytes_length blob block within =
    omega (arith, length-take (block.at + block.len - block.at) (drop block.at blob), length-drop block.at blob)

-- the blocks have the same addresses, length and bytes
pub record IsSameBlock (low : ℕ) (blob another : List ℕ) (a b : BlockEntry) : Type 0 where
  pub numbers : block_numbers low a ≡ block_numbers low b
  pub bytes : bytes_of blob a ≡ bytes_of another b

same_held : (low : ℕ) (blob another : List ℕ) (blocks others : List BlockEntry) (addresses : List ℕ) → HoldBlocks low blob blocks addresses
    → HoldBlocks low another others addresses → AreInside (length blob) blocks → AreInside (length another) others
    → AllZip (IsSameBlock low blob another) blocks others
same_held low blob another [] [] addresses a b i j = tt
same_held low blob another [] (y ∷ others) addresses a b i j = nothing_held low _ addresses a b.0.spelled
same_held low blob another (x ∷ blocks) [] addresses a b i j = nothing_held low _ addresses b a.0.spelled
same_held low blob another (x ∷ blocks) (y ∷ others) addresses a b i j =
    let code = block_code low (take BLOCK_LEN addresses) (bytes_of blob x) (bytes_of another y) a.0.spelled b.0.spelled in
    let first = some_same x.first y.first (sym a.0.span.begin ∙ b.0.span.begin) in
    let last = some_same x.last y.last (sym a.0.span.end ∙ b.0.span.end) in
    let len : x.len ≡ y.len = sym (bytes_length blob x i.0) ∙ (ap length code ∙ bytes_length another y j.0) in
    let make : ℕ → ℕ → ℕ → List ℕ = λ f l n. (f - low) ∷ (l - f) ∷ n ∷ [] in (
      record {
        numbers = ap (λ n. make n x.last x.len) first ∙ (ap (λ n. make y.first n x.len) last ∙ ap (λ n. make y.first y.last n) len);
        bytes = code;
      },
      same_held low blob another blocks others (drop BLOCK_LEN addresses) a.1 b.1 i.1 j.1,
    )

-- the same numbers
numbers_of_same : (low : ℕ) (blob another : List ℕ) (blocks others : List BlockEntry) → AllZip (IsSameBlock low blob another) blocks others
    → flat_map (block_numbers low) blocks ≡ flat_map (block_numbers low) others
numbers_of_same low blob another [] [] z = refl
numbers_of_same low blob another [] (y ∷ others) z = absurd z
numbers_of_same low blob another (x ∷ blocks) [] z = absurd z
numbers_of_same low blob another (x ∷ blocks) (y ∷ others) z =
    ap (λ (n : List ℕ). n ++ flat_map (block_numbers low) blocks) z.0.numbers
    ∙ ap (λ (n : List ℕ). block_numbers low y ++ n) (numbers_of_same low blob another blocks others z.1)

bytes_of_same : (low : ℕ) (blob another : List ℕ) (blocks others : List BlockEntry) → AllZip (IsSameBlock low blob another) blocks others
    → flat_map (bytes_of blob) blocks ≡ flat_map (bytes_of another) others
bytes_of_same low blob another [] [] z = refl
bytes_of_same low blob another [] (y ∷ others) z = absurd z
bytes_of_same low blob another (x ∷ blocks) [] z = absurd z
bytes_of_same low blob another (x ∷ blocks) (y ∷ others) z =
    ap (λ (n : List ℕ). n ++ flat_map (bytes_of blob) blocks) z.0.bytes
    ∙ ap (λ (n : List ℕ). bytes_of another y ++ n) (bytes_of_same low blob another blocks others z.1)

-- the entries of the same lists
pub record AreSame (low : ℕ) (blob another : List ℕ) (terms others : List TermEntry) (code other : List ℕ) : Type 0 where
  pub spelling : code ≡ other
  pub blocks : AllZip (IsSameBlock low blob another) (all_blocks terms) (all_blocks others)

entry_bytes : (low : ℕ) (a b : List ℕ) (x y : TermEntry) (rest left : List ℕ) → StartsWithEntry low a x rest → StartsWithEntry low b y left
    → x.term ≡ y.term → x.count ≡ y.count → flat_map (block_numbers low) x.blocks ≡ flat_map (block_numbers low) y.blocks → rest ≡ left
    → a ≡ b
entry_bytes low a b x y rest left s t term count numbers e =
    let all : x.count ∷ flat_map (block_numbers low) x.blocks ≡ y.count ∷ flat_map (block_numbers low) y.blocks =
    ap (λ n. n ∷ flat_map (block_numbers low) x.blocks) count ∙ ap (λ (l : List ℕ). y.count ∷ l) numbers in
    let after = numbers_code s.0 t.0 (x.count ∷ flat_map (block_numbers low) x.blocks) rest left s.2
    (subst (λ l. StartsWithNumbers t.0 l left) (sym all) t.2) e in
    number_code a b (length x.term) (x.term ++ s.0) (x.term ++ t.0) s.1
    (subst (λ l. StartsWithNumber b (length l) (l ++ t.0)) (sym term) t.1) (ap (λ l. x.term ++ l) after)

pub same_of_lists : (low : ℕ) (blob another : List ℕ) (terms others : List TermEntry) (lists : List TermList) (code other : List ℕ)
    → AllZip (HoldsList low blob) terms lists → AllZip (HoldsList low another) others lists → AreInside (length blob) (all_blocks terms)
    → AreInside (length another) (all_blocks others) → SpellsEntries low terms code → SpellsEntries low others other
    → AreSame low blob another terms others code other
same_of_lists low blob another [] [] [] code other a b i j s t = record { spelling = s ∙ sym t; blocks = tt }
same_of_lists low blob another [] (y ∷ others) [] code other a b i j s t = absurd b
same_of_lists low blob another [] others (list ∷ lists) code other a b i j s t = absurd a
same_of_lists low blob another (x ∷ terms) others [] code other a b i j s t = absurd a
same_of_lists low blob another (x ∷ terms) [] (list ∷ lists) code other a b i j s t = absurd b
same_of_lists low blob another (x ∷ terms) (y ∷ others) (list ∷ lists) code other a b i j s t =
    let mine = inside_front (length blob) x.blocks (all_blocks terms) i in
    let its = inside_front (length another) y.blocks (all_blocks others) j in
    let blocks = same_held low blob another x.blocks y.blocks list.at a.0.blocks b.0.blocks mine.0 its.0 in
    let more = same_of_lists low blob another terms others lists s.0 t.0 a.1 b.1 mine.1 its.1 s.2 t.2 in
    record {
      spelling = entry_bytes low code other x y s.0 t.0 s.1 t.1 (a.0.term ∙ sym b.0.term) (a.0.count ∙ sym b.0.count)
          (numbers_of_same low blob another x.blocks y.blocks blocks) more.spelling;
      blocks = zip_join (IsSameBlock low blob another) x.blocks (all_blocks terms) y.blocks (all_blocks others) blocks more.blocks;
    }

-- what stands behind the directory is the blocks' bytes, one after another
behind : (blob : List ℕ) (place end : ℕ) (blocks : List BlockEntry) → StandFrom place end blocks → end ≡ length blob
    → drop place blob ≡ flat_map (bytes_of blob) blocks
behind blob place end [] s e = at_drop_all (λ left. left) blob place (omega arith)
behind blob place end (block ∷ later) s e =
    let more = behind blob (place + block.len) end later s.1 e in
    let bytes : slice_range blob place (place + block.len) ≡ bytes_of blob block = ap (λ n. slice_range blob n (n + block.len)) (sym s.0) in
    drop_split blob place (place + block.len) (omega arith)
    ∙ (ap (λ x. x ++ drop (place + block.len) blob) bytes ∙ ap (λ x. bytes_of blob block ++ x) more)

-- a blob's bytes behind its directory
rest_of_blob : (d : PartDirectory) (blob : List ℕ) (o : IsDirectoryOf d blob) → o.blocks ≡ flat_map (bytes_of blob) (all_blocks d.terms)
rest_of_blob d blob o =
    let long : length (o.header ++ o.code) ≡ HEADER_LEN + length o.code =
    length-append o.header o.code ∙ ap (λ n. n + length o.code) (ap length o.header_spelled.spelled) in
    let whole : blob ≡ (o.header ++ o.code) ++ o.blocks = o.whole ∙ sym (append_assoc o.header o.code o.blocks) in
    let tail : drop (HEADER_LEN + length o.code) blob ≡ o.blocks =
    ap (λ n. drop n blob) (sym long) ∙ (ap (λ x. drop (length (o.header ++ o.code)) x) whole ∙ drop-append_seam
    (o.header ++ o.code) o.blocks) in
    sym tail ∙ behind blob (HEADER_LEN + length o.code) d.size (all_blocks d.terms) o.code_spelled.holds.places (sym o.size)

pub part_code : (d e : PartDirectory) (lists : List TermList) (blob another : List ℕ) → SpellsPart d lists blob → SpellsPart e lists another
    → d.generation ≡ e.generation → blob ≡ another
part_code d e lists blob another s t generation =
    let its = s.own.code_spelled in
    let others = t.own.code_spelled in
    let bounds = same_bounds d e lists blob another s t in
    let i = inside_of_places _ d.size (all_blocks d.terms) its.holds.places in
    let j = inside_of_places _ e.size (all_blocks e.terms) others.holds.places in
    let same = same_of_lists d.low blob another d.terms e.terms lists its.entries others.entries s.lists_held
    (subst (λ n. AllZip (HoldsList n another) e.terms lists) (sym bounds.0) t.lists_held)
    (subst (λ n. AreInside n (all_blocks d.terms)) (sym s.own.size) i) (subst (λ n. AreInside n (all_blocks e.terms)) (sym t.own.size) j)
    its.terms (subst (λ n. SpellsEntries n e.terms others.entries) (sym bounds.0) others.terms) in
    let stored : d.stored ≡ e.stored = sym its.holds.sum ∙ (held_sum d.low blob d.terms lists s.lists_held
    ∙ (sym (held_sum e.low another e.terms lists t.lists_held) ∙ others.holds.sum)) in
    let count : length d.terms ≡ length e.terms =
    held_number d.low blob d.terms lists s.lists_held ∙ sym (held_number e.low another e.terms lists t.lists_held) in
    let make : ℕ → ℕ → ℕ → ℕ → ℕ → List ℕ = λ g l h n c. g ∷ l ∷ (h - l) ∷ n ∷ c ∷ [] in
    let numbers : make d.generation d.low d.high d.stored (length d.terms) ≡ make e.generation e.low e.high e.stored (length e.terms) =
    ap (λ g. make g d.low d.high d.stored (length d.terms)) generation
    ∙ (ap (λ l. make e.generation l d.high d.stored (length d.terms)) bounds.0
    ∙ (ap (λ h. make e.generation e.low h d.stored (length d.terms)) bounds.1
    ∙ (ap (λ n. make e.generation e.low e.high n (length d.terms)) stored ∙ ap (λ c. make e.generation e.low e.high e.stored c) count))) in
    let code : s.own.code ≡ t.own.code =
    numbers_code s.own.code t.own.code (make d.generation d.low d.high d.stored (length d.terms)) its.entries others.entries its.numbers
    (subst (λ (l : List ℕ). StartsWithNumbers t.own.code l others.entries) (sym numbers) others.numbers) same.spelling in
    let header : s.own.header ≡ t.own.header =
    s.own.header_spelled.spelled ∙ (ap (λ (c : List ℕ). codes "WUMPUSP1" ++ to_be_bytes w64 (length c)) code
    ∙ sym t.own.header_spelled.spelled) in
    let blocks : s.own.blocks ≡ t.own.blocks =
    rest_of_blob d blob s.own ∙ (bytes_of_same d.low blob another (all_blocks d.terms) (all_blocks e.terms) same.blocks
    ∙ sym (rest_of_blob e another t.own)) in
    s.own.whole ∙ (ap (λ x. x ++ (s.own.code ++ s.own.blocks)) header ∙ (ap (λ x. t.own.header ++ (x ++ s.own.blocks)) code
    ∙ (ap (λ x. t.own.header ++ (t.own.code ++ x)) blocks ∙ sym t.own.whole)))
