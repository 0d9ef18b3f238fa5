-- Lemmas on the entries that bytes are read as: where they spell entries, these.
use Rattle.std.proofs.Common.{◌≡◌, ℕ, zero, suc, ◌+◌, ◌-◌, ◌*◌, ◌≤◌, List, [], ◌∷◌, ◌++◌, length, take, drop, refl, ap, sym, ◌∙◌, arith}
use Rattle.std.specs.List.{flat_map, sum_by}
use Rattle.std.proofs.lemmas.Bool.{lt-ltb, le-ltb}
use Rattle.std.proofs.lemmas.List.Sums.{sum_by-cons}
use Rattle.std.proofs.Math.Seq.{take-append_seam, drop-append_seam}
use Rattle.wu_vbyte.specs.declared.blocks.TheConstants.{BLOCK_LEN}
use Rattle.wu_vbyte.specs.Numbers.{IsCode, StartsWithNumber}
use Rattle.wu_part.specs.declared.entries.BlockEntry.{BlockEntry}
use Rattle.wu_part.specs.declared.entries.TermEntry.{TermEntry}
use Rattle.wu_part.specs.declared.reading.Head.{Head}
use Rattle.wu_part.specs.Directories.{AreBlocks, StandFrom, StartsWithNumbers, all_blocks, block_numbers}
use Rattle.wu_part.specs.Entries.{AreNextBlocks, IsNextEntry, AreEntries}
use Rattle.wu_part.specs.Decoding.{code_length, number_in, after_numbers, block_in, blocks_in, after_term, entry_in, entries_in}
use Rattle.wu_part.proofs.EntryReadingLemmas.{entry_same}
use Rattle.wu_part.proofs.ReadingLemmas.{block_same, stand_split, stand_within}

code_length_is : (code rest : List ℕ) → IsCode code → code_length (code ++ rest) ≡ length code
code_length_is [] rest c = absurd c
code_length_is (byte ∷ []) rest c = rw (lt-ltb byte 128 c) refl
code_length_is (byte ∷ next ∷ code) rest c = rw (le-ltb byte 128 c.0) (ap suc (code_length_is (next ∷ code) rest c.3))

-- bytes that start with a number
number_is : (bytes : List ℕ) (n : ℕ) (rest : List ℕ) → StartsWithNumber bytes n rest
    → (number_in bytes ≡ n) × (drop (code_length bytes) bytes ≡ rest)
number_is bytes n rest s =
    let long : code_length bytes ≡ length s.0 = ap code_length s.2 ∙ code_length_is s.0 rest s.1.form in
    let front : take (code_length bytes) bytes ≡ s.0 =
    ap (λ k. take k bytes) long ∙ (ap (λ x. take (length s.0) x) s.2 ∙ take-append_seam s.0 rest) in
    let back : drop (code_length bytes) bytes ≡ rest =
    ap (λ k. drop k bytes) long ∙ (ap (λ x. drop (length s.0) x) s.2 ∙ drop-append_seam s.0 rest) in
    (rw front s.1.value, back)

-- what comes after so many numbers
numbers_passed : (bytes ns rest : List ℕ) → StartsWithNumbers bytes ns rest → after_numbers (length ns) bytes ≡ rest
numbers_passed bytes [] rest s = s
numbers_passed bytes (n ∷ ns) rest s =
    ap (λ x. after_numbers (length ns) x) (number_is bytes n s.0 s.1).1 ∙ numbers_passed s.0 ns rest s.2

-- ---- blocks

block_is : (low place : ℕ) (bytes : List ℕ) (block : BlockEntry) (rest : List ℕ) → StartsWithNumbers bytes (block_numbers low block) rest
    → low ≤ block.first → block.first ≤ block.last → block.at ≡ place → block_in low place bytes ≡ block
block_is low place bytes block rest s above span begin =
    let one = number_is bytes (block.first - low) s.0 s.1 in
    let two = number_is s.0 (block.last - block.first) s.2.0 s.2.1 in
    let three = number_is s.2.0 block.len s.2.2.0 s.2.2.1 in
    let first : number_in bytes ≡ block.first - low = one.0 in
    let last : number_in (after_numbers 1 bytes) ≡ block.last - block.first = ap number_in one.1 ∙ two.0 in
    let len : number_in (after_numbers 2 bytes) ≡ block.len =
    ap number_in (ap (λ x. after_numbers 1 x) one.1 ∙ two.1) ∙ three.0 in
    block_same (block_in low place bytes) block (omega arith) (omega arith) (sym begin) len

-- blocks that the bytes start with are those that they are read as
pub blocks_are : (most : ℕ) (head : Head) (size from count : ℕ) (bytes : List ℕ) (place : ℕ) (blocks : List BlockEntry) (rest : List ℕ)
    (end : ℕ) → length blocks ≤ most → head.low ≤ from → AreNextBlocks head size from count bytes place blocks rest end
    → blocks_in most head.low count place bytes ≡ blocks
blocks_are zero head size from count bytes place [] rest end few low b = refl
blocks_are zero head size from count bytes place (block ∷ later) rest end few low b = absurd (omega arith)
blocks_are (suc most) head size from zero bytes place [] rest end few low b = refl
blocks_are (suc most) head size from (suc count) bytes place [] rest end few low b = absurd (let none = b.hold in omega arith)
blocks_are (suc most) head size from zero bytes place (block ∷ later) rest end few low b = absurd (let some = b.hold.0 in omega arith)
blocks_are (suc most) head size from (suc count) bytes place (block ∷ later) rest end few low b =
    let begin = b.hold.1.begin in
    let room = b.hold.1.room in
    let own : StartsWithNumbers bytes (block_numbers head.low block) b.numbers.2.2.0 =
    (b.numbers.0, b.numbers.1, (b.numbers.2.0, b.numbers.2.1, (b.numbers.2.2.0, b.numbers.2.2.1, refl))) in
    let first = block_is head.low place bytes block b.numbers.2.2.0 own (omega arith) (omega arith) b.places.0 in
    let passed : after_numbers 3 bytes ≡ b.numbers.2.2.0 =
    numbers_passed bytes (block_numbers head.low block) b.numbers.2.2.0 own in
    let len : number_in (after_numbers 2 bytes) ≡ block.len = ap (λ (x : BlockEntry). x.len) first in
    let more = blocks_are most head size (block.last + 1) (suc count - BLOCK_LEN) b.numbers.2.2.0 (place + block.len) later rest end
    (omega arith) (omega arith)
    (record { numbers = b.numbers.2.2.2; hold = b.hold.2; places = b.places.1; within = b.within }) in
    let others : blocks_in most head.low (suc count - BLOCK_LEN) (place + number_in (after_numbers 2 bytes)) (after_numbers 3 bytes)
    ≡ later = rw (len, passed) more in
    rw (first, others) refl

-- there are no more blocks than addresses
pub blocks_few : (from high count : ℕ) (blocks : List BlockEntry) → AreBlocks from high count blocks → length blocks ≤ count
blocks_few from high count [] b = omega arith
blocks_few from high count (block ∷ later) b =
    let some = b.0 in omega (arith, blocks_few (block.last + 1) high (count - BLOCK_LEN) later b.2)

-- ---- entries

-- how many bytes blocks have in all
stand_length : (place end : ℕ) (blocks : List BlockEntry) → StandFrom place end blocks → place + sum_by (λ block. block.len) blocks ≡ end
stand_length place end [] s = omega arith
stand_length place end (block ∷ later) s =
    omega (arith, sum_by-cons (λ (x : BlockEntry). x.len) block later, stand_length (place + block.len) end later s.1)

numbers_count : (low : ℕ) (blocks : List BlockEntry) → length (flat_map (block_numbers low) blocks) ≡ 3 * length blocks
numbers_count low [] = refl
numbers_count low (block ∷ later) = omega (arith, numbers_count low later)

pub entry_is : (head : Head) (size : ℕ) (bytes : List ℕ) (place : ℕ) (entry : TermEntry) (rest : List ℕ) (end : ℕ)
    → IsNextEntry head size bytes place entry rest end
    → (entry_in head.low place bytes ≡ entry) × (after_numbers (3 * length entry.blocks) (after_numbers 1 (after_term bytes)) ≡ rest)
entry_is head size bytes place entry rest end e =
    let s = e.spelled in
    let one = number_is bytes (length entry.term) (entry.term ++ s.0) s.1 in
    let tail : after_numbers 1 bytes ≡ entry.term ++ s.0 = one.1 in
    let term : take (number_in bytes) (after_numbers 1 bytes) ≡ entry.term = rw (one.0, tail) (take-append_seam entry.term s.0) in
    let left : after_term bytes ≡ s.0 = rw (one.0, tail) (drop-append_seam entry.term s.0) in
    let two = number_is s.0 entry.count s.2.0 s.2.1 in
    let count : number_in (after_term bytes) ≡ entry.count = rw left two.0 in
    let numbers : after_numbers 1 (after_term bytes) ≡ s.2.0 = rw left two.1 in
    let blocks : blocks_in (number_in (after_term bytes)) head.low (number_in (after_term bytes)) place (after_numbers 1 (after_term bytes))
    ≡ entry.blocks = rw (count, numbers) (
    blocks_are entry.count head size head.low entry.count s.2.0 place entry.blocks rest end
    (blocks_few head.low head.high entry.count entry.blocks e.holds.cut) (omega arith)
    (record { numbers = s.2.2; hold = e.holds.cut; places = e.places; within = e.within })
    ) in
    let passed : after_numbers (3 * length entry.blocks) s.2.0 ≡ rest =
    ap (λ n. after_numbers n s.2.0) (sym (numbers_count head.low entry.blocks))
    ∙ numbers_passed s.2.0 (flat_map (block_numbers head.low) entry.blocks) rest s.2.2 in
    let rest_is = ap (λ x. after_numbers (3 * length entry.blocks) x) numbers ∙ passed in
    (entry_same (entry_in head.low place bytes) entry term count blocks, rest_is)

-- entries that the bytes spell are those that they are read as
pub entries_are : (head : Head) (size count : ℕ) (bytes : List ℕ) (place : ℕ) (terms : List TermEntry)
    → AreEntries head size count bytes place terms → entries_in count head.low place bytes ≡ terms
entries_are head size zero bytes place [] a = refl
entries_are head size (suc count) bytes place [] a = absurd (let number = a.number in omega arith)
entries_are head size zero bytes place (entry ∷ later) a = absurd (let number = a.number in omega arith)
entries_are head size (suc count) bytes place (entry ∷ later) a =
    let split = stand_split place size entry.blocks (all_blocks later) a.places in
    let is = entry_is head size bytes place entry a.spelled.0 split.0 (record {
      spelled = a.spelled.1;
      holds = a.hold.0;
      places = split.1;
      within = stand_within split.0 size (all_blocks later) split.2;
    }) in
    let end = stand_length place split.0 entry.blocks split.1 in
    let more = entries_are head size count a.spelled.0 split.0 later
    (record { number = let number = a.number in omega arith; spelled = a.spelled.2; hold = a.hold.1; places = split.2 }) in
    let after : TermEntry → List TermEntry =
    λ x. x ∷ entries_in count head.low (place + sum_by (λ block. block.len) x.blocks)
    (after_numbers (3 * length x.blocks) (after_numbers 1 (after_term bytes))) in
    ap after is.0
    ∙ (ap (λ n. entry ∷ entries_in count head.low n (after_numbers (3 * length entry.blocks) (after_numbers 1 (after_term bytes)))) end
    ∙ (ap (λ x. entry ∷ entries_in count head.low split.0 x) is.1 ∙ ap (λ (x : List TermEntry). entry ∷ x) more))
