-- Lemmas on the numbers and the blocks that a directory's bytes start with.
use Rattle.std.proofs.Common.{◌≡◌, ℕ, ◌+◌, ◌-◌, ◌<◌, ◌≤◌, List, [], ◌∷◌, ◌++◌, length, min, refl, ap, sym, ◌∙◌, append_assoc, append-nil}
use Rattle.std.proofs.Common.{arith}
use Rattle.std.specs.List.{flat_map}
use Rattle.wu_vbyte.specs.declared.blocks.TheConstants.{BLOCK_LEN}
use Rattle.wu_vbyte.specs.Numbers.{StartsWithNumber}
use Rattle.wu_vbyte.proofs.NumberLemmas.{one_number}
use Rattle.wu_vbyte.proofs.BlockLemmas.{starts_length, starts_longer}
use Rattle.wu_part.specs.declared.entries.BlockEntry.{BlockEntry}
use Rattle.wu_part.specs.declared.reading.Head.{Head}
use Rattle.wu_part.specs.Directories.{AreBlocks, StandFrom}
use Rattle.wu_part.specs.Directories.{StartsWithNumbers, block_numbers}
use Rattle.wu_part.specs.Entries.{IsNextBlock, AreNextBlocks}

-- ---- numbers

-- what follows the first number
pub after_first : (bytes : List ℕ) (read number : ℕ) (left rest numbers : List ℕ) → StartsWithNumber bytes read left
    → StartsWithNumbers bytes (number ∷ numbers) rest → (number ≡ read) × StartsWithNumbers left numbers rest
after_first bytes read number left rest numbers s t =
    let one = one_number bytes number read t.0 left t.1 s in (one.0, rw one.1 at t.2)

-- bytes start with one list of so many numbers at most
pub same_numbers : (bytes rest other ns ms : List ℕ) → length ns ≡ length ms → StartsWithNumbers bytes ns rest
    → StartsWithNumbers bytes ms other → (ns ≡ ms) × (rest ≡ other)
same_numbers bytes rest other [] [] e s t = (refl, sym s ∙ t)
same_numbers bytes rest other [] (m ∷ ms) e s t = absurd (omega arith)
same_numbers bytes rest other (n ∷ ns) [] e s t = absurd (omega arith)
same_numbers bytes rest other (n ∷ ns) (m ∷ ms) e s t =
    let one = after_first bytes n m s.0 other ms s.1 t in
    let more = same_numbers s.0 rest other ns ms (omega arith) s.2 one.1 in
    let number = one.0 in
    let numbers = more.0 in
    (cc, more.1)

pub numbers_join : (bytes left rest ns ms : List ℕ) → StartsWithNumbers bytes ns left → StartsWithNumbers left ms rest
    → StartsWithNumbers bytes (ns ++ ms) rest
numbers_join bytes left rest [] ms s t = rw s t
numbers_join bytes left rest (n ∷ ns) ms s t = (s.0, s.1, numbers_join s.0 left rest ns ms s.2 t)

-- more bytes after the numbers
pub numbers_longer : (bytes rest more ns : List ℕ) → StartsWithNumbers bytes ns rest → StartsWithNumbers (bytes ++ more) ns (rest ++ more)
numbers_longer bytes rest more [] s = rw s refl
numbers_longer bytes rest more (n ∷ ns) s =
    (s.0 ++ more, starts_longer bytes n s.0 more s.1, numbers_longer s.0 rest more ns s.2)

pub numbers_length : (bytes rest ns : List ℕ) → StartsWithNumbers bytes ns rest → length rest + length ns ≤ length bytes
numbers_length bytes rest [] s = rw s (omega arith)
numbers_length bytes rest (n ∷ ns) s = omega (arith, numbers_length s.0 rest ns s.2, starts_length bytes n s.0 s.1)

pub after_three : (bytes left rest : List ℕ) (x y z a b c : ℕ) (numbers : List ℕ) → StartsWithNumbers bytes (x ∷ y ∷ z ∷ []) left
    → StartsWithNumbers bytes (a ∷ b ∷ c ∷ numbers) rest → (a ≡ x) × (b ≡ y) × (c ≡ z) × StartsWithNumbers left numbers rest
after_three bytes left rest x y z a b c numbers s t =
    let first = after_first bytes x a s.0 rest (b ∷ c ∷ numbers) s.1 t in
    let second = after_first s.0 y b s.2.0 rest (c ∷ numbers) s.2.1 first.1 in
    let third = after_first s.2.0 z c s.2.2.0 rest numbers s.2.2.1 second.1 in
    (first.0, second.0, third.0, rw s.2.2.2 at third.1)

-- ---- places

pub stand_within : (place end : ℕ) (blocks : List BlockEntry) → StandFrom place end blocks → place ≤ end
stand_within place end [] s = omega arith
stand_within place end (block ∷ later) s = omega (arith, stand_within (place + block.len) end later s.1)

pub stand_split : (place end : ℕ) (blocks more : List BlockEntry) → StandFrom place end (blocks ++ more)
    → (mid : ℕ) × StandFrom place mid blocks × StandFrom mid end more
stand_split place end [] more s = (place, refl, s)
stand_split place end (block ∷ later) more s = let h = stand_split (place + block.len) end later more s.1 in (h.0, (s.0, h.1), h.2)

pub stand_join : (place mid end : ℕ) (blocks more : List BlockEntry) → StandFrom place mid blocks → StandFrom mid end more
    → StandFrom place end (blocks ++ more)
stand_join place mid end [] more s t = rw s t
stand_join place mid end (block ∷ later) more s t = (s.0, stand_join (place + block.len) mid end later more s.1 t)

-- ---- blocks

pub block_same : (a b : BlockEntry) → a.first ≡ b.first → a.last ≡ b.last → a.at ≡ b.at → a.len ≡ b.len → a ≡ b
block_same a b first last place len =
    let make : ℕ → ℕ → ℕ → ℕ → BlockEntry = λ f l p n. record { first = f; last = l; at = p; len = n } in
    ap (λ x. make x a.last a.at a.len) first ∙ (ap (λ x. make b.first x a.at a.len) last
    ∙ (ap (λ x. make b.first b.last x a.len) place ∙ ap (λ x. make b.first b.last b.at x) len))

-- the first block, and the others
pub next_of_blocks : (head : Head) (size from count : ℕ) (bytes : List ℕ) (place : ℕ) (blocks : List BlockEntry) (rest : List ℕ) (end : ℕ)
    → AreNextBlocks head size from count bytes place blocks rest end → 0 < count
    → (block : BlockEntry) × (left : List ℕ) × IsNextBlock head size from (min count BLOCK_LEN) bytes place block left
next_of_blocks head size from count bytes place [] rest end b some = absurd (let none = b.hold in omega arith)
next_of_blocks head size from count bytes place (block ∷ later) rest end b some =
    let within = stand_within (place + block.len) end later b.places.1 in
    let last = b.within in (
      block,
      b.numbers.2.2.0,
      record {
        numbers = (b.numbers.0, b.numbers.1, (b.numbers.2.0, b.numbers.2.1, (b.numbers.2.2.0, b.numbers.2.2.1, refl)));
        holds = b.hold.1;
        begin = b.places.0;
        within = omega arith;
      },
    )

pub blocks_cons : (head : Head) (size from count : ℕ) (bytes : List ℕ) (place : ℕ) (block : BlockEntry) (later : List BlockEntry)
    (left rest : List ℕ) (end : ℕ) → 0 < count
    → IsNextBlock head size from (min count BLOCK_LEN) bytes place block left
    → AreNextBlocks head size (block.last + 1) (count - BLOCK_LEN) left (place + block.len) later rest end
    → AreNextBlocks head size from count bytes place (block ∷ later) rest end
blocks_cons head size from count bytes place block later left rest end some b m = record {
  numbers = numbers_join bytes left rest (block_numbers head.low block) _ b.numbers m.numbers;
  hold = (some, b.holds, m.hold);
  places = (b.begin, m.places);
  within = m.within;
}

pub blocks_uncons : (head : Head) (size from count : ℕ) (bytes : List ℕ) (place : ℕ) (block : BlockEntry) (all : List BlockEntry)
    (left rest : List ℕ) (end : ℕ) → 0 < count → head.low ≤ from
    → IsNextBlock head size from (min count BLOCK_LEN) bytes place block left
    → AreNextBlocks head size from count bytes place all rest end
    → (later : List BlockEntry) × (all ≡ block ∷ later)
    × AreNextBlocks head size (block.last + 1) (count - BLOCK_LEN) left (place + block.len) later rest end
blocks_uncons head size from count bytes place block [] left rest end some low b m = absurd (let none = m.hold in omega arith)
blocks_uncons head size from count bytes place block (other ∷ later) left rest end some low b m =
    let numbers = flat_map (block_numbers head.low) later in
    let first = after_first bytes (block.first - head.low) (other.first - head.low) b.numbers.0 rest
    ((other.last - other.first) ∷ other.len ∷ numbers) b.numbers.1 m.numbers in
    let second = after_first b.numbers.0 (block.last - block.first) (other.last - other.first) b.numbers.2.0 rest (other.len ∷ numbers)
    b.numbers.2.1 first.1 in
    let third = after_first b.numbers.2.0 block.len other.len b.numbers.2.2.0 rest numbers b.numbers.2.2.1 second.1 in
    let mine = b.holds in
    let its = m.hold.1 in
    let above : other.first - head.low ≡ block.first - head.low = first.0 in
    let over : other.last - other.first ≡ block.last - block.first = second.0 in
    let same_first : other.first ≡ block.first = omega arith in
    let same_last : other.last ≡ block.last = omega arith in
    let same = block_same other block same_first same_last (m.places.0 ∙ sym b.begin) third.0 in (
      later,
      ap (λ (x : BlockEntry). x ∷ later) same,
      record {
        numbers = rw b.numbers.2.2.2 at third.1;
        hold = rw same_last at m.hold.2;
        places = rw third.0 at m.places.1;
        within = m.within;
      },
    )

-- what was taken of the blocks of so many addresses, and what is left
pub record TakenBlocks (head : Head) (size count : ℕ) (bytes : List ℕ) (place : ℕ) (taken : List BlockEntry) (from left : ℕ) (rest : List ℕ)
    (end : ℕ) : Type 0 where
  pub low : head.low ≤ from
  pub within : end ≤ size
  pub on : (later : List BlockEntry) (last : List ℕ) (stop : ℕ) → AreNextBlocks head size from left rest end later last stop
      → AreNextBlocks head size head.low count bytes place (taken ++ later) last stop
  pub back : (all : List BlockEntry) (last : List ℕ) (stop : ℕ) → AreNextBlocks head size head.low count bytes place all last stop
      → (later : List BlockEntry) × (all ≡ taken ++ later) × AreNextBlocks head size from left rest end later last stop

pub blocks_none_taken : (head : Head) (size count : ℕ) (bytes : List ℕ) (place : ℕ) → place ≤ size
    → TakenBlocks head size count bytes place [] head.low count bytes place
blocks_none_taken head size count bytes place within = record {
  low = omega arith;
  within = within;
  on = λ later last stop b. b;
  back = λ all last stop b. (all, refl, b);
}

pub blocks_taken : (head : Head) (size count : ℕ) (bytes : List ℕ) (place : ℕ) (taken new : List BlockEntry) (from left fewer : ℕ)
    (rest after : List ℕ) (end : ℕ) (block : BlockEntry) → TakenBlocks head size count bytes place taken from left rest end → 0 < left
    → IsNextBlock head size from (min left BLOCK_LEN) rest end block after → new ≡ taken ++ block ∷ [] → fewer ≡ left - BLOCK_LEN
    → TakenBlocks head size count bytes place new (block.last + 1) fewer after (end + block.len)
blocks_taken head size count bytes place taken new from left fewer rest after end block t some b e f =
    let low = t.low in
    let begin = b.holds.begin in
    let room = b.holds.room in
    rw (e, f) (record {
      low = omega arith;
      within = b.within;
      on = λ later last stop m.
          rw (append_assoc taken (block ∷ []) later) (t.on (block ∷ later) last stop (blocks_cons _ _ _ _ _ _ _ _ _ _ _ some b m));
      back = λ all last stop m.
          let h = t.back all last stop m in
          let u = blocks_uncons _ _ _ _ _ _ _ _ _ _ _ some t.low b h.2 in
          (u.0, rw (append_assoc taken (block ∷ []) u.0) (h.1 ∙ ap (λ (x : List BlockEntry). taken ++ x) u.1), u.2);
    })

pub blocks_all_taken : (head : Head) (size count : ℕ) (bytes : List ℕ) (place : ℕ) (taken : List BlockEntry) (from left : ℕ) (rest : List ℕ)
    (end : ℕ) → TakenBlocks head size count bytes place taken from left rest end → left ≡ 0
    → AreNextBlocks head size head.low count bytes place taken rest end
blocks_all_taken head size count bytes place taken from left rest end t none =
    rw (append-nil taken) at (t.on [] rest end (record { numbers = refl; hold = none; places = refl; within = t.within }))

pub blocks_not_taken : (head : Head) (size count : ℕ) (bytes : List ℕ) (place : ℕ) (taken : List BlockEntry) (from left : ℕ) (rest : List ℕ)
    (end : ℕ) → TakenBlocks head size count bytes place taken from left rest end → 0 < left
    → ((block : BlockEntry) (after : List ℕ) → IsNextBlock head size from (min left BLOCK_LEN) rest end block after → ⊥)
    → (all : List BlockEntry) (last : List ℕ) (stop : ℕ) → AreNextBlocks head size head.low count bytes place all last stop → ⊥
blocks_not_taken head size count bytes place taken from left rest end t some none all last stop m =
    let h = t.back all last stop m in
    let n = next_of_blocks _ _ _ _ _ _ _ _ _ h.2 some in
    none n.0 n.1 n.2

-- the same blocks, where they have as many addresses
pub same_blocks : (head : Head) (size from count : ℕ) (bytes : List ℕ) (place : ℕ) (blocks others : List BlockEntry) (rest other : List ℕ)
    (end stop : ℕ) → head.low ≤ from → AreNextBlocks head size from count bytes place blocks rest end
    → AreNextBlocks head size from count bytes place others other stop → (blocks ≡ others) × (rest ≡ other) × (end ≡ stop)
same_blocks head size from count bytes place [] [] rest other end stop low b m = (refl, sym b.numbers ∙ m.numbers, sym b.places ∙ m.places)
same_blocks head size from count bytes place [] (x ∷ others) rest other end stop low b m = absurd
    (let none = b.hold in let some = m.hold.0 in omega arith)
same_blocks head size from count bytes place (block ∷ later) others rest other end stop low b m =
    let within = stand_within (place + block.len) end later b.places.1 in
    let last = b.within in
    let begin = b.hold.1.begin in
    let room = b.hold.1.room in
    let some = b.hold.0 in
    let one : IsNextBlock head size from (min count BLOCK_LEN) bytes place block b.numbers.2.2.0 = record {
      numbers = (b.numbers.0, b.numbers.1, (b.numbers.2.0, b.numbers.2.1, (b.numbers.2.2.0, b.numbers.2.2.1, refl)));
      holds = b.hold.1;
      begin = b.places.0;
      within = omega arith;
    } in
    let u = blocks_uncons head size from count bytes place block others b.numbers.2.2.0 other stop some low one m in
    let more = same_blocks head size (block.last + 1) (count - BLOCK_LEN) b.numbers.2.2.0
    (place + block.len) later u.0 rest other end stop (omega arith)
    (record { numbers = b.numbers.2.2.2; hold = b.hold.2; places = b.places.1; within = b.within }) u.2 in
    (ap (λ (x : List BlockEntry). block ∷ x) more.0 ∙ sym u.1, more.1, more.2)

-- equal lists of as many items begin equal lists
pub same_front : (xs ys us vs : List ℕ) → length xs ≡ length ys → xs ++ us ≡ ys ++ vs → (xs ≡ ys) × (us ≡ vs)
same_front [] [] us vs l e = (refl, e)
same_front [] (y ∷ ys) us vs l e = absurd (omega arith)
same_front (x ∷ xs) [] us vs l e = absurd (omega arith)
same_front (x ∷ xs) (y ∷ ys) us vs l e =
    let first : x ≡ y = cc in
    let later : xs ++ us ≡ ys ++ vs = cc in
    let more = same_front xs ys us vs (omega arith) later in
    let front = more.0 in
    (cc, more.1)

-- the block that the numbers are of
pub block_of_numbers : (head : Head) (size from count : ℕ) (bytes : List ℕ) (place : ℕ) (block : BlockEntry) (rest left : List ℕ)
    (above span len : ℕ) → head.low ≤ from → 0 < count → StartsWithNumbers bytes (above ∷ span ∷ len ∷ []) left
    → IsNextBlock head size from count bytes place block rest
    → (block.first ≡ head.low + above) × (block.last ≡ head.low + above + span) × (block.len ≡ len)
block_of_numbers head size from count bytes place block rest left above span len low some s b =
    let first = after_first bytes above (block.first - head.low) s.0 rest ((block.last - block.first) ∷ block.len ∷ []) s.1 b.numbers in
    let second = after_first s.0 span (block.last - block.first) s.2.0 rest (block.len ∷ []) s.2.1 first.1 in
    let third = after_first s.2.0 len block.len s.2.2.0 rest [] s.2.2.1 second.1 in
    let its_above : block.first - head.low ≡ above = first.0 in
    let its_span : block.last - block.first ≡ span = second.0 in
    let begin = b.holds.begin in
    let room = b.holds.room in
    (omega arith, omega arith, third.0)

-- there are no more addresses than there is room for
pub count_within : (from high count : ℕ) (blocks : List BlockEntry) → 0 < count → AreBlocks from high count blocks → count + from ≤ high + 1
count_within from high count [] some b = absurd (omega arith)
count_within from high count (block ∷ []) some b =
    let begin = b.1.begin in
    let room = b.1.room in
    let last = b.1.end in
    omega arith
count_within from high count (block ∷ next ∷ later) some b =
    let begin = b.1.begin in
    let room = b.1.room in
    let last = b.1.end in
    omega (arith, count_within (block.last + 1) high (count - BLOCK_LEN) (next ∷ later) b.2.0 b.2)
