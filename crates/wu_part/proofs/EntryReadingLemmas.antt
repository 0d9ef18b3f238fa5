-- Lemmas on the entries that a directory's bytes start with.
use Rattle.std.proofs.Common.{◌≡◌, ℕ, ◌+◌, ◌-◌, ◌<◌, ◌≤◌, List, [], ◌∷◌, ◌++◌, length, refl, ap, sym, subst, ◌∙◌, append_assoc, append-nil}
use Rattle.std.proofs.Common.{length-append, arith}
use Rattle.std.specs.List.{flat_map}
use Rattle.wu_base.specs.declared.limits.TheConstants.{WORD_MAX}
use Rattle.wu_vbyte.specs.Numbers.{StartsWithNumber}
use Rattle.wu_vbyte.proofs.NumberLemmas.{one_number}
use Rattle.wu_vbyte.proofs.BlockLemmas.{starts_length}
use Rattle.wu_part.specs.declared.entries.BlockEntry.{BlockEntry}
use Rattle.wu_part.specs.declared.entries.TermEntry.{TermEntry}
use Rattle.wu_part.specs.declared.reading.Head.{Head}
use Rattle.wu_part.specs.Directories.{all_blocks}
use Rattle.wu_part.specs.Directories.{StartsWithEntry, SpellsEntries, block_numbers}
use Rattle.wu_part.specs.Entries.{AreNextBlocks, IsNextEntry, AreEntries}
use Rattle.wu_part.proofs.ReadingLemmas.{stand_within, stand_split, stand_join, same_blocks, same_front, numbers_length}

pub entry_length : (low : ℕ) (bytes : List ℕ) (entry : TermEntry) (rest : List ℕ) → StartsWithEntry low bytes entry rest
    → length rest + 1 ≤ length bytes
entry_length low bytes entry rest s =
    let first = starts_length bytes (length entry.term) (entry.term ++ s.0) s.1 in
    let others = numbers_length s.0 rest (entry.count ∷ flat_map (block_numbers low) entry.blocks) s.2 in
    omega (arith, length-append entry.term s.0)

pub entries_length : (low : ℕ) (terms : List TermEntry) (bytes : List ℕ) → SpellsEntries low terms bytes → length terms ≤ length bytes
entries_length low [] bytes s = omega arith
entries_length low (entry ∷ later) bytes s =
    omega (arith, entries_length low later s.0 s.2, entry_length low bytes entry s.0 s.1)

-- what an entry is made of, after its term and its count
pub entry_of_blocks : (head : Head) (size : ℕ) (bytes : List ℕ) (place : ℕ) (entry : TermEntry) (rest : List ℕ) (end : ℕ)
    → IsNextEntry head size bytes place entry rest end
    → (left : List ℕ) × (after : List ℕ) × StartsWithNumber bytes (length entry.term) (entry.term ++ left)
    × StartsWithNumber left entry.count after
    × AreNextBlocks head size head.low entry.count after place entry.blocks rest end
entry_of_blocks head size bytes place entry rest end e = (
  e.spelled.0,
  e.spelled.2.0,
  e.spelled.1,
  e.spelled.2.1,
  record { numbers = e.spelled.2.2; hold = e.holds.cut; places = e.places; within = e.within },
)

pub blocks_of_entry : (head : Head) (size : ℕ) (bytes : List ℕ) (place : ℕ) (entry : TermEntry) (left after rest : List ℕ) (end : ℕ)
    → 0 < length entry.term → length entry.term ≤ WORD_MAX → 0 < entry.count
    → StartsWithNumber bytes (length entry.term) (entry.term ++ left) → StartsWithNumber left entry.count after
    → AreNextBlocks head size head.low entry.count after place entry.blocks rest end
    → IsNextEntry head size bytes place entry rest end
blocks_of_entry head size bytes place entry left after rest end some short count s t b = record {
  spelled = (left, s, (after, t, b.numbers));
  holds = record { some = some; short = short; count = count; cut = b.hold };
  places = b.places;
  within = b.within;
}

blocks_moved : (head : Head) (size from n m : ℕ) (bytes others : List ℕ) (place : ℕ) (blocks : List BlockEntry) (rest : List ℕ) (end : ℕ)
    → n ≡ m → bytes ≡ others → AreNextBlocks head size from n bytes place blocks rest end
    → AreNextBlocks head size from m others place blocks rest end
blocks_moved head size from n m bytes others place blocks rest end e is b = rw (e, is) at b

pub entry_same : (a b : TermEntry) → a.term ≡ b.term → a.count ≡ b.count → a.blocks ≡ b.blocks → a ≡ b
entry_same a b term count blocks =
    let make : List ℕ → ℕ → List BlockEntry → TermEntry = λ t n l. record { term = t; count = n; blocks = l } in
    ap (λ x. make x a.count a.blocks) term ∙ (ap (λ x. make b.term x a.blocks) count ∙ ap (λ x. make b.term b.count x) blocks)

pub same_entry : (head : Head) (size : ℕ) (bytes : List ℕ) (place : ℕ) (entry other : TermEntry) (rest left : List ℕ) (end stop : ℕ)
    → IsNextEntry head size bytes place entry rest end → IsNextEntry head size bytes place other left stop
    → (entry ≡ other) × (rest ≡ left) × (end ≡ stop)
same_entry head size bytes place entry other rest left end stop e o =
    let a = entry_of_blocks head size bytes place entry rest end e in
    let b = entry_of_blocks head size bytes place other left stop o in
    let one = one_number bytes (length entry.term) (length other.term) (entry.term ++ a.0) (other.term ++ b.0) a.2 b.2 in
    let front = same_front entry.term other.term a.0 b.0 one.0 one.1 in
    let count = one_number a.0 entry.count other.count a.1 b.1 a.3 (subst (λ x. StartsWithNumber x other.count b.1) (sym front.1) b.3) in
    let blocks = same_blocks head size head.low entry.count a.1 place entry.blocks other.blocks rest left end stop (omega arith) a.4
    (blocks_moved head size head.low other.count entry.count b.1 a.1 place other.blocks left stop (sym count.0) (sym count.1) b.4) in
    (entry_same entry other front.0 count.0 blocks.0, blocks.1, blocks.2)

pub next_of_entries : (head : Head) (size count : ℕ) (bytes : List ℕ) (place : ℕ) (terms : List TermEntry)
    → AreEntries head size count bytes place terms → 0 < count
    → (entry : TermEntry) × (rest : List ℕ) × (end : ℕ) × IsNextEntry head size bytes place entry rest end
next_of_entries head size count bytes place [] a some = absurd (let number = a.number in omega arith)
next_of_entries head size count bytes place (entry ∷ later) a some =
    let split = stand_split place size entry.blocks (all_blocks later) a.places in (
      entry,
      a.spelled.0,
      split.0,
      record {
        spelled = a.spelled.1;
        holds = a.hold.0;
        places = split.1;
        within = stand_within split.0 size (all_blocks later) split.2;
      },
    )

pub entries_cons : (head : Head) (size count : ℕ) (bytes : List ℕ) (place : ℕ) (entry : TermEntry) (later : List TermEntry) (rest : List ℕ)
    (end : ℕ) → 0 < count → IsNextEntry head size bytes place entry rest end → AreEntries head size (count - 1) rest end later
    → AreEntries head size count bytes place (entry ∷ later)
entries_cons head size count bytes place entry later rest end some e a = record {
  number = let number = a.number in omega arith;
  spelled = (rest, e.spelled, a.spelled);
  hold = (e.holds, a.hold);
  places = stand_join place end size entry.blocks (all_blocks later) e.places a.places;
}

pub entries_uncons : (head : Head) (size count : ℕ) (bytes : List ℕ) (place : ℕ) (entry : TermEntry) (all : List TermEntry) (rest : List ℕ)
    (end : ℕ) → 0 < count → IsNextEntry head size bytes place entry rest end → AreEntries head size count bytes place all
    → (later : List TermEntry) × (all ≡ entry ∷ later) × AreEntries head size (count - 1) rest end later
entries_uncons head size count bytes place entry [] rest end some e a = absurd (let number = a.number in omega arith)
entries_uncons head size count bytes place entry (other ∷ later) rest end some e a =
    let split = stand_split place size other.blocks (all_blocks later) a.places in
    let one : IsNextEntry head size bytes place other a.spelled.0 split.0 = record {
      spelled = a.spelled.1;
      holds = a.hold.0;
      places = split.1;
      within = stand_within split.0 size (all_blocks later) split.2;
    } in
    let same = same_entry head size bytes place other entry a.spelled.0 rest split.0 end one e in (
      later,
      ap (λ (x : TermEntry). x ∷ later) same.0,
      record {
        number = let number = a.number in omega arith;
        spelled = rw same.1 at a.spelled.2;
        hold = a.hold.1;
        places = rw same.2 at split.2;
      },
    )

-- what was taken of so many entries, and what is left
pub record TakenEntries (head : Head) (size count : ℕ) (bytes : List ℕ) (place : ℕ) (taken : List TermEntry) (left : ℕ) (rest : List ℕ)
    (end : ℕ) : Type 0 where
  pub within : end ≤ size
  pub on : (later : List TermEntry) → AreEntries head size left rest end later → AreEntries head size count bytes place (taken ++ later)
  pub back : (all : List TermEntry) → AreEntries head size count bytes place all
      → (later : List TermEntry) × (all ≡ taken ++ later) × AreEntries head size left rest end later

pub entries_none_taken : (head : Head) (size count left : ℕ) (bytes : List ℕ) (place : ℕ) → place ≤ size → left ≡ count
    → TakenEntries head size count bytes place [] left bytes place
entries_none_taken head size count left bytes place within e = rw e (record {
  within = within;
  on = λ later a. a;
  back = λ all a. (all, refl, a);
})

pub entries_taken : (head : Head) (size count : ℕ) (bytes : List ℕ) (place : ℕ) (taken new : List TermEntry) (left fewer : ℕ)
    (rest after : List ℕ) (end stop : ℕ) (entry : TermEntry) → TakenEntries head size count bytes place taken left rest end → 0 < left
    → IsNextEntry head size rest end entry after stop → new ≡ taken ++ entry ∷ [] → fewer ≡ left - 1
    → TakenEntries head size count bytes place new fewer after stop
entries_taken head size count bytes place taken new left fewer rest after end stop entry t some e is f =
    rw (is, f) (record {
      within = e.within;
      on = λ later a.
          rw (append_assoc taken (entry ∷ []) later) (t.on (entry ∷ later)
          (entries_cons head size left rest end entry later after stop some e a));
      back = λ all a.
          let h = t.back all a in
          let u = entries_uncons head size left rest end entry h.0 after stop some e h.2 in
          (u.0, rw (append_assoc taken (entry ∷ []) u.0) (h.1 ∙ ap (λ (x : List TermEntry). taken ++ x) u.1), u.2);
    })

pub entries_all_taken : (head : Head) (size count : ℕ) (bytes : List ℕ) (place : ℕ) (taken : List TermEntry) (left : ℕ) (rest : List ℕ)
    (end : ℕ) → TakenEntries head size count bytes place taken left rest end → left ≡ 0 → rest ≡ [] → end ≡ size
    → AreEntries head size count bytes place taken
entries_all_taken head size count bytes place taken left rest end t none empty full =
    rw (append-nil taken) at (t.on [] (record { number = sym none; spelled = empty; hold = tt; places = full }))

-- all were taken, and more bytes are left, or the blocks end before the part
pub entries_not_all : (head : Head) (size count : ℕ) (bytes : List ℕ) (place : ℕ) (taken : List TermEntry) (left : ℕ) (rest : List ℕ)
    (end : ℕ) → TakenEntries head size count bytes place taken left rest end → left ≡ 0 → (rest ≡ [] → end ≡ size → ⊥)
    → (all : List TermEntry) → AreEntries head size count bytes place all → ⊥
entries_not_all head size count bytes place taken left rest end t none more all a = let h = t.back all a in no_later h.0 h.2
  where
    no_later : (later : List TermEntry) → AreEntries head size left rest end later → ⊥
    no_later [] l = more l.spelled l.places
    no_later (entry ∷ later) l = absurd (let number = l.number in omega arith)

-- what follows the term
pub after_term : (head : Head) (size : ℕ) (bytes : List ℕ) (place : ℕ) (term left : List ℕ) (entry : TermEntry) (rest : List ℕ) (end : ℕ)
    → StartsWithNumber bytes (length term) (term ++ left) → IsNextEntry head size bytes place entry rest end
    → (after : List ℕ) × StartsWithNumber left entry.count after
    × AreNextBlocks head size head.low entry.count after place entry.blocks rest end
after_term head size bytes place term left entry rest end s e =
    let is = entry_of_blocks head size bytes place entry rest end e in
    let one = one_number bytes (length term) (length entry.term) (term ++ left) (entry.term ++ is.0) s is.2 in
    let front = same_front term entry.term left is.0 one.0 one.1 in
    (is.1, subst (λ x. StartsWithNumber x entry.count is.1) (sym front.1) is.3, is.4)

-- what follows the term and the count
pub after_count : (head : Head) (size : ℕ) (bytes : List ℕ) (place : ℕ) (term left : List ℕ) (count : ℕ) (numbers : List ℕ)
    (entry : TermEntry)
    (rest : List ℕ) (end : ℕ) → StartsWithNumber bytes (length term) (term ++ left) → StartsWithNumber left count numbers
    → IsNextEntry head size bytes place entry rest end
    → AreNextBlocks head size head.low count numbers place entry.blocks rest end
after_count head size bytes place term left count numbers entry rest end s t e =
    let is = after_term head size bytes place term left entry rest end s e in
    let one = one_number left count entry.count numbers is.0 t is.1 in
    blocks_moved head size head.low entry.count count is.0 numbers place entry.blocks rest end (sym one.0) (sym one.1) is.2

-- there is one list of so many entries at most
pub same_entries : (head : Head) (size count : ℕ) (bytes : List ℕ) (place : ℕ) (terms others : List TermEntry)
    → AreEntries head size count bytes place terms → AreEntries head size count bytes place others → terms ≡ others
same_entries head size count bytes place [] [] a b = refl
same_entries head size count bytes place [] (other ∷ later) a b = absurd (let n = a.number in let m = b.number in omega arith)
same_entries head size count bytes place (entry ∷ later) others a b =
    let split = stand_split place size entry.blocks (all_blocks later) a.places in
    let one : IsNextEntry head size bytes place entry a.spelled.0 split.0 = record {
      spelled = a.spelled.1;
      holds = a.hold.0;
      places = split.1;
      within = stand_within split.0 size (all_blocks later) split.2;
    } in
    let number = a.number in
    let u = entries_uncons head size count bytes place entry others a.spelled.0 split.0 (omega arith) one b in
    ap (λ (x : List TermEntry). entry ∷ x)
    (same_entries head size (count - 1) a.spelled.0 split.0 later u.0
    (record { number = omega arith; spelled = a.spelled.2; hold = a.hold.1; places = split.2 }) u.2)
    ∙ sym u.1
