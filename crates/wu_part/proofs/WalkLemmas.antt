-- Lemmas on walks over a directory's entries and over the blocks of an entry.
use Rattle.std.proofs.Common.{◌≡◌, ℕ, zero, suc, true, false, ◌+◌, ◌-◌, ◌<◌, ◌≤◌, List, [], ◌∷◌, length, min, drop, refl, ap, sym, subst, ◌∙◌, Contains}
use Rattle.std.proofs.Common.{arith}
use Rattle.std.specs.declared.cmp.Ordering.{Ordering}
use Rattle.std.specs.declared.cmp.Ordering.TheVariants.{Less, Equal, Greater}
use Rattle.std.specs.Prelude.{nat_eq}
use Rattle.std.specs.Ordering.{is_eq, is_lt, nat_cmp, ordering_reverse}
use Rattle.std.specs.Cmp.Lexicographic.{pointwise, slice_cmp, nat_list_cmp_total, texts_ties}
use Rattle.std.specs.List.{flat_map}
use Rattle.std.specs.List.Sorted.{IsStrictlySortedBy}
use Rattle.std.proofs.lemmas.Cmp.{tied_itself}
use Rattle.std.proofs.lemmas.List.{drop_more, length-drop}
use Rattle.wu_vbyte.specs.declared.blocks.TheConstants.{BLOCK_LEN}
use Rattle.wu_part.specs.declared.entries.BlockEntry.{BlockEntry}
use Rattle.wu_part.specs.declared.entries.TermEntry.{TermEntry}
use Rattle.wu_part.specs.declared.reading.Head.{Head}
use Rattle.wu_part.specs.Decoding.{blocks_in, entries_in}
use Rattle.wu_part.specs.Directories.{StartsWithNumbers, all_blocks, block_numbers}
use Rattle.wu_part.specs.Entries.{IsNextBlock, AreNextBlocks, IsNextEntry, AreEntries}
use Rattle.wu_part.specs.Searches.{begins_before}
use Rattle.wu_part.proofs.DecodingLemmas.{blocks_are, blocks_few, entries_are}
use Rattle.wu_part.proofs.EntryReadingLemmas.{entries_uncons}
use Rattle.wu_part.proofs.ReadingLemmas.{after_three, block_of_numbers, block_same, stand_within}
use Rattle.wu_part.proofs.TermLemmas.{terms}

-- ---- blocks

-- the blocks of a whole entry are those that its bytes are read as
pub own_blocks : (head : Head) (size : ℕ) (bytes : List ℕ) (place count : ℕ) (blocks : List BlockEntry) (after : List ℕ) (end : ℕ)
    → AreNextBlocks head size head.low count bytes place blocks after end → blocks_in count head.low count place bytes ≡ blocks
own_blocks head size bytes place count blocks after end b =
    let few = blocks_few head.low head.high count blocks b.hold in
    blocks_are count head size head.low count bytes place blocks after end few (omega arith) b

-- a block was read, and so many addresses are left
pub record ReadsBlock (head : Head) (size low fewer place : ℕ) (blocks : List BlockEntry) (after : List ℕ) (end : ℕ)
    (above span len : ℕ) (rest : List ℕ) : Type 0 where
  pub high : low + above + span ≤ head.high
  pub room : place + len ≤ size
  pub is : blocks
      ≡ record { first = low + above; last = low + above + span; at = place; len = len } ∷ blocks_in fewer low fewer (place + len) rest
  pub left : AreNextBlocks head size (low + above + span + 1) fewer rest (place + len) (blocks_in fewer low fewer (place + len) rest)
      after end

pub block_read : (head : Head) (size low from count fewer : ℕ) (bytes : List ℕ) (place : ℕ) (blocks : List BlockEntry) (after : List ℕ)
    (end above span len : ℕ) (rest : List ℕ) → AreNextBlocks head size from count bytes place blocks after end → head.low ≤ from
    → 0 < count → head.low ≡ low → fewer ≡ count - BLOCK_LEN → StartsWithNumbers bytes (above ∷ span ∷ len ∷ []) rest
    → ReadsBlock head size low fewer place blocks after end above span len rest
block_read head size low from count fewer bytes place blocks after end above span len rest b within some lowest less s =
    rw (sym lowest, less) (first_read blocks b)
  where
    first_read : (blocks : List BlockEntry) → AreNextBlocks head size from count bytes place blocks after end
        → ReadsBlock head size head.low (count - BLOCK_LEN) place blocks after end above span len rest
    first_read [] b = absurd (let none = b.hold in omega arith)
    first_read (block ∷ later) b =
        let stand = stand_within (place + block.len) end later b.places.1 in
        let last = b.within in
        let is_end = b.hold.1.end in
        let few : 0 < min count BLOCK_LEN = omega arith in
        let own : IsNextBlock head size from (min count BLOCK_LEN) bytes place block b.numbers.2.2.0 = record {
          numbers = (b.numbers.0, b.numbers.1, (b.numbers.2.0, b.numbers.2.1, (b.numbers.2.2.0, b.numbers.2.2.1, refl)));
          holds = b.hold.1;
          begin = b.places.0;
          within = omega arith;
        } in
        let is = block_of_numbers head size from (min count BLOCK_LEN) bytes place block b.numbers.2.2.0 rest above span len within few s
        own in
        let three = after_three bytes rest after above span len (block.first - head.low) (block.last - block.first) block.len
        (flat_map (block_numbers head.low) later) s b.numbers in
        let same = block_same block (record { first = head.low + above; last = head.low + above + span; at = place; len = len }) is.0
        is.1 b.places.0 is.2 in
        let left : AreNextBlocks head size (head.low + above + span + 1) (count - BLOCK_LEN) rest (place + len) later after end =
        rw (sym is.1, sym is.2) (record { numbers = three.3; hold = b.hold.2; places = b.places.1; within = b.within }) in
        let read = blocks_are (count - BLOCK_LEN) head size (head.low + above + span + 1) (count - BLOCK_LEN) rest (place + len) later
        after end (blocks_few (head.low + above + span + 1) head.high (count - BLOCK_LEN) later left.hold) (omega arith) left in
        record {
          high = omega (arith, is.1);
          room = omega (arith, is.2);
          is = rw (read, same) refl;
          left = rw read left;
        }

-- ---- entries

-- the blocks of the entries begin within the part
pub walk_within : (head : Head) (size count : ℕ) (bytes : List ℕ) (place : ℕ) (all : List TermEntry)
    → AreEntries head size count bytes place all → place ≤ size
walk_within head size count bytes place all a = stand_within place size (all_blocks all) a.places

-- an entry was read, and the entries after it are left
pub entry_read : (head : Head) (size count fewer : ℕ) (bytes : List ℕ) (place : ℕ) (entry : TermEntry) (rest : List ℕ) (end : ℕ)
    → AreEntries head size count bytes place (entries_in count head.low place bytes) → 0 < count → fewer ≡ count - 1
    → IsNextEntry head size bytes place entry rest end
    → (entries_in count head.low place bytes ≡ entry ∷ entries_in fewer head.low end rest)
    × AreEntries head size fewer rest end (entries_in fewer head.low end rest)
entry_read head size count fewer bytes place entry rest end a some less e =
    let u = entries_uncons head size count bytes place entry (entries_in count head.low place bytes) rest end some e a in
    let left : AreEntries head size fewer rest end u.0 = rw less u.2 in
    let read : entries_in fewer head.low end rest ≡ u.0 = entries_are head size fewer rest end u.0 left in
    (u.1 ∙ ap (λ (x : List TermEntry). entry ∷ x) (sym read), rw read left)

pub drop_next : (all : List TermEntry) (k : ℕ) (entry : TermEntry) (later : List TermEntry) → drop k all ≡ entry ∷ later
    → (later ≡ drop (k + 1) all) × (k + 1 ≤ length all)
drop_next all k entry later e =
    let some = ap length e in
    let inside : k < length all = omega (arith, length-drop k all) in
    (ap (λ x. drop 1 x) (sym e ∙ drop_more all k entry inside), omega arith)

-- ---- a search among entries

-- among the entries that are left stand all those of the term
pub record IsLeftFor (term : List ℕ) (all left : List TermEntry) : Type 0 where
  pub sorted : IsStrictlySortedBy (slice_cmp nat_cmp) (terms left)
  pub within : (entry : TermEntry) → Contains left entry → Contains all entry
  pub whole : (entry : TermEntry) → Contains all entry → entry.term ≡ term → Contains left entry

has_first : (entry : TermEntry) (later : List TermEntry) → Contains (entry ∷ later) entry
has_first entry later = (0, omega arith, refl)

has_later : (first : TermEntry) (later : List TermEntry) (entry : TermEntry) → Contains later entry → Contains (first ∷ later) entry
has_later first later entry has = (suc has.0, omega (arith, has.1), has.2)

pub first_in_all : (term : List ℕ) (all : List TermEntry) (entry : TermEntry) (later left : List TermEntry) → left ≡ entry ∷ later
    → IsLeftFor term all left → Contains all entry
first_in_all term all entry later left e l = l.within entry (rw e (has_first entry later))

pub one_passed : (term : List ℕ) (all : List TermEntry) (entry : TermEntry) (later left : List TermEntry) → left ≡ entry ∷ later
    → slice_cmp nat_cmp entry.term term ≡ Less → IsLeftFor term all left → IsLeftFor term all later
unfolding IsStrictlySortedBy
one_passed term all entry later left e less l =
    let m : IsLeftFor term all (entry ∷ later) = rw e at l in
    record {
      sorted = m.sorted.1;
      within = λ other has. m.within other (has_later entry later other has);
      whole = λ other has same. not_first other same (m.whole other has same);
    }
  where
    not_first : (other : TermEntry) → other.term ≡ term → Contains (entry ∷ later) other → Contains later other
    not_first other same (zero, inside, is) =
        let equal : slice_cmp nat_cmp entry.term term ≡ Equal =
        subst (λ x. slice_cmp nat_cmp x term ≡ Equal) (sym same ∙ ap (λ (x : TermEntry). x.term) (sym is))
        (tied_itself nat_list_cmp_total term) in
        absurd cc
    not_first other same (suc k, inside, is) = (k, omega arith, is)

-- the first of the entries stands before the term, or it doesn't
pub first_less : (term : List ℕ) (left : List TermEntry) (entry : TermEntry) (later : List TermEntry) → left ≡ entry ∷ later
    → begins_before term left ≡ true → slice_cmp nat_cmp entry.term term ≡ Less
first_less term left entry later is before = less (slice_cmp nat_cmp entry.term term) (rw is at before)
  where
    less : (order : Ordering) → is_lt order ≡ true → order ≡ Less
    less Less e = refl
    less Equal e = absurd cc
    less Greater e = absurd cc

first_not_less : (term : List ℕ) (left : List TermEntry) (entry : TermEntry) (later : List TermEntry) → left ≡ entry ∷ later
    → begins_before term left ≡ false → slice_cmp nat_cmp entry.term term ≡ Less → ⊥
first_not_less term left entry later is none less =
    let not_less : is_lt (slice_cmp nat_cmp entry.term term) ≡ false = rw is at none in
    let wrong : is_lt (slice_cmp nat_cmp entry.term term) ≡ true = ap is_lt less in
    absurd cc

pub nothing_left : (term : List ℕ) (all left : List TermEntry) → left ≡ [] → IsLeftFor term all left
    → (entry : TermEntry) → Contains all entry → entry.term ≡ term → ⊥
nothing_left term all left none l entry has same =
    let h : Contains [] entry = rw none at (l.whole entry has same) in absurd (omega (arith, h.1))

greater_still : (a b term : List ℕ) → slice_cmp nat_cmp a b ≡ Less → slice_cmp nat_cmp a term ≡ Greater
    → slice_cmp nat_cmp b term ≡ Greater
greater_still a b term up above =
    let under : slice_cmp nat_cmp term a ≡ Less = nat_list_cmp_total.antisymm term a ∙ ap ordering_reverse above in
    let far : slice_cmp nat_cmp term b ≡ Less = nat_list_cmp_total.trans term a b under up in
    nat_list_cmp_total.antisymm b term ∙ ap ordering_reverse far

-- all entries that are left stand after the term
passed_over : (term : List ℕ) (all : List TermEntry) (first : TermEntry) (later left : List TermEntry) → left ≡ first ∷ later
    → slice_cmp nat_cmp first.term term ≡ Greater → IsLeftFor term all left
    → (entry : TermEntry) → Contains all entry → entry.term ≡ term → ⊥
unfolding IsStrictlySortedBy
passed_over term all first later left e more l entry has same =
    let m : IsLeftFor term all (first ∷ later) = rw e at l in
    after first later m.sorted more (m.whole entry has same)
  where
    after : (first : TermEntry) (later : List TermEntry) → IsStrictlySortedBy (slice_cmp nat_cmp) (terms (first ∷ later))
        → slice_cmp nat_cmp first.term term ≡ Greater → Contains (first ∷ later) entry → ⊥
    after first later s more (zero, inside, is) =
        let equal : slice_cmp nat_cmp first.term term ≡ Equal =
        subst (λ x. slice_cmp nat_cmp x term ≡ Equal) (sym same ∙ ap (λ (x : TermEntry). x.term) (sym is))
        (tied_itself nat_list_cmp_total term) in
        cc
    after first [] s more (suc k, inside, is) = absurd (omega arith)
    after first (second ∷ later) s more (suc k, inside, is) =
        after second later s.1 (greater_still first.term second.term term s.0.0 more) (k, omega arith, is)

-- no entry that is left stands before the term, and the first is another
pub passed_others : (term : List ℕ) (all : List TermEntry) (first : TermEntry) (later left : List TermEntry) → left ≡ first ∷ later
    → begins_before term left ≡ false → pointwise nat_eq first.term term ≡ false → IsLeftFor term all left
    → (entry : TermEntry) → Contains all entry → entry.term ≡ term → ⊥
passed_others term all first later left e none other l = told (slice_cmp nat_cmp first.term term) refl
  where
    told : (order : Ordering) → slice_cmp nat_cmp first.term term ≡ order → (entry : TermEntry) → Contains all entry → entry.term ≡ term
        → ⊥
    told Less is = absurd (first_not_less term left first later e none is)
    told Equal is = let wrong : true ≡ false = sym (texts_ties first.term term ∙ ap is_eq is) ∙ other in absurd cc
    told Greater is = passed_over term all first later left e is l
