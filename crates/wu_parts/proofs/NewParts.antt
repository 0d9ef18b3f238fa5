-- The numbers of a part that was made of postings: its lowest and its highest address, and how many there are.
use Rattle.std.proofs.Common.{◌≡◌, ℕ, ◌+◌, ◌-◌, ◌<◌, ◌≤◌, ◌==◌, List, [], ◌∷◌, ◌++◌, length, filter, take, drop, sum_by, Some, refl, ap}
use Rattle.std.proofs.Common.{sym, ◌∙◌, subst, arith, ⊎_elim, inl, inr}
use Rattle.std.specs.List.{AllByRecursion, AllZip, flat_map, last_or}
use Rattle.std.specs.Cmp.Lexicographic.{nat_list_eq_equiv}
use Rattle.std.proofs.lemmas.Bool.{eqb-true}
use Rattle.std.proofs.lemmas.Cmp.{nat_list_cmp_total}
use Rattle.std.proofs.lemmas.Map.Lookups.{exact_bytes}
use Rattle.std.proofs.lemmas.List.{take-append-drop}
use Rattle.std.proofs.lemmas.List.Sums.{sum_by-cons}
use Rattle.wu_base.specs.declared.addresses.PartRec.{PartRec}
use Rattle.wu_base.specs.declared.addresses.TermList.{TermList}
use Rattle.wu_base.proofs.Members.{Has, Has-append_left, Has-append_right, Has-map, map_has, flat_map_has, Has-flat_map, filter_has}
use Rattle.wu_base.proofs.Members.{Has-filter, all_has, any_has}
use Rattle.wu_base.proofs.SortedLists.{has-sorted_once}
use Rattle.wu_layout.specs.Postings.{Posting, is_of, addresses_of, Ascend}
use Rattle.wu_layout.specs.Layouts.{IsRecordOf, first_address, last_address, list_of, lists_of, terms_of}
use Rattle.wu_layout.proofs.ListLemmas.{all_terms}
use Rattle.wu_layout.proofs.ListTotals.{lists_total, has_above}
use Rattle.wu_vbyte.specs.declared.blocks.TheConstants.{BLOCK_LEN}
use Rattle.wu_vbyte.specs.Blocks.{SpellsGaps}
use Rattle.wu_part.specs.declared.entries.BlockEntry.{BlockEntry}
use Rattle.wu_part.specs.declared.entries.TermEntry.{TermEntry}
use Rattle.wu_part.specs.Directories.{AreBlocks, IsEntry, PartDirectory, all_blocks}
use Rattle.wu_part.specs.Parts.{HoldsBlock, HoldBlocks, HoldsList, IsRecorded, SpellsPart}

-- ---- the addresses of a block

some_same : (a b : ℕ) → Some a ≡ Some b → a ≡ b
some_same a b e = cc

abbrev IsWithin : ℕ → ℕ → ℕ → Type 0
IsWithin low high address = (low ≤ address) × (address ≤ high)

abbrev AreWithin : ℕ → ℕ → List ℕ → Type 0
AreWithin low high addresses = AllByRecursion (IsWithin low high) addresses

gaps_within : (low before last : ℕ) (later bytes : List ℕ) → low ≤ before → SpellsGaps before later bytes
    → last_or (Some before) later ≡ Some last → (before ≤ last) × AreWithin low last later
gaps_within low before last [] bytes l g e = let same : before ≡ last = some_same before last e in (omega arith, tt)
gaps_within low before last (a ∷ later) bytes l g e =
    let r = gaps_within low a last later g.1 (omega (arith, g.0)) g.3 e in (omega (arith, g.0, r.0), ((omega (arith, g.0), r.0), r.1))

has_last : (before last : ℕ) (later : List ℕ) → last_or (Some before) later ≡ Some last → Has last (before ∷ later)
has_last before last [] e = inl (some_same before last e)
has_last before last (a ∷ later) e = inr (has_last a last later e)

abbrev pub all_addresses : List TermList → List ℕ
all_addresses lists = flat_map (λ list. list.at) lists

-- the ends of each block are among some addresses
abbrev pub AreEnds : List BlockEntry → List ℕ → Type 0
AreEnds blocks addresses = AllByRecursion (λ block. Has block.first addresses × Has block.last addresses) blocks

module _ (low : ℕ) (bytes : List ℕ) where
  -- a block's addresses are none below low, and none above its last; its first and its last are among them
  block_within : (block : BlockEntry) (addresses : List ℕ) → HoldsBlock low bytes block addresses
      → AreWithin low block.last addresses × (Has block.first addresses × Has block.last addresses)
  block_within block [] h = absurd h.spelled
  block_within block (first ∷ later) h =
      let same : first ≡ block.first = some_same first block.first h.span.begin in
      let r = gaps_within low first block.last later h.spelled.1 h.spelled.0 h.spelled.3 h.span.end in
      (((h.spelled.0, r.0), r.1), (inl same, has_last first block.last later h.span.end))

  -- ---- the addresses of some blocks

  within_joined : (most high : ℕ) (addresses more : List ℕ) → most ≤ high → AreWithin low most addresses → AreWithin low high more
      → AreWithin low high (addresses ++ more)
  within_joined most high [] more l a b = b
  within_joined most high (address ∷ addresses) more l a b = ((a.0.0, omega (arith, a.0.1)), within_joined most high addresses more l a.1 b)

  blocks_within : (from high count : ℕ) (blocks : List BlockEntry) (addresses : List ℕ) → AreBlocks from high count blocks
      → HoldBlocks low bytes blocks addresses → AreWithin low high addresses
  blocks_within from high count [] addresses a h = subst (AreWithin low high) (sym h) tt
  blocks_within from high count (block ∷ later) addresses a h =
      subst (AreWithin low high) (take-append-drop BLOCK_LEN addresses)
      (within_joined block.last high (take BLOCK_LEN addresses) (drop BLOCK_LEN addresses) a.1.end
      (block_within block (take BLOCK_LEN addresses) h.0).0
      (blocks_within (block.last + 1) high (count - BLOCK_LEN) later (drop BLOCK_LEN addresses) a.2 h.1))

  ends_lifted : (blocks : List BlockEntry) (addresses all : List ℕ) → ((address : ℕ) → Has address addresses → Has address all)
      → AreEnds blocks addresses → AreEnds blocks all
  ends_lifted [] addresses all f e = tt
  ends_lifted (block ∷ blocks) addresses all f e =
      ((f block.first e.0.0, f block.last e.0.1), ends_lifted blocks addresses all f e.1)

  blocks_end : (blocks : List BlockEntry) (addresses : List ℕ) → HoldBlocks low bytes blocks addresses → AreEnds blocks addresses
  blocks_end [] addresses h = tt
  blocks_end (block ∷ later) addresses h =
      let own = (block_within block (take BLOCK_LEN addresses) h.0).1 in
      let whole : (address : ℕ) → Has address (take BLOCK_LEN addresses ++ drop BLOCK_LEN addresses) → Has address addresses =
      λ address i. subst (Has address) (take-append-drop BLOCK_LEN addresses) i in (
        (
          whole block.first (Has-append_left block.first (take BLOCK_LEN addresses) (drop BLOCK_LEN addresses) own.0),
          whole block.last (Has-append_left block.last (take BLOCK_LEN addresses) (drop BLOCK_LEN addresses) own.1),
        ),
        ends_lifted later (drop BLOCK_LEN addresses) addresses
            (λ address i. whole address (Has-append_right address (take BLOCK_LEN addresses) (drop BLOCK_LEN addresses) i))
            (blocks_end later (drop BLOCK_LEN addresses) h.1),
      )

  -- ---- the addresses of all lists

  lists_within : (high : ℕ) (terms : List TermEntry) (lists : List TermList) → AllByRecursion (IsEntry low high) terms
      → AllZip (HoldsList low bytes) terms lists → AreWithin low high (all_addresses lists)
  lists_within high [] [] e h = tt
  lists_within high [] (list ∷ lists) e h = absurd h
  lists_within high (entry ∷ terms) [] e h = absurd h
  lists_within high (entry ∷ terms) (list ∷ lists) e h =
      within_joined high high list.at (all_addresses lists) (omega arith)
      (blocks_within low high entry.count entry.blocks list.at e.0.cut h.0.blocks) (lists_within high terms lists e.1 h.1)

  ends_joined : (blocks more : List BlockEntry) (addresses : List ℕ) → AreEnds blocks addresses → AreEnds more addresses
      → AreEnds (blocks ++ more) addresses
  ends_joined [] more addresses a b = b
  ends_joined (block ∷ blocks) more addresses a b = (a.0, ends_joined blocks more addresses a.1 b)

  pub lists_end : (terms : List TermEntry) (lists : List TermList) → AllZip (HoldsList low bytes) terms lists
      → AreEnds (all_blocks terms) (all_addresses lists)
  lists_end [] [] h = tt
  lists_end [] (list ∷ lists) h = absurd h
  lists_end (entry ∷ terms) [] h = absurd h
  lists_end (entry ∷ terms) (list ∷ lists) h =
      ends_joined entry.blocks (all_blocks terms) (list.at ++ all_addresses lists)
      (ends_lifted entry.blocks list.at (list.at ++ all_addresses lists)
      (λ address i. Has-append_left address list.at (all_addresses lists) i) (blocks_end entry.blocks list.at h.0.blocks))
      (ends_lifted (all_blocks terms) (all_addresses lists) (list.at ++ all_addresses lists)
      (λ address i. Has-append_right address list.at (all_addresses lists) i) (lists_end terms lists h.1))

  counts_same : (terms : List TermEntry) (lists : List TermList) → AllZip (HoldsList low bytes) terms lists
      → sum_by (λ entry. entry.count) terms ≡ sum_by (λ list. length list.at) lists
  counts_same [] [] h = refl
  counts_same [] (list ∷ lists) h = absurd h
  counts_same (entry ∷ terms) [] h = absurd h
  counts_same (entry ∷ terms) (list ∷ lists) h =
      omega (
        arith,
        sum_by-cons (λ (e : TermEntry). e.count) entry terms,
        sum_by-cons (λ (l : TermList). length l.at) list lists,
        counts_same terms lists h.1,
        h.0.count,
      )

-- ---- addresses of postings

-- an address of a list is that of a posting
of_posting : (ps : List Posting) (address : ℕ) → Has address (all_addresses (lists_of ps))
    → (p : Posting) × (Has p ps × (p.address ≡ address))
of_posting ps address h =
    let list = flat_map_has (λ (l : TermList). l.at) address (lists_of ps) h in
    let term = map_has (list_of ps) list.0 (terms_of ps) list.1.0 in
    let in_list : Has address (addresses_of term.0 ps) = subst (λ (l : TermList). Has address l.at) (sym term.1.1) list.1.1 in
    let posting = map_has (λ (p : Posting). p.address) address (filter (is_of term.0) ps) in_list in
    (posting.0, ((filter_has (is_of term.0) posting.0 ps posting.1.0).0, posting.1.1))

-- a posting's address is in a list
in_lists : (ps : List Posting) (p : Posting) → Has p ps → Has p.address (all_addresses (lists_of ps))
in_lists ps p h =
    let term : Has p.term (terms_of ps) =
    has-sorted_once nat_list_cmp_total exact_bytes p.term (all_terms ps) (Has-map (λ (q : Posting). q.term) p ps h) in
    Has-flat_map (λ (l : TermList). l.at) p.address (list_of ps p.term) (lists_of ps)
    (Has-map (list_of ps) p.term (terms_of ps) term)
    (Has-map (λ (q : Posting). q.address) p (filter (is_of p.term) ps)
    (Has-filter (is_of p.term) p ps h (nat_list_eq_equiv.refl p.term)))

first_least : (low high : ℕ) (ps : List Posting) (p : Posting) → Ascend low high ps → Has p ps → first_address ps ≤ p.address
first_least low high [] p a h = absurd h
first_least low high (q ∷ ps) p a h =
    ⊎_elim
    (λ (e : q ≡ p). let same : q.address ≡ p.address = ap (λ (r : Posting). r.address) e in omega arith)
    (λ (i : Has p ps). let l : q.address + 1 ≤ p.address = has_above (q.address + 1) high ps p a.1 i in omega arith)
    h

last_greatest : (low high : ℕ) (ps : List Posting) (p : Posting) → Ascend low high ps → Has p ps
    → (low ≤ p.address) × (p.address ≤ last_address ps)
last_greatest low high [] p a h = absurd h
last_greatest low high (q ∷ []) p a h =
    ⊎_elim
    (λ (e : q ≡ p). let same : q.address ≡ p.address = ap (λ (r : Posting). r.address) e in (omega (arith, a.0), omega arith))
    (λ i. absurd i)
    h
last_greatest low high (q ∷ (r ∷ ps)) p a h =
    ⊎_elim
    (λ (e : q ≡ p).
    let same : q.address ≡ p.address = ap (λ (z : Posting). z.address) e in
    let l = last_greatest (q.address + 1) high (r ∷ ps) r a.1 (inl refl) in (omega (arith, a.0), omega (arith, l.0, l.1)))
    (λ (i : Has p (r ∷ ps)).
    let l = last_greatest (q.address + 1) high (r ∷ ps) p a.1 i in (omega (arith, a.0, l.0), l.1))
    h

first_has : (ps : List Posting) → 0 < length ps → (p : Posting) × (Has p ps × (p.address ≡ first_address ps))
first_has [] l = absurd (omega arith)
first_has (p ∷ ps) l = (p, (inl refl, refl))

last_has : (ps : List Posting) → 0 < length ps → (p : Posting) × (Has p ps × (p.address ≡ last_address ps))
last_has [] l = absurd (omega arith)
last_has (p ∷ []) l = (p, (inl refl, refl))
last_has (p ∷ (q ∷ ps)) l = let r = last_has (q ∷ ps) (omega arith) in (r.0, (inr r.1.0, r.1.1))

-- ---- the numbers

-- The directory of a part that was made of postings tells their first and last address, and how many there are.
pub record IsOfPostings (directory : PartDirectory) (postings : List Posting) : Type 0 where
  pub low : directory.low ≡ first_address postings
  pub high : directory.high ≡ last_address postings
  pub stored : directory.stored ≡ length postings

pub numbers_of : (low high : ℕ) (directory : PartDirectory) (postings : List Posting) (bytes : List ℕ) → 0 < length postings
    → Ascend low high postings → SpellsPart directory (lists_of postings) bytes → IsOfPostings directory postings
numbers_of low high d ps bytes some a s =
    let holds = s.own.code_spelled.holds in
    let within : AreWithin d.low d.high (all_addresses (lists_of ps)) =
    lists_within d.low bytes d.high d.terms (lists_of ps) holds.entries s.lists_held in
    let ends : AreEnds (all_blocks d.terms) (all_addresses (lists_of ps)) = lists_end d.low bytes d.terms (lists_of ps) s.lists_held in
    let begin = any_has (λ (block : BlockEntry). block.first == d.low) (all_blocks d.terms) holds.begin in
    let end = any_has (λ (block : BlockEntry). block.last == d.high) (all_blocks d.terms) holds.end in
    let begin_ends = all_has (λ (block : BlockEntry). Has block.first (all_addresses (lists_of ps))
    × Has block.last (all_addresses (lists_of ps))) begin.0 (all_blocks d.terms) ends begin.1.0 in
    let end_ends = all_has (λ (block : BlockEntry). Has block.first (all_addresses (lists_of ps))
    × Has block.last (all_addresses (lists_of ps))) end.0 (all_blocks d.terms) ends end.1.0 in
    let begin_is : begin.0.first ≡ d.low = eqb-true begin.0.first d.low begin.1.1 in
    let end_is : end.0.last ≡ d.high = eqb-true end.0.last d.high end.1.1 in
    let lowest = of_posting ps begin.0.first begin_ends.0 in
    let highest = of_posting ps end.0.last end_ends.1 in
    let first = first_has ps some in
    let last = last_has ps some in
    let first_in : IsWithin d.low d.high first.0.address =
    all_has (IsWithin d.low d.high) first.0.address (all_addresses (lists_of ps)) within (in_lists ps first.0 first.1.0) in
    let last_in : IsWithin d.low d.high last.0.address =
    all_has (IsWithin d.low d.high) last.0.address (all_addresses (lists_of ps)) within (in_lists ps last.0 last.1.0) in
    let least : first_address ps ≤ lowest.0.address = first_least low high ps lowest.0 a lowest.1.0 in
    let greatest = last_greatest low high ps highest.0 a highest.1.0 in
    record {
      low = omega (arith, least, lowest.1.1, begin_is, first_in.0, first.1.1);
      high = omega (arith, greatest.1, highest.1.1, end_is, last_in.1, last.1.1);
      stored = sym holds.sum ∙ counts_same d.low bytes d.terms (lists_of ps) s.lists_held ∙ lists_total ps;
    }

-- what is recorded of it
pub record_of_postings : (low high blob : ℕ) (recorded : PartRec) (directory : PartDirectory) (postings : List Posting) (bytes : List ℕ)
    → 0 < length postings → Ascend low high postings → SpellsPart directory (lists_of postings) bytes → directory.generation ≡ 0
    → recorded.blob ≡ blob → IsRecorded recorded directory
    → IsRecordOf recorded (record { blob = blob; generation = 0; postings = postings })
record_of_postings low high blob recorded directory postings bytes some a s g b told =
    let numbers = numbers_of low high directory postings bytes some a s in
    record {
      blob = b;
      generation = sym told.generation ∙ g;
      low = sym told.low ∙ numbers.low;
      high = sym told.high ∙ numbers.high;
      stored = sym told.stored ∙ numbers.stored;
    }
