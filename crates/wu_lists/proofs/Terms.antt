-- The entry of a term in a directory, and what a part has of its blocks.
use Rattle.std.proofs.Common.{◌≡◌, ℕ, ◌+◌, ◌-◌, ◌≤◌, true, false, cond, List, [], ◌∷◌, filter, length, take, drop, map, min, refl, ap, sym}
use Rattle.std.proofs.Common.{◌∙◌, subst, arith, inl, inr}
use Rattle.std.specs.Prelude.{Option, None, Some, IfSome, nat_eq}
use Rattle.std.specs.List.{AllByRecursion, AllZip, Contains}
use Rattle.std.specs.List.Sorted.{IsStrictlySortedBy}
use Rattle.std.specs.Cmp.Lexicographic.{pointwise, slice_cmp, nat_list_cmp_total, nat_list_eq_equiv, same_text}
use Rattle.std.specs.Ordering.{nat_cmp}
use Rattle.std.specs.declared.cmp.Ordering.TheVariants.{Less, Equal}
use Rattle.std.proofs.lemmas.Cmp.{tied_itself}
use Rattle.std.proofs.lemmas.List.{length-drop, length-take}
use Rattle.wu_base.proofs.Members.{Has, Has-flat_map, Has-from_Contains, Contains-from_Has, all_has, all_from_has}
use Rattle.wu_base.specs.declared.addresses.TermList.{TermList}
use Rattle.wu_outside.specs.Content.{Content}
use Rattle.wu_vbyte.specs.declared.blocks.TheConstants.{BLOCK_LEN}
use Rattle.wu_part.specs.declared.entries.BlockEntry.{BlockEntry}
use Rattle.wu_part.specs.declared.entries.TermEntry.{TermEntry}
use Rattle.wu_part.specs.Directories.{AreBlocks, IsEntry, PartDirectory, SpellsDirectory, StandFrom, all_blocks}
use Rattle.wu_part.specs.Parts.{HoldBlocks, HoldsList, SpellsPart, IsNoPart}
use Rattle.wu_part.proofs.ReadingLemmas.{stand_within}
use Rattle.wu_lists.specs.declared.blocks.Block.{Block}
use Rattle.wu_lists.specs.Blocks.{IsSpelledIn, blocks_from, blocks_in, bytes_of, entry_of, meets, needed}
use Rattle.wu_lists.specs.Fetching.{AreGathered, HasBlocks, HasEntry, HasTerm}
use Rattle.wu_lists.specs.Keeping.{AreHeld, Kept}
use Rattle.wu_layout.specs.Postings.{is_live}
use Rattle.wu_base.specs.declared.addresses.Range.{Range}
use Rattle.wu_lists.proofs.Walks.{block_with, spelled-block}

-- ---- the entry

abbrev names : List TermEntry → List (List ℕ)
names terms = map (λ (entry : TermEntry). entry.term) terms

is_term : (a : List ℕ) → pointwise nat_eq a a ≡ true
is_term a = nat_list_eq_equiv.refl a

less_itself : (a : List ℕ) → slice_cmp nat_cmp a a ≡ Less → ⊥
less_itself a less = let equal : slice_cmp nat_cmp a a ≡ Equal = tied_itself nat_list_cmp_total a in cc

name_has : (entry : TermEntry) (terms : List TermEntry) (P : List ℕ → Type 0) → AllByRecursion P (names terms) → Has entry terms
    → P entry.term
name_has entry [] P a h = absurd h
name_has entry (x ∷ terms) P a (inl e) = subst (λ (y : TermEntry). P y.term) e a.0
name_has entry (x ∷ terms) P a (inr h) = name_has entry terms P a.1 h

found_in : (terms : List TermEntry) (entry : TermEntry) (term : List ℕ) → IsStrictlySortedBy (slice_cmp nat_cmp) (names terms)
    → Has entry terms → entry.term ≡ term → entry_of terms term ≡ Some entry
unfolding IsStrictlySortedBy
found_in [] entry term s h e = absurd h
found_in (x ∷ terms) entry term s (inl same) e =
    let is : pointwise nat_eq x.term term ≡ true = subst (λ (y : List ℕ). pointwise nat_eq x.term y ≡ true)
    (ap (λ (y : TermEntry). y.term) same ∙ e) (is_term x.term) in
    rw is (ap Some same)
found_in (x ∷ terms) entry term s (inr later) e =
    elim (pointwise nat_eq x.term term) as
    (λ b. pointwise nat_eq x.term term ≡ b → cond b (Some x) (entry_of terms term) ≡ Some entry) [
      | true ↦ λ q.
          let same : x.term ≡ entry.term = same_text x.term term (sym q) ∙ sym e in
          let less : slice_cmp nat_cmp x.term entry.term ≡ Less =
          name_has entry terms (λ (y : List ℕ). slice_cmp nat_cmp x.term y ≡ Less) s.0 later in
          absurd (less_itself entry.term (subst (λ (y : List ℕ). slice_cmp nat_cmp y entry.term ≡ Less) same less))
      | false ↦ λ q. found_in terms entry term s.1 later e
    ] refl

pub entry-found : (terms : List TermEntry) (entry : TermEntry) (term : List ℕ) → IsStrictlySortedBy (slice_cmp nat_cmp) (names terms)
    → Contains terms entry → entry.term ≡ term → entry_of terms term ≡ Some entry
entry-found terms entry term s c e = found_in terms entry term s (Has-from_Contains entry terms c) e

none_in : (terms : List TermEntry) (term : List ℕ) → ((entry : TermEntry) → Has entry terms → entry.term ≡ term → ⊥)
    → entry_of terms term ≡ None
none_in [] term n = refl
none_in (x ∷ terms) term n =
    elim (pointwise nat_eq x.term term) as
    (λ b. pointwise nat_eq x.term term ≡ b → cond b (Some x) (entry_of terms term) ≡ None) [
      | true ↦ λ q. absurd (n x (inl refl) (same_text x.term term (sym q)))
      | false ↦ λ q. none_in terms term (λ entry h e. n entry (inr h) e)
    ] refl

pub entry-absent : (terms : List TermEntry) (term : List ℕ) → ((entry : TermEntry) → Contains terms entry → entry.term ≡ term → ⊥)
    → entry_of terms term ≡ None
entry-absent terms term n = none_in terms term (λ entry h e. n entry (Contains-from_Has entry terms h) e)

pub entry-blocks : (directory : PartDirectory) (code : List ℕ) (entry : TermEntry) → SpellsDirectory directory code
    → Contains directory.terms entry → AreBlocks directory.low directory.high entry.count entry.blocks
entry-blocks directory code entry s c =
    (all_has (IsEntry directory.low directory.high) entry directory.terms s.holds.entries (Has-from_Contains entry directory.terms c)).cut

-- ---- a part has all of its blocks

all-end : (place end : ℕ) (blocks : List BlockEntry) → StandFrom place end blocks → AllByRecursion (λ b. b.at + b.len ≤ end) blocks
all-end place end [] s = tt
all-end place end (b ∷ later) s =
    let r : place + b.len ≤ end = stand_within (place + b.len) end later s.1 in
    (omega (arith, s.0), all-end (place + b.len) end later s.1)

blocks-end : (end : ℕ) (terms : List TermEntry) (entry : TermEntry) → Has entry terms
    → AllByRecursion (λ b. b.at + b.len ≤ end) (all_blocks terms) → AllByRecursion (λ b. b.at + b.len ≤ end) entry.blocks
blocks-end end terms entry h a =
    all_from_has (λ (b : BlockEntry). b.at + b.len ≤ end) entry.blocks
    (λ b in_entry. all_has (λ (x : BlockEntry). x.at + x.len ≤ end) b (all_blocks terms) a
    (Has-flat_map (λ (e : TermEntry). e.blocks) b entry terms h in_entry))

list-held : (low : ℕ) (bytes : List ℕ) (terms : List TermEntry) (lists : List TermList) (entry : TermEntry)
    → AllZip (HoldsList low bytes) terms lists → Has entry terms → (list : TermList) × HoldsList low bytes entry list
list-held low bytes [] lists entry a h = absurd h
list-held low bytes (x ∷ terms) [] entry a h = absurd a
list-held low bytes (x ∷ terms) (list ∷ lists) entry a (inl e) = (list, subst (λ (y : TermEntry). HoldsList low bytes y list) e a.0)
list-held low bytes (x ∷ terms) (list ∷ lists) entry a (inr h) = list-held low bytes terms lists entry a.1 h

whole-slice : (block : Block) (bytes : List ℕ) → block.at + block.len ≤ length bytes → length (bytes_of block bytes) ≡ block.len
whole-slice block bytes w =
    let taken = length-take (block.at + block.len - block.at) (drop block.at bytes) in
    omega (arith, taken, length-drop block.at bytes)

held-spelled : (content : Content) (blob low : ℕ) (bytes : List ℕ) (count : ℕ) (blocks : List BlockEntry) (addresses : List ℕ)
    → content.blobs blob ≡ Some bytes → count ≡ length addresses → HoldBlocks low bytes blocks addresses
    → AllByRecursion (λ b. b.at + b.len ≤ length bytes) blocks
    → AllByRecursion (IsSpelledIn content) (blocks_from blob low count blocks)
held-spelled content blob low bytes count [] addresses there n h w = tt
held-spelled content blob low bytes count (b ∷ later) addresses there n h w =
    let here : List ℕ = take BLOCK_LEN addresses in
    let block : Block = block_with blob low (min count BLOCK_LEN) b in
    let number : min count BLOCK_LEN ≡ length here = omega (arith, length-take BLOCK_LEN addresses) in (
      record {
        bytes = bytes_of block bytes;
        has = record { blob = bytes; there = there; whole = whole-slice block bytes w.0; same = refl };
        addresses = here;
        spelled = spelled-block blob low (min count BLOCK_LEN) b bytes here number h.0;
      },
      held-spelled content blob low bytes (count - BLOCK_LEN) later (drop BLOCK_LEN addresses) there
          (omega (arith, length-drop BLOCK_LEN addresses)) h.1 w.1,
    )

pub part-spelled : (content : Content) (blob : ℕ) (directory : PartDirectory) (lists : List TermList) (bytes : List ℕ) (entry : TermEntry)
    → content.blobs blob ≡ Some bytes → SpellsPart directory lists bytes → Contains directory.terms entry
    → AllByRecursion (IsSpelledIn content) (blocks_from blob directory.low entry.count entry.blocks)
part-spelled content blob directory lists bytes entry there s c =
    let h = Has-from_Contains entry directory.terms c in
    let list = list-held directory.low bytes directory.terms lists entry s.lists_held h in
    let ends : AllByRecursion (λ (b : BlockEntry). b.at + b.len ≤ directory.size) entry.blocks =
    blocks-end directory.size directory.terms entry h
    (all-end _ directory.size (all_blocks directory.terms) s.own.code_spelled.holds.places) in
    held-spelled content blob directory.low bytes entry.count entry.blocks list.0.at there list.1.count list.1.blocks
    (subst (λ (n : ℕ). AllByRecursion (λ (b : BlockEntry). b.at + b.len ≤ n) entry.blocks) (sym s.own.size) ends)

-- where a block isn't as the directory tells, the blob isn't the part
pub no-part : (content : Content) (blob : ℕ) (directory : PartDirectory) (entry : TermEntry) → Contains directory.terms entry
    → (AllByRecursion (IsSpelledIn content) (blocks_from blob directory.low entry.count entry.blocks) → ⊥)
    → IsNoPart directory (content.blobs blob)
no-part content blob directory entry c broken =
    elim (content.blobs blob) as (λ o. content.blobs blob ≡ o → IsNoPart directory o) [
      | None ↦ λ e. tt
      | Some bytes ↦ λ e lists s. broken (part-spelled content blob directory lists bytes entry e s c)
    ] refl

-- ---- what is gathered of a term

module _ (directory : PartDirectory) (term : List ℕ) (frames : List Range) (blob : ℕ) where
  pub needed-found : (entry : TermEntry) → entry_of directory.terms term ≡ Some entry
      → filter (meets frames) (blocks_from blob directory.low entry.count entry.blocks) ≡ needed blob directory term frames
  needed-found entry e = ap (λ (o : Option TermEntry). filter (meets frames) (blocks_in blob directory.low o)) (sym e)

  pub needed-absent : entry_of directory.terms term ≡ None → [] ≡ needed blob directory term frames
  needed-absent e = ap (λ (o : Option TermEntry). filter (meets frames) (blocks_in blob directory.low o)) (sym e)

  module _ (low high : ℕ) (holds : Option Content) (kept : Kept) where
    pub gathered-term : (entry : TermEntry) (found : List ℕ) → entry_of directory.terms term ≡ Some entry
        → AreGathered (HasBlocks directory.low entry.count entry.blocks) frames blob low high holds kept found
        → AreGathered (HasTerm directory term) frames blob low high holds kept found
    gathered-term entry found e f = record { ascend = f.ascend; told = through holds f.told }
      where
        through : (holds : Option Content)
            → IfSome holds (λ content. (bytes addresses : List ℕ) → content.blobs blob ≡ Some bytes → AreHeld blob bytes kept
            → HasBlocks directory.low entry.count entry.blocks bytes addresses
            → filter (is_live frames) found ≡ filter (is_live frames) addresses)
            → IfSome holds (λ content. (bytes addresses : List ℕ) → content.blobs blob ≡ Some bytes → AreHeld blob bytes kept
            → HasTerm directory term bytes addresses → filter (is_live frames) found ≡ filter (is_live frames) addresses)
        through None t = tt
        through (Some content) t = λ bytes addresses there held has.
            let h : HasEntry directory.low bytes term (Some entry) addresses =
            subst (λ (o : Option TermEntry). HasEntry directory.low bytes term o addresses) e has in
            t bytes addresses there held (record { number = h.count; held = h.blocks })

    pub gathered-absent : entry_of directory.terms term ≡ None → low ≤ high
        → AreGathered (HasTerm directory term) frames blob low high holds kept []
    gathered-absent e span = record { ascend = span; told = nothing holds }
      where
        nothing : (holds : Option Content)
            → IfSome holds (λ content. (bytes addresses : List ℕ) → content.blobs blob ≡ Some bytes → AreHeld blob bytes kept
            → HasTerm directory term bytes addresses → [] ≡ filter (is_live frames) addresses)
        nothing None = tt
        nothing (Some content) = λ bytes addresses there held has.
            let h : HasEntry directory.low bytes term None addresses =
            subst (λ (o : Option TermEntry). HasEntry directory.low bytes term o addresses) e has in
            sym (ap (filter (is_live frames)) h)
