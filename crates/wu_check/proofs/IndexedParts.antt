-- A part whose lists are numbered one after another.
use Rattle.std.proofs.Common.{◌≡◌, ℕ, List, [], ◌∷◌, length, subst, sym}
use Rattle.std.specs.Prelude.{Option, None, Some, IfNone, IfSome, MatchOption, eqb}
use Rattle.std.specs.List.{AllByRecursion, IsDistinct}
use Rattle.wu_base.specs.declared.addresses.PartRec.{PartRec}
use Rattle.wu_base.specs.declared.addresses.Range.{Range}
use Rattle.wu_base.specs.declared.addresses.TermList.{TermList}
use Rattle.wu_part.specs.declared.entries.TermEntry.{TermEntry}
use Rattle.wu_part.specs.Directories.{PartDirectory, IsEntry, SpellsDirectory}
use Rattle.wu_part.specs.Parts.{IsBroken, IsDirectoryOf, IsNoPart, IsRecorded, LieIn}
use Rattle.wu_check.specs.declared.indexing.PartIndex.{PartIndex}
use Rattle.wu_check.specs.declared.numbering.Numbering.{Numbering}
use Rattle.wu_check.specs.Indexing.{AreIndexed, HasListsOf, HoldsAddresses, IsIndexOf}
use Rattle.wu_check.specs.Numbered.{AreNumbered, addresses_in, with_list}
use Rattle.wu_check.proofs.PartLists.{AllLieIn, AreHeld, all_lie, broken_entry, broken_lists, broken_part, held_more, none_held, whole_part}

-- These lists were read of the first entries of the directory, and numbered.
pub record IsIndexing (directory : PartDirectory) (bytes : List ℕ) (ranges : List Range) (left : List TermEntry) (numbering : Numbering)
    : Type 0 where
  pub lists : List TermList
  pub held : AreHeld directory.low bytes directory.terms left lists
  pub numbered : AreNumbered ranges lists numbering
  pub entries : AllByRecursion (IsEntry directory.low directory.high) left
  pub lie : AllLieIn (length bytes) left

pub no_list : (directory : PartDirectory) (bytes code : List ℕ) (ranges : List Range) (all : List TermEntry) (numbering : Numbering)
    → IsDirectoryOf directory bytes → SpellsDirectory directory code → AreNumbered ranges [] numbering → all ≡ directory.terms
    → IsIndexing directory bytes ranges all numbering
no_list directory bytes code ranges all numbering own spelled are e =
    subst (λ left. IsIndexing directory bytes ranges left numbering) (sym e)
    (record {
      lists = [];
      held = none_held directory.low bytes directory.terms;
      numbered = are;
      entries = spelled.holds.entries;
      lie = all_lie directory bytes code own spelled;
    })

module _ (directory : PartDirectory) (bytes : List ℕ) (ranges : List Range) (all left : List TermEntry) (entry : TermEntry) (old : Numbering)
    (is : IsIndexing directory bytes ranges all old) (steps : all ≡ entry ∷ left) where
  here : IsIndexing directory bytes ranges (entry ∷ left) old
  here = subst (λ l. IsIndexing directory bytes ranges l old) steps is

  pub its_entry : IsEntry directory.low directory.high entry
  its_entry = here.entries.0

  pub its_blocks : LieIn (length bytes) entry.blocks
  its_blocks = here.lie.0

  pub next_list : (new : Numbering) (term addresses own : List ℕ) → HoldsAddresses directory.low bytes entry addresses
      → term ≡ entry.term → own ≡ addresses
      → ((lists : List TermList) → AreNumbered ranges lists old → AreNumbered ranges (with_list lists term own) new)
      → IsIndexing directory bytes ranges left new
  next_list new term addresses own holds t a more = record {
    lists = with_list here.lists entry.term addresses;
    held = held_more directory.low bytes directory.terms left entry here.lists addresses here.held holds;
    numbered =
        subst (λ x. AreNumbered ranges (with_list here.lists x addresses) new) t
        (subst (λ x. AreNumbered ranges (with_list here.lists term x) new) a (more here.lists here.numbered));
    entries = here.entries.1;
    lie = here.lie.1;
  }

  -- an entry without addresses
  pub no_addresses : ((addresses : List ℕ) → HoldsAddresses directory.low bytes entry addresses → ⊥) → IsNoPart directory (Some bytes)
  no_addresses none = broken_entry bytes directory entry left here.lists here.held none

  -- an address that stands in two lists
  pub shared_address : (term addresses own : List ℕ) → HoldsAddresses directory.low bytes entry addresses
      → term ≡ entry.term → own ≡ addresses
      → ((lists : List TermList) → AreNumbered ranges lists old → IsDistinct eqb (addresses_in (with_list lists term own)) → ⊥)
      → IsNoPart directory (Some bytes)
  shared_address term addresses own holds t a none =
      broken_lists bytes directory left (with_list here.lists entry.term addresses)
      (held_more directory.low bytes directory.terms left entry here.lists addresses here.held holds)
      (subst (λ x. IsDistinct eqb (addresses_in (with_list here.lists x addresses)) → ⊥) t
      (subst (λ x. IsDistinct eqb (addresses_in (with_list here.lists term x)) → ⊥) a (none here.lists here.numbered)))

-- all lists
pub finished : (directory : PartDirectory) (bytes : List ℕ) (ranges : List Range) (left : List TermEntry) (numbering : Numbering)
    (index : Option PartIndex) → IsDirectoryOf directory bytes → IsIndexing directory bytes ranges left numbering → left ≡ []
    → ((lists : List TermList) → AreNumbered ranges lists numbering
    → MatchOption index (IsDistinct eqb (addresses_in lists) → ⊥) (λ made. AreIndexed ranges lists made × IsDistinct eqb (addresses_in lists)))
    → IfSome index (HasListsOf directory bytes ranges) × IfNone index (IsNoPart directory (Some bytes))
finished directory bytes ranges left numbering index own is e made =
    let all : IsIndexing directory bytes ranges [] numbering = subst (λ l. IsIndexing directory bytes ranges l numbering) e is in
    elim index as (λ o. MatchOption o (IsDistinct eqb (addresses_in all.lists) → ⊥)
    (λ made. AreIndexed ranges all.lists made × IsDistinct eqb (addresses_in all.lists))
    → IfSome o (HasListsOf directory bytes ranges) × IfNone o (IsNoPart directory (Some bytes))) [
      | None ↦ λ m. (tt, broken_lists bytes directory [] all.lists all.held m)
      | Some index ↦ λ m. (
        record { lists = all.lists; spelled = whole_part bytes directory all.lists own all.held m.1; indexed = m.0 },
        tt,
      )
    ] (made all.lists all.numbered)

-- the index of a recorded part
pub indexed_part : (part : PartRec) (directory : PartDirectory) (bytes : List ℕ) (ranges : List Range) (index : Option PartIndex)
    → IsDirectoryOf directory bytes → IsRecorded part directory → IfSome index (HasListsOf directory bytes ranges)
    → IfSome index (IsIndexOf part bytes ranges)
indexed_part part directory bytes ranges None own told has = tt
indexed_part part directory bytes ranges (Some index) own told has = record {
  directory = directory;
  lists = has.lists;
  spelled = has.spelled;
  told = told;
  indexed = has.indexed;
}

pub unindexed_part : (part : PartRec) (directory : PartDirectory) (bytes : List ℕ) (index : Option PartIndex)
    → IsDirectoryOf directory bytes → IfNone index (IsNoPart directory (Some bytes)) → IfNone index (IsBroken part (Some bytes))
unindexed_part part directory bytes None own none = broken_part part bytes directory own none
unindexed_part part directory bytes (Some index) own none = tt
