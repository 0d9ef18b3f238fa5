-- The lists of a part, read one after another.
use Rattle.std.proofs.Common.{◌≡◌, ℕ, ◌+◌, ◌≤◌, List, [], ◌∷◌, ◌++◌, length, refl, ap, sym, ◌∙◌, subst, arith, append_assoc, append-nil}
use Rattle.std.specs.Prelude.{eqb, Some}
use Rattle.std.specs.List.{AllByRecursion, AllZip, IsDistinct}
use Rattle.wu_base.specs.declared.addresses.PartRec.{PartRec}
use Rattle.wu_base.specs.declared.addresses.TermList.{TermList}
use Rattle.wu_part.specs.declared.entries.BlockEntry.{BlockEntry}
use Rattle.wu_part.specs.declared.entries.TermEntry.{TermEntry}
use Rattle.wu_part.specs.Directories.{PartDirectory, SpellsDirectory, StandFrom, all_blocks}
use Rattle.wu_part.specs.Parts.{HoldsList, IsBroken, IsDirectoryOf, IsNoPart, LieIn, SpellsPart}
use Rattle.wu_part.proofs.LawLemmas.{one_directory, same_lists}
use Rattle.wu_check.specs.Indexing.{HoldsAddresses}
use Rattle.wu_check.specs.Numbered.{addresses_in, with_list}
use Rattle.wu_check.proofs.NumberLemmas.{distinct_left}

-- These lists were read of the first entries: they are the first of any lists that all entries hold.
pub record AreHeld (low : ℕ) (bytes : List ℕ) (all left : List TermEntry) (lists : List TermList) : Type 0 where
  pub held : (rest : List TermList) → AllZip (HoldsList low bytes) left rest → AllZip (HoldsList low bytes) all (lists ++ rest)
  pub only : (others : List TermList) → AllZip (HoldsList low bytes) all others
      → (rest : List TermList) × (others ≡ lists ++ rest) × AllZip (HoldsList low bytes) left rest

pub none_held : (low : ℕ) (bytes : List ℕ) (all : List TermEntry) → AreHeld low bytes all all []
none_held low bytes all = record { held = λ rest h. h; only = λ others h. (others, refl, h) }

-- the first list that an entry holds, and the others
record HasFirst (low : ℕ) (bytes : List ℕ) (entry : TermEntry) (left : List TermEntry) (rest : List TermList) : Type 0 where
  first : TermList
  later : List TermList
  is : rest ≡ first ∷ later
  own : HoldsList low bytes entry first
  others : AllZip (HoldsList low bytes) left later

has_first : (low : ℕ) (bytes : List ℕ) (entry : TermEntry) (left : List TermEntry) (rest : List TermList)
    → AllZip (HoldsList low bytes) (entry ∷ left) rest → HasFirst low bytes entry left rest
has_first low bytes entry left [] h = absurd h
has_first low bytes entry left (first ∷ later) h = record { first = first; later = later; is = refl; own = h.0; others = h.1 }

holds_list : (low : ℕ) (bytes : List ℕ) (entry : TermEntry) (addresses : List ℕ) → HoldsAddresses low bytes entry addresses
    → HoldsList low bytes entry (record { term = entry.term; at = addresses })
holds_list low bytes entry addresses h = record { term = refl; count = h.0; blocks = h.1 }

one_list : (low : ℕ) (bytes : List ℕ) (entry : TermEntry) (list other : TermList) → HoldsList low bytes entry list
    → HoldsList low bytes entry other → list ∷ [] ≡ other ∷ []
one_list low bytes entry list other h g = same_lists low bytes (entry ∷ []) (list ∷ []) (other ∷ []) (h, tt) (g, tt)

pub held_more : (low : ℕ) (bytes : List ℕ) (all left : List TermEntry) (entry : TermEntry) (lists : List TermList) (addresses : List ℕ)
    → AreHeld low bytes all (entry ∷ left) lists → HoldsAddresses low bytes entry addresses
    → AreHeld low bytes all left (with_list lists entry.term addresses)
held_more low bytes all left entry lists addresses are h =
    let list : TermList = record { term = entry.term; at = addresses } in
    let own : HoldsList low bytes entry list = holds_list low bytes entry addresses h in
    record {
      held = λ rest g.
          subst (AllZip (HoldsList low bytes) all) (sym (append_assoc lists (list ∷ []) rest)) (are.held (list ∷ rest) (own, g));
      only = λ others g.
          let o = are.only others g in
          let f = has_first low bytes entry left o.0 o.2 in (
            f.later,
            o.1 ∙ ap (λ ls. lists ++ ls) (f.is ∙ ap (λ ls. ls ++ f.later) (sym (one_list low bytes entry list f.first own f.own)))
                ∙ sym (append_assoc lists (list ∷ []) f.later),
            f.others,
          );
    }

-- ---- bytes that are no part

module _ (bytes : List ℕ) (directory : PartDirectory) where
  -- an entry's blocks hold no addresses
  pub broken_entry : (entry : TermEntry) (left : List TermEntry) (lists : List TermList)
      → AreHeld directory.low bytes directory.terms (entry ∷ left) lists
      → ((addresses : List ℕ) → HoldsAddresses directory.low bytes entry addresses → ⊥) → IsNoPart directory (Some bytes)
  broken_entry entry left lists are none = λ others s.
      let o = are.only others s.lists_held in
      let f = has_first directory.low bytes entry left o.0 o.2 in
      none f.first.at (f.own.count, f.own.blocks)

  -- the lists so far share an address
  pub broken_lists : (left : List TermEntry) (lists : List TermList) → AreHeld directory.low bytes directory.terms left lists
      → (IsDistinct eqb (addresses_in lists) → ⊥) → IsNoPart directory (Some bytes)
  broken_lists left lists are shared = λ others s.
      let o = are.only others s.lists_held in
      shared (distinct_left lists o.0 (subst (λ ls. IsDistinct eqb (addresses_in ls)) o.1 s.distinct))

  pub whole_part : (lists : List TermList) → IsDirectoryOf directory bytes → AreHeld directory.low bytes directory.terms [] lists
      → IsDistinct eqb (addresses_in lists) → SpellsPart directory lists bytes
  whole_part lists own are distinct = record {
    own = own;
    lists_held = subst (AllZip (HoldsList directory.low bytes) directory.terms) (append-nil lists) (are.held [] tt);
    distinct = distinct;
  }

-- a part is broken by its record where its bytes are no part with the directory that it has
pub broken_part : (part : PartRec) (bytes : List ℕ) (directory : PartDirectory) → IsDirectoryOf directory bytes
    → IsNoPart directory (Some bytes) → IsBroken part (Some bytes)
broken_part part bytes directory own none = λ other lists s told.
    none lists (subst (λ (d : PartDirectory). SpellsPart d lists bytes) (one_directory other directory bytes s.own own) s)

-- ---- blocks that lie in the part's bytes

abbrev pub AllLieIn : ℕ → List TermEntry → Type 0
AllLieIn size entries = AllByRecursion (λ entry. LieIn size entry.blocks) entries

stand_to : (place end : ℕ) (blocks : List BlockEntry) → StandFrom place end blocks → place ≤ end
stand_to place end [] s = omega (arith, s)
stand_to place end (block ∷ later) s = omega (arith, stand_to (place + block.len) end later s.1)

record Parts (place end : ℕ) (blocks more : List BlockEntry) : Type 0 where
  middle : ℕ
  first : LieIn end blocks
  rest : StandFrom middle end more

part_blocks : (place end : ℕ) (blocks more : List BlockEntry) → StandFrom place end (blocks ++ more) → Parts place end blocks more
part_blocks place end [] more s = record { middle = place; first = tt; rest = s }
part_blocks place end (block ∷ later) more s =
    let p = part_blocks (place + block.len) end later more s.1 in
    record { middle = p.middle; first = (omega (arith, s.0, stand_to (place + block.len) end (later ++ more) s.1), p.first); rest = p.rest }

lie_from : (place end : ℕ) (entries : List TermEntry) → StandFrom place end (all_blocks entries) → AllLieIn end entries
lie_from place end [] s = tt
lie_from place end (entry ∷ later) s =
    let p = part_blocks place end entry.blocks (all_blocks later) s in
    (p.first, lie_from p.middle end later p.rest)

pub all_lie : (directory : PartDirectory) (bytes code : List ℕ) → IsDirectoryOf directory bytes → SpellsDirectory directory code
    → AllLieIn (length bytes) directory.terms
all_lie directory bytes code own spelled =
    subst (λ n. AllLieIn n directory.terms) (sym own.size) (lie_from _ directory.size directory.terms spelled.holds.places)
