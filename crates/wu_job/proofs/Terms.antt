-- The entry of a term in a directory, and what a part's blob holds of it.
use Rattle.std.proofs.Common.{◌≡◌, ℕ, zero, suc, ◌+◌, ◌<◌, ◌≤◌, nat_eq, true, false, cond, List, [], ◌∷◌, ◌++◌, length, map, get_or, refl}
use Rattle.std.proofs.Common.{ap, sym, ◌∙◌, subst, arith, ⊎_elim, inl, inr, append-nil}
use Rattle.std.specs.Prelude.{Option, None, Some, IfSome, Contains, slice_get}
use Rattle.std.specs.declared.cmp.Ordering.TheVariants.{Less}
use Rattle.std.specs.Cmp.Lexicographic.{pointwise, nat_list_eq_equiv, same_text}
use Rattle.std.specs.List.{AllByRecursion}
use Rattle.std.specs.List.Sorted.{IsStrictlySortedBy}
use Rattle.std.proofs.lemmas.Option.{none-some, same_Some}
use Rattle.wu_base.proofs.Members.{Has, Has-from_Contains, Contains-from_Has, Has-map, all_has}
use Rattle.wu_job.proofs.Counting.{texts_differ}
use Rattle.wu_outside.specs.Content.{Content}
use Rattle.wu_outside.specs.declared.ranges.ReadRange.{ReadRange}
use Rattle.wu_part.specs.declared.entries.BlockEntry.{BlockEntry}
use Rattle.wu_part.specs.declared.entries.TermEntry.{TermEntry}
use Rattle.wu_part.specs.Directories.{PartDirectory, IsDirectory, IsEntry, StandFrom, all_blocks}
use Rattle.wu_part.proofs.ReadingLemmas.{stand_within}
use Rattle.wu_job.specs.Jobs.{JobPart, HoldsEntry, HoldsTerm}
use Rattle.wu_job.specs.Reading.{AreNoBlocks, IsFound, StandsAt}
use Rattle.wu_job.specs.Steps.{HasNoTerm, HasWholeRange, HasWholeRanges, block_ranges, ranges_of, ranges_of_entries}
use Rattle.wu_part.specs.Parts.{IsNoPart, LieIn}
use Rattle.wu_job.proofs.Made.{list_at_entry}
use Rattle.wu_job.proofs.Merging.{text_cmp, IsUp, less_itself}

abbrev terms : List TermEntry → List (List ℕ)
terms entries = map (λ (entry : TermEntry). entry.term) entries

later_term : (x entry : TermEntry) (xs : List TermEntry) → AllByRecursion (λ z. text_cmp x.term z ≡ Less) (terms xs) → Has entry xs
    → text_cmp x.term entry.term ≡ Less
later_term x entry xs a h =
    all_has (λ z. text_cmp x.term z ≡ Less) entry.term (terms xs) a (Has-map (λ (z : TermEntry). z.term) entry xs h)

-- a directory has one entry of a term
one_entry : (entry other : TermEntry) (entries : List TermEntry) → IsUp (terms entries) → Has entry entries → Has other entries
    → entry.term ≡ other.term → entry ≡ other
unfolding IsStrictlySortedBy
one_entry entry other [] s h g e = absurd h
one_entry entry other (x ∷ xs) s h g e =
    ⊎_elim
    (λ (p : x ≡ entry).
    ⊎_elim
    (λ (q : x ≡ other). sym p ∙ q)
    (λ (j : Has other xs).
    absurd (less_itself x.term other.term (later_term x other xs s.0 j) (ap (λ (z : TermEntry). z.term) p ∙ e)))
    g)
    (λ (i : Has entry xs).
    ⊎_elim
    (λ (q : x ≡ other).
    absurd (less_itself x.term entry.term (later_term x entry xs s.0 i) (ap (λ (z : TermEntry). z.term) q ∙ sym e)))
    (λ (j : Has other xs). one_entry entry other xs s.1 i j e)
    g)
    h

-- ---- the ranges of a term's blocks

ranges_of_later : (blob : ℕ) (term : List ℕ) (entries : List TermEntry) → AllByRecursion (λ z. text_cmp term z ≡ Less) (terms entries)
    → ranges_of_entries blob term entries ≡ []
ranges_of_later blob term [] a = refl
ranges_of_later blob term (x ∷ xs) a =
    elim (pointwise nat_eq x.term term) as
    (λ b. pointwise nat_eq x.term term ≡ b
    → cond b (block_ranges blob x.blocks) [] ++ ranges_of_entries blob term xs ≡ []) [
      | true ↦ λ p. absurd (less_itself term x.term a.0 (sym (same_text x.term term (sym p))))
      | false ↦ λ p. ranges_of_later blob term xs a.1
    ] refl

pub ranges_one : (blob : ℕ) (entry : TermEntry) (entries : List TermEntry) → IsUp (terms entries) → Has entry entries
    → ranges_of_entries blob entry.term entries ≡ block_ranges blob entry.blocks
unfolding IsStrictlySortedBy
ranges_one blob entry [] s h = absurd h
ranges_one blob entry (x ∷ xs) s h =
    ⊎_elim
    (λ (e : x ≡ entry).
    let same : pointwise nat_eq x.term entry.term ≡ true =
    subst (λ (z : TermEntry). pointwise nat_eq x.term z.term ≡ true) e (nat_list_eq_equiv.refl x.term) in
    let none : ranges_of_entries blob entry.term xs ≡ [] =
    ranges_of_later blob entry.term xs
    (subst (λ (z : TermEntry). AllByRecursion (λ y. text_cmp z.term y ≡ Less) (terms xs)) e s.0) in
    rw (same, none) (append-nil (block_ranges blob x.blocks) ∙ ap (λ (z : TermEntry). block_ranges blob z.blocks) e))
    (λ (i : Has entry xs).
    let other : pointwise nat_eq x.term entry.term ≡ false = texts_differ x.term entry.term (later_term x entry xs s.0 i) in
    rw other (ranges_one blob entry xs s.1 i))
    h

pub ranges_of_none : (blob : ℕ) (term : List ℕ) (entries : List TermEntry)
    → ((entry : TermEntry) → Has entry entries → entry.term ≡ term → ⊥) → ranges_of_entries blob term entries ≡ []
ranges_of_none blob term [] n = refl
ranges_of_none blob term (x ∷ xs) n =
    elim (pointwise nat_eq x.term term) as
    (λ b. pointwise nat_eq x.term term ≡ b
    → cond b (block_ranges blob x.blocks) [] ++ ranges_of_entries blob term xs ≡ []) [
      | true ↦ λ p. absurd (n x (inl refl) (same_text x.term term (sym p)))
      | false ↦ λ p. ranges_of_none blob term xs (λ entry h. n entry (inr h))
    ] refl

-- ---- what is held of a term

pub held_there : (content : Content) (part : JobPart) (entry : TermEntry) (addresses : List ℕ) → IsUp (terms part.directory.terms)
    → Contains part.directory.terms entry → HoldsEntry (content.blobs part.recorded.blob) part.directory.low entry addresses
    → HoldsTerm content entry.term part addresses
held_there content part entry addresses s h is = record {
  there = λ other g e.
      subst (λ z. HoldsEntry (content.blobs part.recorded.blob) part.directory.low z addresses)
      (one_entry entry other part.directory.terms s (Has-from_Contains entry _ h) (Has-from_Contains other _ g) (sym e))
      is;
  absent = λ n. absurd (n entry h refl);
}

pub held_nowhere : (content : Content) (term : List ℕ) (part : JobPart)
    → ((entry : TermEntry) → Contains part.directory.terms entry → entry.term ≡ term → ⊥) → HoldsTerm content term part []
held_nowhere content term part n = record { there = λ entry h e. absurd (n entry h e); absent = λ _. refl }

-- ---- what is no part

stand_lie : (place end : ℕ) (blocks : List BlockEntry) → StandFrom place end blocks → LieIn end blocks
stand_lie place end [] s = tt
stand_lie place end (b ∷ blocks) s =
    let within : place + b.len ≤ end = stand_within (place + b.len) end blocks s.1 in
    (omega (arith, s.0), stand_lie (place + b.len) end blocks s.1)

lie_left : (size : ℕ) (blocks more : List BlockEntry) → LieIn size (blocks ++ more) → LieIn size blocks
lie_left size [] more a = tt
lie_left size (b ∷ blocks) more a = (a.0, lie_left size blocks more a.1)

lie_right : (size : ℕ) (blocks more : List BlockEntry) → LieIn size (blocks ++ more) → LieIn size more
lie_right size [] more a = a
lie_right size (b ∷ blocks) more a = lie_right size blocks more a.1

lie_of_entry : (size : ℕ) (entry : TermEntry) (entries : List TermEntry) → LieIn size (all_blocks entries) → Has entry entries
    → LieIn size entry.blocks
lie_of_entry size entry [] a h = absurd h
lie_of_entry size entry (x ∷ xs) a h =
    ⊎_elim
    (λ (e : x ≡ entry). subst (λ (z : TermEntry). LieIn size z.blocks) e (lie_left size x.blocks (all_blocks xs) a))
    (λ (i : Has entry xs). lie_of_entry size entry xs (lie_right size x.blocks (all_blocks xs) a) i)
    h

pub no_part : (directory : PartDirectory) (entry : TermEntry) (o : Option (List ℕ)) → Contains directory.terms entry
    → AreNoBlocks o directory.low entry → IsNoPart directory o
no_part directory entry None h n = tt
no_part directory entry (Some blob) h n = λ lists is.
    let has : Has entry directory.terms = Has-from_Contains entry directory.terms h in
    let list = list_at_entry directory.low blob entry directory.terms lists is.lists_held has in
    let lie : LieIn directory.size (all_blocks directory.terms) = stand_lie _ directory.size _ is.own.code_spelled.holds.places in
    n (subst (λ size. LieIn size entry.blocks) (sym is.own.size) (lie_of_entry directory.size entry directory.terms lie has))
    list.0.at
    (record { term = refl; count = list.1.1.count; blocks = list.1.1.blocks })

-- ---- live addresses

-- ---- the entry at a place

got_within : (entries : List TermEntry) (place : ℕ) (entry : TermEntry) → slice_get entries place ≡ Some entry
    → (place < length entries) × (get_or entries place entry ≡ entry)
got_within [] place entry e = absurd (none-some entry e)
got_within (x ∷ xs) zero entry e = (omega arith, same_Some x entry e)
got_within (x ∷ xs) (suc place) entry e = let r = got_within xs place entry e in (omega (arith, r.0), r.1)

got_there : (entries : List TermEntry) (place : ℕ) (entry : TermEntry) → place < length entries → get_or entries place entry ≡ entry
    → slice_get entries place ≡ Some entry
got_there [] place entry l e = absurd (omega arith)
got_there (x ∷ xs) zero entry l e = ap Some e
got_there (x ∷ xs) (suc place) entry l e = got_there xs place entry (omega arith) e

contains_got : (entries : List TermEntry) (place : ℕ) (found : Option TermEntry) → found ≡ slice_get entries place
    → IfSome found (λ entry. Contains entries entry)
contains_got entries place None e = tt
contains_got entries place (Some entry) e = let r = got_within entries place entry (sym e) in (place, r.0, r.1)

-- the entry of the term is the one at the place
pub found_at : (entries : List TermEntry) (place : ℕ) (term : List ℕ) (found : Option TermEntry) → StandsAt entries place term
    → found ≡ slice_get entries place → IsFound entries term found
found_at entries place term found s is = record {
  has = contains_got entries place found is;
  only = λ entry h e. let r = s entry h e in is ∙ got_there entries place entry r.0 r.1;
}

pub found_has : (entries : List TermEntry) (found : Option TermEntry) (entry : TermEntry) → IfSome found (λ entry. Contains entries entry)
    → found ≡ Some entry → Contains entries entry
found_has entries None entry h e = absurd (none-some entry e)
found_has entries (Some a) entry h e = subst (Contains entries) (same_Some a entry e) h

-- ---- of a directory

pub entry_of_directory : (directory : PartDirectory) (n : ℕ) (entry : TermEntry) → IsDirectory directory n → Contains directory.terms entry
    → IsEntry directory.low directory.high entry
entry_of_directory directory n entry is h =
    all_has (IsEntry directory.low directory.high) entry directory.terms is.entries (Has-from_Contains entry directory.terms h)

pub ranges_at : (part : JobPart) (term : List ℕ) (entry : TermEntry) → IsUp (terms part.directory.terms) → Contains part.directory.terms entry
    → entry.term ≡ term → ranges_of term part ≡ block_ranges part.recorded.blob entry.blocks
ranges_at part term entry s h e =
    ap (λ (t : List ℕ). ranges_of_entries part.recorded.blob t part.directory.terms) (sym e)
    ∙ ranges_one part.recorded.blob entry part.directory.terms s (Has-from_Contains entry part.directory.terms h)

pub ranges_nowhere : (part : JobPart) (term : List ℕ)
    → ((entry : TermEntry) → Contains part.directory.terms entry → entry.term ≡ term → ⊥) → ranges_of term part ≡ []
ranges_nowhere part term n =
    ranges_of_none part.recorded.blob term part.directory.terms (λ entry h e. n entry (Contains-from_Has entry part.directory.terms h) e)

-- ---- what has no term

lie_of_whole : (number : ℕ) (blob : List ℕ) (blocks : List BlockEntry)
    → AllByRecursion (λ (range : ReadRange). HasWholeRange (Some blob) range) (block_ranges number blocks) → LieIn (length blob) blocks
lie_of_whole number blob [] w = tt
lie_of_whole number blob (b ∷ blocks) w = (w.0, lie_of_whole number blob blocks w.1)

whole_of_one : (content : Content) (number : ℕ) (blocks : List BlockEntry) → HasWholeRanges content (block_ranges number blocks)
    → AllByRecursion (λ (range : ReadRange). HasWholeRange (content.blobs number) range) (block_ranges number blocks)
whole_of_one content number [] w = tt
whole_of_one content number (b ∷ blocks) w = (w.0, whole_of_one content number blocks w.1)

no_entry : (o : Option (List ℕ)) (low number : ℕ) (entry : TermEntry) (addresses : List ℕ) → AreNoBlocks o low entry
    → AllByRecursion (λ (range : ReadRange). HasWholeRange o range) (block_ranges number entry.blocks)
    → HoldsEntry o low entry addresses → ⊥
no_entry None low number entry addresses n w h = h
no_entry (Some blob) low number entry addresses n w h = n (lie_of_whole number blob entry.blocks w) addresses h

pub no_term : (content : Content) (part : JobPart) (term : List ℕ) (entry : TermEntry) → IsUp (terms part.directory.terms)
    → Contains part.directory.terms entry → entry.term ≡ term
    → AreNoBlocks (content.blobs part.recorded.blob) part.directory.low entry → HasNoTerm content term part
no_term content part term entry s h e n = λ w addresses t.
    let number = part.recorded.blob in
    let whole : HasWholeRanges content (block_ranges number entry.blocks) =
    subst (λ (rs : List ReadRange). HasWholeRanges content rs) (ranges_at part term entry s h e) w in
    no_entry (content.blobs number) part.directory.low number entry addresses n (whole_of_one content number entry.blocks whole)
    (t.there entry h e)
