-- What is fetched of parts and memory are the state's postings, and it stays so while blocks are kept.
use Rattle.std.proofs.Common.{◌≡◌, ℕ, zero, suc, ◌<◌, Bool, true, false, cond, List, [], ◌∷◌, ◌++◌, take, filter, refl, ap, sym, ◌∙◌, subst}
use Rattle.std.proofs.Common.{arith, append_assoc, append-nil}
use Rattle.std.specs.Prelude.{Option, Some, None, IfSome, not, zip}
use Rattle.std.specs.List.{AllByRecursion}
use Rattle.std.specs.Map.{keys_of}
use Rattle.std.proofs.lemmas.List.Elements.{filter-append}
use Rattle.wu_base.specs.declared.addresses.PartRec.{PartRec}
use Rattle.wu_base.specs.declared.addresses.Range.{Range}
use Rattle.wu_outside.specs.Content.{Content}
use Rattle.wu_outside.specs.declared.ranges.ReadRange.{ReadRange}
use Rattle.wu_layout.specs.Layouts.{Part, stored_in}
use Rattle.wu_layout.specs.Postings.{Posting, addresses_of, fetched, is_live}
use Rattle.wu_layout.proofs.HomeLemmas.{postings_split}
use Rattle.wu_layout.proofs.TermLemmas.{addresses_of-append}
use Rattle.wu_part.specs.declared.entries.BlockEntry.{BlockEntry}
use Rattle.wu_part.specs.declared.entries.TermEntry.{TermEntry}
use Rattle.wu_part.specs.Directories.{PartDirectory}
use Rattle.wu_lists.specs.declared.blocks.Block.{Block}
use Rattle.wu_lists.specs.Blocks.{blocks_from, blocks_in, blocks_of, entry_of, meets, needed}
use Rattle.wu_lists.specs.Keeping.{Asks, Kept, all_asked, asked, is_same}
use Rattle.wu_parts.specs.Contents.{Contents}
use Rattle.wu_parts.specs.Holdings.{AreKept, HoldParts, all_needed}
use Rattle.wu_parts.specs.Memory.{held}
use Rattle.wu_query.specs.Asked.{blocks_for}
use Rattle.wu_query.specs.Searched.{KeepsBlocks, TellsPostings}
use Rattle.wu_query.specs.States.{State}
use Rattle.wu_query.specs.Units.{found_in}
use Rattle.wu_parts.proofs.HeldParts.{parts_below}

-- ---- what is fetched

are_kept : (content : Content) (next : ℕ) (records : List PartRec) (kept : Kept) → KeepsBlocks content next kept
    → AreKept content records kept
are_kept content next [] kept keeps = tt
are_kept content next (recorded ∷ records) kept keeps =
    ((λ bytes there. keeps.same recorded.blob bytes there), are_kept content next records kept keeps)

-- what is told of all that is fetched of a term, by any function of it, is told of the state's postings
pub found_told : {T : Type 0} (told_of : List ℕ → T) (contents : Contents) (holds : Option Content) (s : State) (frames : List Range)
    (term : List ℕ) (told : T) → TellsPostings contents holds s
    → IfSome holds (λ content. (parts : List Part) → HoldParts content contents.parts contents.directories parts
    → AreKept content contents.parts contents.kept
    → told ≡ told_of (fetched frames (stored_in parts) term ++ filter (is_live frames) (held contents.memory term)))
    → told ≡ told_of (found_in frames s term)
found_told told_of contents None s frames term told tells is = let known = tells.told in absurd (cc)
found_told told_of contents (Some content) s frames term told tells is =
    is s.layout.parts tells.parts (are_kept content s.layout.blob contents.parts contents.kept tells.kept)
    ∙ ap told_of
    (ap (λ (xs : List ℕ). fetched frames (stored_in s.layout.parts) term ++ filter (is_live frames) xs) (tells.memory term)
    ∙ sym (filter-append (is_live frames) (addresses_of term (stored_in s.layout.parts)) (addresses_of term s.layout.memory))
    ∙ ap (filter (is_live frames)) (sym (addresses_of-append term (stored_in s.layout.parts) s.layout.memory))
    ∙ ap (λ (ps : List Posting). fetched frames ps term) (sym (postings_split s.layout.parts s.layout.memory)))

-- ---- the blocks that are asked for are of blobs that were drawn

abbrev AllBelow : ℕ → List Block → Type 0
AllBelow next blocks = AllByRecursion (λ block. block.blob < next) blocks

below-append : (next : ℕ) (xs ys : List Block) → AllBelow next xs → AllBelow next ys → AllBelow next (xs ++ ys)
below-append next [] ys a b = b
below-append next (x ∷ xs) ys a b = (a.0, below-append next xs ys a.1 b)

below-filter : (next : ℕ) (p : Block → Bool) (xs : List Block) → AllBelow next xs → AllBelow next (filter p xs)
below-filter next p [] a = tt
below-filter next p (x ∷ xs) a = elim (p x) as (λ b. AllBelow next (cond b (x ∷ filter p xs) (filter p xs))) [
  | true ↦ (a.0, below-filter next p xs a.1)
  | false ↦ below-filter next p xs a.1
]

below-take : (next n : ℕ) (xs : List Block) → AllBelow next xs → AllBelow next (take n xs)
below-take next zero xs a = tt
below-take next (suc n) [] a = tt
below-take next (suc n) (x ∷ xs) a = (a.0, below-take next n xs a.1)

below-blocks : (next blob low : ℕ) (entries : List BlockEntry) (count : ℕ) → blob < next
    → AllBelow next (blocks_from blob low count entries)
below-blocks next blob low [] count l = tt
below-blocks next blob low (entry ∷ entries) count l = (l, below-blocks next blob low entries _ l)

below-entry : (next blob low : ℕ) (o : Option TermEntry) → blob < next → AllBelow next (blocks_in blob low o)
below-entry next blob low None l = tt
below-entry next blob low (Some entry) l = below-blocks next blob low entry.blocks entry.count l

abbrev RecordedBelow : ℕ → List (PartRec × PartDirectory) → Type 0
RecordedBelow next parts = AllByRecursion (λ part. part.0.blob < next) parts

recorded_below : (next : ℕ) (content : Content) (records : List PartRec) (directories : List PartDirectory) (parts : List Part)
    → AllByRecursion (λ part. part.blob < next) parts → HoldParts content records directories parts
    → RecordedBelow next (zip records directories)
recorded_below next content [] [] [] below held = tt
recorded_below next content [] [] (part ∷ parts) below held = tt
recorded_below next content [] (directory ∷ directories) parts below held = tt
recorded_below next content (recorded ∷ records) [] parts below held = tt
recorded_below next content (recorded ∷ records) (directory ∷ directories) [] below held = absurd held
recorded_below next content (recorded ∷ records) (directory ∷ directories) (part ∷ parts) below held =
    (omega (arith, below.0, held.0.record_of.blob), recorded_below next content records directories parts below.1 held.1)

below-needed : (next : ℕ) (parts : List (PartRec × PartDirectory)) (term : List ℕ) (frames : List Range) → RecordedBelow next parts
    → AllBelow next (all_needed parts term frames)
below-needed next [] term frames below = tt
below-needed next (part ∷ parts) term frames below =
    below-append next (needed part.0.blob part.1 term frames) (all_needed parts term frames)
    (below-filter next (meets frames) (blocks_of part.0.blob part.1 term)
    (below-entry next part.0.blob part.1.low (entry_of part.1.terms term) below.0))
    (below-needed next parts term frames below.1)

below-asked : (next capacity : ℕ) (kept blocks : List Block) → AllBelow next kept → AllBelow next blocks
    → AllBelow next (all_asked capacity kept blocks)
below-asked next capacity kept [] a b = a
below-asked next capacity kept (block ∷ blocks) a b =
    below-asked next capacity (asked capacity kept block) blocks
    (below-take next capacity (block ∷ filter (λ other. not (is_same block other)) kept)
    (b.0, below-filter next (λ other. not (is_same block other)) kept a))
    b.1

keys_below : (next : ℕ) (entries : List (Block × List ℕ)) → AllByRecursion (λ entry. entry.0.blob < next) entries
    → AllBelow next (keys_of entries)
keys_below next [] a = tt
keys_below next (entry ∷ entries) a = (a.0, keys_below next entries a.1)

below_keys : (next : ℕ) (entries : List (Block × List ℕ)) → AllBelow next (keys_of entries)
    → AllByRecursion (λ entry. entry.0.blob < next) entries
below_keys next [] a = tt
below_keys next (entry ∷ entries) a = (a.0, below_keys next entries a.1)

module _ (contents : Contents) (frames : List Range) where
  below-for : (next : ℕ) (terms : List (List ℕ)) → RecordedBelow next (zip contents.parts contents.directories)
      → AllBelow next (blocks_for contents frames terms)
  below-for next [] below = tt
  below-for next (term ∷ terms) below =
      below-append next (all_needed (zip contents.parts contents.directories) term frames) (blocks_for contents frames terms)
      (below-needed next (zip contents.parts contents.directories) term frames below) (below-for next terms below)

  pub blocks_kept : (terms : List (List ℕ)) (kept : Kept) (s : State) (holds : Option Content)
      (ranges ranges_now : Option (List ReadRange)) → TellsPostings contents holds s
      → Asks (blocks_for contents frames terms) holds contents.kept kept ranges ranges_now
      → IfSome holds (λ content. KeepsBlocks content s.layout.blob kept)
  blocks_kept terms kept s None ranges ranges_now tells asks = tt
  blocks_kept terms kept s (Some content) ranges ranges_now tells asks =
      let next = s.layout.blob in
      let recorded = recorded_below next content contents.parts contents.directories s.layout.parts
      (parts_below next s.layout.files s.layout.parts s.layout.check s.layout.stale tells.is_state.layout.blobs) tells.parts in
      let keys : AllBelow next (keys_of kept.entries) =
      subst (AllBelow next) (sym asks.kept)
      (below-asked next contents.kept.cap (keys_of contents.kept.entries) (blocks_for contents frames terms)
      (keys_below next contents.kept.entries tells.kept.below) (below-for next terms recorded)) in
      record {
        below = below_keys next kept.entries keys;
        same = λ blob bytes there. asks.held blob bytes there (tells.kept.same blob bytes there);
      }

  -- while blocks are kept the postings are told
  pub still_told : (terms : List (List ℕ)) (kept : Kept) (now : Contents) (s : State) (holds : Option Content)
      (ranges ranges_now : Option (List ReadRange)) → now ≡ record contents { kept = kept } → TellsPostings contents holds s
      → Asks (blocks_for contents frames terms) holds contents.kept kept ranges ranges_now
      → TellsPostings now holds s
  still_told terms kept now s holds ranges ranges_now is tells asks =
      subst (λ (c : Contents). TellsPostings c holds s) (sym is)
      (record {
        is_state = tells.is_state;
        memory = tells.memory;
        told = tells.told;
        parts = tells.parts;
        kept = blocks_kept terms kept s holds ranges ranges_now tells asks;
      })

-- ---- term by term

pub for-append : (contents : Contents) (frames : List Range) (xs ys : List (List ℕ))
    → blocks_for contents frames (xs ++ ys) ≡ blocks_for contents frames xs ++ blocks_for contents frames ys
for-append contents frames [] ys = refl
for-append contents frames (x ∷ xs) ys =
    ap (λ (bs : List Block). all_needed (zip contents.parts contents.directories) x frames ++ bs) (for-append contents frames xs ys)
    ∙ sym (append_assoc (all_needed (zip contents.parts contents.directories) x frames) (blocks_for contents frames xs)
    (blocks_for contents frames ys))

-- of one term
pub blocks_of_one : (contents : Contents) (frames : List Range) (term : List ℕ)
    → all_needed (zip contents.parts contents.directories) term frames ≡ blocks_for contents frames (term ∷ [])
blocks_of_one contents frames term = sym (append-nil (all_needed (zip contents.parts contents.directories) term frames))
