-- One block that is asked for: what is found, kept and read.
use Rattle.std.proofs.Common.{◌≡◌, ℕ, ◌+◌, ◌≤◌, Bool, true, false, cond, List, [], ◌∷◌, ◌++◌, filter, refl, ap, sym, ◌∙◌, subst, arith}
use Rattle.std.specs.Prelude.{Option, None, Some, IfSome}
use Rattle.std.specs.List.{AllByRecursion, list_any}
use Rattle.std.specs.Map.{keys_of}
use Rattle.std.proofs.lemmas.Option.{same_Some}
use Rattle.wu_base.specs.declared.addresses.Range.{Range}
use Rattle.wu_base.proofs.EachLemmas.{each-filter}
use Rattle.wu_layout.specs.Postings.{is_live}
use Rattle.wu_outside.specs.Content.{Content}
use Rattle.wu_outside.specs.declared.ranges.ReadRange.{ReadRange}
use Rattle.wu_vbyte.proofs.BlockLemmas.{block_same}
use Rattle.wu_lists.specs.declared.blocks.Block.{Block}
use Rattle.wu_lists.specs.Ascending.{AscendBetween}
use Rattle.wu_lists.specs.Blocks.{HasBytes, IsSpelledIn, IsSpelling, bytes_of, meets}
use Rattle.wu_lists.specs.Fetching.{AreFetched, AreGathered, HasBlock}
use Rattle.wu_lists.specs.Gaining.{Gains}
use Rattle.wu_lists.specs.Keeping.{AreHeld, Asks, Kept, StaysHeld, all_missing, asked, is_same}
use Rattle.wu_lists.proofs.Ascending.{ascend-filter}
use Rattle.wu_lists.proofs.Asking.{ranges-none, stays, with_ranges}
use Rattle.wu_lists.proofs.Caching.{missing-none, missing-one}
use Rattle.wu_lists.proofs.Spans.{none_live, spelled_ascend}

-- ---- what is found

module _ (X : Type 0) (Gain : List ℕ → X → X → Type 0) (block : Block) (frames : List Range) (holds : Option Content) (kept : Kept) where
  abbrev Found : List ℕ → Type 0
  Found = AreGathered (HasBlock block) frames block.blob block.first (block.last + 1) holds kept

  -- of a block that frames don't need
  pub gathered-none : (found : X) → Gain [] found found → block.first ≤ block.last → meets frames block ≡ false
      → Gains Gain Found found found
  gathered-none found none span missed = record {
    more = [];
    gained = none;
    kind = record { ascend = omega arith; told = nothing holds };
  }
    where
      nothing : (holds : Option Content) → IfSome holds (λ content. (bytes addresses : List ℕ) → content.blobs block.blob ≡ Some bytes
          → AreHeld block.blob bytes kept → HasBlock block bytes addresses → [] ≡ filter (is_live frames) addresses)
      nothing None = tt
      nothing (Some content) = λ bytes addresses there held has.
          sym (none_live frames block block.first addresses missed (omega arith)
          (spelled_ascend block addresses (bytes_of block bytes) has))

  -- of one whose addresses these are
  pub gathered-some : (found after : X) (addresses : List ℕ) → AscendBetween block.first (block.last + 1) addresses
      → IfSome holds (λ content. (bytes : List ℕ) → content.blobs block.blob ≡ Some bytes → AreHeld block.blob bytes kept
      → IsSpelling block addresses (bytes_of block bytes))
      → Gain addresses found after → Gains Gain Found found after
  gathered-some found after addresses up told gained = record {
    more = addresses;
    gained = gained;
    kind = record { ascend = up; told = same holds told };
  }
    where
      same : (holds : Option Content)
          → IfSome holds (λ content. (bytes : List ℕ) → content.blobs block.blob ≡ Some bytes → AreHeld block.blob bytes kept
          → IsSpelling block addresses (bytes_of block bytes))
          → IfSome holds (λ content. (bytes others : List ℕ) → content.blobs block.blob ≡ Some bytes
          → AreHeld block.blob bytes kept → HasBlock block bytes others
          → filter (is_live frames) addresses ≡ filter (is_live frames) others)
      same None t = tt
      same (Some content) t = λ bytes others there held has.
          let s = t bytes there held in
          ap (filter (is_live frames)) (block_same block.low addresses others (bytes_of block bytes) s.spelled has.spelled)

-- those of gathered addresses that lie in the frames are what is fetched
pub fetched-from_gathered : (Has : List ℕ → List ℕ → Type 0) (frames : List Range) (blob low high : ℕ) (holds : Option Content) (kept : Kept)
    (gathered : List ℕ) → AreGathered Has frames blob low high holds kept gathered
    → AreFetched Has frames blob low high holds kept (filter (is_live frames) gathered)
fetched-from_gathered Has frames blob low high holds kept gathered g = record {
  ascend = ascend-filter (is_live frames) low high gathered g.ascend;
  live = each-filter (is_live frames) gathered;
  told = g.told;
}

-- ---- what is kept and read

pub needed-one : (frames : List Range) (block : Block) → meets frames block ≡ true → filter (meets frames) (block ∷ []) ≡ block ∷ []
needed-one frames block e = ap (λ (b : Bool). cond b (block ∷ []) []) e

pub needed-nothing : (frames : List Range) (block : Block) → meets frames block ≡ false → filter (meets frames) (block ∷ []) ≡ []
needed-nothing frames block e = ap (λ (b : Bool). cond b (block ∷ []) []) e

module _ (block : Block) (old : Kept) where
  pub missed-none : list_any (is_same block) (keys_of old.entries) ≡ true → all_missing old.cap (keys_of old.entries) (block ∷ []) ≡ []
  missed-none there = ap (λ (bs : List Block). bs ++ []) (missing-none (keys_of old.entries) block there)

  pub missed-one : list_any (is_same block) (keys_of old.entries) ≡ false
      → all_missing old.cap (keys_of old.entries) (block ∷ []) ≡ block ∷ []
  missed-one absent = ap (λ (bs : List Block). bs ++ []) (missing-one (keys_of old.entries) block absent)

module _ (block : Block) (holds : Option Content) (old new : Kept) (ranges ranges_now : Option (List ReadRange))
    (capacity : new.cap ≡ old.cap) (keys : keys_of new.entries ≡ asked old.cap (keys_of old.entries) block) where
  -- a block that was kept
  pub asks-kept : list_any (is_same block) (keys_of old.entries) ≡ true → ranges_now ≡ ranges
      → ((blob : ℕ) (bytes : List ℕ) → AreHeld blob bytes old → AreHeld blob bytes new)
      → Asks (block ∷ []) holds old new ranges ranges_now
  asks-kept there same held = record {
    capacity = capacity;
    kept = keys;
    read =
        same ∙ ranges-none ranges
        ∙ ap (λ (bs : List Block). with_ranges ranges bs) (sym (missed-none block old there));
    spelled = nothing-spelled holds (all_missing old.cap (keys_of old.entries) (block ∷ [])) (missed-none block old there);
    held = stays holds old new held;
  }
    where
      nothing-spelled : (holds : Option Content) (bs : List Block) → bs ≡ []
          → IfSome holds (λ content. AllByRecursion (IsSpelledIn content) bs)
      nothing-spelled None bs e = tt
      nothing-spelled (Some content) bs e = subst (AllByRecursion (IsSpelledIn content)) (sym e) tt

  -- a block that was read
  pub asks-read : (bytes addresses : List ℕ) → list_any (is_same block) (keys_of old.entries) ≡ false
      → ranges_now ≡ with_ranges ranges (block ∷ [])
      → IfSome holds (λ content. HasBytes content block bytes) → IsSpelling block addresses bytes
      → ((blob : ℕ) (others : List ℕ) → (block.blob ≡ blob → bytes ≡ bytes_of block others) → AreHeld blob others old
      → AreHeld blob others new)
      → Asks (block ∷ []) holds old new ranges ranges_now
  asks-read bytes addresses absent read has spelled held = record {
    capacity = capacity;
    kept = keys;
    read = read ∙ ap (λ (bs : List Block). with_ranges ranges bs) (sym (missed-one block old absent));
    spelled = one-spelled holds (all_missing old.cap (keys_of old.entries) (block ∷ [])) (missed-one block old absent) has;
    held = still holds has;
  }
    where
      one-spelled : (holds : Option Content) (bs : List Block) → bs ≡ block ∷ [] → IfSome holds (λ content. HasBytes content block bytes)
          → IfSome holds (λ content. AllByRecursion (IsSpelledIn content) bs)
      one-spelled None bs e h = tt
      one-spelled (Some content) bs e h =
          subst (AllByRecursion (IsSpelledIn content)) (sym e)
          (record { bytes = bytes; has = h; addresses = addresses; spelled = spelled }, tt)

      still : (holds : Option Content) → IfSome holds (λ content. HasBytes content block bytes) → StaysHeld holds old new
      still None h = tt
      still (Some content) h = λ blob others there before.
          held blob others
          (λ same.
          let blobs : h.blob ≡ others =
          same_Some h.blob others (sym h.there ∙ ap content.blobs same ∙ there) in
          h.same ∙ ap (λ (l : List ℕ). bytes_of block l) blobs)
          before

-- ---- of a result

-- and those of one that stands first among those that are kept
pub told-first : (block : Block) (holds : Option Content) (old new : Kept) (bytes addresses : List ℕ) (later : List (Block × List ℕ))
    → StaysHeld holds old new → new.entries ≡ (block, bytes) ∷ later → IsSpelling block addresses bytes
    → IfSome holds (λ content. (blob : List ℕ) → content.blobs block.blob ≡ Some blob → AreHeld block.blob blob old
    → IsSpelling block addresses (bytes_of block blob))
told-first block None old new bytes addresses later still first spelled = tt
told-first block (Some content) old new bytes addresses later still first spelled = λ blob is held.
    let all : AllByRecursion (λ (entry : Block × List ℕ). entry.0.blob ≡ block.blob → entry.1 ≡ bytes_of entry.0 blob)
    ((block, bytes) ∷ later) =
    subst (AllByRecursion (λ (entry : Block × List ℕ). entry.0.blob ≡ block.blob → entry.1 ≡ bytes_of entry.0 blob)) first
    (still block.blob blob is held) in
    subst (IsSpelling block addresses) (all.0 refl) spelled
