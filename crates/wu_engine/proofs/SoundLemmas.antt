-- What an engine keeps, whatever is asked of it, it keeps with each accepted event.
use Rattle.std.proofs.Common.{◌≡◌, ◌⊎◌, inl, inr, ℕ, ◌+◌, ◌≤◌, ◌==◌, List, [], length, Bool, true, false, cond, refl, ap, sym, ◌∙◌, subst}
use Rattle.std.proofs.Common.{arith, length-append}
use Rattle.std.specs.Prelude.{Option, Some, None, Ok, IfSome}
use Rattle.std.specs.Ordering.{nat_cmp}
use Rattle.std.specs.Cmp.{nat_cmp_total}
use Rattle.std.specs.List.{AllByRecursion}
use Rattle.std.specs.List.Sorted.{IsStrictlySortedBy}
use Rattle.std.specs.Map.{keys_of}
use Rattle.std.specs.BTreeMap.{is_at}
use Rattle.wu_base.specs.declared.limits.TheConstants.{ADDRESSES_MAX, TEXT_MAX}
use Rattle.wu_base.proofs.MapEntries.{ascend-insert_entry, ascend-remove_entry}
use Rattle.wu_token.specs.Tokens.{tokens_of}
use Rattle.wu_tree.specs.declared.events.Event.{Event}
use Rattle.wu_tree.specs.declared.events.Effect.{Effect}
use Rattle.wu_tree.specs.FileSystems.{FileSystem, is_file}
use Rattle.wu_tree.specs.Steps.{step as tree_step}
use Rattle.wu_tree.specs.Effects.{TellsFiles}
use Rattle.wu_tree.proofs.EventRules.{absent}
use Rattle.wu_space.specs.Addresses.{Addresses, range_of}
use Rattle.wu_parts.specs.Memory.{Gains}
use Rattle.wu_parts.specs.Contents.{Contents}
use Rattle.wu_parts.specs.Flushing.{EmptiesMemory, Told}
use Rattle.wu_parts.proofs.Gaining.{end_within}
use Rattle.wu_frames.specs.UserFrames.{Kept}
use Rattle.wu_query.specs.Records.{Records, recorded_ranges}
use Rattle.wu_query.specs.Soundness.{IsSound, IsRecord}
use Rattle.wu_engine.specs.Stands.{taken_by}
use Rattle.wu_engine.specs.Indexing.{Follows, IsIndexable, Catalog, KeepsParts, blob_for, drawn_for, catalog_of, catalog_made}
use Rattle.wu_engine.specs.Indexing.{catalog_after, catalog_without, terms_given, terms_after, with_file, without_file, space_made}
use Rattle.wu_engine.specs.Indexing.{space_after}
use Rattle.wu_engine.proofs.NumberedEntries.{is_that, has, has-put, has-removed}
use Rattle.wu_engine.proofs.KeptStates.{taken_with, taken-effect}
use Rattle.wu_engine.proofs.FileChanges.{ChangesFiles, changes, files_without, files-after, files-texted}
use Rattle.wu_engine.proofs.StateLayouts.{not_there}
use Rattle.wu_engine.proofs.IndexLemmas.{next-with_file, next-without_file}
use Rattle.wu_engine.proofs.RecordLemmas.{ranges-with, ranges-without, records-with, records-without, stored-with_bytes}

some_if : (o : Option ℕ) (P : ℕ → Type 0) → ((ino : ℕ) → o ≡ Some ino → P ino) → IfSome o P
some_if None P f = tt
some_if (Some ino) P f = f ino refl

abbrev pub Ascend : Addresses → Type 0
Ascend space = IsStrictlySortedBy nat_cmp (keys_of space.ranges)

-- ---- one change

module _ (o : Option ℕ) (space : Addresses) where
  -- each proof by cases of `o` goes through `at`, since `o` is fixed here
  pub ascend_left : Ascend space → Ascend (without_file o space)
  ascend_left s = elim o as (λ p. Ascend (without_file p space)) [
    | None ↦ s
    | Some ino ↦ ascend-remove_entry nat_cmp (is_at (nat_cmp ino)) space.ranges s
  ]

  has_left : Ascend space → (q : ℕ) → has (without_file o space).ranges q ≡ cond (is_that o q) false (has space.ranges q)
  has_left s q = elim o as (λ p. has (without_file p space).ranges q ≡ cond (is_that p q) false (has space.ranges q)) [
    | None ↦ refl
    | Some ino ↦ has-removed space.ranges ino s q
  ]

  module _ (text : List ℕ) where
    pub ascend_given : Ascend space → Ascend (with_file o text space)
    ascend_given s = elim o as (λ p. Ascend (with_file p text space)) [
      | None ↦ s
      | Some ino ↦ ascend-insert_entry nat_cmp_total space.ranges ino (record { start = space.next; len = length (tokens_of text) }) s
    ]

    has_given : (q : ℕ) → has (with_file o text space).ranges q ≡ cond (is_that o q) true (has space.ranges q)
    has_given q = elim o as (λ p. has (with_file p text space).ranges q ≡ cond (is_that p q) true (has space.ranges q)) [
      | None ↦ refl
      | Some ino ↦ has-put space.ranges ino (record { start = space.next; len = length (tokens_of text) }) q
    ]

put_again : (b c : Bool) → cond b true (cond b false c) ≡ cond b true c
put_again true c = refl
put_again false c = refl

-- ---- an accepted event

pub next-after : (effect : Effect) (text : List ℕ) (space : Addresses)
    → (space_after effect text space).next ≡ space.next + length (terms_after effect text)
next-after effect text space =
    let left : Addresses = without_file effect.dropped space in
    let made : Addresses = space_made effect space in
    let again : Addresses = without_file effect.texted made in
    let a : left.next ≡ space.next = next-without_file effect.dropped space in
    let b : made.next ≡ left.next + length (terms_given effect.made []) = next-with_file effect.made [] left in
    let c : again.next ≡ made.next = next-without_file effect.texted made in
    let d : (with_file effect.texted text again).next ≡ again.next + length (terms_given effect.texted text) =
    next-with_file effect.texted text again in
    omega (arith, length-append (terms_given effect.made []) (terms_given effect.texted text))

-- as many terms are given as the event takes addresses
pub length-terms_after : (fs : FileSystem) (event : Event) (text : List ℕ) (after : FileSystem) (effect : Effect)
    → tree_step fs event ≡ Ok (after, effect) → length (terms_after effect text) ≡ taken_by event text
length-terms_after fs event text after effect e =
    let taken : taken_with effect.made [] + taken_with effect.texted text ≡ taken_by event text =
    subst (λ (f : Effect). taken_with f.made [] + taken_with f.texted text ≡ taken_by event text) (changes fs event after effect e).0
    (taken-effect fs event text) in
    length-append (terms_given effect.made []) (terms_given effect.texted text) ∙ taken

module _ (before after : FileSystem) (effect : Effect) (tells : TellsFiles before effect after) (changed : ChangesFiles before effect)
    (space : Addresses) (parts : Contents) (files : Records) (kept : Kept) (sound : IsSound before space parts files kept)
    (sorted : Ascend space) where
  left_files : (q : ℕ) → has (without_file effect.dropped space).ranges q ≡ files_without effect.dropped (is_file before) q
  left_files q = has_left effect.dropped space sorted q ∙ ap (cond (is_that effect.dropped q) false) (sound.of_files q)

  made_files : (q : ℕ) → has (space_made effect space).ranges q ≡ is_file after q
  made_files q =
      has_given effect.made (without_file effect.dropped space) [] q ∙ ap (cond (is_that effect.made q) true) (left_files q)
      ∙ files-after before after effect tells q

  made_sorted : Ascend (space_made effect space)
  made_sorted = ascend_given effect.made (without_file effect.dropped space) [] (ascend_left effect.dropped space sorted)

  module _ (text : List ℕ) (short : length text ≤ TEXT_MAX) (room : space.next + length (terms_after effect text) ≤ ADDRESSES_MAX) where
    pub indexable : IsIndexable effect text space (drawn_for effect.texted text parts)
    indexable = record {
      dropped = some_if effect.dropped _ (λ q h. sound.of_files q ∙ changed.dropped q h);
      made = some_if effect.made _ (λ q h.
          absent (range_of (without_file effect.dropped space).ranges q)
          (left_files q ∙ not_there effect.dropped (is_file before) q (changed.made q h)));
      texted = some_if effect.texted _ (λ q h. made_files q ∙ tells.text q h);
      short = short;
      below = sound.below;
      room = room;
    }

    files_kept : (q : ℕ) → has (space_after effect text space).ranges q ≡ is_file after q
    files_kept q =
        has_given effect.texted (without_file effect.texted (space_made effect space)) text q
        ∙ ap (cond (is_that effect.texted q) true) (has_left effect.texted (space_made effect space) made_sorted q)
        ∙ put_again (is_that effect.texted q) (has (space_made effect space).ranges q)
        ∙ ap (cond (is_that effect.texted q) true) (made_files q)
        ∙ files-texted before after effect tells q

    module _ (blob : ℕ) (catalog : Catalog) (same : recorded_ranges catalog.files ≡ catalog.space.ranges) where
      ranges_kept : recorded_ranges (catalog_after effect text blob catalog).files ≡ (catalog_after effect text blob catalog).space.ranges
      ranges_kept =
          let made : Catalog = catalog_made effect catalog in
          let of_made : recorded_ranges made.files ≡ made.space.ranges =
          ranges-with (catalog_without effect.dropped catalog) (ranges-without catalog same effect.dropped) effect.made [] 0 in
          ranges-with (catalog_without effect.texted made) (ranges-without made of_made effect.texted) effect.texted text blob

      records_kept : ((ino : ℕ) → effect.texted ≡ Some ino → (blob == 0) ≡ (length text == 0)) → AllByRecursion IsRecord catalog.files
          → AllByRecursion IsRecord (catalog_after effect text blob catalog).files
      records_kept stored all =
          records-with effect.texted text blob _ _ short stored
          (records-without effect.texted _
          (records-with effect.made [] 0 _ _ (omega arith) (λ ino h. refl) (records-without effect.dropped catalog.files all)))

    -- what was drawn, stored and indexed
    module _ (blob : ℕ) (space_now : Addresses) (files_now : Records) (parts_now : Contents)
        (drawn : blob ≡ blob_for effect.texted text parts.next_blob)
        (indexed : catalog_of space_now files_now parts_now
        ≡ catalog_after effect text blob (catalog_of space files (drawn_for effect.texted text parts)))
        (gained : Gains space.next (terms_after effect text) parts.memory parts_now.memory)
        (others : KeepsParts (drawn_for effect.texted text parts) parts_now) where
      pub sound_after : IsSound after space_now parts_now files_now []
      sound_after =
          let catalog : Catalog = catalog_of space files (drawn_for effect.texted text parts) in
          let of_space : space_now ≡ space_after effect text space = ap (λ (k : Catalog). k.space) indexed in
          let of_files : files_now ≡ (catalog_after effect text blob catalog).files = ap (λ (k : Catalog). k.files) indexed in
          let stored : (ino : ℕ) → effect.texted ≡ Some ino → (blob == 0) ≡ (length text == 0) =
          λ ino h. ap (λ (n : ℕ). n == 0) drawn ∙ stored-with_bytes effect.texted text parts.next_blob sound.blobs ino h in
          record {
            of_files = λ q. ap (λ (a : Addresses). has a.ranges q) of_space ∙ files_kept q;
            ranges = ap recorded_ranges of_files ∙ ranges_kept blob catalog sound.ranges ∙ sym (ap (λ (a : Addresses). a.ranges) of_space);
            records = subst (AllByRecursion IsRecord) (sym of_files) (records_kept blob catalog sound.ranges stored sound.records);
            few = omega (arith, ap (λ (a : Addresses). a.next) of_space, next-after effect text space);
            below =
                omega (
                  arith,
                  ap (λ (a : Addresses). a.next) of_space,
                  next-after effect text space,
                  end_within space.next (terms_after effect text) parts.memory parts_now.memory gained sound.below,
                );
            blobs = omega (arith, sound.blobs, ap (λ (c : Contents). c.next_blob) others);
            frames = tt;
          }

-- ---- a flush

-- no address below the end of memory was taken anew, and blob 0 wasn't drawn
pub sound_with : (fs : FileSystem) (space : Addresses) (parts parts_now : Contents) (files : Records) (kept : Kept)
    → parts_now.memory.end ≡ parts.memory.end → parts.next_blob ≤ parts_now.next_blob
    → IsSound fs space parts files kept → IsSound fs space parts_now files kept
sound_with fs space parts parts_now files kept end drawn sound = record {
  of_files = sound.of_files;
  ranges = sound.ranges;
  records = sound.records;
  few = sound.few;
  below = omega (arith, sound.below, end);
  blobs = omega (arith, sound.blobs, drawn);
  frames = sound.frames;
}

-- what a flush leaves of some numbers
pub record LeavesNumbers (parts parts_now : Contents) : Type 0 where
  pub end : parts_now.memory.end ≡ parts.memory.end
  pub least : parts.next_blob ≤ parts_now.next_blob
  pub most : parts_now.next_blob ≤ parts.next_blob + 1
  pub counted : parts_now.flushes + parts.next_blob ≡ parts.flushes + parts_now.next_blob
  pub flush_at : parts_now.flush_at ≡ parts.flush_at
  pub kept : parts_now.kept ≡ parts.kept

pub numbers_left : (parts parts_now : Contents) → EmptiesMemory parts parts_now → LeavesNumbers parts parts_now
numbers_left parts parts_now (inl e) =
    subst (LeavesNumbers parts) (sym e)
    (record { end = refl; least = omega arith; most = omega arith; counted = refl; flush_at = refl; kept = refl })
numbers_left parts parts_now (inr made) =
    subst (LeavesNumbers parts) (sym made.2)
    (record { end = refl; least = omega arith; most = omega arith; counted = omega arith; flush_at = refl; kept = refl })

pub numbers_full : (parts parts_now : Contents) → (parts_now ≡ parts) ⊎ EmptiesMemory parts parts_now → LeavesNumbers parts parts_now
numbers_full parts parts_now (inl e) =
    subst (LeavesNumbers parts) (sym e)
    (record { end = refl; least = omega arith; most = omega arith; counted = refl; flush_at = refl; kept = refl })
numbers_full parts parts_now (inr done) = numbers_left parts parts_now done

-- ---- what follows an event

module _ (effect : Effect) (text : List ℕ) (space space_now : Addresses) (files files_now : Records) (parts parts_now : Contents)
    (told told_now : Told) (f : Follows effect text space space_now files files_now parts parts_now told told_now) where
  left : LeavesNumbers f.indexed parts_now
  left = numbers_full f.indexed parts_now f.flushed.changes

  pub next_followed : space_now.next ≡ space.next + length (terms_after effect text)
  next_followed = ap (λ (k : Catalog). k.space.next) f.catalog ∙ next-after effect text space

  module _ (before after : FileSystem) (tells : TellsFiles before effect after) (changed : ChangesFiles before effect) (kept : Kept)
      (sound : IsSound before space parts files kept) (sorted : Ascend space) (short : length text ≤ TEXT_MAX)
      (room : space.next + length (terms_after effect text) ≤ ADDRESSES_MAX) where
    pub sound_followed : IsSound after space_now parts_now files_now []
    sound_followed =
        sound_with after space_now f.indexed parts_now files_now [] left.end left.least
        (sound_after before after effect tells changed space parts files kept sound sorted text short room f.blob space_now files_now
        f.indexed f.drawn f.catalog f.gained f.others)
