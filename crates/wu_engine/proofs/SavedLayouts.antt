-- What a state keeps satisfies the rules of a checkpoint, where nothing is in memory.
use Rattle.std.proofs.Common.{◌≡◌, ℕ, ◌≤◌, true, List, [], ◌∷◌, map, Some, refl, subst, arith}
use Rattle.std.specs.List.{AllByRecursion, list_any}
use Rattle.wu_base.specs.declared.addresses.PartRec.{PartRec}
use Rattle.wu_base.specs.declared.limits.TheConstants.{ADDRESSES_MAX, GENERATION_MAX}
use Rattle.wu_base.proofs.MapEntries.{all_found}
use Rattle.wu_outside.specs.Content.{Content}
use Rattle.wu_layout.specs.Postings.{Ascend}
use Rattle.wu_layout.specs.Layouts.{FileEntry, entry_of, homes_of, postings_of, stored_in}
use Rattle.wu_layout.specs.Invariants.{HasText, IsIndexed, SomeOf}
use Rattle.wu_layout.proofs.EntryLemmas.{IfSome-found}
use Rattle.wu_layout.proofs.HomeLemmas.{postings_split}
use Rattle.wu_layout.proofs.LiveCounts.{spans_ascend}
use Rattle.wu_layout.proofs.PostingLemmas.{Ascend-below, Ascend-bounds, Ascend-split}
use Rattle.wu_part.specs.Directories.{PartDirectory}
use Rattle.wu_parts.specs.Holdings.{HoldParts}
use Rattle.wu_parts.proofs.HeldParts.{hold-blobs}
use Rattle.wu_image.specs.Checkpoints.{file_numbers}
use Rattle.wu_image.specs.LayoutRules.{AreLayoutRules, lies_in}
use Rattle.wu_query.specs.Records.{records_of}
use Rattle.wu_query.specs.States.{State, IsState, indexed, text_in}
use Rattle.wu_engine.proofs.SavedBlobs.{named_distinct, named_drawn}
use Rattle.wu_engine.proofs.SavedSpans.{flushes_recorded, generations_recorded, generations_up_to, home_recorded, live_stored}
use Rattle.wu_engine.proofs.SavedSpans.{parts_recorded, spans_recorded}
use Rattle.wu_engine.proofs.SavedTexts.{file_records, in_one_file, numbers_are_files, texts_recorded, two_tokens}

-- the addresses of the parts ascend, and are below the next
stored_ascend : (s : State) → IsState s → Ascend 0 s.layout.next (stored_in s.layout.parts)
stored_ascend s is =
    let split =
    Ascend-split 0 s.layout.next (stored_in s.layout.parts) s.layout.memory
    (subst (λ ps. Ascend 0 s.layout.next ps) (postings_split s.layout.parts s.layout.memory) is.layout.addresses.ascend) in
    Ascend-below 0 split.0 s.layout.next (stored_in s.layout.parts)
    (Ascend-bounds split.0 s.layout.next s.layout.memory split.1.1) split.1.0

module _ (s : State) (content : Content) (records : List PartRec) (directories : List PartDirectory) (is : IsState s)
    (empty : s.layout.memory ≡ []) (held : HoldParts content records directories s.layout.parts) where
  file_home : (file : ℕ × FileEntry) → entry_of s.layout.files file.0 ≡ Some file.1
      → list_any (λ part. lies_in file.1.range part) records ≡ true
  file_home file found =
      let text : List ℕ = text_in s.texts file.0 in
      let i : IsIndexed (indexed text) file.1 (homes_of s.layout.parts s.layout.memory) (postings_of s.layout.parts s.layout.memory) =
      IfSome-found
      (λ entry. IsIndexed (indexed text) entry (homes_of s.layout.parts s.layout.memory) (postings_of s.layout.parts s.layout.memory))
      (entry_of s.layout.files file.0) file.1 found (is.layout.texts.each file.0) in
      home_recorded (indexed text) file.1.range i.long (omega (arith, i.long, two_tokens text)) content records directories s.layout.parts 0
      s.layout.next is.layout.addresses.filled (stored_ascend s is) held
      (subst (λ memory. SomeOf (HasText (indexed text) file.1.range) (homes_of s.layout.parts memory)) empty i.home)

  homes_of_files : (files : List (ℕ × FileEntry)) → AllByRecursion (λ e. entry_of s.layout.files e.0 ≡ Some e.1) files
      → AllByRecursion (λ file. list_any (λ part. lies_in file.range part) records ≡ true) (file_records s.texts files)
  homes_of_files [] a = tt
  homes_of_files (file ∷ files) a = (file_home file a.0, homes_of_files files a.1)

-- the records of files and parts keep the rules of a checkpoint
pub saved_rules : (s : State) (content : Content) (records : List PartRec) (directories : List PartDirectory) (blob : ℕ) → IsState s
    → s.layout.memory ≡ [] → s.layout.next ≤ ADDRESSES_MAX → s.layout.blob ≤ blob → HoldParts content records directories s.layout.parts
    → AreLayoutRules s.layout.next blob s.layout.flushes (map (λ file. file.1) (records_of s.texts s.layout.files)) records
saved_rules s content records directories blob is empty few later held = record {
  texts = texts_recorded s is;
  apart = in_one_file _ s.layout.next s.layout.files is.layout.ranges s.texts;
  spans =
      spans_recorded content 0 s.layout.next records directories s.layout.parts
      (spans_ascend 0 s.layout.next s.layout.parts (stored_ascend s is) is.layout.addresses.filled) held;
  generations =
      generations_recorded content GENERATION_MAX records directories s.layout.parts
      (generations_up_to content records directories s.layout.parts held) is.layout.generations.never_rise held;
  parts_hold = parts_recorded content records directories s.layout.parts held;
  homes = homes_of_files s content records directories is empty held s.layout.files (all_found s.layout.files is.layout.ranges.by_number);
  stored =
      live_stored _ _ s.layout content s.texts is.layout [] s.layout.parts records directories 0 s.layout.next refl
      is.layout.addresses.filled (stored_ascend s is) held;
  distinct =
      named_distinct s.texts s.layout.blob s.layout.files s.layout.parts s.layout.check s.layout.stale is.layout.blobs records
      (hold-blobs content records directories s.layout.parts held);
  drawn =
      named_drawn s.texts s.layout.blob s.layout.files s.layout.parts s.layout.check s.layout.stale is.layout.blobs records
      (hold-blobs content records directories s.layout.parts held) blob later;
  flushed = omega (arith, flushes_recorded content records directories s.layout.parts held, is.layout.generations.flushed);
  few = omega (arith, is.layout.generations.placed, few);
}

-- the files are the tree's regular files, in the same order
pub saved_files : (s : State) → IsState s
    → map (λ file. file.ino) (map (λ f. f.1) (records_of s.texts s.layout.files)) ≡ file_numbers s.tree.nodes
saved_files s is = numbers_are_files s is
