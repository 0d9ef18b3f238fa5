-- What is left of the blobs that a store held before some number was drawn, call by call.
use Rattle.std.proofs.Common.{◌≡◌, ◌⊎◌, inl, inr, ℕ, ◌+◌, ◌≤◌, ◌==◌, true, false, cond, List, [], ◌∷◌, refl, ap, sym, ◌∙◌, subst, arith}
use Rattle.std.proofs.Common.{⊎_elim}
use Rattle.std.specs.Prelude.{Option, Some, None, IfSome, option_map}
use Rattle.wu_outside.specs.Content.{Content, MayDo, with_blob, with_root}
use Rattle.wu_layout.specs.Postings.{Posting}
use Rattle.wu_tree.specs.FileSystems.{FileSystem}
use Rattle.wu_space.specs.Addresses.{Addresses}
use Rattle.wu_parts.specs.Contents.{Contents}
use Rattle.wu_parts.specs.Flushing.{Flushes, Told}
use Rattle.wu_parts.specs.Memory.{HasPostings}
use Rattle.wu_image.specs.declared.roots.Root.{Root}
use Rattle.wu_image.specs.Roots.{SpellsRoot}
use Rattle.wu_image.proofs.RootLemmas.{same_root}
use Rattle.wu_query.specs.Records.{Records}
use Rattle.wu_engine.specs.Earlier.{IsSameOrRemoved, LeavesEarlier}
use Rattle.wu_engine.specs.Opened.{FindsRoot}
use Rattle.wu_engine.specs.Opening.{HasRoot}
use Rattle.wu_engine.specs.Puts.{MayPut}
use Rattle.wu_engine.specs.Saving.{removed_by_save}
use Rattle.wu_engine.specs.SavedStores.{IsFlushed, IsPrepared, Saves, SomeDone, StopsSave, remove_blob, with_checkpoint, with_new_root}
use Rattle.wu_engine.specs.Stands.{KeepsOthers}
use Rattle.wu_engine.proofs.OtherBlobs.{others_put}
use Rattle.wu_engine.proofs.SavedContents.{all_some}
use Rattle.wu_engine.proofs.SavedCrashes.{prepared_of}
use Rattle.wu_engine.proofs.SoundLemmas.{numbers_left}

-- ---- one thing after another

pub earlier_same : (low : ℕ) (told : Option Content) → LeavesEarlier low told told
earlier_same low None = tt
earlier_same low (Some content) = inl (record { root = refl; blobs = λ blob l. refl })

was_then : (before between after : Content) (blob : ℕ) → IsSameOrRemoved before between blob → IsSameOrRemoved between after blob
    → IsSameOrRemoved before after blob
was_then before between after blob (inl first) (inl second) = inl (second ∙ first)
was_then before between after blob (inr gone) (inl second) = inr (second ∙ gone)
was_then before between after blob first (inr gone) = inr gone

content_then : (low least : ℕ) (before between after : Content) → low ≤ least
    → LeavesEarlier low (Some before) (Some between) → LeavesEarlier least (Some between) (Some after)
    → LeavesEarlier low (Some before) (Some after)
content_then low least before between after l (inl a) (inl b) = inl (record {
  root = b.root ∙ a.root;
  blobs = λ blob below. b.blobs blob (omega (arith, below, l)) ∙ a.blobs blob below;
})
content_then low least before between after l (inl a) (inr b) = inr (record {
  root = b.root;
  there = b.there;
  later = omega (arith, b.later, l);
  blobs = λ blob below.
      was_then before between after blob (inl (a.blobs blob below)) (b.blobs blob (omega (arith, below, l)));
})
content_then low least before between after l (inr a) (inl b) = inr (record {
  root = a.root;
  there = record { code = a.there.code; there = b.root ∙ a.there.there; spelled = a.there.spelled };
  later = a.later;
  blobs = λ blob below.
      was_then before between after blob (a.blobs blob below) (inl (b.blobs blob (omega (arith, below, l))));
})
content_then low least before between after l (inr a) (inr b) = inr (record {
  root = b.root;
  there = b.there;
  later = omega (arith, b.later, l);
  blobs = λ blob below. was_then before between after blob (a.blobs blob below) (b.blobs blob (omega (arith, below, l)));
})

pub earlier_then : (low least : ℕ) (before between after : Option Content) → low ≤ least → LeavesEarlier low before between
    → LeavesEarlier least between after → LeavesEarlier low before after
earlier_then low least None None None l a b = tt
earlier_then low least None None (Some after) l a b = b
earlier_then low least None (Some between) after l a b = absurd a
earlier_then low least (Some before) None after l a b = absurd a
earlier_then low least (Some before) (Some between) None l a b = b
earlier_then low least (Some before) (Some between) (Some after) l a b = content_then low least before between after l a b

pub earlier_others : (low high : ℕ) (before after : Option Content) → KeepsOthers low high before after → LeavesEarlier low before after
earlier_others low high None None keeps = tt
earlier_others low high None (Some after) keeps = keeps
earlier_others low high (Some before) None keeps = keeps
earlier_others low high (Some before) (Some after) keeps =
    inl (record { root = keeps.1; blobs = λ blob below. keeps.0 blob (inl below) })

-- ---- one call

earlier_put : (low number : ℕ) (before after : Option Content) → low ≤ number
    → MayPut number before after → LeavesEarlier low before after
earlier_put low number before after l may =
    earlier_others low (number + 1) before after (others_put low (number + 1) number before after l (omega arith) may)

root_set : (low : ℕ) (root : Root) (code : List ℕ) → SpellsRoot root code → low ≤ root.checkpoint → (told : Option Content)
    → LeavesEarlier low told (option_map (with_root code) told)
root_set low root code spelled later None = tt
root_set low root code spelled later (Some content) = inr (record {
  root = root;
  there = record { code = code; there = refl; spelled = spelled };
  later = later;
  blobs = λ blob below. inl refl;
})

earlier_root : (low : ℕ) (root : Root) (code : List ℕ) → SpellsRoot root code → low ≤ root.checkpoint → (before after : Option Content)
    → MayDo (with_root code) before after → LeavesEarlier low before after
earlier_root low root code spelled later before after may =
    ⊎_elim
    (λ same. subst (LeavesEarlier low before) (sym same) (earlier_same low before))
    (λ done. subst (LeavesEarlier low before) (sym done) (root_set low root code spelled later before))
    may

-- ---- removals, once a later root was set

abbrev TellsRoot : Root → Option Content → Type 0
TellsRoot root told = IfSome told (λ content. HasRoot content root)

root_told : (root : Root) (code : List ℕ) → SpellsRoot root code → (told : Option Content)
    → TellsRoot root (option_map (with_root code) told)
root_told root code spelled None = tt
root_told root code spelled (Some content) = record { code = code; there = refl; spelled = spelled }

root_stays : (root : Root) (blob : ℕ) (told : Option Content) → TellsRoot root told → TellsRoot root (option_map (remove_blob blob) told)
root_stays root blob None has = tt
root_stays root blob (Some content) has = record { code = has.code; there = has.there; spelled = has.spelled }

one_removed : (low : ℕ) (root : Root) (blob : ℕ) → low ≤ root.checkpoint → (told : Option Content) → TellsRoot root told
    → LeavesEarlier low told (option_map (remove_blob blob) told)
one_removed low root blob later None has = tt
one_removed low root blob later (Some content) has = inr (record {
  root = root;
  there = root_stays root blob (Some content) has;
  later = later;
  blobs = λ number below. left number;
})
  where
    left : (number : ℕ) → IsSameOrRemoved content (remove_blob blob content) number
    left number =
        elim (number == blob) as
        (λ b. (cond b None (content.blobs number) ≡ content.blobs number) ⊎ (cond b None (content.blobs number) ≡ None)) [
          | true ↦ inr refl
          | false ↦ inl refl
        ]

some_removed : (gone : List ℕ) (low : ℕ) (root : Root) → low ≤ root.checkpoint → (before after : Option Content)
    → TellsRoot root before → SomeDone remove_blob gone before after → LeavesEarlier low before after
some_removed [] low root later before after has same = subst (LeavesEarlier low before) (sym same) (earlier_same low before)
some_removed (blob ∷ gone) low root later before after has some =
    let next : Option Content = option_map (remove_blob blob) before in
    ⊎_elim
    (λ same. subst (LeavesEarlier low before) (sym same) (earlier_same low before))
    (λ more.
    earlier_then low low before next after (omega arith) (one_removed low root blob later before has)
    (some_removed gone low root later next after (root_stays root blob before has) more))
    some

-- ---- a save, as far as it came

module _ (tree : FileSystem) (space : Addresses) (files : Records) (checkpoint : ℕ) (old : Contents) (before : Told)
    (low high : ℕ) (postings : List Posting) (memory : HasPostings low high old.memory postings) where
  flush_done : (live : List Posting) (new : Contents) (after : Told) → Flushes live old new before after
      → LeavesEarlier old.next_blob before.0 after.0
  flush_done [] new after done =
      subst (λ (t : Told). LeavesEarlier old.next_blob before.0 t.0) (sym done.1) (earlier_same old.next_blob before.0)
  flush_done (posting ∷ live) new after done =
      subst (λ (t : Told). LeavesEarlier old.next_blob before.0 t.0) (sym done.stored)
      (earlier_put old.next_blob old.next_blob before.0 (option_map (with_blob old.next_blob (Some done.bytes)) before.0) (omega arith)
      (Some done.bytes, inr refl))

  after_flush : (first : IsFlushed space old before) → LeavesEarlier old.next_blob before.0 first.between.0
  after_flush first = flush_done _ first.flushed first.between (first.flush low high postings memory)

  at_checkpoint : (first : IsFlushed space old before) (after : Option Content)
      → MayPut first.flushed.next_blob first.between.0 after
      → LeavesEarlier old.next_blob before.0 after
  at_checkpoint first after may =
      earlier_then old.next_blob old.next_blob before.0 first.between.0 after (omega arith) (after_flush first)
      (earlier_put old.next_blob first.flushed.next_blob first.between.0 after (numbers_left old first.flushed first.changes).least may)

  at_root : (prepared : IsPrepared tree space files old before) (after : Option Content)
      → MayDo (with_root prepared.root) (with_checkpoint prepared).0 after → LeavesEarlier old.next_blob before.0 after
  at_root prepared after may =
      let put : Option Content = (with_checkpoint prepared).0 in
      earlier_then old.next_blob old.next_blob before.0 put after (omega arith)
      (at_checkpoint prepared.first put (Some prepared.bytes, inr refl))
      (earlier_root old.next_blob _ prepared.root prepared.root_spelled
      (numbers_left old prepared.first.flushed prepared.first.changes).least put after may)

  at_removals : (prepared : IsPrepared tree space files old before) (after : Option Content)
      → SomeDone remove_blob (removed_by_save prepared.first.flushed checkpoint) (with_new_root prepared).0 after
      → LeavesEarlier old.next_blob before.0 after
  at_removals prepared after some =
      let rooted : Option Content = (with_new_root prepared).0 in
      earlier_then old.next_blob old.next_blob before.0 rooted after (omega arith) (at_root prepared rooted (inr refl))
      (some_removed (removed_by_save prepared.first.flushed checkpoint) old.next_blob _
      (numbers_left old prepared.first.flushed prepared.first.changes).least rooted after
      (root_told _ prepared.root prepared.root_spelled (with_checkpoint prepared).0) some)

  pub stopped_earlier : (after : Told) → StopsSave tree space files checkpoint old before after
      → LeavesEarlier old.next_blob before.0 after.0
  stopped_earlier after (inl tries) = earlier_put old.next_blob old.next_blob before.0 after.0 (omega arith) tries.held
  stopped_earlier after (inr (inl (first, tries))) = at_checkpoint first after.0 tries.held
  stopped_earlier after (inr (inr (inl (prepared, tries)))) = at_root prepared after.0 tries.held
  stopped_earlier after (inr (inr (inr (prepared, tries)))) = at_removals prepared after.0 tries.held

  pub saved_earlier : (blob : ℕ) (new : Contents) (after : Told) → Saves tree space files checkpoint blob old new before after
      → LeavesEarlier old.next_blob before.0 after.0
  saved_earlier blob new after saves =
      let prepared : IsPrepared tree space files old before = prepared_of tree space files checkpoint blob old new before after saves in
      let gone : List ℕ = removed_by_save saves.flushed checkpoint in
      at_removals prepared after.0
      (subst (SomeDone remove_blob gone (with_new_root prepared).0) (sym saves.stored)
      (all_some remove_blob gone (with_new_root prepared).0))

-- ---- the next number at opening

-- the content has one root
pub root_again : (content : Content) (root other : Root) → HasRoot content root → HasRoot content other → root ≡ other
root_again content root other has its =
    let same : Some has.code ≡ Some its.code = sym has.there ∙ its.there in
    let code : has.code ≡ its.code = cc in
    same_root root other its.code (subst (SpellsRoot root) code has.spelled) its.spelled

pub drawn_by_root : (holds : Option Content) (root : Root) (next : ℕ) → IfSome holds (FindsRoot (Some root)) → next ≡ root.next_blob
    → IfSome holds (λ content. (other : Root) → HasRoot content other → next ≡ other.next_blob)
drawn_by_root None root next found same = tt
drawn_by_root (Some content) root next found same = λ other has.
    same ∙ ap (λ (r : Root). r.next_blob) (root_again content root other found.has has)

pub drawn_without : (holds : Option Content) (next : ℕ) → IfSome holds (FindsRoot None)
    → IfSome holds (λ content. (root : Root) → HasRoot content root → next ≡ root.next_blob)
drawn_without None next found = tt
drawn_without (Some content) next found = λ root has. let never : None ≡ Some has.code = sym found ∙ has.there in absurd cc
