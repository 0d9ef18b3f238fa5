-- What is opened of an index, in both versions: what is read, what is kept, and what comes of it.
use Rattle.std.proofs.Common.{◌≡◌, ℕ, ◌≤◌, List, [], ◌∷◌, refl, ap, ◌∙◌, subst, inl, inr, ⊎_elim, arith}
use Rattle.std.specs.Prelude.{Option, Some, None, IfSome}
use Rattle.std.specs.List.{AllByRecursion}
use Rattle.lru.specs.LruCache.{lru_cache}
use Rattle.wu_base.specs.declared.addresses.PartRec.{PartRec}
use Rattle.wu_outside.specs.Content.{Content}
use Rattle.wu_outside.specs.declared.ranges.ReadRange.{ReadRange}
use Rattle.wu_layout.specs.Invariants.{SomeOf}
use Rattle.wu_parts.specs.Contents.{Contents}
use Rattle.wu_parts.specs.Loading.{IsFirstBroken, IsFrontOf, IsLoadCause, IsLoaded, ReadsFronts}
use Rattle.wu_image.specs.declared.checkpoints.Checkpoint.{Checkpoint}
use Rattle.wu_image.specs.declared.roots.Root.{Root}
use Rattle.wu_image.specs.Checkpoints.{IsCheckpoint}
use Rattle.wu_query.specs.Finding.{IsCause}
use Rattle.wu_engine.specs.declared.engines.Engine.{Engine}
use Rattle.wu_engine.specs.Going.{Goes}
use Rattle.wu_engine.specs.Opened.{IsEngineFor, ReadsCheckpoint}
use Rattle.wu_base.specs.declared.troubles.Trouble.{Trouble}
use Rattle.wu_base.specs.declared.troubles.Trouble.TheVariants as troubles
use Rattle.wu_base.specs.declared.troubles.Trouble.TheVariants.{Damaged}
use Rattle.wu_query.specs.Permitted.{ReadsOnly}
use Rattle.wu_query.specs.States.{State}
use Rattle.wu_engine.specs.Opening.{HasCheckpoint, HasOpenRoot, HoldsImage, IsBeginCause, IsDamagedAtOpening, IsIndexDamaged, IsIndexRange}
use Rattle.wu_engine.specs.Opening.{IsOpen, OpensIndex, ReadsAtOpening, fault_of_trouble}
use Rattle.wu_engine.specs.Reindexed.{IsIndexCause, IsIndexOpened, IsReindexed, ReadsIndex}
use Rattle.wu_engine.specs.Reindexing.{IsFirstBrokenText, IsTextOfOne, texts_whole}
use Rattle.wu_engine.specs.Stands.{Stands}
use Rattle.wu_engine.proofs.GoingAtFirst.{reindexed_goes, saved_goes}
use Rattle.wu_engine.proofs.ImageStates.{saved_stands}
use Rattle.wu_engine.proofs.OpenedParts.{end_below}
use Rattle.wu_engine.proofs.OpenedStates.{opens_saved, reads_index}
use Rattle.wu_engine.proofs.ReindexedStates.{reindexed_stands}

-- ---- what is read

each_front : (holds : Option Content) (version : ℕ) (checkpoint : Checkpoint) → version ≡ 2 → (read : List ReadRange)
    → AllByRecursion (λ range. SomeOf (IsFrontOf holds range) checkpoint.parts) read
    → IfSome holds (λ content. AllByRecursion (IsIndexRange content version checkpoint) read)
each_front None version checkpoint second read all = tt
each_front (Some content) version checkpoint second [] all = tt
each_front (Some content) version checkpoint second (range ∷ read) all =
    (inl (second, all.0), each_front (Some content) version checkpoint second read all.1)

each_text : (holds : Option Content) (version : ℕ) (checkpoint : Checkpoint) → version ≡ 1 → (read : List ReadRange)
    → AllByRecursion (IsTextOfOne checkpoint.files) read
    → IfSome holds (λ content. AllByRecursion (IsIndexRange content version checkpoint) read)
each_text None version checkpoint first read all = tt
each_text (Some content) version checkpoint first [] all = tt
each_text (Some content) version checkpoint first (range ∷ read) all =
    (inr (first, all.0), each_text (Some content) version checkpoint first read all.1)

pub fronts_read : (holds : Option Content) (version : ℕ) (checkpoint : Checkpoint) (records : List PartRec) → records ≡ checkpoint.parts
    → version ≡ 2 → (before after : Option (List ReadRange)) → ReadsFronts holds records before after
    → ReadsIndex holds version checkpoint before after
fronts_read holds version checkpoint records recorded second before after reads =
    let its : ReadsFronts holds checkpoint.parts before after =
    subst (λ (rs : List PartRec). ReadsFronts holds rs before after) recorded reads in
    (its.0, each_front holds version checkpoint second its.0 its.1, its.2)

pub texts_read : (holds : Option Content) (version : ℕ) (checkpoint : Checkpoint) → version ≡ 1
    → (before after : Option (List ReadRange)) → ReadsOnly (IsTextOfOne checkpoint.files) before after
    → ReadsIndex holds version checkpoint before after
texts_read holds version checkpoint first before after reads =
    (reads.0, each_text holds version checkpoint first reads.0 reads.1, reads.2)

-- ---- what is opened, and why it can't be

pub load_opened : (holds : Option Content) (checkpoint : Checkpoint) {flush_at next_blob flushes : ℕ} {before after : Option (List ReadRange)}
    {contents : Contents} (records : List PartRec) → records ≡ checkpoint.parts
    → IsLoaded holds records flush_at next_blob flushes before after contents
    → IsLoaded holds checkpoint.parts flush_at next_blob flushes before after contents
load_opened holds checkpoint {flush_at} {next_blob} {flushes} {before} {after} {contents} records recorded loaded =
    subst (λ (rs : List PartRec). IsLoaded holds rs flush_at next_blob flushes before after contents) recorded loaded

pub load_cause : (holds : Option Content) (version : ℕ) (checkpoint : Checkpoint) (records : List PartRec) → records ≡ checkpoint.parts
    → version ≡ 2 → {before now : ℕ} {ranges ranges_now : Option (List ReadRange)} (trouble : Trouble)
    → IsLoadCause holds records before now ranges ranges_now trouble → IsIndexCause holds version checkpoint before now trouble
load_cause holds version checkpoint records recorded second trouble cause = record {
  counted = cause.counted;
  store_fault = cause.store_fault;
  calm = cause.calm;
  damaged = λ blob e.
      its_part holds blob (subst (λ (rs : List PartRec). IsFirstBroken holds rs blob) recorded (cause.damaged blob e));
}
  where
    its_part : (held : Option Content) (blob : ℕ) → IsFirstBroken held checkpoint.parts blob
        → IfSome held (λ content. IsIndexDamaged content version checkpoint blob)
    its_part None blob first = tt
    its_part (Some content) blob first = inl (second, first)

pub reindex_cause : (holds : Option Content) (version : ℕ) (checkpoint : Checkpoint) → version ≡ 1 → {before now : ℕ}
    {ranges ranges_now : Option (List ReadRange)} (trouble : Trouble)
    → IsCause (IsFirstBrokenText holds checkpoint.files) before now ranges ranges_now trouble
    → IsIndexCause holds version checkpoint before now trouble
reindex_cause holds version checkpoint first trouble cause = record {
  counted = cause.kept;
  store_fault = cause.store_fault;
  calm = cause.calm;
  damaged = λ blob e. its_text holds blob (cause.damaged blob e);
}
  where
    its_text : (held : Option Content) (blob : ℕ) → IsFirstBrokenText held checkpoint.files blob
        → IfSome held (λ content. IsIndexDamaged content version checkpoint blob)
    its_text None blob text = tt
    its_text (Some content) blob text = inr (first, text)

-- ---- what is kept

pub record IndexNumbers (checkpoint : Checkpoint) (flush_at : ℕ) (contents : Contents) : Type 0 where
  pub next_blob : contents.next_blob ≡ checkpoint.next_blob
  pub flush_at_same : contents.flush_at ≡ flush_at
  pub kept : contents.kept ≡ lru_cache [] 1024
  pub flushes : contents.flushes ≤ checkpoint.flushes
  pub end : contents.memory.end ≤ checkpoint.next_address

loaded_numbers : (holds : Option Content) (checkpoint : Checkpoint) (flush_at : ℕ) (before after : Option (List ReadRange))
    (contents : Contents) → IsCheckpoint checkpoint
    → IsLoaded holds checkpoint.parts flush_at checkpoint.next_blob checkpoint.flushes before after contents
    → IndexNumbers checkpoint flush_at contents
loaded_numbers holds checkpoint flush_at before after contents rules loaded = record {
  next_blob = ap (λ (c : Contents). c.next_blob) loaded.kept;
  flush_at_same = ap (λ (c : Contents). c.flush_at) loaded.kept;
  kept = ap (λ (c : Contents). c.kept) loaded.kept;
  flushes = omega (arith, ap (λ (c : Contents). c.flushes) loaded.kept);
  end =
      omega (
        arith,
        ap (λ (c : Contents). c.memory.end) loaded.kept,
        end_below 0 checkpoint.parts checkpoint.next_address rules.layout.spans,
      );
}

reindexed_numbers : (holds : Option Content) (checkpoint : Checkpoint) (flush_at : ℕ) (before after : Option (List ReadRange))
    (contents : Contents) → IsReindexed holds checkpoint flush_at before after contents → IndexNumbers checkpoint flush_at contents
reindexed_numbers holds checkpoint flush_at before after contents opened = record {
  next_blob = ap (λ (c : Contents). c.next_blob) opened.kept;
  flush_at_same = ap (λ (c : Contents). c.flush_at) opened.kept;
  kept = ap (λ (c : Contents). c.kept) opened.kept;
  flushes = omega (arith, ap (λ (c : Contents). c.flushes) opened.kept);
  end = opened.below;
}

pub index_numbers : {holds : Option Content} {version : ℕ} {checkpoint : Checkpoint} {flush_at : ℕ}
    {before after : Option (List ReadRange)} {contents : Contents} → IsCheckpoint checkpoint
    → IsIndexOpened holds version checkpoint flush_at before after contents → IndexNumbers checkpoint flush_at contents
index_numbers {holds} {version} {checkpoint} {flush_at} {before} {after} {contents} rules opened =
    ⊎_elim
    (λ (second : (version ≡ 2)
    × IsLoaded holds checkpoint.parts flush_at checkpoint.next_blob checkpoint.flushes before after contents).
    loaded_numbers holds checkpoint flush_at before after contents rules second.1)
    (λ (first : (version ≡ 1) × IsReindexed holds checkpoint flush_at before after contents).
    reindexed_numbers holds checkpoint flush_at before after contents first.1)
    opened

-- ---- what comes of it

module _ (root : Root) (checkpoint : Checkpoint) {before between : Option Content} (same : between ≡ before)
    (roomy : IfSome before (λ content. HasOpenRoot content root)) (has : IfSome before (λ content. HasCheckpoint content root checkpoint))
  where
    pub index_reads : (first middle last : Option (List ReadRange)) → ReadsCheckpoint root first middle
        → ReadsIndex between root.version checkpoint middle last → ReadsAtOpening before first last
    index_reads first middle last read later = reads_index root checkpoint before first middle last roomy has read (rw same at later)

    pub index_cause : {first middle now : ℕ} → middle ≡ first → (trouble : Trouble)
        → IsIndexCause between root.version checkpoint middle now trouble → IsBeginCause before first now (fault_of_trouble trouble)
    index_cause {first} {middle} {now} calm trouble cause =
        of_trouble trouble (rw (same, calm) at cause)
      where
        its_damage : (holds : Option Content) (blob : ℕ) → IfSome holds (λ content. HasOpenRoot content root)
            → IfSome holds (λ content. HasCheckpoint content root checkpoint)
            → IfSome holds (λ content. IsIndexDamaged content root.version checkpoint blob)
            → IfSome holds (λ content. IsDamagedAtOpening content blob)
        its_damage None blob o h broken = tt
        its_damage (Some content) blob o h broken = inr (inr (root, o, checkpoint, h, broken))

        of_trouble : (t : Trouble) → IsIndexCause before root.version checkpoint first now t
            → IsBeginCause before first now (fault_of_trouble t)
        of_trouble troubles.NoMemory c = record {
          counted = c.counted;
          store_fault = λ e. absurd cc;
          calm = λ other. c.calm (λ e. absurd cc);
          spent = λ number e. absurd cc;
          damaged = λ blob e. absurd cc;
        }
        of_trouble troubles.StoreFault c = record {
          counted = c.counted;
          store_fault = λ e. c.store_fault refl;
          calm = λ other. absurd (other refl);
          spent = λ number e. absurd cc;
          damaged = λ blob e. absurd cc;
        }
        of_trouble (troubles.Damaged blob) c = record {
          counted = c.counted;
          store_fault = λ e. absurd cc;
          calm = λ other. c.calm (λ e. absurd cc);
          spent = λ number e. absurd cc;
          damaged = λ its e. its_damage before its roomy has (c.damaged its (let same_blob : blob ≡ its = cc in ap (λ (n : ℕ). Damaged n) same_blob));
        }

    module _ {parts : Contents} {flush_at : ℕ} {middle last : Option (List ReadRange)}
        (opened : IsIndexOpened between root.version checkpoint flush_at middle last parts) where
      abbrev ItsLoad : Option Content → Type 0
      ItsLoad holds = IsLoaded holds checkpoint.parts flush_at checkpoint.next_blob checkpoint.flushes middle last parts

      abbrev ItsTexts : Option Content → Type 0
      ItsTexts holds = IsReindexed holds checkpoint flush_at middle last parts

      loads : (holds : Option Content) → root.version ≡ 2 → (load : ItsLoad holds)
          → IfSome holds (λ content. OpensIndex content root.version checkpoint load.read)
      loads None second load = tt
      loads (Some content) second load = inl (second, (parts.directories, load.opened))

      reindexes : (holds : Option Content) → root.version ≡ 1 → (texts : ItsTexts holds)
          → IfSome holds (λ content. OpensIndex content root.version checkpoint (texts_whole texts.order))
      reindexes None first texts = tt
      reindexes (Some content) first texts =
          inr (first, record { order = texts.order; by_address = texts.by_address; whole = texts.whole; read_are = refl })

      pub index_open : (first : Option (List ReadRange)) → ReadsCheckpoint root first middle → IsOpen before first last
      index_open start read =
          ⊎_elim
          (λ (second : (root.version ≡ 2) × ItsLoad between).
          let load : ItsLoad before = rw same at second.1 in
          opens_saved root checkpoint before start middle last load.read roomy has read (loads before second.0 load) load.read_are)
          (λ (first : (root.version ≡ 1) × ItsTexts between).
          let texts : ItsTexts before = rw same at first.1 in
          opens_saved root checkpoint before start middle last (texts_whole texts.order) roomy has read
          (reindexes before first.0 texts) texts.read_are)
          opened

      module _ {engine : Engine} (is : IsEngineFor root.checkpoint checkpoint parts engine) {after : Option Content}
          (unchanged : after ≡ between) where
        pub index_stands : (s : State) → HoldsImage before s → Stands engine after s
        index_stands s image =
            ⊎_elim
            (λ (second : (root.version ≡ 2) × ItsLoad between).
            let load : ItsLoad before = rw same at second.1 in
            rw (unchanged ∙ same)
            (saved_stands engine root checkpoint parts flush_at load.read is load.kept second.0 before roomy has load.opened s image))
            (λ (first : (root.version ≡ 1) × ItsTexts between).
            let texts : ItsTexts before = rw same at first.1 in
            rw (unchanged ∙ same)
            (reindexed_stands engine root checkpoint parts flush_at is first.0 before roomy has middle last texts s image))
            opened

        pub index_goes : (content : Content) → before ≡ Some content → Goes engine content after
        index_goes content told =
            ⊎_elim
            (λ (second : (root.version ≡ 2) × ItsLoad between).
            saved_goes root checkpoint same roomy has second.0 second.1 is unchanged content told)
            (λ (first : (root.version ≡ 1) × ItsTexts between).
            reindexed_goes root checkpoint same roomy has first.1 is unchanged content told)
            opened
