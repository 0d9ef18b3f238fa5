-- What units of background work read are blocks of the terms that they do, in the parts of their jobs.
use Rattle.std.proofs.Common.{◌≡◌, ℕ, zero, suc, ◌<◌, ◌≤◌, Bool, true, false, cond, List, [], ◌∷◌, ◌++◌, length, map, take, drop, refl, ap}
use Rattle.std.proofs.Common.{ap₂, sym, ◌∙◌, subst, arith, inl, inr, ⊎_elim}
use Rattle.std.specs.Prelude.{Option, None, Some, IfSome, nat_eq, zip}
use Rattle.std.specs.Cmp.Lexicographic.{pointwise, slice_cmp, same_text}
use Rattle.std.specs.List.{AllByRecursion, flat_map}
use Rattle.std.specs.List.Sorted.{IsStrictlySortedBy}
use Rattle.std.specs.Ordering.{nat_cmp}
use Rattle.wu_base.specs.declared.addresses.PartRec.{PartRec}
use Rattle.wu_base.specs.declared.troubles.Trouble.{Trouble}
use Rattle.wu_base.proofs.EachLemmas.{each-append, each-map, each-take}
use Rattle.wu_outside.specs.Content.{Content}
use Rattle.wu_outside.specs.declared.ranges.ReadRange.{ReadRange}
use Rattle.wu_layout.specs.Invariants.{IsLayoutOf, SomeOf}
use Rattle.wu_layout.specs.Layouts.{Job, Layout, Part, Text, parts_taken, ranges_by_number}
use Rattle.wu_layout.specs.Steps.{job_of, work}
use Rattle.wu_layout.proofs.Garbage.{files_after_work}
use Rattle.wu_layout.proofs.Units.{layout_after_work}
use Rattle.wu_part.specs.declared.entries.BlockEntry.{BlockEntry}
use Rattle.wu_part.specs.declared.entries.TermEntry.{TermEntry}
use Rattle.wu_part.specs.Directories.{PartDirectory}
use Rattle.wu_space.specs.Addresses.{Ranges}
use Rattle.wu_lists.specs.Blocks.{blocks_from, blocks_in, blocks_of, entry_of, range_of}
use Rattle.wu_job.specs.Jobs.{JobPart, JobState}
use Rattle.wu_job.specs.Steps.{block_ranges, ranges_of, ranges_of_entries, step_ranges}
use Rattle.wu_job.proofs.Terms.{ranges_one}
use Rattle.wu_parts.specs.Contents.{Contents, JobAt}
use Rattle.wu_parts.specs.Flushing.{Told}
use Rattle.wu_parts.specs.Holdings.{HoldParts, HoldsPart}
use Rattle.wu_parts.specs.Units.{DoUnits, IsNext, IsRunning, parts_at}
use Rattle.wu_parts.specs.Working.{DoesWork, ReadsSome, StopsWork, Tells, TellsParts}
use Rattle.wu_parts.proofs.HeldParts.{hold-taken, taken_zipped}
use Rattle.wu_parts.proofs.LayoutUnits.{HasJob, next_job_is}
use Rattle.wu_parts.proofs.LayoutWork.{tells_work}
use Rattle.wu_parts.proofs.StartedJobs.{own_number}
use Rattle.wu_query.specs.Permitted.{IsOneOf, ReadsOnly}
use Rattle.wu_query.specs.States.{State}
use Rattle.wu_query.proofs.PermittedBlocks.{each_one}
use Rattle.wu_engine.specs.declared.engines.Engine.{Engine}
use Rattle.wu_engine.specs.Permitted.{IsBlockOf, IsBlockOfFirst, IsBlockOfJob, MayReadForWork}
use Rattle.wu_engine.specs.Stands.{Stands}
use Rattle.wu_engine.proofs.WorkedStates.{parts_told}

-- ---- a term's blocks

-- an entry's blocks, each where it is
entry_ranges : (blob low : ℕ) (blocks : List BlockEntry) (count : ℕ)
    → block_ranges blob blocks ≡ map range_of (blocks_from blob low count blocks)
entry_ranges blob low [] count = refl
entry_ranges blob low (block ∷ later) count =
    ap (λ (ranges : List ReadRange). record { blob = blob; at = block.at; len = block.len } ∷ ranges)
    (entry_ranges blob low later _)

-- the blocks of a term that a job reads of a directory, whose entries ascend by term, are those of the term
directory_ranges : (blob low : ℕ) (term : List ℕ) (terms : List TermEntry)
    → IsStrictlySortedBy (slice_cmp nat_cmp) (map (λ entry. entry.term) terms)
    → ranges_of_entries blob term terms ≡ map range_of (blocks_in blob low (entry_of terms term))
unfolding IsStrictlySortedBy
directory_ranges blob low term [] sorted = refl
directory_ranges blob low term (entry ∷ terms) sorted =
    elim (pointwise nat_eq entry.term term) as
    (λ b. pointwise nat_eq entry.term term ≡ b
    → ranges_of_entries blob term (entry ∷ terms) ≡ map range_of (blocks_in blob low (cond b (Some entry) (entry_of terms term)))) [
      | true ↦ λ e.
          subst (λ (own : List ℕ). ranges_of_entries blob own (entry ∷ terms) ≡ block_ranges blob entry.blocks)
          (same_text entry.term term (sym e)) (ranges_one blob entry (entry ∷ terms) sorted (inl refl))
          ∙ entry_ranges blob low entry.blocks entry.count
      | false ↦ λ e. rw e (directory_ranges blob low term terms sorted.1)
    ] refl

-- ---- a job's next term

module _ (content : Content) (term : List ℕ) where
  -- what a step reads of a part are blocks of its term
  part_ranges : (recorded : PartRec) (directory : PartDirectory) (part : Part) → HoldsPart content recorded directory part
      → AllByRecursion (λ range. IsBlockOf term range part) (ranges_of term (record { recorded = recorded; directory = directory }))
  part_ranges recorded directory part held =
      let same : ranges_of term (record { recorded = recorded; directory = directory })
      ≡ map range_of (blocks_of part.blob directory term) =
      ap (λ (blob : ℕ). ranges_of_entries blob term directory.terms) held.record_of.blob
      ∙ directory_ranges part.blob directory.low term directory.terms held.spelled.own.code_spelled.holds.ascending in
      subst (AllByRecursion (λ range. IsBlockOf term range part)) (sym same)
      (each-map (IsOneOf (blocks_of part.blob directory term)) (λ range. IsBlockOf term range part)
      (map range_of (blocks_of part.blob directory term))
      (λ range one. (
        directory,
        record {
          recorded = recorded;
          record_of = held.record_of;
          told = held.told;
          bytes = held.bytes;
          spelled = held.spelled;
        },
        one,
      ))
      (each_one (blocks_of part.blob directory term)))

  -- and so it is of parts side by side
  parts_ranges : (records : List PartRec) (directories : List PartDirectory) (parts : List Part)
      → HoldParts content records directories parts
      → AllByRecursion (λ range. SomeOf (IsBlockOf term range) parts)
      (flat_map (ranges_of term) (map (λ part. record { recorded = part.0; directory = part.1 }) (zip records directories)))
  parts_ranges [] [] [] held = tt
  parts_ranges [] [] (part ∷ parts) held = absurd held
  parts_ranges [] (directory ∷ directories) parts held = absurd held
  parts_ranges (recorded ∷ records) [] parts held = absurd held
  parts_ranges (recorded ∷ records) (directory ∷ directories) [] held = absurd held
  parts_ranges (recorded ∷ records) (directory ∷ directories) (part ∷ parts) held =
      each-append (λ range. SomeOf (IsBlockOf term range) (part ∷ parts))
      (ranges_of term (record { recorded = recorded; directory = directory })) _
      (each-map (λ range. IsBlockOf term range part) (λ range. SomeOf (IsBlockOf term range) (part ∷ parts)) _ (λ range own. inl own)
      (part_ranges recorded directory part held.0))
      (each-map (λ range. SomeOf (IsBlockOf term range) parts) (λ range. SomeOf (IsBlockOf term range) (part ∷ parts)) _
      (λ range others. inr others)
      (parts_ranges records directories parts held.1))

-- of the terms left a step does the first
first_ranges : (content : Content) (terms : List (List ℕ)) (records : List PartRec) (directories : List PartDirectory) (parts : List Part)
    → HoldParts content records directories parts
    → AllByRecursion (IsBlockOfFirst parts terms)
    (step_ranges terms (map (λ part. record { recorded = part.0; directory = part.1 }) (zip records directories)))
first_ranges content [] records directories parts held = tt
first_ranges content (term ∷ later) records directories parts held = parts_ranges content term records directories parts held

module _ (is_file : ℕ → Bool) (text_of : ℕ → Text) (layout : Layout) (content : Content) (old : Contents)
    (d : IsLayoutOf is_file text_of layout) (t : TellsParts content old layout) (running : JobAt)
    (next : IsNext (ranges_by_number layout.files) old running) where
  abbrev own : HasJob is_file text_of layout content old d t running
  own = next_job_is is_file text_of layout content old d t running next

  abbrev place : ℕ
  place = own.its.place

  abbrev count : ℕ
  count = own.its.count

  -- the job's parts are where it says
  own_parts : running.state.parts ≡ parts_at running.place (length running.state.parts) old.parts old.directories
  own_parts =
      ⊎_elim
      (λ (e : old.job ≡ Some running). (under_way old.job e t.running).parts)
      (λ n.
      ap (λ (state : JobState). state.parts) n.1.began
      ∙ ap₂ (λ (place count : ℕ). parts_at place count old.parts old.directories) (sym n.1.place)
      (sym (own_number is_file text_of layout content old running d t.parts n.1)))
      next
    where
      under_way : (o : Option JobAt) → o ≡ Some running → IfSome o (IsRunning old.parts old.directories)
          → IsRunning old.parts old.directories running
      under_way o e is = subst (λ x. IfSome x (IsRunning old.parts old.directories)) e is

  parts_are : running.state.parts
      ≡ map (λ part. record { recorded = part.0; directory = part.1 })
      (zip (take count (drop place old.parts)) (take count (drop place old.directories)))
  parts_are =
      own_parts
      ∙ ap₂ (λ (place count : ℕ). parts_at place count old.parts old.directories) own.tells.place own.tells.count
      ∙ ap (λ (ps : List (PartRec × PartDirectory)). map (λ part. record { recorded = part.0; directory = part.1 }) ps)
      (taken_zipped content place count old.parts old.directories)

  -- the next step reads blocks of the term that it does, in the parts of its job
  next_ranges : AllByRecursion (IsBlockOfJob layout (job_of layout)) (step_ranges running.state.terms_left running.state.parts)
  next_ranges =
      subst (λ (o : Option Job). AllByRecursion (IsBlockOfJob layout o) (step_ranges running.state.terms_left running.state.parts))
      (sym own.named)
      (subst (λ (terms : List (List ℕ)). AllByRecursion (IsBlockOfFirst (parts_taken own.its layout.parts) own.its.terms_left)
      (step_ranges terms running.state.parts)) (sym own.tells.terms)
      (subst (λ (parts : List JobPart). AllByRecursion (IsBlockOfFirst (parts_taken own.its layout.parts) own.its.terms_left)
      (step_ranges own.its.terms_left parts)) (sym parts_are)
      (first_ranges content own.its.terms_left (take count (drop place old.parts)) (take count (drop place old.directories))
      (parts_taken own.its layout.parts) (hold-taken content place count old.parts old.directories layout.parts t.parts))))

-- ---- units

module _ (is_file : ℕ → Bool) (text_of : ℕ → Text) (layout : Layout) (d : IsLayoutOf is_file text_of layout) where
  abbrev ranges : Ranges
  ranges = ranges_by_number layout.files

  -- after some units the next step reads what one more unit may read
  step_after : (done most : ℕ) (holds : Option Content) (reached : Contents) (running : JobAt) → done < most
      → Tells holds reached (work done layout) → IsNext ranges reached running
      → AllByRecursion (MayReadForWork layout most) (step_ranges running.state.terms_left running.state.parts)
  step_after done most None reached running l tells next = absurd tells
  step_after done most (Some content) reached running l tells next =
      each-map (IsBlockOfJob (work done layout) (job_of (work done layout))) (MayReadForWork layout most)
      (step_ranges running.state.terms_left running.state.parts)
      (λ range block. (done, l, block))
      (next_ranges is_file text_of (work done layout) content reached (layout_after_work is_file text_of done layout d) tells running
      (subst (λ (rs : Ranges). IsNext rs reached running) (ap ranges_by_number (sym (files_after_work done layout))) next))

  -- what units read, one after another
  units_read : (n most : ℕ) (old new : Contents) (before after : Told) (read : List ReadRange) → n ≤ most → Tells before.0 old layout
      → DoUnits ranges n old new before after read → AllByRecursion (MayReadForWork layout most) read
  units_read zero most old new before after read l tells done =
      subst (AllByRecursion (MayReadForWork layout most)) (sym done.1.1) tt
  units_read (suc n) most old new before after read l tells (middle, told, earlier, last, first, unit, same) =
      let reached : Tells told.0 middle (work n layout) =
      tells_work is_file text_of layout d n old middle before told earlier first tells in
      subst (AllByRecursion (MayReadForWork layout most)) (sym same)
      (each-append (MayReadForWork layout most) earlier last
      (units_read n most old middle before told earlier (omega (arith, l)) tells first)
      (subst (AllByRecursion (MayReadForWork layout most)) (sym unit.read_is)
      (step_after n most told.0 middle unit.job (omega (arith, l)) reached unit.next)))

  -- what a unit read before it failed
  some_read : (done most : ℕ) (holds : Option Content) (reached : Contents) (read : List ReadRange) → done < most
      → Tells holds reached (work done layout) → ReadsSome ranges reached read → AllByRecursion (MayReadForWork layout most) read
  some_read done most holds reached read l tells some =
      ⊎_elim
      (λ (none : read ≡ []). subst (AllByRecursion (MayReadForWork layout most)) (sym none) tt)
      (λ part.
      let whole : List ReadRange = step_ranges part.0.state.terms_left part.0.state.parts in
      subst (AllByRecursion (MayReadForWork layout most)) (sym part.3)
      (each-take (MayReadForWork layout most) part.1 whole (step_after done most holds reached part.0 l tells part.2)))
      some

-- ---- the engine

module _ (engine : Engine) (s : State) (n : ℕ) (before : Told) (stands : Stands engine before.0 s)
    (reads reads_now : Option (List ReadRange)) where
  -- work that ends read only what its units may read
  pub work_permitted : (new : Contents) (after : Told) → DoesWork engine.space.ranges n engine.parts new before after reads reads_now
      → ReadsOnly (MayReadForWork s.layout n) reads reads_now
  work_permitted new after does = (
    does.read,
    units_read _ _ s.layout stands.index.is_state.layout does.units n engine.parts new before after does.read does.within
        (parts_told engine before.0 s stands)
        (rw stands.index.live at does.done),
    does.read_are,
  )

  -- and so did work that failed
  pub stop_permitted : (faults faults_now : ℕ) (trouble : Trouble)
      → StopsWork engine.space.ranges n engine.parts before faults faults_now reads reads_now trouble
      → ReadsOnly (MayReadForWork s.layout n) reads reads_now
  stop_permitted faults faults_now trouble stops =
      let tells : Tells before.0 engine.parts s.layout = parts_told engine before.0 s stands in
      let units = rw stands.index.live at stops.units_done in
      let reached : Tells stops.stored.0 stops.reached (work stops.done s.layout) =
      tells_work _ _ s.layout stands.index.is_state.layout stops.done engine.parts stops.reached before stops.stored stops.read units
      tells in (
        stops.read ++ stops.last,
        each-append (MayReadForWork s.layout n) stops.read stops.last
            (units_read _ _ s.layout stands.index.is_state.layout stops.done n engine.parts stops.reached before stops.stored stops.read
            (omega (arith, stops.fewer)) tells units)
            (some_read _ _ s.layout stands.index.is_state.layout stops.done n stops.stored.0 stops.reached stops.last stops.fewer reached
            (rw stands.index.live at stops.some)),
        stops.read_are,
      )
