-- What is kept of the parts stays true when a part is put at their end, and when a job's parts are replaced.
use Rattle.std.proofs.Common.{◌≡◌, ℕ, ◌+◌, ◌^◌, ◌<◌, ◌≤◌, ◌==◌, List, [], ◌∷◌, ◌++◌, length, map, take, drop, refl, ap, ap₂, sym, ◌∙◌}
use Rattle.std.proofs.Common.{subst, arith, append-nil, take-append-drop}
use Rattle.std.specs.Prelude.{Option, None}
use Rattle.std.specs.List.{AllByRecursion, flat_map}
use Rattle.std.proofs.lemmas.Bool.{eqb-true}
use Rattle.std.proofs.lemmas.List.{length-map, map-append}
use Rattle.std.proofs.lemmas.List.Sums.{sum_by-append, sum_by-cons}
use Rattle.wu_base.specs.declared.addresses.PartRec.{PartRec}
use Rattle.wu_base.specs.declared.addresses.TermList.{TermList}
use Rattle.wu_base.proofs.Members.{Has, all_has, any_has}
use Rattle.wu_base.proofs.EachLemmas.{each-append, each-drop, each-map, each-take}
use Rattle.wu_layout.proofs.Flushes.{taken_some}
use Rattle.wu_layout.specs.Layouts.{Part}
use Rattle.wu_layout.specs.Invariants.{MayBeTaken, NeverRise, flushes_for}
use Rattle.wu_layout.specs.Steps.{made_generation}
use Rattle.wu_layout.proofs.EntryLemmas.{IfSome-map}
use Rattle.wu_layout.proofs.GenerationLemmas.{flushes_made, flushes_without, never_rise_between, never_rise_made, never_rise_without}
use Rattle.wu_part.specs.declared.entries.BlockEntry.{BlockEntry}
use Rattle.wu_part.specs.Directories.{PartDirectory, all_blocks}
use Rattle.wu_part.specs.Parts.{IsRecorded, SpellsPart}
use Rattle.wu_job.specs.Jobs.{JobPart, StandWithin, highest, lowest}
use Rattle.wu_parts.specs.Contents.{JobAt}
use Rattle.wu_parts.specs.StoredParts.{AreSound, AreStored, IsKeptJob, SpansAscend, directories_of, records_of}
use Rattle.wu_parts.specs.Units.{IsRunning, as_part, as_parts, parts_at, replaced}
use Rattle.wu_parts.specs.declared.working.Running.{Running}
use Rattle.wu_parts.specs.declared.writing.StoredPart.{StoredPart}
use Rattle.wu_parts.proofs.Asking.{zipped}
use Rattle.wu_parts.proofs.HeldParts.{map-drop, map-take}
use Rattle.wu_parts.proofs.NewParts.{AreEnds, all_addresses, lists_end}
use Rattle.wu_parts.proofs.RunningJobs.{running_more}
use Rattle.wu_parts.proofs.Spans.{directories-push, records-push, spans-bounds}

-- ---- lists

module _ {X : Type 0} where
  cut_split : (place count : ℕ) (xs : List X) → xs ≡ take place xs ++ (take count (drop place xs) ++ drop count (drop place xs))
  cut_split place count xs =
      sym (take-append-drop place xs) ∙ ap (λ (ys : List X). take place xs ++ ys) (sym (take-append-drop count (drop place xs)))

module _ {X Y : Type 0} (f : X → Y) where
  pub map-replaced : (place count : ℕ) (made xs : List X)
      → map f (replaced place count made xs) ≡ replaced place count (map f made) (map f xs)
  map-replaced place count made xs =
      map-append f (take place xs) (made ++ drop count (drop place xs))
      ∙ ap₂ ◌++◌ (map-take f place xs)
      (map-append f made (drop count (drop place xs))
      ∙ ap (λ (ys : List Y). map f made ++ ys) (map-drop f count (drop place xs) ∙ ap (drop count) (map-drop f place xs)))

abbrev pub job_part : StoredPart → JobPart
job_part part = record { recorded = part.recorded; directory = part.directory }

-- the parts of a job, as they are stored
pub parts_at_stored : (place count : ℕ) (parts : List StoredPart)
    → parts_at place count (records_of parts) (directories_of parts) ≡ map job_part (take count (drop place parts))
parts_at_stored place count parts =
    ap (λ (ps : List (PartRec × PartDirectory)). map make (take count (drop place ps))) (zipped parts)
    ∙ ap (λ (ps : List (PartRec × PartDirectory)). map make (take count ps)) (sym (map-drop pair place parts))
    ∙ ap (map make) (sym (map-take pair count (drop place parts)))
    ∙ both (take count (drop place parts))
  where
    make : PartRec × PartDirectory → JobPart
    make part = record { recorded = part.0; directory = part.1 }

    pair : StoredPart → PartRec × PartDirectory
    pair part = (part.recorded, part.directory)

    both : (ps : List StoredPart) → map make (map pair ps) ≡ map job_part ps
    both [] = refl
    both (p ∷ ps) = ap (λ (l : List JobPart). job_part p ∷ l) (both ps)

-- ---- jobs

pub same_length : (parts : List StoredPart) → length (records_of parts) ≡ length (directories_of parts)
same_length parts =
    length-map parts (λ (p : StoredPart). p.recorded) ∙ sym (length-map parts (λ (p : StoredPart). p.directory))

running_pushed : (parts : List StoredPart) (part : StoredPart) (job : JobAt) → IsRunning (records_of parts) (directories_of parts) job
    → IsRunning (records_of (parts ++ part ∷ [])) (directories_of (parts ++ part ∷ [])) job
running_pushed parts part job r =
    subst (λ rs. IsRunning rs (directories_of (parts ++ part ∷ [])) job) (sym (records-push parts part))
    (subst (λ ds. IsRunning (records_of parts ++ part.recorded ∷ []) ds job) (sym (directories-push parts part))
    (running_more (records_of parts) (directories_of parts) job r part.recorded part.directory))

-- ---- a part more

all_from_zero : (g : ℕ) (parts : List Part) → g ≡ 0 → AllByRecursion (λ part. g ≤ part.generation) parts
all_from_zero g [] e = tt
all_from_zero g (part ∷ parts) e = (omega arith, all_from_zero g parts e)

pub sound_pushed : (low high next flushes : ℕ) (parts : List StoredPart) (part : StoredPart) (job : Option Running)
    → AreSound low next flushes parts job → AreStored high (parts ++ part ∷ []) → part.recorded.blob ≡ next
    → part.recorded.generation ≡ 0 → flushes + 1 < 2 ^ 63 → AreSound high (next + 1) (flushes + 1) (parts ++ part ∷ []) job
sound_pushed low high next flushes parts part job s stored blob new room =
    let all : as_parts (records_of (parts ++ part ∷ [])) ≡ as_parts (records_of parts) ++ as_part part.recorded ∷ [] =
    ap as_parts (records-push parts part) ∙ map-append as_part (records_of parts) (part.recorded ∷ []) in
    record {
      stored = stored;
      below =
          subst (AllByRecursion (λ recorded. recorded.blob < next + 1)) (sym (records-push parts part))
          (each-append (λ (recorded : PartRec). recorded.blob < next + 1) (records_of parts) (part.recorded ∷ [])
          (each-map (λ (recorded : PartRec). recorded.blob < next) (λ recorded. recorded.blob < next + 1) (records_of parts)
          (λ recorded l. omega arith) s.below)
          (omega (arith, blob), tt));
      never_rise =
          subst NeverRise (sym all)
          (never_rise_between (as_parts (records_of parts)) [] (as_part part.recorded)
          (subst NeverRise (sym (append-nil (as_parts (records_of parts)))) s.never_rise)
          (all_from_zero part.recorded.generation (as_parts (records_of parts)) new) tt);
      flushed =
          let one : 2 ^ part.recorded.generation ≡ 1 = ap (λ (g : ℕ). 2 ^ g) new in
          let sums : flushes_for (as_parts (records_of (parts ++ part ∷ [])))
          ≡ flushes_for (as_parts (records_of parts)) + flushes_for (as_part part.recorded ∷ []) =
          ap flushes_for all ∙ sum_by-append (λ (p : Part). 2 ^ p.generation) (as_parts (records_of parts)) (as_part part.recorded ∷ []) in
          let last : flushes_for (as_part part.recorded ∷ []) ≡ 2 ^ part.recorded.generation + 0 =
          sum_by-cons (λ (p : Part). 2 ^ p.generation) (as_part part.recorded) [] in
          omega (arith, one, sums, last, s.flushed);
      few = room;
      job =
          IfSome-map (IsKeptJob (records_of parts) (directories_of parts))
          (IsKeptJob (records_of (parts ++ part ∷ [])) (directories_of (parts ++ part ∷ []))) job
          (λ running k. record { running = running_pushed parts part _ k.running; count = k.count }) s.job;
    }

-- ---- spans

spans_split : (low high : ℕ) (xs ys : List StoredPart) → SpansAscend low high (xs ++ ys)
    → (middle : ℕ) × (SpansAscend low middle xs × SpansAscend middle high ys)
spans_split low high [] ys s = (low, (omega arith, s))
spans_split low high (x ∷ xs) ys s =
    let r = spans_split (x.recorded.high + 1) high xs ys s.2 in (r.0, ((s.0, s.1, r.1.0), r.1.1))

spans_lower : (least low high : ℕ) (xs : List StoredPart) → least ≤ low → SpansAscend low high xs → SpansAscend least high xs
spans_lower least low high [] l s = omega arith
spans_lower least low high (x ∷ xs) l s = (omega (arith, s.0), s.1, s.2)

spans_join : (low middle high : ℕ) (xs ys : List StoredPart) → SpansAscend low middle xs → SpansAscend middle high ys
    → SpansAscend low high (xs ++ ys)
spans_join low middle high [] ys a b = spans_lower low middle high ys a b
spans_join low middle high (x ∷ xs) ys a b = (a.0, a.1, spans_join (x.recorded.high + 1) middle high xs ys a.2 b)

IsTold : StoredPart → Type 0
IsTold part = IsRecorded part.recorded part.directory

pub ends_of : (low high : ℕ) (parts : List StoredPart) → AllByRecursion (λ p. IsRecorded p.recorded p.directory) parts
    → SpansAscend low high parts → 0 < length parts
    → (low ≤ lowest (map job_part parts)) × (highest (map job_part parts) + 1 ≤ high)
ends_of low high [] t s l = absurd (omega arith)
ends_of low high (part ∷ []) t s l =
    (omega (arith, s.0, t.0.low), omega (arith, s.2, t.0.high))
ends_of low high (part ∷ next ∷ parts) t s l =
    let r = ends_of (part.recorded.high + 1) high (next ∷ parts) t.1 s.2 (omega arith) in
    (omega (arith, s.0, t.0.low), r.1)

-- the numbers of a part whose addresses stand within those of others
pub numbers_within : (parts : List JobPart) (directory : PartDirectory) (lists : List TermList) (bytes : List ℕ)
    → SpellsPart directory lists bytes → StandWithin parts (flat_map (λ list. list.at) lists)
    → (lowest parts ≤ directory.low) × ((directory.low + directory.stored ≤ directory.high + 1) × (directory.high ≤ highest parts))
numbers_within parts d lists bytes s within =
    let holds = s.own.code_spelled.holds in
    let ends : AreEnds (all_blocks d.terms) (all_addresses lists) = lists_end d.low bytes d.terms lists s.lists_held in
    let begin = any_has (λ (block : BlockEntry). block.first == d.low) (all_blocks d.terms) holds.begin in
    let end = any_has (λ (block : BlockEntry). block.last == d.high) (all_blocks d.terms) holds.end in
    let begin_ends = all_has (λ (block : BlockEntry). Has block.first (all_addresses lists)
    × Has block.last (all_addresses lists)) begin.0 (all_blocks d.terms) ends begin.1.0 in
    let end_ends = all_has (λ (block : BlockEntry). Has block.first (all_addresses lists)
    × Has block.last (all_addresses lists)) end.0 (all_blocks d.terms) ends end.1.0 in
    let begin_is : begin.0.first ≡ d.low = eqb-true begin.0.first d.low begin.1.1 in
    let end_is : end.0.last ≡ d.high = eqb-true end.0.last d.high end.1.1 in
    let first = all_has (λ (address : ℕ). (lowest parts ≤ address) × (address ≤ highest parts)) begin.0.first (all_addresses lists) within
    begin_ends.0 in
    let last = all_has (λ (address : ℕ). (lowest parts ≤ address) × (address ≤ highest parts)) end.0.last (all_addresses lists) within
    end_ends.1 in
    (omega (arith, first.0, begin_is), (omega (arith, holds.room, holds.span), omega (arith, last.1, end_is)))

-- ---- a job's parts replaced

module _ (low next flushes place count : ℕ) (parts : List StoredPart) (stored : AreStored low parts)
    (below : AllByRecursion (λ recorded. recorded.blob < next) (records_of parts)) (never_rise : NeverRise (as_parts (records_of parts)))
    (flushed : flushes_for (as_parts (records_of parts)) ≤ flushes) (few : flushes < 2 ^ 63) where
  abbrev before : List StoredPart
  before = take place parts

  abbrev taken : List StoredPart
  taken = take count (drop place parts)

  abbrev after : List StoredPart
  after = drop count (drop place parts)

  spans : (m : ℕ) × (n : ℕ) × (SpansAscend 0 m before × SpansAscend m n taken × SpansAscend n low after)
  spans =
      let front = spans_split 0 low before (taken ++ after) (subst (SpansAscend 0 low) (cut_split place count parts) stored.spans) in
      let back = spans_split front.0 low taken after front.1.1 in
      (front.0, back.0, (front.1.0, back.1.0, back.1.1))

  records_split : as_parts (records_of parts) ≡ as_parts (records_of before) ++ (as_parts (records_of taken) ++ as_parts (records_of after))
  records_split =
      ap (λ (ps : List StoredPart). as_parts (records_of ps)) (cut_split place count parts)
      ∙ ap as_parts (map-append (λ (p : StoredPart). p.recorded) before (taken ++ after))
      ∙ map-append as_part (records_of before) (records_of (taken ++ after))
      ∙ ap (λ (ps : List Part). as_parts (records_of before) ++ ps)
      (ap as_parts (map-append (λ (p : StoredPart). p.recorded) taken after) ∙ map-append as_part (records_of taken) (records_of after))

  joined : (made : List StoredPart) → as_parts (records_of (replaced place count made parts))
      ≡ as_parts (records_of before) ++ (as_parts (records_of made) ++ as_parts (records_of after))
  joined made =
      ap as_parts (map-append (λ (p : StoredPart). p.recorded) before (made ++ after))
      ∙ map-append as_part (records_of before) (records_of (made ++ after))
      ∙ ap (λ (ps : List Part). as_parts (records_of before) ++ ps)
      (ap as_parts (map-append (λ (p : StoredPart). p.recorded) made after) ∙ map-append as_part (records_of made) (records_of after))

  told_with : (made : List StoredPart) → AllByRecursion (λ p. IsRecorded p.recorded p.directory) made
      → AllByRecursion (λ p. IsRecorded p.recorded p.directory) (replaced place count made parts)
  told_with made t =
      each-append (λ (p : StoredPart). IsRecorded p.recorded p.directory) before (made ++ after)
      (each-take (λ (p : StoredPart). IsRecorded p.recorded p.directory) place parts stored.told)
      (each-append (λ (p : StoredPart). IsRecorded p.recorded p.directory) made after t
      (each-drop (λ (p : StoredPart). IsRecorded p.recorded p.directory) count (drop place parts)
      (each-drop (λ (p : StoredPart). IsRecorded p.recorded p.directory) place parts stored.told)))

  below_with : (most : ℕ) (made : List StoredPart) → next ≤ most → AllByRecursion (λ recorded. recorded.blob < most) (records_of made)
      → AllByRecursion (λ recorded. recorded.blob < most) (records_of (replaced place count made parts))
  below_with most made l b =
      let up : AllByRecursion (λ recorded. recorded.blob < most) (records_of parts) =
      each-map (λ (recorded : PartRec). recorded.blob < next) (λ recorded. recorded.blob < most) (records_of parts)
      (λ recorded h. omega arith) below in
      let P = λ (recorded : PartRec). recorded.blob < most in
      subst (AllByRecursion P) (sym (map-replaced (λ (p : StoredPart). p.recorded) place count made parts))
      (each-append P (take place (records_of parts)) (records_of made ++ drop count (drop place (records_of parts)))
      (each-take P place (records_of parts) up)
      (each-append P (records_of made) (drop count (drop place (records_of parts))) b
      (each-drop P count (drop place (records_of parts)) (each-drop P place (records_of parts) up))))

  pub sound_without : AreSound low next flushes (replaced place count [] parts) None
  sound_without =
      let bound : spans.0 ≤ spans.1 = spans-bounds spans.0 spans.1 taken spans.2.1 in
      record {
        stored = record {
          told = told_with [] tt;
          spans =
              spans_join 0 spans.0 low before after spans.2.0
              (spans_lower spans.0 spans.1 low after bound spans.2.2);
        };
        below = below_with next [] (omega arith) tt;
        never_rise =
            subst NeverRise (sym (joined []))
            (never_rise_without (as_parts (records_of before)) (as_parts (records_of taken)) (as_parts (records_of after))
            (subst NeverRise records_split never_rise));
        flushed =
            omega (
              arith,
              ap flushes_for (joined []),
              ap flushes_for records_split,
              flushes_without (as_parts (records_of before)) (as_parts (records_of taken)) (as_parts (records_of after)),
              flushed,
            );
        few = few;
        job = tt;
      }

  pub sound_made : (part : StoredPart) → IsRecorded part.recorded part.directory → part.recorded.blob ≡ next
      → MayBeTaken (as_parts (records_of before)) (as_parts (records_of taken))
      → part.recorded.generation ≡ made_generation (as_parts (records_of taken))
      → lowest (map job_part taken) ≤ part.recorded.low → part.recorded.low + part.recorded.stored ≤ part.recorded.high + 1
      → part.recorded.high ≤ highest (map job_part taken) → AreSound low (next + 1) flushes (replaced place count (part ∷ []) parts) None
  sound_made part told blob may generation least room most =
      let some : 0 < length taken =
      omega (
        arith,
        taken_some (as_parts (records_of before)) (as_parts (records_of taken)) may,
        length-map (records_of taken) as_part,
        length-map taken (λ (p : StoredPart). p.recorded),
      ) in
      let own_told : AllByRecursion (λ p. IsRecorded p.recorded p.directory) taken =
      each-take (λ (p : StoredPart). IsRecorded p.recorded p.directory) count (drop place parts)
      (each-drop (λ (p : StoredPart). IsRecorded p.recorded p.directory) place parts stored.told) in
      let ends = ends_of spans.0 spans.1 taken own_told spans.2.1 some in
      record {
        stored = record {
          told = told_with (part ∷ []) (told, tt);
          spans =
              spans_join 0 spans.0 low before (part ∷ after) spans.2.0 (
                omega (arith, ends.0, least),
                room,
                spans_lower (part.recorded.high + 1) spans.1 low after (omega (arith, ends.1, most)) spans.2.2,
              );
        };
        below = below_with (next + 1) (part ∷ []) (omega arith) (omega (arith, blob), tt);
        never_rise =
            subst NeverRise (sym (joined (part ∷ [])))
            (never_rise_made (as_parts (records_of before)) (as_parts (records_of taken)) (as_parts (records_of after)) (as_part part.recorded) may
            generation (subst NeverRise records_split never_rise));
        flushed =
            omega (
              arith,
              ap flushes_for (joined (part ∷ [])),
              ap flushes_for records_split,
              flushes_made (as_parts (records_of before)) (as_parts (records_of taken)) (as_parts (records_of after)) (as_part part.recorded) may
                  generation,
              flushed,
            );
        few = few;
        job = tt;
      }
