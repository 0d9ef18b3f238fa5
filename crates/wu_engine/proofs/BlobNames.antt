-- A step names each blob that it draws, leaves a name to each that had one, and names no other.
use Rattle.std.proofs.Common.{◌≡◌, ◌⊎◌, inl, inr, ℕ, zero, suc, ◌+◌, ◌<◌, ◌≤◌, ◌==◌, Bool, true, false, cond, if◌then◌else◌, List, [], ◌∷◌}
use Rattle.std.proofs.Common.{◌++◌, length, drop, map, count_by, Option, None, Some, refl, ap, ◌∙◌, subst, ⊎_elim, arith}
use Rattle.std.specs.Prelude.{nat_le}
use Rattle.std.specs.Ordering.{nat_cmp}
use Rattle.std.specs.List.Sorted.{IsStrictlySortedBy}
use Rattle.std.specs.Map.{keys_of}
use Rattle.std.specs.BTreeMap.{is_at, insert_entry}
use Rattle.std.proofs.lemmas.Bool.{cases_eq, cases_lt}
use Rattle.std.proofs.lemmas.Map.{none_passes_from_lookup}
use Rattle.wu_base.proofs.MapEntries.{counted-insert_entry}
use Rattle.wu_base.proofs.Options.{not_some}
use Rattle.wu_tree.specs.declared.events.Event.{Event}
use Rattle.wu_tree.specs.declared.events.Effect.{Effect}
use Rattle.wu_tree.specs.FileSystems.{FileSystem}
use Rattle.wu_tree.specs.Effects.{TellsFiles}
use Rattle.wu_tree.proofs.EffectLemmas.{effects_tell_files}
use Rattle.wu_layout.specs.Postings.{Posting, live_of}
use Rattle.wu_layout.specs.Layouts.{FileEntry, Job, Layout, Part, Text, entry_of, parts_after, parts_before, parts_taken, ranges_of}
use Rattle.wu_layout.specs.Layouts.{stored_in}
use Rattle.wu_layout.specs.Invariants.{times_named}
use Rattle.wu_layout.specs.Steps.{flush, flush_if_full, flushed, job_of, made_generation, place, release, replaced, text_blob, unit}
use Rattle.wu_layout.specs.Steps.{unit_of, with_terms_left, work}
use Rattle.wu_layout.proofs.BlobLemmas.{count-append, count-cons, once, once_other, once_same, released_count, removed_count}
use Rattle.wu_layout.proofs.EntryLemmas.{none_after_removal}
use Rattle.wu_layout.proofs.HomeLemmas.{parts_split}
use Rattle.wu_layout.proofs.TextLemmas.{entry_for}
use Rattle.wu_image.proofs.RuleLemmas.{sum_of_map}
use Rattle.wu_query.specs.States.{State, IsState, indexed}
use Rattle.wu_engine.specs.States.{after_event, layout_after, layout_with, layout_without}
use Rattle.wu_engine.proofs.FileChanges.{ChangesFiles, changes}
use Rattle.wu_engine.proofs.KeptStates.{after_cases}
use Rattle.wu_engine.proofs.StateLayouts.{left_kept, made_absent, made_kept}

-- ---- what names a blob

-- something of the layout has this number
abbrev pub IsCounted : Layout → ℕ → Type 0
IsCounted layout number = 0 < times_named number layout.files layout.parts layout.check layout.stale

-- Each blob that is drawn on the way from one layout to another is named by that, and each that was named, but no other.
pub record NamesOn (before after : Layout) : Type 0 where
  pub onward : before.blob ≤ after.blob
  pub drawn : (number : ℕ) → 0 < number → before.blob ≤ number → number < after.blob → IsCounted after number
  pub kept : (number : ℕ) → 0 < number → IsCounted before number → IsCounted after number
  pub from : (number : ℕ) → 0 < number → IsCounted after number → IsCounted before number ⊎ (before.blob ≤ number)

names_then : (before middle after : Layout) → NamesOn before middle → NamesOn middle after → NamesOn before after
names_then before middle after first second = record {
  onward = omega (arith, first.onward, second.onward);
  drawn = λ number l from to.
      ⊎_elim
      (λ (low : number < middle.blob). second.kept number l (first.drawn number l from low))
      (λ (high : middle.blob ≤ number). second.drawn number l high to)
      (cases_lt number middle.blob);
  kept = λ number l named. second.kept number l (first.kept number l named);
  from = λ number l named.
      ⊎_elim
      (λ (was : IsCounted middle number). first.from number l was)
      (λ (drawn : middle.blob ≤ number). inr (omega (arith, first.onward, drawn)))
      (second.from number l named);
}

-- where no blob is drawn, and the same are named
names_same : (before after : Layout) → after.blob ≡ before.blob
    → ((number : ℕ) → 0 < number → times_named number after.files after.parts after.check after.stale
    ≡ times_named number before.files before.parts before.check before.stale) → NamesOn before after
names_same before after same count = record {
  onward = omega (arith, same);
  drawn = λ number l from to. absurd (omega (arith, same, from, to));
  kept = λ number l named. omega (arith, named, count number l);
  from = λ number l named. inl (omega (arith, named, count number l));
}

names_self : (layout : Layout) → NamesOn layout layout
names_self layout = names_same layout layout refl (λ number l. refl)

-- a blob that is counted once more is the one that was drawn, if one was
drawn_once : (b : Bool) (blob number : ℕ) → 0 < number → 0 < once (if b then blob else 0) number → blob ≤ number
drawn_once true blob number l some =
    ⊎_elim
    (λ (same : blob ≡ number). omega (arith, same))
    (λ other. absurd (omega (arith, some, once_other blob number other)))
    (cases_eq blob number)
drawn_once false blob number l some =
    absurd (omega (arith, some, once_other 0 number (λ (same : 0 ≡ number). omega (arith, l, same))))

-- a blob that is named then was named before, or its number was drawn
named_or_drawn : (before after : Layout) (number more : ℕ)
    → times_named number after.files after.parts after.check after.stale
    ≡ more + times_named number before.files before.parts before.check before.stale → (0 < more → before.blob ≤ number)
    → IsCounted after number → IsCounted before number ⊎ (before.blob ≤ number)
named_or_drawn before after number more count drawn named =
    ⊎_elim
    (λ (some : 0 < more). inr (drawn some))
    (λ (none : more ≤ 0). inl (omega (arith, named, count, none)))
    (cases_lt 0 more)

-- ---- texts

names_release : (ino : ℕ) (layout : Layout) → NamesOn layout (release ino layout)
names_release ino layout =
    names_same layout (release ino layout) refl
    (λ number l.
    omega (
      arith,
      removed_count (is_at (nat_cmp ino)) number layout.files,
      released_count (entry_of layout.files ino) number l,
      count-append (λ (other : ℕ). other == number) layout.stale (text_blob (entry_of layout.files ino)),
    ))

drawn_blob : (b : Bool) (blob number : ℕ) → blob ≤ number → number < blob + (if b then 1 else 0) → once (if b then blob else 0) number ≡ 1
drawn_blob true blob number l h = once_same blob number (omega (arith, l, h))
drawn_blob false blob number l h = absurd (omega (arith, l, h))

names_place : (ino : ℕ) (text : Text) (layout : Layout) → entry_of layout.files ino ≡ None → NamesOn layout (place ino text layout)
names_place ino text layout none =
    let entry : FileEntry = entry_for text layout.next layout.blob in
    let counted : (number : ℕ) → count_by (λ file. file.1.blob == number) (insert_entry nat_cmp layout.files ino entry)
    ≡ once entry.blob number + count_by (λ file. file.1.blob == number) layout.files =
    λ number. counted-insert_entry (λ (other : FileEntry). other.blob == number) nat_cmp layout.files ino entry
    (none_passes_from_lookup (is_at (nat_cmp ino)) layout.files none) in
    record {
      onward = omega arith;
      drawn = λ number l from to. omega (arith, counted number, drawn_blob text.has_bytes layout.blob number from to);
      kept = λ number l named. omega (arith, named, counted number);
      from = λ number l named.
          named_or_drawn layout (place ino text layout) number (once entry.blob number) (omega (arith, counted number))
          (drawn_once text.has_bytes layout.blob number l) named;
    }

names_without : (o : Option ℕ) (layout : Layout) → NamesOn layout (layout_without o layout)
names_without None layout = names_self layout
names_without (Some ino) layout = names_release ino layout

names_with : (o : Option ℕ) (text : List ℕ) (layout : Layout) → ((ino : ℕ) → o ≡ Some ino → entry_of layout.files ino ≡ None)
    → NamesOn layout (layout_with o text layout)
names_with None text layout none = names_self layout
names_with (Some ino) text layout none = names_place ino (indexed text) layout (none ino refl)

-- ---- flushes

names_flushed : (kept : List Posting) (layout : Layout) → NamesOn layout (flushed kept layout)
names_flushed [] layout = names_same layout (flushed [] layout) refl (λ number l. refl)
names_flushed (posting ∷ postings) layout =
    let part : Part = record { blob = layout.blob; generation = 0; postings = posting ∷ postings } in
    let counted : (number : ℕ) → count_by (λ p. p.blob == number) (layout.parts ++ part ∷ [])
    ≡ count_by (λ p. p.blob == number) layout.parts + once layout.blob number =
    λ number. omega (
      arith,
      count-append (λ (p : Part). p.blob == number) layout.parts (part ∷ []),
      count-cons (λ (p : Part). p.blob == number) part [],
    ) in
    record {
      onward = omega arith;
      drawn = λ number l from to. omega (arith, counted number, once_same layout.blob number (omega (arith, from, to)));
      kept = λ number l named. omega (arith, named, counted number);
      from = λ number l named.
          named_or_drawn layout (flushed (posting ∷ postings) layout) number (once layout.blob number) (omega (arith, counted number))
          (drawn_once true layout.blob number l) named;
    }

pub names_flush : (layout : Layout) → NamesOn layout (flush layout)
names_flush layout = names_flushed (live_of (ranges_of layout.files) layout.memory) layout

names_full : (flush_at : ℕ) (layout : Layout) → NamesOn layout (flush_if_full flush_at layout)
names_full flush_at layout =
    elim (nat_le flush_at (length layout.memory)) as (λ b. NamesOn layout (cond b (flush layout) layout)) [
      | true ↦ names_flush layout
      | false ↦ names_self layout
    ]

-- ---- background work

module _ (job : Job) (layout : Layout) (number : ℕ) where
  abbrev in_parts : List Part → ℕ
  in_parts parts = count_by (λ part. part.blob == number) parts

  abbrev ahead : List Part
  ahead = parts_before job layout.parts

  abbrev own : List Part
  own = parts_taken job layout.parts

  abbrev behind : List Part
  behind = parts_after job layout.parts

  parts_count : in_parts layout.parts ≡ in_parts ahead + (in_parts own + in_parts behind)
  parts_count =
      ap (λ (parts : List Part). in_parts parts) (parts_split job layout.parts)
      ∙ count-append (λ (p : Part). p.blob == number) ahead (own ++ behind)
      ∙ ap (λ (n : ℕ). in_parts ahead + n) (count-append (λ (p : Part). p.blob == number) own behind)

  stale_count : count_by (λ other. other == number) (layout.stale ++ map (λ part. part.blob) own)
      ≡ count_by (λ other. other == number) layout.stale + in_parts own
  stale_count =
      count-append (λ (other : ℕ). other == number) layout.stale (map (λ part. part.blob) own)
      ∙ ap (λ (n : ℕ). count_by (λ other. other == number) layout.stale + n)
      (sum_of_map (λ (other : ℕ). cond {A = ℕ} (other == number) 1 0) (λ (part : Part). part.blob) own)

-- what is made of a job's parts
abbrev made_part : Posting → List Posting → Job → Layout → Part
made_part posting postings job layout = record {
  blob = layout.blob;
  generation = made_generation (parts_taken job layout.parts);
  postings = posting ∷ postings;
}

names_replaced : (kept : List Posting) (job : Job) (layout : Layout) → NamesOn layout (replaced kept job layout)
names_replaced [] job layout =
    names_same layout (replaced [] job layout) refl
    (λ number l.
    omega (
      arith,
      parts_count job layout number,
      stale_count job layout number,
      count-append (λ (p : Part). p.blob == number) (parts_before job layout.parts) (parts_after job layout.parts),
    ))
names_replaced (posting ∷ postings) job layout =
    let part : Part = made_part posting postings job layout in
    let later : Layout = replaced (posting ∷ postings) job layout in
    let counted : (number : ℕ) → count_by (λ p. p.blob == number) later.parts
    ≡ count_by (λ p. p.blob == number) (parts_before job layout.parts)
    + (once layout.blob number + count_by (λ p. p.blob == number) (parts_after job layout.parts)) =
    λ number. count-append (λ (p : Part). p.blob == number) (parts_before job layout.parts) (part ∷ parts_after job layout.parts)
    ∙ ap (λ (n : ℕ). count_by (λ p. p.blob == number) (parts_before job layout.parts) + n)
    (count-cons (λ (p : Part). p.blob == number) part (parts_after job layout.parts)) in
    record {
      onward = omega arith;
      drawn = λ number l from to. omega (arith, counted number, once_same layout.blob number (omega (arith, from, to)));
      kept = λ number l named. omega (arith, named, counted number, parts_count job layout number, stale_count job layout number);
      from = λ number l named.
          named_or_drawn layout later number (once layout.blob number)
          (omega (arith, counted number, parts_count job layout number, stale_count job layout number))
          (drawn_once true layout.blob number l) named;
    }

names_term : (terms : List (List ℕ)) (job : Job) (layout : Layout) → NamesOn layout (with_terms_left terms job layout)
names_term [] job layout = names_replaced (live_of job.live (stored_in (parts_taken job layout.parts))) job layout
names_term (term ∷ terms) job layout =
    names_same layout (with_terms_left (term ∷ terms) job layout) refl (λ number l. refl)

names_unit : (o : Option Job) (layout : Layout) → NamesOn layout (unit_of o layout)
names_unit None layout = names_self layout
names_unit (Some job) layout = names_term (drop 1 job.terms_left) job layout

pub names_work : (n : ℕ) (layout : Layout) → NamesOn layout (work n layout)
names_work zero layout = names_self layout
names_work (suc n) layout =
    names_then layout (unit layout) (work n (unit layout)) (names_unit (job_of layout) layout) (names_work n (unit layout))

-- ---- a save

pub drawn_by_save : (kept : List Posting) (layout : Layout) (number : ℕ) → layout.blob ≤ number → number < (flushed kept layout).blob + 1
    → 0 < times_named number (flushed kept layout).files (flushed kept layout).parts (flushed kept layout).blob []
drawn_by_save [] layout number from to = omega (arith, once_same layout.blob number (omega (arith, from, to)))
drawn_by_save (posting ∷ postings) layout number from to =
    let part : Part = record { blob = layout.blob; generation = 0; postings = posting ∷ postings } in
    ⊎_elim
    (λ (low : number < layout.blob + 1).
    omega (
      arith,
      count-append (λ (p : Part). p.blob == number) layout.parts (part ∷ []),
      count-cons (λ (p : Part). p.blob == number) part [],
      once_same layout.blob number (omega (arith, from, low)),
    ))
    (λ (high : layout.blob + 1 ≤ number). omega (arith, once_same (layout.blob + 1) number (omega (arith, high, to))))
    (cases_lt number (layout.blob + 1))

-- a save names no other but those that were named before
pub named_by_save : (kept : List Posting) (layout : Layout) (number : ℕ) → 0 < number
    → 0 < times_named number (flushed kept layout).files (flushed kept layout).parts (flushed kept layout).blob []
    → IsCounted layout number ⊎ (layout.blob ≤ number)
named_by_save [] layout number l named =
    ⊎_elim
    (λ (some : 0 < once layout.blob number). inr (drawn_once true layout.blob number l some))
    (λ (none : once layout.blob number ≤ 0). inl (omega (arith, named, none)))
    (cases_lt 0 (once layout.blob number))
named_by_save (posting ∷ postings) layout number l named =
    let part : Part = record { blob = layout.blob; generation = 0; postings = posting ∷ postings } in
    ⊎_elim
    (λ (low : number < layout.blob).
    inl (omega (
      arith,
      named,
      count-append (λ (p : Part). p.blob == number) layout.parts (part ∷ []),
      count-cons (λ (p : Part). p.blob == number) part [],
      once_other layout.blob number (λ (same : layout.blob ≡ number). omega (arith, low, same)),
      once_other (layout.blob + 1) number (λ (same : layout.blob + 1 ≡ number). omega (arith, low, same)),
    )))
    (λ (high : layout.blob ≤ number). inr high)
    (cases_lt number layout.blob)

-- ---- events

-- a file's entry is gone with its range
none_without : (o : Option ℕ) (layout : Layout) → IsStrictlySortedBy nat_cmp (keys_of layout.files) → (ino : ℕ) → o ≡ Some ino
    → entry_of (layout_without o layout).files ino ≡ None
none_without None layout sorted ino e = absurd cc
none_without (Some gone) layout sorted ino e =
    let same : gone ≡ ino = cc in
    subst (λ (k : ℕ). entry_of (release gone layout).files k ≡ None) same (none_after_removal layout.files gone sorted)

module _ (s : State) (is : IsState s) (tree : FileSystem) (effect : Effect) (tells : TellsFiles s.tree effect tree)
    (change : ChangesFiles s.tree effect) (text : List ℕ) where
  abbrev dropped_layout : Layout
  dropped_layout = layout_without effect.dropped s.layout

  abbrev made_layout : Layout
  made_layout = layout_with effect.made [] dropped_layout

  abbrev freed_layout : Layout
  freed_layout = layout_without effect.texted made_layout

  names_effect : NamesOn s.layout (layout_after effect text s.layout)
  names_effect =
      names_then s.layout freed_layout (layout_after effect text s.layout)
      (names_then s.layout made_layout freed_layout
      (names_then s.layout dropped_layout made_layout
      (names_without effect.dropped s.layout)
      (names_with effect.made [] dropped_layout
      (λ ino e. not_some (entry_of dropped_layout.files ino)
      ((left_kept s tree effect tells change text is.layout).ranges.of_files ino
      ∙ made_absent s tree effect tells change text is.layout ino e))))
      (names_without effect.texted made_layout))
      (names_with effect.texted text freed_layout
      (none_without effect.texted made_layout (made_kept s tree effect tells change text is.layout).ranges.by_number))

pub names_event : (flush_at : ℕ) (s : State) (event : Event) (text : List ℕ) → IsState s
    → NamesOn s.layout (after_event flush_at s event text).layout
names_event flush_at s event text is =
    after_cases flush_at s event text (λ t. NamesOn s.layout t.layout)
    (names_self s.layout)
    (λ tree effect e.
    names_then s.layout (layout_after effect text s.layout) (flush_if_full flush_at (layout_after effect text s.layout))
    (names_effect s is tree effect (effects_tell_files s.tree is.tree event tree effect e) (changes s.tree event tree effect e).1 text)
    (names_full flush_at (layout_after effect text s.layout)))
