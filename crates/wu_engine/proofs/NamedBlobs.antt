-- No step leaves a blob without a name: each that was drawn is named by a text, a part, the checkpoint, or as one that is no longer needed.
use Rattle.std.proofs.Common.{◌≡◌, ◌⊎◌, inl, inr, ℕ, ◌+◌, ◌<◌, ◌≤◌, ◌==◌, List, [], ◌∷◌, ◌++◌, count_by, Option, None, Some, ap, ◌∙◌, subst}
use Rattle.std.proofs.Common.{⊎_elim, arith}
use Rattle.std.specs.Prelude.{IsSome}
use Rattle.std.specs.List.{AllByRecursion}
use Rattle.std.proofs.lemmas.Bool.{cases_eq, cases_lt, false≢true}
use Rattle.wu_outside.specs.Content.{Content}
use Rattle.wu_tree.specs.declared.events.Event.{Event}
use Rattle.wu_layout.specs.Postings.{Posting, live_of}
use Rattle.wu_layout.specs.Layouts.{Layout, Part, ranges_of}
use Rattle.wu_layout.specs.Invariants.{times_named}
use Rattle.wu_layout.specs.Steps.{flush, flushed, rest, work}
use Rattle.wu_layout.proofs.BlobLemmas.{count-append, count-cons, once_other}
use Rattle.wu_parts.specs.Contents.{Contents}
use Rattle.wu_query.specs.States.{State, IsState}
use Rattle.wu_engine.specs.Naming.{AddsNamed, HasNoStray, IsNamed}
use Rattle.wu_engine.specs.Saving.{AreRemoved, checkpoint_blob, removed_by_save}
use Rattle.wu_engine.specs.States.{after_event, flushed_state, saved_state, worked_state}
use Rattle.wu_engine.proofs.SavedContents.{checkpoint_count}
use Rattle.wu_engine.proofs.BlobNames.{IsCounted, NamesOn, drawn_by_save, named_by_save, names_event, names_flush, names_work}

-- ---- what a step leaves named

-- The blobs that were drawn on the way are named, and so are those that were named before, but no others.
pub record KeepsNames (before after : Layout) : Type 0 where
  pub drawn : (number : ℕ) → before.blob ≤ number → number < after.blob → IsNamed after number
  pub kept : (number : ℕ) → IsNamed before number → IsNamed after number
  pub onward : before.blob ≤ after.blob
  pub from : (number : ℕ) → IsNamed after number → IsNamed before number ⊎ (before.blob ≤ number)

keeps : (s : State) (after : Layout) → IsState s → NamesOn s.layout after → KeepsNames s.layout after
keeps s after is names = record {
  drawn = λ number from to.
      let positive : 0 < number = omega (arith, is.layout.blobs.positive, from) in
      (positive, names.drawn number positive from to);
  kept = λ number named. (named.0, names.kept number named.0 named.1);
  onward = names.onward;
  from = λ number named.
      ⊎_elim
      (λ (was : IsCounted s.layout number). inl (named.0, was))
      (λ (drawn : s.layout.blob ≤ number). inr drawn)
      (names.from number named.0 named.1);
}

pub event_names : (flush_at : ℕ) (s : State) (event : Event) (text : List ℕ) → IsState s
    → KeepsNames s.layout (after_event flush_at s event text).layout
event_names flush_at s event text is = keeps s (after_event flush_at s event text).layout is (names_event flush_at s event text is)

pub flush_names : (s : State) → IsState s → KeepsNames s.layout (flushed_state s).layout
flush_names s is = keeps s (flush s.layout) is (names_flush s.layout)

pub work_names : (n : ℕ) (s : State) → IsState s → KeepsNames s.layout (worked_state n s).layout
work_names n s is = keeps s (work n s.layout) is (names_work n s.layout)

-- a save names the blobs that it draws: the part's, and the checkpoint's
pub save_names : (s : State) → IsState s → (number : ℕ) → s.layout.blob ≤ number → number < (saved_state s).layout.blob
    → IsNamed (saved_state s).layout number
save_names s is number from to = (
  omega (arith, is.layout.blobs.positive, from),
  drawn_by_save (live_of (ranges_of s.layout.files) s.layout.memory) s.layout number from to,
)

-- and no other but those that were named before
pub save_names_from : (s : State) (number : ℕ) → IsNamed (saved_state s).layout number
    → IsNamed s.layout number ⊎ (s.layout.blob ≤ number)
save_names_from s number named =
    ⊎_elim
    (λ (was : IsCounted s.layout number). inl (named.0, was))
    (λ (drawn : s.layout.blob ≤ number). inr drawn)
    (named_by_save (live_of (ranges_of s.layout.files) s.layout.memory) s.layout number named.0 named.1)

-- ---- no stray blobs

-- at first a blob is named, or it is one that the first layout doesn't name
pub no_stray_at_first : (start : Layout) (first : Option Content) → HasNoStray start first start first
no_stray_at_first start None = tt
no_stray_at_first start (Some first) = λ blob some.
    ⊎_elim
    (λ (none : blob < 1). inr (some, λ named. omega (arith, none, named.0)))
    (λ (positive : 1 ≤ blob).
    ⊎_elim
    (λ (named : IsCounted start blob). inl (positive, named))
    (λ (none : times_named blob start.files start.parts start.check start.stale ≤ 0).
    inr (some, λ named. omega (arith, none, named.1)))
    (cases_lt 0 (times_named blob start.files start.parts start.check start.stale)))
    (cases_lt blob 1)

-- a step adds only blobs that the layout names after it, and what was named before is named after it
no_stray_then : (start old new : Layout) (first now after : Option Content)
    → ((number : ℕ) → IsNamed old number → IsNamed new number) → AddsNamed new now after
    → HasNoStray start first old now → HasNoStray start first new after
no_stray_then start old new None now after kept adds none = tt
no_stray_then start old new (Some first) None after kept adds none = absurd none
no_stray_then start old new (Some first) (Some now) None kept adds none = adds
no_stray_then start old new (Some first) (Some now) (Some after) kept adds none = λ blob some.
    ⊎_elim
    (λ there.
    ⊎_elim
    (λ (named : IsNamed old blob). inl (kept blob named))
    (λ (other : IsSome (first.blobs blob) × (IsNamed start blob → ⊥)). inr other)
    (none blob there))
    (λ (named : IsNamed new blob). inl named)
    (adds blob some)

pub no_stray_after_event : (start : Layout) (flush_at : ℕ) (s : State) (event : Event) (text : List ℕ) → IsState s
    → (first now after : Option Content) → AddsNamed (after_event flush_at s event text).layout now after
    → HasNoStray start first s.layout now → HasNoStray start first (after_event flush_at s event text).layout after
no_stray_after_event start flush_at s event text is first now after =
    no_stray_then start s.layout (after_event flush_at s event text).layout first now after
    (event_names flush_at s event text is).kept

pub no_stray_after_flush : (start : Layout) (s : State) → IsState s → (first now after : Option Content)
    → AddsNamed (flushed_state s).layout now after → HasNoStray start first s.layout now
    → HasNoStray start first (flushed_state s).layout after
no_stray_after_flush start s is first now after =
    no_stray_then start s.layout (flushed_state s).layout first now after (flush_names s is).kept

pub no_stray_after_work : (start : Layout) (n : ℕ) (s : State) → IsState s → (first now after : Option Content)
    → AddsNamed (worked_state n s).layout now after → HasNoStray start first s.layout now
    → HasNoStray start first (worked_state n s).layout after
no_stray_after_work start n s is first now after =
    no_stray_then start s.layout (worked_state n s).layout first now after (work_names n s is).kept

-- a job names no blob
pub no_stray_rested : (start layout : Layout) (first now : Option Content) → HasNoStray start first layout now
    → HasNoStray start first (rest layout) now
no_stray_rested start layout None now none = tt
no_stray_rested start layout (Some first) None none = none
no_stray_rested start layout (Some first) (Some now) none = none

-- ---- and a save

-- a save removes what only the checkpoint's number and the stale ones named
kept_by_save : (kept : List Posting) (layout : Layout) (number : ℕ)
    → 0 < count_by (λ file. file.1.blob == number) layout.files + count_by (λ part. part.blob == number) layout.parts
    → 0 < times_named number (flushed kept layout).files (flushed kept layout).parts (flushed kept layout).blob []
kept_by_save [] layout number named = omega (arith, named)
kept_by_save (posting ∷ postings) layout number named =
    let part : Part = record { blob = layout.blob; generation = 0; postings = posting ∷ postings } in
    omega (arith, named, count-append (λ (p : Part). p.blob == number) layout.parts (part ∷ []))

-- what is removed is absent
removed_absent : (content : Content) (gone : List ℕ) (number : ℕ) → AllByRecursion (λ blob. content.blobs blob ≡ None) gone
    → 0 < count_by (λ other. other == number) gone → content.blobs number ≡ None
removed_absent content [] number absent some = absurd (omega (arith, some))
removed_absent content (blob ∷ gone) number absent some =
    ⊎_elim
    (λ (same : blob ≡ number). subst (λ (n : ℕ). content.blobs n ≡ None) same absent.0)
    (λ other. removed_absent content gone number absent.1
    (omega (arith, some, count-cons (λ (n : ℕ). n == number) blob gone, once_other blob number other)))
    (cases_eq blob number)

none_is_there : (o : Option (List ℕ)) → o ≡ None → IsSome o → ⊥
none_is_there None e some = false≢true some
none_is_there (Some bytes) e some = absurd cc

pub no_stray_after_save : (start : Layout) (s : State) (contents : Contents) (checkpoint : ℕ) → contents.stale ≡ s.layout.stale
    → checkpoint ≡ s.layout.check → (first now after : Option Content) → AddsNamed (saved_state s).layout now after
    → AreRemoved (removed_by_save contents checkpoint) after → HasNoStray start first s.layout now
    → HasNoStray start first (saved_state s).layout after
no_stray_after_save start s contents checkpoint stale check None now after adds removed none = tt
no_stray_after_save start s contents checkpoint stale check (Some first) None after adds removed none = absurd none
no_stray_after_save start s contents checkpoint stale check (Some first) (Some now) None adds removed none = adds
no_stray_after_save start s contents checkpoint stale check (Some first) (Some now) (Some after) adds removed none = λ blob some.
    let gone : List ℕ = s.layout.stale ++ checkpoint_blob s.layout.check in
    let same : removed_by_save contents checkpoint ≡ gone =
    ap (λ (blobs : List ℕ). blobs ++ checkpoint_blob checkpoint) stale
    ∙ ap (λ (n : ℕ). s.layout.stale ++ checkpoint_blob n) check in
    let absent : AllByRecursion (λ number. after.blobs number ≡ None) gone =
    subst (AllByRecursion (λ number. after.blobs number ≡ None)) same removed in
    ⊎_elim
    (λ there.
    ⊎_elim
    (λ (named : IsNamed s.layout blob).
    ⊎_elim
    (λ (lost : 0 < count_by (λ other. other == blob) gone).
    absurd (none_is_there (after.blobs blob) (removed_absent after gone blob absent lost) some))
    (λ (left : count_by (λ other. other == blob) gone ≤ 0).
    inl (
      named.0,
      kept_by_save (live_of (ranges_of s.layout.files) s.layout.memory) s.layout blob
          (omega (
            arith,
            named.1,
            left,
            count-append (λ (other : ℕ). other == blob) s.layout.stale (checkpoint_blob s.layout.check),
            checkpoint_count s.layout.check blob named.0,
          )),
    ))
    (cases_lt 0 (count_by (λ other. other == blob) gone)))
    (λ (other : IsSome (first.blobs blob) × (IsNamed start blob → ⊥)). inr other)
    (none blob there))
    (λ (named : IsNamed (saved_state s).layout blob). inl named)
    (adds blob some)
