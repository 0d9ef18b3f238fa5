-- No step touches a blob that was left before it without a name: what is put has a number that is drawn, and what is removed was named.
use Rattle.std.proofs.Common.{◌≡◌, ◌⊎◌, inl, inr, ⊎_elim, ℕ, zero, suc, ◌+◌, ◌<◌, ◌≤◌, ◌==◌, List, [], ◌∷◌, ◌++◌, Option, None, Some, refl}
use Rattle.std.proofs.Common.{sym, ap, ◌∙◌, subst, arith}
use Rattle.std.specs.Prelude.{Contains, count_by}
use Rattle.std.proofs.lemmas.Bool.{cases_eq, cases_lt, eq-eqb, ne_eqb}
use Rattle.wu_base.proofs.Members.{Has, Has-from_Contains}
use Rattle.wu_outside.specs.Content.{Content}
use Rattle.wu_layout.specs.Layouts.{Layout}
use Rattle.wu_layout.specs.Steps.{flush}
use Rattle.wu_layout.proofs.BlobLemmas.{count-append, count-cons, once_same}
use Rattle.wu_parts.specs.Contents.{Contents}
use Rattle.wu_script.specs.Commands.{Flush, Save, Stat, Work}
use Rattle.wu_script.specs.Said.{Asks, Happens, IsRefused, Operates, Said, SaysNothing}
use Rattle.wu_query.specs.States.{State, IsState}
use Rattle.wu_engine.specs.declared.engines.Engine.{Engine}
use Rattle.wu_engine.specs.Naming.{IsNamed}
use Rattle.wu_engine.specs.Saving.{KeepsNamed, checkpoint_blob, removed_by_save}
use Rattle.wu_engine.specs.Stands.{KeepsOthers}
use Rattle.wu_engine.proofs.NamedBlobs.{event_names, flush_names, save_names_from, work_names}
use Rattle.wu_engine.proofs.SavedContents.{checkpoint_count}
use Rattle.wumpus_run.specs.Kept.{TouchesNoStray}
use Rattle.wumpus_run.specs.Replies.{after}
use Rattle.wumpus_run.specs.Session.{KeepsStrays}
use Rattle.wumpus_run.specs.Strays.{NamesFrom, SparesStrays, TouchesNone}

-- ---- what is named after an item

names_self : (layout : Layout) → NamesFrom layout layout
names_self layout = (omega arith, λ blob named. inl named)

-- what an item leaves named was named before it, or was drawn for it
pub names_after : (flush_at : ℕ) (s : State) (said : Said) → IsState s → NamesFrom s.layout (after flush_at s said).layout
names_after flush_at s (Happens event text) is =
    let names = event_names flush_at s event text is in
    (names.onward, names.from)
names_after flush_at s (Asks uid question) is = names_self s.layout
names_after flush_at s (Operates Flush) is =
    let names = flush_names s is in
    (names.onward, names.from)
names_after flush_at s (Operates (Work units)) is =
    let names = work_names units s is in
    (names.onward, names.from)
names_after flush_at s (Operates Stat) is = names_self s.layout
names_after flush_at s (Operates Save) is =
    let up : s.layout.blob ≤ (flush s.layout).blob + 1 = omega (arith, (flush_names s is).onward) in
    (up, save_names_from s)
names_after flush_at s (IsRefused why) is = names_self s.layout
names_after flush_at s SaysNothing is = names_self s.layout

-- ---- from the start on

strays_same : (start : Layout) (first : Option Content) → KeepsStrays start first first
strays_same start None = tt
strays_same start (Some first) = λ blob below none. refl

-- where the store holds what it held
pub strays_alone : (start : Layout) (before after : Option Content) → after ≡ before → KeepsStrays start before after
strays_alone start before after same = subst (KeepsStrays start before) (sym same) (strays_same start before)

pub spared_at_first : (start : Layout) (first now : Option Content) → now ≡ first → SparesStrays start first start now
spared_at_first start first now same = record {
  same = strays_alone start first now same;
  names = names_self start;
}

pub spared_then : (start : Layout) (first between now : Option Content) (layout later : Layout)
    → SparesStrays start first layout between → TouchesNone layout between now → NamesFrom layout later
    → SparesStrays start first later now
spared_then start first between now layout later so_far touches names = record {
  same = touches start first so_far;
  names = (
    omega (arith, so_far.names.0, names.0),
    λ blob named.
        ⊎_elim
        (λ (was : IsNamed layout blob). so_far.names.1 blob was)
        (λ (drawn : layout.blob ≤ blob). inr (omega (arith, so_far.names.0, drawn)))
        (names.1 blob named),
  );
}

-- ---- a call

-- what leaves the store alone touches none
pub touches_alone : (engine : Engine) (before after : Option Content) → after ≡ before → TouchesNoStray engine before after
touches_alone engine before after same = λ s stands start first so_far. subst (KeepsStrays start first) (sym same) so_far.same

-- nor does what changes only blobs that may be drawn
drawn_alone : (start layout : Layout) (low high : ℕ) (first before after : Option Content) → low ≡ layout.blob
    → start.blob ≤ layout.blob → KeepsOthers low high before after → KeepsStrays start first before → KeepsStrays start first after
drawn_alone start layout low high None before after next up keeps same = tt
drawn_alone start layout low high (Some first) None after next up keeps same = absurd same
drawn_alone start layout low high (Some first) (Some before) None next up keeps same = keeps
drawn_alone start layout low high (Some first) (Some before) (Some after) next up keeps same = λ blob below none.
    keeps.0 blob (inl (omega (arith, below, up, next))) ∙ same blob below none

pub touches_drawn : (engine : Engine) (high : ℕ) (before after : Option Content)
    → KeepsOthers engine.parts.next_blob high before after → TouchesNoStray engine before after
touches_drawn engine high before after keeps = λ s stands start first so_far.
    drawn_alone start s.layout engine.parts.next_blob high first before after stands.index.next_blob so_far.names.0 keeps so_far.same

-- ---- a save

counted_has : (number : ℕ) (gone : List ℕ) → Has number gone → 0 < count_by (λ other. other == number) gone
counted_has number [] has = absurd has
counted_has number (blob ∷ gone) has =
    ⊎_elim
    (λ (same : blob ≡ number).
    omega (arith, count-cons (λ (other : ℕ). other == number) blob gone, once_same blob number same))
    (λ more. omega (arith, count-cons (λ (other : ℕ). other == number) blob gone, counted_has number gone more))
    has

-- 0 is no checkpoint's
checkpoint_not_zero : (check : ℕ) → count_by (λ other. other == 0) (checkpoint_blob check) ≡ 0
checkpoint_not_zero check =
    ⊎_elim
    (λ e. rw (eq-eqb check 0 e) refl)
    (λ h. rw (ne_eqb check 0 h) (count-cons (λ (other : ℕ). other == 0) check [] ∙ rw (ne_eqb check 0 h) refl))
    (cases_eq check 0)

module _ (s : State) (is : IsState s) (contents : Contents) (checkpoint : ℕ) (stale : contents.stale ≡ s.layout.stale)
    (check : checkpoint ≡ s.layout.check) where
  abbrev gone : List ℕ
  gone = s.layout.stale ++ checkpoint_blob s.layout.check

  gone_named : (number : ℕ) → 0 < count_by (λ other. other == number) gone → IsNamed s.layout number
  gone_named zero some =
      absurd (omega (
        arith,
        some,
        count-append (λ (other : ℕ). other == 0) s.layout.stale (checkpoint_blob s.layout.check),
        is.layout.blobs.of_stale,
        checkpoint_not_zero s.layout.check,
      ))
  gone_named (suc number) some =
      let positive : 0 < suc number = omega arith in (
        positive,
        omega (
          arith,
          some,
          count-append (λ (other : ℕ). other == suc number) s.layout.stale (checkpoint_blob s.layout.check),
          checkpoint_count s.layout.check (suc number) positive,
        ),
      )

  -- what a save removes is named by the state
  removed_named : (number : ℕ) → Contains (removed_by_save contents checkpoint) number → IsNamed s.layout number
  removed_named number has =
      let same : removed_by_save contents checkpoint ≡ gone =
      ap (λ (blobs : List ℕ). blobs ++ checkpoint_blob checkpoint) stale
      ∙ ap (λ (n : ℕ). s.layout.stale ++ checkpoint_blob n) check in
      gone_named number
      (counted_has number gone (Has-from_Contains number gone (subst (λ (blobs : List ℕ). Contains blobs number) same has)))

  -- each blob is named by it, or not removed
  pub named_or_kept : (number : ℕ)
      → IsNamed s.layout number ⊎ (Contains (removed_by_save contents checkpoint) number → ⊥)
  named_or_kept number =
      let same : removed_by_save contents checkpoint ≡ gone =
      ap (λ (blobs : List ℕ). blobs ++ checkpoint_blob checkpoint) stale
      ∙ ap (λ (n : ℕ). s.layout.stale ++ checkpoint_blob n) check in
      ⊎_elim
      (λ (some : 0 < count_by (λ other. other == number) gone). inl (gone_named number some))
      (λ (none : count_by (λ other. other == number) gone ≤ 0). inr (λ has. omega (
        arith,
        none,
        counted_has number gone (Has-from_Contains number gone (subst (λ (blobs : List ℕ). Contains blobs number) same has)),
      )))
      (cases_lt 0 (count_by (λ other. other == number) gone))

  save_alone : (start : Layout) (low high : ℕ) (first before after : Option Content) → low ≡ s.layout.blob
      → NamesFrom start s.layout → KeepsNamed low high (removed_by_save contents checkpoint) before after
      → KeepsStrays start first before → KeepsStrays start first after
  save_alone start low high None before after next names keeps same = tt
  save_alone start low high (Some first) None after next names keeps same = absurd same
  save_alone start low high (Some first) (Some before) None next names keeps same = keeps
  save_alone start low high (Some first) (Some before) (Some after) next names keeps same = λ blob below none.
      keeps blob (inl (omega (arith, below, names.0, next)))
      (λ has.
      ⊎_elim
      (λ (named : IsNamed start blob). none named)
      (λ (drawn : start.blob ≤ blob). absurd (omega (arith, drawn, below)))
      (names.1 blob (removed_named blob has)))
      ∙ same blob below none

pub touches_saved : (engine : Engine) (high : ℕ) (before after : Option Content)
    → KeepsNamed engine.parts.next_blob high (removed_by_save engine.parts engine.checkpoint) before after
    → TouchesNoStray engine before after
touches_saved engine high before after keeps = λ s stands start first so_far.
    save_alone s stands.index.is_state engine.parts engine.checkpoint stands.index.stale stands.check start
    engine.parts.next_blob high first before after stands.index.next_blob so_far.names keeps so_far.same
