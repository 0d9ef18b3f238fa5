-- Each blob that a call adds to a store has a number that the call drew, and the state names it afterwards.
use Rattle.std.proofs.Common.{◌≡◌, ◌⊎◌, inl, inr, ⊎_elim, ℕ, zero, suc, ◌+◌, ◌<◌, ◌≤◌, ◌==◌, Bool, true, false, cond, List, [], ◌∷◌, ◌++◌}
use Rattle.std.proofs.Common.{length, map, refl, ap, sym, ◌∙◌, subst, arith}
use Rattle.std.specs.Prelude.{⊤, Option, Some, None, IsSome, nat_le, option_map}
use Rattle.std.proofs.lemmas.Bool.{cases_eq, false≢true, ne_eqb}
use Rattle.wu_outside.specs.declared.ranges.ReadRange.{ReadRange}
use Rattle.wu_outside.specs.Content.{Content, with_blob, with_root}
use Rattle.wu_layout.specs.Postings.{Posting, Ascend, live_of, placed_from}
use Rattle.wu_layout.specs.Layouts.{Layout, stored_in}
use Rattle.wu_layout.proofs.HomeLemmas.{postings_split}
use Rattle.wu_layout.proofs.PostingLemmas.{Ascend-split}
use Rattle.wu_tree.specs.declared.events.Effect.{Effect}
use Rattle.wu_tree.specs.FileSystems.{FileSystem}
use Rattle.wu_space.specs.Addresses.{Addresses, Ranges}
use Rattle.wu_parts.specs.Contents.{Contents}
use Rattle.wu_parts.specs.Flushing.{Flushes, Told}
use Rattle.wu_parts.specs.Memory.{Gains, HasPostings, Memory}
use Rattle.wu_parts.specs.Units.{DoUnits, DoesUnit, GoesOn, IsMade, Vanishes}
use Rattle.wu_query.specs.Records.{Records}
use Rattle.wu_query.specs.States.{State, IsState}
use Rattle.wu_engine.specs.Indexing.{Follows, FlushesIfFull, is_stored, terms_after}
use Rattle.wu_engine.specs.Naming.{AddsNamed, IsNamed}
use Rattle.wu_engine.specs.SavedStores.{Saves, all_done, remove_blob}
use Rattle.wu_engine.specs.Saving.{removed_by_save}
use Rattle.wu_engine.specs.Stands.{IsEngineOf}
use Rattle.wu_engine.specs.States.{saved_state}
use Rattle.wu_engine.proofs.FlushLemmas.{memory_held}
use Rattle.wu_engine.proofs.IndexLemmas.{postings_gained}
use Rattle.wu_engine.proofs.NamedBlobs.{KeepsNames, save_names}

-- each blob that is there afterwards was there before, or its number is from the low one on and below the high one
abbrev pub AddsFrom : ℕ → ℕ → Option Content → Option Content → Type 0
AddsFrom low high None after = ⊤
AddsFrom low high (Some before) None = ⊥
AddsFrom low high (Some before) (Some after) =
    (blob : ℕ) → IsSome (after.blobs blob) → IsSome (before.blobs blob) ⊎ ((low ≤ blob) × (blob < high))

-- the numbers from the low one on and below the high one were drawn, and a blob that is new has one of these
pub record Draws (low high : ℕ) (before after : Option Content) : Type 0 where
  pub rises : low ≤ high
  pub added : AddsFrom low high before after

-- ---- single steps

adds_none : (low high : ℕ) (told : Option Content) → AddsFrom low high told told
adds_none low high None = tt
adds_none low high (Some content) = λ blob some. inl some

pub draws_none : (low high : ℕ) (before after : Option Content) → high ≡ low → after ≡ before → Draws low high before after
draws_none low high before after up same = record {
  rises = omega (arith, up);
  added = subst (AddsFrom low high before) (sym same) (adds_none low high before);
}

put_adds : (low high : ℕ) (bytes : List ℕ) (told : Option Content) → high ≡ low + 1
    → AddsFrom low high told (option_map (with_blob low (Some bytes)) told)
put_adds low high bytes None up = tt
put_adds low high bytes (Some content) up = λ blob some.
    ⊎_elim
    (λ (same : blob ≡ low). inr (omega (arith, same), omega (arith, same, up)))
    (λ other. inl (subst (λ (b : Bool). IsSome (cond b (Some bytes) (content.blobs blob))) (ne_eqb blob low other) some))
    (cases_eq blob low)

pub draws_put : (low high : ℕ) (bytes : List ℕ) (before after : Option Content) → high ≡ low + 1
    → after ≡ option_map (with_blob low (Some bytes)) before → Draws low high before after
draws_put low high bytes before after up put = record {
  rises = omega (arith, up);
  added = subst (AddsFrom low high before) (sym put) (put_adds low high bytes before up);
}

adds_then : (low middle high : ℕ) (before between after : Option Content) → low ≤ middle → middle ≤ high
    → AddsFrom low middle before between → AddsFrom middle high between after → AddsFrom low high before after
adds_then low middle high None between after l h first second = tt
adds_then low middle high (Some before) None after l h first second = absurd first
adds_then low middle high (Some before) (Some between) None l h first second = second
adds_then low middle high (Some before) (Some between) (Some after) l h first second = λ blob some.
    ⊎_elim
    (λ there.
    ⊎_elim
    (λ (before_it : IsSome (before.blobs blob)). inl before_it)
    (λ (drawn : (low ≤ blob) × (blob < middle)). inr (drawn.0, omega (arith, drawn.1, h)))
    (first blob there))
    (λ (drawn : (middle ≤ blob) × (blob < high)). inr (omega (arith, drawn.0, l), drawn.1))
    (second blob some)

pub draws_then : (low middle high : ℕ) (before between after : Option Content) → Draws low middle before between
    → Draws middle high between after → Draws low high before after
draws_then low middle high before between after first second = record {
  rises = omega (arith, first.rises, second.rises);
  added = adds_then low middle high before between after first.rises second.rises first.added second.added;
}

-- ---- flushes

pub flush_draws : (live : List Posting) (old new : Contents) (before after : Told) → Flushes live old new before after
    → Draws old.next_blob new.next_blob before.0 after.0
flush_draws [] old new before after done =
    draws_none old.next_blob new.next_blob before.0 after.0 (ap (λ (c : Contents). c.next_blob) done.0) (ap (λ (t : Told). t.0) done.1)
flush_draws (posting ∷ postings) old new before after done =
    draws_put old.next_blob new.next_blob done.bytes before.0 after.0 (ap (λ (c : Contents). c.next_blob) done.contents)
    (ap (λ (t : Told). t.0) done.stored)

if_full_draws : (full : Bool) (live : List Posting) (old new : Contents) (before after : Told)
    → FlushesIfFull full live old new before after → Draws old.next_blob new.next_blob before.0 after.0
if_full_draws true live old new before after done = flush_draws live old new before after done
if_full_draws false live old new before after done =
    draws_none old.next_blob new.next_blob before.0 after.0 (ap (λ (c : Contents). c.next_blob) done.0) (ap (λ (t : Told). t.0) done.1)

pub flushed_draws : (fs : FileSystem) (space : Addresses) (parts : Contents) (files : Records) (s : State)
    → IsEngineOf fs space parts files s → (parts_now : Contents) (before after : Told)
    → ((low high : ℕ) (postings : List Posting) → HasPostings low high parts.memory postings
    → Flushes (live_of (map (λ file. file.1) space.ranges) postings) parts parts_now before after)
    → Draws parts.next_blob parts_now.next_blob before.0 after.0
flushed_draws fs space parts files s index parts_now before after done =
    let has = memory_held fs space parts files s index in
    flush_draws (live_of (map (λ file. file.1) space.ranges) s.layout.memory) parts parts_now before after
    (done has.0 has.1.0 s.layout.memory has.1.1)

-- ---- events

-- memory then has the state's postings and those of the terms
memory_gained : (fs : FileSystem) (space : Addresses) (parts : Contents) (files : Records) (s : State)
    → IsEngineOf fs space parts files s → (terms : List (List ℕ)) (memory : Memory) → Gains space.next terms parts.memory memory
    → (low : ℕ) × HasPostings low (space.next + length terms) memory (s.layout.memory ++ placed_from space.next terms)
memory_gained fs space parts files s index terms memory gained =
    let all : Ascend 0 s.layout.next (stored_in s.layout.parts ++ s.layout.memory) =
    subst (Ascend 0 s.layout.next) (postings_split s.layout.parts s.layout.memory) index.is_state.layout.addresses.ascend in
    let two = Ascend-split 0 s.layout.next (stored_in s.layout.parts) s.layout.memory all in (
      two.0,
      postings_gained two.0 s.layout.next space.next terms parts.memory memory s.layout.memory (omega (arith, index.next)) gained
          (record { addresses = index.memory; stored = index.stored; ascend = two.1.1 }),
    )

stored_draws : (b : Bool) (text : List ℕ) (low high : ℕ) (before after : Option Content) → high ≡ low + (cond b 1 0)
    → after ≡ option_map (λ content. cond b (with_blob low (Some text) content) content) before → Draws low high before after
stored_draws true text low high before after up put = draws_put low high text before after up put
stored_draws false text low high before after up put =
    draws_none low high before after (omega (arith, up)) (put ∙ unchanged before)
  where
    unchanged : (told : Option Content) → option_map (λ content. content) told ≡ told
    unchanged None = refl
    unchanged (Some content) = refl

pub event_draws : (fs : FileSystem) (space : Addresses) (parts : Contents) (files : Records) (s : State)
    → IsEngineOf fs space parts files s → (effect : Effect) (text : List ℕ) (space_now : Addresses) (files_now : Records)
    (parts_now : Contents) (before after : Told)
    → Follows effect text space space_now files files_now parts parts_now before after
    → Draws parts.next_blob parts_now.next_blob before.0 after.0
event_draws fs space parts files s index effect text space_now files_now parts_now before after f =
    let terms : List (List ℕ) = terms_after effect text in
    let postings : List Posting = s.layout.memory ++ placed_from space.next terms in
    let has = memory_gained fs space parts files s index terms f.indexed.memory f.gained in
    draws_then parts.next_blob f.indexed.next_blob parts_now.next_blob before.0 f.between.0 after.0
    (stored_draws (is_stored effect.texted text) text parts.next_blob f.indexed.next_blob before.0 f.between.0
    (ap (λ (c : Contents). c.next_blob) f.others) f.stored)
    (if_full_draws (nat_le f.indexed.flush_at f.indexed.memory.stored)
    (live_of (map (λ file. file.1) space_now.ranges) postings) f.indexed parts_now f.between after
    (f.flushed.postings has.0 (space.next + length terms) postings has.1))

-- ---- background work

unit_draws : (ranges : Ranges) (old new : Contents) (before after : Told) (read : List ReadRange)
    → DoesUnit ranges old new before after read → Draws old.next_blob new.next_blob before.0 after.0
unit_draws ranges old new before after read unit =
    ⊎_elim
    (λ (on : GoesOn unit.job.place unit.state old new before after).
    draws_none old.next_blob new.next_blob before.0 after.0 (ap (λ (c : Contents). c.next_blob) on.contents)
    (ap (λ (t : Told). t.0) on.stored))
    (λ ends.
    ⊎_elim
    (λ (gone : Vanishes unit.job.place unit.state old new before after).
    draws_none old.next_blob new.next_blob before.0 after.0 (ap (λ (c : Contents). c.next_blob) gone.contents)
    (ap (λ (t : Told). t.0) gone.stored))
    (λ (made : IsMade unit.job.place unit.state old new before after).
    draws_put old.next_blob new.next_blob made.bytes before.0 after.0 (ap (λ (c : Contents). c.next_blob) made.contents)
    (ap (λ (t : Told). t.0) made.stored))
    ends)
    unit.leaves

pub units_draw : (ranges : Ranges) (n : ℕ) (old new : Contents) (before after : Told) (read : List ReadRange)
    → DoUnits ranges n old new before after read → Draws old.next_blob new.next_blob before.0 after.0
units_draw ranges zero old new before after read done =
    draws_none old.next_blob new.next_blob before.0 after.0 (ap (λ (c : Contents). c.next_blob) done.0) (ap (λ (t : Told). t.0) done.1.0)
units_draw ranges (suc n) old new before after read (middle, told, earlier, last, first, unit, same) =
    draws_then old.next_blob middle.next_blob new.next_blob before.0 told.0 after.0
    (units_draw ranges n old middle before told earlier first)
    (unit_draws ranges middle new told after last unit)

-- ---- what the state names

-- blobs of numbers that the layout names were added
pub added_named : (layout : Layout) (low high : ℕ) (before after : Option Content)
    → ((number : ℕ) → low ≤ number → number < high → IsNamed layout number) → AddsFrom low high before after
    → AddsNamed layout before after
added_named layout low high None after names adds = tt
added_named layout low high (Some before) None names adds = adds
added_named layout low high (Some before) (Some after) names adds = λ blob some.
    ⊎_elim
    (λ (there : IsSome (before.blobs blob)). inl there)
    (λ (drawn : (low ≤ blob) × (blob < high)). inr (names blob drawn.0 drawn.1))
    (adds blob some)

-- a step names each blob that it draws
pub draws_named : (old now : Layout) (low high : ℕ) (before after : Option Content) → low ≡ old.blob → high ≡ now.blob
    → KeepsNames old now → Draws low high before after → AddsNamed now before after
draws_named old now low high before after from to names draws =
    added_named now low high before after
    (λ number l h. names.drawn number (omega (arith, from, l)) (omega (arith, to, h))) draws.added

pub none_added : (layout : Layout) (told : Option Content) → AddsNamed layout told told
none_added layout None = tt
none_added layout (Some content) = λ blob some. inl some

-- ---- saves

-- setting the root adds no blob
root_adds : (low : ℕ) (root : List ℕ) (told : Option Content) → AddsFrom low low told (option_map (with_root root) told)
root_adds low root None = tt
root_adds low root (Some content) = λ blob some. inl some

-- nor does removing one
removal_adds : (low gone : ℕ) (told : Option Content) → AddsFrom low low told (option_map (remove_blob gone) told)
removal_adds low gone None = tt
removal_adds low gone (Some content) = λ blob.
    elim (blob == gone) as
    (λ b. IsSome (cond b None (content.blobs blob)) → IsSome (content.blobs blob) ⊎ ((low ≤ blob) × (blob < low))) [
      | true ↦ λ some. absurd (false≢true some)
      | false ↦ λ some. inl some
    ]

-- or several
removals_draw : (low : ℕ) (gone : List ℕ) (told : Option Content) → Draws low low told (all_done remove_blob gone told)
removals_draw low [] told = draws_none low low told told refl refl
removals_draw low (blob ∷ blobs) told =
    let once : Option Content = option_map (remove_blob blob) told in
    draws_then low low low told once (all_done remove_blob blobs once)
    (record { rises = omega arith; added = removal_adds low blob told })
    (removals_draw low blobs once)

-- the checkpoint is put, and then the root is set and blobs are removed
checkpoint_draws : (low high : ℕ) (bytes root gone : List ℕ) (told after : Option Content) → high ≡ low + 1
    → after ≡ all_done remove_blob gone (option_map (with_root root) (option_map (with_blob low (Some bytes)) told))
    → Draws low high told after
checkpoint_draws low high bytes root gone told after up same =
    let put : Option Content = option_map (with_blob low (Some bytes)) told in
    let rooted : Option Content = option_map (with_root root) put in
    subst (Draws low high told) (sym same)
    (draws_then low high high told put (all_done remove_blob gone rooted) (draws_put low high bytes told put up refl)
    (draws_then high high high put rooted (all_done remove_blob gone rooted)
    (record { rises = omega arith; added = root_adds high root put })
    (removals_draw high gone rooted)))

-- a save adds only blobs that it draws: a part's, if it makes one, and the checkpoint's
pub save_draws : (fs : FileSystem) (space : Addresses) (parts : Contents) (files : Records) (s : State)
    → IsEngineOf fs space parts files s → (checkpoint blob : ℕ) (parts_now : Contents) (before after : Told)
    → Saves fs space files checkpoint blob parts parts_now before after
    → Draws parts.next_blob parts_now.next_blob before.0 after.0
save_draws fs space parts files s index checkpoint blob parts_now before after saves =
    draws_then parts.next_blob saves.flushed.next_blob parts_now.next_blob before.0 saves.between.0 after.0
    (flushed_draws fs space parts files s index saves.flushed before saves.between saves.flush)
    (checkpoint_draws saves.flushed.next_blob parts_now.next_blob saves.bytes saves.root (removed_by_save saves.flushed checkpoint)
    saves.between.0 after.0 (ap (λ (c : Contents). c.next_blob) saves.contents) saves.stored)

-- a save names each blob that it draws
pub save_named : (s : State) → IsState s → (low high : ℕ) (before after : Option Content) → low ≡ s.layout.blob
    → high ≡ (saved_state s).layout.blob → Draws low high before after → AddsNamed (saved_state s).layout before after
save_named s is low high before after from to draws =
    added_named (saved_state s).layout low high before after
    (λ number l h. save_names s is number (omega (arith, from, l)) (omega (arith, to, h))) draws.added
