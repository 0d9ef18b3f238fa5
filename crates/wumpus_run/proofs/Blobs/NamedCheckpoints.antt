-- The checkpoint that the store's root names is there, item by item.
use Rattle.std.proofs.Common.{◌≡◌, ◌<◌, ◌≤◌, ℕ, List, [], ◌∷◌, Option, None, Some, refl, sym, ap, ◌∙◌, subst, arith, inl, inr}
use Rattle.std.specs.Prelude.{IfSome, option_map}
use Rattle.wu_outside.specs.Content.{Content, with_blob, with_root}
use Rattle.wu_parts.specs.Contents.{Contents}
use Rattle.wu_parts.specs.Flushing.{Told}
use Rattle.wu_image.specs.declared.roots.Root.{Root}
use Rattle.wu_image.specs.Roots.{SpellsRoot}
use Rattle.wu_image.proofs.RootLemmas.{same_root}
use Rattle.wu_engine.specs.declared.engines.Engine.{Engine}
use Rattle.wu_engine.specs.Earlier.{KeepsCheckpoint, LeavesEarlier}
use Rattle.wu_engine.specs.Opening.{HasRoot}
use Rattle.wu_engine.specs.SavedStores.{all_done, remove_blob}
use Rattle.wu_engine.specs.Saving.{removed_by_save}
use Rattle.wu_engine.specs.Stands.{KeepsOthers}
use Rattle.wumpus_run.specs.Kept.{NamesDrawn}
use Rattle.wumpus_run.specs.Raised.{SavesOnce}

-- ---- a call that sets no root

itself : (low : ℕ) (told : Option Content) → KeepsCheckpoint low told told
itself low None = tt
itself low (Some content) = inl refl

pub checkpoint_same : (low : ℕ) (before after : Option Content) → after ≡ before → KeepsCheckpoint low before after
checkpoint_same low before after same = subst (KeepsCheckpoint low before) (sym same) (itself low before)

pub checkpoint_others : (low least most : ℕ) (before after : Option Content) → KeepsOthers least most before after
    → KeepsCheckpoint low before after
checkpoint_others low least most None after keeps = tt
checkpoint_others low least most (Some before) None keeps = keeps
checkpoint_others low least most (Some before) (Some after) keeps = inl keeps.1

pub drawn_others : (next later least most : ℕ) (before after : Option Content) → KeepsOthers least most before after → next ≤ later
    → NamesDrawn next before → NamesDrawn later after
drawn_others next later least most before None keeps l drawn = tt
drawn_others next later least most None (Some after) keeps l drawn = absurd keeps
drawn_others next later least most (Some before) (Some after) keeps l drawn = λ root has.
    let its : root.checkpoint < next =
    drawn root (record { code = has.code; there = sym keeps.1 ∙ has.there; spelled = has.spelled }) in
    omega (arith, l, its)

pub drawn_again : {next later : ℕ} (before after : Option Content) → after ≡ before → later ≡ next → NamesDrawn next before
    → NamesDrawn later after
drawn_again {next} {later} before after same number drawn =
    subst (NamesDrawn later) (sym same) (subst (λ (n : ℕ). NamesDrawn n before) (sym number) drawn)

-- ---- a save

-- the store has that root
abbrev IsSet : List ℕ → Option Content → Type 0
IsSet code told = IfSome told (λ content. content.root ≡ Some code)

set_by : (code : List ℕ) (told : Option Content) → IsSet code (option_map (with_root code) told)
set_by code None = tt
set_by code (Some content) = refl

set_without : (code : List ℕ) (blob : ℕ) (told : Option Content) → IsSet code told → IsSet code (option_map (remove_blob blob) told)
set_without code blob None set = tt
set_without code blob (Some content) set = set

still_set : (code : List ℕ) (gone : List ℕ) (told : Option Content) → IsSet code told → IsSet code (all_done remove_blob gone told)
still_set code [] told set = set
still_set code (blob ∷ gone) told set =
    still_set code gone (option_map (remove_blob blob) told) (set_without code blob told set)

drawn_by : (root : Root) (code : List ℕ) → SpellsRoot root code → (told : Option Content) → IsSet code told
    → NamesDrawn root.next_blob told
drawn_by root code spelled None set = tt
drawn_by root code spelled (Some content) set = λ other has.
    let codes : Some has.code ≡ Some code = sym has.there ∙ set in
    let its : has.code ≡ code = cc in
    let same : other ≡ root = same_root other root code (subst (SpellsRoot other) its has.spelled) spelled in
    subst (λ (r : Root). other.checkpoint < r.next_blob) same has.spelled.drawn

pub drawn_saved : (engine later : Engine) (before after : Told) → SavesOnce engine later before after
    → NamesDrawn later.parts.next_blob after.0
drawn_saved engine later before after saves =
    let put : Option Content = option_map (with_blob saves.flushed.next_blob (Some saves.bytes)) saves.between.0 in
    let set : IsSet saves.root after.0 =
    subst (IsSet saves.root) (sym saves.stored)
    (still_set saves.root (removed_by_save saves.flushed engine.checkpoint) (option_map (with_root saves.root) put)
    (set_by saves.root put)) in
    subst (λ (next : ℕ). NamesDrawn next after.0) (sym (ap (λ (contents : Contents). contents.next_blob) saves.contents))
    (drawn_by _ saves.root saves.root_spelled after.0 set)

-- ---- a session

-- the store was opened
pub drawn_at_first : (holds : Option Content) (next : ℕ)
    → IfSome holds (λ content. (root : Root) → HasRoot content root → next ≡ root.next_blob) → NamesDrawn next holds
drawn_at_first None next first = tt
drawn_at_first (Some content) next first = λ root has. let its = has.spelled.drawn in omega (arith, first root has, its)

content_then : (next : ℕ) (before between now : Content) → KeepsCheckpoint 0 (Some before) (Some between)
    → NamesDrawn next (Some between) → LeavesEarlier next (Some between) (Some now) → KeepsCheckpoint next (Some between) (Some now)
    → KeepsCheckpoint 0 (Some before) (Some now)
content_then next before between now kept drawn left (inr new) = inr (record {
  root = new.root;
  there = new.there;
  later = omega arith;
  bytes = new.bytes;
  held = new.held;
  size = new.size;
})
content_then next before between now (inl same) drawn left (inl again) = inl (again ∙ same)
content_then next before between now (inr new) drawn (inl keeps) (inl again) = inr (record {
  root = new.root;
  there = record { code = new.there.code; there = again ∙ new.there.there; spelled = new.there.spelled };
  later = new.later;
  bytes = new.bytes;
  held = keeps.blobs new.root.checkpoint (drawn new.root new.there) ∙ new.held;
  size = new.size;
})
content_then next before between now (inr new) drawn (inr other) (inl again) =
    let its : other.root.checkpoint < next =
    drawn other.root (record { code = other.there.code; there = sym again ∙ other.there.there; spelled = other.there.spelled }) in
    absurd (omega (arith, its, other.later))

-- an item more, or the save at the end
pub checkpoint_then : (next : ℕ) (before between now : Option Content) → KeepsCheckpoint 0 before between → NamesDrawn next between
    → ((content : Content) → before ≡ Some content → LeavesEarlier next between now)
    → ((content : Content) → before ≡ Some content → KeepsCheckpoint next between now) → KeepsCheckpoint 0 before now
checkpoint_then next None between now kept drawn left named = tt
checkpoint_then next (Some before) None now kept drawn left named = absurd kept
checkpoint_then next (Some before) (Some between) None kept drawn left named = named before refl
checkpoint_then next (Some before) (Some between) (Some now) kept drawn left named =
    content_then next before between now kept drawn (left before refl) (named before refl)
