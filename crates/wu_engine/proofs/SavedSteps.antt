-- What a save does, from what its calls do.
use Rattle.std.proofs.Common.{◌≡◌, ℕ, ◌+◌, ◌<◌, List, [], ◌∷◌, ◌++◌, length, map, take, take_all, get_or, ap, sym, ◌∙◌, arith, ⊎_elim}
use Rattle.std.specs.Prelude.{Option, None, Some, option_map, slice_get, unwrap_or}
use Rattle.std.proofs.lemmas.List.{length_push, take_more}
use Rattle.std.proofs.lemmas.Option.{slice_get-get_or, slice_get_cases, slice_get_within}
use Rattle.wu_outside.specs.Content.{with_blob, with_root}
use Rattle.wu_outside.specs.Crash.{Put, SetRoot, settle, try_change}
use Rattle.wu_layout.specs.Postings.{Posting, live_of}
use Rattle.wu_tree.specs.FileSystems.{FileSystem}
use Rattle.wu_space.specs.Addresses.{Addresses}
use Rattle.wu_parts.specs.Contents.{Contents}
use Rattle.wu_parts.specs.Flushing.{EmptiesMemory, Flushes, Told}
use Rattle.wu_parts.specs.Memory.{HasPostings}
use Rattle.wu_image.specs.declared.roots.Root.{Root}
use Rattle.wu_image.specs.Roots.{SpellsRoot}
use Rattle.wu_query.specs.Records.{Records}
use Rattle.wu_engine.specs.Saving.{checkpoint_blob}
use Rattle.wu_engine.specs.SavedStores.{IsSpelledOf, Saves, all_done, remove_blob, try_removal, with_drawn}

-- ---- a walk by place

-- one more element was taken
pub taken_more : {X : Type 0} (xs ys now : List X) (i : ℕ) (x : X) → i ≡ length ys → Some x ≡ slice_get xs i → now ≡ ys ++ x ∷ []
    → ys ≡ take (length ys) xs → now ≡ take (length now) xs
taken_more {X} xs ys now i x many there pushed is =
    let within : i < length xs = slice_get_within xs i x (sym there) in
    let same : x ≡ get_or xs i x = ap (λ (o : Option X). unwrap_or o x) (there ∙ slice_get-get_or xs i x within) in
    let longer : i + 1 ≡ length now = omega (arith, many, ap (λ (l : List X). length l) pushed, length_push ys x) in
    pushed
    ∙ ap (λ (l : List X). l ++ x ∷ []) is
    ∙ ap (λ (n : ℕ). take n xs ++ x ∷ []) (sym many)
    ∙ ap (λ (y : X). take i xs ++ y ∷ []) same
    ∙ sym (take_more xs i x within)
    ∙ ap (λ (n : ℕ). take n xs) longer

-- all were taken
pub taken_all : {X : Type 0} (xs ys : List X) (i : ℕ) → i ≡ length ys → None ≡ slice_get xs i → ys ≡ take (length ys) xs → ys ≡ xs
taken_all {X} xs ys i many none is =
    ⊎_elim
    (λ inside. let never : None ≡ Some inside.0 = none ∙ inside.2 in absurd cc)
    (λ past. is ∙ take_all (length ys) xs (omega (arith, past.0, many)))
    (slice_get_cases xs i).1

-- ---- the calls

abbrev pub root_of : ℕ → ℕ → ℕ → ℕ → Root
root_of checkpoint size address blob =
    record { version = 2; checkpoint = checkpoint; size = size; next_address = address; next_blob = blob }

pub stale_stays : (old flushed : Contents) → EmptiesMemory old flushed → flushed.stale ≡ old.stale
stale_stays old flushed empties =
    ⊎_elim
    (λ e. ap (λ (c : Contents). c.stale) e)
    (λ made. ap (λ (c : Contents). c.stale) made.2)
    empties

-- the blobs that are removed are those that were no longer needed before the save
pub stale_drawn : (old flushed drawn : Contents) (stale : List ℕ) → stale ≡ drawn.stale → drawn ≡ with_drawn flushed
    → EmptiesMemory old flushed → stale ≡ old.stale
stale_drawn old flushed drawn stale is drew empties =
    is ∙ ap (λ (c : Contents). c.stale) drew ∙ stale_stays old flushed empties

pub saves_from : (tree : FileSystem) (space : Addresses) (files : Records) (checkpoint : ℕ) {blob : ℕ} (old : Contents)
    {flushed drawn new : Contents} (before between put rooted after : Told)
    → ((low high : ℕ) (postings : List Posting) → HasPostings low high old.memory postings
    → Flushes (live_of (map (λ file. file.1) space.ranges) postings) old flushed before between)
    → EmptiesMemory old flushed → blob ≡ flushed.next_blob → drawn ≡ with_drawn flushed
    → {bytes written root : List ℕ} {size address next_blob : ℕ}
    → IsSpelledOf tree space files drawn bytes → written ≡ bytes → size ≡ length bytes → address ≡ space.next
    → next_blob ≡ drawn.next_blob
    → SpellsRoot (root_of blob size address next_blob) root
    → put.0 ≡ option_map (with_blob blob (Some written)) between.0
    → put.1 ≡ option_map settle (option_map (try_change (Put blob) (with_blob blob (Some written))) between.1)
    → rooted.0 ≡ option_map (with_root root) put.0
    → rooted.1 ≡ option_map settle (option_map (try_change (SetRoot root) (with_root root)) put.1)
    → {stale : List ℕ} → stale ≡ drawn.stale
    → after.0 ≡ all_done remove_blob (stale ++ checkpoint_blob checkpoint) rooted.0
    → after.1 ≡ all_done try_removal (stale ++ checkpoint_blob checkpoint) rooted.1
    → new ≡ record drawn { stale = [] }
    → Saves tree space files checkpoint blob old new before after
saves_from tree space files checkpoint old {flushed} before between put rooted after flush changes number drew {bytes} {root}
    spelled wrote sized addressed numbered root_spelled put_is put_settled rooted_is rooted_settled {stale} stale_is removed
    removed_settled cleared =
    let same : stale ≡ flushed.stale = stale_is ∙ ap (λ (c : Contents). c.stale) drew in
    record {
      flushed = flushed;
      between = between;
      flush = flush;
      changes = changes;
      drawn = number;
      bytes = bytes;
      spelled = rw drew at spelled;
      root = root;
      root_spelled = rw (number, sized, addressed, numbered ∙ ap (λ (c : Contents). c.next_blob) drew) at root_spelled;
      contents = rw drew at cleared;
      stored = rw (same, rooted_is, put_is, wrote, number) at removed;
      tried = rw (same, rooted_settled, put_settled, wrote, number) at removed_settled;
    }
