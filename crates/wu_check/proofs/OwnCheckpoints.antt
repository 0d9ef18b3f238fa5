-- The checkpoint that a root names.
use Rattle.std.proofs.Common.{◌≡◌, ℕ, List, subst}
use Rattle.std.specs.Prelude.{Option, Some, None, IfNone, IfSome, MatchOption}
use Rattle.wu_outside.specs.Content.{Content}
use Rattle.wu_image.specs.declared.checkpoints.Checkpoint.{Checkpoint}
use Rattle.wu_image.specs.declared.roots.Root.{Root}
use Rattle.wu_image.specs.Checkpoints.{SpellsCheckpoint}
use Rattle.wu_image.proofs.ListedLemmas.{same_checkpoint}
use Rattle.wu_check.specs.Saved.{IsOwn}
use Rattle.wu_check.proofs.ToldContents.{told_more}
use Rattle.wu_check.specs.Wrong.{HasCheckpoint, IsSoundCheckpoint}

own_of : (root : Root) (bytes : List ℕ) (checkpoint : Checkpoint) → IsSoundCheckpoint root bytes checkpoint → IsOwn root checkpoint
own_of root bytes checkpoint sound = record {
  next_address = sound.spelled.next_address;
  next_blob = sound.spelled.next_blob;
  of_no_text = sound.spelled.of_no_text;
  of_no_part = sound.spelled.of_no_part;
  flushes = sound.flushes;
}

pub none_own : (root : Root) (bytes : List ℕ) (read : Checkpoint) (found : Option Checkpoint) → SpellsCheckpoint read bytes
    → MatchOption found (IsOwn root read → ⊥) (λ own. (own ≡ read) × IsOwn root own)
    → IfNone found ((checkpoint : Checkpoint) → IsSoundCheckpoint root bytes checkpoint → ⊥)
none_own root bytes read (Some own) spelled its = tt
none_own root bytes read None spelled other = λ checkpoint sound.
    other (subst (IsOwn root) (same_checkpoint checkpoint read bytes sound.spelled.spelled spelled) (own_of root bytes checkpoint sound))

pub not_spelled : (root : Root) (bytes : List ℕ) → ((checkpoint : Checkpoint) → SpellsCheckpoint checkpoint bytes → ⊥)
    → (checkpoint : Checkpoint) → IsSoundCheckpoint root bytes checkpoint → ⊥
not_spelled root bytes none checkpoint sound = none checkpoint sound.spelled.spelled

-- ---- in a store

pub none_in : (content : Content) (root : Root) (bytes : List ℕ) → content.blobs root.checkpoint ≡ Some bytes
    → ((checkpoint : Checkpoint) → IsSoundCheckpoint root bytes checkpoint → ⊥)
    → (checkpoint : Checkpoint) → HasCheckpoint content root checkpoint → ⊥
none_in content root bytes held none checkpoint has =
    let both : Some bytes ≡ Some has.bytes = subst (λ (b : Option (List ℕ)). b ≡ Some has.bytes) held has.held in
    let same : has.bytes ≡ bytes = cc in
    none checkpoint (subst (λ (b : List ℕ). IsSoundCheckpoint root b checkpoint) same has.sound)

pub none_told : (holds : Option Content) (root : Root) (bytes given : List ℕ) (found : Option Checkpoint) → given ≡ bytes
    → IfSome holds (λ content. content.blobs root.checkpoint ≡ Some bytes)
    → IfNone found ((checkpoint : Checkpoint) → IsSoundCheckpoint root given checkpoint → ⊥)
    → IfNone found (IfSome holds (λ content. (checkpoint : Checkpoint) → HasCheckpoint content root checkpoint → ⊥))
none_told holds root bytes given (Some checkpoint) same held none = tt
none_told holds root bytes given None same held none =
    told_more holds
    (λ content here. none_in content root bytes here
    (subst (λ (b : List ℕ). (checkpoint : Checkpoint) → IsSoundCheckpoint root b checkpoint → ⊥) same none))
    held
