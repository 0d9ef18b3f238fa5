-- What was asked for, as the caller of a call tells it again.
use Rattle.std.proofs.Common.{◌≡◌, ℕ, false, List, [], ◌∷◌, sym, subst}
use Rattle.std.specs.Prelude.{Option, Result, Ok, Err, IfSome}
use Rattle.std.specs.List.{list_any}
use Rattle.std.specs.Map.{keys_of}
use Rattle.wu_base.specs.declared.troubles.Trouble.{Trouble}
use Rattle.wu_base.specs.declared.troubles.Trouble.TheVariants.{NoMemory}
use Rattle.wu_outside.specs.Content.{Content}
use Rattle.wu_outside.specs.Crash.{Moments}
use Rattle.wu_outside.specs.declared.ranges.ReadRange.{ReadRange}
use Rattle.wu_lists.specs.declared.blocks.Block.{Block}
use Rattle.wu_lists.specs.Asking.{AsksFor}
use Rattle.wu_lists.specs.Blocks.{IsSpelledIn}
use Rattle.wu_lists.specs.Causes.{IsCause}
use Rattle.wu_lists.specs.Keeping.{Kept, all_missing, is_same}
use Rattle.wu_lists.proofs.Asking.{first-all, first-none}
use Rattle.wu_lists.proofs.Fetches.{missed-one}
use Rattle.wu_lists.proofs.Readings.{cause-memory}

module _ {S A : Type 0} (B : Type 0) {holds_of : S → Option Content} {moments_of : S → Option Moments} {faults_of : S → ℕ}
    {reads_of : S → Option (List ReadRange)} {these : List Block} {block : Block} {old new : Kept} {before after : S} where
  -- it has done it too
  pub asks-ok : (a : A) (b : B) → AsksFor holds_of moments_of faults_of reads_of these block old new before after (Ok a)
      → AsksFor holds_of moments_of faults_of reads_of these block old new before after (Ok b)
  asks-ok a b t = record { blocks = t.blocks; kept = tt; holds = t.holds; moments = t.moments; calm = t.calm; cause = tt }

  -- it answers the same trouble
  pub asks-err : (trouble : Trouble) (r : Result B Trouble) → r ≡ Err trouble
      → AsksFor {T = A} holds_of moments_of faults_of reads_of these block old new before after (Err trouble)
      → AsksFor holds_of moments_of faults_of reads_of these block old new before after r
  asks-err trouble r is t =
      subst (AsksFor holds_of moments_of faults_of reads_of these block old new before after) (sym is)
      (record { blocks = tt; kept = t.kept; holds = t.holds; moments = t.moments; calm = tt; cause = t.cause })

  -- it ran out of memory afterwards
  pub asks-memory : (a : A) (r : Result B Trouble) → r ≡ Err NoMemory
      → AsksFor holds_of moments_of faults_of reads_of these block old new before after (Ok a)
      → AsksFor holds_of moments_of faults_of reads_of these block old new before after r
  asks-memory a r is t =
      subst (AsksFor holds_of moments_of faults_of reads_of these block old new before after) (sym is)
      (record {
        blocks = tt;
        kept = first-all (holds_of before) old new (reads_of before) (reads_of after) these t.blocks;
        holds = t.holds;
        moments = t.moments;
        calm = tt;
        cause =
            cause-memory (all_missing old.cap (keys_of old.entries) these) block.blob
            (IfSome (holds_of before) (λ content. IsSpelledIn content block → ⊥)) (faults_of before) (faults_of after)
            (reads_of before) (reads_of after) t.calm t.blocks.read;
      })

-- one block was to be read, and there was a trouble
pub asks-broken : {S T : Type 0} {holds_of : S → Option Content} {moments_of : S → Option Moments} {faults_of : S → ℕ}
    {reads_of : S → Option (List ReadRange)} (block : Block) (old new : Kept) (before after : S) (trouble : Trouble) (r : Result T Trouble)
    → r ≡ Err trouble → list_any (is_same block) (keys_of old.entries) ≡ false → new ≡ old → holds_of after ≡ holds_of before
    → moments_of after ≡ moments_of before
    → IsCause (block ∷ []) block.blob (IfSome (holds_of before) (λ content. IsSpelledIn content block → ⊥)) (faults_of before)
    (faults_of after) (reads_of before) (reads_of after) trouble
    → AsksFor holds_of moments_of faults_of reads_of (block ∷ []) block old new before after r
asks-broken {holds_of = holds_of} {moments_of = moments_of} {faults_of = faults_of} {reads_of = reads_of} block old new before after trouble
    r is absent same holds moments cause =
    subst (AsksFor holds_of moments_of faults_of reads_of (block ∷ []) block old new before after) (sym is)
    (record {
      blocks = tt;
      kept = first-none (holds_of before) old new (block ∷ []) same;
      holds = holds;
      moments = moments;
      calm = tt;
      cause =
          subst (λ (bs : List Block). IsCause bs block.blob (IfSome (holds_of before) (λ content. IsSpelledIn content block → ⊥))
          (faults_of before) (faults_of after) (reads_of before) (reads_of after) trouble) (sym (missed-one block old absent)) cause;
    })
