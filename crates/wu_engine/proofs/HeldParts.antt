-- The texts that a store holds, and the blocks of parts that are kept, after blobs were put that were never drawn before.
use Rattle.std.proofs.Common.{◌≡◌, ℕ, ◌<◌, ◌≤◌, cond, List, [], ◌∷◌, ap, sym, ◌∙◌, arith, ⊎_elim}
use Rattle.std.specs.Prelude.{Option, Some, IfSome}
use Rattle.std.specs.List.{AllByRecursion}
use Rattle.std.proofs.lemmas.Bool.{cases_lt, ne_eqb}
use Rattle.wu_outside.specs.Content.{Content, with_blob}
use Rattle.wu_layout.specs.Layouts.{FileEntry, entry_of}
use Rattle.wu_layout.proofs.EntryLemmas.{IfSome-map2}
use Rattle.wu_lists.specs.declared.blocks.Block.{Block}
use Rattle.wu_lists.specs.Blocks.{bytes_of}
use Rattle.wu_lists.specs.Keeping.{Kept}
use Rattle.wu_query.specs.States.{Texts, text_in}
use Rattle.wu_query.specs.Searched.{HoldsTexts, KeepsBlocks}

-- ---- what has the same blobs below a number

abbrev pub AgreesBelow : ℕ → Content → Content → Type 0
AgreesBelow next content after = (number : ℕ) → number < next → after.blobs number ≡ content.blobs number

pub put_agrees : (blob : ℕ) (bytes : Option (List ℕ)) (content : Content) → AgreesBelow blob content (with_blob blob bytes content)
put_agrees blob bytes content =
    λ number under. ap (λ b. cond b bytes (content.blobs number)) (ne_eqb number blob (λ same. omega (arith, under, same)))

module _ (next : ℕ) (content after : Content) (agrees : AgreesBelow next content after) where
  pub texts_stay : (texts : Texts) (files : List (ℕ × FileEntry)) → ((ino : ℕ) → IfSome (entry_of files ino) (λ entry. entry.blob < next))
      → HoldsTexts (Some content) texts files → HoldsTexts (Some after) texts files
  texts_stay texts files below held = λ ino.
      IfSome-map2 (λ (entry : FileEntry). entry.blob < next)
      (λ (entry : FileEntry). 0 < entry.blob → content.blobs entry.blob ≡ Some (text_in texts ino))
      (λ (entry : FileEntry). 0 < entry.blob → after.blobs entry.blob ≡ Some (text_in texts ino)) (entry_of files ino)
      (λ entry under there some. agrees entry.blob under ∙ there some) (below ino) (held ino)

  none_of : (blob : ℕ) (entries : List (Block × List ℕ)) (bytes : List ℕ) → next ≤ blob
      → AllByRecursion (λ entry. entry.0.blob < next) entries
      → AllByRecursion (λ entry. entry.0.blob ≡ blob → entry.1 ≡ bytes_of entry.0 bytes) entries
  none_of blob [] bytes above below = tt
  none_of blob (entry ∷ entries) bytes above below =
      (λ same. absurd (omega (arith, above, below.0, same)), none_of blob entries bytes above below.1)

  more_below : (entries : List (Block × List ℕ)) (later : ℕ) → next ≤ later → AllByRecursion (λ entry. entry.0.blob < next) entries
      → AllByRecursion (λ entry. entry.0.blob < later) entries
  more_below [] later l below = tt
  more_below (entry ∷ entries) later l below = (omega (arith, below.0), more_below entries later l below.1)

  pub blocks_stay : (later : ℕ) (kept : Kept) → next ≤ later → KeepsBlocks content next kept → KeepsBlocks after later kept
  blocks_stay later kept l keeps = record {
    below = more_below kept.entries later l keeps.below;
    same = λ blob bytes there.
        ⊎_elim
        (λ under. keeps.same blob bytes (sym (agrees blob under) ∙ there))
        (λ above. none_of blob kept.entries bytes above keeps.below)
        (cases_lt blob next);
  }
