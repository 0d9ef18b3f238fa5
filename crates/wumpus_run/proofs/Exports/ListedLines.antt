-- The reply to a question for paths: its first line, and the lines of the paths that are kept.
use Rattle.std.proofs.Common.{◌≡◌, ℕ, List, [], ◌∷◌, ◌++◌, length, ap, ◌∙◌, append_assoc}
use Rattle.std.specs.Prelude.{codes, decimal}
use Rattle.std.specs.List.{flat_map}
use Rattle.wu_ask.specs.Questions.{ListingPaths}
use Rattle.wu_ask.specs.declared.Answered.{Answered}
use Rattle.wu_ask.specs.declared.Answered.TheVariants.{Paths}
use Rattle.wu_view.specs.declared.Seen.{Seen}
use Rattle.wu_script.specs.Replies.{answer_bytes, path_line, reply_bytes}
use Rattle.wu_script.specs.Said.{Asks}
use Rattle.wu_script.specs.declared.types.Reply.TheVariants as replies
use Rattle.wu_query.specs.Answer.{answer}
use Rattle.wu_query.specs.States.{State}
use Rattle.wu_query.specs.View.{view_of}
use Rattle.wu_engine.specs.Listing.{paths_of}
use Rattle.wumpus_run.specs.Replies.{said_bytes}
use Rattle.wumpus_run.specs.Rests.{lines_of}

-- the bytes of a reply with these paths
reply_with : (paths : List (List ℕ)) (count : ℕ) → count ≡ length paths
    → codes "paths\t" ++ decimal count ++ 10 ∷ [] ++ flat_map path_line paths ≡ reply_bytes (replies.Answered (Paths paths))
unfolding reply_bytes answer_bytes
reply_with paths count is = ap (λ (n : ℕ). codes "paths\t" ++ decimal n ++ 10 ∷ [] ++ flat_map path_line paths) is

-- what was appended, and the lines of the files, are the reply
pub whole_reply : (s : State) (uid : ℕ) (before out : List ℕ) (files : List Seen) (count : ℕ) → count ≡ length (paths_of files)
    → out ≡ before ++ (codes "paths\t" ++ decimal count ++ 10 ∷ []) → Paths (paths_of files) ≡ answer (view_of s uid) ListingPaths
    → out ++ lines_of files ≡ before ++ said_bytes s (Asks uid ListingPaths)
whole_reply s uid before out files count counted put listed =
    ap (λ (bytes : List ℕ). bytes ++ lines_of files) put
    ∙ append_assoc before (codes "paths\t" ++ decimal count ++ 10 ∷ []) (lines_of files)
    ∙ ap (λ (bytes : List ℕ). before ++ bytes)
    (reply_with (paths_of files) count counted ∙ ap (λ (answered : Answered). reply_bytes (replies.Answered answered)) listed)
