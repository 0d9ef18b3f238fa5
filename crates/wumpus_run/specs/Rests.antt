-- What of a reply is still to come once its front was made, and how it is written.
use Rattle.std.specs.Prelude.{◌≡◌, ℕ, List, [], ◌++◌, Option}
use Rattle.std.specs.List.{flat_map}
use Rattle.std.specs.Io.KnownBytes.{Appends}
use Rattle.wu_view.specs.declared.Seen.{Seen}
use Rattle.wu_script.specs.Replies.{path_line}
use Rattle.wu_engine.specs.declared.engines.Engine.{Engine}
use Rattle.wu_engine.specs.Listing.{files_kept, paths_of}
use Rattle.wumpus_run.specs.declared.sending.Rest.{Rest}
use Rattle.wumpus_run.specs.declared.sending.Rest.TheVariants.{Nothing, Paths}

-- the paths of these files, each on a line of its own
abbrev pub lines_of : List Seen → List ℕ
lines_of files = flat_map path_line (paths_of files)

-- the bytes that are to come
abbrev pub rest_bytes : Engine → Rest → List ℕ
rest_bytes engine Nothing = []
rest_bytes engine (Paths uid) = lines_of (files_kept engine.frames uid)

-- Of what a buffer held, and the bytes behind it, a front was gained, and the buffer holds what is left.
pub record PassesOn (before now : Option (List ℕ)) (held bytes left : List ℕ) : Type 0 where
  pub front : List ℕ
  pub whole : held ++ bytes ≡ front ++ left
  pub gained : Appends before now front
