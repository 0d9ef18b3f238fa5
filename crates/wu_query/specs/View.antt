-- What a user may search: a list of open paths and texts. It holds no number, owner, mode or address of a file.
use Rattle.std.specs.Prelude.{ℕ, List, map}
use Rattle.wu_export.specs.declared.Shown.{Shown as ShownFile}
use Rattle.wu_view.specs.declared.Seen.{Seen}
use Rattle.wu_view.specs.Views.{view_of as files_of}
use Rattle.wu_query.specs.States.{State, Texts, text_in}

-- a file as a user sees it: its open paths in byte order, at least one, and its text
abbrev pub Shown : Type 0
Shown = ShownFile

abbrev pub shown_of : Texts → Seen → Shown
shown_of texts seen = record { paths = seen.paths; text = text_in texts seen.ino }

-- the files that the user may search, each with its open paths and its text, sorted by least path
unfoldable pub view_of : State → ℕ → List Shown
view_of s uid = map (shown_of s.texts) (files_of s.tree uid)
