-- The files of a view with their texts, by what is recorded of files and what the store holds of
-- their texts.
use Rattle.std.specs.Prelude.{ℕ, List, [], Option, None, Some}
use Rattle.wu_outside.specs.Content.{Content}
use Rattle.wu_image.specs.declared.records.FileRec.{FileRec}
use Rattle.wu_image.specs.Images.{text_held}
use Rattle.wu_view.specs.declared.Seen.{Seen}
use Rattle.wu_query.specs.Records.{Records, record_at}
use Rattle.wu_query.specs.View.{Shown}

-- what a store with that content has of a text; a file without a record has the empty one
abbrev pub held_of : Content → Option FileRec → List ℕ
held_of content None = []
held_of content (Some file) = text_held content file

-- how many bytes the text has, as recorded; none, where the file has no record
abbrev pub size_recorded : Option FileRec → ℕ
size_recorded None = 0
size_recorded (Some file) = file.len

-- the file of a view with its text, as its user sees it
abbrev pub shown_at : Content → Records → Seen → Shown
shown_at content files seen =
    record { paths = seen.paths; text = held_of content (record_at files seen.ino) }
