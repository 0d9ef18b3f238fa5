-- Two histories that a user can't tell apart: in the one she is alone, in the other somebody else keeps a file and searches it.
use Rattle.std.specs.Prelude.{ℕ, List, [], ◌∷◌, codes}
use Rattle.wu_access.specs.declared.Perm.{Perm}
use Rattle.wu_tree.specs.declared.events.Event.TheVariants.{Create, Text}
use Rattle.wu_script.specs.Commands.{Asking, Entry, Happening, Operating, PathsOf, Save}

-- owner and group of that number, and mode 600
abbrev pub private_to : ℕ → Perm
private_to uid = record { uid = uid; gid = uid; mode = 0x180 }

-- user 7 makes the file /a, which is hers alone, gives it a text, and asks for the paths that she may search
abbrev pub alone : List Entry
alone = Happening (Create 2 1 (codes "a") (private_to 7)) [] ∷ Happening (Text 2) (codes "pear\n") ∷ Asking 7 PathsOf ∷ []

-- before that user 8 makes the file /b, gives it a text, and asks for his paths, and all is saved
abbrev pub beside_another : List Entry
beside_another =
    Happening (Create 3 1 (codes "b") (private_to 8)) [] ∷ Happening (Text 3) (codes "a pear and a plum\n") ∷ Asking 8 PathsOf
    ∷ Operating Save ∷ alone
