-- The lines of the script by which events are told: fields with a TAB before each but the first, and LF. Numbers are in decimal, modes
-- in octal, and names are escaped.
use Rattle.std.specs.Prelude.{◌≡◌, ℕ, ◌+◌, ◌/◌, ◌%◌, ◌==◌, cond, Option, None, Some, List, [], ◌∷◌, ◌++◌, codes, decimal, length}
use Rattle.std.specs.Io.KnownBytes.{Appends}
use Rattle.std.specs.List.{flat_map}
use Rattle.wu_fields.specs.Fields.{escaped}
use Rattle.wu_access.specs.declared.acls.Acl.{Acl}
use Rattle.wu_access.specs.declared.acls.AclEntry.{AclEntry}
use Rattle.wu_access.specs.declared.Perm.{Perm}
use Rattle.wu_tree.specs.declared.events.Event.{Event}
use Rattle.wu_tree.specs.declared.events.Event.TheVariants.{User, Mkdir, Create, Text, Link, Unlink, Rmdir, Rename, Chmod, Chown}
use Rattle.wu_tree.specs.declared.events.Event.TheVariants.{Acl as SetAcl}
use Rattle.wu_mirror.specs.declared.batches.Batch.{Batch}
use Rattle.wu_mirror.specs.Plans.{head_of, tail_of}

abbrev pub number_field : ℕ → List ℕ
number_field number = 9 ∷ decimal number

-- the lowest octal digit of a number
abbrev pub octal_digit : ℕ → ℕ
octal_digit number = 48 + number % 8

abbrev pub first_digit : ℕ → List ℕ
first_digit mode = cond (mode / 512 % 8 == 0) [] (octal_digit (mode / 512) ∷ [])

-- three octal digits, or four where the first isn't 0
abbrev pub mode_field : ℕ → List ℕ
mode_field mode = 9 ∷ first_digit mode ++ octal_digit (mode / 64) ∷ octal_digit (mode / 8) ∷ octal_digit mode ∷ []

-- a directory, and a name in it
abbrev pub place_fields : ℕ → List ℕ → List ℕ
place_fields parent name = number_field parent ++ 9 ∷ escaped name

abbrev pub perm_fields : Perm → List ℕ
perm_fields perm = number_field perm.uid ++ number_field perm.gid ++ mode_field perm.mode

abbrev pub entry : List ℕ → AclEntry → List ℕ
entry lead one = lead ++ decimal one.id ++ 58 ∷ octal_digit one.bits ∷ []

-- the entries of a list with its mask, or an empty field for none
abbrev pub list_field : Option Acl → ℕ → List ℕ
list_field None mask = 9 ∷ []
list_field (Some acl) mask =
    9 ∷ codes "g::" ++ octal_digit acl.owning ∷ flat_map (entry (codes ",u:")) acl.users ++ flat_map (entry (codes ",g:")) acl.groups
    ++ codes ",m::" ++ octal_digit mask ∷ []

abbrev pub made_fields : ℕ → ℕ → List ℕ → Perm → List ℕ
made_fields ino parent name perm = number_field ino ++ place_fields parent name ++ perm_fields perm

-- the line of an event. A text is told with its bytes, and has none here.
abbrev pub line_of : Event → List ℕ
line_of (User uid groups) = codes "user" ++ number_field uid ++ flat_map number_field groups ++ 10 ∷ []
line_of (Mkdir ino parent name perm) = codes "mkdir" ++ made_fields ino parent name perm ++ 10 ∷ []
line_of (Create ino parent name perm) = codes "create" ++ made_fields ino parent name perm ++ 10 ∷ []
line_of (Text ino) = []
line_of (Link ino parent name) = codes "link" ++ number_field ino ++ place_fields parent name ++ 10 ∷ []
line_of (Unlink parent name) = codes "unlink" ++ place_fields parent name ++ 10 ∷ []
line_of (Rmdir parent name) = codes "rmdir" ++ place_fields parent name ++ 10 ∷ []
line_of (Rename parent name new_parent new_name) =
    codes "rename" ++ place_fields parent name ++ place_fields new_parent new_name ++ 10 ∷ []
line_of (Chmod ino mode) = codes "chmod" ++ number_field ino ++ mode_field mode ++ 10 ∷ []
line_of (Chown ino uid gid) = codes "chown" ++ number_field ino ++ number_field uid ++ number_field gid ++ 10 ∷ []
line_of (SetAcl ino acl mask) = codes "acl" ++ number_field ino ++ list_field acl mask ++ 10 ∷ []

-- the line that precedes those of a plan: how many there are before the texts, and how many after them
abbrev pub header_of : ℕ → ℕ → List ℕ
header_of head tail = codes "plan" ++ number_field head ++ number_field tail ++ 10 ∷ []

-- what a batch is answered
abbrev pub answer_of : Batch → List ℕ
answer_of batch =
    header_of (length (head_of batch)) (length (tail_of batch)) ++ (flat_map line_of (head_of batch) ++ flat_map line_of (tail_of batch))

-- from what a writer holds and a buffer to what both hold later: some bytes were written, and with what is left in the buffer they are
-- what stood there, and more
abbrev pub Passes : Option (List ℕ) → List ℕ → Option (List ℕ) → List ℕ → List ℕ → Type 0
Passes old buffer new left more = (written : List ℕ) × Appends old new written × (written ++ left ≡ buffer ++ more)
