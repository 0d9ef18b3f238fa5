-- The script of an export is read as what was written: each of its commands is an item, which is the event of an entry.
use Rattle.std.proofs.Common.{◌≡◌, ℕ, ◌-◌, ◌^◌, ◌<◌, ◌≤◌, true, false, eqb, List, [], ◌∷◌, ◌++◌, length, map}
use Rattle.std.proofs.Common.{Some, decimal, refl, ap, ◌∙◌, append_assoc, length-append, arith}
use Rattle.std.specs.Prelude.{codes}
use Rattle.std.specs.List.{AllByRecursion}
use Rattle.std.proofs.Math.Seq.{take-append_seam, drop-append_seam}
use Rattle.std.proofs.lemmas.Bool.{le-ltb, ne_eqb, or_parts}
use Rattle.std.proofs.lemmas.Fmt.{length-decimal-le}
use Rattle.wu_base.specs.declared.limits.TheConstants.{INPUT_MAX, LINE_MAX, NAME_MAX, TEXT_MAX}
use Rattle.wu_tree.specs.declared.events.Event.TheVariants as events
use Rattle.wu_fields.specs.Fields.{letter_of, line_of}
use Rattle.wu_fields.specs.Numbers.{mode_of, number_of}
use Rattle.wu_fields.proofs.FieldLemmas.{fields_of-line_of}
use Rattle.wu_script.specs.Words.{word_of}
use Rattle.wu_script.specs.Commands.{Entry, Happening, LineSays, Whole, TextHead, command_of as said_by, fields_say, id_of, is_blank}
use Rattle.wu_script.specs.Commands.{line_says}
use Rattle.wu_script.specs.Commands.{link_of, new_node_of, node_of, perm_of, text_head_of}
use Rattle.wu_script.specs.Items.{First, after_line, entry_at, first_of, has_feed, items_of, line_at, text_at}
use Rattle.wu_script.proofs.ItemListLemmas.{items_of-closed}
use Rattle.wu_export.specs.Exports.{Entry as Made, Directory, File, Link, Text, command_of, commands_of}
use Rattle.wu_export.specs.Rebuilding.{event_of}
use Rattle.wumpus_run.proofs.Exports.WrittenLines.{IsNumber, IsSayable, feedless, feedless_line, line_length, number_read}

-- ---- what an entry says

-- the text that it gives
abbrev pub text_of : Made → List ℕ
text_of (Directory number parent name) = []
text_of (File number parent name) = []
text_of (Link number parent name) = []
text_of (Text number text) = text

-- the item that its command is
abbrev pub item_of : Made → Entry
item_of made = Happening (event_of made) (text_of made)

-- ---- a line, its LF and what is after it

line_front : (line rest : List ℕ) → feedless line ≡ false
    → (line_at (line ++ 10 ∷ rest) ≡ line) × (after_line (line ++ 10 ∷ rest) ≡ rest) × (has_feed (line ++ 10 ∷ rest) ≡ true)
line_front [] rest none = (refl, refl, refl)
line_front (byte ∷ line) rest none =
    let parts = or_parts (eqb byte 10) (feedless line) none in
    let front = line_front line rest parts.1 in
    (rw (parts.0, front.0) refl, rw (parts.0, front.1) refl, rw (parts.0, front.2) refl)

first_is : (line rest : List ℕ) (says : LineSays Entry) → feedless line ≡ false → line_says line ≡ says
    → first_of (line ++ 10 ∷ rest) ≡ entry_at says rest true
unfolding first_of
first_is line rest says none is =
    let front = line_front line rest none in
    rw (front.0, front.1, front.2, is) refl

-- a line that is neither too long nor blank says what its fields do
says_fields : (fields : List (List ℕ)) → 0 < length fields → length (line_of fields) ≤ LINE_MAX → is_blank (line_of fields) ≡ false
    → line_says (line_of fields) ≡ fields_say (Some fields)
unfolding line_says
says_fields fields some short marked =
    rw (le-ltb LINE_MAX (length (line_of fields)) short, marked, fields_of-line_of fields some) refl

first_of_fields : (fields : List (List ℕ)) (rest : List ℕ) (says : LineSays Entry) → 0 < length fields
    → length (line_of fields) ≤ LINE_MAX → is_blank (line_of fields) ≡ false → fields_say (Some fields) ≡ says
    → first_of (line_of fields ++ 10 ∷ rest) ≡ entry_at says rest true
first_of_fields fields rest says some short marked is =
    first_is (line_of fields) rest says (feedless_line fields) (says_fields fields some short marked ∙ is)

-- ---- numbers and names

number_length : (n : ℕ) → n < 2 ^ 32 → length (decimal n) ≤ 10
number_length n small = length-decimal-le 10 n (omega arith) (omega arith) (omega arith)

node_read : (n : ℕ) → IsNumber n → node_of (decimal n) ≡ Some n
unfolding node_of id_of
node_read n is = rw (number_read n (2 ^ 32 - 1) (omega (arith, is.1)) (omega arith), ne_eqb n 0 (λ e. absurd (omega (arith, is.0)))) refl

zero_read : id_of (codes "0") ≡ Some 0
unfolding id_of number_of
zero_read = refl

-- ---- a command for each kind

abbrev node_fields : List ℕ → ℕ → ℕ → List ℕ → List ℕ → List (List ℕ)
node_fields word number parent name mode = word ∷ decimal number ∷ decimal parent ∷ name ∷ codes "0" ∷ codes "0" ∷ mode ∷ []

node_length : (word : List ℕ) (number parent : ℕ) (name mode : List ℕ) → IsNumber number → IsNumber parent → length name ≤ NAME_MAX
    → length word ≤ 6 → length mode ≤ 3 → length (line_of (node_fields word number parent name mode)) ≤ LINE_MAX
node_length word number parent name mode is its few short small =
    let zeros = codes "0" in
    omega (
      arith,
      line_length word (decimal number ∷ decimal parent ∷ name ∷ zeros ∷ zeros ∷ mode ∷ []),
      line_length (decimal number) (decimal parent ∷ name ∷ zeros ∷ zeros ∷ mode ∷ []),
      line_length (decimal parent) (name ∷ zeros ∷ zeros ∷ mode ∷ []),
      line_length name (zeros ∷ zeros ∷ mode ∷ []),
      line_length zeros (zeros ∷ mode ∷ []),
      line_length zeros (mode ∷ []),
      line_length mode [],
      number_length number is.1,
      number_length parent its.1,
    )

directory_says : (number parent : ℕ) (name : List ℕ) → IsNumber number → IsNumber parent
    → fields_say (Some (node_fields (codes "mkdir") number parent name (codes "755"))) ≡ Whole (item_of (Directory number parent name))
unfolding fields_say word_of said_by new_node_of perm_of mode_of
directory_says number parent name is its = rw (node_read number is, node_read parent its, zero_read) refl

file_says : (number parent : ℕ) (name : List ℕ) → IsNumber number → IsNumber parent
    → fields_say (Some (node_fields (codes "create") number parent name (codes "644"))) ≡ Whole (item_of (File number parent name))
unfolding fields_say word_of said_by new_node_of perm_of mode_of
file_says number parent name is its = rw (node_read number is, node_read parent its, zero_read) refl

abbrev link_fields : ℕ → ℕ → List ℕ → List (List ℕ)
link_fields number parent name = codes "link" ∷ decimal number ∷ decimal parent ∷ name ∷ []

link_says : (number parent : ℕ) (name : List ℕ) → IsNumber number → IsNumber parent
    → fields_say (Some (link_fields number parent name)) ≡ Whole (item_of (Link number parent name))
unfolding fields_say word_of said_by link_of
link_says number parent name is its = rw (node_read number is, node_read parent its) refl

link_length : (number parent : ℕ) (name : List ℕ) → IsNumber number → IsNumber parent → length name ≤ NAME_MAX
    → length (line_of (link_fields number parent name)) ≤ LINE_MAX
link_length number parent name is its few =
    omega (
      arith,
      line_length (codes "link") (decimal number ∷ decimal parent ∷ name ∷ []),
      line_length (decimal number) (decimal parent ∷ name ∷ []),
      line_length (decimal parent) (name ∷ []),
      line_length name [],
      number_length number is.1,
      number_length parent its.1,
    )

abbrev text_fields : ℕ → ℕ → List (List ℕ)
text_fields number size = codes "text" ∷ decimal number ∷ decimal size ∷ []

text_says : (number size : ℕ) → IsNumber number → size ≤ TEXT_MAX
    → fields_say (Some (text_fields number size)) ≡ TextHead number size
unfolding fields_say word_of said_by text_head_of
text_says number size is few = rw (node_read number is, number_read size INPUT_MAX (omega (arith, few)) (omega arith)) refl

text_length : (number size : ℕ) → IsNumber number → size ≤ TEXT_MAX → length (line_of (text_fields number size)) ≤ LINE_MAX
text_length number size is few =
    omega (
      arith,
      line_length (codes "text") (decimal number ∷ decimal size ∷ []),
      line_length (decimal number) (decimal size ∷ []),
      line_length (decimal size) [],
      number_length number is.1,
      number_length size (omega (arith, few)),
    )

-- a text and its LF after their line
body_read : (number : ℕ) (text rest : List ℕ) → length text ≤ TEXT_MAX
    → text_at number (length text) (text ++ 10 ∷ rest) ≡ record { entry = Happening (events.Text number) text; rest = rest; closed = true }
body_read number text rest few =
    rw (
      le-ltb (length (text ++ 10 ∷ rest)) (length text) (omega (arith, length-append text (10 ∷ rest))),
      take-append_seam text (10 ∷ rest),
      drop-append_seam text (10 ∷ rest),
      le-ltb TEXT_MAX (length text) few,
    ) refl

-- ---- each entry, and all of them

read_as : Made → List ℕ → First
read_as made rest = record { entry = item_of made; rest = rest; closed = true }

-- what is after a command is after its LF
after_feed : (line rest : List ℕ) → (line ++ 10 ∷ []) ++ rest ≡ line ++ 10 ∷ rest
after_feed line rest = append_assoc line (10 ∷ []) rest

first_command : (made : Made) → IsSayable made → (rest : List ℕ) → first_of (command_of made ++ rest) ≡ read_as made rest
unfolding read_as letter_of
first_command (Directory number parent name) is rest =
    let fields = node_fields (codes "mkdir") number parent name (codes "755") in
    ap first_of (after_feed (line_of fields) rest)
    ∙ first_of_fields fields rest (Whole (item_of (Directory number parent name))) (omega arith)
    (node_length (codes "mkdir") number parent name (codes "755") is.0 is.1 is.2 (omega arith) (omega arith)) refl
    (directory_says number parent name is.0 is.1)
first_command (File number parent name) is rest =
    let fields = node_fields (codes "create") number parent name (codes "644") in
    ap first_of (after_feed (line_of fields) rest)
    ∙ first_of_fields fields rest (Whole (item_of (File number parent name))) (omega arith)
    (node_length (codes "create") number parent name (codes "644") is.0 is.1 is.2 (omega arith) (omega arith)) refl
    (file_says number parent name is.0 is.1)
first_command (Link number parent name) is rest =
    let fields = link_fields number parent name in
    ap first_of (after_feed (line_of fields) rest)
    ∙ first_of_fields fields rest (Whole (item_of (Link number parent name))) (omega arith)
    (link_length number parent name is.0 is.1 is.2) refl (link_says number parent name is.0 is.1)
first_command (Text number text) is rest =
    let fields = text_fields number (length text) in
    let whole : (((line_of fields ++ 10 ∷ []) ++ text) ++ 10 ∷ []) ++ rest ≡ line_of fields ++ 10 ∷ (text ++ 10 ∷ rest) =
    append_assoc ((line_of fields ++ 10 ∷ []) ++ text) (10 ∷ []) rest
    ∙ append_assoc (line_of fields ++ 10 ∷ []) text (10 ∷ rest)
    ∙ append_assoc (line_of fields) (10 ∷ []) (text ++ 10 ∷ rest) in
    ap first_of whole
    ∙ first_of_fields fields (text ++ 10 ∷ rest) (TextHead number (length text)) (omega arith)
    (text_length number (length text) is.0 is.1) refl (text_says number (length text) is.0 is.1)
    ∙ body_read number text rest is.1

-- the items of the commands are those of the entries in turn, and then come those of what is after them
pub items_written : (entries : List Made) → AllByRecursion IsSayable entries → (rest : List ℕ)
    → items_of (commands_of entries ++ rest) ≡ map item_of entries ++ items_of rest
unfolding read_as
items_written [] is rest = refl
items_written (made ∷ entries) is rest =
    let bytes : command_of made ++ commands_of entries ++ rest ≡ command_of made ++ (commands_of entries ++ rest) =
    append_assoc (command_of made) (commands_of entries) rest in
    let first = first_command made is.0 (commands_of entries ++ rest) in
    ap items_of bytes
    ∙ items_of-closed (command_of made ++ (commands_of entries ++ rest)) (ap (λ (f : First). f.closed) first)
    ∙ ap (λ (f : First). f.entry ∷ items_of f.rest) first
    ∙ ap (λ (others : List Entry). item_of made ∷ others) (items_written entries is.1 rest)
