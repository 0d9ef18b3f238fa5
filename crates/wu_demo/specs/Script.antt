-- The script of a number: commands whose fields are drawn, each draw in the order in which it stands here.
use Rattle.std.specs.Prelude.{ℕ, ◌+◌, ◌-◌, ◌*◌, ◌%◌, ◌==◌, List, [], ◌∷◌, ◌++◌, codes, decimal, length, map, if◌then◌else◌}
use Rattle.std.specs.List.{concat, flat_map, join_with_byte, range_with_len}
use Rattle.wu_demo.specs.Draws.{Draws, give, ◌>>=◌, draw, in_turn}

-- the line of a command: its fields with a TAB between each two, and LF. No byte of these fields is one that is escaped.
abbrev pub line : List (List ℕ) → List ℕ
line fields = join_with_byte 9 fields ++ 10 ∷ []

-- ---- users

unfoldable pub user_command : ℕ → List ℕ
user_command user = line (codes "user" ∷ decimal user ∷ decimal (100 + user % 3) ∷ [])

-- ---- directories

unfoldable pub directory_mode : ℕ → List ℕ
directory_mode k = if k == 0 then codes "755" else if k == 1 then codes "711" else if k == 2 then codes "750" else codes "700"

-- the directory d, in one of those before it
unfoldable pub directory_command : ℕ → Draws (List ℕ)
directory_command d = do
  parent ← draw (d - 1)
  owner ← draw 8
  group ← draw 3
  mode ← draw 4
  give (line (codes "mkdir" ∷ decimal d ∷ decimal (1 + parent) ∷ (codes "d" ++ decimal d)
      ∷ decimal (1 + owner) ∷ decimal (100 + group) ∷ directory_mode mode ∷ []))

-- ---- texts

-- the number of a word; a product of draws is small more often than large
unfoldable pub word_number : Draws ℕ
word_number = do
  left ← draw 40
  right ← draw 25
  give (left * right)

abbrev pub word : ℕ → List ℕ
word number = codes "w" ++ decimal number

-- a line of eight words
unfoldable pub text_line : Draws (List ℕ)
text_line = do
  numbers ← in_turn (λ _. word_number) 0 8
  give (join_with_byte 32 (map word numbers) ++ 10 ∷ [])

-- a file is given a text of so many lines
unfoldable pub text_command : ℕ → ℕ → Draws (List ℕ)
text_command file lines = do
  body ← in_turn (λ _. text_line) 0 lines
  give (line (codes "text" ∷ decimal file ∷ decimal (length (concat body)) ∷ []) ++ concat body ++ 10 ∷ [])

-- ---- files

unfoldable pub file_mode : ℕ → List ℕ
file_mode k = if k == 0 then codes "644" else if k == 1 then codes "640" else if k == 2 then codes "600" else codes "604"

-- the file f, in the root or one of the 32 directories
unfoldable pub create_command : ℕ → Draws (List ℕ)
create_command f = do
  parent ← draw 33
  owner ← draw 8
  group ← draw 3
  mode ← draw 4
  give (line (codes "create" ∷ decimal f ∷ decimal (1 + parent) ∷ (codes "f" ++ decimal f)
      ∷ decimal (1 + owner) ∷ decimal (100 + group) ∷ file_mode mode ∷ []))

abbrev pub work_command : ℕ → List ℕ
work_command units = line (codes "work" ∷ decimal units ∷ [])

-- background work after each tenth file, and a flush after each hundredth
unfoldable pub work_after : ℕ → List ℕ
work_after f = if f % 10 == 9 then work_command 200 else []

unfoldable pub flush_after : ℕ → List ℕ
flush_after f = if f % 100 == 99 then line (codes "flush" ∷ []) else []

-- the file f, its text of 1 to 20 lines, and what is done after it
unfoldable pub file_commands : ℕ → Draws (List ℕ)
file_commands f = do
  created ← create_command f
  lines ← draw 20
  text ← text_command f (1 + lines)
  give (created ++ text ++ work_after f ++ flush_after f)

-- ---- changes and questions

unfoldable pub chmod_command : ℕ → Draws (List ℕ)
chmod_command file = do
  mode ← draw 4
  give (line (codes "chmod" ∷ decimal file ∷ file_mode mode ∷ []))

-- a file has its mode changed in each other round, and its text in the others
unfoldable pub change_command : ℕ → ℕ → Draws (List ℕ)
change_command i file = if i % 2 == 0 then chmod_command file else text_command file 1

unfoldable pub count_command : ℕ → ℕ → ℕ → List ℕ
count_command user a b =
    line (codes "count" ∷ decimal user ∷ (codes "line > (\"" ++ word a ++ codes "\" + \"" ++ word b ++ codes "\")") ∷ [])

unfoldable pub rank_command : ℕ → ℕ → ℕ → List ℕ
rank_command user a b =
    line (codes "rank" ∷ decimal user ∷ decimal 10 ∷ codes "file" ∷ (word a ++ codes " " ++ word b) ∷ [])

-- a user counts the lines that have one of two words, and ranks the files by both
unfoldable pub question_commands : Draws (List ℕ)
question_commands = do
  user ← draw 8
  a ← word_number
  b ← word_number
  give (count_command (1 + user) a b ++ rank_command (1 + user) a b)

unfoldable pub round_commands : ℕ → Draws (List ℕ)
round_commands i = do
  file ← draw 800
  change ← change_command i (100 + file)
  questions ← question_commands
  give (change ++ work_command 100 ++ questions)

-- ---- the script

abbrev pub last_commands : List ℕ
last_commands = work_command 1000000 ++ line (codes "stat" ∷ [])

-- the users 1 to 8, the directories 2 to 33, the files 100 to 899 and the rounds 0 to 99
unfoldable pub script : Draws (List ℕ)
script = do
  directories ← in_turn directory_command 2 32
  files ← in_turn file_commands 100 800
  rounds ← in_turn round_commands 0 100
  give (flat_map user_command (range_with_len 1 8) ++ concat directories ++ concat files ++ concat rounds ++ last_commands)

-- the generator's first state is the number
abbrev pub demo_script : ℕ → List ℕ
demo_script number = (script number).0
