-- How long the script is at most.
use Rattle.std.proofs.Common.{◌≡◌, ℕ, zero, suc, ◌+◌, ◌-◌, ◌*◌, ◌/◌, ◌%◌, ◌^◌, ◌<◌, ◌≤◌, Bool, true, false, List, [], ◌∷◌}
use Rattle.std.proofs.Common.{◌++◌, length, map, length-append, refl, ap, arith, lit≤}
use Rattle.std.specs.Prelude.{codes, decimal, ◌==◌, if◌then◌else◌}
use Rattle.std.specs.List.{AllByRecursion, concat, flat_map, join_with_byte, range_with_len}
use Rattle.std.proofs.lemmas.Fmt.{length-decimal-le}
use Rattle.std.proofs.lemmas.Nat.{mul-lt}
use Rattle.std.proofs.Math.Nat.{mod-le, mod-lt}
use Rattle.wu_demo.specs.Draws.{Draws, draw, next_state, in_turn}
use Rattle.wu_demo.specs.Script.{line, user_command, directory_mode, directory_command, word_number, word, text_line, text_command}
use Rattle.wu_demo.specs.Script.{file_mode, create_command, work_command, work_after, flush_after, file_commands, chmod_command}
use Rattle.wu_demo.specs.Script.{change_command, count_command, rank_command, question_commands}
use Rattle.wu_demo.specs.Script.{round_commands, last_commands, script, demo_script}
use Rattle.wu_demo.proofs.TurnLemmas.{turns-none, turns-some}

-- ---- draws

below : (state bound : ℕ) → next_state state / 2 ^ 33 % bound < 2 ^ 31
below state bound = omega (arith, mod-le (next_state state / 2 ^ 33) bound)

draw-small : (bound state : ℕ) → (draw bound state).0 < 2 ^ 31
unfolding draw
draw-small bound state = below state bound

draw-below : (bound state : ℕ) → 0 < bound → (draw bound state).0 < bound
unfolding draw
draw-below bound state some = mod-lt (next_state state / 2 ^ 33) some

abbrev IsShort : ℕ → Draws (List ℕ) → Type 0
IsShort most draws = (state : ℕ) → length (draws state).0 ≤ most

turns-short : (draws : ℕ → Draws (List ℕ)) (most end n count : ℕ) → ((i : ℕ) → i < end → IsShort most (draws i)) → n + count ≤ end
    → (state : ℕ) → length (concat (in_turn draws n count state).0) ≤ count * most
turns-short draws most end n zero short within state = rw (ap (λ p. p.0) (turns-none draws n state)) (omega arith)
turns-short draws most end n (suc count) short within state =
    let first = (draws n state).0 in
    let others = in_turn draws (n + 1) count (draws n state).1 in
    rw (turns-some draws n count state)
    (omega (
      arith,
      length-append first (concat others.0),
      short n (omega arith) state,
      turns-short draws most end (n + 1) count short (omega arith) (draws n state).1,
    ))

-- ---- lines

decimal-short : (n : ℕ) → n < 2 ^ 64 → length (decimal n) ≤ 20
decimal-short n small = length-decimal-le 20 n (omega arith) (omega arith) small

joined-short : (byte most : ℕ) (pieces : List (List ℕ)) → AllByRecursion (λ piece. length piece ≤ most) pieces
    → length (join_with_byte byte pieces) ≤ length pieces * (most + 1)
joined-short byte most [] short = omega arith
joined-short byte most (piece ∷ []) short = omega (arith, short.0)
joined-short byte most (piece ∷ next ∷ pieces) short =
    omega (
      arith,
      length-append piece (byte ∷ join_with_byte byte (next ∷ pieces)),
      short.0,
      joined-short byte most (next ∷ pieces) short.1,
    )

-- no field of the script has more than 60 bytes
line-short : (fields : List (List ℕ)) → AllByRecursion (λ field. length field ≤ 60) fields → length (line fields) ≤ length fields * 61 + 1
line-short fields short =
    omega (arith, length-append (join_with_byte 9 fields) (10 ∷ []), joined-short 9 60 fields short)

number-short : (n : ℕ) → n < 2 ^ 64 → length (decimal n) ≤ 60
number-short n small = omega (arith, decimal-short n small)

name-short : (letter n : ℕ) → n < 2 ^ 64 → length (letter ∷ decimal n) ≤ 60
name-short letter n small = omega (arith, decimal-short n small)

node-short : (word : List ℕ) (letter n parent owner group : ℕ) (mode : List ℕ) → length word ≤ 60 → n < 2 ^ 64 → parent < 2 ^ 64
    → owner < 2 ^ 64 → group < 2 ^ 64 → length mode ≤ 60
    → length (line (word ∷ decimal n ∷ decimal parent ∷ (letter ∷ decimal n) ∷ decimal owner ∷ decimal group ∷ mode ∷ [])) ≤ 428
node-short word letter n parent owner group mode word_is n_is parent_is owner_is group_is mode_is =
    line-short (word ∷ decimal n ∷ decimal parent ∷ (letter ∷ decimal n) ∷ decimal owner ∷ decimal group ∷ mode ∷ []) (
      word_is,
      (
        number-short n n_is,
        (
          number-short parent parent_is,
          (
            name-short letter n n_is,
            (
              number-short owner owner_is,
              (number-short group group_is, (mode_is, tt)),
            ),
          ),
        ),
      ),
    )

either-short : (most : ℕ) (b : Bool) (one other : List ℕ) → length one ≤ most → length other ≤ most
    → length (if b then one else other) ≤ most
either-short most true one other h g = h
either-short most false one other h g = g

directory_mode-short : (k : ℕ) → length (directory_mode k) ≤ 60
unfolding directory_mode
directory_mode-short k =
    either-short 60 (k == 0) _ _ (lit≤ tt) (either-short 60 (k == 1) _ _ (lit≤ tt) (either-short 60 (k == 2) _ _ (lit≤ tt) (lit≤ tt)))

file_mode-short : (k : ℕ) → length (file_mode k) ≤ 60
unfolding file_mode
file_mode-short k =
    either-short 60 (k == 0) _ _ (lit≤ tt) (either-short 60 (k == 1) _ _ (lit≤ tt) (either-short 60 (k == 2) _ _ (lit≤ tt) (lit≤ tt)))

-- ---- texts

word_number-small : (state : ℕ) → (word_number state).0 < 2 ^ 62
unfolding word_number
word_number-small state =
    mul-lt (draw 40 state).0 (draw 25 (draw 40 state).1).0 (2 ^ 31) (2 ^ 31) (draw-small 40 state) (draw-small 25 (draw 40 state).1)

word-short : (n : ℕ) → n < 2 ^ 62 → length (word n) ≤ 21
word-short n small = omega (arith, decimal-short n (omega arith))

numbers-short : (n count state : ℕ)
    → AllByRecursion (λ piece. length piece ≤ 21) (map word (in_turn (λ _. word_number) n count state).0)
numbers-short n zero state = rw (ap (λ p. p.0) (turns-none (λ _. word_number) n state)) tt
numbers-short n (suc count) state =
    rw (turns-some (λ _. word_number) n count state)
    (word-short (word_number state).0 (word_number-small state), numbers-short (n + 1) count (word_number state).1)

numbers-length : (n count state : ℕ) → length (map word (in_turn (λ _. word_number) n count state).0) ≡ count
numbers-length n zero state = rw (ap (λ p. p.0) (turns-none (λ _. word_number) n state)) refl
numbers-length n (suc count) state =
    rw (turns-some (λ _. word_number) n count state) (ap suc (numbers-length (n + 1) count (word_number state).1))

text_line-short : IsShort 177 text_line
unfolding text_line
text_line-short state =
    let words = map word (in_turn (λ _. word_number) 0 8 state).0 in
    omega (
      arith,
      length-append (join_with_byte 32 words) (10 ∷ []),
      joined-short 32 21 words (numbers-short 0 8 state),
      numbers-length 0 8 state,
    )

body-short : (lines state : ℕ) → length (concat (in_turn (λ _. text_line) 0 lines state).0) ≤ lines * 177
body-short lines state = turns-short (λ _. text_line) 177 lines 0 lines (λ i _. text_line-short) (omega arith) state

text_command-short : (file lines : ℕ) → file < 2 ^ 64 → lines ≤ 20 → IsShort 3725 (text_command file lines)
unfolding text_command
text_command-short file lines small few state =
    let body = concat (in_turn (λ _. text_line) 0 lines state).0 in
    let fields = codes "text" ∷ decimal file ∷ decimal (length body) ∷ [] in
    let body_is : length body ≤ lines * 177 = body-short lines state in
    omega (
      arith,
      length-append (line fields ++ body) (10 ∷ []),
      length-append (line fields) body,
      line-short fields (lit≤ tt, (number-short file small, (number-short (length body) (omega arith), tt))),
      body_is,
    )

-- ---- files

create_command-short : (f : ℕ) → f < 2 ^ 63 → IsShort 428 (create_command f)
unfolding create_command
create_command-short f small state =
    let parent = draw 33 state in
    let owner = draw 8 parent.1 in
    let group = draw 3 owner.1 in
    node-short (codes "create") 102 f (1 + parent.0) (1 + owner.0) (100 + group.0) (file_mode (draw 4 group.1).0) (lit≤ tt) (omega arith)
    (omega (arith, draw-small 33 state)) (omega (arith, draw-small 8 parent.1)) (omega (arith, draw-small 3 owner.1))
    (file_mode-short (draw 4 group.1).0)

work_command-short : (units : ℕ) → units < 2 ^ 64 → length (work_command units) ≤ 123
work_command-short units small = line-short (codes "work" ∷ decimal units ∷ []) (lit≤ tt, (number-short units small, tt))

work_after-short : (f : ℕ) → length (work_after f) ≤ 123
unfolding work_after
work_after-short f = either-short 123 (f % 10 == 9) (work_command 200) [] (work_command-short 200 (omega arith)) (lit≤ tt)

flush_after-short : (f : ℕ) → length (flush_after f) ≤ 62
unfolding flush_after
flush_after-short f = either-short 62 (f % 100 == 99) (line (codes "flush" ∷ [])) [] (lit≤ tt) (lit≤ tt)

file_commands-short : (f : ℕ) → f < 2 ^ 63 → IsShort 4338 (file_commands f)
unfolding file_commands
file_commands-short f small state =
    let created = create_command f state in
    let lines = draw 20 created.1 in
    let text = text_command f (1 + lines.0) lines.1 in
    omega (
      arith,
      length-append (created.0 ++ text.0 ++ work_after f) (flush_after f),
      length-append (created.0 ++ text.0) (work_after f),
      length-append created.0 text.0,
      create_command-short f small state,
      text_command-short f (1 + lines.0) (omega arith) (omega (arith, draw-below 20 created.1 (omega arith))) lines.1,
      work_after-short f,
      flush_after-short f,
    )

-- ---- directories, users and rounds

directory_command-short : (d : ℕ) → d < 2 ^ 63 → IsShort 428 (directory_command d)
unfolding directory_command
directory_command-short d small state =
    let parent = draw (d - 1) state in
    let owner = draw 8 parent.1 in
    let group = draw 3 owner.1 in
    node-short (codes "mkdir") 100 d (1 + parent.0) (1 + owner.0) (100 + group.0) (directory_mode (draw 4 group.1).0) (lit≤ tt)
    (omega arith) (omega (arith, draw-small (d - 1) state)) (omega (arith, draw-small 8 parent.1)) (omega (arith, draw-small 3 owner.1))
    (directory_mode-short (draw 4 group.1).0)

user_command-short : (user : ℕ) → user < 2 ^ 63 → length (user_command user) ≤ 184
unfolding user_command
user_command-short user small =
    line-short (codes "user" ∷ decimal user ∷ decimal (100 + user % 3) ∷ [])
    (lit≤ tt, (number-short user (omega arith), (number-short (100 + user % 3) (omega arith), tt)))

users-short : (n count : ℕ) → n + count < 2 ^ 63 → length (flat_map user_command (range_with_len n count)) ≤ count * 184
users-short n zero small = omega arith
users-short n (suc count) small =
    omega (
      arith,
      length-append (user_command n) (flat_map user_command (range_with_len (n + 1) count)),
      user_command-short n (omega arith),
      users-short (n + 1) count (omega arith),
    )

chmod_command-short : (file : ℕ) → file < 2 ^ 63 → IsShort 362 (chmod_command file)
unfolding chmod_command
chmod_command-short file small state =
    omega (
      arith,
      line-short (codes "chmod" ∷ decimal file ∷ file_mode (draw 4 state).0 ∷ [])
          (lit≤ tt, (number-short file (omega arith), (file_mode-short (draw 4 state).0, tt))),
    )

new_text-short : (file : ℕ) → file < 2 ^ 63 → IsShort 362 (text_command file 1)
unfolding text_command
new_text-short file small state =
    let body = concat (in_turn (λ _. text_line) 0 1 state).0 in
    let fields = codes "text" ∷ decimal file ∷ decimal (length body) ∷ [] in
    let body_is : length body ≤ 1 * 177 = body-short 1 state in
    omega (
      arith,
      length-append (line fields ++ body) (10 ∷ []),
      length-append (line fields) body,
      line-short fields (lit≤ tt, (number-short file (omega arith), (number-short (length body) (omega arith), tt))),
      body_is,
    )

change_command-short : (i file : ℕ) → file < 2 ^ 63 → IsShort 362 (change_command i file)
unfolding change_command
change_command-short i file small state = by_case (i % 2 == 0)
  where
    by_case : (b : Bool) → length ((if b then chmod_command file else text_command file 1) state).0 ≤ 362
    by_case true = chmod_command-short file small state
    by_case false = new_text-short file small state

count_command-short : (user a b : ℕ) → user < 2 ^ 64 → a < 2 ^ 62 → b < 2 ^ 62 → length (count_command user a b) ≤ 184
unfolding count_command
count_command-short user a b small first second =
    let front = codes "line > (\"" in
    let between = codes "\" + \"" in
    let back = codes "\")" in
    let expression_is : length (front ++ word a ++ between ++ word b ++ back) ≤ 60 = omega (
      arith,
      length-append (front ++ word a ++ between ++ word b) back,
      length-append (front ++ word a ++ between) (word b),
      length-append (front ++ word a) between,
      length-append front (word a),
      word-short a first,
      word-short b second,
    ) in
    line-short (codes "count" ∷ decimal user ∷ (front ++ word a ++ between ++ word b ++ back) ∷ [])
    (lit≤ tt, (number-short user small, (expression_is, tt)))

rank_command-short : (user a b : ℕ) → user < 2 ^ 64 → a < 2 ^ 62 → b < 2 ^ 62 → length (rank_command user a b) ≤ 306
unfolding rank_command
rank_command-short user a b small first second =
    let words_is : length (word a ++ codes " " ++ word b) ≤ 60 = omega (
      arith,
      length-append (word a ++ codes " ") (word b),
      length-append (word a) (codes " "),
      word-short a first,
      word-short b second,
    ) in
    line-short (codes "rank" ∷ decimal user ∷ decimal 10 ∷ codes "file" ∷ (word a ++ codes " " ++ word b) ∷ [])
    (lit≤ tt, (number-short user small, (number-short 10 (omega arith), (lit≤ tt, (words_is, tt)))))

question_commands-short : IsShort 490 question_commands
unfolding question_commands
question_commands-short state =
    let user = draw 8 state in
    let a = word_number user.1 in
    let b = word_number a.1 in
    omega (
      arith,
      length-append (count_command (1 + user.0) a.0 b.0) (rank_command (1 + user.0) a.0 b.0),
      count_command-short (1 + user.0) a.0 b.0 (omega (arith, draw-small 8 state)) (word_number-small user.1) (word_number-small a.1),
      rank_command-short (1 + user.0) a.0 b.0 (omega (arith, draw-small 8 state)) (word_number-small user.1) (word_number-small a.1),
    )

round_commands-short : (i : ℕ) → IsShort 975 (round_commands i)
unfolding round_commands
round_commands-short i state =
    let file = draw 800 state in
    let change = change_command i (100 + file.0) file.1 in
    let questions = question_commands change.1 in
    omega (
      arith,
      length-append (change.0 ++ work_command 100) questions.0,
      length-append change.0 (work_command 100),
      change_command-short i (100 + file.0) (omega (arith, draw-small 800 state)) file.1,
      work_command-short 100 (omega arith),
      question_commands-short change.1,
    )

-- ---- the script

pub script-short : (number : ℕ) → length (demo_script number) < 2 ^ 22
unfolding script
script-short number =
    let directories = in_turn directory_command 2 32 number in
    let files = in_turn file_commands 100 800 directories.1 in
    let rounds = in_turn round_commands 0 100 files.1 in
    let users = flat_map user_command (range_with_len 1 8) in
    let stat_is : length (line (codes "stat" ∷ [])) ≤ 62 = lit≤ tt in
    omega (
      arith,
      length-append (users ++ concat directories.0 ++ concat files.0 ++ concat rounds.0) last_commands,
      length-append (users ++ concat directories.0 ++ concat files.0) (concat rounds.0),
      length-append (users ++ concat directories.0) (concat files.0),
      length-append users (concat directories.0),
      users-short 1 8 (omega arith),
      turns-short directory_command 428 34 2 32 (λ i within. directory_command-short i (omega arith)) (omega arith) number,
      turns-short file_commands 4338 900 100 800 (λ i within. file_commands-short i (omega arith)) (omega arith) directories.1,
      turns-short round_commands 975 100 0 100 (λ i within. round_commands-short i) (omega arith) files.1,
      length-append (work_command 1000000) (line (codes "stat" ∷ [])),
      work_command-short 1000000 (omega arith),
      stat_is,
    )
