-- Lemmas on how many tokens the items of a script give.
use Rattle.std.proofs.Common.{◌≡◌, ℕ, zero, suc, ◌+◌, ◌*◌, ◌<◌, ◌≤◌, Bool, true, false, List, [], ◌∷◌, length, take, drop, Option, Some}
use Rattle.std.proofs.Common.{None, Result, Ok, Err, refl, ap, arith}
use Rattle.std.specs.Prelude.{nat_lt, if◌then◌else◌}
use Rattle.std.specs.List.{sum_by}
use Rattle.std.specs.Option.{option_map}
use Rattle.std.proofs.lemmas.Bool.{ltb-false}
use Rattle.std.proofs.lemmas.List.{length-take-le, length-drop}
use Rattle.std.proofs.lemmas.List.Sums.{sum_by-cons}
use Rattle.wu_base.specs.declared.limits.TheConstants.{LINE_MAX, TEXT_MAX}
use Rattle.wu_tree.specs.declared.events.Event.{Event}
use Rattle.wu_tree.specs.declared.events.Event.TheVariants as events
use Rattle.wu_token.proofs.LengthLemmas.{length-tokens_of}
use Rattle.wu_ask.specs.Questions.{Question}
use Rattle.wu_fields.specs.Fields.{fields_of}
use Rattle.wu_script.specs.declared.types.Why.{Why}
use Rattle.wu_script.specs.declared.types.Why.TheVariants.{LongLine}
use Rattle.wu_script.specs.declared.queries.Wanted.TheVariants.{Best, Weighed}
use Rattle.wu_script.specs.declared.words.Word.{Word}
use Rattle.wu_script.specs.declared.words.Word.TheVariants as words
use Rattle.wu_script.specs.Words.{word_of}
use Rattle.wu_script.specs.Commands.{QuerySyntax, Operation, Entry, Happening, Asking, Operating, Refusing, Blank, LineSays, Whole}
use Rattle.wu_script.specs.Commands.{TextHead}
use Rattle.wu_script.specs.Commands.{event_line, query_line, operation_line, text_line, flush_of, work_of, stat_of, save_of}
use Rattle.wu_script.specs.Commands.{acl_of, user_of, new_node_of, mkdir_event, create_event, link_of, place_of, unlink_event, rmdir_event}
use Rattle.wu_script.specs.Commands.{rename_of}
use Rattle.wu_script.specs.Commands.{chmod_of, chown_of, text_head_of, count_of, find_of, rank_of, paths_of, terms_of, export_of}
use Rattle.wu_script.specs.Commands.{command_of, fields_say}
use Rattle.wu_script.specs.Commands.{is_blank, line_says}
use Rattle.wu_script.specs.Said.{Reading, said_of, question_in, asked, event_tokens, tokens_given, text_given}
use Rattle.wu_script.specs.Items.{line_at, after_line, has_feed, body_entry, text_at, entry_at, first_of, items_within, items_of}
use Rattle.wu_script.proofs.ItemListLemmas.{after_short, after_shorter}

event_few : (event : Event) (text : List ℕ) → event_tokens event text ≤ 3 * length text + 2
event_few (events.Text ino) text = length-tokens_of text
event_few (events.Create ino parent name perm) text = omega (arith, length-tokens_of [])
event_few _ text = omega arith

asked_few : (uid : ℕ) (question : Result Question Why)
    → tokens_given (asked uid question) ≤ 3 * length (text_given (asked uid question)) + 2
asked_few uid (Ok question) = omega arith
asked_few uid (Err why) = omega arith

-- the tokens of a text, by its bytes
entry_few : (read : Reading) (entry : Entry) → tokens_given (said_of read entry) ≤ 3 * length (text_given (said_of read entry)) + 2
entry_few read (Happening event text) = event_few event text
entry_few read (Asking uid wish) = asked_few uid (question_in read wish)
entry_few read (Operating operation) = omega arith
entry_few read (Refusing why) = omega arith
entry_few read Blank = omega arith

asked_text : (uid : ℕ) (question : Result Question Why) → text_given (asked uid question) ≡ []
asked_text uid (Ok question) = refl
asked_text uid (Err why) = refl

-- a text has no more bytes than its body
body_text : (read : Reading) (ino len : ℕ) (body tail : List ℕ)
    → length (text_given (said_of read (body_entry ino len body tail))) ≤ length body
body_text read ino len body [] = by_case (nat_lt TEXT_MAX len) refl
  where
    by_case : (over : Bool) → nat_lt TEXT_MAX len ≡ over → length (text_given (said_of read (body_entry ino len body []))) ≤ length body
    by_case true is = rw is (omega arith)
    by_case false is = rw is (omega arith)
body_text read ino len body (byte ∷ tail) = by_case (nat_lt TEXT_MAX len) refl
  where
    by_case : (over : Bool) → nat_lt TEXT_MAX len ≡ over
        → length (text_given (said_of read (body_entry ino len body (byte ∷ tail)))) ≤ length body
    by_case true is = rw is (omega arith)
    by_case false is = rw is (omega arith)

text_uses : (read : Reading) (ino len : ℕ) (bytes : List ℕ)
    → length (text_given (said_of read (text_at ino len bytes).entry)) + length (text_at ino len bytes).rest ≤ length bytes
text_uses read ino len bytes = by_case (nat_lt (length bytes) len) refl
  where
    by_case : (short : Bool) → nat_lt (length bytes) len ≡ short
        → length (text_given (said_of read (text_at ino len bytes).entry)) + length (text_at ino len bytes).rest ≤ length bytes
    by_case true is = rw is (omega arith)
    by_case false is =
        let within : len ≤ length bytes = ltb-false (length bytes) len is in
        rw is (omega (
          arith,
          body_text read ino len (take len bytes) (line_at (drop len bytes)),
          length-take-le len bytes within,
          after_short
              (drop len bytes),
          length-drop len bytes,
        ))

-- ---- a line gives no text

abbrev IsWithoutText : LineSays Entry → Type 0
IsWithoutText (Whole (Happening event text)) = text ≡ []
IsWithoutText _ = Unit {0}

event_line_none : (event : Option Event) → IsWithoutText (event_line event)
event_line_none None = tt
event_line_none (Some event) = refl

query_line_none : (query : Option (ℕ × QuerySyntax)) → IsWithoutText (query_line query)
query_line_none None = tt
query_line_none (Some query) = tt

operation_line_none : (operation : Option Operation) → IsWithoutText (operation_line operation)
operation_line_none None = tt
operation_line_none (Some operation) = tt

text_line_none : (head : Option (ℕ × ℕ)) → IsWithoutText (text_line head)
text_line_none None = tt
text_line_none (Some head) = tt

command_none : (word : Word) (fields : List (List ℕ)) → IsWithoutText (command_of word fields)
unfolding command_of
command_none words.User fields = event_line_none (user_of fields)
command_none words.Mkdir fields = event_line_none (option_map mkdir_event (new_node_of fields))
command_none words.Create fields = event_line_none (option_map create_event (new_node_of fields))
command_none words.Text fields = text_line_none (text_head_of fields)
command_none words.Link fields = event_line_none (link_of fields)
command_none words.Unlink fields = event_line_none (option_map unlink_event (place_of fields))
command_none words.Rmdir fields = event_line_none (option_map rmdir_event (place_of fields))
command_none words.Rename fields = event_line_none (rename_of fields)
command_none words.Chmod fields = event_line_none (chmod_of fields)
command_none words.Chown fields = event_line_none (chown_of fields)
command_none words.Acl fields = event_line_none (acl_of fields)
command_none words.Count fields = query_line_none (count_of fields)
command_none words.Find fields = query_line_none (find_of fields)
command_none words.Rank fields = query_line_none (rank_of Best fields)
command_none words.Paths fields = query_line_none (paths_of fields)
command_none words.Terms fields = query_line_none (terms_of false fields)
command_none words.Top fields = query_line_none (terms_of true fields)
command_none words.Export fields = query_line_none (export_of fields)
command_none words.Weighed fields = query_line_none (rank_of Weighed fields)
command_none words.Flush fields = operation_line_none (flush_of fields)
command_none words.Work fields = operation_line_none (work_of fields)
command_none words.Stat fields = operation_line_none (stat_of fields)
command_none words.Save fields = operation_line_none (save_of fields)
command_none words.Unknown fields = tt

fields_none : (fields : Option (List (List ℕ))) → IsWithoutText (fields_say fields)
unfolding fields_say
fields_none None = tt
fields_none (Some []) = tt
fields_none (Some (word ∷ fields)) = command_none (word_of word) fields

line_none : (line : List ℕ) → IsWithoutText (line_says line)
unfolding line_says
line_none line = by_long (nat_lt LINE_MAX (length line)) refl
  where
    by_blank : (blank : Bool) → is_blank line ≡ blank → IsWithoutText (if is_blank line then Whole Blank else fields_say (fields_of line))
    by_blank true is = rw is tt
    by_blank false is = rw is (fields_none (fields_of line))

    by_long : (long : Bool) → nat_lt LINE_MAX (length line) ≡ long
        → IsWithoutText
        (if nat_lt LINE_MAX (length line) then Whole (Refusing LongLine) else if is_blank line then Whole Blank else fields_say
        (fields_of line))
    by_long true is = rw is tt
    by_long false is = rw is (by_blank (is_blank line) refl)

entry_text : (read : Reading) (entry : Entry) → IsWithoutText (Whole entry) → text_given (said_of read entry) ≡ []
entry_text read (Happening event text) none = none
entry_text read (Asking uid wish) none = asked_text uid (question_in read wish)
entry_text read (Operating operation) none = refl
entry_text read (Refusing why) none = refl
entry_text read Blank none = refl

-- ---- what an item uses

line_uses : (read : Reading) (says : LineSays Entry) (rest : List ℕ) (closed : Bool) → IsWithoutText says
    → length (text_given (said_of read (entry_at says rest closed).entry)) + length (entry_at says rest closed).rest ≤ length rest
line_uses read (Whole entry) rest closed none = omega (arith, ap length (entry_text read entry none))
line_uses read (TextHead ino len) rest closed none = text_uses read ino len rest

-- an item uses more bytes than its text has
pub first_uses : (read : Reading) (bytes : List ℕ) → 0 < length bytes
    → length (text_given (said_of read (first_of bytes).entry)) + length (first_of bytes).rest < length bytes
unfolding first_of
first_uses read [] some = absurd (omega arith)
first_uses read (byte ∷ bytes) some =
    omega (
      arith,
      line_uses read (line_says (line_at (byte ∷ bytes))) (after_line (byte ∷ bytes)) (has_feed (byte ∷ bytes))
          (line_none (line_at (byte ∷ bytes))),
      after_shorter byte bytes,
    )

pub first_tokens : (read : Reading) (bytes : List ℕ) → 0 < length bytes
    → tokens_given (said_of read (first_of bytes).entry) + 3 * length (first_of bytes).rest ≤ 3 * length bytes
first_tokens read bytes some = omega (arith, first_uses read bytes some, entry_few read (first_of bytes).entry)

-- ---- and all of them

abbrev tokens_in : Reading → List Entry → ℕ
tokens_in read entries = sum_by (λ entry. tokens_given (said_of read entry)) entries

tokens_within : (read : Reading) (n : ℕ) (bytes : List ℕ) → tokens_in read (items_within n bytes) ≤ 3 * length bytes
tokens_within read zero bytes = omega arith
tokens_within read (suc n) [] = omega arith
tokens_within read (suc n) (byte ∷ bytes) =
    let first = first_of (byte ∷ bytes) in
    omega (
      arith,
      sum_by-cons (λ entry. tokens_given (said_of read entry)) first.entry (items_within n first.rest),
      first_tokens read
          (byte ∷ bytes) (omega arith),
      tokens_within read n first.rest,
    )

pub script_tokens : (read : Reading) (bytes : List ℕ) → tokens_in read (items_of bytes) ≤ 3 * length bytes
unfolding items_of
script_tokens read bytes = tokens_within read (length bytes) bytes
