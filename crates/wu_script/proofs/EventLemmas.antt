-- The events of a script are ones that a tree takes: no node that they make has number 0, and a mode has four octal digits.
use Rattle.std.proofs.Common.{◌≡◌, ◌≢◌, ℕ, zero, suc, ◌<◌, ◌≤◌, ◌^◌, List, [], ◌∷◌, length, take, drop, map, Bool, true, false}
use Rattle.std.proofs.Common.{Ok, Err, refl, arith}
use Rattle.std.specs.Prelude.{◌&&◌, ◌||◌, ◌==◌, nat_lt, nat_le, Option, Some, None, Result, if◌then◌else◌}
use Rattle.std.specs.Option.{option_map}
use Rattle.std.specs.List.{AllByRecursion, list_all}
use Rattle.std.specs.Char.{digit_value}
use Rattle.std.specs.Str.Parse.{digits_value, AllDigits}
use Rattle.std.proofs.lemmas.Bool.{and_parts, leb-true, ltb-true}
use Rattle.std.proofs.lemmas.Int.Digits.{digits_value-lt}
use Rattle.std.proofs.lemmas.Str.{digit_value_digit}
use borrow.Author.Tests.{eqb-true, eqb-false}
use Rattle.wu_base.specs.declared.limits.TheConstants.{LINE_MAX, TEXT_MAX}
use Rattle.wu_tree.specs.declared.events.Event.{Event}
use Rattle.wu_tree.specs.declared.events.Event.TheVariants as events
use Rattle.wu_tree.specs.Steps.{IsEvent}
use Rattle.wu_ask.specs.Questions.{Question}
use Rattle.wu_fields.specs.Numbers.{is_octal_digit, mode_of}
use Rattle.wu_fields.specs.Fields.{fields_of}
use Rattle.wu_script.specs.declared.types.Why.{Why}
use Rattle.wu_script.specs.declared.types.Why.TheVariants.{LongLine, Truncated, TooLong, BadBody}
use Rattle.wu_script.specs.declared.events.NewNode.{NewNode}
use Rattle.wu_script.specs.declared.queries.Wanted.TheVariants.{Best, Weighed}
use Rattle.wu_script.specs.declared.words.Word.{Word}
use Rattle.wu_script.specs.declared.words.Word.TheVariants as words
use Rattle.wu_script.specs.Words.{word_of}
use Rattle.wu_script.specs.Commands.{QuerySyntax, Operation, Entry, Happening, Asking, Operating, Refusing, Blank, LineSays, Whole}
use Rattle.wu_script.specs.Commands.{TextHead}
use Rattle.wu_script.specs.Commands.{event_line, query_line, operation_line, text_line, flush_of, work_of, stat_of, save_of}
use Rattle.wu_script.specs.Commands.{acl_of, user_of, new_node_of, mkdir_event, create_event, link_of, place_of, unlink_event, rmdir_event}
use Rattle.wu_script.specs.Commands.{rename_of, chmod_of, chown_of, text_head_of, count_of, find_of, rank_of, paths_of, terms_of, export_of, command_of}
use Rattle.wu_script.specs.Commands.{fields_say, is_blank, line_says}
use Rattle.wu_script.specs.Commands.{id_of, ids_of, node_of, nonzero, perm_of}
use Rattle.wu_script.specs.Said.{Reading, Said, Happens, said_of, question_in, asked}
use Rattle.wu_script.proofs.AclLemmas.{acl_given}
use Rattle.wu_script.proofs.GivenValues.{Given, after_any, any_given, map_given, then_given}
use Rattle.wu_script.specs.Items.{First, line_at, after_line, has_feed, body_entry, text_at, entry_at, first_of, items_within, items_of}

-- ---- fields

nonzero_given : (n : ℕ) → Given (λ m. 1 ≤ m) (nonzero n)
nonzero_given n =
    elim (n == 0) as (λ b. (n == 0) ≡ b → Given (λ m. 1 ≤ m) (if b then None else Some n)) [
      | true ↦ λ e. tt
      | false ↦ λ e. let apart : n ≢ 0 = eqb-false n 0 e in omega arith
    ] refl

node_given : (field : List ℕ) → Given (λ n. 1 ≤ n) (node_of field)
unfolding node_of
node_given field = after_any (λ n. 1 ≤ n) nonzero (id_of field) nonzero_given

octal_digit : (byte : ℕ) → is_octal_digit byte ≡ true → digit_value byte < 8
octal_digit byte h =
    let p = and_parts (nat_le 48 byte) (nat_lt byte 56) h in
    let low : 48 ≤ byte = leb-true 48 byte p.0 in
    let high : byte < 56 = ltb-true byte 56 p.1 in
    omega (arith, digit_value_digit byte (low, omega arith))

octal_digits : (field : List ℕ) → list_all is_octal_digit field ≡ true → AllDigits 8 field
octal_digits [] h = tt
octal_digits (byte ∷ field) h =
    let p = and_parts (is_octal_digit byte) (list_all is_octal_digit field) h in
    (octal_digit byte p.0, octal_digits field p.1)

short_power : (n : ℕ) → (n == 3 || n == 4) ≡ true → 8 ^ n ≤ 4096
short_power n h =
    elim (n == 3) as (λ b. (n == 3) ≡ b → (b || n == 4) ≡ true → 8 ^ n ≤ 4096) [
      | true ↦ λ e g. let same : n ≡ 3 = eqb-true n 3 e in rw same (omega arith)
      | false ↦ λ e g. let same : n ≡ 4 = eqb-true n 4 g in rw same (omega arith)
    ] refl h

mode_given : (field : List ℕ) → Given (λ m. m ≤ 0xFFF) (mode_of field)
unfolding mode_of
mode_given field = by_test ((length field == 3 || length field == 4) && list_all is_octal_digit field) refl
  where
    by_test : (b : Bool) → ((length field == 3 || length field == 4) && list_all is_octal_digit field) ≡ b
        → Given (λ m. m ≤ 0xFFF) (if b then Some (digits_value 8 field) else None)
    by_test true h =
        let p = and_parts (length field == 3 || length field == 4) (list_all is_octal_digit field) h in
        omega (arith, digits_value-lt 8 field (octal_digits field p.1), short_power (length field) p.0)
    by_test false h = tt

perm_given : (uid gid mode : List ℕ) → Given (λ perm. perm.mode ≤ 0xFFF) (perm_of uid gid mode)
unfolding perm_of
perm_given uid gid mode =
    after_any (λ perm. perm.mode ≤ 0xFFF) _ (id_of uid) (λ u. after_any (λ perm. perm.mode ≤ 0xFFF) _ (id_of gid) (λ g.
    then_given (λ m. m ≤ 0xFFF) (λ perm. perm.mode ≤ 0xFFF) _ (mode_of mode) (mode_given mode) (λ m low. low)))

-- ---- events

abbrev IsNewNode : NewNode → Type 0
IsNewNode node = (1 ≤ node.ino) × (node.perm.mode ≤ 0xFFF)

user_given : (fields : List (List ℕ)) → Given IsEvent (user_of fields)
unfolding user_of
user_given [] = tt
user_given (uid ∷ groups) = after_any IsEvent _ (id_of uid) (λ u. after_any IsEvent _ (ids_of groups) (λ gs. tt))

new_node_given : (fields : List (List ℕ)) → Given IsNewNode (new_node_of fields)
unfolding new_node_of
new_node_given (ino ∷ parent ∷ name ∷ uid ∷ gid ∷ mode ∷ []) =
    then_given (λ n. 1 ≤ n) IsNewNode _ (node_of ino) (node_given ino) (λ i low. after_any IsNewNode _ (node_of parent) (λ p.
    then_given (λ perm. perm.mode ≤ 0xFFF) IsNewNode _ (perm_of uid gid mode) (perm_given uid gid mode) (λ perm small. (low, small))))
new_node_given _ = tt

link_given : (fields : List (List ℕ)) → Given IsEvent (link_of fields)
unfolding link_of
link_given (ino ∷ parent ∷ name ∷ []) = after_any IsEvent _ (node_of ino) (λ i. after_any IsEvent _ (node_of parent) (λ p. tt))
link_given _ = tt

rename_given : (fields : List (List ℕ)) → Given IsEvent (rename_of fields)
unfolding rename_of
rename_given (parent ∷ name ∷ new_parent ∷ new_name ∷ []) =
    after_any IsEvent _ (node_of parent) (λ p. after_any IsEvent _ (node_of new_parent) (λ q. tt))
rename_given _ = tt

chmod_given : (fields : List (List ℕ)) → Given IsEvent (chmod_of fields)
unfolding chmod_of
chmod_given (ino ∷ mode ∷ []) = after_any IsEvent _ (node_of ino) (λ i.
    then_given (λ m. m ≤ 0xFFF) IsEvent _ (mode_of mode) (mode_given mode) (λ m low. low))
chmod_given _ = tt

chown_given : (fields : List (List ℕ)) → Given IsEvent (chown_of fields)
unfolding chown_of
chown_given (ino ∷ uid ∷ gid ∷ []) = after_any IsEvent _ (node_of ino) (λ i. after_any IsEvent _ (id_of uid) (λ u.
    after_any IsEvent _ (id_of gid) (λ g. tt)))
chown_given _ = tt

-- ---- lines

abbrev HasEvent : Entry → Type 0
HasEvent (Happening event text) = IsEvent event
HasEvent _ = Unit {0}

abbrev SaysEvent : LineSays Entry → Type 0
SaysEvent (Whole entry) = HasEvent entry
SaysEvent (TextHead ino len) = Unit {0}

event_says : (event : Option Event) → Given IsEvent event → SaysEvent (event_line event)
event_says None g = tt
event_says (Some event) g = g

query_says : (query : Option (ℕ × QuerySyntax)) → SaysEvent (query_line query)
query_says None = tt
query_says (Some query) = tt

operation_says : (operation : Option Operation) → SaysEvent (operation_line operation)
operation_says None = tt
operation_says (Some operation) = tt

text_says : (head : Option (ℕ × ℕ)) → SaysEvent (text_line head)
text_says None = tt
text_says (Some head) = tt

command_says : (word : Word) (fields : List (List ℕ)) → SaysEvent (command_of word fields)
unfolding command_of
command_says words.User fields = event_says (user_of fields) (user_given fields)
command_says words.Mkdir fields = event_says (option_map mkdir_event (new_node_of fields))
    (map_given IsNewNode IsEvent mkdir_event (new_node_of fields) (new_node_given fields) (λ node p. p))
command_says words.Create fields = event_says (option_map create_event (new_node_of fields))
    (map_given IsNewNode IsEvent create_event (new_node_of fields) (new_node_given fields) (λ node p. p))
command_says words.Text fields = text_says (text_head_of fields)
command_says words.Link fields = event_says (link_of fields) (link_given fields)
command_says words.Unlink fields = event_says (option_map unlink_event (place_of fields))
    (map_given (λ place. Unit {0}) IsEvent unlink_event (place_of fields) (any_given (place_of fields)) (λ place p. tt))
command_says words.Rmdir fields = event_says (option_map rmdir_event (place_of fields))
    (map_given (λ place. Unit {0}) IsEvent rmdir_event (place_of fields) (any_given (place_of fields)) (λ place p. tt))
command_says words.Rename fields = event_says (rename_of fields) (rename_given fields)
command_says words.Chmod fields = event_says (chmod_of fields) (chmod_given fields)
command_says words.Chown fields = event_says (chown_of fields) (chown_given fields)
command_says words.Acl fields = event_says (acl_of fields) (acl_given fields)
command_says words.Count fields = query_says (count_of fields)
command_says words.Find fields = query_says (find_of fields)
command_says words.Rank fields = query_says (rank_of Best fields)
command_says words.Paths fields = query_says (paths_of fields)
command_says words.Terms fields = query_says (terms_of false fields)
command_says words.Top fields = query_says (terms_of true fields)
command_says words.Export fields = query_says (export_of fields)
command_says words.Weighed fields = query_says (rank_of Weighed fields)
command_says words.Flush fields = operation_says (flush_of fields)
command_says words.Work fields = operation_says (work_of fields)
command_says words.Stat fields = operation_says (stat_of fields)
command_says words.Save fields = operation_says (save_of fields)
command_says words.Unknown fields = tt

fields_event : (fields : Option (List (List ℕ))) → SaysEvent (fields_say fields)
unfolding fields_say
fields_event None = tt
fields_event (Some []) = tt
fields_event (Some (word ∷ fields)) = command_says (word_of word) fields

line_event : (line : List ℕ) → SaysEvent (line_says line)
unfolding line_says
line_event line = by_long (nat_lt LINE_MAX (length line))
  where
    by_blank : (blank : Bool) → SaysEvent (if blank then Whole Blank else fields_say (fields_of line))
    by_blank true = tt
    by_blank false = fields_event (fields_of line)

    by_long : (long : Bool)
        → SaysEvent (if long then Whole (Refusing LongLine) else if is_blank line then Whole Blank else fields_say (fields_of line))
    by_long true = tt
    by_long false = by_blank (is_blank line)

-- ---- items

either_event : (b : Bool) (one other : Entry) → HasEvent one → HasEvent other → HasEvent (if b then one else other)
either_event true one other h g = h
either_event false one other h g = g

body_event : (ino len : ℕ) (body tail : List ℕ) → HasEvent (body_entry ino len body tail)
body_event ino len body [] = either_event (nat_lt TEXT_MAX len) (Refusing TooLong) (Happening (events.Text ino) body) tt tt
body_event ino len body (byte ∷ tail) = either_event (nat_lt TEXT_MAX len) (Refusing TooLong) (Refusing BadBody) tt tt

text_event : (ino len : ℕ) (bytes : List ℕ) → HasEvent (text_at ino len bytes).entry
text_event ino len bytes = by_case (nat_lt (length bytes) len)
  where
    short : First
    short = record { entry = Refusing Truncated; rest = []; closed = false }

    long : First
    long = record {
      entry = body_entry ino len (take len bytes) (line_at (drop len bytes));
      rest = after_line (drop len bytes);
      closed = has_feed (drop len bytes);
    }

    by_case : (b : Bool) → HasEvent (if b then short else long).entry
    by_case true = tt
    by_case false = body_event ino len (take len bytes) (line_at (drop len bytes))

entry_event : (says : LineSays Entry) (rest : List ℕ) (closed : Bool) → SaysEvent says → HasEvent (entry_at says rest closed).entry
entry_event (Whole entry) rest closed h = h
entry_event (TextHead ino len) rest closed h = text_event ino len rest

first_event : (bytes : List ℕ) → HasEvent (first_of bytes).entry
unfolding first_of
first_event bytes = entry_event (line_says (line_at bytes)) (after_line bytes) (has_feed bytes) (line_event (line_at bytes))

events_within : (n : ℕ) (bytes : List ℕ) → AllByRecursion HasEvent (items_within n bytes)
events_within zero bytes = tt
events_within (suc n) [] = tt
events_within (suc n) (byte ∷ bytes) = (first_event (byte ∷ bytes), events_within n (first_of (byte ∷ bytes)).rest)

-- ---- what they say

abbrev pub TellsEvent : Said → Type 0
TellsEvent (Happens event text) = IsEvent event
TellsEvent _ = Unit {0}

asked_tells : (uid : ℕ) (question : Result Question Why) → TellsEvent (asked uid question)
asked_tells uid (Ok question) = tt
asked_tells uid (Err why) = tt

entry_tells : (read : Reading) (entry : Entry) → HasEvent entry → TellsEvent (said_of read entry)
entry_tells read (Happening event text) h = h
entry_tells read (Asking uid wish) h = asked_tells uid (question_in read wish)
entry_tells read (Operating operation) h = tt
entry_tells read (Refusing why) h = tt
entry_tells read Blank h = tt

entries_tell : (read : Reading) (entries : List Entry) → AllByRecursion HasEvent entries
    → AllByRecursion TellsEvent (map (said_of read) entries)
entries_tell read [] h = tt
entries_tell read (entry ∷ entries) h = (entry_tells read entry h.0, entries_tell read entries h.1)

pub script_tells : (read : Reading) (bytes : List ℕ) → AllByRecursion TellsEvent (map (said_of read) (items_of bytes))
unfolding items_of
script_tells read bytes = entries_tell read (items_within (length bytes) bytes) (events_within (length bytes) bytes)
