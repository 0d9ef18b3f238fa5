-- No node gets a number beyond 32 bits in a session: a script says no such number.
use Rattle.std.proofs.Common.{◌≡◌, ℕ, zero, suc, ◌-◌, ◌^◌, ◌<◌, ◌≤◌, List, [], ◌∷◌, length, take, drop, map, Bool, true, false, cond}
use Rattle.std.proofs.Common.{Ok, Err, refl, arith}
use Rattle.std.specs.Prelude.{◌&&◌, ◌==◌, nat_lt, nat_le, Option, Some, None, Result, if◌then◌else◌}
use Rattle.std.specs.Option.{option_map}
use Rattle.std.specs.Ordering.{nat_cmp}
use Rattle.std.specs.List.{All, AllByRecursion}
use Rattle.std.specs.BTreeMap.{insert_entry}
use Rattle.std.specs.Map.{remove_entry, set_value}
use Rattle.std.specs.Str.Parse.{digits_value}
use Rattle.std.proofs.lemmas.Bool.{and_parts, leb-true}
use Rattle.std.proofs.lemmas.List.Elements.{All-from_recursion}
use Rattle.std.proofs.lemmas.Map.Lookups.{exact_unsigned}
use Rattle.wu_base.specs.declared.limits.TheConstants.{LINE_MAX, TEXT_MAX}
use Rattle.wu_base.proofs.MapEntries.{All-insert_entry, All-remove_entry}
use Rattle.wu_access.specs.declared.acls.Acl.{Acl}
use Rattle.wu_access.specs.declared.Perm.{Perm}
use Rattle.wu_fields.specs.Fields.{fields_of}
use Rattle.wu_fields.specs.Numbers.{is_plain_numeral, mode_of, number_of}
use Rattle.wu_tree.specs.declared.events.Event.{Event}
use Rattle.wu_tree.specs.declared.events.Event.TheVariants as events
use Rattle.wu_tree.specs.declared.events.Effect.{Effect}
use Rattle.wu_tree.specs.declared.events.Node.{Node}
use Rattle.wu_tree.specs.declared.events.Refusal.{Refusal}
use Rattle.wu_tree.specs.FileSystems.{FileSystem, acl_of as acl_at, is_used, node_of as node_at}
use Rattle.wu_tree.specs.Steps.{effect_of, is_last_link, is_same_node, named_by, next, refusal_of, renamed, unless_refused, with_acl_set}
use Rattle.wu_tree.specs.Steps.{with_link_moved, with_perm, without_acl, without_link}
use Rattle.wu_ask.specs.Questions.{Question}
use Rattle.wu_script.specs.declared.types.Why.{Why}
use Rattle.wu_script.specs.declared.types.Why.TheVariants.{BadBody, LongLine, TooLong, Truncated}
use Rattle.wu_script.specs.declared.queries.Wanted.TheVariants.{Best, Weighed}
use Rattle.wu_script.specs.declared.words.Word.{Word}
use Rattle.wu_script.specs.declared.words.Word.TheVariants as words
use Rattle.wu_script.specs.Words.{word_of}
use Rattle.wu_script.specs.Commands.{Entry, Happening, Asking, Operating, Refusing, Blank, LineSays, Whole, TextHead, Operation, Flush}
use Rattle.wu_script.specs.Commands.{Work, Stat, Save, QuerySyntax}
use Rattle.wu_script.specs.Commands.{acl_in, acl_of, chmod_of, chown_of, command_of, count_of, create_event, event_line, export_of}
use Rattle.wu_script.specs.Commands.{fields_say, find_of}
use Rattle.wu_script.specs.Commands.{flush_of, id_of, ids_of, is_blank, line_says, link_of, mkdir_event, new_node_of, node_of, nonzero}
use Rattle.wu_script.specs.Commands.{operation_line}
use Rattle.wu_script.specs.Commands.{paths_of, perm_of, pieces_of, place_of, query_line, rank_of, rename_of, rmdir_event, save_of}
use Rattle.wu_script.specs.Commands.{setting_of, stat_of}
use Rattle.wu_script.specs.Commands.{terms_of, text_head_of, text_line, unlink_event, user_of, work_of}
use Rattle.wu_script.specs.Items.{First, after_line, body_entry, entry_at, first_of, has_feed, items_of, items_within, line_at, text_at}
use Rattle.wu_script.specs.Said.{Reading, Said, Happens, Asks, Operates, IsRefused, SaysNothing, asked, question_in, said_of}
use Rattle.wu_script.proofs.GivenValues.{Given, after_any, any_given, map_given, then_given}
use Rattle.wu_query.specs.States.{State}
use Rattle.wu_engine.specs.States.{after_event, followed, step, stepped}
use Rattle.wumpus_run.specs.Rebuilt.{HasShortNumbers}
use Rattle.wumpus_run.specs.Replies.{after, after_operation, last_state, met}

-- the node that an event makes has a number within 32 bits
abbrev IsShortEvent : Event → Type 0
IsShortEvent (events.Mkdir ino parent name perm) = ino < 2 ^ 32
IsShortEvent (events.Create ino parent name perm) = ino < 2 ^ 32
IsShortEvent _ = Unit {0}

-- ---- what a script says

chosen : (test : Bool) (value most : ℕ) → (test ≡ true → value ≤ most) → Given (λ n. n ≤ most) (if test then Some value else None)
chosen true value most within = within refl
chosen false value most within = tt

number_within : (field : List ℕ) (most : ℕ) → Given (λ n. n ≤ most) (number_of field most)
unfolding number_of
number_within field most =
    chosen (is_plain_numeral field && nat_le (digits_value 10 field) most) (digits_value 10 field) most (λ passes.
    leb-true (digits_value 10 field) most (and_parts (is_plain_numeral field) (nat_le (digits_value 10 field) most) passes).1)

either_number : (b : Bool) (n : ℕ) → n ≤ 2 ^ 32 - 1 → Given (λ m. m < 2 ^ 32) (if b then None else Some n)
either_number true n few = tt
either_number false n few = omega (arith, few)

node_within : (field : List ℕ) → Given (λ n. n < 2 ^ 32) (node_of field)
unfolding node_of id_of
node_within field =
    then_given (λ n. n ≤ 2 ^ 32 - 1) (λ n. n < 2 ^ 32) nonzero (number_of field (2 ^ 32 - 1)) (number_within field (2 ^ 32 - 1))
    (λ n few. either_number (n == 0) n few)

new_node_within : (fields : List (List ℕ)) → Given (λ node. node.ino < 2 ^ 32) (new_node_of fields)
unfolding new_node_of
new_node_within (ino ∷ parent ∷ name ∷ uid ∷ gid ∷ mode ∷ []) =
    then_given (λ n. n < 2 ^ 32) (λ node. node.ino < 2 ^ 32) _ (node_of ino) (node_within ino) (λ i low.
    after_any (λ node. node.ino < 2 ^ 32) _ (node_of parent) (λ p.
    after_any (λ node. node.ino < 2 ^ 32) _ (perm_of uid gid mode) (λ perm. low)))
new_node_within _ = tt

user_short : (fields : List (List ℕ)) → Given IsShortEvent (user_of fields)
unfolding user_of
user_short [] = tt
user_short (uid ∷ groups) = after_any IsShortEvent _ (id_of uid) (λ u. after_any IsShortEvent _ (ids_of groups) (λ gs. tt))

link_short : (fields : List (List ℕ)) → Given IsShortEvent (link_of fields)
unfolding link_of
link_short (ino ∷ parent ∷ name ∷ []) = after_any IsShortEvent _ (node_of ino) (λ i. after_any IsShortEvent _ (node_of parent) (λ p. tt))
link_short _ = tt

rename_short : (fields : List (List ℕ)) → Given IsShortEvent (rename_of fields)
unfolding rename_of
rename_short (parent ∷ name ∷ new_parent ∷ new_name ∷ []) =
    after_any IsShortEvent _ (node_of parent) (λ p. after_any IsShortEvent _ (node_of new_parent) (λ q. tt))
rename_short _ = tt

chmod_short : (fields : List (List ℕ)) → Given IsShortEvent (chmod_of fields)
unfolding chmod_of
chmod_short (ino ∷ mode ∷ []) = after_any IsShortEvent _ (node_of ino) (λ i. after_any IsShortEvent _ (mode_of mode) (λ m. tt))
chmod_short _ = tt

chown_short : (fields : List (List ℕ)) → Given IsShortEvent (chown_of fields)
unfolding chown_of
chown_short (ino ∷ uid ∷ gid ∷ []) = after_any IsShortEvent _ (node_of ino) (λ i. after_any IsShortEvent _ (id_of uid) (λ u.
    after_any IsShortEvent _ (id_of gid) (λ g. tt)))
chown_short _ = tt

setting_short : (ino : ℕ) (entries : List ℕ) → Given IsShortEvent (setting_of ino entries)
setting_short ino [] = tt
setting_short ino (byte ∷ bytes) =
    after_any IsShortEvent _ (pieces_of (byte ∷ bytes)) (λ pieces. after_any IsShortEvent _ (acl_in pieces) (λ read. tt))

acl_short : (fields : List (List ℕ)) → Given IsShortEvent (acl_of fields)
unfolding acl_of
acl_short (ino ∷ entries ∷ []) = after_any IsShortEvent _ (node_of ino) (λ i. setting_short i entries)
acl_short _ = tt

abbrev HasShortEvent : Entry → Type 0
HasShortEvent (Happening event text) = IsShortEvent event
HasShortEvent _ = Unit {0}

abbrev SaysShort : LineSays Entry → Type 0
SaysShort (Whole entry) = HasShortEvent entry
SaysShort (TextHead ino len) = Unit {0}

event_short : (event : Option Event) → Given IsShortEvent event → SaysShort (event_line event)
event_short None given = tt
event_short (Some event) given = given

query_short : (query : Option (ℕ × QuerySyntax)) → SaysShort (query_line query)
query_short None = tt
query_short (Some query) = tt

operation_short : (operation : Option Operation) → SaysShort (operation_line operation)
operation_short None = tt
operation_short (Some operation) = tt

text_short : (head : Option (ℕ × ℕ)) → SaysShort (text_line head)
text_short None = tt
text_short (Some head) = tt

command_short : (word : Word) (fields : List (List ℕ)) → SaysShort (command_of word fields)
unfolding command_of
command_short words.User fields = event_short (user_of fields) (user_short fields)
command_short words.Mkdir fields = event_short (option_map mkdir_event (new_node_of fields))
    (map_given (λ node. node.ino < 2 ^ 32) IsShortEvent mkdir_event (new_node_of fields) (new_node_within fields) (λ node low. low))
command_short words.Create fields = event_short (option_map create_event (new_node_of fields))
    (map_given (λ node. node.ino < 2 ^ 32) IsShortEvent create_event (new_node_of fields) (new_node_within fields) (λ node low. low))
command_short words.Text fields = text_short (text_head_of fields)
command_short words.Link fields = event_short (link_of fields) (link_short fields)
command_short words.Unlink fields = event_short (option_map unlink_event (place_of fields))
    (map_given (λ place. Unit {0}) IsShortEvent unlink_event (place_of fields) (any_given (place_of fields)) (λ place p. tt))
command_short words.Rmdir fields = event_short (option_map rmdir_event (place_of fields))
    (map_given (λ place. Unit {0}) IsShortEvent rmdir_event (place_of fields) (any_given (place_of fields)) (λ place p. tt))
command_short words.Rename fields = event_short (rename_of fields) (rename_short fields)
command_short words.Chmod fields = event_short (chmod_of fields) (chmod_short fields)
command_short words.Chown fields = event_short (chown_of fields) (chown_short fields)
command_short words.Acl fields = event_short (acl_of fields) (acl_short fields)
command_short words.Count fields = query_short (count_of fields)
command_short words.Find fields = query_short (find_of fields)
command_short words.Rank fields = query_short (rank_of Best fields)
command_short words.Paths fields = query_short (paths_of fields)
command_short words.Terms fields = query_short (terms_of false fields)
command_short words.Top fields = query_short (terms_of true fields)
command_short words.Export fields = query_short (export_of fields)
command_short words.Weighed fields = query_short (rank_of Weighed fields)
command_short words.Flush fields = operation_short (flush_of fields)
command_short words.Work fields = operation_short (work_of fields)
command_short words.Stat fields = operation_short (stat_of fields)
command_short words.Save fields = operation_short (save_of fields)
command_short words.Unknown fields = tt

fields_short : (fields : Option (List (List ℕ))) → SaysShort (fields_say fields)
unfolding fields_say
fields_short None = tt
fields_short (Some []) = tt
fields_short (Some (word ∷ fields)) = command_short (word_of word) fields

line_short : (line : List ℕ) → SaysShort (line_says line)
unfolding line_says
line_short line = by_long (nat_lt LINE_MAX (length line))
  where
    by_blank : (blank : Bool) → SaysShort (if blank then Whole Blank else fields_say (fields_of line))
    by_blank true = tt
    by_blank false = fields_short (fields_of line)

    by_long : (long : Bool)
        → SaysShort (if long then Whole (Refusing LongLine) else if is_blank line then Whole Blank else fields_say (fields_of line))
    by_long true = tt
    by_long false = by_blank (is_blank line)

either_short : (b : Bool) (one other : Entry) → HasShortEvent one → HasShortEvent other → HasShortEvent (if b then one else other)
either_short true one other h g = h
either_short false one other h g = g

body_short : (ino len : ℕ) (body tail : List ℕ) → HasShortEvent (body_entry ino len body tail)
body_short ino len body [] = either_short (nat_lt TEXT_MAX len) (Refusing TooLong) (Happening (events.Text ino) body) tt tt
body_short ino len body (byte ∷ tail) = either_short (nat_lt TEXT_MAX len) (Refusing TooLong) (Refusing BadBody) tt tt

text_at_short : (ino len : ℕ) (bytes : List ℕ) → HasShortEvent (text_at ino len bytes).entry
text_at_short ino len bytes = by_case (nat_lt (length bytes) len)
  where
    part : First
    part = record { entry = Refusing Truncated; rest = []; closed = false }

    whole : First
    whole = record {
      entry = body_entry ino len (take len bytes) (line_at (drop len bytes));
      rest = after_line (drop len bytes);
      closed = has_feed (drop len bytes);
    }

    by_case : (b : Bool) → HasShortEvent (if b then part else whole).entry
    by_case true = tt
    by_case false = body_short ino len (take len bytes) (line_at (drop len bytes))

entry_short : (says : LineSays Entry) (rest : List ℕ) (closed : Bool) → SaysShort says → HasShortEvent (entry_at says rest closed).entry
entry_short (Whole entry) rest closed h = h
entry_short (TextHead ino len) rest closed h = text_at_short ino len rest

first_short : (bytes : List ℕ) → HasShortEvent (first_of bytes).entry
unfolding first_of
first_short bytes = entry_short (line_says (line_at bytes)) (after_line bytes) (has_feed bytes) (line_short (line_at bytes))

-- what an item says makes no other node
abbrev TellsShort : Said → Type 0
TellsShort (Happens event text) = IsShortEvent event
TellsShort _ = Unit {0}

asked_short : (uid : ℕ) (question : Result Question Why) → TellsShort (asked uid question)
asked_short uid (Ok question) = tt
asked_short uid (Err why) = tt

said_short : (read : Reading) (entry : Entry) → HasShortEvent entry → TellsShort (said_of read entry)
said_short read (Happening event text) h = h
said_short read (Asking uid wish) h = asked_short uid (question_in read wish)
said_short read (Operating operation) h = tt
said_short read (Refusing why) h = tt
said_short read Blank h = tt

saids_within : (read : Reading) (n : ℕ) (bytes : List ℕ) → AllByRecursion TellsShort (map (said_of read) (items_within n bytes))
saids_within read zero bytes = tt
saids_within read (suc n) [] = tt
saids_within read (suc n) (byte ∷ bytes) =
    (said_short read (first_of (byte ∷ bytes)).entry (first_short (byte ∷ bytes)), saids_within read n (first_of (byte ∷ bytes)).rest)

script_short : (read : Reading) (bytes : List ℕ) → AllByRecursion TellsShort (map (said_of read) (items_of bytes))
unfolding items_of
script_short read bytes = saids_within read (length bytes) bytes

-- ---- what an event makes of a tree

abbrev AreShort : List (ℕ × Node) → Type 0
AreShort nodes = AllByRecursion (λ node. node.0 < 2 ^ 32) nodes

same_keys : (test : ℕ → Bool) (nodes : List (ℕ × Node)) (node : Node) → AreShort nodes → AreShort (set_value test nodes node)
same_keys test [] node short = tt
same_keys test (other ∷ nodes) node short =
    elim (test other.0) as (λ b. AreShort (cond b ((other.0, node) ∷ nodes) (other ∷ set_value test nodes node))) [
      | true ↦ short
      | false ↦ (short.0, same_keys test nodes node short.1)
    ]

perm_short : (change : Perm → Perm) (fs : FileSystem) (ino : ℕ) (node : Option Node) → HasShortNumbers fs
    → HasShortNumbers (with_perm change fs ino node)
perm_short change fs ino None short = short
perm_short change fs ino (Some node) short = same_keys _ fs.nodes _ short

removed_short : (b : Bool) (test : ℕ → Bool) (nodes : List (ℕ × Node)) → AreShort nodes → AreShort (cond b (remove_entry test nodes) nodes)
removed_short true test nodes short = All-remove_entry (λ node. node.0 < 2 ^ 32) test nodes short
removed_short false test nodes short = short

unlinked_short : (fs : FileSystem) (parent : ℕ) (name : List ℕ) → HasShortNumbers fs → HasShortNumbers (without_link fs parent name)
unlinked_short fs parent name short = removed_short (is_last_link fs parent name) _ fs.nodes short

-- a link that moves leaves the nodes as they are
moved_short : (used same : Bool) (fs : FileSystem) (parent : ℕ) (name : List ℕ) (new_parent : ℕ) (new_name : List ℕ) (child : ℕ)
    → HasShortNumbers fs
    → HasShortNumbers
    (cond same fs (with_link_moved (cond used (without_link fs new_parent new_name) fs) parent name new_parent new_name child))
moved_short used true fs parent name new_parent new_name child short = short
moved_short true false fs parent name new_parent new_name child short = unlinked_short fs new_parent new_name short
moved_short false false fs parent name new_parent new_name child short = short

renamed_short : (fs : FileSystem) (parent : ℕ) (name : List ℕ) (new_parent : ℕ) (new_name : List ℕ) → HasShortNumbers fs
    → HasShortNumbers (renamed fs parent name new_parent new_name)
renamed_short fs parent name new_parent new_name short =
    moved_short (is_used fs new_parent new_name) (is_same_node fs parent name new_parent new_name) fs parent name new_parent new_name
    (named_by fs parent name) short

unlisted_short : (fs : FileSystem) (ino : ℕ) (acl : Option Acl) → HasShortNumbers fs → HasShortNumbers (without_acl fs ino acl)
unlisted_short fs ino None short = short
unlisted_short fs ino (Some acl) short = perm_short _ (record fs { acls = _ }) ino (node_at fs ino) short

acl_set_short : (fs : FileSystem) (ino : ℕ) (acl : Option Acl) (mask : ℕ) → HasShortNumbers fs
    → HasShortNumbers (with_acl_set fs ino acl mask)
acl_set_short fs ino None mask short = unlisted_short fs ino (acl_at fs ino) short
acl_set_short fs ino (Some acl) mask short = perm_short _ (record fs { acls = _ }) ino (node_at fs ino) short

made_short : (nodes : List (ℕ × Node)) (ino : ℕ) (node : Node) → ino < 2 ^ 32 → AreShort nodes
    → AreShort (insert_entry nat_cmp nodes ino node)
made_short nodes ino node low short =
    All-insert_entry (λ n. n.0 < 2 ^ 32) nat_cmp nodes ino node short
    (λ q same. let e : ino ≡ q = exact_unsigned ino q same in omega (arith, low, e)) low

next_short : (fs : FileSystem) (event : Event) → IsShortEvent event → HasShortNumbers fs → HasShortNumbers (next fs event)
next_short fs (events.User uid groups) low short = short
next_short fs (events.Mkdir ino parent name perm) low short = made_short fs.nodes ino _ low short
next_short fs (events.Create ino parent name perm) low short = made_short fs.nodes ino _ low short
next_short fs (events.Text ino) low short = short
next_short fs (events.Link ino parent name) low short = short
next_short fs (events.Unlink parent name) low short = unlinked_short fs parent name short
next_short fs (events.Rmdir parent name) low short = unlinked_short fs parent name short
next_short fs (events.Rename parent name new_parent new_name) low short = renamed_short fs parent name new_parent new_name short
next_short fs (events.Chmod ino mode) low short = perm_short _ fs ino (node_at fs ino) short
next_short fs (events.Chown ino uid gid) low short = perm_short _ fs ino (node_at fs ino) short
next_short fs (events.Acl ino acl mask) low short = acl_set_short fs ino acl mask short

-- ---- what a session makes of a state

abbrev StateIsShort : State → Type 0
StateIsShort s = HasShortNumbers s.tree

followed_short : (flush_at : ℕ) (s : State) (text : List ℕ) (refusal : Option Refusal) (fs : FileSystem) (effect : Effect)
    → StateIsShort s → HasShortNumbers fs → StateIsShort (followed flush_at s (stepped text s (unless_refused refusal fs effect)))
followed_short flush_at s text None fs effect short later = later
followed_short flush_at s text (Some refusal) fs effect short later = short

happened_short : (flush_at : ℕ) (s : State) (event : Event) (text : List ℕ) → IsShortEvent event → StateIsShort s
    → StateIsShort (after_event flush_at s event text)
unfolding step
happened_short flush_at s event text low short =
    followed_short flush_at s text (refusal_of s.tree event) (next s.tree event) (effect_of s.tree event) short
    (next_short s.tree event low short)

operated_short : (s : State) (operation : Operation) → StateIsShort s → StateIsShort (after_operation s operation)
operated_short s Flush short = short
operated_short s (Work units) short = short
operated_short s Stat short = short
operated_short s Save short = short

after_short : (flush_at : ℕ) (s : State) (said : Said) → TellsShort said → StateIsShort s → StateIsShort (after flush_at s said)
after_short flush_at s (Happens event text) low short = happened_short flush_at s event text low short
after_short flush_at s (Asks uid question) low short = short
after_short flush_at s (Operates operation) low short = operated_short s operation short
after_short flush_at s (IsRefused why) low short = short
after_short flush_at s SaysNothing low short = short

all_met : (flush_at : ℕ) (s : State) (saids : List Said) → AllByRecursion TellsShort saids → StateIsShort s
    → AllByRecursion (λ m. StateIsShort m.0) (met flush_at s saids) × StateIsShort (last_state flush_at s saids)
all_met flush_at s [] low short = (tt, short)
all_met flush_at s (said ∷ saids) low short =
    let others = all_met flush_at (after flush_at s said) saids low.1 (after_short flush_at s said low.0 short) in
    ((short, others.0), others.1)

pub numbers_met : (flush_at : ℕ) (read : Reading) (s : State) (bytes : List ℕ) → HasShortNumbers s.tree
    → All (λ m. HasShortNumbers m.0.tree) (met flush_at s (map (said_of read) (items_of bytes)))
numbers_met flush_at read s bytes short =
    All-from_recursion (λ m. HasShortNumbers m.0.tree) (met flush_at s (map (said_of read) (items_of bytes)))
    (all_met flush_at s (map (said_of read) (items_of bytes)) (script_short read bytes) short).0

pub numbers_left : (flush_at : ℕ) (read : Reading) (s : State) (bytes : List ℕ) → HasShortNumbers s.tree
    → HasShortNumbers (last_state flush_at s (map (said_of read) (items_of bytes))).tree
numbers_left flush_at read s bytes short =
    (all_met flush_at s (map (said_of read) (items_of bytes)) (script_short read bytes) short).1
