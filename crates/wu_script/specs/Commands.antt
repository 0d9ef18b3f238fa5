-- What a command's line says.
--
-- A new query needs: a case of `QuerySyntax` and, where its line is read, a word in Words and a case of `command_of`; what it says with its
-- expressions read, a case of `question_in` in Said; what it asks and when it can be answered, cases of `Question`, `question_of` and
-- `IsSound` in wu_ask; and the bytes of its answer, a case of `answer_bytes` in Replies. The items of a script, the reader and its
-- laws stay as they are.
use Rattle.std.specs.Prelude.{ℕ, ◌-◌, ◌^◌, ◌==◌, nat_lt, Bool, true, false, not, List, [], ◌∷◌, codes, drop, length, take, Option, Some}
use Rattle.std.specs.Prelude.{None, map, option_and_then, if◌then◌else◌}
use Rattle.std.specs.Option.{option_map}
use Rattle.std.specs.Ordering.{nat_cmp}
use Rattle.std.specs.List.{after_first, before_first, position_or_len, slice_split}
use Rattle.wu_base.specs.declared.limits.TheConstants.{LINE_MAX, K_MAX, INPUT_MAX, WORK_MAX}
use Rattle.wu_access.specs.declared.acls.Acl.{Acl}
use Rattle.wu_access.specs.declared.acls.AclEntry.{AclEntry}
use Rattle.wu_access.specs.declared.Perm.{Perm}
use Rattle.wu_tree.specs.declared.events.Event.{Event}
use Rattle.wu_tree.specs.declared.events.Event.TheVariants as events
use Rattle.wu_tree.specs.Lists.{ascends}
use Rattle.wu_fields.specs.Numbers.{is_octal_digit, number_of, mode_of}
use Rattle.wu_fields.specs.Fields.{fields_of, all_some}
use Rattle.wu_script.specs.declared.types.Why.{Why}
use Rattle.wu_script.specs.declared.types.Why.TheVariants.{LongLine, Syntax}
use Rattle.wu_script.specs.declared.acls.Piece.{Piece}
use Rattle.wu_script.specs.declared.acls.Tag.{Tag}
use Rattle.wu_script.specs.declared.acls.Tag.TheVariants.{Owning, User, Group, Mask}
use Rattle.wu_script.specs.declared.events.NewNode.{NewNode}
use Rattle.wu_script.specs.declared.events.Place.{Place}
use Rattle.wu_script.specs.declared.queries.Wanted.{Wanted}
use Rattle.wu_script.specs.declared.queries.Wanted.TheVariants.{Best, Weighed}
use Rattle.wu_script.specs.declared.words.Word.{Word}
use Rattle.wu_script.specs.declared.words.Word.TheVariants as words
use Rattle.wu_script.specs.Words.{is, word_of}

infixl 10 ◌>>=◌
abbrev pub ◌>>=◌ : {A B : Type 0} → Option A → (A → Option B) → Option B
o >>= f = option_and_then f o

-- ---- fields

-- the number of a user or a group: within 32 bits
unfoldable pub id_of : List ℕ → Option ℕ
id_of field = number_of field (2 ^ 32 - 1)

-- the number of a node: within 32 bits, and at least 1
abbrev pub nonzero : ℕ → Option ℕ
nonzero n = if n == 0 then None else Some n

unfoldable pub node_of : List ℕ → Option ℕ
node_of field = do
  n ← id_of field
  nonzero n

-- the numbers, if each field is one
unfoldable pub ids_of : List (List ℕ) → Option (List ℕ)
ids_of fields = all_some (map id_of fields)

-- owner, group and mode
unfoldable pub perm_of : List ℕ → List ℕ → List ℕ → Option Perm
perm_of uid gid mode = do
  u ← id_of uid
  g ← id_of gid
  m ← mode_of mode
  Some (record { uid = u; gid = g; mode = m })

-- ---- events

unfoldable pub user_of : List (List ℕ) → Option Event
user_of [] = None
user_of (uid ∷ groups) = do
  u ← id_of uid
  gs ← ids_of groups
  Some (events.User u gs)

-- the node that `mkdir` and `create` make: its number, its directory and its name there, owner, group and mode
unfoldable pub new_node_of : List (List ℕ) → Option NewNode
new_node_of (ino ∷ parent ∷ name ∷ uid ∷ gid ∷ mode ∷ []) = do
  i ← node_of ino
  p ← node_of parent
  perm ← perm_of uid gid mode
  Some (record { ino = i; parent = p; name = name; perm = perm })
new_node_of _ = None

abbrev pub mkdir_event : NewNode → Event
mkdir_event node = events.Mkdir node.ino node.parent node.name node.perm

abbrev pub create_event : NewNode → Event
create_event node = events.Create node.ino node.parent node.name node.perm

unfoldable pub link_of : List (List ℕ) → Option Event
link_of (ino ∷ parent ∷ name ∷ []) = do
  i ← node_of ino
  p ← node_of parent
  Some (events.Link i p name)
link_of _ = None

-- the place that `unlink` and `rmdir` empty: a directory and a name in it
unfoldable pub place_of : List (List ℕ) → Option Place
place_of (parent ∷ name ∷ []) = do
  p ← node_of parent
  Some (record { parent = p; name = name })
place_of _ = None

abbrev pub unlink_event : Place → Event
unlink_event place = events.Unlink place.parent place.name

abbrev pub rmdir_event : Place → Event
rmdir_event place = events.Rmdir place.parent place.name

unfoldable pub rename_of : List (List ℕ) → Option Event
rename_of (parent ∷ name ∷ new_parent ∷ new_name ∷ []) = do
  p ← node_of parent
  q ← node_of new_parent
  Some (events.Rename p name q new_name)
rename_of _ = None

unfoldable pub chmod_of : List (List ℕ) → Option Event
chmod_of (ino ∷ mode ∷ []) = do
  i ← node_of ino
  m ← mode_of mode
  Some (events.Chmod i m)
chmod_of _ = None

unfoldable pub chown_of : List (List ℕ) → Option Event
chown_of (ino ∷ uid ∷ gid ∷ []) = do
  i ← node_of ino
  u ← id_of uid
  g ← id_of gid
  Some (events.Chown i u g)
chown_of _ = None

-- ---- access lists: `g::B`, then `u:U:B` and then `g:G:B`, as many as there are, by ascending numbers, and last `m::B`, with a comma
-- between each two

abbrev pub is_comma : ℕ → Bool
is_comma byte = byte == 44

abbrev pub is_colon : ℕ → Bool
is_colon byte = byte == 58

-- one digit from 0 to 7
unfoldable pub bits_of : List ℕ → Option ℕ
bits_of (digit ∷ []) = if is_octal_digit digit then Some (digit - 48) else None
bits_of _ = None

-- whose an entry is, and the number of that user or group, or 0 where it has none
abbrev pub named : Tag → List ℕ → Option (Tag × ℕ)
named tag number = do
  n ← id_of number
  Some (tag, n)

abbrev pub group_or_owning : List ℕ → Option (Tag × ℕ)
group_or_owning [] = Some (Owning, 0)
group_or_owning (digit ∷ digits) = named Group (digit ∷ digits)

abbrev pub mask_alone : List ℕ → Option (Tag × ℕ)
mask_alone [] = Some (Mask, 0)
mask_alone (digit ∷ digits) = None

unfoldable pub whose : List ℕ → List ℕ → Option (Tag × ℕ)
whose word number =
    if is word (codes "u") then named User number
    else if is word (codes "g") then group_or_owning number
    else if is word (codes "m") then mask_alone number
    else None

-- an entry with its bits, if there are both
abbrev pub piece_with : Option (Tag × ℕ) → Option ℕ → Option Piece
piece_with owner bits = do
  o ← owner
  b ← bits
  Some (record { tag = o.0; entry = record { id = o.1; bits = b } })

-- an entry, which has three parts with a colon between each two
abbrev pub piece_of : List ℕ → Option Piece
piece_of written =
    piece_with (whose (before_first is_colon written) (before_first is_colon (after_first is_colon written)))
    (bits_of (after_first is_colon (after_first is_colon written)))

-- the entries, if each is one
unfoldable pub pieces_of : List ℕ → Option (List Piece)
pieces_of field = all_some (map piece_of (slice_split is_comma field))

abbrev pub is_owning : Tag → Bool
is_owning Owning = true
is_owning _ = false

abbrev pub is_user : Tag → Bool
is_user User = true
is_user _ = false

abbrev pub is_group : Tag → Bool
is_group Group = true
is_group _ = false

abbrev pub is_mask : Tag → Bool
is_mask Mask = true
is_mask _ = false

-- how many entries at the front are users', and how many are groups'
abbrev pub users_at_front : List Piece → ℕ
users_at_front pieces = position_or_len (λ piece. not (is_user piece.tag)) pieces

abbrev pub groups_at_front : List Piece → ℕ
groups_at_front pieces = position_or_len (λ piece. not (is_group piece.tag)) pieces

-- the entries, if their numbers ascend
unfoldable pub entries_in : List Piece → Option (List AclEntry)
entries_in pieces =
    if ascends nat_cmp (map (λ piece. piece.entry.id) pieces) then Some (map (λ piece. piece.entry) pieces) else None

-- the mask, if that is all
abbrev pub mask_in : List Piece → Option ℕ
mask_in (piece ∷ []) = if is_mask piece.tag then Some piece.entry.bits else None
mask_in _ = None

-- an access list and its mask, if there are all of its parts
abbrev pub acl_with : ℕ → Option (List AclEntry) → Option (List AclEntry) → Option ℕ → Option (Acl × ℕ)
acl_with owning users groups mask = do
  u ← users
  g ← groups
  m ← mask
  Some (record { owning = owning; users = u; groups = g }, m)

-- what the entries of groups and the mask say, behind those of users
abbrev pub after_users : ℕ → Option (List AclEntry) → List Piece → Option (Acl × ℕ)
after_users owning users pieces =
    acl_with owning users (entries_in (take (groups_at_front pieces) pieces)) (mask_in (drop (groups_at_front pieces) pieces))

abbrev pub after_owning : ℕ → List Piece → Option (Acl × ℕ)
after_owning owning pieces =
    after_users owning (entries_in (take (users_at_front pieces) pieces)) (drop (users_at_front pieces) pieces)

unfoldable pub acl_in : List Piece → Option (Acl × ℕ)
acl_in [] = None
acl_in (piece ∷ pieces) = if is_owning piece.tag then after_owning piece.entry.bits pieces else None

-- a node gets an access list, or has none any more where there is no entry
abbrev pub setting_of : ℕ → List ℕ → Option Event
setting_of ino [] = Some (events.Acl ino None 0)
setting_of ino (byte ∷ bytes) = do
  pieces ← pieces_of (byte ∷ bytes)
  read ← acl_in pieces
  Some (events.Acl ino (Some read.0) read.1)

unfoldable pub acl_of : List (List ℕ) → Option Event
acl_of (ino ∷ entries ∷ []) = do
  i ← node_of ino
  setting_of i entries
acl_of _ = None

-- ---- lines

-- a query as its line has it: an expression stands as its text, and so do words and a prefix
pub data QuerySyntax : Type 0 where
  CountOf : (text : List ℕ) → QuerySyntax
  FindOf : (k : ℕ) (text : List ℕ) → QuerySyntax
  RankOf : (k : ℕ) (unit words : List ℕ) → QuerySyntax
  PathsOf : QuerySyntax
  TermsOf : (k : ℕ) (top : Bool) (field : List ℕ) → QuerySyntax
  ExportOf : QuerySyntax
  WeighedOf : (k : ℕ) (unit words : List ℕ) → QuerySyntax

-- what the operator of the index asks for: a flush, so many units of background work, the size of the index, or a save
pub data Operation : Type 0 where
  Flush : Operation
  Work : (units : ℕ) → Operation
  Stat : Operation
  Save : Operation

-- an item as its bytes have it: an event with the text that it gives, which is empty for all but a text; a query of a user; an
-- operation; a refusal; nothing
pub data Entry : Type 0 where
  Happening : (event : Event) (text : List ℕ) → Entry
  Asking : (uid : ℕ) (wish : QuerySyntax) → Entry
  Operating : (operation : Operation) → Entry
  Refusing : (why : Why) → Entry
  Blank : Entry

-- a line says a whole item, or is the first line of a text, whose bytes follow it
pub data LineSays (A : Type 0) : Type 0 where
  Whole : (item : A) → LineSays A
  TextHead : (ino len : ℕ) → LineSays A

-- what a line says, where the fields are those of the command, which is an event, a query, an operation, or the first line of a text
abbrev pub event_line : Option Event → LineSays Entry
event_line None = Whole (Refusing Syntax)
event_line (Some event) = Whole (Happening event [])

abbrev pub query_line : Option (ℕ × QuerySyntax) → LineSays Entry
query_line None = Whole (Refusing Syntax)
query_line (Some query) = Whole (Asking query.0 query.1)

abbrev pub operation_line : Option Operation → LineSays Entry
operation_line None = Whole (Refusing Syntax)
operation_line (Some operation) = Whole (Operating operation)

abbrev pub text_line : Option (ℕ × ℕ) → LineSays Entry
text_line None = Whole (Refusing Syntax)
text_line (Some head) = TextHead head.0 head.1

-- a text's length is at most that of an input
unfoldable pub text_head_of : List (List ℕ) → Option (ℕ × ℕ)
text_head_of (ino ∷ len ∷ []) = do
  i ← node_of ino
  n ← number_of len INPUT_MAX
  Some (i, n)
text_head_of _ = None

unfoldable pub count_of : List (List ℕ) → Option (ℕ × QuerySyntax)
count_of (uid ∷ text ∷ []) = do
  u ← id_of uid
  Some (u, CountOf text)
count_of _ = None

-- at most K_MAX regions are shown
unfoldable pub find_of : List (List ℕ) → Option (ℕ × QuerySyntax)
find_of (uid ∷ k ∷ text ∷ []) = do
  u ← id_of uid
  n ← number_of k K_MAX
  Some (u, FindOf n text)
find_of _ = None

-- what is asked of a ranking: `rank` and `weighed` have the same fields
abbrev pub ranked : Wanted → ℕ → List ℕ → List ℕ → QuerySyntax
ranked Best k unit words = RankOf k unit words
ranked Weighed k unit words = WeighedOf k unit words

unfoldable pub rank_of : Wanted → List (List ℕ) → Option (ℕ × QuerySyntax)
rank_of wanted (uid ∷ k ∷ unit ∷ words ∷ []) = do
  u ← id_of uid
  n ← number_of k K_MAX
  Some (u, ranked wanted n unit words)
rank_of wanted _ = None

unfoldable pub paths_of : List (List ℕ) → Option (ℕ × QuerySyntax)
paths_of (uid ∷ []) = do
  u ← id_of uid
  Some (u, PathsOf)
paths_of _ = None

-- `terms`, or where the words of the most files come first, `top`; at most K_MAX words are shown
unfoldable pub terms_of : Bool → List (List ℕ) → Option (ℕ × QuerySyntax)
terms_of top (uid ∷ k ∷ prefix ∷ []) = do
  u ← id_of uid
  n ← number_of k K_MAX
  Some (u, TermsOf n top prefix)
terms_of top _ = None

unfoldable pub export_of : List (List ℕ) → Option (ℕ × QuerySyntax)
export_of (uid ∷ []) = do
  u ← id_of uid
  Some (u, ExportOf)
export_of _ = None

unfoldable pub flush_of : List (List ℕ) → Option Operation
flush_of [] = Some Flush
flush_of _ = None

-- how many units of work: at least one, and at most WORK_MAX
unfoldable pub units_of : List ℕ → Option ℕ
units_of field = do
  n ← number_of field WORK_MAX
  nonzero n

unfoldable pub work_of : List (List ℕ) → Option Operation
work_of (units ∷ []) = do
  n ← units_of units
  Some (Work n)
work_of _ = None

unfoldable pub stat_of : List (List ℕ) → Option Operation
stat_of [] = Some Stat
stat_of _ = None

unfoldable pub save_of : List (List ℕ) → Option Operation
save_of [] = Some Save
save_of _ = None

unfoldable pub command_of : Word → List (List ℕ) → LineSays Entry
command_of words.User fields = event_line (user_of fields)
command_of words.Mkdir fields = event_line (option_map mkdir_event (new_node_of fields))
command_of words.Create fields = event_line (option_map create_event (new_node_of fields))
command_of words.Text fields = text_line (text_head_of fields)
command_of words.Link fields = event_line (link_of fields)
command_of words.Unlink fields = event_line (option_map unlink_event (place_of fields))
command_of words.Rmdir fields = event_line (option_map rmdir_event (place_of fields))
command_of words.Rename fields = event_line (rename_of fields)
command_of words.Chmod fields = event_line (chmod_of fields)
command_of words.Chown fields = event_line (chown_of fields)
command_of words.Acl fields = event_line (acl_of fields)
command_of words.Count fields = query_line (count_of fields)
command_of words.Find fields = query_line (find_of fields)
command_of words.Rank fields = query_line (rank_of Best fields)
command_of words.Paths fields = query_line (paths_of fields)
command_of words.Terms fields = query_line (terms_of false fields)
command_of words.Top fields = query_line (terms_of true fields)
command_of words.Export fields = query_line (export_of fields)
command_of words.Weighed fields = query_line (rank_of Weighed fields)
command_of words.Flush fields = operation_line (flush_of fields)
command_of words.Work fields = operation_line (work_of fields)
command_of words.Stat fields = operation_line (stat_of fields)
command_of words.Save fields = operation_line (save_of fields)
command_of words.Unknown fields = Whole (Refusing Syntax)

unfoldable pub fields_say : Option (List (List ℕ)) → LineSays Entry
fields_say None = Whole (Refusing Syntax)
fields_say (Some []) = Whole (Refusing Syntax)
fields_say (Some (word ∷ fields)) = command_of (word_of word) fields

-- no bytes, or a comment: a line that begins with #
abbrev pub is_blank : List ℕ → Bool
is_blank [] = true
is_blank (byte ∷ bytes) = byte == 35

-- What a line says, its LF not counted. The first rule that applies decides: it is too long; it is blank; an escape fault;
-- the rest of syntax.
unfoldable pub line_says : List ℕ → LineSays Entry
line_says line =
    if nat_lt LINE_MAX (length line) then Whole (Refusing LongLine)
    else if is_blank line then Whole Blank
    else fields_say (fields_of line)
