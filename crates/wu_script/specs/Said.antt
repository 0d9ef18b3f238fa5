-- What an item says, its expressions read. Replies and states are defined over this alone.
use Rattle.std.specs.Prelude.{◌≡◌, ℕ, ◌≤◌, ◌==◌, nat_lt, Bool, List, [], length, Option, Some, None, Result, Ok, Err, if◌then◌else◌}
use Rattle.wu_base.specs.declared.limits.TheConstants.{TEXT_MAX, RANK_WORDS_MAX, INPUT_MAX, WORK_MAX}
use Rattle.wu_token.specs.Words.{words_of}
use Rattle.wu_token.specs.Tokens.{tokens_of}
use Rattle.wu_gcl.specs.Regions.{Region}
use Rattle.wu_gcl.specs.Reading.{Value, Reads}
use Rattle.wu_terms.specs.Prefixes.{prefix_in}
use Rattle.wu_tree.specs.declared.events.Event.{Event}
use Rattle.wu_tree.specs.declared.events.Event.TheVariants as events
use Rattle.wu_tree.specs.Steps.{IsEvent}
use Rattle.wu_ask.specs.Questions.{Question, Counting, Finding, Ranking, ListingPaths, ListingTerms, Exporting, Weighing}
use Rattle.wu_ask.specs.Questions.{question_of, IsSoundAsk}
use Rattle.wu_script.specs.declared.queries.Wanted.{Wanted}
use Rattle.wu_script.specs.declared.queries.Wanted.TheVariants.{Best, Weighed}
use Rattle.wu_script.specs.declared.types.Why.{Why}
use Rattle.wu_script.specs.declared.types.Why.TheVariants.{Expr, NoWord, ManyWords, BadPrefix}
use Rattle.wu_script.specs.declared.types.Command.{Command}
use Rattle.wu_script.specs.declared.types.Command.TheVariants as commands
use Rattle.wu_script.specs.declared.types.Line.{Line}
use Rattle.wu_script.specs.declared.types.Line.TheVariants as lines
use Rattle.wu_script.specs.declared.types.Item.{Item}
use Rattle.wu_script.specs.declared.types.Item.TheVariants as items
use Rattle.wu_script.specs.Commands.{QuerySyntax, CountOf, FindOf, RankOf, PathsOf, TermsOf, ExportOf, WeighedOf}
use Rattle.wu_script.specs.Commands.{Operation, Flush, Work, Stat, Save, Entry, Happening}
use Rattle.wu_script.specs.Commands.{Asking, Operating, Refusing, Blank, LineSays, Whole, TextHead}

-- what each text says as a region expression; there is one such function, since each text has one reading
abbrev pub Reading : Type 0
Reading = List ℕ → Value

abbrev pub IsReading : Reading → Type 0
IsReading read = (text : List ℕ) → Reads text (read text)

-- an event with the text that it gives; a question of a user; an operation; a refusal; nothing
pub data Said : Type 0 where
  Happens : (event : Event) (text : List ℕ) → Said
  Asks : (uid : ℕ) (question : Question) → Said
  Operates : (operation : Operation) → Said
  IsRefused : (why : Why) → Said
  SaysNothing : Said

-- ---- of an item as its bytes have it

abbrev pub count_question : Value → Result Question Why
count_question (Ok region) = Ok (Counting region)
count_question (Err fault) = Err (Expr fault)

abbrev pub find_question : ℕ → Value → Result Question Why
find_question k (Ok region) = Ok (Finding k region)
find_question k (Err fault) = Err (Expr fault)

-- what is asked of a ranking of a unit's regions by words
abbrev pub ranking_question : Wanted → ℕ → Region → List (List ℕ) → Question
ranking_question Best k unit words = Ranking k unit words
ranking_question Weighed k unit words = Weighing k unit words

-- a ranking takes from 1 to RANK_WORDS_MAX words; its unit is looked at before its words
abbrev pub rank_question : Wanted → ℕ → Value → List (List ℕ) → Result Question Why
rank_question wanted k (Ok unit) words =
    if length words == 0 then Err NoWord
    else if nat_lt RANK_WORDS_MAX (length words) then Err ManyWords
    else Ok (ranking_question wanted k unit words)
rank_question wanted k (Err fault) words = Err (Expr fault)

-- the prefix is looked at last
abbrev pub terms_question : ℕ → Bool → Option (List ℕ) → Result Question Why
terms_question k top (Some prefix) = Ok (ListingTerms k prefix top)
terms_question k top None = Err BadPrefix

-- the question that a query is, or why it is none
abbrev pub question_in : Reading → QuerySyntax → Result Question Why
question_in read (CountOf text) = count_question (read text)
question_in read (FindOf k text) = find_question k (read text)
question_in read (RankOf k unit words) = rank_question Best k (read unit) (words_of words)
question_in read PathsOf = Ok ListingPaths
question_in read (TermsOf k top field) = terms_question k top (prefix_in field)
question_in read ExportOf = Ok Exporting
question_in read (WeighedOf k unit words) = rank_question Weighed k (read unit) (words_of words)

abbrev pub asked : ℕ → Result Question Why → Said
asked uid (Ok question) = Asks uid question
asked uid (Err why) = IsRefused why

abbrev pub said_of : Reading → Entry → Said
said_of read (Happening event text) = Happens event text
said_of read (Asking uid wish) = asked uid (question_in read wish)
said_of read (Operating operation) = Operates operation
said_of read (Refusing why) = IsRefused why
said_of read Blank = SaysNothing

abbrev pub line_of : Reading → LineSays Entry → LineSays Said
line_of read (Whole entry) = Whole (said_of read entry)
line_of read (TextHead ino len) = TextHead ino len

-- ---- of an item as it was read

abbrev pub said_by_command : Command → Said
said_by_command (commands.Update event) = Happens event []
said_by_command (commands.Ask query) = Asks query.uid (question_of query.ask)
said_by_command commands.Flush = Operates Flush
said_by_command (commands.Work units) = Operates (Work units)
said_by_command commands.Stat = Operates Stat
said_by_command commands.Save = Operates Save

abbrev pub said_by_line : Line → LineSays Said
said_by_line (lines.Command command) = Whole (said_by_command command)
said_by_line (lines.TextHead ino len) = TextHead ino len
said_by_line (lines.Refused why) = Whole (IsRefused why)
said_by_line lines.Blank = Whole SaysNothing

-- the end of a script says nothing
abbrev pub said_by : Item → Said
said_by (items.Command command) = said_by_command command
said_by (items.Text ino body) = Happens (events.Text ino) body
said_by (items.Refused why) = IsRefused why
said_by items.Blank = SaysNothing
said_by items.End = SaysNothing

-- the line was read as what it says
abbrev pub IsLine : LineSays Entry → Line → Type 0
IsLine says line = (read : Reading) → IsReading read → said_by_line line ≡ line_of read says

-- the item was read as what its bytes say
abbrev pub IsReadAs : Item → Entry → Type 0
IsReadAs item entry = (read : Reading) → IsReading read → said_by item ≡ said_of read entry

-- ---- the conditions of the crates below

abbrev pub IsSoundCommand : Command → Type 0
IsSoundCommand (commands.Update event) = IsEvent event
IsSoundCommand (commands.Ask query) = IsSoundAsk query.ask
IsSoundCommand commands.Flush = Unit {0}
IsSoundCommand (commands.Work units) = (1 ≤ units) × (units ≤ WORK_MAX)
IsSoundCommand commands.Stat = Unit {0}
IsSoundCommand commands.Save = Unit {0}

abbrev pub IsSoundLine : Line → Type 0
IsSoundLine (lines.Command command) = IsSoundCommand command
IsSoundLine (lines.TextHead ino len) = (1 ≤ ino) × (len ≤ INPUT_MAX)
IsSoundLine (lines.Refused why) = Unit {0}
IsSoundLine lines.Blank = Unit {0}

abbrev pub IsSoundItem : Item → Type 0
IsSoundItem (items.Command command) = IsSoundCommand command
IsSoundItem (items.Text ino body) = (1 ≤ ino) × (length body ≤ TEXT_MAX)
IsSoundItem (items.Refused why) = Unit {0}
IsSoundItem items.Blank = Unit {0}
IsSoundItem items.End = Unit {0}

-- ---- tokens

-- how many tokens the text has that an event gives: a file that is created has the empty text
abbrev pub event_tokens : Event → List ℕ → ℕ
event_tokens (events.Text ino) text = length (tokens_of text)
event_tokens (events.Create ino parent name perm) text = length (tokens_of [])
event_tokens _ text = 0

abbrev pub tokens_given : Said → ℕ
tokens_given (Happens event text) = event_tokens event text
tokens_given (Asks uid question) = 0
tokens_given (Operates operation) = 0
tokens_given (IsRefused why) = 0
tokens_given SaysNothing = 0

-- the bytes of the text that it gives
abbrev pub text_given : Said → List ℕ
text_given (Happens event text) = text
text_given (Asks uid question) = []
text_given (Operates operation) = []
text_given (IsRefused why) = []
text_given SaysNothing = []
