-- The bytes of a reply.
use Rattle.std.specs.Prelude.{ℕ, Bool, false, true, List, [], ◌∷◌, ◌++◌, codes, decimal, length}
use Rattle.std.specs.List.{flat_map}
use Rattle.wu_base.specs.declared.reports.Stat.{Stat}
use Rattle.wu_base.specs.declared.reports.Worked.{Worked}
use Rattle.wu_base.specs.declared.reports.Worked.TheVariants as worked
use Rattle.wu_tree.specs.declared.events.Refusal.{Refusal}
use Rattle.wu_tree.specs.declared.events.Refusal.TheVariants as refusals
use Rattle.wu_gcl.specs.declared.expressions.ExprFault.{ExprFault}
use Rattle.wu_gcl.specs.declared.expressions.ExprFault.TheVariants as faults
use Rattle.wu_ask.specs.declared.Found.{Found}
use Rattle.wu_ask.specs.declared.RankLine.{RankLine}
use Rattle.wu_ask.specs.declared.TermLine.{TermLine}
use Rattle.wu_ask.specs.declared.Answered.{Answered}
use Rattle.wu_ask.specs.declared.Answered.TheVariants as answers
use Rattle.wu_fields.specs.Fields.{escaped}
use Rattle.wu_script.specs.declared.types.Why.{Why}
use Rattle.wu_script.specs.declared.types.Why.TheVariants as why
use Rattle.wu_script.specs.declared.types.Reply.{Reply}
use Rattle.wu_script.specs.declared.types.Reply.TheVariants as replies

unfoldable pub refusal_word : Refusal → List ℕ
refusal_word refusals.BadName = codes "badname"
refusal_word refusals.NoSuch = codes "nosuch"
refusal_word refusals.Kind = codes "kind"
refusal_word refusals.Exists = codes "exists"
refusal_word refusals.NotEmpty = codes "notempty"
refusal_word refusals.Loop = codes "loop"
refusal_word refusals.Deep = codes "deep"

unfoldable pub fault_word : ExprFault → List ℕ
fault_word faults.NotAnExpression = codes "notexpr"
fault_word faults.TooLarge = codes "toolarge"
fault_word faults.NoWord = codes "noword"
fault_word faults.BadWindow = codes "badwindow"

unfoldable pub why_word : Why → List ℕ
why_word why.LongLine = codes "longline"
why_word why.Syntax = codes "syntax"
why_word why.Truncated = codes "truncated"
why_word why.TooLong = codes "toolong"
why_word why.BadBody = codes "badbody"
why_word (why.Tree refusal) = refusal_word refusal
why_word (why.Expr fault) = fault_word fault
why_word why.NoWord = codes "noword"
why_word why.ManyWords = codes "manywords"
why_word why.BadPrefix = codes "badprefix"

-- a path on a line of its own
abbrev pub path_line : List ℕ → List ℕ
path_line path = escaped path ++ 10 ∷ []

-- the path of a region's file, its first and its last place, and the number of a line and its first bytes, on a line of their own
abbrev pub find_line : Found → List ℕ
find_line line = escaped line.path ++ 9 ∷ [] ++ decimal line.start ++ 9 ∷ [] ++ decimal line.end ++ 9 ∷ [] ++ decimal line.line ++ 9 ∷ []
    ++ escaped line.snippet ++ 10 ∷ []

-- a region's score, the path of its file, and its first and its last place, on a line of their own
abbrev pub rank_line : RankLine → List ℕ
rank_line line = decimal line.score ++ 9 ∷ [] ++ escaped line.path ++ 9 ∷ [] ++ decimal line.start ++ 9 ∷ [] ++ decimal line.end ++ 10 ∷ []

-- a word, and the number of the files that have it, on a line of their own
abbrev pub term_line : TermLine → List ℕ
term_line line = escaped line.word ++ 9 ∷ [] ++ decimal line.files ++ 10 ∷ []

-- the first field of a list of words: the query that asked for it
abbrev pub terms_front : Bool → List ℕ
terms_front false = codes "terms\t"
terms_front true = codes "top\t"

-- its fields have a TAB between each two; the bytes of a script stand as they are
unfoldable pub answer_bytes : Answered → List ℕ
answer_bytes (answers.Count hits files) = codes "count\t" ++ decimal hits ++ 9 ∷ [] ++ decimal files ++ 10 ∷ []
answer_bytes (answers.Find hits files shown) = codes "find\t" ++ decimal hits ++ 9 ∷ [] ++ decimal files ++ 9 ∷ []
    ++ decimal (length shown) ++ 10 ∷ [] ++ flat_map find_line shown
answer_bytes (answers.Rank listed shown) = codes "rank\t" ++ decimal listed ++ 9 ∷ [] ++ decimal (length shown) ++ 10 ∷ []
    ++ flat_map rank_line shown
answer_bytes (answers.Paths paths) = codes "paths\t" ++ decimal (length paths) ++ 10 ∷ [] ++ flat_map path_line paths
answer_bytes (answers.Terms total top shown) = terms_front top ++ decimal total ++ 9 ∷ [] ++ decimal (length shown) ++ 10 ∷ []
    ++ flat_map term_line shown
answer_bytes (answers.Export script) = codes "export\t" ++ decimal (length script) ++ 10 ∷ [] ++ script ++ 10 ∷ []
answer_bytes (answers.Weighed listed weighed) = codes "weighed\t" ++ decimal listed ++ 9 ∷ [] ++ decimal weighed ++ 10 ∷ []

-- whether background work is left
unfoldable pub worked_word : Worked → List ℕ
worked_word worked.Idle = codes "idle"
worked_word worked.Busy = codes "busy"

-- regular files, addresses of their texts, postings in memory and parts, and parts
abbrev pub stat_line : Stat → List ℕ
stat_line stat = codes "stat\t" ++ decimal stat.files ++ 9 ∷ [] ++ decimal stat.live ++ 9 ∷ [] ++ decimal stat.stored ++ 9 ∷ []
    ++ decimal stat.parts ++ 10 ∷ []

unfoldable pub reply_bytes : Reply → List ℕ
reply_bytes replies.Ok = codes "ok\n"
reply_bytes (replies.Refused w) = codes "refused\t" ++ why_word w ++ 10 ∷ []
reply_bytes (replies.Worked w) = worked_word w ++ 10 ∷ []
reply_bytes (replies.Stat stat) = stat_line stat
reply_bytes (replies.Answered answered) = answer_bytes answered
