-- The reply to a query as a function of the query and of a view.
use Rattle.std.specs.Prelude.{ℕ, List, [], Result, Ok, Err}
use Rattle.wu_ask.specs.Questions.{Question}
use Rattle.wu_query.specs.Answer.{answer}
use Rattle.wu_query.specs.View.{Shown}
use Rattle.wu_script.specs.Commands.{Entry, Asking}
use Rattle.wu_script.specs.Replies.{reply_bytes}
use Rattle.wu_script.specs.Said.{Reading, question_in}
use Rattle.wu_script.specs.declared.types.Reply.{Reply}
use Rattle.wu_script.specs.declared.types.Reply.TheVariants.{Answered, Refused}
use Rattle.wu_script.specs.declared.types.Why.{Why}
use Rattle.wu_secrecy.specs.Turns.{Asked}

-- the answer to a question over a view, or why there is none
abbrev pub reply_over : List Shown → Result Question Why → Reply
reply_over view (Ok question) = Answered (answer view question)
reply_over view (Err why) = Refused why

-- The bytes that answer a query whose user may search just that. Of what is no query nothing is said.
abbrev pub bytes_over : Reading → Entry → List Shown → List ℕ
bytes_over read (Asking uid wish) view = reply_bytes (reply_over view (question_in read wish))
bytes_over read _ view = []

abbrev pub answer_to : Reading → Asked → List ℕ
answer_to read asked = bytes_over read asked.query asked.view
