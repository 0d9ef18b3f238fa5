-- Equal views are answered alike.
use Rattle.std.proofs.Common.{◌≡◌, ℕ, Some, ap}
use Rattle.wu_ask.specs.Questions.{Question}
use Rattle.wu_script.specs.Said.{Asks}
use Rattle.wu_script.specs.declared.types.Reply.TheVariants.{Answered}
use Rattle.wu_query.specs.States.{State}
use Rattle.wu_query.specs.View.{view_of}
use Rattle.wu_query.specs.Answer.{answer}
use Rattle.wumpus_run.specs.Replies.{reply_to}

pub alike : (one other : State) (uid : ℕ) (question : Question) → view_of one uid ≡ view_of other uid
    → reply_to one (Asks uid question) ≡ reply_to other (Asks uid question)
alike one other uid question same = ap (λ view. Some (Answered (answer view question))) same
