use Rattle.std.proofs.Common.{sym, ◌∙◌, ap}
use Rattle.wu_gcl.specs.Regions.{Phrase}
use Rattle.wu_cursor.proofs.Remembering.{same_texts}
use Rattle.wu_cursor.proofs.memory.+is_same.Goals as goal

pub returns-in-Phrase-Phrase : goal.returns-in-Phrase-Phrase
returns-in-Phrase-Phrase t c = λ is.
    rw (c.in-Phrase-Phrase.is-0, c.in-Phrase-Phrase.is-1) (ap Phrase (same_texts _ _ (sym c.eq.ensures ∙ is)))
