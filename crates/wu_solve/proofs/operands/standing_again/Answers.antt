use Rattle.wu_solve.specs.Addresses.{has_address}
use Rattle.wu_solve.proofs.operands.standing_again.Goals as goal

pub words_from-count-requires-clause-known : goal.words_from-count-requires-clause-known
words_from-count-requires-clause-known c =
    c.known_words-known.ensures.stand (has_address c.args.lists.now) c.args.words.now
    (rw c.deref.ensures.value c.in_ok-overlaps.ensures) c.loop-extent.invariant.stretch
