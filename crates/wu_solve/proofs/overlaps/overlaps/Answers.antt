use Rattle.wu_gcl.specs.Extents.{is_token_at}
use Rattle.wu_solve.proofs.overlaps.overlaps.Goals as goal

pub overlap_at-count-requires-clause-known : goal.overlap_at-count-requires-clause-known
overlap_at-count-requires-clause-known c =
    c.known_words-known.ensures.stand (is_token_at c.args.words.now) c.args.words.now
    (rw c.deref.ensures.value c.loop-place.invariant.told) c.loop-place.invariant.stretch
