use Rattle.std.proofs.Common.{refl}
use Rattle.wu_solve.proofs.SameRegions.{tag_is_word}
use Rattle.wu_solve.proofs.counting.only_term.Goals as goal

pub returns-in-Tag-clause-named : goal.returns-in-Tag-clause-named
returns-in-Tag-clause-named c = rw (c.in-Tag.is, c.tag_bytes.ensures) refl

pub returns-in-Tag-clause-same : goal.returns-in-Tag-clause-same
returns-in-Tag-clause-same c = rw (c.in-Tag.is, c.tag_bytes.ensures) (tag_is_word c.in-Tag.tag)
