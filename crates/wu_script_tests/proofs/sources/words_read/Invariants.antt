use Rattle.wu_script.specs.Holding.{Follows}
use Rattle.wu_script_tests.proofs.sources.words_read.Given as goal

-- the source is the one that the reader read from
abbrev pub invariant-loop : goal.invariant-loop
invariant-loop g l = Follows (g.I.Source.ended l.source) (g.I.Source.last_read l.source) l.reader
