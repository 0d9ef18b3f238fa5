use Rattle.std.proofs.Common.{◌≡◌, map, take}
use Rattle.wu_query.specs.Answer.{term_line}
use Rattle.wu_query.proofs.terms.lines_of_terms.Given as goal

-- the terms so far have their lines
abbrev pub invariant-loop-term : goal.invariant-loop-term
invariant-loop-term l = l.lines.items ≡ map term_line (take l.term-index l.terms)
