use Rattle.wu_gcl.specs.Extents.{is_token_at}
use Rattle.wu_solve.specs.Prefixes.{PrefixStands}
use Rattle.wu_solve.proofs.overlaps.overlap_at.Given as goal

abbrev pub invariant-loop-count : goal.invariant-loop-count
invariant-loop-count l = PrefixStands (is_token_at l.words) l.words l.place l.count
