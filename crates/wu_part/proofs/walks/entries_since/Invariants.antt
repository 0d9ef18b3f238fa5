use Rattle.std.proofs.Common.{◌≡◌, filter, length}
use Rattle.std.specs.Cmp.Lexicographic.{slice_cmp}
use Rattle.std.specs.Ordering.{nat_cmp}
use Rattle.std.specs.List.Sorted.{IsStrictlySortedBy}
use Rattle.wu_part.specs.Searches.{is_from}
use Rattle.wu_part.proofs.TermLemmas.{terms}
use Rattle.wu_part.proofs.walks.entries_since.Given as goal

abbrev pub invariant-loop-terms : goal.invariant-loop-terms
invariant-loop-terms l =
    (filter (is_from l.term) l.terms ≡ filter (is_from l.term) l.fn.terms) × IsStrictlySortedBy (slice_cmp nat_cmp) (terms l.terms)

abbrev pub decreases-loop-terms : goal.decreases-loop-terms
decreases-loop-terms l = length l.terms
