use Rattle.std.proofs.Common.{◌≡◌, take, nat_eq}
use Rattle.std.specs.Prelude.{filter}
use Rattle.std.specs.List.{list_any}
use Rattle.std.specs.Cmp.Lexicographic.{pointwise}
use Rattle.wu_solve.proofs.needed.in_both.Given as goal

abbrev pub invariant-loop-term : goal.invariant-loop-term
invariant-loop-term l =
    l.terms.items ≡ filter (λ term. list_any (λ other. pointwise nat_eq other term) l.right) (take l.term-index l.left)
