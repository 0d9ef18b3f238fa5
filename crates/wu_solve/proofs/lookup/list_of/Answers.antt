use Rattle.std.proofs.Common.{◌≡◌, ℕ, List, true, nat_eq, sym, subst}
use Rattle.std.specs.Cmp.Lexicographic.{pointwise}
use Rattle.wu_solve.proofs.TermLists.{found_again}
use Rattle.wu_solve.proofs.lookup.list_of.Goals as goal

pub returns-then-eq : goal.returns-then-eq
returns-then-eq c =
    found_again c.args.lists.now c.args.term.now c.args.remembered c.index-lists-remembered.result c.requires c.if-remembered-lists.true
    (subst (λ (t : List ℕ). pointwise nat_eq t c.args.term.now ≡ true) c.as_slice.ensures (sym c.if-eq.ensures))
