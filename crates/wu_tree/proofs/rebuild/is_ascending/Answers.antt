use Rattle.std.proofs.Common.{◌∙◌, ℕ, List, ap, rules}
use Rattle.std.specs.Prelude.{nat_lt}
use Rattle.std.specs.Ordering.{nat_cmp}
use Rattle.std.specs.Cmp.{nat_cmp_total}
use Rattle.std.proofs.lemmas.List.Sorted.{answers_always}
use Rattle.wu_tree.specs.Lists.{ascends}
use Rattle.wu_tree.proofs.ListTests.{sorted_answer, less_is, itself_mapped}
use Rattle.wu_tree.proofs.rebuild.is_ascending.Goals as goal

pub returns : goal.returns
returns c =
    sorted_answer nat_cmp_total (λ (n : ℕ). n) (λ (a b : ℕ). nat_lt a b) less_is c.args.numbers.now c.is_sorted_by.result
    (c.is_sorted_by.ensures.cases (λ (a b : ℕ). nat_lt a b) (answers_always _ _ _ (λ f a r g k. search rules)))
    ∙ ap (λ (l : List ℕ). ascends nat_cmp l) (itself_mapped c.args.numbers.now)
