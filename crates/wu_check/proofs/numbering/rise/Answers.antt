use Rattle.std.proofs.Common.{ℕ, rules}
use Rattle.std.specs.Prelude.{nat_lt}
use Rattle.std.proofs.lemmas.List.Sorted.{answers_always}
use Rattle.wu_check.proofs.DistinctNumbers.{rise_answer}
use Rattle.wu_check.proofs.numbering.rise.Goals as goal

pub returns : goal.returns
returns c =
    rise_answer c.args.numbers.now c.is_sorted_by.result
    (c.is_sorted_by.ensures.cases (λ (a b : ℕ). nat_lt a b) (answers_always _ _ _ (λ f a r g k. search rules)))
