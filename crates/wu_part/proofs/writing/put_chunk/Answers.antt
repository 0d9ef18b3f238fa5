use Rattle.std.proofs.Common.{arith}
use Rattle.wu_part.proofs.WritingLemmas.{three_numbers_appended, first_below_last}
use Rattle.wu_part.proofs.writing.put_chunk.Goals as goal

pub overflow_sub-last-2 : goal.overflow_sub-last-2
overflow_sub-last-2 c = let h = first_below_last c.args.at.now c.requires.some c.requires.ascending in omega arith

pub returns-clause-numbers : goal.returns-clause-numbers
returns-clause-numbers c =
    three_numbers_appended _ _ _ _ _ _ _ _ c.in_ok-put_number.ensures.ok c.in_ok-put_number-2.ensures.ok c.in_ok-put_number-3.ensures.ok
    (omega arith)
