use Rattle.std.proofs.Common.{arith, refl}
use Rattle.wu_part.proofs.WritingLemmas.{five_numbers_appended}
use Rattle.wu_part.proofs.writing.put_head.Goals as goal

pub returns : goal.returns
returns c =
    five_numbers_appended _ _ _ _ _ _ _ _ _ _ _ _ _ c.in_ok-put_number.ensures.ok c.in_ok-put_number-2.ensures.ok
    c.in_ok-put_number-3.ensures.ok c.in_ok-put_number-4.ensures.ok c.in_ok-put_number-5.ensures.ok (omega arith) refl
