use Rattle.wu_part.proofs.WritingLemmas.{list_appended}
use Rattle.wu_part.proofs.writing.put_list.Goals as goal

pub returns : goal.returns
returns c front =
    list_appended _ _ _ _ _ _ _ _ _ front c.requires.list (rw c.as_slice-term.ensures at c.in_ok-put_number.ensures.ok)
    (rw c.as_slice-term.ensures at c.in_ok-extend_from_slice.ensures.items) (rw c.as_slice-at.ensures at c.in_ok-put_number-2.ensures.ok)
    (rw c.as_slice-at.ensures at (c.in_ok-put_blocks.ensures front)) c.requires.low
