use Rattle.wu_part.proofs.MarkSearchLemmas.{at_most_is, rest_taken}
use Rattle.wu_part.proofs.marks.is_at_most.Goals as goal

pub returns-in-Some : goal.returns-in-Some
returns-in-Some c =
    let all = rest_taken c.args.bytes.now c.args.mark.now.offset in
    let read = rw all at c.in-Some.ensures.found in
    at_most_is _ _ _ _ _ _ read.0 read.1 read.2 c.cmp.ensures c.is_le.ensures

pub returns-in-None : goal.returns-in-None
returns-in-None c most =
    let all = rest_taken c.args.bytes.now c.args.mark.now.offset in
    c.in-None.ensures.none most.first most.left most.some most.few (rw all most.starts)
