use Rattle.std.proofs.Common.{◌≡◌, ◌++◌, List, ap, ◌∙◌, append_assoc, rules}
use Rattle.wu_rank.specs.declared.entries.Entry.{Entry}
use Rattle.wu_rank.specs.Entries.{sparse_sum}
use Rattle.wu_rank.proofs.Sums.{none_of_one, none_of_other}
use Rattle.wu_rank.proofs.merging.merged.Goals as goal
use Rattle.wu_rank.proofs.merging.merged.Goals.{then-loop-a-test+else-not-is_empty, else-loop-a-test}

pub returns : goal.returns
returns c =
    let left : List Entry = c.loop-a.left.now in
    let right : List Entry = c.loop-a.right.now in
    let rest : left ++ right ≡ sparse_sum left right =
    elim c.loop-a-test.branch [
      | then-loop-a-test+else-not-is_empty w ↦ none_of_other left right (search rules)
      | else-loop-a-test w ↦ none_of_one left right (search rules)
    ] in
    c.in_ok-extend_from_slice-2.ensures.items
    ∙ ap (λ (es : List Entry). es ++ right) c.in_ok-extend_from_slice.ensures.items
    ∙ append_assoc c.loop-a.sum.items left right
    ∙ ap (λ (es : List Entry). c.loop-a.sum.items ++ es) rest
    ∙ c.loop-a.invariant.made
