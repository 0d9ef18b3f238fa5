use Rattle.std.proofs.Common.{◌∙◌, ℕ, List, ap}
use Rattle.wu_job.specs.Marks.{marks_from}
use Rattle.wu_job.proofs.Bits.{none_of_zero, none_set}
use Rattle.wu_job.proofs.marks.Marks.none.Goals as goal

pub returns : goal.returns
returns c =
    let zeros = c.in_ok-vec.ensures.items_if_clones_equal (λ y h. h) in
    ap (λ (words : List ℕ). marks_from words 0 c.args.count) zeros ∙ none_set _ 0 c.args.count (none_of_zero _)
