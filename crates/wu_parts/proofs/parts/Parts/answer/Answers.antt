use Rattle.std.proofs.Common.{◌≡◌, true, subst, rules}
use Rattle.wu_parts.specs.Contents.{Contents}
use Rattle.wu_parts.specs.ViewOfParts.{contents_of}
use Rattle.wu_parts.specs.Working.{AreFew, is_idle}
use Rattle.wu_parts.proofs.LayoutWork.{few_left}
use Rattle.wu_parts.proofs.parts.Parts.answer.Goals as goal

pub returns-then-is_none-2-clause-few : goal.returns-then-is_none-2-clause-few
returns-then-is_none-2-clause-few c =
    let ranges = c.args.space.now.ranges in
    let idle : is_idle ranges (contents_of c.self.inside) ≡ true = search rules in
    λ _. subst (λ (k : Contents). AreFew ranges k) c.self.view_is
    (few_left ranges (contents_of c.self.inside) c.self.invariant.never_rise c.self.invariant.flushed idle)
