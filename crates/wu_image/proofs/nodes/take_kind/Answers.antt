use Rattle.wu_image.specs.Checkpoints.{kind_number}
use Rattle.wu_image.proofs.ItemLemmas.{past_number}
use Rattle.wu_image.proofs.nodes.take_kind.Goals as goal

pub returns-in_default-clause-none : goal.returns-in_default-clause-none
returns-in_default-clause-none c kind items rest s = c.in_default.ensures.none (kind_number kind) items rest s

pub returns-in-None-clause-none : goal.returns-in-None-clause-none
returns-in-None-clause-none c kind items rest s =
    let h = past_number _ _ (kind_number kind) _ rest items c.in-Some.ensures.found s in c.in-None.ensures.none kind h.0
