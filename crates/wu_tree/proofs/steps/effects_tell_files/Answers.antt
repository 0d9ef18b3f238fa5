use Rattle.wu_tree.proofs.steps.effects_tell_files.Goals as goal
use Rattle.wu_tree.proofs.EffectLemmas.{effects_tell_files}

pub returns : goal.returns
returns c = effects_tell_files c.args.tree.now c.keeps_the_rules.ensures
