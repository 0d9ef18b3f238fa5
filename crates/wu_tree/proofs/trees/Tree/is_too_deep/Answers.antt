use Rattle.std.proofs.Common.{◌-◌, ◌∙◌, ℕ, sym, ap, arith}
use Rattle.wu_tree.specs.Paths.{reaches}
use Rattle.wu_tree.proofs.MovedLinks.{no_deeper}
use Rattle.wu_tree.proofs.PathsDown.{deep_by_levels}
use Rattle.wu_tree.proofs.trees.Tree.is_too_deep.Goals as goal

pub returns-then-depth : goal.returns-then-depth
returns-then-depth c = sym (no_deeper c.args.self.now c.args.child c.args.parent (omega arith))

pub returns : goal.returns
returns c =
    c.reaches.ensures
    ∙ ap (λ (k : ℕ). reaches c.args.self.now (255 - k) c.args.child) c.depth-depth.ensures.depth
    ∙ deep_by_levels c.args.self.now c.keeps_the_rules.ensures c.args.child c.args.parent c.requires.child
