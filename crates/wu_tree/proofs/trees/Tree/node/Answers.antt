use Rattle.std.proofs.Common.{◌∙◌, sym, ap}
use Rattle.std.specs.Option.{option_map}
use Rattle.std.proofs.lemmas.Map.Made.{lookup-map_values}
use Rattle.std.specs.BTreeMap.{is_at}
use Rattle.std.specs.Ordering.{nat_cmp}
use Rattle.wu_tree.specs.Inodes.{node_in}
use Rattle.wu_tree.specs.Rules.{IsNumbered}
use Rattle.wu_base.proofs.MapEntries.{All-found}
use Rattle.wu_tree.proofs.trees.Tree.node.Goals as goal

pub returns-in-Some-clause-node : goal.returns-in-Some-clause-node
returns-in-Some-clause-node c =
    rw (← c.self.view_is)
    (rw c.node.ensures
    (ap (option_map node_in) c.in-Some.ensures.value ∙ sym (lookup-map_values node_in _ c.self.inside.inodes.entries)))

pub returns-in-Some-clause-mode : goal.returns-in-Some-clause-mode
returns-in-Some-clause-mode c =
    rw c.node.ensures
    (All-found IsNumbered (is_at (nat_cmp c.args.ino)) _ (node_in c.in-Some.inode.now) c.self.invariant.tree.numbered
    (lookup-map_values node_in (is_at (nat_cmp c.args.ino)) c.self.inside.inodes.entries
    ∙ ap (option_map node_in) (sym c.in-Some.ensures.value))).2.1

pub returns-in-None : goal.returns-in-None
returns-in-None c = record {
  node = rw (← c.self.view_is)
      (ap (option_map node_in) c.in-None.ensures.value ∙ sym (lookup-map_values node_in _ c.self.inside.inodes.entries));
  mode = tt;
}
