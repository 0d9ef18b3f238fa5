use Rattle.std.proofs.Common.{◌∙◌, sym, ap, not}
use Rattle.std.specs.Option.{option_map}
use Rattle.std.specs.BTreeMap.{is_at}
use Rattle.std.specs.Ordering.{nat_cmp}
use Rattle.std.proofs.lemmas.Map.Made.{lookup-map_values}
use Rattle.wu_tree.specs.FileSystems.{is_directory_node}
use Rattle.wu_tree.specs.Inodes.{node_in}
use Rattle.wu_tree.proofs.rebuild.is_directory.Goals as goal

pub returns-in-Some : goal.returns-in-Some
returns-in-Some c = ap not c.is_file.ensures
    ∙ sym
    (ap is_directory_node
    (lookup-map_values node_in (is_at (nat_cmp c.args.ino)) c.args.inodes.now.entries
    ∙ ap (option_map node_in) (sym c.in-Some.ensures.value)))

pub returns-in-None : goal.returns-in-None
returns-in-None c = sym
    (ap is_directory_node
    (lookup-map_values node_in (is_at (nat_cmp c.args.ino)) c.args.inodes.now.entries
    ∙ ap (option_map node_in) (sym c.in-None.ensures.value)))
