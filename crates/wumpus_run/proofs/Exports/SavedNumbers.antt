-- The numbers of the nodes of a state that was saved are within 32 bits: the checkpoint spells no others.
use Rattle.std.proofs.Common.{ℕ, ◌^◌, ◌<◌, List, [], ◌∷◌, Option, None, Some, sym, subst, arith}
use Rattle.std.specs.List.{AllByRecursion}
use Rattle.wu_base.proofs.EachLemmas.{each_left, each_right}
use Rattle.wu_outside.specs.Content.{Content}
use Rattle.wu_layout.specs.Layouts.{Layout}
use Rattle.wu_tree.specs.declared.events.Node.{Node}
use Rattle.wu_tree.specs.FileSystems.{FileSystem}
use Rattle.wu_image.specs.Checkpoints.{checkpoint_items, first_text, later_files, tree_items, user_items}
use Rattle.wu_image.specs.declared.checkpoints.Checkpoint.{Checkpoint}
use Rattle.wu_image.specs.declared.checkpoints.Version.{Version}
use Rattle.wu_image.specs.declared.records.FileRec.{FileRec}
use Rattle.wu_image.specs.Images.{IsSaved, Texts}
use Rattle.wu_image.specs.Items.{Item, Number, Id, Raw, StartsWith, list_items}
use Rattle.wu_query.specs.States.{State}
use Rattle.wu_engine.specs.Opening.{HoldsImage}
use Rattle.wumpus_run.specs.Rebuilt.{HasShortNumbers}

abbrev IsSmall : Item → Type 0
IsSmall (Number number) = Unit {0}
IsSmall (Id id) = id < 2 ^ 32
IsSmall (Raw raw) = Unit {0}

spelled_small : (bytes : List ℕ) (items : List Item) (rest : List ℕ) → StartsWith bytes items rest → AllByRecursion IsSmall items
spelled_small bytes [] rest starts = tt
spelled_small bytes (Number number ∷ items) rest starts = (tt, spelled_small starts.1 items rest starts.3)
spelled_small bytes (Id id ∷ items) rest starts = (starts.0, spelled_small starts.1 items rest starts.3)
spelled_small bytes (Raw raw ∷ items) rest starts = (tt, spelled_small starts.0 items rest starts.2)

nodes_small : (nodes : List (ℕ × Node)) (files : List FileRec) → AllByRecursion IsSmall (tree_items nodes files)
    → AllByRecursion (λ node. node.0 < 2 ^ 32) nodes
nodes_small [] files small = tt
nodes_small (node ∷ nodes) files small =
    let later = tree_items nodes (later_files node.1.kind files) in
    (small.0, nodes_small nodes (later_files node.1.kind files) (each_right IsSmall (first_text node.1.kind files) later small.1.1.1.1.1))

checkpoint_small : (version : Version) (c : Checkpoint) → AllByRecursion IsSmall (checkpoint_items version c) → HasShortNumbers c.tree
checkpoint_small version c small =
    let behind_users = each_right IsSmall (list_items user_items c.tree.users) _ small.1.1.1 in
    nodes_small c.tree.nodes c.files (each_left IsSmall (tree_items c.tree.nodes c.files) _ behind_users.1)

saved_small : (content : Content) (root : Option (List ℕ)) (tree : FileSystem) (texts : Texts) (layout : Layout)
    → IsSaved content root tree texts layout → HasShortNumbers tree
saved_small content None tree texts layout first = subst HasShortNumbers (sym first.tree_alone) (omega arith, tt)
saved_small content (Some code) tree texts layout saved =
    let spelled = saved.spelled.spelled in
    subst HasShortNumbers saved.tree_saved
    (checkpoint_small spelled.version saved.checkpoint
    (spelled_small spelled.spelled.code (checkpoint_items spelled.version saved.checkpoint) [] spelled.spelled.items))

pub numbers_saved : (holds : Option Content) (s : State) → HoldsImage holds s → HasShortNumbers s.tree
numbers_saved None s image = absurd image
numbers_saved (Some content) s image = saved_small content content.root s.tree s.texts s.layout image.1.saved
