use Rattle.std.proofs.Common.{ℕ, List, sym, subst, rules}
use Rattle.std.specs.Prelude.{map, IfOk}
use Rattle.std.specs.Ordering.{nat_cmp}
use Rattle.std.specs.Cmp.{nat_cmp_total}
use Rattle.std.specs.List.Sorted.{IsStrictlySortedBy}
use Rattle.std.specs.BTreeMap.{IsFromIterResult}
use Rattle.std.proofs.lemmas.Iterator.{YieldsList-from_map, YieldsList-from_slice}
use Rattle.std.proofs.lemmas.Iterator.Adapters.{fact_from_collect}
use Rattle.std.proofs.lemmas.Iterator.Consumers.{YieldsList-at}
use Rattle.std.proofs.lemmas.Map.Lookups.{exact_unsigned}
use Rattle.wu_tree.specs.declared.inodes.Inode.{Inode}
use Rattle.wu_tree.specs.declared.tallies.LinkedNode.{LinkedNode}
use Rattle.wu_tree.specs.Lists.{inode_of}
use Rattle.wu_tree.proofs.ListTests.{keys_mapped}
use Rattle.wu_tree.proofs.MadeMaps.{made_entries}
use Rattle.wu_tree.proofs.rebuild.inodes_of.Goals as goal

pub returns : goal.returns
returns c =
    let entry : LinkedNode → ℕ × Inode = λ n. (n.ino, inode_of n.hung n.node) in
    let made : IfOk c.collect.result (IsFromIterResult nat_cmp (map entry c.args.nodes.now)) =
    fact_from_collect (IsFromIterResult nat_cmp) c.collect.result c.collect.ensures.ran
    (YieldsList-from_map _ entry (YieldsList-at c.map.ensures.source (YieldsList-from_slice _ c.iter.ensures.rest)) c.map.ensures.closure
    (λ x r q k. search rules)) in
    let r : IsFromIterResult nat_cmp (map entry c.args.nodes.now) c.in_ok-inodes.inodes =
    subst (λ o. IfOk o (IsFromIterResult nat_cmp (map entry c.args.nodes.now))) c.in_ok-inodes.was made in
    made_entries nat_cmp_total exact_unsigned (map entry c.args.nodes.now) c.in_ok-inodes.inodes
    (subst (λ (k : List ℕ). IsStrictlySortedBy nat_cmp k) (sym (keys_mapped entry c.args.nodes.now)) c.requires) r
