-- Lemmas on what is written of a tree.
use Rattle.std.proofs.Common.{◌≡◌, ℕ, ◌+◌, List, [], ◌∷◌, ◌++◌, length, map, ap, sym, subst, ◌∙◌, arith}
use Rattle.std.specs.Prelude.{codes}
use Rattle.std.specs.List.{flat_map}
use Rattle.std.proofs.lemmas.List.Concat.{flat_map_single}
use Rattle.wu_tree.specs.declared.events.Node.{Node}
use Rattle.wu_image.specs.declared.checkpoints.Checkpoint.{Checkpoint}
use Rattle.wu_image.specs.declared.checkpoints.Version.TheVariants.{Second}
use Rattle.wu_image.specs.declared.records.FileRec.{FileRec}
use Rattle.wu_image.specs.Items.{Item, Id, Number, StartsWith, Appends, list_items}
use Rattle.wu_image.specs.Checkpoints.{HasItems, acl_items, first_text, group_items, later_files, link_items, node_items, part_items}
use Rattle.wu_image.specs.Checkpoints.{tree_items, user_items}
use Rattle.wu_image.proofs.ItemLemmas.{LeftToPut, all_left, all_put, appended, some_put}

-- what is still to be written of the nodes
pub record NodesLeft (all : List (ℕ × Node)) (files : List FileRec) (rest : List (ℕ × Node)) (files_left : List FileRec) (count : ℕ)
    (now : List ℕ) : Type 0 where
  pub put : LeftToPut [] now (tree_items all files) (tree_items rest files_left)
  pub number : count + length rest ≡ length all

pub all_nodes_left : (all rest : List (ℕ × Node)) (files : List FileRec) (now : List ℕ) → now ≡ [] → rest ≡ all
    → NodesLeft all files rest files 0 now
all_nodes_left all rest files now e f =
    rw (e, f) (record { put = all_left [] (tree_items all files); number = omega arith })

pub node_put : (all : List (ℕ × Node)) (files : List FileRec) (left rest : List (ℕ × Node)) (node : ℕ × Node)
    (files_left later : List FileRec) (count more : ℕ) (now mid new : List ℕ) → NodesLeft all files left files_left count now
    → left ≡ node ∷ rest → Appends now (node_items node) mid → Appends mid (first_text node.1.kind files_left) new
    → later ≡ later_files node.1.kind files_left → more ≡ count + 1 → NodesLeft all files rest later more new
node_put all files left rest node files_left later count more now mid new l e a b f g =
    let number = l.number in
    let long = ap length e in
    let whole = subst (λ (r : List (ℕ × Node)). LeftToPut [] now (tree_items all files) (tree_items r files_left)) e l.put in
    let after = some_put [] now mid (tree_items all files) (node_items node)
    (first_text node.1.kind files_left ++ tree_items rest (later_files node.1.kind files_left)) whole a in
    record {
      put = subst (λ (x : List FileRec). LeftToPut [] new (tree_items all files) (tree_items rest x)) (sym f)
          (some_put [] mid new (tree_items all files) (first_text node.1.kind files_left)
          (tree_items rest (later_files node.1.kind files_left)) after b);
      number = omega arith;
    }

pub no_node_left : (all : List (ℕ × Node)) (files : List FileRec) (rest : List (ℕ × Node)) (files_left : List FileRec) (count : ℕ)
    (now : List ℕ) → NodesLeft all files rest files_left count now → rest ≡ []
    → (count ≡ length all) × StartsWith now (tree_items all files) []
no_node_left all files rest files_left count now l e =
    let number = l.number in
    let none = ap length e in
    let done = all_put [] now (tree_items all files)
    (subst (λ (r : List (ℕ × Node)). LeftToPut [] now (tree_items all files) (tree_items r files_left)) e l.put) in
    (omega arith, subst (λ (c : List ℕ). StartsWith c (tree_items all files) []) (sym done.2) done.1)

-- ---- users

pub groups_put : (old new groups : List ℕ) → Appends old (map Id groups) new → Appends old (flat_map group_items groups) new
groups_put old new groups a = subst (λ (i : List Item). Appends old i new) (sym (flat_map_single Id groups)) a

-- ---- the whole

pub items_written : (c : Checkpoint) (o a b d e f g : List ℕ) → o ≡ codes "WUMPUSC2"
    → Appends o (map Number (c.next_address ∷ c.next_blob ∷ c.flushes ∷ [])) a → Appends a (list_items user_items c.tree.users) b
    → Appends b (Number (length c.tree.nodes) ∷ tree_items c.tree.nodes c.files) d → Appends d (list_items link_items c.tree.links) e
    → Appends e (list_items part_items c.parts) f → Appends f (list_items acl_items c.tree.acls) g → HasItems Second c g
items_written c o a b d e f g mark numbers users nodes links parts acls =
    let ends = appended e f g (list_items part_items c.parts) (list_items acl_items c.tree.acls) parts acls in
    let late = appended d e g (list_items link_items c.tree.links) (list_items part_items c.parts ++ list_items acl_items c.tree.acls)
    links ends in
    let tree = appended b d g (Number (length c.tree.nodes) ∷ tree_items c.tree.nodes c.files)
    (list_items link_items c.tree.links ++ (list_items part_items c.parts ++ list_items acl_items c.tree.acls)) nodes late in
    let all_users = appended a b g (list_items user_items c.tree.users)
    (Number (length c.tree.nodes) ∷ (tree_items c.tree.nodes c.files
    ++ (list_items link_items c.tree.links ++ (list_items part_items c.parts ++ list_items acl_items c.tree.acls)))) users tree in
    let all = appended o a g (map Number (c.next_address ∷ c.next_blob ∷ c.flushes ∷ []))
    (list_items user_items c.tree.users ++ (Number (length c.tree.nodes) ∷ (tree_items c.tree.nodes c.files
    ++ (list_items link_items c.tree.links ++ (list_items part_items c.parts ++ list_items acl_items c.tree.acls)))))
    numbers all_users in
    record { code = all.0; mark = all.2 ∙ ap (λ (l : List ℕ). l ++ all.0) mark; can_tell = tt; items = all.1 }
