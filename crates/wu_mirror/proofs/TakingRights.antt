-- The first events of a batch: they take rights away, and leave names and groups as they are.
use Rattle.std.proofs.Common.{◌≡◌, ◌≢◌, ℕ, List, [], ◌∷◌, ◌++◌, refl, ap, sym, ◌∙◌, subst, Bool, true, false, cond, not, inl, inr, ⊎_elim, append_assoc}
use Rattle.std.specs.Prelude.{◌⊎◌, ◌&&◌, ◌||◌, ◌==◌, Option, None, Some, is_some}
use Rattle.std.specs.Int.Bits.{bit_and}
use Rattle.std.specs.List.{AllByRecursion, flat_map}
use Rattle.std.proofs.lemmas.Bool.{and_parts, or_parts}
use borrow.Author.Tests.{eqb-true, eqb-false}
use Rattle.wu_access.specs.declared.acls.Acl.{Acl}
use Rattle.wu_access.specs.declared.Perm.{Perm}
use Rattle.wu_access.specs.declared.UserRec.{UserRec}
use Rattle.wu_access.specs.declared.Want.{Want}
use Rattle.wu_access.specs.Access.{is_allowed}
use Rattle.wu_tree.specs.declared.events.Event.{Event}
use Rattle.wu_tree.specs.declared.events.Event.TheVariants.{Chmod}
use Rattle.wu_tree.specs.declared.events.Kind.{Kind}
use Rattle.wu_tree.specs.declared.events.Node.{Node}
use Rattle.wu_tree.specs.FileSystems.{FileSystem, acl_of, node_of, child_of, is_there}
use Rattle.wu_tree.specs.Rules.{IsTree}
use Rattle.wu_tree.specs.Steps.{IsEvent, absent_rules, next, refusal_of}
use Rattle.wu_tree.proofs.EventRules.{none_applies, not_false}
use Rattle.wu_base.proofs.Members.{Has, all_has}
use Rattle.wu_mirror.specs.declared.batches.Batch.{Batch}
use Rattle.wu_mirror.specs.declared.batches.Change.{Change}
use Rattle.wu_mirror.specs.declared.batches.Fate.{Fate}
use Rattle.wu_mirror.specs.declared.batches.Fate.TheVariants.{Stays, Made, Goes}
use Rattle.wu_mirror.specs.declared.batches.ListChange.{ListChange}
use Rattle.wu_mirror.specs.declared.batches.ListChange.TheVariants.{Same, Set, Removed}
use Rattle.wu_mirror.specs.declared.batches.Owners.{Owners}
use Rattle.wu_mirror.specs.declared.batches.RightsChange.{RightsChange}
use Rattle.wu_mirror.specs.Searches.{GrantsNoMore}
use Rattle.wu_mirror.specs.Plans.{is_shut, keeps_classes, keeps_list, left_mode, mode_set, taken, taken_from}
use Rattle.wu_mirror.specs.Moments.{AreApart, AtEach, HasFate, IsKept, IsTrueOf, list_after, node_with, owned_after, perm_after}
use Rattle.wu_mirror.proofs.RightsLess.{moded, meet_first, meet_second, mode_grants, nothing_grants}
use Rattle.wu_mirror.proofs.Lookups.{ChangesRights, permitted, perm_changes, by_test, same_some}
use Rattle.wu_mirror.proofs.Parts.{IsPartOf, node_there, tree_kept}

-- ---- changes that are apart
pub apart_same : (changes : List Change) → AreApart changes → (one other : Change) → Has one changes → Has other changes
    → one.ino ≡ other.ino → one ≡ other
apart_same [] a one other h g e = absurd h
apart_same (change ∷ changes) a one other h g e =
    ⊎_elim
    (λ p. ⊎_elim (λ q. sym p ∙ q)
    (λ q. absurd (all_has (λ (o : Change). o.ino ≢ change.ino) other changes a.0 q (sym e ∙ ap (λ (c : Change). c.ino) (sym p)))) g)
    (λ p. ⊎_elim
    (λ q. absurd (all_has (λ (o : Change). o.ino ≢ change.ino) one changes a.0 p (e ∙ ap (λ (c : Change). c.ino) (sym q))))
    (λ q. apart_same changes a.1 one other p q e) g)
    h

-- ---- what is left of a node's rights
moded_itself : (perm : Perm) (mode : ℕ) → perm.mode ≡ mode → moded perm mode ≡ perm
moded_itself perm mode e = ap (λ (x : ℕ). moded perm x) (sym e)

-- what is left grants no more than what was
pub left_below_old : (shut : Bool) (rights : RightsChange) (perm : Perm) (acl : Option Acl) → perm.mode ≡ rights.before
    → GrantsNoMore (moded perm (left_mode shut rights)) acl perm acl
left_below_old shut rights perm acl e =
    by_test (shut || not (keeps_classes rights))
    (λ b. GrantsNoMore (moded perm (cond b 0 (bit_and rights.before rights.after))) acl perm acl)
    (λ p. nothing_grants perm acl perm acl)
    (λ p. subst (λ (q : Perm). GrantsNoMore (moded perm (bit_and rights.before rights.after)) acl q acl) (moded_itself perm rights.before e)
    (mode_grants perm acl (bit_and rights.before rights.after) rights.before (meet_first rights.before rights.after)))

same_owners : (owners : Option Owners) (perm : Perm) → not (is_some owners) ≡ true → owned_after owners perm ≡ perm
same_owners None perm h = refl
same_owners (Some owners) perm h = absurd cc

same_list : (list : ListChange) (acl : Option Acl) → keeps_list list ≡ true → list_after list acl ≡ acl
same_list Same acl h = refl
same_list (Set list) acl h = absurd cc
same_list Removed acl h = absurd cc

-- and no more than what comes
pub left_below_new : (shut : Bool) (rights : RightsChange) (perm : Perm) (acl : Option Acl)
    → GrantsNoMore (moded perm (left_mode shut rights)) acl (perm_after rights perm) (list_after rights.list acl)
left_below_new shut rights perm acl =
    by_test (shut || not (keeps_classes rights))
    (λ b. GrantsNoMore (moded perm (cond b 0 (bit_and rights.before rights.after))) acl (perm_after rights perm) (list_after rights.list acl))
    (λ p. nothing_grants perm acl (perm_after rights perm) (list_after rights.list acl))
    (λ p.
    let k : keeps_classes rights ≡ true = not_true (keeps_classes rights) (or_parts shut (not (keeps_classes rights)) p).1 in
    let b = and_parts (not (is_some rights.owners)) (keeps_list rights.list) k in
    subst (λ (l : Option Acl). GrantsNoMore (moded perm (bit_and rights.before rights.after)) acl (perm_after rights perm) l)
    (sym (same_list rights.list acl b.1))
    (subst (λ (q : Perm). GrantsNoMore (moded perm (bit_and rights.before rights.after)) acl (moded q rights.after) acl)
    (sym (same_owners rights.owners perm b.0))
    (mode_grants perm acl (bit_and rights.before rights.after) rights.after (meet_second rights.before rights.after))))
  where
    not_true : (b : Bool) → not b ≡ false → b ≡ true
    not_true true h = refl
    not_true false h = absurd cc

module _ (before after : FileSystem) where
  -- the node of a change as it stands in the midst of the batch
  abbrev pub LeftBy : Fate → Kind → ℕ → Bool → Node → Type 0
  LeftBy (Stays rights has_other_name) kind ino shut node =
      (perm : Perm) × (node_of before ino ≡ Some (node_with kind perm)) × (node ≡ node_with kind (moded perm (left_mode shut rights)))
  LeftBy (Made perm acl) kind ino shut node = node_of before ino ≡ Some node
  LeftBy Goes kind ino shut node = node_of before ino ≡ Some node

  grants_itself : (perm : Perm) (acl other : Option Acl) → acl ≡ other → GrantsNoMore perm acl perm other
  grants_itself perm acl other e user want u h = subst (λ (a : Option Acl). is_allowed user perm a want ≡ true) e h

  abbrev pub BelowOld : (ino : ℕ) (acl : Option Acl) → Node → Node → Type 0
  BelowOld ino acl node other = (node.kind ≡ other.kind) × GrantsNoMore node.perm acl other.perm (acl_of before ino)

  pub same_below : (ino : ℕ) (acl : Option Acl) → acl ≡ acl_of before ino → (node other : Node) → node_of before ino ≡ Some node
      → node_of before ino ≡ Some other → BelowOld ino acl node other
  same_below ino acl e node other h g =
      let same : node ≡ other = same_some node other (sym h ∙ g) in
      subst (λ (n : Node). BelowOld ino acl node n) same (refl, grants_itself node.perm acl (acl_of before ino) e)

  -- the node that is left, by the permissions that the node had
  left_node : (rights : RightsChange) (kind : Kind) (ino : ℕ) (shut : Bool) (k : IsKept rights kind ino before after) (node : Node)
      → ((perm : Perm) × (node_of before ino ≡ Some (node_with kind perm)) × (node ≡ node_with kind (moded perm (left_mode shut rights))))
      → node ≡ node_with kind (moded k.perm (left_mode shut rights))
  left_node rights kind ino shut k node l =
      let same : l.0 ≡ k.perm = ap (λ (n : Node). n.perm) (same_some (node_with kind l.0) (node_with kind k.perm) (sym l.1 ∙ k.was)) in
      l.2 ∙ ap (λ (p : Perm). node_with kind (moded p (left_mode shut rights))) same

  pub left_below : (fate : Fate) (kind : Kind) (ino : ℕ) (shut : Bool) → HasFate fate kind ino before after → (acl : Option Acl)
      → acl ≡ acl_of before ino → (node other : Node) → LeftBy fate kind ino shut node → node_of before ino ≡ Some other
      → BelowOld ino acl node other
  left_below (Stays rights has_other_name) kind ino shut k acl e node other l g =
      let was : node_with kind k.perm ≡ other = same_some (node_with kind k.perm) other (sym k.was ∙ g) in
      subst (λ (n : Node). BelowOld ino acl n other) (sym (left_node rights kind ino shut k node l))
      (subst (λ (n : Node). BelowOld ino acl (node_with kind (moded k.perm (left_mode shut rights))) n) was (
        refl,
        subst (λ (a : Option Acl). GrantsNoMore (moded k.perm (left_mode shut rights)) acl k.perm a) e
            (left_below_old shut rights k.perm acl k.mode),
      ))
  left_below (Made perm acl') kind ino shut k acl e node other l g = same_below ino acl e node other l g
  left_below Goes kind ino shut k acl e node other l g = same_below ino acl e node other l g

  abbrev pub BelowNew : (ino : ℕ) (acl : Option Acl) → Node → Node → Type 0
  BelowNew ino acl node other = (node.kind ≡ other.kind) × GrantsNoMore node.perm acl other.perm (acl_of after ino)

  pub left_below_after : (fate : Fate) (kind : Kind) (ino : ℕ) (shut : Bool) → HasFate fate kind ino before after → (acl : Option Acl)
      → acl ≡ acl_of before ino → (node other : Node) → LeftBy fate kind ino shut node → node_of after ino ≡ Some other
      → BelowNew ino acl node other
  left_below_after (Stays rights has_other_name) kind ino shut k acl e node other l g =
      let is : node_with kind (perm_after rights k.perm) ≡ other = same_some (node_with kind (perm_after rights k.perm)) other (sym k.becomes ∙ g) in
      subst (λ (n : Node). BelowNew ino acl n other) (sym (left_node rights kind ino shut k node l))
      (subst (λ (n : Node). BelowNew ino acl (node_with kind (moded k.perm (left_mode shut rights))) n) is (
        refl,
        subst (λ (a : Option Acl). GrantsNoMore (moded k.perm (left_mode shut rights)) acl (perm_after rights k.perm) a)
            (ap (list_after rights.list) e ∙ sym k.list)
            (left_below_new shut rights k.perm acl),
      ))
  left_below_after (Made perm acl') kind ino shut k acl e node other l g = absurd (let c : None ≡ Some node = sym k.was ∙ l in cc)
  left_below_after Goes kind ino shut k acl e node other l g = absurd (let c : None ≡ Some other = sym k ∙ g in cc)

  -- with the mode that is left a node is as it is left
  pub left_again : (rights : RightsChange) (has_other_name : Bool) (kind : Kind) (ino : ℕ) (shut : Bool) → IsKept rights kind ino before after
      → (node : Node) → (node_of before ino ≡ Some node) ⊎ LeftBy (Stays rights has_other_name) kind ino shut node
      → LeftBy (Stays rights has_other_name) kind ino shut (permitted node (moded node.perm (left_mode shut rights)))
  left_again rights has_other_name kind ino shut k node h =
      let left : ℕ = left_mode shut rights in
      ⊎_elim
      (λ s. (k.perm, k.was, ap (λ (n : Node). permitted n (moded n.perm left)) (same_some node (node_with kind k.perm) (sym s ∙ k.was))))
      (λ l. (l.0, l.1, ap (λ (n : Node). permitted n (moded n.perm left)) l.2))
      h

  -- a node from which nothing is to be taken is as it is left
  pub left_already : (rights : RightsChange) (has_other_name : Bool) (kind : Kind) (ino : ℕ) (shut : Bool) → IsKept rights kind ino before after
      → rights.before ≡ left_mode shut rights
      → (node : Node) → (node_of before ino ≡ Some node) ⊎ LeftBy (Stays rights has_other_name) kind ino shut node
      → LeftBy (Stays rights has_other_name) kind ino shut node
  left_already rights has_other_name kind ino shut k e node h =
      ⊎_elim
      (λ s. (
        k.perm,
        k.was,
        same_some node (node_with kind k.perm) (sym s ∙ k.was)
            ∙ ap (node_with kind) (sym (moded_itself k.perm (left_mode shut rights) (k.mode ∙ e))),
      ))
      (λ l. l)
      h
