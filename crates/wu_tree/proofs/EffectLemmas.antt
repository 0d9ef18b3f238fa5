-- The effect of an accepted event tells which files there are after it.
use Rattle.std.proofs.Common.{◌≡◌, ◌≢◌, ℕ, List, refl, ap, sym, ◌∙◌, subst, Bool, true, false, cond, inl, inr, ⊎_elim}
use Rattle.std.specs.Prelude.{◌↔◌, ◌⊎◌, ◌&&◌, ◌==◌, Option, None, Some, Ok, is_some}
use Rattle.std.specs.Ordering.{is_eq, nat_cmp}
use Rattle.std.specs.Cmp.{nat_cmp_total}
use Rattle.std.specs.Map.{lookup, remove_entry}
use Rattle.std.specs.BTreeMap.{is_at, insert_entry}
use Rattle.std.proofs.lemmas.Map.{lookup-none}
use Rattle.std.proofs.lemmas.Bool.{or_parts}
use borrow.Author.Tests.{eqb-true, eqb-false}
use Rattle.wu_access.specs.declared.acls.Acl.{Acl}
use Rattle.wu_access.specs.declared.Perm.{Perm}
use Rattle.wu_tree.specs.declared.events.Kind.TheVariants.{Directory, File}
use Rattle.wu_tree.specs.declared.events.Node.{Node}
use Rattle.wu_tree.specs.declared.events.Event.{Event}
use Rattle.wu_tree.specs.declared.events.Event.TheVariants.{User, Mkdir, Create, Text, Link, Unlink, Rmdir, Rename, Chmod, Chown}
use Rattle.wu_tree.specs.declared.events.Event.TheVariants.{Acl as SetAcl}
use Rattle.wu_tree.specs.declared.events.Effect.{Effect}
use Rattle.wu_tree.specs.FileSystems.{FileSystem, is_file, is_file_node, is_there, is_kind_file, is_used, acl_of, node_of, child_of}
use Rattle.wu_tree.specs.FileSystems.{link_count}
use Rattle.wu_tree.specs.Rules.{IsTree}
use Rattle.wu_tree.specs.Steps.{mkdir_rules, create_rules, text_rules, unlink_rules, rmdir_rules, named_by, no_effect, dropped_at}
use Rattle.wu_tree.specs.Steps.{without_link, with_link_moved, with_node, refusal_of, next, effect_of, step, with_mask, with_perm}
use Rattle.wu_tree.specs.Steps.{without_acl, is_last_link, is_link_to}
use Rattle.wu_tree.specs.Effects.{TellsFiles}
use Rattle.wu_base.proofs.MapEntries.{lookup-insert_entry, lookup-remove_other, none_left, number_itself}
use Rattle.wu_base.proofs.Options.{none_either_way}
use Rattle.wu_tree.proofs.ParentPaths.{same_number}
use Rattle.wu_tree.proofs.LinkRemovals.{apart_from}
use Rattle.wu_tree.proofs.EventRules.{none_applies, accepted, not_false, kind_file, same_some, none_some}
use Rattle.wu_tree.proofs.Permissions.{set_same}

-- ---- one node: what is said of it before and after
module _ (dropped : Option ℕ) (q : ℕ) (before after : Bool) where
  stays : (dropped ≡ Some q → ⊥) → after ≡ before → (after ≡ true) ↔ ((dropped ≢ Some q) × ((None ≡ Some q) ⊎ (before ≡ true)))
  stays n e = (λ h. (n, inr (sym e ∙ h)), λ g. ⊎_elim (λ m. absurd cc) (λ b. e ∙ b) g.1)

  goes : dropped ≡ Some q → after ≡ false → (after ≡ true) ↔ ((dropped ≢ Some q) × ((None ≡ Some q) ⊎ (before ≡ true)))
  goes d e = (λ h. absurd (let f : true ≡ false = sym h ∙ e in cc), λ g. absurd (g.0 d))

  is_none : before ≡ false → after ≡ false → (dropped ≡ Some q → ⊥)
      → (after ≡ true) ↔ ((dropped ≢ Some q) × ((None ≡ Some q) ⊎ (before ≡ true)))
  is_none b a n = stays n (a ∙ sym b)

-- files that stay
unchanged : (fs after : FileSystem) → ((q : ℕ) → is_file after q ≡ is_file fs q) → TellsFiles fs no_effect after
unchanged fs after e = record {
  files = λ q. stays None q (is_file fs q) (is_file after q) (none_some q) (e q);
  text = λ q h. absurd
      (none_some q h);
  apart = λ q h. none_some q;
}

-- ---- a link that goes, with its node where it was the last
module _ (fs : FileSystem) (t : IsTree fs) (c : ℕ) where
  abbrev removed : List (ℕ × Node)
  removed = remove_entry (is_at (nat_cmp c)) fs.nodes

  gone : lookup (is_at (nat_cmp c)) removed ≡ None
  gone = lookup-none (is_at (nat_cmp c)) removed (none_left c fs.nodes t.nodes_ascend)

  other : (last : Bool) (q : ℕ) → q ≢ c → is_file_node (lookup (is_at (nat_cmp q)) (cond last removed fs.nodes)) ≡ is_file fs q
  other true q n = ap is_file_node (lookup-remove_other (is_at (nat_cmp q)) (is_at (nat_cmp c)) (λ k p. apart_from c q k n p) fs.nodes)
  other false q n = refl

  none_dropped : (file last : Bool) (q : ℕ) → q ≢ c → cond (file && last) (Some c) None ≡ Some q → ⊥
  none_dropped true true q n h = n (sym (same_some c q h))
  none_dropped true false q n h = none_some q h
  none_dropped false last q n h = none_some q h

  itself : (file last : Bool) → is_file fs c ≡ file
      → (is_file_node (lookup (is_at (nat_cmp c)) (cond last removed fs.nodes)) ≡ true)
      ↔ ((cond (file && last) (Some c) None ≢ Some c) × ((None ≡ Some c) ⊎ (is_file fs c ≡ true)))
  itself true true f = goes (Some c) c (is_file fs c) _ refl (ap is_file_node gone)
  itself true false f = stays None c (is_file fs c) _ (none_some c) refl
  itself false true f = is_none None c (is_file fs c) _ f (ap is_file_node gone) (none_some c)
  itself false false f = stays None c (is_file fs c) _ (none_some c) refl

  pub tells_removal : (after : FileSystem) (dropped : Option ℕ) (file last : Bool) → is_file fs c ≡ file
      → after.nodes ≡ cond last removed fs.nodes
      → dropped ≡ cond (file && last) (Some c) None → TellsFiles fs (record no_effect { dropped = dropped }) after
  tells_removal after dropped file last f n d = record {
    files = λ q.
        subst (λ (nodes : List (ℕ × Node)). (is_file_node (lookup (is_at (nat_cmp q)) nodes) ≡ true) ↔
        ((dropped ≢ Some q) × ((None ≡ Some q) ⊎ (is_file fs q ≡ true)))) (sym n)
        (subst (λ (o : Option ℕ). (is_file_node (lookup (is_at (nat_cmp q)) (cond last removed fs.nodes)) ≡ true) ↔
        ((o ≢ Some q) × ((None ≡ Some q) ⊎ (is_file fs q ≡ true)))) (sym d)
        (elim (q == c) as (λ b. (q == c) ≡ b → (is_file_node (lookup (is_at (nat_cmp q)) (cond last removed fs.nodes)) ≡ true)
        ↔ ((cond (file && last) (Some c) None ≢ Some q) × ((None ≡ Some q) ⊎ (is_file fs q ≡ true)))) [
          | true ↦ λ e. subst (λ x. (is_file_node (lookup (is_at (nat_cmp x)) (cond last removed fs.nodes)) ≡ true)
              ↔ ((cond (file && last) (Some c) None ≢ Some x) × ((None ≡ Some x) ⊎ (is_file fs x ≡ true)))) (sym (eqb-true q c e))
              (itself file last f)
          | false ↦ λ e. stays (cond (file && last) (Some c) None) q (is_file fs q) _ (none_dropped file last q (eqb-false q c e))
              (other last q (eqb-false q c e))
        ] refl));
    text = λ q h. absurd (none_some q h);
    apart = λ q h. absurd (none_some q h);
  }

module _ (fs : FileSystem) (t : IsTree fs) (parent : ℕ) (name : List ℕ) where
  pub removal : (o : Option ℕ) → child_of fs parent name ≡ o → is_some o ≡ true
      → TellsFiles fs (record no_effect { dropped = dropped_at fs parent name }) (without_link fs parent name)
  removal None found h = absurd cc
  removal (Some c) found h =
      tells_removal fs t c (without_link fs parent name) (dropped_at fs parent name) (is_file fs c) (link_count fs.links c == 1) refl
      (rw found refl) (rw found refl)

  -- with a link at another place besides
  pub move_onto : (from : ℕ) (old : List ℕ) (child : ℕ) (o : Option ℕ) → child_of fs parent name ≡ o
      → TellsFiles fs (record no_effect { dropped = dropped_at fs parent name })
      (with_link_moved (cond (is_some o) (without_link fs parent name) fs) from old parent name child)
  move_onto from old child None found =
      let last : Bool = is_file fs (named_by fs parent name) && is_last_link fs parent name in
      let none : dropped_at fs parent name ≡ None = ap (λ (o : Option ℕ). cond last o None) found ∙ none_either_way last in
      subst (λ (d : Option ℕ). TellsFiles fs (record no_effect { dropped = d }) (with_link_moved fs from old parent name child)) (sym none)
      (unchanged fs (with_link_moved fs from old parent name child) (λ q. refl))
  move_onto from old child (Some c) found =
      tells_removal fs t c (with_link_moved (without_link fs parent name) from old parent name child) (dropped_at fs parent name)
      (is_file fs c) (link_count fs.links c == 1) refl
      (rw found refl) (rw found refl)

-- ---- a node that is made
absent_file : (o : Option Node) → is_some o ≡ false → is_file_node o ≡ false
absent_file None h = refl
absent_file (Some node) h = absurd cc

module _ (fs : FileSystem) (ino parent : ℕ) (name : List ℕ) (node : Node) (new : is_there fs ino ≡ false) where
  old : (q : ℕ) → is_eq (nat_cmp q ino) ≡ true → is_file fs q ≡ false
  old q e = ap (is_file fs) (same_number q ino e) ∙ absent_file (node_of fs ino) new

  file_at : (q : ℕ) (b : Bool) → is_eq (nat_cmp q ino) ≡ b
      → is_file (with_node fs ino parent name node) q ≡ is_file_node (cond b (Some node) (node_of fs q))
  file_at q b e = ap is_file_node
      (lookup-insert_entry nat_cmp_total fs.nodes ino node q ∙ ap (λ (b : Bool). cond b (Some node) (node_of fs q)) e)

  pub directory_made : is_kind_file node.kind ≡ false → TellsFiles fs no_effect (with_node fs ino parent name node)
  directory_made k =
      unchanged fs (with_node fs ino parent name node) (λ q.
      elim (is_eq (nat_cmp q ino)) as (λ b. is_eq (nat_cmp q ino) ≡ b → is_file (with_node fs ino parent name node) q ≡ is_file fs q) [
        | true ↦ λ e. file_at q true e ∙ k ∙ sym (old q e)
        | false ↦ λ e. file_at q false e
      ] refl)

  pub file_made : is_kind_file node.kind ≡ true → TellsFiles fs (record no_effect { made = Some ino }) (with_node fs ino parent name node)
  file_made k = record {
    files = λ q.
        elim (is_eq (nat_cmp q ino)) as (λ b. is_eq (nat_cmp q ino) ≡ b
        → (is_file (with_node fs ino parent name node) q ≡ true) ↔ ((None ≢ Some q) × ((Some ino ≡ Some q) ⊎ (is_file fs q ≡ true)))) [
          | true ↦ λ e. (λ h. (none_some q, inl (ap Some (sym (same_number q ino e)))), λ g. file_at q true e ∙ k)
          | false ↦ λ e. (
            λ h. (none_some q, inr (sym (file_at q false e) ∙ h)),
            λ g. ⊎_elim
                (λ m. absurd
                (let same : is_eq (nat_cmp q ino)
                ≡ true = subst (λ x. is_eq (nat_cmp x ino) ≡ true) (same_some ino q m) (number_itself ino) in let f : true
                ≡ false = sym same ∙ e in cc))
                (λ b. file_at q false e ∙ b) g.1,
          )
        ] refl;
    text = λ q h. absurd (none_some q h);
    apart = λ q h. none_some q;
  }

-- ---- permissions
perm_changed : (fs : FileSystem) (change : Perm → Perm) (ino : ℕ) (o : Option Node) → node_of fs ino ≡ o
    → TellsFiles fs no_effect (with_perm change fs ino o)
perm_changed fs change ino None h = unchanged fs fs (λ q. refl)
perm_changed fs change ino (Some node) h =
    unchanged fs (with_perm change fs ino (Some node))
    (λ q. set_same is_file_node (is_at (nat_cmp q)) (is_at (nat_cmp ino)) fs.nodes node (record node { perm = change node.perm }) h refl)

-- ---- access lists
acl_changed : (fs : FileSystem) (acls : List (ℕ × Acl)) (change : Perm → Perm) (ino : ℕ) (o : Option Node) → node_of fs ino ≡ o
    → TellsFiles fs no_effect (with_perm change (record fs { acls = acls }) ino o)
acl_changed fs acls change ino None h = unchanged fs (record fs { acls = acls }) (λ q. refl)
acl_changed fs acls change ino (Some node) h =
    unchanged fs (with_perm change (record fs { acls = acls }) ino (Some node))
    (λ q. set_same is_file_node (is_at (nat_cmp q)) (is_at (nat_cmp ino)) fs.nodes node (record node { perm = change node.perm }) h refl)

acl_taken : (fs : FileSystem) (ino : ℕ) (o : Option Acl) → TellsFiles fs no_effect (without_acl fs ino o)
acl_taken fs ino None = unchanged fs fs (λ q. refl)
acl_taken fs ino (Some acl) =
    acl_changed fs (remove_entry (is_at (nat_cmp ino)) fs.acls) (with_mask acl.owning) ino (node_of fs ino) refl

-- ---- any event
module _ (fs : FileSystem) (t : IsTree fs) where
  tells : (event : Event) → refusal_of fs event ≡ None → TellsFiles fs (effect_of fs event) (next fs event)
  tells (User uid groups) h = unchanged fs (next fs (User uid groups)) (λ q. refl)
  tells (Mkdir ino parent name perm) h =
      let a = (none_applies (mkdir_rules fs ino parent name) h).1.1.1 in
      directory_made fs ino parent name (record { kind = Directory; perm = perm })
      (or_parts (is_there fs ino) (is_used fs parent name) a.0).0 refl
  tells (Create ino parent name perm) h =
      let a = (none_applies (create_rules fs ino parent name) h).1.1.1 in
      file_made fs ino parent name (record { kind = File; perm = perm }) (or_parts (is_there fs ino) (is_used fs parent name) a.0).0 refl
  tells (Text ino) h =
      let a = none_applies (text_rules fs ino) h in
      let file : is_file fs ino ≡ true = kind_file (node_of fs ino) (not_false (is_there fs ino) a.0) a.1.0 in
      record {
        files = λ q. stays None q (is_file fs q) (is_file fs q) (none_some q) refl;
        text = λ q e. subst (λ x. is_file fs x ≡ true) (same_some ino q e) file;
        apart = λ q e. none_some q;
      }
  tells (Link ino parent name) h = unchanged fs (next fs (Link ino parent name)) (λ q. refl)
  tells (Unlink parent name) h =
      let a = (none_applies (unlink_rules fs parent name) h).1.1.1 in
      removal fs t parent name (child_of fs parent name) refl (not_false (is_used fs parent name) a.0)
  tells (Rmdir parent name) h =
      let a = (none_applies (rmdir_rules fs parent name) h).1.1.1 in
      let no_file : is_file fs (named_by fs parent name) ≡ false = a.1.0 in
      let none : dropped_at fs parent name ≡ None = rw no_file refl in
      subst (λ (d : Option ℕ). TellsFiles fs (record no_effect { dropped = d }) (without_link fs parent name)) none
      (removal fs t parent name (child_of fs parent name) refl (not_false (is_used fs parent name) a.0))
  tells (Rename parent name new_parent new_name) h =
      elim (is_link_to (named_by fs parent name) (child_of fs new_parent new_name)) as (λ b.
      TellsFiles fs (cond b no_effect (record no_effect { dropped = dropped_at fs new_parent new_name }))
      (cond b fs
      (with_link_moved (cond (is_used fs new_parent new_name) (without_link fs new_parent new_name) fs) parent name new_parent new_name
      (named_by fs parent name)))) [
        | true ↦ unchanged fs fs (λ q. refl)
        | false ↦ move_onto fs t new_parent new_name parent name (named_by fs parent name) (child_of fs new_parent new_name) refl
      ]
  tells (Chmod ino mode) h = perm_changed fs (λ perm. record perm { mode = mode }) ino (node_of fs ino) refl
  tells (Chown ino uid gid) h = perm_changed fs (λ perm. record perm { uid = uid; gid = gid }) ino (node_of fs ino) refl
  tells (SetAcl ino None mask) h = acl_taken fs ino (acl_of fs ino)
  tells (SetAcl ino (Some acl) mask) h =
      acl_changed fs (insert_entry nat_cmp fs.acls ino acl) (with_mask mask) ino (node_of fs ino) refl

  pub effects_tell_files : (event : Event) (after : FileSystem) (effect : Effect) → step fs event ≡ Ok (after, effect)
      → TellsFiles fs effect after
  effects_tell_files event after effect h =
      let a = accepted (refusal_of fs event) (next fs event) after (effect_of fs event) effect h in
      subst (λ (v : FileSystem). TellsFiles fs effect v) a.1.0
      (subst (λ (v : Effect). TellsFiles fs v (next fs event)) a.1.1 (tells event a.0))
