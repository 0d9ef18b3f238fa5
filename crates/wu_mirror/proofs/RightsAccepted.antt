-- Events that change rights, groups and texts are accepted, and leave names and kinds as they are.
use Rattle.std.proofs.Common.{◌≡◌, ℕ, ◌≤◌, List, [], ◌∷◌, ◌++◌, refl, ap, sym, ◌∙◌, subst, true, false, not}
use Rattle.std.specs.Prelude.{◌==◌, Option, None, Some, is_some, IfSome}
use Rattle.std.specs.List.{AllByRecursion}
use Rattle.std.proofs.lemmas.Bool.{eqb-true, eqb-false}
use Rattle.wu_access.specs.declared.acls.Acl.{Acl}
use Rattle.wu_access.specs.Access.{IsAcl}
use Rattle.wu_tree.specs.declared.events.Event.{Event}
use Rattle.wu_tree.specs.declared.events.Event.TheVariants.{User, Mkdir, Create, Text, Link, Unlink, Rmdir, Rename, Chmod, Chown}
use Rattle.wu_tree.specs.declared.events.Event.TheVariants.{Acl as SetAcl}
use Rattle.wu_tree.specs.declared.events.Kind.{Kind}
use Rattle.wu_tree.specs.declared.events.Node.{Node}
use Rattle.wu_tree.specs.FileSystems.{FileSystem, acl_of, is_file, is_file_node, is_kind_file, is_there, node_of}
use Rattle.wu_tree.specs.Rules.{IsTree}
use Rattle.wu_tree.specs.Steps.{IsEvent, next, refusal_of, text_rules, without_acl}
use Rattle.wu_tree.proofs.NewLinks.{file_no_directory, file_there}
use Rattle.wu_mirror.specs.Acceptance.{AreAcceptedTo}
use Rattle.wu_mirror.proofs.EventsAccepted.{none_refuses, there_taken}
use Rattle.wu_mirror.proofs.Lookups.{ChangesRights, acl_put, acl_removed, perm_changes}
use Rattle.wu_mirror.proofs.Parts.{node_there, tree_kept}

abbrev pub kind_in : Option Node → Option Kind
kind_in None = None
kind_in (Some node) = Some node.kind

-- the same names, and nodes of the same kinds
pub record IsAlike (m fs : FileSystem) : Type 0 where
  pub links : m.links ≡ fs.links
  pub kinds : (q : ℕ) → kind_in (node_of m q) ≡ kind_in (node_of fs q)

some_kind : (o p : Option Node) → kind_in o ≡ kind_in p → is_some o ≡ is_some p
some_kind None None e = refl
some_kind None (Some p) e = absurd cc
some_kind (Some o) None e = absurd cc
some_kind (Some o) (Some p) e = refl

pub alike_there : (m fs : FileSystem) → IsAlike m fs → (q : ℕ) → is_there fs q ≡ true → is_there m q ≡ true
alike_there m fs a q h = some_kind (node_of m q) (node_of fs q) (a.kinds q) ∙ h

-- an event that changes neither names nor kinds, of a node that is there
abbrev pub Leaves : FileSystem → Event → Type 0
Leaves fs (User uid groups) = Unit {0}
Leaves fs (Mkdir ino parent name perm) = ⊥
Leaves fs (Create ino parent name perm) = ⊥
Leaves fs (Text ino) = is_file fs ino ≡ true
Leaves fs (Link ino parent name) = ⊥
Leaves fs (Unlink parent name) = ⊥
Leaves fs (Rmdir parent name) = ⊥
Leaves fs (Rename parent name new_parent new_name) = ⊥
Leaves fs (Chmod ino mode) = (mode ≤ 0xFFF) × (is_there fs ino ≡ true)
Leaves fs (Chown ino uid gid) = is_there fs ino ≡ true
Leaves fs (SetAcl ino acl mask) = (IfSome acl IsAcl × (mask ≤ 7)) × (is_there fs ino ≡ true)

changed_alike : (m to : FileSystem) (ino : ℕ) (old node : Node) (acl : Option Acl) → node_of m ino ≡ Some old → old.kind ≡ node.kind
    → ChangesRights m to ino node acl
    → IsAlike to m
changed_alike m to ino old node acl found same r = record {
  links = r.links;
  kinds = λ q.
      elim (q == ino) as (λ b. (q == ino) ≡ b → kind_in (node_of to q) ≡ kind_in (node_of m q)) [
        | true ↦ λ e.
            subst (λ x. kind_in (node_of to x) ≡ kind_in (node_of m x)) (sym (eqb-true q ino e))
            (ap kind_in r.node_is ∙ ap Some (sym same) ∙ sym (ap kind_in found))
        | false ↦ λ e. ap kind_in (r.nodes q (eqb-false q ino e))
      ] refl;
}

alike_itself : (m : FileSystem) → IsAlike m m
alike_itself m = record { links = refl; kinds = λ q. refl }

alike_then : (to m fs : FileSystem) → IsAlike to m → IsAlike m fs → IsAlike to fs
alike_then to m fs a b = record { links = a.links ∙ b.links; kinds = λ q. a.kinds q ∙ b.kinds q }

-- what is taken and left
abbrev Taken : FileSystem → Event → Type 0
Taken m event = IsEvent event × (refusal_of m event ≡ None) × IsAlike (next m event) m

same_file : (o p : Option Node) → kind_in o ≡ kind_in p → is_file_node p ≡ true → is_file_node o ≡ true
same_file o None e h = absurd cc
same_file None (Some p) e h = absurd cc
same_file (Some o) (Some p) e h = subst (λ (k : Kind). is_kind_file k ≡ true) (sym (same_kind o.kind p.kind e)) h
  where
    same_kind : (k l : Kind) → Some k ≡ Some l → k ≡ l
    same_kind k l e = cc

list_removed : (m : FileSystem) → IsTree m → (ino : ℕ) (node : Node) → node_of m ino ≡ Some node → IsAlike (without_acl m ino (acl_of m ino)) m
list_removed m t ino node found =
    elim (acl_of m ino) as (λ o. acl_of m ino ≡ o → IsAlike (without_acl m ino o) m) [
      | None ↦ λ e. alike_itself m
      | Some acl ↦ λ e. subst (λ (o : Option Acl). IsAlike (without_acl m ino o) m) e
          (changed_alike m (without_acl m ino (acl_of m ino)) ino node _ None found refl (acl_removed m ino node found t acl e))
    ] refl

taken_one : (m fs : FileSystem) → IsTree m → IsAlike m fs → (event : Event) → Leaves fs event → Taken m event
taken_one m fs t a (User uid groups) h = (tt, refl, record { links = refl; kinds = λ q. refl })
taken_one m fs t a (Mkdir ino parent name perm) h = absurd h
taken_one m fs t a (Create ino parent name perm) h = absurd h
taken_one m fs t a (Text ino) h =
    let file : is_file m ino ≡ true = same_file (node_of m ino) (node_of fs ino) (a.kinds ino) h in (
      tt,
      none_refuses (text_rules m ino) (ap not (file_there (node_of m ino) file), (file_no_directory (node_of m ino) file, tt)),
      alike_itself m,
    )
taken_one m fs t a (Link ino parent name) h = absurd h
taken_one m fs t a (Unlink parent name) h = absurd h
taken_one m fs t a (Rmdir parent name) h = absurd h
taken_one m fs t a (Rename parent name new_parent new_name) h = absurd h
taken_one m fs t a (Chmod ino mode) h =
    let there = alike_there m fs a ino h.1 in
    let f = node_there (node_of m ino) there in (
      h.0,
      there_taken m t ino there,
      changed_alike m (next m (Chmod ino mode)) ino f.0 _ _ f.1 refl (perm_changes m ino f.0 f.1 (λ perm. record perm { mode = mode })),
    )
taken_one m fs t a (Chown ino uid gid) h =
    let there = alike_there m fs a ino h in
    let f = node_there (node_of m ino) there in (
      tt,
      there_taken m t ino there,
      changed_alike m (next m (Chown ino uid gid)) ino f.0 _ _ f.1 refl (perm_changes m ino f.0 f.1 (λ perm. record perm { uid = uid; gid = gid })),
    )
taken_one m fs t a (SetAcl ino None mask) h =
    let there = alike_there m fs a ino h.1 in
    let f = node_there (node_of m ino) there in
    (h.0, there_taken m t ino there, list_removed m t ino f.0 f.1)
taken_one m fs t a (SetAcl ino (Some acl) mask) h =
    let there = alike_there m fs a ino h.1 in
    let f = node_there (node_of m ino) there in (
      h.0,
      there_taken m t ino there,
      changed_alike m (next m (SetAcl ino (Some acl) mask)) ino f.0 _ _ f.1 refl (acl_put m ino f.0 f.1 acl mask),
    )

-- one after the other
pub all_taken : (End : FileSystem → Type 0) (fs : FileSystem) (events : List Event) → AllByRecursion (Leaves fs) events → (m : FileSystem) → IsTree m → IsAlike m fs
    → (rest : List Event)
    → ((to : FileSystem) → IsTree to → IsAlike to fs → AreAcceptedTo End to rest)
    → AreAcceptedTo End m (events ++ rest)
all_taken End fs [] h m t a rest k = k m t a
all_taken End fs (event ∷ events) h m t a rest k =
    let one = taken_one m fs t a event h.0 in (
      one.0,
      one.1,
      all_taken End fs events h.1 (next m event) (tree_kept m t event one.0 one.1) (alike_then (next m event) m fs one.2 a) rest k,
    )
