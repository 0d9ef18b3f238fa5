-- Steps that are accepted: a new node with its link, a further link, a text; and which nodes and links there are after them.
use Rattle.std.proofs.Common.{◌≡◌, ◌≢◌, ℕ, ◌<◌, ◌≤◌, Bool, true, false, cond, not, List, [], ◌∷◌, refl, ap, sym, ◌∙◌, arith}
use Rattle.std.proofs.Common.{inl, inr, ⊎_elim}
use Rattle.std.specs.Prelude.{◌⊎◌, Option, None, Some, Ok, is_some}
use Rattle.std.specs.BTreeMap.{insert_entry, is_at}
use Rattle.std.specs.Cmp.{nat_cmp_total}
use Rattle.std.specs.Ordering.{is_eq, match_ordering}
use Rattle.std.specs.declared.cmp.Ordering.{Ordering}
use Rattle.std.specs.declared.cmp.Ordering.TheVariants.{Less, Equal, Greater}
use Rattle.std.proofs.lemmas.Bool.{lt-leb}
use Rattle.std.proofs.lemmas.Map.{NonePasses, none_passes_from_lookup}
use Rattle.std.proofs.lemmas.Map.Views.{Contains-from_lookup, tells_apart}
use Rattle.wu_base.proofs.MapEntries.{All-insert_entry, lookup-insert_entry, number_itself}
use Rattle.wu_base.proofs.Members.{Has, Has-from_Contains, all_from_has, all_has}
use Rattle.wu_tree.specs.declared.events.Event.{Event}
use Rattle.wu_tree.specs.declared.events.Event.TheVariants.{Create, Mkdir}
use Rattle.wu_tree.specs.declared.events.Event.TheVariants.{Link as AddLink, Text as SetText}
use Rattle.wu_tree.specs.declared.events.Kind.TheVariants.{Directory, File}
use Rattle.wu_tree.specs.declared.events.Node.{Node}
use Rattle.wu_tree.specs.declared.events.Refusal.{Refusal}
use Rattle.wu_tree.specs.FileSystems.{FileSystem, Link, Place, child_of, depth, is_directory, is_directory_node, is_file, is_file_node}
use Rattle.wu_tree.specs.FileSystems.{is_kind_file, is_name, node_of, place_cmp}
use Rattle.wu_tree.specs.Rules.{IsTree}
use Rattle.wu_tree.specs.Steps.{IsEvent, effect_of, next, refusal_of, step, unless_refused, with_link, with_node}
use Rattle.wu_tree.proofs.KeptTrees.{step_keeps}
use Rattle.wu_tree.proofs.ParentPaths.{other_number, place_exact}

-- ---- entries of a map after an insertion

module _ {K X : Type 0} (R : K → K → Ordering) where
  pub has_more : (es : List (K × X)) (k : K) (v : X) (x : K × X) → NonePasses (is_at (R k)) es → Has x es → Has x (insert_entry R es k v)
  has_more [] k v x n h = absurd h
  has_more (e ∷ es) k v x n h =
      elim (R k e.0) as
      (λ r. R k e.0 ≡ r → Has x (match_ordering r ((k, v) ∷ e ∷ es) ((e.0, v) ∷ es) (e ∷ insert_entry R es k v))) [
        | Less ↦ λ p. inr h
        | Equal ↦ λ p. absurd (let f : is_eq (R k e.0) ≡ true = ap is_eq p in let g : is_eq (R k e.0) ≡ false = n.0 in cc)
        | Greater ↦ λ p. ⊎_elim (λ (a : e ≡ x). inl a) (λ (i : Has x es). inr (has_more es k v x n.1 i)) h
      ] refl

  pub has_new : (es : List (K × X)) (k : K) (v : X) → NonePasses (is_at (R k)) es → Has (k, v) (insert_entry R es k v)
  has_new [] k v n = inl refl
  has_new (e ∷ es) k v n =
      elim (R k e.0) as
      (λ r. R k e.0 ≡ r → Has (k, v) (match_ordering r ((k, v) ∷ e ∷ es) ((e.0, v) ∷ es) (e ∷ insert_entry R es k v))) [
        | Less ↦ λ p. inl refl
        | Equal ↦ λ p. absurd (let f : is_eq (R k e.0) ≡ true = ap is_eq p in let g : is_eq (R k e.0) ≡ false = n.0 in cc)
        | Greater ↦ λ p. inr (has_new es k v n.1)
      ] refl

pub more_has : (links : List Link) (place : Place) (ino : ℕ) (link : Link) → Has link (insert_entry place_cmp links place ino)
    → ((place, ino) ≡ link) ⊎ Has link links
more_has links place ino link h =
    all_has (λ (l : Link). ((place, ino) ≡ l) ⊎ Has l links) link (insert_entry place_cmp links place ino)
    (All-insert_entry (λ (l : Link). ((place, ino) ≡ l) ⊎ Has l links) place_cmp links place ino
    (all_from_has (λ (l : Link). ((place, ino) ≡ l) ⊎ Has l links) links (λ l i. inr i))
    (λ q e. inl (ap (λ (p : Place). (p, ino)) (place_exact place q e))) (inl refl))
    h

pub has_child : (fs : FileSystem) (place : Place) (ino : ℕ) → child_of fs place.0 place.1 ≡ Some ino → Has (place, ino) fs.links
has_child fs place ino h =
    Has-from_Contains (place, ino) fs.links (Contains-from_lookup (tells_apart place_exact) place ino fs.links h)

-- ---- kinds

directory_there : (o : Option Node) → is_directory_node o ≡ true → (is_some o ≡ true) × (is_file_node o ≡ false)
directory_there None h = absurd cc
directory_there (Some node) h = (refl, not_true (is_kind_file node.kind) h)
  where
    not_true : (b : Bool) → not b ≡ true → b ≡ false
    not_true true e = sym e
    not_true false e = refl

file_there : (o : Option Node) → is_file_node o ≡ true → (is_some o ≡ true) × (is_directory_node o ≡ false)
file_there None h = absurd cc
file_there (Some node) h = (refl, ap not h)

-- ---- what is asked

-- a name that is free in a directory
pub record IsFree (fs : FileSystem) (parent : ℕ) (name : List ℕ) : Type 0 where
  pub named : is_name name ≡ true
  pub directory : is_directory fs parent ≡ true
  pub free : child_of fs parent name ≡ None

steps_to : (fs : FileSystem) (event : Event) → refusal_of fs event ≡ None → step fs event ≡ Ok (next fs event, effect_of fs event)
steps_to fs event h = ap (λ (o : Option Refusal). unless_refused o (next fs event) (effect_of fs event)) h

-- ---- the nodes that are made

abbrev pub directory_node : Node
directory_node = record { kind = Directory; perm = record { uid = 0; gid = 0; mode = 0o755 } }

abbrev pub file_node : Node
file_node = record { kind = File; perm = record { uid = 0; gid = 0; mode = 0o644 } }

-- ---- steps

-- an accepted step, and the tree that it leaves
pub record Goes (fs : FileSystem) (event : Event) (after : FileSystem) : Type 0 where
  pub steps : step fs event ≡ Ok (after, effect_of fs event)
  pub tree : IsTree after

module _ (fs : FileSystem) (t : IsTree fs) where
  goes : (event : Event) → IsEvent event → refusal_of fs event ≡ None → Goes fs event (next fs event)
  goes event v h =
      let steps = steps_to fs event h in
      record { steps = steps; tree = step_keeps fs t event (next fs event) (effect_of fs event) v steps }

  pub text_goes : (ino : ℕ) → is_file fs ino ≡ true → Goes fs (SetText ino) fs
  text_goes ino file =
      let there = file_there (node_of fs ino) file in
      goes (SetText ino) tt (rw (there.0, there.1) refl)

  module _ (parent : ℕ) (name : List ℕ) (f : IsFree fs parent name) where
    pub mkdir_goes : (ino : ℕ) → 1 ≤ ino → node_of fs ino ≡ None → depth fs.links parent < 255
        → Goes fs (Mkdir ino parent name directory_node.perm) (with_node fs ino parent name directory_node)
    mkdir_goes ino low none shallow =
        let d = directory_there (node_of fs parent) f.directory in
        goes (Mkdir ino parent name directory_node.perm) (low, omega arith)
        (rw (f.named, d.0, d.1, none, f.free, lt-leb 255 (depth fs.links parent) shallow) refl)

    pub create_goes : (ino : ℕ) → 1 ≤ ino → node_of fs ino ≡ None
        → Goes fs (Create ino parent name file_node.perm) (with_node fs ino parent name file_node)
    create_goes ino low none =
        let d = directory_there (node_of fs parent) f.directory in
        goes (Create ino parent name file_node.perm) (low, omega arith) (rw (f.named, d.0, d.1, none, f.free) refl)

    pub link_goes : (ino : ℕ) → is_file fs ino ≡ true → Goes fs (AddLink ino parent name) (with_link fs ino parent name)
    link_goes ino file =
        let d = directory_there (node_of fs parent) f.directory in
        let there = file_there (node_of fs ino) file in
        goes (AddLink ino parent name) tt (rw (f.named, there.0, d.0, there.1, d.1, f.free) refl)

    -- ---- what there is after them

    no_place : NonePasses (is_at (place_cmp (parent, name))) fs.links
    no_place = none_passes_from_lookup _ fs.links f.free

    pub link_stays : (ino : ℕ) (link : Link) → Has link fs.links → Has link (insert_entry place_cmp fs.links (parent, name) ino)
    link_stays ino link h = has_more place_cmp fs.links (parent, name) ino link no_place h

    pub link_new : (ino : ℕ) → Has ((parent, name), ino) (insert_entry place_cmp fs.links (parent, name) ino)
    link_new ino = has_new place_cmp fs.links (parent, name) ino no_place

pub node_new : (fs : FileSystem) (ino parent : ℕ) (name : List ℕ) (node : Node)
    → node_of (with_node fs ino parent name node) ino ≡ Some node
node_new fs ino parent name node = lookup-insert_entry nat_cmp_total fs.nodes ino node ino
    ∙ ap (λ (b : Bool). cond b (Some node) (node_of fs ino)) (number_itself ino)

pub node_stays : (fs : FileSystem) (ino parent : ℕ) (name : List ℕ) (node : Node) (q : ℕ) → q ≢ ino
    → node_of (with_node fs ino parent name node) q ≡ node_of fs q
node_stays fs ino parent name node q other = lookup-insert_entry nat_cmp_total fs.nodes ino node q
    ∙ ap (λ (b : Bool). cond b (Some node) (node_of fs q)) (other_number q ino other)
