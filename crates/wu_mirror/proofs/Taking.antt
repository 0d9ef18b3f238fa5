-- Up to the groups: rights are taken away, one change after the other.
use Rattle.std.proofs.Common.{◌≡◌, ◌≢◌, ℕ, ◌<◌, ◌^◌, List, [], ◌∷◌, ◌++◌, refl, ap, sym, ◌∙◌, subst, Bool, true, false, cond, not, inl, inr, ⊎_elim}
use Rattle.std.proofs.Common.{append_assoc}
use Rattle.std.specs.Prelude.{◌⊎◌, ◌&&◌, ◌||◌, ◌==◌, Option, None, Some, is_some, map, decimal}
use Rattle.std.specs.List.{flat_map}
use Rattle.std.specs.Map.{lookup}
use Rattle.std.specs.BTreeMap.{is_at}
use borrow.Author.Tests.{eqb-true, eqb-false}
use Rattle.wu_access.specs.declared.acls.Acl.{Acl}
use Rattle.wu_access.specs.declared.Perm.{Perm}
use Rattle.wu_access.specs.declared.UserRec.{UserRec}
use Rattle.wu_access.specs.Access.{IsDecidedByCases}
use Rattle.wu_tree.specs.declared.events.Event.{Event}
use Rattle.wu_tree.specs.declared.events.Event.TheVariants.{Chmod, User}
use Rattle.wu_tree.specs.declared.events.Node.{Node}
use Rattle.wu_tree.specs.FileSystems.{FileSystem, Link, place_cmp, acl_of, node_of, child_of, is_there}
use Rattle.wu_tree.specs.Rules.{IsTree}
use Rattle.wu_tree.specs.Steps.{IsEvent, absent_rules, next, refusal_of, with_user}
use Rattle.wu_tree.proofs.EventRules.{none_applies, not_false}
use Rattle.wu_base.proofs.Members.{Has, all_has, any_has}
use Rattle.wu_mirror.specs.declared.batches.Batch.{Batch}
use Rattle.wu_mirror.specs.declared.batches.Change.{Change}
use Rattle.wu_mirror.specs.declared.batches.Fate.{Fate}
use Rattle.wu_mirror.specs.declared.batches.Fate.TheVariants.{Stays, Made, Goes}
use Rattle.wu_mirror.specs.declared.batches.RightsChange.{RightsChange}
use Rattle.wu_mirror.specs.Searches.{GrantsNoMore}
use Rattle.wu_mirror.specs.Plans.{groups_change, is_shut, left_mode, mode_set, taken, taken_from}
use Rattle.wu_mirror.specs.Moments.{AtEach, HasFate, IsKept, IsTrueOf, FindsNoMore, LeadsTo}
use Rattle.wu_mirror.proofs.RightsLess.{moded}
use Rattle.wu_mirror.proofs.Lookups.{ChangesRights, permitted, perm_changes, same_some}
use Rattle.wu_mirror.proofs.Parts.{IsPartOf, node_there, shows_before, tree_kept}
use Rattle.wu_mirror.proofs.TakingRights.{LeftBy, apart_same, left_again, left_already, left_below, same_below}

module _ (law : IsDecidedByCases) (batch : Batch) (before after : FileSystem) (l : LeadsTo batch before after) (uid : ℕ) (u : uid ≢ 0)
    (End : FileSystem → Type 0) where
  abbrev pub all : List Change
  all = batch.changes

  abbrev pub shut : Change → Bool
  shut change = is_shut (groups_change batch) change

  abbrev pub Shows : FileSystem → Type 0
  Shows fs = FindsNoMore uid fs before

  pub truth : (c : Change) → Has c all → IsTrueOf before after c
  truth c h = all_has (IsTrueOf before after) c all l.changes h

  pub one_change : (c d : Change) → Has c all → Has d all → c.ino ≡ d.ino → c ≡ d
  one_change c d h g e = apart_same all l.apart c d h g e

  -- the node of that change is as it is left
  abbrev pub IsLeft : Change → Node → Type 0
  IsLeft c node = LeftBy before after c.fate c.kind c.ino (shut c) node

  abbrev pub LeftAt : ℕ → Node → Type 0
  LeftAt q node = (c : Change) × Has c all × (c.ino ≡ q) × IsLeft c node

  -- nodes as they were or as they are left, with the lists that they had
  pub record NodesHeld (m : FileSystem) : Type 0 where
    pub rights : (q : ℕ) (node : Node) → node_of m q ≡ Some node → (node_of before q ≡ Some node) ⊎ LeftAt q node
    pub lists : (q : ℕ) (node : Node) → node_of m q ≡ Some node → acl_of m q ≡ acl_of before q

  -- and such nodes grant no more than before
  pub held_below : (m : FileSystem) → NodesHeld m → (q : ℕ) (node other : Node) → node_of m q ≡ Some node → node_of before q ≡ Some other
      → (node.kind ≡ other.kind) × GrantsNoMore node.perm (acl_of m q) other.perm (acl_of before q)
  held_below m n q node other h g =
      ⊎_elim
      (λ s. same_below before after q (acl_of m q) (n.lists q node h) node other s g)
      (λ a.
      let c = a.0 in
      let e : c.ino ≡ q = a.2 in
      let b = left_below before after c.fate c.kind c.ino (shut c) (truth c a.1).fate (acl_of m q) (n.lists q node h ∙ ap (acl_of before) (sym e))
      node other a.3 (ap (node_of before) e ∙ g) in
      subst (λ x. (node.kind ≡ other.kind) × GrantsNoMore node.perm (acl_of m q) other.perm (acl_of before x)) e b)
      (n.rights q node h)

  -- of a change that node which is there: as it was, or as it is left
  pub now : (m : FileSystem) → NodesHeld m → (c : Change) → Has c all → (node : Node) → node_of m c.ino ≡ Some node
      → (node_of before c.ino ≡ Some node) ⊎ IsLeft c node
  now m n c h node g =
      ⊎_elim (λ s. inl s)
      (λ a. inr (subst (λ (d : Change). IsLeft d node) (one_change a.0 c a.1 h a.2) a.3))
      (n.rights c.ino node g)

  -- ---- one change after the other
  pub record Taking (left : List Change) (m : FileSystem) : Type 0 where
    pub tree : IsTree m
    pub links : m.links ≡ before.links
    pub users : m.users ≡ before.users
    pub held : NodesHeld m
    pub done : (c : Change) → Has c all → Has c left ⊎ ((node : Node) → node_of m c.ino ≡ Some node → IsLeft c node)

  pub taking_shows : (left : List Change) (m : FileSystem) → Taking left m → Shows m
  taking_shows left m t =
      shows_before law before after l.from l.to l.closed_before l.closed_after uid u m t.tree
      (record {
        names = λ d n x a h. ap (λ (links : List Link). lookup (is_at (place_cmp (d, n))) links) (sym t.links) ∙ h;
        nodes = held_below m t.held;
      })
      t.users

  -- nothing is to be taken
  taken_nothing : (c : Change) (h : Has c all) (left : List Change) (m : FileSystem) → Taking (c ∷ left) m
      → ((node : Node) → node_of m c.ino ≡ Some node → IsLeft c node)
      → Taking left m
  taken_nothing c h left m t k = record {
    tree = t.tree;
    links = t.links;
    users = t.users;
    held = t.held;
    done = λ d g. ⊎_elim
        (λ p. ⊎_elim
        (λ e. inr (subst (λ (x : Change). (node : Node) → node_of m x.ino ≡ Some node → IsLeft x node) e k))
        (λ q. inl q) p)
        (λ q. inr q)
        (t.done d g);
  }

  -- a mode is taken away
  taken_mode : (c : Change) (h : Has c all) (left : List Change) (m : FileSystem) → Taking (c ∷ left) m → (mode : ℕ)
      → ((node : Node) → node_of m c.ino ≡ Some node → IsLeft c (permitted node (moded node.perm mode)))
      → IsEvent (Chmod c.ino mode) → refusal_of m (Chmod c.ino mode) ≡ None
      → Taking left (next m (Chmod c.ino mode))
  taken_mode c h left m t mode k v ok =
      let f = node_there (node_of m c.ino) (not_false (is_there m c.ino) (none_applies (absent_rules m c.ino) ok).0) in
      let node = f.0 in
      let to : FileSystem = next m (Chmod c.ino mode) in
      let r : ChangesRights m to c.ino (permitted node (moded node.perm mode)) (acl_of m c.ino) = perm_changes m c.ino node f.1
      (λ perm. record perm { mode = mode }) in
      let left_now : (other : Node) → node_of to c.ino ≡ Some other → IsLeft c other = (λ (other : Node) (g : node_of to c.ino ≡ Some other).
      subst (λ (n : Node). IsLeft c n) (same_some (permitted node (moded node.perm mode)) other (sym r.node_is ∙ g)) (k node f.1)) in
      record {
        tree = tree_kept m t.tree (Chmod c.ino mode) v ok;
        links = r.links ∙ t.links;
        users = r.users ∙ t.users;
        held = record {
          rights = λ q other g.
              elim (q == c.ino) as (λ b. (q == c.ino) ≡ b → (node_of before q ≡ Some other) ⊎ LeftAt q other) [
                | true ↦ λ e.
                    let same : q ≡ c.ino = eqb-true q c.ino e in
                    inr (c, h, sym same, left_now other (ap (node_of to) (sym same) ∙ g))
                | false ↦ λ e. t.held.rights q other (sym (r.nodes q (eqb-false q c.ino e)) ∙ g)
              ] refl;
          lists = λ q other g.
              elim (q == c.ino) as (λ b. (q == c.ino) ≡ b → acl_of to q ≡ acl_of before q) [
                | true ↦ λ e.
                    let same : q ≡ c.ino = eqb-true q c.ino e in
                    ap (acl_of to) same ∙ r.acl_is ∙ t.held.lists c.ino node f.1 ∙ ap (acl_of before) (sym same)
                | false ↦ λ e. r.acls q (eqb-false q c.ino e)
                    ∙ t.held.lists q other (sym (r.nodes q (eqb-false q c.ino e)) ∙ g)
              ] refl;
        };
        done = λ d g.
            elim (d.ino == c.ino) as (λ b. (d.ino == c.ino) ≡ b → Has d left ⊎ ((other : Node) → node_of to d.ino ≡ Some other → IsLeft d other)) [
              | true ↦ λ e. inr
                  (subst (λ (x : Change). (other : Node) → node_of to x.ino ≡ Some other → IsLeft x other)
                  (one_change c d h g (sym (eqb-true d.ino c.ino e))) left_now)
              | false ↦ λ e.
                  let apart : d.ino ≢ c.ino = eqb-false d.ino c.ino e in
                  ⊎_elim
                  (λ p. ⊎_elim (λ s. absurd (apart (ap (λ (x : Change). x.ino) (sym s)))) (λ q. inl q) p)
                  (λ q. inr (λ other s. q other (sym (r.nodes d.ino apart) ∙ s)))
                  (t.done d g)
            ] refl;
      }

  take_one : (c : Change) → Has c all → (left : List Change) (m : FileSystem) (rest : List Event) → Taking (c ∷ left) m
      → ((to : FileSystem) → Taking left to → AtEach Shows End to rest)
      → AtEach Shows End m (taken (groups_change batch) c ++ rest)
  take_one c h left m rest t k =
      elim c.fate as (λ fate. c.fate ≡ fate → AtEach Shows End m (taken_from c.ino (shut c) fate ++ rest)) [
        | Stays rights has_other_name ↦ λ e.
            let kept : IsKept rights c.kind c.ino before after = subst (λ (f : Fate). HasFate f c.kind c.ino before after) e (truth c h).fate in
            let mode : ℕ = left_mode (shut c) rights in
            let was : (node : Node) → node_of m c.ino ≡ Some node
            → (node_of before c.ino ≡ Some node) ⊎ LeftBy before after (Stays rights has_other_name) c.kind c.ino (shut c) node =
            (λ (node : Node) (g : node_of m c.ino ≡ Some node).
            subst (λ (f : Fate). (node_of before c.ino ≡ Some node) ⊎ LeftBy before after f c.kind c.ino (shut c) node) e (now m t.held c h node g)) in
            elim (rights.before == mode) as
            (λ b. (rights.before == mode) ≡ b → AtEach Shows End m (cond b [] (Chmod c.ino mode ∷ []) ++ rest)) [
              | true ↦ λ p. k m
                  (taken_nothing c h left m t
                  (λ node g. subst (λ (f : Fate). LeftBy before after f c.kind c.ino (shut c) node) (sym e)
                  (left_already before after rights has_other_name c.kind c.ino (shut c) kept (eqb-true rights.before mode p) node (was node g))))
              | false ↦ λ p. (
                taking_shows (c ∷ left) m t,
                λ v ok. k (next m (Chmod c.ino mode))
                    (taken_mode c h left m t mode
                    (λ node g. subst (λ (f : Fate). LeftBy before after f c.kind c.ino (shut c) (permitted node (moded node.perm mode))) (sym e)
                    (left_again before after rights has_other_name c.kind c.ino (shut c) kept node (was node g))) v ok),
              )
            ] refl
        | Made perm acl ↦ λ e. k m
            (taken_nothing c h left m t
            (λ node g. subst (λ (f : Fate). LeftBy before after f c.kind c.ino (shut c) node) (sym e)
            (⊎_elim (λ s. s) (λ s. subst (λ (f : Fate). LeftBy before after f c.kind c.ino (shut c) node) e s) (now m t.held c h node g))))
        | Goes ↦ λ e. k m
            (taken_nothing c h left m t
            (λ node g. subst (λ (f : Fate). LeftBy before after f c.kind c.ino (shut c) node) (sym e)
            (⊎_elim (λ s. s) (λ s. subst (λ (f : Fate). LeftBy before after f c.kind c.ino (shut c) node) e s) (now m t.held c h node g))))
      ] refl

  pub take_all : (left : List Change) → ((c : Change) → Has c left → Has c all) → (m : FileSystem) (rest : List Event) → Taking left m
      → ((to : FileSystem) → Taking [] to → AtEach Shows End to rest)
      → AtEach Shows End m (flat_map (taken (groups_change batch)) left ++ rest)
  take_all [] sub m rest t k = k m t
  take_all (c ∷ left) sub m rest t k =
      subst (λ (events : List Event). AtEach Shows End m events)
      (sym (append_assoc (taken (groups_change batch) c) (flat_map (taken (groups_change batch)) left) rest))
      (take_one c (sub c (inl refl)) left m (flat_map (taken (groups_change batch)) left ++ rest) t
      (λ to s. take_all left (λ d h. sub d (inr h)) to rest s k))

  -- before the first event nothing was taken
  pub at_first : Taking all before
  at_first = record {
    tree = l.from;
    links = refl;
    users = refl;
    held = record { rights = λ q node h. inl h; lists = λ q node h. refl };
    done = λ c h. inl h;
  }
