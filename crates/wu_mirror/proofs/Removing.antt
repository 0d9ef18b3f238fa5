-- Groups are set, and names are removed: nobody finds more than before.
use Rattle.std.proofs.Common.{◌≡◌, ◌≢◌, ℕ, ◌<◌, ◌^◌, List, [], ◌∷◌, ◌++◌, refl, ap, sym, ◌∙◌, subst, Bool, true, false, not, inl, inr, ⊎_elim}
use Rattle.std.proofs.Common.{append_assoc, arith}
use Rattle.std.specs.Prelude.{◌⊎◌, ◌&&◌, ◌||◌, ◌==◌, None, Some, map, decimal, reverse}
use Rattle.std.specs.Ordering.{nat_cmp}
use Rattle.std.specs.List.{flat_map}
use Rattle.std.specs.Map.{lookup, remove_entry}
use Rattle.std.specs.BTreeMap.{is_at, insert_entry}
use Rattle.std.specs.Str.Parse.{digits_value}
use Rattle.std.proofs.lemmas.Fmt.{decimal_is_IsNumeral}
use mathlib.Core.List.{reverse-cons}
use borrow.Author.Tests.{eqb-true, eq-eqb}
use Rattle.wu_base.specs.SortedOnce.{sorted_once}
use Rattle.wu_access.specs.declared.acls.Acl.{Acl}
use Rattle.wu_access.specs.declared.UserRec.{UserRec}
use Rattle.wu_access.specs.Access.{IsDecidedByCases}
use Rattle.wu_tree.specs.declared.events.Event.{Event}
use Rattle.wu_tree.specs.declared.events.Event.TheVariants.{User}
use Rattle.wu_tree.specs.declared.events.Node.{Node}
use Rattle.wu_tree.specs.FileSystems.{FileSystem, Link, place_cmp, acl_of, node_of, child_of, is_directory_node, is_used}
use Rattle.wu_tree.specs.Rules.{IsTree}
use Rattle.wu_tree.specs.Steps.{IsEvent, next, refusal_of, rename_rules, renamed, with_link_moved, with_user, without_link}
use Rattle.wu_tree.proofs.EventRules.{none_applies, not_false, present}
use Rattle.wu_tree.proofs.Renames.{renamed_free}
use Rattle.wu_base.proofs.Members.{Has, Has-append_cases, any_has}
use Rattle.wu_mirror.specs.declared.batches.Batch.{Batch}
use Rattle.wu_mirror.specs.declared.batches.Change.{Change}
use Rattle.wu_mirror.specs.declared.batches.Fate.TheVariants.{Stays, Made, Goes}
use Rattle.wu_mirror.specs.declared.batches.Place.{Place}
use Rattle.wu_mirror.specs.Plans.{groups_change, groups_set}
use Rattle.wu_mirror.specs.Plans.{is_empty, left_mode, set_aside, taken, taken_in}
use Rattle.wu_mirror.specs.Moments.{AtEach, GoesFrom, HasFate, IsName, IsTrueOf, LeadsTo, is_told, with_groups}
use Rattle.wu_mirror.proofs.Lookups.{KeepsNodes, link_removed, put_in, put_keeps, still_in, taken_out, same_some}
use Rattle.wu_mirror.proofs.Parts.{RootShut, shows_before, shows_none, tree_kept}
use Rattle.wu_mirror.proofs.TakingRights.{LeftBy}
use Rattle.wu_mirror.proofs.Taking.{IsLeft, NodesHeld, Shows, Taking, at_first, held_below, shut, take_all, truth}

-- ---- numbers as names
pub decimals_apart : (a b : ℕ) → a < 2 ^ 32 → b < 2 ^ 32 → decimal a ≡ decimal b → a ≡ b
decimals_apart a b small tiny e =
    let low : a < 2 ^ 64 = omega arith in
    let less : b < 2 ^ 64 = omega arith in
    sym (decimal_is_IsNumeral a low).1 ∙ ap (digits_value 10) e ∙ (decimal_is_IsNumeral b less).1

either_way : (a b g : Bool) → b ≡ true → g ≡ true → (a || (b && g)) ≡ true
either_way true b g h k = refl
either_way false b g h k = rw (h, k) refl

-- a link that is moved onto another of its node stays
pub stays_put : (fs : FileSystem) (parent : ℕ) (name : List ℕ) (new_parent : ℕ) (new_name : List ℕ) (c : ℕ)
    → child_of fs parent name ≡ Some c → child_of fs new_parent new_name ≡ Some c → renamed fs parent name new_parent new_name ≡ fs
stays_put fs parent name new_parent new_name c f g = rw (f, g, eq-eqb c c refl) refl

module _ (law : IsDecidedByCases) (batch : Batch) (before after : FileSystem) (l : LeadsTo batch before after) (uid : ℕ) (u : uid ≢ 0)
    (End : FileSystem → Type 0) where
  abbrev Left : Change → Node → Type 0
  Left c node = IsLeft law batch before after l uid u End c node

  abbrev Sees : FileSystem → Type 0
  Sees fs = Shows law batch before after l uid u End fs

  -- what holds while names are removed
  pub record Held (m : FileSystem) : Type 0 where
    pub tree : IsTree m
    pub names : (d : ℕ) (n : List ℕ) (x : ℕ) → d ≢ 2 → child_of m d n ≡ Some x → child_of before d n ≡ Some x
    pub stays : (d : ℕ) (n : List ℕ) (x : ℕ) → d ≢ 2 → child_of before d n ≡ Some x → (GoesFrom batch.changes d n → ⊥) → child_of m d n ≡ Some x
    pub aside : (k x : ℕ) → k < 2 ^ 32 → child_of m 2 (decimal k) ≡ Some x → x ≡ k
    pub nodes : NodesHeld law batch before after l uid u End m
    pub done : (c : Change) → Has c batch.changes → (node : Node) → node_of m c.ino ≡ Some node → Left c node
    pub users : m.users ≡ after.users
    pub shown : (m.users ≡ before.users) ⊎ RootShut m

  pub held_shows : (m : FileSystem) → Held m → Sees m
  held_shows m h =
      ⊎_elim
      (λ e. shows_before law before after l.from l.to l.closed_before l.closed_after uid u m h.tree
      (record { names = h.names; nodes = held_below law batch before after l uid u End m h.nodes }) e)
      (λ s. shows_none law before after l.from l.to l.closed_before l.closed_after uid u m h.tree s before)
      h.shown

  -- ---- groups
  -- where groups change, the root is shut once rights were taken away
  root_shut : (m : FileSystem) → Taking law batch before after l uid u End [] m → groups_change batch ≡ true → is_told batch.changes 1 ≡ true
      → RootShut m
  root_shut m t g told node found =
      let r = any_has (λ (c : Change). c.ino == 1) batch.changes told in
      let c = r.0 in
      let h : Has c batch.changes = r.1.0 in
      let e : c.ino ≡ 1 = eqb-true c.ino 1 r.1.1 in
      let is_shut : shut law batch before after l uid u End c ≡ true = either_way c.has_new_text (c.ino == 1) (groups_change batch) r.1.1 g in
      let left : Left c node = ⊎_elim (λ a. absurd a) (λ f. f node (ap (node_of m) e ∙ found)) (t.done c h) in
      let true_of : IsTrueOf before after c = truth law batch before after l uid u End c h in
      elim c.fate as
      (λ f. HasFate f c.kind c.ino before after → LeftBy before after f c.kind c.ino (shut law batch before after l uid u End c) node
      → node.perm.mode ≡ 0) [
        | Stays rights has_other_name ↦ λ k i.
            ap (λ (n : Node). n.perm.mode) i.2 ∙ ap (λ b. left_mode b rights) is_shut
        | Made perm acl ↦ λ k i. absurd (let a : None ≡ Some node = sym k.was ∙ i in cc)
        | Goes ↦ λ k i.
            let a : is_directory_node (node_of after c.ino) ≡ true = subst (λ x. is_directory_node (node_of after x) ≡ true) (sym e) l.to.root in
            absurd (let b : is_directory_node None ≡ true = subst (λ o. is_directory_node o ≡ true) k a in cc)
      ] true_of.fate left

  -- no link has changed yet
  held_from : (m : FileSystem) → Taking law batch before after l uid u End [] m → (to : FileSystem) → IsTree to → to.links ≡ m.links
      → to.nodes ≡ m.nodes → to.acls ≡ m.acls → to.users ≡ after.users → (to.users ≡ before.users) ⊎ RootShut to → Held to
  held_from m t to tree links nodes acls users shown =
      let at : (d : ℕ) (n : List ℕ) → child_of to d n ≡ child_of before d n = (λ (d : ℕ) (n : List ℕ).
      ap (λ (ls : List Link). lookup (is_at (place_cmp (d, n))) ls) (links ∙ t.links)) in
      let node_at : (q : ℕ) → node_of to q ≡ node_of m q = (λ (q : ℕ). ap (λ (ns : List (ℕ × Node)). lookup (is_at (nat_cmp q)) ns) nodes) in
      let list_at : (q : ℕ) → acl_of to q ≡ acl_of m q = (λ (q : ℕ). ap (λ (acls : List (ℕ × Acl)). lookup (is_at (nat_cmp q)) acls) acls) in
      record {
        tree = tree;
        names = λ d n x a h. sym (at d n) ∙ h;
        stays = λ d n x a h g. at d n ∙ h;
        aside = λ k x small h. absurd (let a : None ≡ Some x = sym (l.no_number k) ∙ sym (at 2 (decimal k)) ∙ h in cc);
        nodes = record {
          rights = λ q node h. t.held.rights q node (sym (node_at q) ∙ h);
          lists = λ q node h. list_at q ∙ t.held.lists q node (sym (node_at q) ∙ h);
        };
        done = λ c h node g. ⊎_elim (λ a. absurd a) (λ f. f node (sym (node_at c.ino) ∙ g)) (t.done c h);
        users = users;
        shown = shown;
      }

  groups_all : (m : FileSystem) → Taking law batch before after l uid u End [] m → (users : List UserRec) (to fs : FileSystem) (rest : List Event)
      → IsTree to → to.links ≡ m.links → to.nodes ≡ m.nodes → to.acls ≡ m.acls → RootShut to → to.users ≡ fs.users
      → after.users ≡ (with_groups fs users).users
      → ((end : FileSystem) → Held end → end.links ≡ before.links → AtEach Sees End end rest)
      → AtEach Sees End to (map groups_set users ++ rest)
  groups_all m t [] to fs rest tree links nodes acls shut same all k =
      k to (held_from m t to tree links nodes acls (same ∙ sym all) (inr shut)) (links ∙ t.links)
  groups_all m t (user ∷ users) to fs rest tree links nodes acls shut same all k = (
    shows_none law before after l.from l.to l.closed_before l.closed_after uid u to tree shut before,
    λ v ok. groups_all m t users (with_user to user.uid user.groups) (with_user fs user.uid user.groups) rest
        (tree_kept to tree (User user.uid user.groups) v ok) links nodes acls shut
        (ap (λ (us : List (ℕ × List ℕ)). insert_entry nat_cmp us user.uid (sorted_once nat_cmp user.groups)) same) all k,
  )

  groups_some : (users : List UserRec) → batch.users ≡ users → (m : FileSystem) (rest : List Event) → Taking law batch before after l uid u End [] m
      → ((end : FileSystem) → Held end → end.links ≡ before.links → AtEach Sees End end rest)
      → AtEach Sees End m (map groups_set users ++ rest)
  groups_some [] e m rest t k =
      let same : m.users ≡ after.users = t.users ∙ sym (l.groups ∙ ap (λ (us : List UserRec). (with_groups before us).users) e) in
      k m (held_from m t m t.tree refl refl refl same (inl t.users)) t.links
  groups_some (user ∷ users) e m rest t k =
      let changes : groups_change batch ≡ true = ap (λ (us : List UserRec). not (is_empty us)) e in
      let told : is_told batch.changes 1 ≡ true = ⊎_elim (λ a. a) (λ none. absurd (let a : [] ≡ user ∷ users = sym none ∙ e in cc)) l.root in
      groups_all m t (user ∷ users) m before rest t.tree refl refl refl (root_shut m t changes told) t.users
      (l.groups ∙ ap (λ (us : List UserRec). (with_groups before us).users) e) k

  -- ---- names
  gone_at : (parent : ℕ) (name : List ℕ) (d : ℕ) (n : List ℕ) → GoesFrom batch.changes parent name → d ≡ parent → n ≡ name
      → GoesFrom batch.changes d n
  gone_at parent name d n g e w = (g.0, g.1, g.2, g.3, g.4 ∙ sym e, g.5 ∙ sym w)

  held_after : (m to : FileSystem) → Held m → KeepsNodes m to → IsTree to
      → ((d : ℕ) (n : List ℕ) (x : ℕ) → d ≢ 2 → child_of to d n ≡ Some x → child_of m d n ≡ Some x)
      → ((d : ℕ) (n : List ℕ) (x : ℕ) → d ≢ 2 → child_of m d n ≡ Some x → (GoesFrom batch.changes d n → ⊥) → child_of to d n ≡ Some x)
      → ((k x : ℕ) → k < 2 ^ 32 → child_of to 2 (decimal k) ≡ Some x → x ≡ k)
      → Held to
  held_after m to h s tree names stays aside = record {
    tree = tree;
    names = λ d n x a g. h.names d n x a (names d n x a g);
    stays = λ d n x a f g. stays d n x a (h.stays d n x a f g) g;
    aside = aside;
    nodes = record {
      rights = λ q node g. h.nodes.rights q node (s.nodes q node g).0;
      lists = λ q node g. (s.nodes q node g).1 ∙ h.nodes.lists q node (s.nodes q node g).0;
    };
    done = λ c i node g. h.done c i node (s.nodes c.ino node g).0;
    users = s.users ∙ h.users;
    shown = ⊎_elim (λ e. inl (s.users ∙ e)) (λ r. inr (λ node g. r node (s.nodes 1 node g).0)) h.shown;
  }

  pub link_gone : (m : FileSystem) (parent : ℕ) (name : List ℕ) → GoesFrom batch.changes parent name → Held m
      → IsTree (without_link m parent name) → Held (without_link m parent name)
  link_gone m parent name goes h tree =
      held_after m (without_link m parent name) h (link_removed m h.tree parent name) tree
      (λ d n x a g. taken_out m.links parent name h.tree.links_ascend d n x g)
      (λ d n x a f g. still_in m.links parent name h.tree.links_ascend d n x (λ e w. g (gone_at parent name d n goes e w)) f)
      (λ k x small g. h.aside k x small (taken_out m.links parent name h.tree.links_ascend 2 (decimal k) x g))

  -- a name of the node moved to the closed directory
  pub put_aside : (m : FileSystem) (c : Change) (h : Has c batch.changes) (place : Place) → IsName before c.ino place
      → GoesFrom batch.changes place.parent place.name → Held m
      → IsEvent (set_aside c.ino place)
      → refusal_of m (set_aside c.ino place) ≡ None
      → Held (next m (set_aside c.ino place))
  put_aside m c h place is goes held v ok =
      let small : c.ino < 2 ^ 32 = (truth law batch before after l uid u End c h).number in
      let a = none_applies (rename_rules m place.parent place.name 2 (decimal c.ino)) ok in
      let f = present (child_of m place.parent place.name) (not_false (is_used m place.parent place.name) a.1.1.1.0) in
      let itself : f.0 ≡ c.ino = same_some f.0 c.ino (sym (held.names place.parent place.name f.0 is.0 f.1) ∙ is.1) in
      let found : child_of m place.parent place.name ≡ Some c.ino = f.1 ∙ ap Some itself in
      let tree : IsTree (renamed m place.parent place.name 2 (decimal c.ino)) = tree_kept m held.tree (set_aside c.ino place) v ok in
      elim (child_of m 2 (decimal c.ino)) as
      (λ o. child_of m 2 (decimal c.ino) ≡ o → Held (renamed m place.parent place.name 2 (decimal c.ino))) [
        | None ↦ λ free.
            let to : FileSystem = with_link_moved m place.parent place.name 2 (decimal c.ino) c.ino in
            let same : to ≡ renamed m place.parent place.name 2 (decimal c.ino) =
            renamed_free m place.parent place.name 2 (decimal c.ino) c.ino found free in
            let left : List Link = remove_entry (is_at (place_cmp (place.parent, place.name))) m.links in
            subst Held same
            (held_after m to held (record { users = refl; nodes = λ q node g. (g, refl) }) (subst IsTree (sym same) tree)
            (λ d n x apart g. ⊎_elim (λ p. absurd (apart p.0)) (λ q. taken_out m.links place.parent place.name held.tree.links_ascend d n x q)
            (put_in left 2 (decimal c.ino) c.ino d n x g))
            (λ d n x apart f g.
            put_keeps left 2 (decimal c.ino) c.ino d n x (λ e w. absurd (apart e))
            (still_in m.links place.parent place.name held.tree.links_ascend d n x
            (λ e w. g (gone_at place.parent place.name d n goes e w)) f))
            (λ k x low g. ⊎_elim
            (λ p. p.2 ∙ sym (decimals_apart k c.ino low small p.1))
            (λ q. held.aside k x low (taken_out m.links place.parent place.name held.tree.links_ascend 2 (decimal k) x q))
            (put_in left 2 (decimal c.ino) c.ino 2 (decimal k) x g)))
        | Some x ↦ λ there.
            let e : x ≡ c.ino = held.aside c.ino x small there in
            let same : renamed m place.parent place.name 2 (decimal c.ino) ≡ m = stays_put m place.parent place.name 2 (decimal c.ino) c.ino found
            (there ∙ ap Some e) in
            subst Held (sym same) held
      ] refl

  pub has-reverse : (c : Change) (changes : List Change) → Has c (reverse changes) → Has c changes
  has-reverse c [] h = absurd h
  has-reverse c (d ∷ changes) h =
      ⊎_elim (λ a. inr (has-reverse c changes a)) (λ b. ⊎_elim (λ e. inl e) (λ n. absurd n) b)
      (Has-append_cases c (reverse changes) (d ∷ []) (subst (λ (cs : List Change). Has c cs) (reverse-cons d changes) h))

  -- up to the names that go
  pub up_to_the_groups : (rest : List Event) → ((to : FileSystem) → Held to → to.links ≡ before.links → AtEach Sees End to rest)
      → AtEach Sees End before (taken_in batch ++ rest)
  up_to_the_groups rest k =
      let takes : List Event = flat_map (taken (groups_change batch)) batch.changes in
      let groups : List Event = map groups_set batch.users in
      subst (λ (events : List Event). AtEach Sees End before events) (sym (append_assoc takes groups rest))
      (take_all law batch before after l uid u End batch.changes (λ c h. h) before (groups ++ rest) (at_first law batch before after l uid u End)
      (λ m t. groups_some batch.users refl m rest t k))
