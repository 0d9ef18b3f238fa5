-- The last events of a batch: they give rights, and nobody finds more than after the batch.
use Rattle.std.proofs.Common.{◌≡◌, ◌≢◌, ℕ, ◌*◌, List, [], ◌∷◌, ◌++◌, refl, ap, sym, ◌∙◌, subst, Bool, true, false, cond, not, inl, inr}
use Rattle.std.proofs.Common.{append_assoc, arith, ⊎_elim}
use Rattle.std.specs.Prelude.{◌⊎◌, ◌&&◌, ◌||◌, ◌==◌, Option, None, Some, is_some}
use Rattle.std.specs.Int.Bits.{bit_and}
use Rattle.std.specs.List.{flat_map}
use Rattle.std.specs.Map.{lookup}
use Rattle.std.specs.BTreeMap.{is_at}
use borrow.Author.Tests.{eqb-true, eqb-false}
use Rattle.wu_access.specs.declared.acls.Acl.{Acl}
use Rattle.wu_access.specs.declared.Perm.{Perm}
use Rattle.wu_access.specs.Access.{IsDecidedByCases, group_digit}
use Rattle.wu_tree.specs.declared.events.Event.{Event}
use Rattle.wu_tree.specs.declared.events.Event.TheVariants.{Chmod, Chown}
use Rattle.wu_tree.specs.declared.events.Event.TheVariants.{Acl as SetAcl}
use Rattle.wu_tree.specs.declared.events.Kind.{Kind}
use Rattle.wu_tree.specs.declared.events.Node.{Node}
use Rattle.wu_tree.specs.FileSystems.{FileSystem, Link, place_cmp, acl_of, node_of, is_there}
use Rattle.wu_tree.specs.Rules.{IsTree}
use Rattle.wu_tree.specs.Steps.{absent_rules, next, with_group_digit}
use Rattle.wu_tree.proofs.EventRules.{none_applies, not_false}
use Rattle.wu_base.proofs.Members.{Has, all_has}
use Rattle.wu_mirror.specs.declared.batches.Batch.{Batch}
use Rattle.wu_mirror.specs.declared.batches.Change.{Change}
use Rattle.wu_mirror.specs.declared.batches.Fate.TheVariants.{Stays, Made, Goes}
use Rattle.wu_mirror.specs.declared.batches.ListChange.{ListChange}
use Rattle.wu_mirror.specs.declared.batches.ListChange.TheVariants.{Same, Set, Removed}
use Rattle.wu_mirror.specs.declared.batches.Owners.{Owners}
use Rattle.wu_mirror.specs.declared.batches.RightsChange.{RightsChange}
use Rattle.wu_mirror.specs.Searches.{GrantsNoMore}
use Rattle.wu_mirror.specs.Plans.{first_mode, first_perm, given, given_from, groups_change, keeps_classes, keeps_list, left_mode, list_given}
use Rattle.wu_mirror.specs.Plans.{made_given, mode_set, mode_then, nobody, owners_given, tail_of}
use Rattle.wu_mirror.specs.Moments.{AreApart, AtEach, FindsNoMore, HasFate, IsKept, IsMade, IsTrueOf, LeadsTo, is_told, list_after, node_with}
use Rattle.wu_mirror.specs.Moments.{owned_after, perm_after}
use Rattle.wu_mirror.proofs.RightsLess.{moded, mask_alone, mode_grants, nothing_grants}
use Rattle.wu_mirror.proofs.Lookups.{ChangesRights, acl_put, acl_removed, perm_changes, permitted, same_some}
use Rattle.wu_mirror.proofs.Parts.{IsPartOf, node_there, shows_after, tree_kept}
use Rattle.wu_mirror.proofs.TakingRights.{LeftBy}
use Rattle.wu_mirror.proofs.Taking.{one_change, truth}
use Rattle.wu_mirror.proofs.AllNames.{Back}
use Rattle.wu_mirror.proofs.Coming.{Coming, IsReady, ReadyBy, closed, untold}

-- ---- modes
-- where classes change nothing is left of a mode
nothing_left : (shut : Bool) (rights : RightsChange) → keeps_classes rights ≡ false → left_mode shut rights ≡ 0
nothing_left true rights h = refl
nothing_left false rights h = ap (λ b. cond (not b) 0 (bit_and rights.before rights.after)) h

no_classes : (x : Bool) → (x && false) ≡ false
no_classes true = refl
no_classes false = refl

masked_nothing : (digit : ℕ) → with_group_digit digit 0 ≡ digit * 8
masked_nothing digit = omega arith

first_nothing : (shut : Bool) → (shut || true) ≡ true
first_nothing true = refl
first_nothing false = refl

module _ (law : IsDecidedByCases) (batch : Batch) (before after : FileSystem) (l : LeadsTo batch before after) (uid : ℕ) (u : uid ≢ 0)
    (End : FileSystem → Type 0) where
  abbrev Sees : FileSystem → Type 0
  Sees fs = FindsNoMore uid fs after

  abbrev Ready : FileSystem → Change → Node → Type 0
  Ready m c node = IsReady law batch before after l uid u End m c node

  -- a node that is there after the batch has the rights and the list that it has then
  abbrev pub IsSet : FileSystem → Change → Type 0
  IsSet m c = is_there after c.ino ≡ true → (node : Node) → node_of m c.ino ≡ Some node
      → (node_of after c.ino ≡ Some node) × (acl_of m c.ino ≡ acl_of after c.ino)

  -- what holds while rights are given; `left` are the changes that are still to be given, and nothing is said of the node `now`
  pub record Giving (now : ℕ) (left : List Change) (m : FileSystem) : Type 0 where
    pub tree : IsTree m
    pub part : IsPartOf m after
    pub users : m.users ≡ after.users
    pub ready : (c : Change) → Has c left → (node : Node) → node_of m c.ino ≡ Some node → Ready m c node
    pub rest : (q : ℕ) (node : Node) → is_told batch.changes q ≡ false → node_of m q ≡ Some node
        → (node_of before q ≡ Some node) × (acl_of m q ≡ acl_of before q)
    pub back : Back law batch before after l uid u End m
    pub set : (c : Change) → Has c batch.changes → c.ino ≢ now → Has c left ⊎ IsSet m c

  pub giving_shows : (now : ℕ) (left : List Change) (m : FileSystem) → Giving now left m → Sees m
  giving_shows now left m g = shows_after law before after l.from l.to l.closed_before l.closed_after uid u m g.tree g.part g.users

  module _ (c : Change) (h : Has c batch.changes) (left : List Change) (apart : (d : Change) → Has d left → d.ino ≢ c.ino) where
    -- the node with that list grants no more than after the batch
    abbrev Below : Node → Option Acl → Type 0
    Below node acl = (other : Node) → node_of after c.ino ≡ Some other
        → (node.kind ≡ other.kind) × GrantsNoMore node.perm acl other.perm (acl_of after c.ino)

    -- the node, if it is there, is that one with that list
    abbrev Stands : FileSystem → Node → Option Acl → Type 0
    Stands m node acl = (one : Node) → node_of m c.ino ≡ Some one → (one ≡ node) × (acl_of m c.ino ≡ acl)

    abbrev Now : FileSystem → Type 0
    Now m = Giving c.ino left m

    -- what follows once the node stands so
    abbrev Follows : List Event → Node → Option Acl → Type 0
    Follows rest node acl = (to : FileSystem) → Now to → Stands to node acl → AtEach Sees End to rest

    given_one : (m to : FileSystem) (node : Node) (acl : Option Acl) → Now m → ChangesRights m to c.ino node acl → IsTree to
        → Below node acl
        → Now to
    given_one m to node acl g r tree below = record {
      tree = tree;
      part = record {
        names = λ d n x a f. g.part.names d n x a (ap (λ (ls : List Link). lookup (is_at (place_cmp (d, n))) ls) (sym r.links) ∙ f);
        nodes = λ q one other f e.
            elim (q == c.ino) as
            (λ b. (q == c.ino) ≡ b → (one.kind ≡ other.kind) × GrantsNoMore one.perm (acl_of to q) other.perm (acl_of after q)) [
              | true ↦ λ y.
                  let s : c.ino ≡ q = sym (eqb-true q c.ino y) in
                  let is_one : node ≡ one = same_some node one (sym r.node_is ∙ ap (node_of to) s ∙ f) in
                  subst (λ (n : Node). (n.kind ≡ other.kind) × GrantsNoMore n.perm (acl_of to q) other.perm (acl_of after q)) is_one
                  (subst (λ (a : Option Acl). (node.kind ≡ other.kind) × GrantsNoMore node.perm a other.perm (acl_of after q))
                  (sym r.acl_is ∙ ap (acl_of to) s)
                  (subst (λ x. (node.kind ≡ other.kind) × GrantsNoMore node.perm acl other.perm (acl_of after x)) s
                  (below other (ap (node_of after) s ∙ e))))
              | false ↦ λ y.
                  let n : q ≢ c.ino = eqb-false q c.ino y in
                  subst (λ (a : Option Acl). (one.kind ≡ other.kind) × GrantsNoMore one.perm a other.perm (acl_of after q)) (sym (r.acls q n))
                  (g.part.nodes q one other (sym (r.nodes q n) ∙ f) e)
            ] refl;
      };
      users = r.users ∙ g.users;
      ready = λ d i one f.
          subst (λ (a : Option Acl). ReadyBy law batch before after l uid u End d.fate d.kind d.ino (closed law batch before after l uid u End d) one a)
          (sym (r.acls d.ino (apart d i)))
          (g.ready d i one (sym (r.nodes d.ino (apart d i)) ∙ f));
      rest = λ q one n f.
          let other : q ≢ c.ino = (λ (e : q ≡ c.ino). untold law batch before after l uid u End q n c h (sym e)) in
          let s = g.rest q one n (sym (r.nodes q other) ∙ f) in
          (s.0, r.acls q other ∙ s.1);
      back = λ w d n x a f. ap (λ (ls : List Link). lookup (is_at (place_cmp (d, n))) ls) r.links ∙ g.back w d n x a f;
      set = λ d i n.
          ⊎_elim (λ q. inl q)
          (λ s. inr (λ t one f. let z = s t one (sym (r.nodes d.ino n) ∙ f) in (z.0, r.acls d.ino n ∙ z.1)))
          (g.set d i n);
    }

    found : (m : FileSystem) → is_there m c.ino ≡ true → (one : Node) × (node_of m c.ino ≡ Some one)
    found m t = node_there (node_of m c.ino) t

    there : (m : FileSystem) → not (is_there m c.ino) ≡ false → is_there m c.ino ≡ true
    there m n = not_false (is_there m c.ino) n

    -- ---- one event
    mode_given : (m : FileSystem) → Now m → (base : Node) (old mode : ℕ) (acl : Option Acl)
        → Stands m (permitted base (moded base.perm old)) acl
        → Below (permitted base (moded base.perm mode)) acl
        → (rest : List Event) → Follows rest (permitted base (moded base.perm mode)) acl
        → AtEach Sees End m (mode_set c.ino old mode ++ rest)
    mode_given m g base old mode acl s below rest k =
        elim (old == mode) as (λ b. (old == mode) ≡ b → AtEach Sees End m (cond b [] (Chmod c.ino mode ∷ []) ++ rest)) [
          | true ↦ λ e. k m g (subst (λ x. Stands m (permitted base (moded base.perm x)) acl) (eqb-true old mode e) s)
          | false ↦ λ e. (
            giving_shows c.ino left m g,
            λ v ok.
                let f = found m (there m (none_applies (absent_rules m c.ino) ok).0) in
                let is = s f.0 f.1 in
                let to : FileSystem = next m (Chmod c.ino mode) in
                let r : ChangesRights m to c.ino (permitted f.0 (moded f.0.perm mode)) (acl_of m c.ino) =
                perm_changes m c.ino f.0 f.1 (λ perm. record perm { mode = mode }) in
                let q : ChangesRights m to c.ino (permitted base (moded base.perm mode)) acl =
                subst (λ (a : Option Acl). ChangesRights m to c.ino (permitted base (moded base.perm mode)) a) is.1
                (subst (λ (n : Node). ChangesRights m to c.ino (permitted n (moded n.perm mode)) (acl_of m c.ino)) is.0 r) in
                k to
                (given_one m to (permitted base (moded base.perm mode)) acl g q (tree_kept m g.tree (Chmod c.ino mode) v ok) below)
                (λ one i. (same_some one (permitted base (moded base.perm mode)) (sym i ∙ q.node_is), q.acl_is)),
          )
        ] refl

    -- the list with the mode's mask, where the mode was nothing
    list_put : (m : FileSystem) → Now m → (base : Node) (acl : Option Acl) (list : Acl) (mask : ℕ)
        → Stands m (permitted base (moded base.perm 0)) acl
        → Below (permitted base (moded base.perm (mask * 8))) (Some list)
        → (rest : List Event)
        → ((to : FileSystem) → Now to → Stands to (permitted base (moded base.perm (mask * 8))) (Some list) → AtEach Sees End to rest)
        → AtEach Sees End m (SetAcl c.ino (Some list) mask ∷ rest)
    list_put m g base acl list mask s below rest k = (
      giving_shows c.ino left m g,
      λ v ok.
          let f = found m (there m (none_applies (absent_rules m c.ino) ok).0) in
          let is = s f.0 f.1 in
          let to : FileSystem = next m (SetAcl c.ino (Some list) mask) in
          let node : Node = permitted base (moded base.perm (mask * 8)) in
          let q : ChangesRights m to c.ino node (Some list) =
          subst (λ x. ChangesRights m to c.ino (permitted base (moded base.perm x)) (Some list)) (masked_nothing mask)
          (subst (λ (n : Node). ChangesRights m to c.ino (permitted n (moded n.perm (with_group_digit mask n.perm.mode))) (Some list)) is.0
          (acl_put m c.ino f.0 f.1 list mask)) in
          k to (given_one m to node (Some list) g q (tree_kept m g.tree (SetAcl c.ino (Some list) mask) v ok) below)
          (λ one e. (same_some one node (sym e ∙ q.node_is), q.acl_is)),
    )

    -- a list that grants nothing is removed
    list_out : (m : FileSystem) → Now m → (base : Node) → Stands m (permitted base (moded base.perm 0)) (Some nobody)
        → Below (permitted base (moded base.perm 0)) None
        → (rest : List Event)
        → ((to : FileSystem) → Now to → Stands to (permitted base (moded base.perm 0)) None → AtEach Sees End to rest)
        → AtEach Sees End m (SetAcl c.ino None 0 ∷ rest)
    list_out m g base s below rest k = (
      giving_shows c.ino left m g,
      λ v ok.
          let f = found m (there m (none_applies (absent_rules m c.ino) ok).0) in
          let is = s f.0 f.1 in
          let to : FileSystem = next m (SetAcl c.ino None 0) in
          let node : Node = permitted base (moded base.perm 0) in
          let q : ChangesRights m to c.ino node None =
          subst (λ (n : Node). ChangesRights m to c.ino (permitted n (moded n.perm (with_group_digit 0 n.perm.mode))) None) is.0
          (acl_removed m c.ino f.0 f.1 g.tree nobody is.1) in
          k to (given_one m to node None g q (tree_kept m g.tree (SetAcl c.ino None 0) v ok) below)
          (λ one e. (same_some one node (sym e ∙ q.node_is), q.acl_is)),
    )

    owners_put : (m : FileSystem) → Now m → (base : Node) (acl : Option Acl) (owners : Owners)
        → Stands m (permitted base (moded base.perm 0)) acl
        → Below (permitted base (moded (owned_after (Some owners) base.perm) 0)) acl
        → (rest : List Event)
        → ((to : FileSystem) → Now to → Stands to (permitted base (moded (owned_after (Some owners) base.perm) 0)) acl
        → AtEach Sees End to rest)
        → AtEach Sees End m (Chown c.ino owners.uid owners.gid ∷ rest)
    owners_put m g base acl owners s below rest k = (
      giving_shows c.ino left m g,
      λ v ok.
          let f = found m (there m (none_applies (absent_rules m c.ino) ok).0) in
          let is = s f.0 f.1 in
          let to : FileSystem = next m (Chown c.ino owners.uid owners.gid) in
          let node : Node = permitted base (moded (owned_after (Some owners) base.perm) 0) in
          let q : ChangesRights m to c.ino node acl = subst (λ (a : Option Acl). ChangesRights m to c.ino node a) is.1
          (subst (λ (n : Node). ChangesRights m to c.ino (permitted n (record n.perm { uid = owners.uid; gid = owners.gid })) (acl_of m c.ino)) is.0
          (perm_changes m c.ino f.0 f.1 (λ perm. record perm { uid = owners.uid; gid = owners.gid }))) in
          k to (given_one m to node acl g q (tree_kept m g.tree (Chown c.ino owners.uid owners.gid) v ok) below)
          (λ one e. (same_some one node (sym e ∙ q.node_is), q.acl_is)),
    )

    nothing_below : (kind : Kind) (perm other : Perm) (acl : Option Acl) → node_of after c.ino ≡ Some (node_with kind other)
        → Below (node_with kind (moded perm 0)) acl
    nothing_below kind perm other acl e one f =
        subst (λ (n : Node). (kind ≡ n.kind) × GrantsNoMore (moded perm 0) acl n.perm (acl_of after c.ino))
        (same_some (node_with kind other) one (sym e ∙ f))
        (refl, nothing_grants perm acl other (acl_of after c.ino))

    grants_below : (kind : Kind) (perm other : Perm) (acl : Option Acl) → node_of after c.ino ≡ Some (node_with kind other)
        → GrantsNoMore perm acl other (acl_of after c.ino)
        → Below (node_with kind perm) acl
    grants_below kind perm other acl e less one f =
        subst (λ (n : Node). (kind ≡ n.kind) × GrantsNoMore perm acl n.perm (acl_of after c.ino))
        (same_some (node_with kind other) one (sym e ∙ f))
        (refl, less)

    -- ---- a node that stays
    module _ (rights : RightsChange) (kept : IsKept rights c.kind c.ino before after) (shut : Bool) where
      abbrev old_list : Option Acl
      old_list = acl_of before c.ino

      abbrev owned : Perm
      owned = owned_after rights.owners kept.perm

      abbrev mode_left : ℕ
      mode_left = left_mode shut rights

      last_stage : (m : FileSystem) → Now m → (old : ℕ) → Stands m (node_with c.kind (moded owned old)) (list_after rights.list old_list)
          → (rest : List Event) → Follows rest (node_with c.kind (moded owned rights.after)) (list_after rights.list old_list)
          → AtEach Sees End m (mode_set c.ino old rights.after ++ rest)
      last_stage m g old s rest k =
          mode_given m g (node_with c.kind owned) old rights.after (list_after rights.list old_list) s
          (grants_below c.kind (moded owned rights.after) (perm_after rights kept.perm) (list_after rights.list old_list) kept.becomes
          (subst (λ (a : Option Acl). GrantsNoMore (moded owned rights.after) (list_after rights.list old_list) (perm_after rights kept.perm) a)
          (sym kept.list) (λ user want v allowed. allowed)))
          rest k

      list_stage : (list : ListChange) → rights.list ≡ list → (m : FileSystem) → Now m
          → Stands m (node_with c.kind (moded owned mode_left)) old_list
          → (rest : List Event) → Follows rest (node_with c.kind (moded owned rights.after)) (list_after rights.list old_list)
          → AtEach Sees End m (list_given c.ino list rights.after ++ (mode_set c.ino (mode_then list mode_left rights.after) rights.after ++ rest))
      list_stage Same e m g s rest k =
          last_stage m g mode_left
          (subst (λ (x : ListChange). Stands m (node_with c.kind (moded owned mode_left)) (list_after x old_list)) (sym e) s) rest k
      list_stage (Set list) e m g s rest k =
          let none : mode_left ≡ 0 = nothing_left shut rights
          (ap (λ (x : ListChange). not (is_some rights.owners) && keeps_list x) e ∙ no_classes (not (is_some rights.owners))) in
          let becomes_list : Some list ≡ acl_of after c.ino = sym (kept.list ∙ ap (λ (x : ListChange). list_after x old_list) e) in
          list_put m g (node_with c.kind owned) old_list list (group_digit rights.after)
          (subst (λ x. Stands m (node_with c.kind (moded owned x)) old_list) none s)
          (grants_below c.kind (moded owned (group_digit rights.after * 8)) (perm_after rights kept.perm) (Some list) kept.becomes
          (subst (λ (a : Option Acl). GrantsNoMore (moded owned (group_digit rights.after * 8)) (Some list) (perm_after rights kept.perm) a)
          becomes_list
          (mode_grants owned (Some list) (group_digit rights.after * 8) rights.after (mask_alone rights.after))))
          (mode_set c.ino (group_digit rights.after * 8) rights.after ++ rest)
          (λ to given stands. last_stage to given (group_digit rights.after * 8)
          (subst (λ (x : ListChange). Stands to (node_with c.kind (moded owned (group_digit rights.after * 8))) (list_after x old_list)) (sym e) stands)
          rest k)
      list_stage Removed e m g s rest k =
          let none : mode_left ≡ 0 = nothing_left shut rights
          (ap (λ (x : ListChange). not (is_some rights.owners) && keeps_list x) e ∙ no_classes (not (is_some rights.owners))) in
          list_put m g (node_with c.kind owned) old_list nobody 0 (subst (λ x. Stands m (node_with c.kind (moded owned x)) old_list) none s)
          (nothing_below c.kind owned (perm_after rights kept.perm) (Some nobody) kept.becomes)
          (SetAcl c.ino None 0 ∷ (mode_set c.ino 0 rights.after ++ rest))
          (λ to given stands. list_out to given (node_with c.kind owned) stands
          (nothing_below c.kind owned (perm_after rights kept.perm) None kept.becomes)
          (mode_set c.ino 0 rights.after ++ rest)
          (λ end last is. last_stage end last 0
          (subst (λ (x : ListChange). Stands end (node_with c.kind (moded owned 0)) (list_after x old_list)) (sym e) is) rest k))

      owners_stage : (owners : Option Owners) → rights.owners ≡ owners → (m : FileSystem) → Now m
          → Stands m (node_with c.kind (moded kept.perm mode_left)) old_list
          → (rest : List Event)
          → ((to : FileSystem) → Now to → Stands to (node_with c.kind (moded owned mode_left)) old_list → AtEach Sees End to rest)
          → AtEach Sees End m (owners_given c.ino owners ++ rest)
      owners_stage None e m g s rest k =
          k m g
          (subst (λ (o : Option Owners). Stands m (node_with c.kind (moded (owned_after o kept.perm) mode_left)) old_list) (sym e) s)
      owners_stage (Some owners) e m g s rest k =
          let none : mode_left ≡ 0 = nothing_left shut rights (ap (λ (o : Option Owners). not (is_some o) && keeps_list rights.list) e) in
          owners_put m g (node_with c.kind kept.perm) old_list owners
          (subst (λ x. Stands m (node_with c.kind (moded kept.perm x)) old_list) none s)
          (nothing_below c.kind (owned_after (Some owners) kept.perm) (perm_after rights kept.perm) old_list kept.becomes)
          rest
          (λ to given stands. k to given
          (subst (λ x. Stands to (node_with c.kind (moded owned x)) old_list) (sym none)
          (subst (λ (o : Option Owners). Stands to (node_with c.kind (moded (owned_after o kept.perm) 0)) old_list) (sym e) stands)))

      pub kept_given : (m : FileSystem) → Now m → Stands m (node_with c.kind (moded kept.perm mode_left)) old_list → (rest : List Event)
          → Follows rest (node_with c.kind (moded owned rights.after)) (list_after rights.list old_list)
          → AtEach Sees End m
          ((owners_given c.ino rights.owners ++ list_given c.ino rights.list rights.after
          ++ mode_set c.ino (mode_then rights.list mode_left rights.after) rights.after)
          ++ rest)
      kept_given m g s rest k =
          let o : List Event = owners_given c.ino rights.owners in
          let a : List Event = list_given c.ino rights.list rights.after in
          let b : List Event = mode_set c.ino (mode_then rights.list mode_left rights.after) rights.after in
          subst (λ (events : List Event). AtEach Sees End m events)
          (sym (append_assoc (o ++ a) b rest ∙ append_assoc o a (b ++ rest)))
          (owners_stage rights.owners refl m g s (a ++ (b ++ rest))
          (λ to given stands. list_stage rights.list refl to given stands rest k))

    -- ---- a node that was made
    made_stage : (perm : Perm) (list : Option Acl) → IsMade perm list c.kind c.ino before after → (shut : Bool) (m : FileSystem) → Now m
        → Stands m (node_with c.kind (first_perm shut perm list)) None
        → (rest : List Event) → Follows rest (node_with c.kind perm) list
        → AtEach Sees End m (made_given c.ino shut list perm.mode ++ rest)
    made_stage perm None made shut m g s rest k =
        mode_given m g (node_with c.kind perm) (first_mode shut None perm.mode) perm.mode None s
        (grants_below c.kind perm perm None made.becomes
        (subst (λ (a : Option Acl). GrantsNoMore perm None perm a) (sym made.list) (λ user want v allowed. allowed)))
        rest k
    made_stage perm (Some list) made shut m g s rest k =
        let nothing : first_mode shut (Some list) perm.mode ≡ 0 = ap (λ b. cond b 0 perm.mode) (first_nothing shut) in
        list_put m g (node_with c.kind perm) None list (group_digit perm.mode)
        (subst (λ x. Stands m (node_with c.kind (moded perm x)) None) nothing s)
        (grants_below c.kind (moded perm (group_digit perm.mode * 8)) perm (Some list) made.becomes
        (subst (λ (a : Option Acl). GrantsNoMore (moded perm (group_digit perm.mode * 8)) (Some list) perm a) (sym made.list)
        (mode_grants perm (Some list) (group_digit perm.mode * 8) perm.mode (mask_alone perm.mode))))
        (mode_set c.ino (group_digit perm.mode * 8) perm.mode ++ rest)
        (λ to given stands. mode_given to given (node_with c.kind perm) (group_digit perm.mode * 8) perm.mode (Some list) stands
        (grants_below c.kind perm perm (Some list) made.becomes
        (subst (λ (a : Option Acl). GrantsNoMore perm (Some list) perm a) (sym made.list) (λ user want v allowed. allowed)))
        rest k)

  -- ---- all changes
  true_of : (c : Change) → Has c batch.changes → IsTrueOf before after c
  true_of c h = truth law batch before after l uid u End c h

  -- no change is of node 2, so of each is said something
  begun : (c : Change) (left : List Change) (m : FileSystem) → Giving 2 (c ∷ left) m → Giving c.ino left m
  begun c left m g = record {
    tree = g.tree;
    part = g.part;
    users = g.users;
    ready = λ d i node f. g.ready d (inr i) node f;
    rest = g.rest;
    back = g.back;
    set = λ d i n.
        ⊎_elim
        (λ q. ⊎_elim (λ e. absurd (n (ap (λ (x : Change). x.ino) (sym e)))) (λ r. inl r) q)
        (λ s. inr s)
        (g.set d i (true_of d i).apart);
  }

  done : (c : Change) → Has c batch.changes → (left : List Change) (m : FileSystem) → Giving c.ino left m → IsSet m c → Giving 2 left m
  done c h left m g s = record {
    tree = g.tree;
    part = g.part;
    users = g.users;
    ready = g.ready;
    rest = g.rest;
    back = g.back;
    set = λ d i n.
        elim (d.ino == c.ino) as (λ b. (d.ino == c.ino) ≡ b → Has d left ⊎ IsSet m d) [
          | true ↦ λ e.
              inr (subst (λ (x : Change). IsSet m x) (one_change law batch before after l uid u End c d h i (sym (eqb-true d.ino c.ino e))) s)
          | false ↦ λ e. g.set d i (eqb-false d.ino c.ino e)
        ] refl;
  }

  not_gone : (c : Change) → node_of after c.ino ≡ None → is_there after c.ino ≡ true → ⊥
  not_gone c e t =
      let none : is_there after c.ino ≡ false = ap is_some e in
      let there : is_there after c.ino ≡ true = t in
      cc

  left_stands : (rights : RightsChange) (other : Bool) (kind : Kind) (ino : ℕ) (shut : Bool) (kept : IsKept rights kind ino before after) (node : Node)
      → LeftBy before after (Stays rights other) kind ino shut node
      → node ≡ node_with kind (moded kept.perm (left_mode shut rights))
  left_stands rights other kind ino shut kept node i =
      let same : i.0 ≡ kept.perm = ap (λ (n : Node). n.perm) (same_some (node_with kind i.0) (node_with kind kept.perm) (sym i.1 ∙ kept.was)) in
      i.2 ∙ ap (λ (p : Perm). node_with kind (moded p (left_mode shut rights))) same

  give_one : (c : Change) → Has c batch.changes → (left : List Change) → ((d : Change) → Has d left → d.ino ≢ c.ino) → (m : FileSystem)
      → Giving 2 (c ∷ left) m
      → (rest : List Event) → ((to : FileSystem) → Giving 2 left to → AtEach Sees End to rest)
      → AtEach Sees End m (given (groups_change batch) c ++ rest)
  give_one c h left apart m g rest k =
      let shut : Bool = closed law batch before after l uid u End c in
      let less : Giving c.ino left m = begun c left m g in
      let ready : (node : Node) → node_of m c.ino ≡ Some node → Ready m c node = g.ready c (inl refl) in
      elim c.fate as
      (λ f. HasFate f c.kind c.ino before after
      → ((node : Node) → node_of m c.ino ≡ Some node → ReadyBy law batch before after l uid u End f c.kind c.ino shut node (acl_of m c.ino))
      → AtEach Sees End m (given_from c.ino shut f ++ rest)) [
        | Stays rights other ↦ λ kept r.
            kept_given c h left apart rights kept shut m less
            (λ one e. (left_stands rights other c.kind c.ino shut kept one (r one e).0, (r one e).1)) rest
            (λ to given stands. k to
            (done c h left to given
            (λ t one e. let z = stands one e in (kept.becomes ∙ ap Some (sym z.0), z.1 ∙ sym kept.list))))
        | Made perm list ↦ λ made r. made_stage c h left apart perm list made shut m less (λ one e. r one e) rest
            (λ to given stands. k to
            (done c h left to given
            (λ t one e. let z = stands one e in (made.becomes ∙ ap Some (sym z.0), z.1 ∙ sym made.list))))
        | Goes ↦ λ f r. k m (done c h left m less (λ t one e. absurd (not_gone c f t)))
      ] (true_of c h).fate ready

  module _ (finish : (fs : FileSystem) → Giving 2 [] fs → End fs) where
    give_all : (left : List Change) → AreApart left → ((c : Change) → Has c left → Has c batch.changes) → (m : FileSystem) → Giving 2 left m
        → AtEach Sees End m (flat_map (given (groups_change batch)) left)
    give_all [] a sub m g = finish m g
    give_all (c ∷ left) a sub m g =
        give_one c (sub c (inl refl)) left (λ d i. all_has (λ (o : Change). o.ino ≢ c.ino) d left a.0 i) m g
        (flat_map (given (groups_change batch)) left)
        (λ to next_one. give_all left a.1 (λ d i. sub d (inr i)) to next_one)

    pub rights_given : (m : FileSystem) → Coming law batch before after l uid u End m → Back law batch before after l uid u End m
        → AtEach Sees End m (tail_of batch)
    rights_given m coming back =
        give_all batch.changes l.apart (λ c h. h) m
        (record {
          tree = coming.tree;
          part = coming.part;
          users = coming.users;
          ready = λ c h node f. coming.ready c h node f;
          rest = coming.rest;
          back = back;
          set = λ c h n. inl h;
        })
