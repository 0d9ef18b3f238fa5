-- From the middle on: names come, and nobody finds more than after the batch.
use Rattle.std.proofs.Common.{◌≡◌, ◌≢◌, ℕ, ◌<◌, ◌^◌, List, [], ◌∷◌, refl, ap, sym, ◌∙◌, subst, Bool, true, false, inl, inr, ⊎_elim}
use Rattle.std.specs.Prelude.{◌⊎◌, ◌&&◌, ◌||◌, ◌==◌, Option, None, Some, is_some, decimal}
use Rattle.std.specs.List.{AllByRecursion}
use Rattle.std.proofs.lemmas.Bool.{and_parts}
use borrow.Author.Tests.{eqb-true, eq-eqb}
use Rattle.wu_access.specs.declared.acls.Acl.{Acl}
use Rattle.wu_access.specs.declared.Perm.{Perm}
use Rattle.wu_access.specs.declared.UserRec.{UserRec}
use Rattle.wu_access.specs.declared.Want.TheVariants.{Read}
use Rattle.wu_access.specs.Access.{IsDecidedByCases, is_allowed}
use Rattle.wu_tree.specs.declared.events.Event.{Event}
use Rattle.wu_tree.specs.declared.events.Kind.{Kind}
use Rattle.wu_tree.specs.declared.events.Node.{Node}
use Rattle.wu_tree.specs.FileSystems.{FileSystem, acl_of, node_of, child_of, groups_of, is_file, is_file_node}
use Rattle.wu_tree.specs.Rules.{IsTree}
use Rattle.wu_tree.specs.Steps.{next}
use Rattle.wu_base.proofs.Members.{Has, Has-from_Contains, any_has, has_any}
use Rattle.wu_mirror.specs.declared.batches.Batch.{Batch}
use Rattle.wu_mirror.specs.declared.batches.Change.{Change}
use Rattle.wu_mirror.specs.declared.batches.Fate.{Fate}
use Rattle.wu_mirror.specs.declared.batches.Fate.TheVariants.{Stays, Made, Goes}
use Rattle.wu_mirror.specs.declared.batches.Place.{Place}
use Rattle.wu_mirror.specs.Searches.{GrantsNoMore}
use Rattle.wu_mirror.specs.Plans.{first_perm, groups_change}
use Rattle.wu_view.specs.Views.{may, user_with}
use Rattle.wu_mirror.specs.Moments.{AtEach, FindsNoMore, FindsNoNewText, GoesFrom, HasFate, IsText, IsTrueOf, LeadsTo}
use Rattle.wu_mirror.specs.Moments.{is_told, node_with}
use Rattle.wu_mirror.proofs.RightsLess.{moded, nothing_allowed}
use Rattle.wu_mirror.proofs.Lookups.{same_some}
use Rattle.wu_mirror.proofs.Parts.{IsPartOf, granted_node, shows_after}
use Rattle.wu_mirror.proofs.ViewGrowth.{search_path}
use Rattle.wu_mirror.proofs.TakingRights.{LeftBy, left_below_after}
use Rattle.wu_mirror.proofs.Taking.{shut, truth}
use Rattle.wu_mirror.proofs.Removing.{Held}

module _ (law : IsDecidedByCases) (batch : Batch) (before after : FileSystem) (l : LeadsTo batch before after) (uid : ℕ) (u : uid ≢ 0)
    (End : FileSystem → Type 0) where
  abbrev Sees : FileSystem → Type 0
  Sees fs = FindsNoMore uid fs after × FindsNoNewText batch.changes uid fs

  abbrev pub closed : Change → Bool
  closed c = shut law batch before after l uid u End c

  -- how a node stands until the rights are given
  abbrev pub ReadyBy : Fate → Kind → ℕ → Bool → Node → Option Acl → Type 0
  ReadyBy (Stays rights has_other_name) kind ino shut node acl =
      LeftBy before after (Stays rights has_other_name) kind ino shut node × (acl ≡ acl_of before ino)
  ReadyBy (Made perm list) kind ino shut node acl = (node ≡ node_with kind (first_perm shut perm list)) × (acl ≡ None)
  ReadyBy Goes kind ino shut node acl = Unit {0}

  abbrev pub IsReady : FileSystem → Change → Node → Type 0
  IsReady m c node = ReadyBy c.fate c.kind c.ino (closed c) node (acl_of m c.ino)

  pub record Coming (m : FileSystem) : Type 0 where
    pub tree : IsTree m
    pub part : IsPartOf m after
    pub users : m.users ≡ after.users
    pub stays : (d : ℕ) (n : List ℕ) (x : ℕ) → d ≢ 2 → child_of before d n ≡ Some x → (GoesFrom batch.changes d n → ⊥) → child_of m d n ≡ Some x
    pub rest : (q : ℕ) (node : Node) → is_told batch.changes q ≡ false → node_of m q ≡ Some node
        → (node_of before q ≡ Some node) × (acl_of m q ≡ acl_of before q)
    pub aside : (k x : ℕ) → k < 2 ^ 32 → child_of m 2 (decimal k) ≡ Some x → x ≡ k
    pub ready : (c : Change) → Has c batch.changes → (node : Node) → node_of m c.ino ≡ Some node → IsReady m c node

  true_of : (c : Change) → Has c batch.changes → IsTrueOf before after c
  true_of c h = truth law batch before after l uid u End c h

  finds : (m : FileSystem) → Coming m → FindsNoMore uid m after
  finds m c = shows_after law before after l.from l.to l.closed_before l.closed_after uid u m c.tree c.part c.users

  -- a file that is given a text lets nobody read until then
  shut_by : (fate : Fate) (kind : Kind) (ino : ℕ) → HasFate fate kind ino before after → (node : Node) (acl : Option Acl)
      → ReadyBy fate kind ino true node acl
      → (fate ≡ Goes) ⊎ ((perm : Perm) × (node.perm ≡ moded perm 0))
  shut_by (Stays rights has_other_name) kind ino f node acl r = inr (r.0.0, ap (λ (n : Node). n.perm) r.0.2)
  shut_by (Made perm list) kind ino f node acl r = inr (perm, ap (λ (n : Node). n.perm) r.0)
  shut_by Goes kind ino f node acl r = inl refl

  no_text : (m : FileSystem) → Coming m → FindsNoNewText batch.changes uid m
  no_text m coming c path i text found =
      let h : Has c batch.changes = Has-from_Contains c batch.changes i in
      let user : UserRec = user_with uid (groups_of m uid) in
      let s = search_path law m coming.tree uid path c.ino found in
      let b = and_parts (is_file m c.ino) (may m user Read c.ino) s.0 in
      let g = granted_node user Read (acl_of m c.ino) (node_of m c.ino) b.1 in
      let shut_now : closed c ≡ true = ap (λ (x : Bool). x || (c.ino == 1 && groups_change batch)) text in
      let ready : ReadyBy c.fate c.kind c.ino true g.0 (acl_of m c.ino) =
      subst (λ (x : Bool). ReadyBy c.fate c.kind c.ino x g.0 (acl_of m c.ino)) shut_now (coming.ready c h g.0 g.1) in
      ⊎_elim
      (λ e.
      let gone : node_of after c.ino ≡ None = subst (λ (f : Fate). HasFate f c.kind c.ino before after) e (true_of c h).fate in
      let there = search_path law after l.to uid path c.ino (finds m coming path c.ino found) in
      let readable = and_parts (is_file after c.ino) (may after (user_with uid (groups_of after uid)) Read c.ino) there.0 in
      let file : is_file_node None ≡ true = subst (λ o. is_file_node o ≡ true) gone readable.0 in
      cc)
      (λ p.
      let allowed : is_allowed user (moded p.0 0) (acl_of m c.ino) Read ≡ true =
      subst (λ (q : Perm). is_allowed user q (acl_of m c.ino) Read ≡ true) p.1 g.2 in
      let none : is_allowed user (moded p.0 0) (acl_of m c.ino) Read ≡ false = nothing_allowed p.0 (acl_of m c.ino) user Read u in
      cc)
      (shut_by c.fate c.kind c.ino (true_of c h).fate g.0 (acl_of m c.ino) ready)

  pub coming_shows : (m : FileSystem) → Coming m → Sees m
  coming_shows m c = (finds m c, no_text m c)

  -- ---- the middle
  abbrev pub NamesGone : FileSystem → Type 0
  NamesGone m = (c : Change) (place : Place) → Has c batch.changes → Has place c.going → child_of m place.parent place.name ≡ None

  pub told : (q : ℕ) → is_told batch.changes q ≡ true → (c : Change) × Has c batch.changes × (c.ino ≡ q)
  told q h = let r = any_has (λ (c : Change). c.ino == q) batch.changes h in (r.0, r.1.0, eqb-true r.0.ino q r.1.1)

  pub untold : (q : ℕ) → is_told batch.changes q ≡ false → (c : Change) → Has c batch.changes → c.ino ≡ q → ⊥
  untold q n c h e = let t : is_told batch.changes q ≡ true = has_any (λ (c : Change). c.ino == q) c batch.changes h (eq-eqb c.ino q e) in cc

  middle_nodes : (m : FileSystem) → Held law batch before after l uid u End m → (q : ℕ) (node other : Node) → node_of m q ≡ Some node
      → node_of after q ≡ Some other
      → (node.kind ≡ other.kind) × GrantsNoMore node.perm (acl_of m q) other.perm (acl_of after q)
  middle_nodes m held q node other h g =
      elim (is_told batch.changes q) as
      (λ b. is_told batch.changes q ≡ b → (node.kind ≡ other.kind) × GrantsNoMore node.perm (acl_of m q) other.perm (acl_of after q)) [
        | true ↦ λ e.
            let t = told q e in
            let c = t.0 in
            subst (λ x. (node.kind ≡ other.kind) × GrantsNoMore node.perm (acl_of m x) other.perm (acl_of after x)) t.2
            (left_below_after before after c.fate c.kind c.ino (closed c) (true_of c t.1).fate (acl_of m c.ino)
            (held.nodes.lists c.ino node (ap (node_of m) t.2 ∙ h)) node other (held.done c t.1 node (ap (node_of m) t.2 ∙ h))
            (ap (node_of after) t.2 ∙ g))
        | false ↦ λ e.
            let stays = l.nodes q e (ap is_some g) in
            ⊎_elim
            (λ s.
            let same : node ≡ other = same_some node other (sym s ∙ sym stays.0 ∙ g) in
            let lists : acl_of m q ≡ acl_of after q = held.nodes.lists q node h ∙ sym stays.1 in
            subst (λ (n : Node). (node.kind ≡ n.kind) × GrantsNoMore node.perm (acl_of m q) n.perm (acl_of after q)) same
            (subst (λ (a : Option Acl). (node.kind ≡ node.kind) × GrantsNoMore node.perm (acl_of m q) node.perm a) lists
            (refl, λ user want v allowed. allowed)))
            (λ a. absurd (untold q e a.0 a.1 a.2))
            (held.nodes.rights q node h)
      ] refl

  ready_by : (fate : Fate) (kind : Kind) (ino : ℕ) (shut : Bool) → HasFate fate kind ino before after → (node : Node) (acl : Option Acl)
      → LeftBy before after fate kind ino shut node → acl ≡ acl_of before ino → ReadyBy fate kind ino shut node acl
  ready_by (Stays rights has_other_name) kind ino shut f node acl i e = (i, e)
  ready_by (Made perm list) kind ino shut f node acl i e = absurd (let a : None ≡ Some node = sym f.was ∙ i in cc)
  ready_by Goes kind ino shut f node acl i e = tt

  pub from_middle : (m : FileSystem) → Held law batch before after l uid u End m → NamesGone m → Coming m
  from_middle m held gone = record {
    tree = held.tree;
    part = record {
      names = λ d n x apart h.
          ⊎_elim (λ a. a)
          (λ g.
          let c = g.0 in
          let place = g.1 in
          let none : child_of m place.parent place.name ≡ None = gone c place (Has-from_Contains c batch.changes g.2)
          (Has-from_Contains place c.going g.3) in
          let there : child_of m place.parent place.name ≡ Some x = subst (λ (k : ℕ). child_of m k place.name ≡ Some x) (sym g.4)
          (subst (λ (k : List ℕ). child_of m d k ≡ Some x) (sym g.5) h) in
          absurd cc)
          (l.names d n x apart (held.names d n x apart h));
      nodes = middle_nodes m held;
    };
    users = held.users;
    stays = held.stays;
    rest = λ q node n h. (⊎_elim (λ s. s) (λ a. absurd (untold q n a.0 a.1 a.2)) (held.nodes.rights q node h), held.nodes.lists q node h);
    aside = held.aside;
    ready = λ c h node g.
        ready_by c.fate c.kind c.ino (closed c) (true_of c h).fate node (acl_of m c.ino) (held.done c h node g) (held.nodes.lists c.ino node g);
  }

  -- texts leave the file system as it is
  pub texts_given : (texts : List Event) → AllByRecursion IsText texts → (m : FileSystem) → Coming m → End m → AtEach Sees End m texts
  texts_given [] a m coming end = end
  texts_given (event ∷ texts) a m coming end = (
    coming_shows m coming,
    λ v ok. subst (λ (x : Event). AtEach Sees End (next m x) texts) (sym a.0.1) (texts_given texts a.1 m coming end),
  )
