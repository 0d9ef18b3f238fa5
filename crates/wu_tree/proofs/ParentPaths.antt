-- What a change of the links leaves true of the nodes that it doesn't touch.
use Rattle.std.proofs.Common.{◌≡◌, ◌≢◌, ℕ, zero, suc, ◌+◌, ◌-◌, ◌<◌, ◌≤◌, List, [], ◌∷◌, length, refl, ap, sym, ◌∙◌, subst, Bool, true}
use Rattle.std.proofs.Common.{false, cond, not, ◌||◌, arith, inl, inr, ⊎_elim}
use Rattle.std.specs.Prelude.{Option, None, Some, is_some, IfSome, ◌==◌}
use Rattle.std.specs.Ordering.{is_eq, nat_cmp, match_ordering}
use Rattle.std.specs.declared.cmp.Ordering.TheVariants.{Less, Equal, Greater}
use Rattle.std.specs.Cmp.Lexicographic.{slice_cmp}
use Rattle.std.specs.Cmp.{IsTotalOrder, nat_cmp_total, then_total, on_total, eq_by_cmp_equiv}
use Rattle.std.specs.List.{AllByRecursion, list_any}
use Rattle.std.specs.Map.{lookup, remove_entry}
use Rattle.std.specs.BTreeMap.{is_at, insert_entry}
use Rattle.std.proofs.lemmas.Map.{NonePasses}
use Rattle.std.proofs.lemmas.Cmp.{nat_list_cmp_total}
use Rattle.std.proofs.lemmas.Map.Lookups.{exact_unsigned, exact_bytes, exact_pairs, CmpEqualImpliesEq}
use borrow.Author.Tests.{eqb-true, eq-eqb, ne_eqb}
use Rattle.wu_tree.specs.declared.events.Kind.{Kind}
use Rattle.wu_tree.specs.declared.events.Kind.TheVariants.{Directory, File}
use Rattle.wu_tree.specs.declared.events.Node.{Node}
use Rattle.wu_tree.specs.Inodes.{IsHeld}
use Rattle.wu_tree.specs.declared.inodes.Hold.{Hold}
use Rattle.wu_tree.specs.declared.inodes.Hold.TheVariants.{Entries, Links}
use Rattle.wu_tree.specs.FileSystems.{FileSystem, IsLeaf, Place, Link, place_cmp, is_directory, is_directory_node, is_kind_file, is_there}
use Rattle.wu_tree.specs.FileSystems.{node_of, is_within, link_count, parent_of, has_entries, ancestors, path_up, above, depth}
use Rattle.wu_tree.specs.Rules.{IsLink, Hangs, IsTree}
use Rattle.wu_base.proofs.MapEntries.{counted-insert_entry, counted-remove_entry, counted-cons, is_equal, All-found, All-map}

-- ---- the order of places
pub place_total : IsTotalOrder place_cmp
place_total = then_total (on_total (λ p. p.0) nat_cmp_total) (on_total (λ p. p.1) nat_list_cmp_total)

pub place_exact : CmpEqualImpliesEq place_cmp
place_exact = exact_pairs nat_cmp (slice_cmp nat_cmp) exact_unsigned exact_bytes

pub place_itself : (k : Place) → is_eq (place_cmp k k) ≡ true
place_itself k = (eq_by_cmp_equiv place_total).refl k

pub same_number : (a b : ℕ) → is_eq (nat_cmp a b) ≡ true → a ≡ b
same_number a b h = exact_unsigned a b (is_equal _ h)

pub other_number : (a b : ℕ) → a ≢ b → is_eq (nat_cmp a b) ≡ false
other_number a b h = elim (is_eq (nat_cmp a b)) as
    (λ v. is_eq (nat_cmp a b) ≡ v → v ≡ false) [ true ↦ λ p. absurd (h (same_number a b p)) | false ↦ λ p. refl ] refl

-- ---- parents
module _ (P : Link → Type 0) where
  pub parent_found : (links : List Link) (ino parent : ℕ) → AllByRecursion P links → parent_of links ino ≡ Some parent
      → (name : List ℕ) × P ((parent, name), ino)
  parent_found [] ino parent a h = absurd cc
  parent_found (l ∷ links) ino parent a h =
      elim (l.1 == ino) as
      (λ b. (l.1 == ino) ≡ b → cond b (Some l.0.0) (parent_of links ino) ≡ Some parent → (name : List ℕ) × P ((parent, name), ino)) [
        | true ↦ λ p q.
            let child : l.1 ≡ ino = eqb-true l.1 ino p in
            let directory : l.0.0 ≡ parent = cc in
            (l.0.1, subst (λ x. P ((x, l.0.1), ino)) directory (subst (λ x. P ((l.0.0, l.0.1), x)) child a.0))
        | false ↦ λ p q. parent_found links ino parent a.1 q
      ] refl h

cond_none : {T : Type 0} (b : Bool) (x : T) (o : Option T) → cond b (Some x) o ≡ None → (b ≡ false) × (o ≡ None)
cond_none true x o h = absurd cc
cond_none false x o h = (refl, h)

pub parent-insert_other : (links : List Link) (k : Place) (v q : ℕ) → NonePasses (is_at (place_cmp k)) links → q ≢ v
    → parent_of (insert_entry place_cmp links k v) q ≡ parent_of links q
parent-insert_other [] k v q n h = rw (ne_eqb v q (λ e. h (sym e))) refl
parent-insert_other (l ∷ links) k v q n h =
    elim (place_cmp k l.0) as
    (λ o. place_cmp k l.0 ≡ o
    → parent_of (match_ordering o ((k, v) ∷ l ∷ links) ((l.0, v) ∷ links) (l ∷ insert_entry place_cmp links k v)) q
    ≡ cond (l.1 == q) (Some l.0.0) (parent_of links q)) [
      | Less ↦ λ p. rw (ne_eqb v q (λ e. h (sym e))) refl
      | Equal ↦ λ p. absurd (let f : is_eq (place_cmp k l.0) ≡ true = ap is_eq p in let g : is_eq (place_cmp k l.0) ≡ false = n.0 in cc)
      | Greater ↦ λ p. ap (λ (o : Option ℕ). cond (l.1 == q) (Some l.0.0) o) (parent-insert_other links k v q n.1 h)
    ] refl

pub parent-remove_other : (t : Place → Bool) (links : List Link) (v q : ℕ) → lookup t links ≡ Some v → q ≢ v
    → parent_of (remove_entry t links) q ≡ parent_of links q
parent-remove_other t [] v q f h = refl
parent-remove_other t (l ∷ links) v q f h =
    elim (t l.0) as
    (λ b. cond b (Some l.1) (lookup t links) ≡ Some v
    → parent_of (cond b links (l ∷ remove_entry t links)) q ≡ parent_of (l ∷ links) q) [
      | true ↦ λ p. let same : l.1 ≡ v = cc in rw (ne_eqb l.1 q (λ e. h (sym e ∙ same))) refl
      | false ↦ λ p. ap (λ (o : Option ℕ). cond (l.1 == q) (Some l.0.0) o) (parent-remove_other t links v q p h)
    ] f

pub parent-insert_new : (links : List Link) (k : Place) (v : ℕ) → NonePasses (is_at (place_cmp k)) links → parent_of links v ≡ None
    → parent_of (insert_entry place_cmp links k v) v ≡ Some k.0
parent-insert_new [] k v n h = rw (eq-eqb v v refl) refl
parent-insert_new (l ∷ links) k v n h =
    elim (place_cmp k l.0) as
    (λ o. place_cmp k l.0 ≡ o
    → parent_of (match_ordering o ((k, v) ∷ l ∷ links) ((l.0, v) ∷ links) (l ∷ insert_entry place_cmp links k v)) v ≡ Some k.0) [
      | Less ↦ λ p. rw (eq-eqb v v refl) refl
      | Equal ↦ λ p. absurd (let f : is_eq (place_cmp k l.0) ≡ true = ap is_eq p in let g : is_eq (place_cmp k l.0) ≡ false = n.0 in cc)
      | Greater ↦ λ p. let c = cond_none (l.1 == v) l.0.0 (parent_of links v) h in rw c.0 (parent-insert_new links k v n.1 c.1)
    ] refl

-- ---- a change of the links of node x alone, below which no link stands
pub record SameElsewhere (before after : List Link) (x : ℕ) : Type 0 where
  pub parents : (q : ℕ) → q ≢ x → parent_of after q ≡ parent_of before q
  pub counts : (q : ℕ) → q ≢ x → link_count after q ≡ link_count before q
  pub leaf : AllByRecursion (λ l. l.0.0 ≢ x) before

pub same_elsewhere_insert : (links : List Link) (k : Place) (x : ℕ) → NonePasses (is_at (place_cmp k)) links
    → AllByRecursion (λ l. l.0.0 ≢ x) links
    → SameElsewhere links (insert_entry place_cmp links k x) x
same_elsewhere_insert links k x n h = record {
  parents = λ q d. parent-insert_other links k x q n d;
  counts = λ q d. let c : cond {A = ℕ} (x == q) 1 0
      ≡ 0 = rw (ne_eqb x q (λ e. d (sym e))) refl in omega (arith, counted-insert_entry (λ v. v == q) place_cmp links k x n);
  leaf = h;
}

pub same_elsewhere_remove : (t : Place → Bool) (links : List Link) (x : ℕ) → lookup t links ≡ Some x → AllByRecursion (λ l. l.0.0 ≢ x) links
    → SameElsewhere links (remove_entry t links) x
same_elsewhere_remove t links x f h = record {
  parents = λ q d. parent-remove_other t links x q f d;
  counts = λ q d. let c : cond {A = ℕ} (x == q) 1 0
      ≡ 0 = rw (ne_eqb x q (λ e. d (sym e))) refl in omega (arith, counted-remove_entry (λ v. v == q) t links x f);
  leaf = h;
}

module _ {before after : List Link} {x : ℕ} (a : SameElsewhere before after x) where
  pub same_ancestors : (n q : ℕ) → q ≢ x → ancestors after n q ≡ ancestors before n q
  unfolding ancestors
  same_ancestors zero q h = refl
  same_ancestors (suc n) q h =
      rw (a.parents q h)
      (elim (parent_of before q) as
      (λ o. parent_of before q ≡ o
      → q ∷ cond (q == 1) [] (above (ancestors after n) o) ≡ q ∷ cond (q == 1) [] (above (ancestors before n) o)) [
        | None ↦ λ p. refl
        | Some parent ↦ λ p. ap (λ (l : List ℕ). q ∷ cond (q == 1) [] l)
            (same_ancestors n parent (parent_found (λ l. l.0.0 ≢ x) before q parent a.leaf p).1)
      ] refl)

  pub same_path : (q : ℕ) → q ≢ x → path_up after q ≡ path_up before q
  unfolding path_up
  same_path q h = same_ancestors 255 q h

  pub same_hangs : (q : ℕ) (k : Kind) → q ≢ x → Hangs before q k → Hangs after q k
  same_hangs q Directory h g = ⊎_elim (λ e. inl e) (λ p. inr (a.counts q h ∙ p.0, rw (same_path q h) p.1)) g
  same_hangs q File h g = rw (a.counts q h) g

  pub same_held : (q : ℕ) (hold : Hold) → q ≢ x → IsHeld before q hold → IsHeld after q hold
  same_held q (Entries parent) h g = ⊎_elim (λ e. inl e) (λ p. inr (a.parents q h ∙ p)) g
  same_held q (Links count) h g = a.counts q h ∙ g

-- ---- nodes without links, and directories without entries
pub count_none : (links : List Link) (x : ℕ) → AllByRecursion (λ l. l.1 ≢ x) links → link_count links x ≡ 0
count_none [] x a = refl
count_none (l ∷ links) x a = let c : cond {A = ℕ} (l.1 == x) 1 0
    ≡ 0 = rw (ne_eqb l.1 x a.0) refl in omega (arith, counted-cons (λ v. v == x) l links, count_none links x a.1)

pub none_counted : (links : List Link) (x : ℕ) → link_count links x ≡ 0 → AllByRecursion (λ l. l.1 ≢ x) links
none_counted [] x h = tt
none_counted (l ∷ links) x h = (
  λ e. let c : cond {A = ℕ} (l.1 == x) 1 0
      ≡ 1 = rw (eq-eqb l.1 x e) refl in absurd (omega (arith, counted-cons (λ v. v == x) l links)),
  none_counted links x
      (omega (arith, counted-cons (λ v. v == x) l links)),
)

pub no_parent : (links : List Link) (x : ℕ) → AllByRecursion (λ l. l.1 ≢ x) links → parent_of links x ≡ None
no_parent [] x a = refl
no_parent (l ∷ links) x a = rw (ne_eqb l.1 x a.0) (no_parent links x a.1)

later : (a b : Bool) → (a || b) ≡ false → b ≡ false
later true b h = absurd cc
later false b h = h

pub no_entries : (links : List Link) (x : ℕ) → has_entries links x ≡ false → AllByRecursion (λ l. l.0.0 ≢ x) links
no_entries [] x h = tt
no_entries (l ∷ links) x h =
    (λ e. let f : true ≡ false = rw (eq-eqb l.0.0 x e) at h in cc, no_entries links x (later (l.0.0 == x) (has_entries links x) h))

-- where a node isn't there, or is no directory
module _ (fs : FileSystem) (links : List Link) (a : AllByRecursion (IsLink fs) links) (x : ℕ) where
  pub absent_child : node_of fs x ≡ None → AllByRecursion (λ l. l.1 ≢ x) links
  absent_child h = All-map (IsLink fs) (λ l. l.1 ≢ x) links
      (λ l p e. let f : is_there fs x ≡ true = subst (λ v. is_there fs v ≡ true) e p.child in let g : is_there fs x
      ≡ false = ap is_some h in cc) a

  pub absent_directory : is_directory fs x ≡ false → AllByRecursion (λ l. l.0.0 ≢ x) links
  absent_directory h = All-map (IsLink fs) (λ l. l.0.0 ≢ x) links
      (λ l p e. let f : is_directory fs x ≡ true = subst (λ v. is_directory fs v ≡ true) e p.parent in cc) a

-- ---- the way up, cut where the root was met
pub shorter : (links : List Link) (n q : ℕ) → length (ancestors links (suc n) q) ≤ n → ancestors links n q ≡ ancestors links (suc n) q
unfolding ancestors
shorter links zero q h = absurd (omega arith)
shorter links (suc n) q h =
    elim (q == 1) as (λ b. length (cond b [] (above (ancestors links (suc n)) (parent_of links q))) ≤ n
    → q ∷ cond b [] (above (ancestors links n) (parent_of links q)) ≡ q ∷ cond b [] (above (ancestors links (suc n)) (parent_of links q))) [
      | true ↦ λ p. refl
      | false ↦ λ p. ap (λ (l : List ℕ). q ∷ l)
          (elim (parent_of links q) as
          (λ o. length (above (ancestors links (suc n)) o) ≤ n → above (ancestors links n) o ≡ above (ancestors links (suc n)) o) [
            | None ↦ λ g. refl
            | Some parent ↦ λ g. shorter links n parent g
          ] p)
    ] (omega arith)

pub path_is : (links : List Link) (q : ℕ) → path_up links q ≡ ancestors links 255 q
unfolding path_up
path_is links q = refl

pub path_below : (links : List Link) (q parent : ℕ) → q ≢ 1 → parent_of links q ≡ Some parent
    → path_up links q ≡ q ∷ ancestors links 254 parent
unfolding path_up ancestors
path_below links q parent h p = rw (ne_eqb q 1 h, p) refl

-- the way up of a directory whose parent lies less deep than a directory may
pub path_of_child : (links : List Link) (q parent : ℕ) → q ≢ 1 → parent_of links q ≡ Some parent → depth links parent < 255
    → path_up links q ≡ q ∷ path_up links parent
path_of_child links q parent h p d =
    let e : length (ancestors links 255 parent) < 255 = subst (λ (l : List ℕ). length l < 255) (path_is links parent) d in
    path_below links q parent h p ∙ ap (λ (l : List ℕ). q ∷ l) (shorter links 254 parent (omega arith) ∙ sym (path_is links parent))

-- ---- each directory is reached from the root
pub path_of_root : (links : List Link) → path_up links 1 ≡ 1 ∷ []
unfolding path_up ancestors
path_of_root links = refl

pub hung_directory : (links : List Link) (q : ℕ) (k : Kind) → not (is_kind_file k) ≡ true → Hangs links q k → is_within links 1 q ≡ true
hung_directory links q Directory h g = ⊎_elim (λ e. subst (λ x. is_within links 1 x ≡ true) (sym e) (rw (path_of_root links) refl))
    (λ p. p.1) g
hung_directory links q File h g = absurd cc

pub directory_found : (o : Option Node) → is_directory_node o ≡ true
    → (node : Node) × (o ≡ Some node) × (not (is_kind_file node.kind) ≡ true)
directory_found None h = absurd cc
directory_found (Some node) h = (node, refl, h)

pub reached : (fs : FileSystem) → IsTree fs → (q : ℕ) → is_directory fs q ≡ true → is_within fs.links 1 q ≡ true
reached fs t q h =
    let d = directory_found (node_of fs q) h in
    let f = All-found (λ e. Hangs fs.links e.0 e.1.kind) (is_at (nat_cmp q)) fs.nodes d.0 t.nodes d.1 in
    let e : f.0 ≡ q = sym (same_number q f.0 f.1) in
    hung_directory fs.links q d.0.kind d.2 (subst (λ x. Hangs fs.links x d.0.kind) e f.2)

-- a node with a link is there, and isn't the root
pub linked : (fs : FileSystem) (links : List Link) (x : ℕ) → AllByRecursion (IsLink fs) links → 1 ≤ link_count links x
    → (is_there fs x ≡ true) × (x ≢ 1)
linked fs [] x a h = absurd (omega arith)
linked fs (l ∷ links) x a h =
    elim (l.1 == x) as (λ b. (l.1 == x) ≡ b → (is_there fs x ≡ true) × (x ≢ 1)) [
      | true ↦ λ p. let e : l.1 ≡ x = eqb-true l.1 x p in (subst (λ v. is_there fs v ≡ true) e a.0.child, λ r. a.0.no_root (e ∙ r))
      | false ↦ λ p. let c : cond {A = ℕ} (l.1 == x) 1 0
          ≡ 0 = rw p refl in linked fs links x a.1 (omega (arith, counted-cons (λ v. v == x) l links))
    ] refl

-- a leaf has no link below it
pub leaf_links : (fs : FileSystem) → IsTree fs → (x : ℕ) → IsLeaf fs x → AllByRecursion (λ l. l.0.0 ≢ x) fs.links
leaf_links fs t x h = ⊎_elim (λ e. absent_directory fs fs.links t.links x e) (λ e. no_entries fs.links x e) h

-- ---- a climb to the root, where m directories are left at most
abbrev pub has_root : List ℕ → Bool
has_root path = list_any (λ ino. ino == 1) path

pub climb : (links : List Link) (m d parent : ℕ) → has_root (ancestors links m d) ≡ true → d ≢ 1 → parent_of links d ≡ Some parent
    → (length (ancestors links m d) ≡ length (ancestors links (m - 1) parent) + 1) × (has_root (ancestors links (m - 1) parent) ≡ true)
unfolding ancestors
climb links zero d parent h r p = absurd cc
climb links (suc n) d parent h r p =
    let e : n ≡ suc n - 1 = omega arith in
    let a : ancestors links (suc n) d ≡ d ∷ ancestors links n parent = rw (ne_eqb d 1 r, p) refl in
    let g : has_root (ancestors links n parent) ≡ true = rw (ne_eqb d 1 r, p) at h in
    subst (λ (k : ℕ). (length (ancestors links (suc n) d) ≡ length (ancestors links k parent) + 1)
    × (has_root (ancestors links k parent) ≡ true)) e (ap length a ∙ omega arith, g)

pub climb_ends : (links : List Link) (m d : ℕ) → has_root (ancestors links m d) ≡ true → parent_of links d ≡ None
    → length (ancestors links m d) ≡ 1
unfolding ancestors
climb_ends links zero d h p = absurd cc
climb_ends links (suc n) d h p = rw p
    (elim (d == 1) as (λ b. length (d ∷ cond b [] (above (ancestors links n) None)) ≡ 1) [ true ↦ refl | false ↦ refl ])

pub climb_at_root : (links : List Link) (m : ℕ) → has_root (ancestors links m 1) ≡ true → length (ancestors links m 1) ≡ 1
unfolding ancestors
climb_at_root links zero h = absurd cc
climb_at_root links (suc n) h = refl

pub climb_low : (links : List Link) (m d : ℕ) → has_root (ancestors links m d) ≡ true → 1 ≤ m
unfolding ancestors
climb_low links zero d h = absurd cc
climb_low links (suc n) d h = omega arith

-- a parent is a directory
pub parent_directory : (fs : FileSystem) (links : List Link) → AllByRecursion (IsLink fs) links → (d : ℕ)
    → IfSome (parent_of links d) (λ p. is_directory fs p ≡ true)
parent_directory fs [] a d = tt
parent_directory fs (l ∷ links) a d = elim (l.1 == d) as
    (λ b. IfSome (cond b (Some l.0.0) (parent_of links d))
    (λ p. is_directory fs p ≡ true)) [ true ↦ a.0.parent | false ↦ parent_directory fs links a.1 d ]
