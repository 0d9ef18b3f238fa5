-- No two files have a path in common, so the least paths of a view ascend without repeats.
use Rattle.std.proofs.Common.{◌≡◌, ◌≢◌, ℕ, zero, suc, ◌≤◌, List, [], ◌∷◌, ◌++◌, refl, ap, sym, ◌∙◌, subst, true, false, not, ◌&&◌, arith}
use Rattle.std.proofs.Common.{inl, inr, ⊎_elim}
use Rattle.std.specs.Prelude.{◌⊎◌, ◌==◌, map, filter}
use Rattle.std.specs.declared.cmp.Ordering.{Ordering}
use Rattle.std.specs.declared.cmp.Ordering.TheVariants.{Less, Equal, Greater}
use Rattle.std.specs.Ordering.{nat_cmp, ordering_then}
use Rattle.std.specs.Cmp.Lexicographic.{slice_cmp}
use Rattle.std.specs.List.{AllByRecursion}
use Rattle.std.specs.List.Sorted.{IsStrictlySortedBy}
use Rattle.std.specs.Map.{keys_of}
use Rattle.std.proofs.lemmas.Cmp.{tied_itself, nat_list_cmp_total}
use Rattle.std.proofs.lemmas.Map.Lookups.{exact_bytes}
use borrow.Author.Tests.{eqb-true, eq-eqb}
use Rattle.std.proofs.lemmas.Bool.{and_parts}
use Rattle.wu_access.specs.declared.UserRec.{UserRec}
use Rattle.wu_tree.specs.FileSystems.{FileSystem, Link, Place, place_cmp, is_directory, is_name_length, are_name_bytes, is_dots, depth}
use Rattle.wu_tree.specs.FileSystems.{link_count}
use Rattle.wu_tree.specs.Rules.{IsTree}
use Rattle.wu_tree.proofs.ParentPaths.{place_total}
use Rattle.wu_view.specs.declared.Seen.{Seen}
use Rattle.wu_view.specs.Views.{directory_path, path_of, is_open, path_cmp, seen_cmp, seen_as, open_paths, first_of, least_path, view_for}
use Rattle.wu_base.proofs.Members.{Has, map_has, filter_has}
use Rattle.wu_base.proofs.SortedLists.{sorted-sorted_once, has-sorted_once, sorted_once_has}
use Rattle.wu_view.proofs.LinkPaths.{some_link, linked_once, link_facts, depth_range, depth_below, path_below_is, root_path}
use Rattle.wu_view.proofs.ShownFiles.{seen_exact, seen_total, opened_paths, unsorted, has_seen}

-- ---- the last name of a path
abbrev pub Slashless : List ℕ → Type 0
Slashless name = AllByRecursion (λ b. b ≢ 47) name

slashless : (name : List ℕ) → are_name_bytes name ≡ true → Slashless name
slashless [] h = tt
slashless (b ∷ name) h =
    let a = and_parts (not (b == 47) && not (b == 0)) (are_name_bytes name) h in
    let c = and_parts (not (b == 47)) (not (b == 0)) a.0 in
    (λ e. let f : not true ≡ true = rw (eq-eqb b 47 e) at c.0 in absurd cc, slashless name a.1)

-- a slash stands in what ends in a slash and a name
pub slash_within : (p name : List ℕ) → Slashless (p ++ 47 ∷ name) → ⊥
slash_within [] name h = h.0 refl
slash_within (x ∷ p) name h = slash_within p name h.1

pub last_name : (p q n m : List ℕ) → Slashless n → Slashless m → p ++ 47 ∷ n ≡ q ++ 47 ∷ m → (p ≡ q) × (n ≡ m)
last_name [] [] n m a b h = (refl, cc)
last_name [] (y ∷ q) n m a b h = let e : n ≡ q ++ 47 ∷ m = cc in absurd (slash_within q m (subst (λ (l : List ℕ). Slashless l) e a))
last_name (x ∷ p) [] n m a b h = let e : p ++ 47 ∷ n ≡ m = cc in absurd (slash_within p n (subst (λ (l : List ℕ). Slashless l) (sym e) b))
last_name (x ∷ p) (y ∷ q) n m a b h =
    let e : x ≡ y = cc in
    let f : p ++ 47 ∷ n ≡ q ++ 47 ∷ m = cc in
    let r = last_name p q n m a b f in
    let g : p ≡ q = r.0 in
    (cc, r.1)

not_root : (p n : List ℕ) → p ++ 47 ∷ n ≡ [] → ⊥
not_root [] n h = cc
not_root (x ∷ p) n h = cc

-- ---- places differ
later_place : (l k : Link) (links : List Link) → AllByRecursion (λ p. place_cmp l.0 p ≡ Less) (keys_of links) → Has k links → l.0 ≡ k.0 → ⊥
later_place l k links a h e =
    let p : place_cmp l.0 k.0 ≡ Less = in_keys links a h in
    let q : place_cmp l.0 k.0 ≡ Equal = subst (λ (x : Place). place_cmp l.0 x ≡ Equal) e (tied_itself place_total l.0) in
    cc
  where
    in_keys : (ls : List Link) → AllByRecursion (λ p. place_cmp l.0 p ≡ Less) (keys_of ls) → Has k ls → place_cmp l.0 k.0 ≡ Less
    in_keys [] a h = absurd h
    in_keys (x ∷ ls) a h = ⊎_elim (λ e. subst (λ (y : Link). place_cmp l.0 y.0 ≡ Less) e a.0) (λ i. in_keys ls a.1 i) h

pub same_place : (l k : Link) (links : List Link) → IsStrictlySortedBy place_cmp (keys_of links) → Has l links → Has k links → l.0 ≡ k.0
    → l.1 ≡ k.1
unfolding IsStrictlySortedBy
same_place l k [] s h g e = absurd h
same_place l k (x ∷ links) s h g e =
    ⊎_elim
    (λ a. ⊎_elim
    (λ b. let c : l ≡ k = sym a ∙ b in ap (λ (y : Link). y.1) c)
    (λ j. absurd (later_place x k links s.0 j (ap (λ (y : Link). y.0) a ∙ e)))
    g)
    (λ i. ⊎_elim
    (λ b. absurd (later_place x l links s.0 i (ap (λ (y : Link). y.0) b ∙ sym e)))
    (λ j. same_place l k links s.1 i j e)
    g)
    h

module _ (fs : FileSystem) (t : IsTree fs) where
  pub name_slashless : (link : Link) → Has link fs.links → Slashless link.0.1
  name_slashless link h =
      let n = (link_facts fs t link h).name in
      let a = and_parts (is_name_length link.0.1 && are_name_bytes link.0.1) (not (is_dots link.0.1)) n in
      let b = and_parts (is_name_length link.0.1) (are_name_bytes link.0.1) a.0 in
      slashless link.0.1 b.1

  place_is : (l k : Link) → l.0.0 ≡ k.0.0 → l.0.1 ≡ k.0.1 → l.0 ≡ k.0
  place_is l k d n =
      let a : l.0 ≡ (k.0.0, l.0.1) = ap (λ (x : ℕ). (x, l.0.1)) d in
      a ∙ ap (λ (x : List ℕ). (k.0.0, x)) n

  -- a link to the directory, where it isn't the root
  pub link_to : (d : ℕ) → is_directory fs d ≡ true → d ≢ 1 → (link : Link) × (Has link fs.links × (link.1 ≡ d))
  link_to d h n = let one : link_count fs.links d ≡ 1 = linked_once fs t d h n in some_link d fs.links (omega arith)

  path_through : (d : ℕ) (link : Link) → is_directory fs d ≡ true → Has link fs.links → link.1 ≡ d
      → directory_path fs.links d ≡ path_of fs.links link.0
  path_through d link h w e =
      ap (directory_path fs.links) (sym e) ∙ path_below_is fs t link w (subst (λ x. is_directory fs x ≡ true) (sym e) h)

  deeper : (d n : ℕ) (link : Link) → is_directory fs d ≡ true → Has link fs.links → link.1 ≡ d → depth fs.links d ≤ suc n
      → depth fs.links link.0.0 ≤ n
  deeper d n link h w e l =
      let b : depth fs.links link.1
      ≡ suc (depth fs.links link.0.0) = depth_below fs t link w (subst (λ x. is_directory fs x ≡ true) (sym e) h) in
      let c : depth fs.links link.1 ≡ depth fs.links d = ap (depth fs.links) e in
      omega arith

  pub not_one : (d : ℕ) → (d == 1) ≡ false → d ≢ 1
  not_one d h e = let f : (d == 1) ≡ true = eq-eqb d 1 e in cc

  -- a directory that isn't the root has another path than the root
  no_root_path : (d : ℕ) → is_directory fs d ≡ true → d ≢ 1 → directory_path fs.links d ≡ [] → ⊥
  no_root_path d h n p = let r = link_to d h n in not_root (directory_path fs.links r.0.0.0) r.0.0.1
      (sym (path_through d r.0 h r.1.0 r.1.1) ∙ p)

  same_directory : (n d e : ℕ) → depth fs.links d ≤ n → is_directory fs d ≡ true → is_directory fs e ≡ true
      → directory_path fs.links d ≡ directory_path fs.links e → d ≡ e
  same_directory zero d e l h g p = let r : 1 ≤ depth fs.links d = (depth_range fs.links d).0 in absurd (omega arith)
  same_directory (suc n) d e l h g p =
      elim (d == 1) as (λ b. (d == 1) ≡ b → d ≡ e) [
        | true ↦ λ a.
            let i : d ≡ 1 = eqb-true d 1 a in
            elim (e == 1) as (λ b. (e == 1) ≡ b → d ≡ e) [
              | true ↦ λ b. i ∙ sym (eqb-true e 1 b)
              | false ↦ λ b. absurd (no_root_path e g (not_one e b) (sym p ∙ ap (directory_path fs.links) i ∙ root_path fs t))
            ] refl
        | false ↦ λ a.
            elim (e == 1) as (λ b. (e == 1) ≡ b → d ≡ e) [
              | true ↦ λ b. absurd (no_root_path d h (not_one d a) (p ∙ ap (directory_path fs.links) (eqb-true e 1 b) ∙ root_path fs t))
              | false ↦ λ b.
                  let r = link_to d h (not_one d a) in
                  let s = link_to e g (not_one e b) in
                  let q : path_of fs.links r.0.0 ≡ path_of fs.links s.0.0 = sym (path_through d r.0 h r.1.0 r.1.1) ∙ p
                  ∙ path_through e s.0 g s.1.0 s.1.1 in
                  let c = last_name (directory_path fs.links r.0.0.0) (directory_path fs.links s.0.0.0) r.0.0.1 s.0.0.1
                  (name_slashless r.0 r.1.0) (name_slashless s.0 s.1.0) q in
                  let same : r.0.0.0
                  ≡ s.0.0.0 = same_directory n r.0.0.0 s.0.0.0 (deeper d n r.0 h r.1.0 r.1.1 l) (link_facts fs t r.0 r.1.0).parent
                  (link_facts fs t s.0 s.1.0).parent c.0 in
                  sym r.1.1 ∙ same_place r.0 s.0 fs.links t.links_ascend r.1.0 s.1.0 (place_is r.0 s.0 same c.1) ∙ s.1.1
            ] refl
      ] refl

  -- a path leads to one file
  pub same_file : (l k : Link) → Has l fs.links → Has k fs.links → path_of fs.links l.0 ≡ path_of fs.links k.0 → l.1 ≡ k.1
  same_file l k h g p =
      let c = last_name (directory_path fs.links l.0.0) (directory_path fs.links k.0.0) l.0.1 k.0.1 (name_slashless l h)
      (name_slashless k g) p in
      let range = depth_range fs.links l.0.0 in
      let same : l.0.0 ≡ k.0.0 = same_directory 255 l.0.0 k.0.0 range.1 (link_facts fs t l h).parent (link_facts fs t k g).parent c.0 in
      same_place l k fs.links t.links_ascend h g (place_is l k same c.1)

-- ---- the order of a view
pub first_has : (paths : List (List ℕ)) → (path : List ℕ) → Has path paths → Has (first_of paths) paths
first_has [] path h = absurd h
first_has (p ∷ paths) path h = inl refl

module _ (fs : FileSystem) (t : IsTree fs) (user : UserRec) where
  -- a file as it stands in the view
  record IsShown (s : Seen) : Type 0 where
    is : seen_as fs user s.ino ≡ s
    some : (path : List ℕ) × Has path s.paths

  shown_in : (s : Seen) → Has s (unsorted fs t user) → IsShown s
  shown_in s h =
      let r = has_seen fs t user s h in
      let i : r.0 ≡ s.ino = ap (λ (x : Seen). x.ino) r.4 in
      let e : seen_as fs user s.ino ≡ s = subst (λ q. seen_as fs user q ≡ s) i r.4 in
      record {
        is = e;
        some = (
          r.1,
          subst (λ (x : Seen). Has r.1 x.paths) r.4
              (has-sorted_once nat_list_cmp_total exact_bytes r.1 (opened_paths fs t user r.0) r.3),
        );
      }

  least_link : (s : Seen) → IsShown s → (link : Link) × (Has link fs.links × (link.1 ≡ s.ino) × (path_of fs.links link.0 ≡ least_path s))
  least_link s i =
      let l : Has (least_path s) s.paths = first_has s.paths i.some.0 i.some.1 in
      let o : Has (least_path s) (open_paths fs user s.ino) = subst (λ (x : Seen). Has (least_path s) x.paths) (sym i.is) l in
      let p : Has (least_path s) (opened_paths fs t user s.ino) = sorted_once_has nat_list_cmp_total exact_bytes (least_path s)
      (opened_paths fs t user s.ino) o in
      let m = map_has (λ (link : Link). path_of fs.links link.0) (least_path s)
      (filter (λ link. link.1 == s.ino && is_open fs user link.0.0) fs.links) p in
      let f = filter_has (λ link. link.1 == s.ino && is_open fs user link.0.0) m.0 fs.links m.1.0 in
      (m.0, (f.0, eqb-true m.0.1 s.ino (and_parts (m.0.1 == s.ino) (is_open fs user m.0.0.0) f.1).0, m.1.1))

  same_seen : (a b : Seen) → IsShown a → IsShown b → least_path a ≡ least_path b → a ≡ b
  same_seen a b i j e =
      let l = least_link a i in
      let k = least_link b j in
      let f : l.0.1 ≡ k.0.1 = same_file fs t l.0 k.0 l.1.0 k.1.0 (l.1.2 ∙ e ∙ sym k.1.2) in
      let q : a.ino ≡ b.ino = sym l.1.1 ∙ f ∙ k.1.1 in
      sym i.is ∙ ap (seen_as fs user) q ∙ j.is

  -- what stands before in the order has a lesser least path, or the same
  least_first : (ps qs : List (List ℕ)) (o : Ordering) → (path : List ℕ) × Has path ps → (path : List ℕ) × Has path qs
      → ordering_then (slice_cmp path_cmp ps qs) o ≡ Less
      → (path_cmp (first_of ps) (first_of qs) ≡ Less) ⊎ (first_of ps ≡ first_of qs)
  least_first [] qs o i j h = absurd i.1
  least_first (p ∷ ps) [] o i j h = absurd j.1
  least_first (p ∷ ps) (q ∷ qs) o i j h =
      elim (path_cmp p q) as
      (λ r. path_cmp p q ≡ r → ordering_then (ordering_then r (slice_cmp path_cmp ps qs)) o ≡ Less → (r ≡ Less) ⊎ (p ≡ q)) [
        | Less ↦ λ e g. inl refl
        | Equal ↦ λ e g. inr (exact_bytes p q e)
        | Greater ↦ λ e g. absurd cc
      ] refl h

  least_rise : (a b : Seen) → IsShown a → IsShown b → seen_cmp a b ≡ Less → path_cmp (least_path a) (least_path b) ≡ Less
  least_rise a b i j h =
      ⊎_elim
      (λ l. l)
      (λ e. let s : a ≡ b = same_seen a b i j e in let f : seen_cmp a b
      ≡ Equal = subst (λ x. seen_cmp a x ≡ Equal) s (tied_itself seen_total a) in absurd cc)
      (least_first a.paths b.paths (nat_cmp a.ino b.ino) i.some j.some h)

  all_rise : (a : Seen) (view : List Seen) → IsShown a → ((s : Seen) → Has s view → IsShown s)
      → AllByRecursion (λ b. seen_cmp a b ≡ Less) view
      → AllByRecursion (λ p. path_cmp (least_path a) p ≡ Less) (map least_path view)
  all_rise a [] i f h = tt
  all_rise a (b ∷ view) i f h = (least_rise a b i (f b (inl refl)) h.0, all_rise a view i (λ s g. f s (inr g)) h.1)

  rises : (view : List Seen) → ((s : Seen) → Has s view → IsShown s) → IsStrictlySortedBy seen_cmp view
      → IsStrictlySortedBy path_cmp (map least_path view)
  unfolding IsStrictlySortedBy
  rises [] f h = tt
  rises (a ∷ view) f h = (all_rise a view (f a (inl refl)) (λ s g. f s (inr g)) h.0, rises view (λ s g. f s (inr g)) h.1)

  pub by_least_path : IsStrictlySortedBy path_cmp (map least_path (view_for fs user))
  unfolding view_for
  by_least_path =
      rises (view_for fs user) (λ s h. shown_in s (sorted_once_has seen_total seen_exact s (unsorted fs t user) h))
      (sorted-sorted_once seen_total seen_exact (unsorted fs t user))
