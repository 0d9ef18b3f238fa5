-- The files that a walk in the order of paths meets, put together by file, are the view: each file is met first at the least
-- of its open paths.
use Rattle.std.proofs.Common.{◌≡◌, ℕ, List, [], ◌∷◌, refl, ap, sym, ◌∙◌, subst, true, inl, inr, ⊎_elim}
use Rattle.std.specs.Prelude.{◌⊎◌, ◌==◌, map}
use Rattle.std.specs.declared.cmp.Ordering.{Ordering}
use Rattle.std.specs.declared.cmp.Ordering.TheVariants.{Less, Equal, Greater}
use Rattle.std.specs.Ordering.{nat_cmp, ordering_then}
use Rattle.std.specs.Cmp.{IsTotalOrder, nat_cmp_total, then_total, on_total}
use Rattle.std.specs.List.Sorted.{IsStrictlySortedBy}
use Rattle.std.proofs.lemmas.Cmp.{nat_list_cmp_total}
use Rattle.std.proofs.lemmas.Map.Lookups.{exact_unsigned, exact_bytes}
use Rattle.wu_access.specs.declared.UserRec.{UserRec}
use Rattle.wu_tree.specs.FileSystems.{FileSystem}
use Rattle.wu_tree.specs.Rules.{IsTree}
use Rattle.wu_base.proofs.Members.{Has, Has-map, map_has, all_has, all_from_has}
use Rattle.wu_base.proofs.SortedLists.{same_sorted, sorted-sorted_once, has-sorted_once, sorted_once_has}
use Rattle.wu_view.specs.declared.Seen.{Seen}
use Rattle.wu_view.specs.Views.{first_of, is_readable, least_path, open_paths, path_cmp, seen_as, view_for}
use Rattle.wu_view.specs.Walks.{Found, walked_whole}
use Rattle.wu_view.specs.Groups.{firsts, grouped, paths_of}
use Rattle.wu_view.specs.OrderedWalks.{ordered_whole}
use Rattle.wu_view.proofs.OpenWalks.{found_is}
use Rattle.wu_view.proofs.ShownFiles.{seen_exact, seen_total, opened_paths, opened_path, path_opened, unsorted, seen_has, has_seen}
use Rattle.wu_view.proofs.ShownFiles.{has_paths, paths_has}
use Rattle.wu_view.proofs.LeastPaths.{by_least_path, first_has}
use Rattle.wu_view.proofs.FirstPaths.{Ascend, IsLeast, first_is_least, firsts_ascend, kept_ascend, least_is_first, never_both}
use Rattle.wu_view.proofs.FirstPaths.{path_of_found}
use Rattle.wu_view.proofs.OrderedEntries.{ordered_whole_walked, walked_whole_ordered, whole_ascends}

-- ---- files by path
abbrev found_cmp : Found → Found → Ordering
found_cmp a b = ordering_then (path_cmp a.1 b.1) (nat_cmp a.0 b.0)

found_total : IsTotalOrder found_cmp
found_total = then_total (on_total (λ (x : Found). x.1) nat_list_cmp_total) (on_total (λ (x : Found). x.0) nat_cmp_total)

found_exact : (a b : Found) → found_cmp a b ≡ Equal → a ≡ b
found_exact a b h =
    elim (path_cmp a.1 b.1) as (λ r. path_cmp a.1 b.1 ≡ r → ordering_then r (nat_cmp a.0 b.0) ≡ Equal → a ≡ b) [
      | Less ↦ λ p g. absurd cc
      | Equal ↦ λ p g. found_is a.0 a.1 b (exact_unsigned a.0 b.0 g) (exact_bytes a.1 b.1 p)
      | Greater ↦ λ p g. absurd cc
    ] refl h

found_before : (a b : Found) → path_cmp a.1 b.1 ≡ Less → found_cmp a b ≡ Less
found_before a b h = subst (λ (r : Ordering). ordering_then r (nat_cmp a.0 b.0) ≡ Less) (sym h) refl

by_path : (files : List Found) → Ascend files → IsStrictlySortedBy found_cmp files
unfolding IsStrictlySortedBy
by_path [] s = tt
by_path (f ∷ files) s = (
  all_from_has (λ g. found_cmp f g ≡ Less) files
      (λ g h. found_before f g (all_has (λ p. path_cmp f.1 p ≡ Less) g.1 (map path_of_found files) s.0 (Has-map path_of_found g files h))),
  by_path files s.1,
)

-- the file with the least of its paths
abbrev with_least_path : Seen → Found
with_least_path seen = (seen.ino, least_path seen)

abbrev with_paths : List (List ℕ) → ℕ → Seen
with_paths paths ino = record { paths = paths; ino = ino }

-- ---- the first of paths that ascend
first_is_lowest : (paths : List (List ℕ)) → IsStrictlySortedBy path_cmp paths → (path : List ℕ) → Has path paths
    → (first_of paths ≡ path) ⊎ (path_cmp (first_of paths) path ≡ Less)
unfolding IsStrictlySortedBy
first_is_lowest [] s path h = absurd h
first_is_lowest (p ∷ paths) s path h = ⊎_elim (λ e. inl e) (λ i. inr (all_has (λ q. path_cmp p q ≡ Less) path paths s.0 i)) h

least_paths : (view : List Seen) → map path_of_found (map with_least_path view) ≡ map least_path view
least_paths [] = refl
least_paths (s ∷ view) = ap (λ (l : List (List ℕ)). least_path s ∷ l) (least_paths view)

module _ (fs : FileSystem) (t : IsTree fs) (user : UserRec) where
  open_ascend : (q : ℕ) → IsStrictlySortedBy path_cmp (open_paths fs user q)
  open_ascend q = sorted-sorted_once nat_list_cmp_total exact_bytes (opened_paths fs t user q)

  in_open : (q : ℕ) (path : List ℕ) → Has path (opened_paths fs t user q) → Has path (open_paths fs user q)
  in_open q path h = has-sorted_once nat_list_cmp_total exact_bytes path (opened_paths fs t user q) h

  least_opened : (q : ℕ) (path : List ℕ) → Has path (opened_paths fs t user q)
      → Has (first_of (open_paths fs user q)) (opened_paths fs t user q)
  least_opened q path h = sorted_once_has nat_list_cmp_total exact_bytes (first_of (open_paths fs user q)) (opened_paths fs t user q)
      (first_has (open_paths fs user q) path (in_open q path h))

  -- the least path of a file is met
  least_met : (q : ℕ) (path : List ℕ) → is_readable fs user q ≡ true → Has path (opened_paths fs t user q)
      → Has (q, first_of (open_paths fs user q)) (ordered_whole fs user)
  least_met q path r h = walked_whole_ordered fs t user (q, first_of (open_paths fs user q))
      (opened_path fs t user q (first_of (open_paths fs user q)) r (least_opened q path h))

  -- and no lesser one of the file
  none_lesser : (q : ℕ) → IsLeast (q, first_of (open_paths fs user q)) (ordered_whole fs user)
  none_lesser q other h e l =
      let there : Has (q, other.1) (walked_whole fs user) =
      subst (λ (x : Found). Has x (walked_whole fs user)) (sym (found_is q other.1 other (sym e) refl))
      (ordered_whole_walked fs t user other h) in
      let o : Has other.1 (open_paths fs user q) = in_open q other.1 (path_opened fs t user q other.1 there).0 in
      ⊎_elim
      (λ i. never_both (first_of (open_paths fs user q)) other.1
      (subst (λ (p : List ℕ). path_cmp p other.1 ≡ Less) (sym i) (subst (λ (p : List ℕ). path_cmp other.1 p ≡ Less) i l)) l)
      (λ i. never_both (first_of (open_paths fs user q)) other.1 i l)
      (first_is_lowest (open_paths fs user q) (open_ascend q) other.1 o)

  first_shown : (x : Found) → Has x (firsts (ordered_whole fs user)) → Has x (map with_least_path (view_for fs user))
  unfolding view_for
  first_shown x h =
      let f = first_is_least (ordered_whole fs user) (whole_ascends fs t user) x h in
      let o = path_opened fs t user x.0 x.1 (ordered_whole_walked fs t user x f.0) in
      let met : Has (x.0, first_of (open_paths fs user x.0)) (ordered_whole fs user) = least_met x.0 x.1 o.1 o.0 in
      let same : first_of (open_paths fs user x.0) ≡ x.1 =
      ⊎_elim
      (λ e. e)
      (λ l. absurd (f.1 (x.0, first_of (open_paths fs user x.0)) met refl l))
      (first_is_lowest (open_paths fs user x.0) (open_ascend x.0) x.1 (in_open x.0 x.1 o.0)) in
      let seen : Has (seen_as fs user x.0) (view_for fs user) = has-sorted_once seen_total seen_exact (seen_as fs user x.0)
      (unsorted fs t user) (seen_has fs t user x.0 x.1 o.1 o.0) in
      subst (λ (y : Found). Has y (map with_least_path (view_for fs user))) (found_is x.0 (first_of (open_paths fs user x.0)) x refl same)
      (Has-map with_least_path (seen_as fs user x.0) (view_for fs user) seen)

  shown_first : (x : Found) → Has x (map with_least_path (view_for fs user)) → Has x (firsts (ordered_whole fs user))
  unfolding view_for
  shown_first x h =
      let m = map_has with_least_path x (view_for fs user) h in
      let r = has_seen fs t user m.0 (sorted_once_has seen_total seen_exact m.0 (unsorted fs t user) m.1.0) in
      let e : (r.0, first_of (open_paths fs user r.0)) ≡ x = ap with_least_path r.4 ∙ m.1.1 in
      subst (λ (y : Found). Has y (firsts (ordered_whole fs user))) e
      (least_is_first (ordered_whole fs user) (whole_ascends fs t user) (r.0, first_of (open_paths fs user r.0))
      (least_met r.0 r.1 r.2 r.3) (none_lesser r.0))

  shown_ascend : IsStrictlySortedBy found_cmp (map with_least_path (view_for fs user))
  shown_ascend =
      by_path (map with_least_path (view_for fs user))
      (subst (λ (l : List (List ℕ)). IsStrictlySortedBy path_cmp l) (sym (least_paths (view_for fs user))) (by_least_path fs t user))

  firsts_are_the_view : firsts (ordered_whole fs user) ≡ map with_least_path (view_for fs user)
  firsts_are_the_view =
      same_sorted found_total found_exact (firsts (ordered_whole fs user)) (map with_least_path (view_for fs user))
      (by_path (firsts (ordered_whole fs user)) (firsts_ascend (ordered_whole fs user) (whole_ascends fs t user)))
      shown_ascend first_shown shown_first

  -- ---- all paths of a file
  grouped_paths : (q : ℕ) → is_readable fs user q ≡ true → paths_of q (ordered_whole fs user) ≡ open_paths fs user q
  grouped_paths q r =
      same_sorted nat_list_cmp_total exact_bytes (paths_of q (ordered_whole fs user)) (open_paths fs user q)
      (kept_ascend (λ f. f.0 == q) (ordered_whole fs user) (whole_ascends fs t user))
      (open_ascend q)
      (λ p h. in_open q p (path_opened fs t user q p
      (ordered_whole_walked fs t user (q, p) (paths_has q p (ordered_whole fs user) h))).0)
      (λ p h. has_paths q p (ordered_whole fs user) (walked_whole_ordered fs t user (q, p)
      (opened_path fs t user q p r (sorted_once_has nat_list_cmp_total exact_bytes p (opened_paths fs t user q) h))))

  abbrev with_its_paths : Found → Seen
  with_its_paths f = record { paths = paths_of f.0 (ordered_whole fs user); ino = f.0 }

  shown_again : (seen : Seen) → Has seen (view_for fs user) → with_its_paths (with_least_path seen) ≡ seen
  unfolding view_for
  shown_again seen h =
      let r = has_seen fs t user seen (sorted_once_has seen_total seen_exact seen (unsorted fs t user) h) in
      let i : r.0 ≡ seen.ino = ap (λ (x : Seen). x.ino) r.4 in
      let e : seen_as fs user seen.ino ≡ seen = subst (λ q. seen_as fs user q ≡ seen) i r.4 in
      let o : is_readable fs user seen.ino ≡ true = subst (λ q. is_readable fs user q ≡ true) i r.2 in
      let p : with_its_paths (with_least_path seen) ≡ seen_as fs user seen.ino =
      ap (λ (paths : List (List ℕ)). with_paths paths seen.ino) (grouped_paths seen.ino o) in
      p ∙ e

  all_again : (view : List Seen) → ((seen : Seen) → Has seen view → with_its_paths (with_least_path seen) ≡ seen)
      → map with_its_paths (map with_least_path view) ≡ view
  all_again [] h = refl
  all_again (seen ∷ view) h =
      ap (λ (s : Seen). s ∷ map with_its_paths (map with_least_path view)) (h seen (inl refl))
      ∙ ap (λ (l : List Seen). seen ∷ l) (all_again view (λ s i. h s (inr i)))

  pub grouped_is_the_view : grouped (ordered_whole fs user) ≡ view_for fs user
  grouped_is_the_view =
      ap (map with_its_paths) firsts_are_the_view ∙ all_again (view_for fs user) shown_again
