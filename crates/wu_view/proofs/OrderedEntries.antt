-- The entries of a directory in the order of the paths that begin with them, and what a walk through them finds.
use Rattle.std.proofs.Common.{◌≡◌, ℕ, zero, suc, List, [], ◌∷◌, ◌++◌, refl, ap, sym, ◌∙◌, subst, Bool, true, false}
use Rattle.std.proofs.Common.{inl, inr, ⊎_elim, append_assoc}
use Rattle.std.specs.Prelude.{◌⊎◌, map, cond}
use Rattle.std.specs.declared.cmp.Ordering.TheVariants.{Less, Equal, Greater}
use Rattle.std.specs.Ordering.{nat_cmp, bool_cmp, ordering_then}
use Rattle.std.specs.Cmp.{IsTotalOrder, nat_cmp_total, bool_cmp_total, then_total, on_total}
use Rattle.std.specs.List.{AllByRecursion, flat_map}
use Rattle.std.specs.List.Sorted.{IsStrictlySortedBy}
use Rattle.std.proofs.lemmas.Cmp.{tied_itself, nat_list_cmp_total}
use Rattle.std.proofs.lemmas.List.{append-nil}
use Rattle.std.proofs.lemmas.Map.Lookups.{exact_unsigned, exact_bytes}
use Rattle.wu_access.specs.declared.UserRec.{UserRec}
use Rattle.wu_tree.specs.FileSystems.{FileSystem, entries_of}
use Rattle.wu_tree.specs.Rules.{IsTree}
use Rattle.wu_base.proofs.Members.{Has, map_has, Has-flat_map, flat_map_has, all_from_has, all_has}
use Rattle.wu_base.proofs.SortedLists.{sorted-sorted_once, has-sorted_once, sorted_once_has}
use Rattle.wu_view.specs.declared.walkers.Met.{Met}
use Rattle.wu_view.specs.declared.walkers.Met.TheVariants.{Readable, Passable, Closed}
use Rattle.wu_view.specs.declared.ordered_walks.Entry.{Entry}
use Rattle.wu_view.specs.Views.{path_cmp}
use Rattle.wu_view.specs.Walks.{Found, found_at, if_passable, met_at, walked, walked_whole}
use Rattle.wu_view.specs.OrderedWalks.{directory_entry, entries_in_order, entry_at, entry_cmp, file_entry, found_by}
use Rattle.wu_view.specs.OrderedWalks.{open_entries, ordered, ordered_whole}
use Rattle.wu_view.proofs.OpenWalks.{entry_has}
use Rattle.wu_view.proofs.LeastPaths.{Slashless, last_name, name_slashless, same_place, slash_within}
use Rattle.wu_view.proofs.PathOrder.{EndsOnce, directory_first, file_first, same_front}
use Rattle.wu_view.proofs.FirstPaths.{Ascend, path_of_found}

-- ---- the order of entries
pub entry_total : IsTotalOrder entry_cmp
entry_total = then_total (on_total (λ (e : Entry). e.name) nat_list_cmp_total)
    (then_total (on_total (λ (e : Entry). e.is_directory) bool_cmp_total) (on_total (λ (e : Entry). e.ino) nat_cmp_total))

abbrev entry : List ℕ → Bool → ℕ → Entry
entry name is_directory ino = record { name = name; is_directory = is_directory; ino = ino }

entry_is : (a b : Entry) → a.name ≡ b.name → a.is_directory ≡ b.is_directory → a.ino ≡ b.ino → a ≡ b
entry_is a b n d i =
    let s : a ≡ entry b.name a.is_directory a.ino = ap (λ (x : List ℕ). entry x a.is_directory a.ino) n in
    let r : entry b.name a.is_directory a.ino ≡ entry b.name b.is_directory a.ino = ap (λ (x : Bool). entry b.name x a.ino) d in
    s ∙ r ∙ ap (λ (x : ℕ). entry b.name b.is_directory x) i

exact_bool : (x y : Bool) → bool_cmp x y ≡ Equal → x ≡ y
exact_bool true true h = refl
exact_bool true false h = absurd cc
exact_bool false true h = absurd cc
exact_bool false false h = refl

pub entry_exact : (a b : Entry) → entry_cmp a b ≡ Equal → a ≡ b
entry_exact a b h =
    elim (path_cmp a.name b.name) as
    (λ r. path_cmp a.name b.name ≡ r
    → ordering_then r (ordering_then (bool_cmp a.is_directory b.is_directory) (nat_cmp a.ino b.ino)) ≡ Equal → a ≡ b) [
      | Less ↦ λ p g. absurd cc
      | Equal ↦ λ p g. elim (bool_cmp a.is_directory b.is_directory) as
          (λ r. bool_cmp a.is_directory b.is_directory ≡ r → ordering_then r (nat_cmp a.ino b.ino) ≡ Equal → a ≡ b) [
            | Less ↦ λ q f. absurd cc
            | Equal ↦ λ q f. entry_is a b (exact_bytes a.name b.name p) (exact_bool a.is_directory b.is_directory q)
                (exact_unsigned a.ino b.ino f)
            | Greater ↦ λ q f. absurd cc
          ] refl g
      | Greater ↦ λ p g. absurd cc
    ] refl h

-- ---- files that ascend, behind others
all_append : (P : List ℕ → Type 0) (xs ys : List Found) → AllByRecursion P (map path_of_found xs) → AllByRecursion P (map path_of_found ys)
    → AllByRecursion P (map path_of_found (xs ++ ys))
all_append P [] ys a b = b
all_append P (x ∷ xs) ys a b = (a.0, all_append P xs ys a.1 b)

append_ascends : (xs ys : List Found) → Ascend xs → Ascend ys
    → ((x y : Found) → Has x xs → Has y ys → path_cmp x.1 y.1 ≡ Less) → Ascend (xs ++ ys)
unfolding IsStrictlySortedBy
append_ascends [] ys s t h = t
append_ascends (x ∷ xs) ys s t h = (
  all_append (λ p. path_cmp x.1 p ≡ Less) xs ys s.0 (all_from_has (λ p. path_cmp x.1 p ≡ Less) (map path_of_found ys)
      (λ p i. let r = map_has path_of_found p ys i in subst (λ (q : List ℕ). path_cmp x.1 q ≡ Less) r.1.1 (h x r.0 (inl refl) r.1.0))),
  append_ascends xs ys s.1 t (λ a b i j. h a b (inr i) j),
)

-- what is found at each of the entries ascends, where all that is found at one comes before all at a later one
flat_ascends : (f : Entry → List Found) (entries : List Entry) → IsStrictlySortedBy entry_cmp entries
    → ((e : Entry) → Has e entries → Ascend (f e))
    → ((a b : Entry) → Has a entries → Has b entries → entry_cmp a b ≡ Less → (x y : Found) → Has x (f a) → Has y (f b)
    → path_cmp x.1 y.1 ≡ Less)
    → Ascend (flat_map f entries)
unfolding IsStrictlySortedBy
flat_ascends f [] s a h = tt
flat_ascends f (e ∷ entries) s a h =
    append_ascends (f e) (flat_map f entries) (a e (inl refl))
    (flat_ascends f entries s.1 (λ x i. a x (inr i)) (λ x y i j. h x y (inr i) (inr j)))
    (λ x y i j.
    let r = flat_map_has f y entries j in
    h e r.0 (inl refl) (inr r.1.0) (all_has (λ b. entry_cmp e b ≡ Less) r.0 entries s.0 r.1.0) x y i r.1.1)

-- ---- paths
path_to_file : (path name : List ℕ) → (path ++ 47 ∷ []) ++ name ≡ path ++ 47 ∷ name
path_to_file path name = append_assoc path (47 ∷ []) name

path_to_directory : (path name : List ℕ) → (path ++ 47 ∷ []) ++ (name ++ 47 ∷ []) ≡ (path ++ 47 ∷ name) ++ 47 ∷ []
path_to_directory path name = append_assoc path (47 ∷ []) (name ++ 47 ∷ []) ∙ sym (append_assoc path (47 ∷ name) (47 ∷ []))

-- ---- the entries of a directory
module _ (fs : FileSystem) (t : IsTree fs) (user : UserRec) where
  -- how an entry is met, and what it is then
  abbrev MetAs : List ℕ × ℕ → Entry → Type 0
  MetAs named e = ((met_at fs user named.1 ≡ Readable) × (file_entry named.0 named.1 ≡ e))
      ⊎ ((met_at fs user named.1 ≡ Passable) × (directory_entry named.0 named.1 ≡ e))

  met_as_entry : (named : List ℕ × ℕ) (e : Entry) → Has e (entry_at (met_at fs user named.1) named) → MetAs named e
  met_as_entry named e h =
      elim (met_at fs user named.1) as (λ m. met_at fs user named.1 ≡ m → Has e (entry_at m named) → MetAs named e) [
        | Readable ↦ λ p g. ⊎_elim (λ i. inl (p, i)) (λ i. absurd i) g
        | Passable ↦ λ p g. ⊎_elim (λ i. inr (p, i)) (λ i. absurd i) g
        | Closed ↦ λ p g. absurd g
      ] refl h

  entry_met : (d : ℕ) (e : Entry) → Has e (entries_in_order fs user d)
      → (named : List ℕ × ℕ) × (Has named (entries_of fs.links d) × MetAs named e)
  entry_met d e h =
      let o : Has e (open_entries fs user (entries_of fs.links d)) = sorted_once_has entry_total entry_exact e
      (open_entries fs user (entries_of fs.links d)) h in
      let r = flat_map_has (λ (named : List ℕ × ℕ). entry_at (met_at fs user named.1) named) e (entries_of fs.links d) o in
      (r.0, (r.1.0, met_as_entry r.0 e r.1.1))

  met_entry : (d : ℕ) (named : List ℕ × ℕ) (e : Entry) → Has named (entries_of fs.links d)
      → Has e (entry_at (met_at fs user named.1) named) → Has e (entries_in_order fs user d)
  met_entry d named e h g =
      has-sorted_once entry_total entry_exact e (open_entries fs user (entries_of fs.links d))
      (Has-flat_map (λ (n : List ℕ × ℕ). entry_at (met_at fs user n.1) n) e named (entries_of fs.links d) h g)

  named_slashless : (d : ℕ) (named : List ℕ × ℕ) → Has named (entries_of fs.links d) → Slashless named.0
  named_slashless d named h = name_slashless fs t ((d, named.0), named.1) (entry_has named fs.links d h)

  ends_once : (d : ℕ) (e : Entry) → Has e (entries_in_order fs user d) → EndsOnce e.name
  ends_once d e h =
      let r = entry_met d e h in
      let s = named_slashless d r.0 r.1.0 in
      ⊎_elim
      (λ m. subst (λ (x : Entry). EndsOnce x.name) m.1 (inl s))
      (λ m. subst (λ (x : Entry). EndsOnce x.name) m.1 (inr (r.0.0, (s, refl))))
      r.1.1

  -- a directory's name ends in `/`
  directory_ends : (d : ℕ) (e : Entry) → Has e (entries_in_order fs user d) → e.is_directory ≡ true
      → (base : List ℕ) × (Slashless base × (base ++ 47 ∷ [] ≡ e.name))
  directory_ends d e h i =
      let r = entry_met d e h in
      ⊎_elim
      (λ m. let f : false ≡ true = ap (λ (x : Entry). x.is_directory) m.1 ∙ i in absurd cc)
      (λ m. (r.0.0, (named_slashless d r.0 r.1.0, ap (λ (x : Entry). x.name) m.1)))
      r.1.1

  -- two entries that are named alike are one
  same_named : (d : ℕ) (a b : List ℕ × ℕ) → Has a (entries_of fs.links d) → Has b (entries_of fs.links d) → a.0 ≡ b.0 → a.1 ≡ b.1
  same_named d a b h g e =
      same_place ((d, a.0), a.1) ((d, b.0), b.1) fs.links t.links_ascend (entry_has a fs.links d h) (entry_has b fs.links d g)
      (ap (λ (x : List ℕ). (d, x)) e)

  -- and so are two that stand alike in the order
  same_entry : (d : ℕ) (a b : Entry) → Has a (entries_in_order fs user d) → Has b (entries_in_order fs user d) → a.name ≡ b.name → a ≡ b
  same_entry d a b h g e =
      let r = entry_met d a h in
      let s = entry_met d b g in
      ⊎_elim
      (λ m. ⊎_elim
      (λ n.
      let names : r.0.0 ≡ s.0.0 = ap (λ (x : Entry). x.name) m.1 ∙ e ∙ sym (ap (λ (x : Entry). x.name) n.1) in
      let inos : r.0.1 ≡ s.0.1 = same_named d r.0 s.0 r.1.0 s.1.0 names in
      entry_is a b e
      (sym (ap (λ (x : Entry). x.is_directory) m.1) ∙ ap (λ (x : Entry). x.is_directory) n.1)
      (sym (ap (λ (x : Entry). x.ino) m.1) ∙ inos ∙ ap (λ (x : Entry). x.ino) n.1))
      (λ n.
      let names : r.0.0 ≡ s.0.0 ++ 47 ∷ [] = ap (λ (x : Entry). x.name) m.1 ∙ e ∙ sym (ap (λ (x : Entry). x.name) n.1) in
      absurd (slash_within s.0.0 [] (subst (λ (x : List ℕ). Slashless x) names (named_slashless d r.0 r.1.0))))
      s.1.1)
      (λ m. ⊎_elim
      (λ n.
      let names : r.0.0 ++ 47 ∷ [] ≡ s.0.0 = ap (λ (x : Entry). x.name) m.1 ∙ e ∙ sym (ap (λ (x : Entry). x.name) n.1) in
      absurd (slash_within r.0.0 [] (subst (λ (x : List ℕ). Slashless x) (sym names) (named_slashless d s.0 s.1.0))))
      (λ n.
      let names : r.0.0 ++ 47 ∷ [] ≡ s.0.0 ++ 47 ∷ [] = ap (λ (x : Entry). x.name) m.1 ∙ e ∙ sym (ap (λ (x : Entry). x.name) n.1) in
      let inos : r.0.1 ≡ s.0.1 = same_named d r.0 s.0 r.1.0 s.1.0 (last_name r.0.0 s.0.0 [] [] tt tt names).0 in
      entry_is a b e
      (sym (ap (λ (x : Entry). x.is_directory) m.1) ∙ ap (λ (x : Entry). x.is_directory) n.1)
      (sym (ap (λ (x : Entry). x.ino) m.1) ∙ inos ∙ ap (λ (x : Entry). x.ino) n.1))
      s.1.1)
      r.1.1

  name_before : (d : ℕ) (a b : Entry) → Has a (entries_in_order fs user d) → Has b (entries_in_order fs user d) → entry_cmp a b ≡ Less
      → path_cmp a.name b.name ≡ Less
  name_before d a b h g l =
      elim (path_cmp a.name b.name) as
      (λ r. path_cmp a.name b.name ≡ r
      → ordering_then r (ordering_then (bool_cmp a.is_directory b.is_directory) (nat_cmp a.ino b.ino)) ≡ Less → r ≡ Less) [
        | Less ↦ λ p f. refl
        | Equal ↦ λ p f.
            let s : a ≡ b = same_entry d a b h g (exact_bytes a.name b.name p) in
            let q : entry_cmp a b ≡ Equal = subst (λ (x : Entry). entry_cmp a x ≡ Equal) s (tied_itself entry_total a) in
            cc
        | Greater ↦ λ p f. absurd cc
      ] refl l

  -- ---- what is found begins with the path
  begins : (n d : ℕ) (path : List ℕ) (x : Found) → Has x (ordered fs user n d path) → (rest : List ℕ) × (x.1 ≡ path ++ rest)
  unfolding ordered
  begins zero d path x h = absurd h
  begins (suc n) d path x h =
      let r = flat_map_has (found_by (ordered fs user n) path) x (entries_in_order fs user d) h in
      let e = r.0 in
      elim e.is_directory as
      (λ b. Has x (cond b (ordered fs user n e.ino (path ++ e.name)) ((e.ino, path ++ e.name) ∷ []))
      → (rest : List ℕ) × (x.1 ≡ path ++ rest)) [
        | true ↦ λ g.
            let i = begins n e.ino (path ++ e.name) x g in
            (e.name ++ i.0, i.1 ∙ append_assoc path e.name i.0)
        | false ↦ λ g. ⊎_elim (λ q. (e.name, sym (ap (λ (y : Found). y.1) q))) (λ i. absurd i) g
      ] r.1.1

  -- what is found at an entry, behind its name; nothing follows the name of a file
  behind : (n : ℕ) (path : List ℕ) (e : Entry) (x : Found) → Has x (found_by (ordered fs user n) path e)
      → (rest : List ℕ)
      × ((x.1 ≡ path ++ (e.name ++ rest)) × ((e.is_directory ≡ true) ⊎ ((e.is_directory ≡ false) × (x.1 ≡ path ++ e.name))))
  behind n path e x h =
      elim e.is_directory as
      (λ b. Has x (cond b (ordered fs user n e.ino (path ++ e.name)) ((e.ino, path ++ e.name) ∷ []))
      → (rest : List ℕ) × ((x.1 ≡ path ++ (e.name ++ rest)) × ((b ≡ true) ⊎ ((b ≡ false) × (x.1 ≡ path ++ e.name))))) [
        | true ↦ λ g.
            let i = begins n e.ino (path ++ e.name) x g in
            (i.0, (i.1 ∙ append_assoc path e.name i.0, inl refl))
        | false ↦ λ g. ⊎_elim
            (λ q.
            let p : x.1 ≡ path ++ e.name = sym (ap (λ (y : Found). y.1) q) in
            ([], (p ∙ ap (λ (l : List ℕ). path ++ l) (sym (append-nil e.name)), inr (refl, p))))
            (λ i. absurd i)
            g
      ] h

  apart : (n d : ℕ) (path : List ℕ) (a b : Entry) → Has a (entries_in_order fs user d) → Has b (entries_in_order fs user d)
      → entry_cmp a b ≡ Less → (x y : Found) → Has x (found_by (ordered fs user n) path a) → Has y (found_by (ordered fs user n) path b)
      → path_cmp x.1 y.1 ≡ Less
  apart n d path a b h g l x y i j =
      let names = name_before d a b h g l in
      let p = behind n path a x i in
      let q = behind n path b y j in
      let once = ends_once d b g in
      ⊎_elim
      (λ f.
      let base = directory_ends d a h f in
      let before : path_cmp (base.0 ++ 47 ∷ []) b.name ≡ Less = subst (λ (l : List ℕ). path_cmp l b.name ≡ Less) (sym base.1.1) names in
      let behind_them : path_cmp (a.name ++ p.0) (b.name ++ q.0) ≡ Less =
      subst (λ (l : List ℕ). path_cmp (l ++ p.0) (b.name ++ q.0) ≡ Less) base.1.1 (directory_first base.0 b.name once before p.0 q.0) in
      subst (λ (l : List ℕ). path_cmp l y.1 ≡ Less) (sym p.1.0)
      (subst (λ (l : List ℕ). path_cmp (path ++ (a.name ++ p.0)) l ≡ Less) (sym q.1.0)
      (same_front path (a.name ++ p.0) (b.name ++ q.0) behind_them)))
      (λ f.
      subst (λ (l : List ℕ). path_cmp l y.1 ≡ Less) (sym f.1)
      (subst (λ (l : List ℕ). path_cmp (path ++ a.name) l ≡ Less) (sym q.1.0)
      (same_front path a.name (b.name ++ q.0) (file_first a.name b.name q.0 names))))
      p.1.1

  -- what is found at an entry ascends, where what is found below it does
  entry_ascends : (n : ℕ) (path : List ℕ) (e : Entry) → Ascend (ordered fs user n e.ino (path ++ e.name))
      → Ascend (found_by (ordered fs user n) path e)
  unfolding IsStrictlySortedBy
  entry_ascends n path e h =
      elim e.is_directory as (λ b. Ascend (cond b (ordered fs user n e.ino (path ++ e.name)) ((e.ino, path ++ e.name) ∷ []))) [
        | true ↦ h
        | false ↦ (tt, tt)
      ]

  -- what is found ascends by path
  pub ordered_ascends : (n d : ℕ) (path : List ℕ) → Ascend (ordered fs user n d path)
  unfolding ordered IsStrictlySortedBy
  ordered_ascends zero d path = tt
  ordered_ascends (suc n) d path =
      flat_ascends (found_by (ordered fs user n) path) (entries_in_order fs user d)
      (sorted-sorted_once entry_total entry_exact (open_entries fs user (entries_of fs.links d)))
      (λ e h. entry_ascends n path e (ordered_ascends n e.ino (path ++ e.name)))
      (λ a b h g l x y i j. apart n d path a b h g l x y i j)

  -- ---- what is found is what a walk finds that goes through the entries by name
  pub ordered_walked : (n d : ℕ) (path : List ℕ) (x : Found) → Has x (ordered fs user n d (path ++ 47 ∷ []))
      → Has x (walked fs user n d path)
  unfolding ordered walked
  ordered_walked zero d path x h = absurd h
  ordered_walked (suc n) d path x h =
      let r = flat_map_has (found_by (ordered fs user n) (path ++ 47 ∷ [])) x (entries_in_order fs user d) h in
      let m = entry_met d r.0 r.1.0 in
      let named = m.0 in
      let there : Has x
      (found_at (met_at fs user named.1) (named.1, path ++ 47 ∷ named.0) (walked fs user n named.1 (path ++ 47 ∷ named.0))) =
      ⊎_elim
      (λ f.
      let g : Has x ((named.1, (path ++ 47 ∷ []) ++ named.0) ∷ []) =
      subst (λ (e : Entry). Has x (found_by (ordered fs user n) (path ++ 47 ∷ []) e)) (sym f.1) r.1.1 in
      subst (λ (v : Met). Has x (found_at v (named.1, path ++ 47 ∷ named.0) (walked fs user n named.1 (path ++ 47 ∷ named.0)))) (sym f.0)
      (subst (λ (l : List ℕ). Has x ((named.1, l) ∷ [])) (path_to_file path named.0) g))
      (λ f.
      let g : Has x (ordered fs user n named.1 ((path ++ 47 ∷ []) ++ (named.0 ++ 47 ∷ []))) =
      subst (λ (e : Entry). Has x (found_by (ordered fs user n) (path ++ 47 ∷ []) e)) (sym f.1) r.1.1 in
      subst (λ (v : Met). Has x (found_at v (named.1, path ++ 47 ∷ named.0) (walked fs user n named.1 (path ++ 47 ∷ named.0)))) (sym f.0)
      (ordered_walked n named.1 (path ++ 47 ∷ named.0) x
      (subst (λ (l : List ℕ). Has x (ordered fs user n named.1 l)) (path_to_directory path named.0) g)))
      m.1.1 in
      Has-flat_map
      (λ (e : List ℕ × ℕ). found_at (met_at fs user e.1) (e.1, path ++ 47 ∷ e.0) (walked fs user n e.1 (path ++ 47 ∷ e.0))) x named
      (entries_of fs.links d) m.1.0 there

  pub walked_ordered : (n d : ℕ) (path : List ℕ) (x : Found) → Has x (walked fs user n d path)
      → Has x (ordered fs user n d (path ++ 47 ∷ []))
  unfolding ordered walked
  walked_ordered zero d path x h = absurd h
  walked_ordered (suc n) d path x h =
      let r = flat_map_has
      (λ (e : List ℕ × ℕ). found_at (met_at fs user e.1) (e.1, path ++ 47 ∷ e.0) (walked fs user n e.1 (path ++ 47 ∷ e.0))) x
      (entries_of fs.links d) h in
      let named = r.0 in
      let at_one : (e : Entry) → Has e (entry_at (met_at fs user named.1) named)
      → Has x (found_by (ordered fs user n) (path ++ 47 ∷ []) e) → Has x (ordered fs user (suc n) d (path ++ 47 ∷ [])) =
      λ e i g. Has-flat_map (found_by (ordered fs user n) (path ++ 47 ∷ [])) x e (entries_in_order fs user d)
      (met_entry d named e r.1.0 i) g in
      elim (met_at fs user named.1) as
      (λ m. met_at fs user named.1 ≡ m
      → Has x (found_at m (named.1, path ++ 47 ∷ named.0) (walked fs user n named.1 (path ++ 47 ∷ named.0)))
      → Has x (ordered fs user (suc n) d (path ++ 47 ∷ []))) [
        | Readable ↦ λ p g.
            at_one (file_entry named.0 named.1)
            (subst (λ (m : Met). Has (file_entry named.0 named.1) (entry_at m named)) (sym p) (inl refl))
            (subst (λ (l : List ℕ). Has x ((named.1, l) ∷ [])) (sym (path_to_file path named.0)) g)
        | Passable ↦ λ p g.
            at_one (directory_entry named.0 named.1)
            (subst (λ (m : Met). Has (directory_entry named.0 named.1) (entry_at m named)) (sym p) (inl refl))
            (subst (λ (l : List ℕ). Has x (ordered fs user n named.1 l)) (sym (path_to_directory path named.0))
            (walked_ordered n named.1 (path ++ 47 ∷ named.0) x g))
        | Closed ↦ λ p g. absurd g
      ] refl r.1.1

  pub whole_ascends : Ascend (ordered_whole fs user)
  unfolding IsStrictlySortedBy
  whole_ascends =
      elim (met_at fs user 1) as (λ m. Ascend (if_passable m (ordered fs user 255 1 (47 ∷ [])))) [
        | Readable ↦ tt
        | Passable ↦ ordered_ascends 255 1 (47 ∷ [])
        | Closed ↦ tt
      ]

  pub ordered_whole_walked : (x : Found) → Has x (ordered_whole fs user) → Has x (walked_whole fs user)
  ordered_whole_walked x h =
      elim (met_at fs user 1) as
      (λ m. Has x (if_passable m (ordered fs user 255 1 (47 ∷ []))) → Has x (if_passable m (walked fs user 255 1 []))) [
        | Readable ↦ λ g. absurd g
        | Passable ↦ λ g. ordered_walked 255 1 [] x g
        | Closed ↦ λ g. absurd g
      ] h

  pub walked_whole_ordered : (x : Found) → Has x (walked_whole fs user) → Has x (ordered_whole fs user)
  walked_whole_ordered x h =
      elim (met_at fs user 1) as
      (λ m. Has x (if_passable m (walked fs user 255 1 [])) → Has x (if_passable m (ordered fs user 255 1 (47 ∷ [])))) [
        | Readable ↦ λ g. absurd g
        | Passable ↦ λ g. walked_ordered 255 1 [] x g
        | Closed ↦ λ g. absurd g
      ] h
