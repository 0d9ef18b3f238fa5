-- The links of a tree, directory by directory, are its links in order.
use Rattle.std.proofs.Common.{◌≡◌, ℕ, ◌<◌, ◌≤◌, Bool, true, false, cond, List, [], ◌∷◌, ◌++◌, refl, ap, sym, subst, ◌∙◌, arith, inl}
use Rattle.std.proofs.Common.{inr, ⊎_elim}
use Rattle.std.specs.Prelude.{◌==◌, Option, None, Some, map, filter, not}
use Rattle.std.specs.declared.cmp.Ordering.{Ordering}
use Rattle.std.specs.declared.cmp.Ordering.TheVariants.{Less, Equal, Greater}
use Rattle.std.specs.Ordering.{nat_cmp, ordering_then, MatchOrdering}
use Rattle.std.specs.Cmp.Lexicographic.{slice_cmp}
use Rattle.std.specs.List.{AllByRecursion, flat_map}
use Rattle.std.specs.List.Sorted.{IsStrictlySortedBy}
use Rattle.std.specs.Map.{keys_of, lookup}
use Rattle.std.specs.BTreeMap.{is_at}
use Rattle.std.proofs.lemmas.Bool.{eqb-true, eq-eqb, ne_eqb}
use Rattle.std.proofs.lemmas.Cmp.{ranked}
use Rattle.wu_base.proofs.Members.{Has}
use Rattle.wu_tree.specs.declared.events.Kind.{Kind}
use Rattle.wu_tree.specs.declared.events.Kind.TheVariants.{Directory, File}
use Rattle.wu_tree.specs.declared.events.Node.{Node}
use Rattle.wu_tree.specs.FileSystems.{FileSystem, Link, place_cmp, entries_of, is_directory_node, is_kind_file}
use Rattle.wu_tree.specs.Rules.{IsLink, IsTree}
use Rattle.wu_tree.proofs.PathsDown.{found_has}
use Rattle.wu_image.specs.Writing.{links_from, links_in_node, links_by_directory}

-- ---- the links in one directory

abbrev links_in : List Link → ℕ → List Link
links_in links directory = filter (λ link. link.0.0 == directory) links

pub links_from_entries : (links : List Link) (directory : ℕ) → links_from directory (entries_of links directory) ≡ links_in links directory
links_from_entries [] directory = refl
links_from_entries (link ∷ links) directory =
    let more = links_from_entries links directory in
    elim (link.0.0 == directory) as (λ b. (link.0.0 == directory) ≡ b
    → links_from directory (map (λ (l : Link). (l.0.1, l.1)) (cond b (link ∷ links_in links directory) (links_in links directory)))
    ≡ cond b (link ∷ links_in links directory) (links_in links directory)) [
      | true ↦ λ t.
          let same : directory ≡ link.0.0 = sym (eqb-true link.0.0 directory t) in
          ap (λ (d : ℕ). ((d, link.0.1), link.1) ∷ links_from directory (entries_of links directory)) same
          ∙ ap (λ (l : List Link). link ∷ l) more
      | false ↦ λ t. more
    ] refl

-- ---- order

abbrev Rise : List ℕ → Type 0
Rise [] = Unit {0}
Rise (x ∷ xs) = AllByRecursion (λ y. x < y) xs × Rise xs

abbrev ParentsRise : List Link → Type 0
ParentsRise [] = Unit {0}
ParentsRise (link ∷ links) = AllByRecursion (λ later. link.0.0 ≤ later.0.0) links × ParentsRise links

less_of : (x y : ℕ) → nat_cmp x y ≡ Less → x < y
less_of x y h = let r : MatchOrdering Less (x < y) (x ≡ y) (y < x) = ranked x y Less (sym h) in r

rise_below : (x : ℕ) (xs : List ℕ) → AllByRecursion (λ y. nat_cmp x y ≡ Less) xs → AllByRecursion (λ y. x < y) xs
rise_below x [] a = tt
rise_below x (y ∷ xs) a = (less_of x y a.0, rise_below x xs a.1)

rise_of : (xs : List ℕ) → IsStrictlySortedBy nat_cmp xs → Rise xs
unfolding IsStrictlySortedBy
rise_of [] s = tt
rise_of (x ∷ xs) s = (rise_below x xs s.0, rise_of xs s.1)

parent_of_less : (r : Ordering) (x y : ℕ) (rest : Ordering) → r ≡ nat_cmp x y → ordering_then r rest ≡ Less → x ≤ y
parent_of_less Less x y rest e h = let l = less_of x y (sym e) in omega arith
parent_of_less Equal x y rest e h = let r : MatchOrdering Equal (x < y) (x ≡ y) (y < x) = ranked x y Equal e in omega (arith, r)
parent_of_less Greater x y rest e h = absurd cc

parents_below : (link : Link) (links : List Link) → AllByRecursion (λ k. place_cmp link.0 k ≡ Less) (keys_of links)
    → AllByRecursion (λ later. link.0.0 ≤ later.0.0) links
parents_below link [] a = tt
parents_below link (later ∷ links) a = (
  parent_of_less (nat_cmp link.0.0 later.0.0) link.0.0 later.0.0 (slice_cmp nat_cmp link.0.1 later.0.1) refl a.0,
  parents_below link links a.1,
)

parents_rise : (links : List Link) → IsStrictlySortedBy place_cmp (keys_of links) → ParentsRise links
unfolding IsStrictlySortedBy
parents_rise [] s = tt
parents_rise (link ∷ links) s = (parents_below link links s.0, parents_rise links s.1)

-- ---- directory by directory

abbrev by_directory : List ℕ → List Link → List Link
by_directory directories links = flat_map (λ d. links_in links d) directories

none_at_all : (ds : List ℕ) → by_directory ds [] ≡ []
none_at_all [] = refl
none_at_all (d ∷ ds) = none_at_all ds

-- a link in a directory before these
not_in_later : (link : Link) (links : List Link) (ds : List ℕ) → AllByRecursion (λ d. link.0.0 < d) ds
    → by_directory ds (link ∷ links) ≡ by_directory ds links
not_in_later link links [] a = refl
not_in_later link links (d ∷ ds) a =
    let other : (link.0.0 == d) ≡ false = ne_eqb link.0.0 d (λ e. let less = a.0 in omega arith) in
    ap (λ (b : Bool). cond b (link ∷ links_in links d) (links_in links d) ++ by_directory ds (link ∷ links)) other
    ∙ ap (λ (l : List Link). links_in links d ++ l) (not_in_later link links ds a.1)

-- no link in a directory that comes before all links' directories
none_in_earlier : (d : ℕ) (links : List Link) → AllByRecursion (λ l. d < l.0.0) links → links_in links d ≡ []
none_in_earlier d [] a = refl
none_in_earlier d (link ∷ links) a =
    let other : (link.0.0 == d) ≡ false = ne_eqb link.0.0 d (λ e. let less = a.0 in omega arith) in
    ap (λ (b : Bool). cond b (link ∷ links_in links d) (links_in links d)) other ∙ none_in_earlier d links a.1

abbrev AreIn : List ℕ → List Link → Type 0
AreIn ds links = AllByRecursion (λ l. Has l.0.0 ds) links

-- links in directories that come after d
are_later : (d : ℕ) (ds : List ℕ) (links : List Link) → AllByRecursion (λ l. d < l.0.0) links → AreIn (d ∷ ds) links → AreIn ds links
are_later d ds [] a i = tt
are_later d ds (link ∷ links) a i =
    let less = a.0 in
    (⊎_elim (λ (e : d ≡ link.0.0). absurd (omega arith)) (λ (h : Has link.0.0 ds). h) i.0, are_later d ds links a.1 i.1)

all_above : (d p : ℕ) (links : List Link) → d < p → AllByRecursion (λ l. p ≤ l.0.0) links → AllByRecursion (λ l. d < l.0.0) links
all_above d p [] less a = tt
all_above d p (link ∷ links) less a = let up = a.0 in (omega arith, all_above d p links less a.1)

has_above : (d x : ℕ) (ds : List ℕ) → AllByRecursion (λ y. d < y) ds → Has x ds → d < x
has_above d x [] a h = absurd h
has_above d x (y ∷ ds) a h =
    ⊎_elim (λ (e : y ≡ x). let less = a.0 in omega arith) (λ (i : Has x ds). has_above d x ds a.1 i) h

-- the first directory, where the later ones are as they are to be
first_directory : (d : ℕ) (ds : List ℕ) → AllByRecursion (λ y. d < y) ds
    → ((links : List Link) → ParentsRise links → AreIn ds links → by_directory ds links ≡ links)
    → (links : List Link) → ParentsRise links → AreIn (d ∷ ds) links → by_directory (d ∷ ds) links ≡ links
first_directory d ds above more [] p i = none_at_all ds
first_directory d ds above more (link ∷ links) p i =
    ⊎_elim
    (λ (e : d ≡ link.0.0).
    let here : (link.0.0 == d) ≡ true = eq-eqb link.0.0 d (sym e) in
    ap (λ (b : Bool). cond b (link ∷ links_in links d) (links_in links d) ++ by_directory ds (link ∷ links)) here
    ∙ (ap (λ (l : List Link). link ∷ (links_in links d ++ l))
    (not_in_later link links ds (subst (λ (x : ℕ). AllByRecursion (λ y. x < y) ds) e above))
    ∙ ap (λ (l : List Link). link ∷ l) (first_directory d ds above more links p.1 i.1)))
    (λ (h : Has link.0.0 ds).
    let less = has_above d link.0.0 ds above h in
    let all : AllByRecursion (λ l. d < l.0.0) (link ∷ links) = (less, all_above d link.0.0 links less p.0) in
    ap (λ (l : List Link). l ++ by_directory ds (link ∷ links)) (none_in_earlier d (link ∷ links) all)
    ∙ more (link ∷ links) p (are_later d ds (link ∷ links) all i))
    i.0

in_order : (ds : List ℕ) (links : List Link) → Rise ds → ParentsRise links → AreIn ds links → by_directory ds links ≡ links
in_order [] [] r p i = refl
in_order [] (link ∷ links) r p i = absurd i.0
in_order (d ∷ ds) links r p i = first_directory d ds r.0 (λ more q j. in_order ds more r.1 q j) links p i

-- ---- in a tree

-- the numbers of the directories
abbrev directories : List (ℕ × Node) → List ℕ
directories [] = []
directories (node ∷ nodes) = cond (is_kind_file node.1.kind) (directories nodes) (node.0 ∷ directories nodes)

directories_above : (d : ℕ) (nodes : List (ℕ × Node)) → AllByRecursion (λ y. d < y) (keys_of nodes)
    → AllByRecursion (λ y. d < y) (directories nodes)
directories_above d [] a = tt
directories_above d (node ∷ nodes) a =
    elim (is_kind_file node.1.kind) as (λ b. AllByRecursion (λ y. d < y) (cond b (directories nodes) (node.0 ∷ directories nodes))) [
      | true ↦ directories_above d nodes a.1
      | false ↦ (a.0, directories_above d nodes a.1)
    ]

directories_rise : (nodes : List (ℕ × Node)) → Rise (keys_of nodes) → Rise (directories nodes)
directories_rise [] r = tt
directories_rise (node ∷ nodes) r =
    elim (is_kind_file node.1.kind) as (λ b. Rise (cond b (directories nodes) (node.0 ∷ directories nodes))) [
      | true ↦ directories_rise nodes r.1
      | false ↦ (directories_above node.0 nodes r.0, directories_rise nodes r.1)
    ]

among_directories : (ino : ℕ) (node : Node) (nodes : List (ℕ × Node)) → Has (ino, node) nodes → is_kind_file node.kind ≡ false
    → Has ino (directories nodes)
among_directories ino node [] h k = absurd h
among_directories ino node (other ∷ nodes) h k =
    elim (is_kind_file other.1.kind) as
    (λ b. is_kind_file other.1.kind ≡ b → Has ino (cond b (directories nodes) (other.0 ∷ directories nodes))) [
      | true ↦ λ e.
          ⊎_elim
          (λ (i : other ≡ (ino, node)). let f = ap (λ (x : ℕ × Node). is_kind_file x.1.kind) i in absurd cc)
          (λ (i : Has (ino, node) nodes). among_directories ino node nodes i k)
          h
      | false ↦ λ e.
          ⊎_elim
          (λ (i : other ≡ (ino, node)). inl (ap (λ (x : ℕ × Node). x.0) i))
          (λ (i : Has (ino, node) nodes). inr (among_directories ino node nodes i k))
          h
    ] refl

no_file : (kind : Kind) → not (is_kind_file kind) ≡ true → is_kind_file kind ≡ false
no_file Directory h = refl
no_file File h = absurd cc

directory_has : (ino : ℕ) (nodes : List (ℕ × Node)) (found : Option Node) → found ≡ lookup (is_at (nat_cmp ino)) nodes
    → is_directory_node found ≡ true → Has ino (directories nodes)
directory_has ino nodes None e h = absurd cc
directory_has ino nodes (Some node) e h = among_directories ino node nodes (found_has ino node nodes (sym e)) (no_file node.kind h)

parents_have : (fs : FileSystem) (links : List Link) → AllByRecursion (IsLink fs) links → AreIn (directories fs.nodes) links
parents_have fs [] a = tt
parents_have fs (link ∷ links) a =
    (directory_has link.0.0 fs.nodes (lookup (is_at (nat_cmp link.0.0)) fs.nodes) refl a.0.parent, parents_have fs links a.1)

by_node : (nodes : List (ℕ × Node)) (links : List Link) → links_by_directory nodes links ≡ by_directory (directories nodes) links
by_node [] links = refl
by_node (node ∷ nodes) links =
    elim node.1.kind as
    (λ k. links_in_node k node.0 links ++ links_by_directory nodes links
    ≡ by_directory (cond (is_kind_file k) (directories nodes) (node.0 ∷ directories nodes)) links) [
      | Directory ↦
          ap (λ (l : List Link). l ++ links_by_directory nodes links) (links_from_entries links node.0)
          ∙ ap (λ (l : List Link). links_in links node.0 ++ l) (by_node nodes links)
      | File ↦ by_node nodes links
    ]

pub links_of_tree : (fs : FileSystem) → IsTree fs → links_by_directory fs.nodes fs.links ≡ fs.links
links_of_tree fs t =
    by_node fs.nodes fs.links
    ∙ in_order (directories fs.nodes) fs.links (directories_rise fs.nodes (rise_of (keys_of fs.nodes) t.nodes_ascend))
    (parents_rise fs.links t.links_ascend) (parents_have fs fs.links t.links)
