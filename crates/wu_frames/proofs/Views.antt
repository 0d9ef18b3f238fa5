-- A view shows each file once, so that it has no more files than there are numbers.
use Rattle.std.proofs.Common.{◌≡◌, ℕ, ◌<◌, ◌≤◌, Bool, true, false, cond, eqb, List, [], ◌∷◌, length, take, refl, ap, sym, ◌∙◌, subst, inl}
use Rattle.std.proofs.Common.{inr, arith}
use Rattle.std.specs.Prelude.{◌==◌, count_by, map, filter, not}
use Rattle.std.specs.declared.cmp.Ordering.TheVariants.{Less, Equal}
use Rattle.std.specs.List.{AllByRecursion, IsDistinct}
use Rattle.std.specs.List.Sorted.{IsStrictlySortedBy}
use Rattle.std.proofs.lemmas.Bool.{eqb-true, eq-eqb, ne_eqb, cond-false, cond-true}
use Rattle.std.proofs.lemmas.Cmp.{tied_itself}
use Rattle.std.proofs.lemmas.List.{length-map}
use Rattle.std.proofs.lemmas.List.Sums.{sum_by-cons, sum_by-take-le}
use Rattle.std.proofs.lemmas.Map.Steps.{length-le_from_distinct_below}
use Rattle.wu_base.proofs.Members.{Has, filter_has, map_has, any_has, all_has}
use Rattle.wu_base.proofs.SortedLists.{sorted-sorted_once, sorted_once_has}
use Rattle.wu_base.specs.SortedOnce.{sorted_once}
use Rattle.wu_tree.specs.declared.events.Node.{Node}
use Rattle.wu_tree.specs.FileSystems.{FileSystem, groups_of}
use Rattle.wu_view.specs.declared.Seen.{Seen}
use Rattle.wu_view.specs.Views.{seen_as, seen_cmp, is_readable, is_empty, view_for, view_of, user_with}
use Rattle.wu_view.proofs.ShownFiles.{seen_exact, seen_total}

-- no file is there twice
abbrev pub IsOnce : List Seen → Type 0
IsOnce view = (ino : ℕ) → count_by (λ file. file.ino == ino) view ≤ 1

cond-le : (b : Bool) → cond {A = ℕ} b 1 0 ≤ 1
cond-le true = omega arith
cond-le false = omega arith

module _ (fs : FileSystem) (uid : ℕ) where
  -- what is shown of the file of that number, to the user
  abbrev shown_of : ℕ → Seen
  shown_of ino = seen_as fs (user_with uid (groups_of fs uid)) ino

  abbrev AreShown : List Seen → Type 0
  AreShown files = (file : Seen) → Has file files → file ≡ shown_of file.ino

  never_less : (a b : Seen) → a ≡ b → seen_cmp a b ≡ Less → ⊥
  never_less a b e h =
      let r : seen_cmp a b ≡ Equal = subst (λ (x : Seen). seen_cmp a x ≡ Equal) e (tied_itself seen_total a) in
      cc

  none-again : (ino : ℕ) (first : Seen) (files : List Seen) → first.ino ≡ ino → first ≡ shown_of first.ino
      → AllByRecursion (λ later. seen_cmp first later ≡ Less) files → AreShown files
      → count_by (λ file. file.ino == ino) files ≡ 0
  none-again ino first [] e f a s = refl
  none-again ino first (file ∷ files) e f a s =
      let other : file.ino ≡ ino → ⊥ = λ g.
      never_less first file (f ∙ ap shown_of (e ∙ sym g) ∙ sym (s file (inl refl))) a.0 in
      omega (
        arith,
        sum_by-cons (λ (x : Seen). cond {A = ℕ} (x.ino == ino) 1 0) file files,
        cond-false {A = ℕ} (file.ino == ino) 1 0 (ne_eqb file.ino ino other),
        none-again ino first files e f a.1 (λ x h. s x (inr h)),
      )

  once-from_shown : (files : List Seen) → IsStrictlySortedBy seen_cmp files → AreShown files → IsOnce files
  unfolding IsStrictlySortedBy
  once-from_shown [] o s ino = omega arith
  once-from_shown (file ∷ files) o s ino =
      elim (file.ino == ino) as (λ b. (file.ino == ino) ≡ b → count_by (λ (x : Seen). x.ino == ino) (file ∷ files) ≤ 1) [
        | true ↦ λ p.
            omega (
              arith,
              sum_by-cons (λ (x : Seen). cond {A = ℕ} (x.ino == ino) 1 0) file files,
              cond-le (file.ino == ino),
              none-again ino file files (eqb-true file.ino ino p) (s file (inl refl)) o.0 (λ x h. s x (inr h)),
            )
        | false ↦ λ p.
            omega (
              arith,
              sum_by-cons (λ (x : Seen). cond {A = ℕ} (x.ino == ino) 1 0) file files,
              cond-false {A = ℕ} (file.ino == ino) 1 0 p,
              once-from_shown files o.1 (λ x h. s x (inr h)) ino,
            )
      ] refl

  pub view_of-once : IsOnce (view_of fs uid)
  unfolding view_of view_for
  view_of-once =
      let readable : List (ℕ × Node) = filter (λ node. is_readable fs (user_with uid (groups_of fs uid)) node.0) fs.nodes in
      let shown : List Seen = map (λ (node : ℕ × Node). shown_of node.0) readable in
      let opened : List Seen = filter (λ (seen : Seen). not (is_empty seen.paths)) shown in
      once-from_shown (sorted_once seen_cmp opened) (sorted-sorted_once seen_total seen_exact opened)
      (λ file h.
      let a : Has file opened = sorted_once_has seen_total seen_exact file opened h in
      let b = filter_has (λ (seen : Seen). not (is_empty seen.paths)) file shown a in
      let n = map_has (λ (node : ℕ × Node). shown_of node.0) file readable b.0 in
      let e : shown_of n.0.0 ≡ file = n.1.1 in
      let ino : n.0.0 ≡ file.ino = ap (λ (x : Seen). x.ino) e in
      sym e ∙ ap shown_of ino)

-- ---- how many files

none-equal : (ino : ℕ) (files : List Seen) → count_by (λ file. file.ino == ino) files ≡ 0
    → AllByRecursion (λ other. eqb ino other ≡ false) (map (λ file. file.ino) files)
none-equal ino [] h = tt
none-equal ino (file ∷ files) h =
    let s = sum_by-cons (λ (x : Seen). cond {A = ℕ} (x.ino == ino) 1 0) file files in
    let other : ino ≡ file.ino → ⊥ = λ e. omega (arith, s, h, cond-true {A = ℕ} (file.ino == ino) 1 0 (eq-eqb file.ino ino (sym e))) in
    (ne_eqb ino file.ino other, none-equal ino files (omega (arith, s, h)))

distinct-from_once : (files : List Seen) → IsOnce files → IsDistinct eqb (map (λ file. file.ino) files)
unfolding IsDistinct
distinct-from_once [] o = tt
distinct-from_once (file ∷ files) o =
    let s = sum_by-cons (λ (x : Seen). cond {A = ℕ} (x.ino == file.ino) 1 0) file files in (
      none-equal file.ino files
          (omega (arith, s, o file.ino, cond-true {A = ℕ} (file.ino == file.ino) 1 0 (eq-eqb file.ino file.ino refl))),
      distinct-from_once files (λ ino. omega (arith, sum_by-cons (λ (x : Seen). cond {A = ℕ} (x.ino == ino) 1 0) file files, o ino)),
    )

pub few-from_once : (files : List Seen) (n : ℕ) → IsOnce files → AllByRecursion (λ file. file.ino < n) files → length files ≤ n
few-from_once files n o a =
    let numbers : List ℕ = map (λ (file : Seen). file.ino) files in
    let few : length numbers ≤ n = length-le_from_distinct_below numbers n (distinct-from_once files o)
    (λ q h.
    let r = any_has (eqb q) numbers h in
    let e : q ≡ r.0 = eqb-true q r.0 r.1.1 in
    let f = map_has (λ (file : Seen). file.ino) r.0 files r.1.0 in
    omega (arith, e, f.1.1, all_has (λ (file : Seen). file.ino < n) f.0 files a f.1.0)) in
    omega (arith, length-map files (λ (file : Seen). file.ino))

pub take-once : (files : List Seen) (n : ℕ) → IsOnce files → IsOnce (take n files)
take-once files n o ino = omega (arith, o ino, sum_by-take-le (λ (x : Seen). cond {A = ℕ} (x.ino == ino) 1 0) files n)
