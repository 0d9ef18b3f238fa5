-- Of files that ascend by their paths those that come first: each file by its least path.
use Rattle.std.proofs.Common.{◌≡◌, ℕ, List, [], ◌∷◌, refl, ap, sym, ◌∙◌, subst, inl, inr, ⊎_elim, Bool, true, false, not, cond}
use Rattle.std.specs.Prelude.{◌==◌, map, filter}
use Rattle.std.specs.declared.cmp.Ordering.TheVariants.{Less, Equal}
use Rattle.std.specs.List.{AllByRecursion}
use Rattle.std.specs.List.Sorted.{IsStrictlySortedBy}
use Rattle.std.proofs.lemmas.Cmp.{tied_itself, nat_list_cmp_total}
use borrow.Author.Tests.{eqb-true, eq-eqb}
use Rattle.wu_view.specs.Groups.{firsts}
use Rattle.wu_view.specs.Views.{path_cmp}
use Rattle.wu_view.specs.Walks.{Found}
use Rattle.wu_base.proofs.Members.{Has, Has-filter, filter_has, all_has, all_from_has, map_has, Has-map}

abbrev pub path_of_found : Found → List ℕ
path_of_found found = found.1

-- the files ascend by their paths
abbrev pub Ascend : List Found → Type 0
Ascend files = IsStrictlySortedBy path_cmp (map path_of_found files)

-- no path of the file is less
abbrev pub IsLeast : Found → List Found → Type 0
IsLeast file files = (other : Found) → Has other files → other.0 ≡ file.0 → path_cmp other.1 file.1 ≡ Less → ⊥

below_has : (file other : Found) (files : List Found) → AllByRecursion (λ p. path_cmp file.1 p ≡ Less) (map path_of_found files)
    → Has other files → path_cmp file.1 other.1 ≡ Less
below_has file other files a h = all_has (λ p. path_cmp file.1 p ≡ Less) other.1 (map path_of_found files) a
    (Has-map path_of_found other files h)

pub never_both : (p q : List ℕ) → path_cmp p q ≡ Less → path_cmp q p ≡ Less → ⊥
never_both p q a b =
    let t : path_cmp p p ≡ Less = nat_list_cmp_total.trans p q p a b in
    let e : path_cmp p p ≡ Equal = tied_itself nat_list_cmp_total p in
    cc

other_is : (file other : Found) → not (other.0 == file.0) ≡ true → other.0 ≡ file.0 → ⊥
other_is file other h e = let f : not true ≡ true = rw (eq-eqb other.0 file.0 e) at h in cc

is_other : (file other : Found) → (other.0 ≡ file.0 → ⊥) → not (other.0 == file.0) ≡ true
is_other file other h =
    elim (other.0 == file.0) as (λ b. (other.0 == file.0) ≡ b → not b ≡ true) [
      | true ↦ λ e. absurd (h (eqb-true other.0 file.0 e))
      | false ↦ λ e. refl
    ] refl

pub first_is_least : (files : List Found) → Ascend files → (file : Found) → Has file (firsts files) → Has file files × IsLeast file files
unfolding IsStrictlySortedBy
first_is_least [] s file h = absurd h
first_is_least (f ∷ files) s file h =
    ⊎_elim
    (λ e. (
      inl e,
      λ other i n l.
          ⊎_elim
          (λ g. let d : path_cmp f.1 f.1 ≡ Less = subst (λ (x : Found). path_cmp f.1 x.1 ≡ Less) (sym e)
          (subst (λ (x : Found). path_cmp x.1 file.1 ≡ Less) (sym g) l) in let t : path_cmp f.1 f.1
          ≡ Equal = tied_itself nat_list_cmp_total f.1 in cc)
          (λ j. never_both f.1 other.1 (below_has f other files s.0 j) (subst (λ (x : Found). path_cmp other.1 x.1 ≡ Less) (sym e) l))
          i,
    ))
    (λ i.
    let r = filter_has (λ other. not (other.0 == f.0)) file (firsts files) i in
    let m = first_is_least files s.1 file r.0 in (
      inr m.0,
      λ other j n l.
          ⊎_elim
          (λ g. other_is f file r.1 (sym (ap (λ (x : Found). x.0) g ∙ n)))
          (λ k. m.1 other k n l)
          j,
    ))
    h

pub least_is_first : (files : List Found) → Ascend files → (file : Found) → Has file files → IsLeast file files → Has file (firsts files)
unfolding IsStrictlySortedBy
least_is_first [] s file h m = absurd h
least_is_first (f ∷ files) s file h m =
    ⊎_elim
    (λ e. inl e)
    (λ i. inr (Has-filter (λ other. not (other.0 == f.0)) file (firsts files)
    (least_is_first files s.1 file i (λ other j n l. m other (inr j) n l))
    (is_other f file (λ e. m f (inl refl) (sym e) (below_has f file files s.0 i)))))
    h

-- ---- the first ones ascend too
kept_below : (p : Found → Bool) (P : List ℕ → Type 0) (files : List Found) → AllByRecursion P (map path_of_found files)
    → AllByRecursion P (map path_of_found (filter p files))
kept_below p P files a = all_from_has P (map path_of_found (filter p files))
    (λ x h. let r = map_has path_of_found x (filter p files) h in
    subst P r.1.1 (all_has P (path_of_found r.0) (map path_of_found files) a
    (Has-map path_of_found r.0 files (filter_has p r.0 files r.1.0).0)))

pub kept_ascend : (p : Found → Bool) (files : List Found) → Ascend files → Ascend (filter p files)
unfolding IsStrictlySortedBy
kept_ascend p [] s = tt
kept_ascend p (f ∷ files) s =
    elim (p f) as (λ b. Ascend (cond b (f ∷ filter p files) (filter p files))) [
      | true ↦ (kept_below p (λ q. path_cmp f.1 q ≡ Less) files s.0, kept_ascend p files s.1)
      | false ↦ kept_ascend p files s.1
    ]

firsts_below : (P : List ℕ → Type 0) (files : List Found) → AllByRecursion P (map path_of_found files)
    → AllByRecursion P (map path_of_found (firsts files))
firsts_below P [] a = tt
firsts_below P (f ∷ files) a = (a.0, kept_below (λ other. not (other.0 == f.0)) P (firsts files) (firsts_below P files a.1))

pub firsts_ascend : (files : List Found) → Ascend files → Ascend (firsts files)
unfolding IsStrictlySortedBy
firsts_ascend [] s = tt
firsts_ascend (f ∷ files) s = (
  kept_below (λ other. not (other.0 == f.0)) (λ q. path_cmp f.1 q ≡ Less) (firsts files)
      (firsts_below (λ q. path_cmp f.1 q ≡ Less) files s.0),
  kept_ascend (λ other. not (other.0 == f.0)) (firsts files) (firsts_ascend files s.1),
)
