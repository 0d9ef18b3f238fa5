-- There is one order of files by their addresses.
use Rattle.std.proofs.Common.{◌≡◌, ℕ, ◌+◌, ◌<◌, ◌≤◌, List, [], ◌∷◌, map, refl, ap, sym, ◌∙◌, subst, inl, inr, ⊎_elim, arith}
use Rattle.std.specs.Prelude.{IsPermutation}
use Rattle.std.specs.List.{AllByRecursion}
use Rattle.std.proofs.lemmas.List.Sorted.{Contains-permutation, IsPermutation-sym}
use Rattle.wu_base.proofs.EachLemmas.{each-permuted}
use Rattle.wu_base.proofs.Members.{Contains-from_Has, Has, Has-from_Contains}
use Rattle.wu_image.specs.declared.records.FileRec.{FileRec}
use Rattle.wu_image.specs.Checks.{AreApart, AreInOrder}
use Rattle.wu_image.specs.Images.{IsByAddress}
use Rattle.wu_image.proofs.RangesInOrder.{files_in_order}

-- the files' ranges are in order
abbrev pub FollowFrom : ℕ → List FileRec → Type 0
FollowFrom from files = AreInOrder from (map (λ file. file.range) files)

abbrev pub AreFilled : List FileRec → Type 0
AreFilled files = AllByRecursion (λ file. 0 < file.range.len) files

pub starts_later : (from : ℕ) (files : List FileRec) (file : FileRec) → FollowFrom from files → Has file files → from ≤ file.range.start
starts_later from [] file o h = absurd h
starts_later from (first ∷ files) file o h =
    ⊎_elim
    (λ (e : first ≡ file). subst (λ (f : FileRec). from ≤ f.range.start) e o.0)
    (λ i. omega (arith, o.0, starts_later (first.range.start + first.range.len) files file o.1 i))
    h

same_first : (x y : FileRec) (xs ys : List FileRec) → FollowFrom (x.range.start + x.range.len) xs
    → FollowFrom (y.range.start + y.range.len) ys → 0 < x.range.len → Has x (y ∷ ys) → Has y (x ∷ xs) → x ≡ y
same_first x y xs ys s t filled h g =
    ⊎_elim
    (λ (e : y ≡ x). sym e)
    (λ i.
    ⊎_elim
    (λ (e : x ≡ y). e)
    (λ j.
    absurd (omega (
      arith,
      filled,
      starts_later (y.range.start + y.range.len) ys x t i,
      starts_later (x.range.start + x.range.len) xs y s j,
    )))
    g)
    h

past_first : (file x y : FileRec) (xs ys : List FileRec) → FollowFrom (x.range.start + x.range.len) xs → 0 < x.range.len → x ≡ y
    → Has file xs → Has file (y ∷ ys) → Has file ys
past_first file x y xs ys s filled e h g =
    ⊎_elim
    (λ (f : y ≡ file).
    let same : x.range.start ≡ file.range.start = ap (λ (r : FileRec). r.range.start) (e ∙ f) in
    absurd (omega (arith, filled, same, starts_later (x.range.start + x.range.len) xs file s h)))
    (λ i. i)
    g

same_files : (m n : ℕ) (xs ys : List FileRec) → FollowFrom m xs → FollowFrom n ys → AreFilled xs → AreFilled ys
    → ((file : FileRec) → Has file xs → Has file ys) → ((file : FileRec) → Has file ys → Has file xs) → xs ≡ ys
same_files m n [] [] s t a b f g = refl
same_files m n [] (y ∷ ys) s t a b f g = absurd (g y (inl refl))
same_files m n (x ∷ xs) [] s t a b f g = absurd (f x (inl refl))
same_files m n (x ∷ xs) (y ∷ ys) s t a b f g =
    let e : x ≡ y = same_first x y xs ys s.1 t.1 a.0 (f x (inl refl)) (g y (inl refl)) in
    let rest : xs ≡ ys =
    same_files (x.range.start + x.range.len) (y.range.start + y.range.len) xs ys s.1 t.1 a.1 b.1
    (λ file h. past_first file x y xs ys s.1 a.0 e h (f file (inr h)))
    (λ file h. past_first file y x ys xs t.1 b.0 (sym e) h (g file (inr h))) in
    cc

pub moved_has : {X : Type 0} (xs ys : List X) (x : X) → IsPermutation xs ys → Has x xs → Has x ys
moved_has xs ys x moved has = Has-from_Contains x ys (Contains-permutation xs ys x moved (Contains-from_Has x xs has))

pub same_order : (files first second : List FileRec) → AreFilled files → AreApart files → IsByAddress files first
    → IsByAddress files second → first ≡ second
same_order files first second filled apart is its =
    same_files 0 0 first second (files_in_order files first is.moved is.ascend filled apart)
    (files_in_order files second its.moved its.ascend filled apart)
    (each-permuted (λ (file : FileRec). 0 < file.range.len) files first is.moved filled)
    (each-permuted (λ (file : FileRec). 0 < file.range.len) files second its.moved filled)
    (λ file h. moved_has files second file its.moved (moved_has first files file (IsPermutation-sym files first is.moved) h))
    (λ file h. moved_has files first file is.moved (moved_has second files file (IsPermutation-sym files second its.moved) h))
