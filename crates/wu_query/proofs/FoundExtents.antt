-- The extents in a file's range, counted from its first address.
use Rattle.std.proofs.Common.{◌≡◌, ℕ, zero, suc, ◌+◌, ◌-◌, List, [], ◌∷◌, length, take, map, min, refl, sym, ap, ap₂, ◌∙◌, subst, arith}
use Rattle.std.proofs.Common.{append-nil}
use Rattle.std.specs.Prelude.{All}
use Rattle.std.specs.List.{AllByRecursion}
use Rattle.std.proofs.lemmas.List.{take-map, take_min}
use Rattle.std.proofs.lemmas.List.Elements.{All-from_recursion}
use Rattle.wu_base.specs.declared.addresses.Extent.{Extent}
use Rattle.wu_base.specs.declared.addresses.TermList.{TermList}
use Rattle.wu_gcl.specs.Extents.{hits}
use Rattle.wu_gcl.specs.Regions.{Region}
use Rattle.wu_image.specs.declared.records.FileRec.{FileRec}
use Rattle.wu_snip.specs.Snippets.{IsAscending, IsBefore}
use Rattle.wu_solve.specs.Addresses.{stands_by}
use Rattle.wu_solve.specs.Listing.{IsAscending as Ascend, IsBefore as Before}
use Rattle.wu_solve.specs.Solving.{frame_hits, frames_hits, moved}
use Rattle.wu_solve.proofs.Results.{hits_ascend, hits_in}
use Rattle.wu_solve.proofs.Sets.{all_from}
use Rattle.wu_query.specs.Finding.{IsBelow, counted_from, extents_of}

back : (start : ℕ) (x : Extent) → counted_from start (moved start x) ≡ x
back start x =
    let first : (start + x.start) - start ≡ x.start = omega arith in
    let last : (start + x.end) - start ≡ x.end = omega arith in
    ap₂ (λ (a b : ℕ). let made : Extent = record { start = a; end = b } in made) first last

-- counted from the address that they were moved by, they are as they were
pub counted_back : (start : ℕ) (xs : List Extent) → map (counted_from start) (map (moved start) xs) ≡ xs
counted_back start [] = refl
counted_back start (x ∷ xs) = ap₂ (λ (y : Extent) (ys : List Extent). y ∷ ys) (back start x) (counted_back start xs)

module _ (region : Region) (lists : List TermList) (file : FileRec) where
  -- they are those of a text as long as the range
  are_hits : extents_of region lists file ≡ hits region (stands_by lists file.range.start) file.range.len
  are_hits = counted_back file.range.start (hits region (stands_by lists file.range.start) file.range.len)

  all_below : AllByRecursion (IsBelow file.range.len) (extents_of region lists file)
  all_below =
      subst (AllByRecursion (IsBelow file.range.len)) (sym are_hits)
      (all_from (IsBelow file.range.len) (hits region (stands_by lists file.range.start) file.range.len)
      (λ x has. let in' = hits_in region (stands_by lists file.range.start) file.range.len x has in (in'.ordered, in'.within)))

  all_ascend : Ascend (extents_of region lists file)
  all_ascend = subst Ascend (sym are_hits) (hits_ascend region (stands_by lists file.range.start) file.range.len)

-- ---- the first of them

first_all : (P : Extent → Type 0) (n : ℕ) (xs : List Extent) → AllByRecursion P xs → AllByRecursion P (take n xs)
first_all P zero xs all = tt
first_all P (suc n) [] all = tt
first_all P (suc n) (x ∷ xs) all = (all.0, first_all P n xs all.1)

snips_before : (x : Extent) (xs : List Extent) → AllByRecursion (Before x) xs → AllByRecursion (IsBefore x) xs
snips_before x [] all = tt
snips_before x (y ∷ ys) all = (record { starts = all.0.starts; ends = all.0.ends }, snips_before x ys all.1)

first_ascend : (n : ℕ) (xs : List Extent) → Ascend xs → IsAscending (take n xs)
first_ascend zero xs up = tt
first_ascend (suc n) [] up = tt
first_ascend (suc n) (x ∷ xs) up = (first_all (IsBefore x) n xs (snips_before x xs up.0), first_ascend n xs up.1)

-- What the extents that are shown of a file are: the first ones of its range, inside it, ascending.
module _ (region : Region) (lists : List TermList) (file : FileRec) (left : ℕ) {count : ℕ} {found shown : List Extent}
    (found_is : found ≡ frames_hits region lists (file.range ∷ [])) (count_is : count ≡ min (length found) left)
    (shown_is : shown ≡ map (counted_from file.range.start) (take count found)) where
  pub first_are : shown ≡ take left (extents_of region lists file)
  first_are =
      let alone : found ≡ frame_hits region lists file.range = found_is ∙ append-nil (frame_hits region lists file.range) in
      let fewer : count ≡ min left (length found) = omega (arith, count_is) in
      shown_is ∙ ap (λ (n : ℕ). map (counted_from file.range.start) (take n found)) fewer
      ∙ ap (map (counted_from file.range.start)) (take_min left found)
      ∙ sym (take-map (counted_from file.range.start) left found)
      ∙ ap (λ (xs : List Extent). take left (map (counted_from file.range.start) xs)) alone

  pub first_below : All (IsBelow file.range.len) shown
  first_below =
      All-from_recursion (IsBelow file.range.len) shown
      (subst (AllByRecursion (IsBelow file.range.len)) (sym first_are)
      (first_all (IsBelow file.range.len) left (extents_of region lists file) (all_below region lists file)))

  pub first_rise : IsAscending shown
  first_rise = subst IsAscending (sym first_are) (first_ascend left (extents_of region lists file) (all_ascend region lists file))
