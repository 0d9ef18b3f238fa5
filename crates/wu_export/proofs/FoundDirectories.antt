-- The directories that are found on paths are those on the paths.
use Rattle.std.proofs.Common.{◌≡◌, ℕ, zero, suc, ◌+◌, ◌-◌, ◌<◌, ◌≤◌, Bool, true, List, [], ◌∷◌, ◌++◌, length, get_or, take, refl, ap, sym}
use Rattle.std.proofs.Common.{◌∙◌, subst, append_assoc, arith, inl, inr, ⊎_elim}
use Rattle.std.specs.Prelude.{◌⊎◌, map, filter}
use Rattle.std.specs.List.{flat_map, range_with_len}
use Rattle.std.proofs.lemmas.Bool.{cases_lt}
use Rattle.std.proofs.lemmas.Cmp.{nat_list_cmp_total}
use Rattle.std.proofs.lemmas.List.{map-append, take_all, take_more}
use Rattle.std.proofs.lemmas.List.Elements.{filter-append}
use Rattle.std.proofs.lemmas.Map.Lookups.{exact_bytes}
use Rattle.wu_base.specs.SortedOnce.{sorted_once}
use Rattle.wu_base.proofs.Members.{Has, Has-from_Contains, Contains-from_Has, Has-append_left, Has-append_right, Has-append_cases}
use Rattle.wu_base.proofs.Members.{Has-map, map_has, Has-filter, filter_has, Has-flat_map, flat_map_has}
use Rattle.wu_base.proofs.SortedLists.{IsWithin, same-sorted_once, has-sorted_once, sorted_once_has}
use Rattle.wu_view.specs.Views.{path_cmp}
use Rattle.wu_export.specs.Exports.{is_slash, before_slashes, directories_on}
use Rattle.wu_export.specs.Finding.{HaveTheSame, AreShared}

-- ---- ranges

range_has : (a n k : ℕ) → Has k (range_with_len a n) → (a ≤ k) × (k < a + n)
range_has a zero k h = absurd h
range_has a (suc n) k h =
    ⊎_elim
    (λ (e : a ≡ k). (omega (arith, e), omega (arith, e)))
    (λ (i : Has k (range_with_len (a + 1) n)). let r = range_has (a + 1) n k i in (omega (arith, r.0), omega (arith, r.1)))
    h

has_range : (a n k : ℕ) → a ≤ k → k < a + n → Has k (range_with_len a n)
has_range a zero k low high = absurd (omega arith)
has_range a (suc n) k low high =
    ⊎_elim
    (λ (l : a < k). inr (has_range (a + 1) n k (omega arith) (omega arith)))
    (λ (l : k ≤ a). let e : a ≡ k = omega arith in inl e)
    (cases_lt a k)

range-more : (a n k : ℕ) → a + n ≡ k → range_with_len a (suc n) ≡ range_with_len a n ++ k ∷ []
range-more a zero k e = let same : a ≡ k = omega arith in ap (λ (x : ℕ). x ∷ []) same
range-more a (suc n) k e = ap (λ (xs : List ℕ). a ∷ xs) (range-more (a + 1) n k (omega arith))

-- ---- what stands before slashes

slashes-append : (ps qs path : List ℕ) → before_slashes (ps ++ qs) path ≡ before_slashes ps path ++ before_slashes qs path
slashes-append ps qs path =
    let test : ℕ → Bool = λ place. is_slash (get_or path place 0) in
    let cut : ℕ → List ℕ = λ place. take place path in
    ap (map cut) (filter-append test ps qs) ∙ map-append cut (filter test ps) (filter test qs)

-- one place further
pub slashes_more : (path : List ℕ) (start place : ℕ) (old now new : List (List ℕ)) → start ≤ place
    → now ≡ old ++ before_slashes (range_with_len start (place - start)) path
    → new ≡ now ++ before_slashes (place ∷ []) path
    → new ≡ old ++ before_slashes (range_with_len start (place + 1 - start)) path
slashes_more path start place old now new low e f =
    let done : List (List ℕ) = before_slashes (range_with_len start (place - start)) path in
    let next : List (List ℕ) = before_slashes (place ∷ []) path in
    let count : place + 1 - start ≡ suc (place - start) = omega arith in
    let range : range_with_len start (place + 1 - start) ≡ range_with_len start (place - start) ++ place ∷ [] =
    ap (range_with_len start) count ∙ range-more start (place - start) place (omega arith) in
    let more : before_slashes (range_with_len start (place + 1 - start)) path ≡ done ++ next =
    ap (λ (places : List ℕ). before_slashes places path) range ∙ slashes-append (range_with_len start (place - start)) (place ∷ []) path in
    f ∙ ap (λ (l : List (List ℕ)). l ++ next) e ∙ append_assoc old done next ∙ ap (λ (l : List (List ℕ)). old ++ l) (sym more)

pub slashes_has : (start n : ℕ) (path q : List ℕ) → Has q (before_slashes (range_with_len start n) path)
    → (place : ℕ) × ((start ≤ place) × (place < start + n) × (is_slash (get_or path place 0) ≡ true) × (take place path ≡ q))
slashes_has start n path q h =
    let test : ℕ → Bool = λ place. is_slash (get_or path place 0) in
    let m = map_has (λ (place : ℕ). take place path) q (filter test (range_with_len start n)) h in
    let f = filter_has test m.0 (range_with_len start n) m.1.0 in
    let r = range_has start n m.0 f.0 in
    (m.0, (r.0, r.1, f.1, m.1.1))

pub has_slashes : (start n place : ℕ) (path : List ℕ) → start ≤ place → place < start + n → is_slash (get_or path place 0) ≡ true
    → Has (take place path) (before_slashes (range_with_len start n) path)
has_slashes start n place path low high is =
    let test : ℕ → Bool = λ place. is_slash (get_or path place 0) in
    Has-map (λ (p : ℕ). take p path) place (filter test (range_with_len start n))
    (Has-filter test place (range_with_len start n) (has_range start n place low high) is)

-- those from a place on are among all
later-within : (start : ℕ) (path : List ℕ) → start ≤ length path
    → IsWithin (before_slashes (range_with_len start (length path - start)) path) (directories_on path)
later-within start path within q h =
    let r = slashes_has start (length path - start) path q h in
    subst (λ (l : List ℕ). Has l (directories_on path)) r.1.3
    (has_slashes 0 (length path) r.0 path (omega arith) (omega (arith, r.1.1)) r.1.2)

-- ---- paths that begin alike

take-same : (n : ℕ) (xs ys : List ℕ) → n ≤ length xs → n ≤ length ys → ((k : ℕ) → k < n → get_or xs k 0 ≡ get_or ys k 0) → take n xs ≡ take n ys
take-same zero xs ys a b same = refl
take-same (suc n) [] ys a b same = absurd (omega arith)
take-same (suc n) (x ∷ xs) [] a b same = absurd (omega arith)
take-same (suc n) (x ∷ xs) (y ∷ ys) a b same =
    let first : x ≡ y = same zero (omega arith) in
    let rest : take n xs ≡ take n ys = take-same n xs ys (omega arith) (omega arith) (λ k l. same (suc k) (omega arith)) in
    cc

-- a directory on a path is on the one before it, or stands after what they share
either : (shared : ℕ) (before path q : List ℕ) → AreShared shared before path → Has q (directories_on path)
    → Has q (directories_on before) ⊎ Has q (before_slashes (range_with_len shared (length path - shared)) path)
either shared before path q s h =
    let r = slashes_has 0 (length path) path q h in
    let place : ℕ = r.0 in
    ⊎_elim
    (λ (l : place < shared).
    let is : is_slash (get_or before place 0) ≡ true = ap is_slash (s.same place l) ∙ r.1.2 in
    let cut : take place before ≡ take place path =
    take-same place before path (omega (arith, s.within_before)) (omega (arith, s.within)) (λ k b. s.same k (omega arith)) in
    inl (subst (λ (x : List ℕ). Has x (directories_on before)) (cut ∙ r.1.3)
    (has_slashes 0 (length before) place before (omega arith) (omega (arith, s.within_before)) is)))
    (λ (l : shared ≤ place).
    inr (subst (λ (x : List ℕ). Has x (before_slashes (range_with_len shared (length path - shared)) path)) r.1.3
    (has_slashes shared (length path - shared) place path l (omega (arith, s.within, r.1.1)) r.1.2)))
    (cases_lt place shared)

-- ---- the loop

-- what is found on these paths, of which `before` is the last
pub record IsFound (files found : List (List ℕ)) (before : List ℕ) : Type 0 where
  pub within : IsWithin found (flat_map directories_on files)
  pub all : IsWithin (flat_map directories_on files) found
  pub last : IsWithin (directories_on before) found

pub found_none : IsFound [] [] []
found_none = record { within = λ q h. h; all = λ q h. h; last = λ q h. h }

found_more : (files found new : List (List ℕ)) (before path : List ℕ) (shared : ℕ) → IsFound files found before → AreShared shared before path
    → new ≡ found ++ before_slashes (range_with_len shared (length path - shared)) path
    → IsFound (files ++ path ∷ []) new path
found_more files found new before path shared f s e =
    let added : List (List ℕ) = before_slashes (range_with_len shared (length path - shared)) path in
    let longer : List (List ℕ) = files ++ path ∷ [] in
    let last : IsWithin (directories_on path) (found ++ added) = λ q h.
    ⊎_elim
    (λ (a : Has q (directories_on before)). Has-append_left q found added (f.last q a))
    (λ (b : Has q added). Has-append_right q found added b)
    (either shared before path q s h) in
    let within : IsWithin (found ++ added) (flat_map directories_on longer) = λ q h.
    ⊎_elim
    (λ (a : Has q found).
    let r = flat_map_has directories_on q files (f.within q a) in
    Has-flat_map directories_on q r.0 longer (Has-append_left r.0 files (path ∷ []) r.1.0) r.1.1)
    (λ (b : Has q added).
    Has-flat_map directories_on q path longer (Has-append_right path files (path ∷ []) (inl refl)) (later-within shared path s.within q b))
    (Has-append_cases q found added h) in
    let all : IsWithin (flat_map directories_on longer) (found ++ added) = λ q h.
    let r = flat_map_has directories_on q longer h in
    ⊎_elim
    (λ (a : Has r.0 files). Has-append_left q found added (f.all q (Has-flat_map directories_on q r.0 files a r.1.1)))
    (λ (b : Has r.0 (path ∷ [])).
    ⊎_elim
    (λ (same : path ≡ r.0). last q (subst (λ (x : List ℕ). Has q (directories_on x)) (sym same) r.1.1))
    (λ (no : ⊥). absurd no)
    b)
    (Has-append_cases r.0 files (path ∷ []) r.1.0) in
    subst (λ (l : List (List ℕ)). IsFound longer l path) (sym e) (record { within = within; all = all; last = last })

same_from_found : (files found : List (List ℕ)) (before : List ℕ) → IsFound files found before → HaveTheSame found (flat_map directories_on files)
same_from_found files found before f = λ q. (
  λ h. Contains-from_Has q (flat_map directories_on files) (f.within q (Has-from_Contains q found h)),
  λ h. Contains-from_Has q found (f.all q (Has-from_Contains q (flat_map directories_on files) h)),
)

-- ---- all of them

pub collected : (found files paths : List (List ℕ)) → HaveTheSame found (flat_map directories_on files) → files ≡ sorted_once path_cmp paths
    → sorted_once path_cmp found ≡ sorted_once path_cmp (flat_map directories_on paths)
collected found files paths s e =
    same-sorted_once nat_list_cmp_total exact_bytes found (flat_map directories_on paths)
    (λ q h.
    let r = flat_map_has directories_on q files (Has-from_Contains q (flat_map directories_on files) ((s q).0 (Contains-from_Has q found h))) in
    Has-flat_map directories_on q r.0 paths
    (sorted_once_has nat_list_cmp_total exact_bytes r.0 paths (subst (λ (l : List (List ℕ)). Has r.0 l) e r.1.0)) r.1.1)
    (λ q h.
    let r = flat_map_has directories_on q paths h in
    Has-from_Contains q found ((s q).1 (Contains-from_Has q (flat_map directories_on files)
    (Has-flat_map directories_on q r.0 files
    (subst (λ (l : List (List ℕ)). Has r.0 l) (sym e) (has-sorted_once nat_list_cmp_total exact_bytes r.0 paths r.1.0)) r.1.1))))

-- ---- in the list of all

pub found_next : (files found new : List (List ℕ)) (before path file : List ℕ) (i shared : ℕ) → i < length files → path ≡ file
    → file ≡ get_or files i file → IsFound (take i files) found before → AreShared shared before path
    → new ≡ found ++ before_slashes (range_with_len shared (length path - shared)) path
    → IsFound (take (i + 1) files) new path
found_next files found new before path file i shared within is at f s e =
    let more : take i files ++ path ∷ [] ≡ take (i + 1) files =
    ap (λ (x : List ℕ). take i files ++ x ∷ []) (is ∙ at) ∙ sym (take_more files i file within) in
    subst (λ (l : List (List ℕ)). IsFound l new path) more (found_more (take i files) found new before path shared f s e)

pub found_all : (files found : List (List ℕ)) (before : List ℕ) (i : ℕ) → length files ≤ i → IsFound (take i files) found before
    → HaveTheSame found (flat_map directories_on files)
found_all files found before i end f =
    same_from_found files found before (subst (λ (l : List (List ℕ)). IsFound l found before) (take_all i files end) f)
