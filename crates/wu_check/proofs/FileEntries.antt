-- What a layout keeps of recorded files: which numbers have an entry, and that their ranges share no address.
use Rattle.std.proofs.Common.{◌≡◌, ◌≢◌, ℕ, ◌+◌, ◌<◌, ◌≤◌, Bool, true, false, cond, List, [], ◌∷◌, map, count_by, Some, is_some}
use Rattle.std.proofs.Common.{refl, ap, sym, ◌∙◌, subst, inl, inr, ⊎_elim, arith}
use Rattle.std.specs.Prelude.{IfSome}
use Rattle.std.specs.Ordering.{is_eq, nat_cmp}
use Rattle.std.specs.List.{AllByRecursion}
use Rattle.std.specs.List.Sorted.{IsStrictlySortedBy}
use Rattle.std.specs.Map.{keys_of, lookup}
use Rattle.std.specs.BTreeMap.{is_at}
use Rattle.std.proofs.lemmas.Bool.{cases_lt, le-leb, lt-ltb}
use Rattle.wu_base.specs.declared.addresses.Range.{Range}
use Rattle.wu_base.specs.Ranges.{AreDisjoint, is_in}
use Rattle.wu_base.proofs.Members.{Has, all_from_has, all_has}
use Rattle.wu_layout.specs.Invariants.{RangesAreDisjoint}
use Rattle.wu_layout.specs.Layouts.{FileEntry, entry_of}
use Rattle.wu_layout.proofs.BlobLemmas.{count-cons}
use Rattle.wu_layout.proofs.EntryLemmas.{IfSome-map}
use Rattle.wu_tree.specs.FileSystems.{FileSystem, is_file}
use Rattle.wu_tree.proofs.ListTests.{keys_mapped}
use Rattle.wu_tree.proofs.ParentPaths.{same_number}
use Rattle.wu_image.specs.Checkpoints.{file_numbers}
use Rattle.wu_image.specs.Checks.{AreApart}
use Rattle.wu_image.specs.declared.records.FileRec.{FileRec}
use Rattle.wu_image.proofs.FileNumbers.{file_numbers_ascend, found_key, key_found, number_there, there_number}

-- ---- entries

abbrev pub entry_for : FileRec → FileEntry
entry_for file = record { blob = file.blob; range = file.range }

abbrev pub entries_of : List FileRec → List (ℕ × FileEntry)
entries_of files = map (λ file. (file.ino, entry_for file)) files

-- what is true of each file is true of the entry that is found
pub each_entry : (P : ℕ → FileEntry → Type 0) (files : List FileRec) → AllByRecursion (λ file. P file.ino (entry_for file)) files
    → (ino : ℕ) → IfSome (entry_of (entries_of files) ino) (P ino)
each_entry P [] all ino = tt
each_entry P (file ∷ files) all ino =
    elim (is_eq (nat_cmp ino file.ino)) as
    (λ b. is_eq (nat_cmp ino file.ino) ≡ b → IfSome (cond b (Some (entry_for file)) (entry_of (entries_of files) ino)) (P ino)) [
      | true ↦ λ e. subst (λ (n : ℕ). P n (entry_for file)) (sym (same_number ino file.ino e)) all.0
      | false ↦ λ e. each_entry P files all.1 ino
    ] refl

-- ---- the numbers of files

same_tests : (a b : Bool) → (a ≡ true → b ≡ true) → (b ≡ true → a ≡ true) → a ≡ b
same_tests true b f g = sym (f refl)
same_tests false true f g = g refl
same_tests false false f g = refl

-- where the keys are the numbers of the regular files, one is found exactly where it is that of a regular file
pub found_as_file : {X : Type 0} (entries : List (ℕ × X)) (tree : FileSystem) → IsStrictlySortedBy nat_cmp (keys_of tree.nodes)
    → keys_of entries ≡ file_numbers tree.nodes → (ino : ℕ) → is_some (lookup (is_at (nat_cmp ino)) entries) ≡ is_file tree ino
found_as_file entries tree ascend same ino =
    same_tests (is_some (lookup (is_at (nat_cmp ino)) entries)) (is_file tree ino)
    (λ e. there_number ino tree.nodes ascend (subst (Has ino) same (found_key ino entries e)))
    (λ e. key_found ino entries (subst (Has ino) (sym same) (number_there ino tree.nodes e)))

-- ---- ranges

has_counted : {X : Type 0} (test : X → Bool) (x : X) (xs : List X) → Has x xs → test x ≡ true → 1 ≤ count_by test xs
has_counted test x [] h t = absurd h
has_counted test x (y ∷ xs) h t =
    ⊎_elim
    (λ (e : y ≡ x).
    let one : cond {A = ℕ} (test y) 1 0 ≡ 1 = ap (λ (b : Bool). cond {A = ℕ} b 1 0) (ap test e ∙ t) in
    omega (arith, one, count-cons test y xs))
    (λ i. omega (arith, has_counted test x xs i t, count-cons test y xs))
    h

both_counted : {X : Type 0} (test : X → Bool) (x y : X) (xs : List X) → Has x xs → Has y xs → (x ≡ y → ⊥) → test x ≡ true
    → test y ≡ true → 2 ≤ count_by test xs
both_counted test x y [] h g differ t u = absurd h
both_counted {X} test x y (z ∷ xs) h g differ t u =
    let first : (w v : X) → z ≡ w → test w ≡ true → Has v xs → test v ≡ true → 2 ≤ count_by test (z ∷ xs) = λ w v e p i q.
    let one : cond {A = ℕ} (test z) 1 0 ≡ 1 = ap (λ (b : Bool). cond {A = ℕ} b 1 0) (ap test e ∙ p) in
    omega (arith, one, count-cons test z xs, has_counted test v xs i q) in
    ⊎_elim
    (λ (e : z ≡ x).
    ⊎_elim (λ (f : z ≡ y). absurd (differ (sym e ∙ f))) (λ (i : Has y xs). first x y e t i u) g)
    (λ (j : Has x xs).
    ⊎_elim
    (λ (f : z ≡ y). first y x f u j t)
    (λ (i : Has y xs). omega (arith, count-cons test z xs, both_counted test x y xs j i differ t u))
    g)
    h

in_range : (range : Range) (address : ℕ) → range.start ≤ address → address < range.start + range.len → is_in range address ≡ true
in_range range address from to = rw (le-leb range.start address from, lt-ltb address (range.start + range.len) to) refl

module _ (files : List FileRec) (filled : AllByRecursion (λ file. 0 < file.range.len) files) (apart : AreApart files) where
  shared : (file other : FileRec) → Has file files → Has other files → file.ino ≢ other.ino → (address : ℕ)
      → is_in file.range address ≡ true → is_in other.range address ≡ true → ⊥
  shared file other h g differ address t u =
      let both =
      both_counted (λ (f : FileRec). is_in f.range address) file other files h g (λ e. differ (ap (λ (f : FileRec). f.ino) e)) t u in
      omega (arith, both, apart address)

  lie_apart : (file other : FileRec) → Has file files → Has other files → file.ino ≢ other.ino → AreDisjoint file.range other.range
  lie_apart file other h g differ =
      let some : 0 < file.range.len = all_has (λ (f : FileRec). 0 < f.range.len) file files filled h in
      let its : 0 < other.range.len = all_has (λ (f : FileRec). 0 < f.range.len) other files filled g in
      ⊎_elim
      (λ (l : file.range.start < other.range.start).
      ⊎_elim
      (λ (within : other.range.start < file.range.start + file.range.len).
      absurd (shared file other h g differ other.range.start
      (in_range file.range other.range.start (omega (arith, l)) within)
      (in_range other.range other.range.start (omega arith) (omega (arith, its)))))
      (λ (behind : file.range.start + file.range.len ≤ other.range.start). inl behind)
      (cases_lt other.range.start (file.range.start + file.range.len)))
      (λ (l : other.range.start ≤ file.range.start).
      ⊎_elim
      (λ (within : file.range.start < other.range.start + other.range.len).
      absurd (shared file other h g differ file.range.start
      (in_range file.range file.range.start (omega arith) (omega (arith, some)))
      (in_range other.range file.range.start l within)))
      (λ (behind : other.range.start + other.range.len ≤ file.range.start). inr behind)
      (cases_lt file.range.start (other.range.start + other.range.len)))
      (cases_lt file.range.start other.range.start)

  -- one file beside the entry of that number
  apart_from : (file : FileRec) → Has file files → (q : ℕ) → file.ino ≢ q
      → IfSome (entry_of (entries_of files) q) (λ other. AreDisjoint file.range other.range)
  apart_from file h q differ =
      IfSome-map (λ (other : FileEntry). file.ino ≢ q → AreDisjoint file.range other.range)
      (λ (other : FileEntry). AreDisjoint file.range other.range) (entry_of (entries_of files) q) (λ other found. found differ)
      (each_entry (λ n other. file.ino ≢ n → AreDisjoint file.range other.range) files
      (all_from_has (λ (other : FileRec). file.ino ≢ other.ino → AreDisjoint file.range other.range) files
      (λ other g others. lie_apart file other h g others))
      q)

  each_apart : (p q : ℕ) → p ≢ q
      → IfSome (entry_of (entries_of files) p)
      (λ entry. IfSome (entry_of (entries_of files) q) (λ other. AreDisjoint entry.range other.range))
  each_apart p q differ =
      IfSome-map
      (λ (entry : FileEntry). p ≢ q → IfSome (entry_of (entries_of files) q) (λ other. AreDisjoint entry.range other.range))
      (λ (entry : FileEntry). IfSome (entry_of (entries_of files) q) (λ other. AreDisjoint entry.range other.range))
      (entry_of (entries_of files) p) (λ entry found. found differ)
      (each_entry (λ n entry. n ≢ q → IfSome (entry_of (entries_of files) q) (λ other. AreDisjoint entry.range other.range)) files
      (all_from_has
      (λ (file : FileRec). file.ino ≢ q → IfSome (entry_of (entries_of files) q) (λ other. AreDisjoint file.range other.range)) files
      (λ file h others. apart_from file h q others))
      p)

  pub files_disjoint : (tree : FileSystem) (next : ℕ) → IsStrictlySortedBy nat_cmp (keys_of tree.nodes)
      → map (λ file. file.ino) files ≡ file_numbers tree.nodes → AllByRecursion (λ file. file.range.start + file.range.len ≤ next) files
      → RangesAreDisjoint (is_file tree) next (entries_of files)
  files_disjoint tree next ascend same within =
      let keys : keys_of (entries_of files) ≡ file_numbers tree.nodes =
      keys_mapped (λ (file : FileRec). (file.ino, entry_for file)) files ∙ same in
      record {
        by_number = subst (IsStrictlySortedBy nat_cmp) (sym keys) (file_numbers_ascend tree.nodes ascend);
        of_files = found_as_file (entries_of files) tree ascend keys;
        within = each_entry (λ n entry. entry.range.start + entry.range.len ≤ next) files within;
        apart = each_apart;
      }
