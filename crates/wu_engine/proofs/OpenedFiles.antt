-- The files that a checkpoint records, as an engine is made of them.
use Rattle.std.proofs.Common.{◌≡◌, ℕ, ◌+◌, ◌<◌, ◌≤◌, Bool, true, false, cond, List, [], ◌∷◌, refl, ap, sym, ◌∙◌, subst, arith, inl, inr}
use Rattle.std.proofs.Common.{⊎_elim}
use Rattle.std.specs.Prelude.{◌==◌, ◌↔◌, IsPermutation, Some, is_some, map, filter}
use Rattle.std.specs.declared.cmp.Ordering.TheVariants.{Less}
use Rattle.std.specs.Ordering.{is_eq, nat_cmp, ordering_reverse}
use Rattle.std.specs.Cmp.{nat_cmp_total}
use Rattle.std.specs.List.{AllByRecursion}
use Rattle.std.specs.List.Sorted.{IsStrictlySortedBy}
use Rattle.std.specs.Map.{keys_of, lookup}
use Rattle.std.specs.BTreeMap.{is_at}
use Rattle.std.proofs.lemmas.Bool.{cases_eq, eq-eqb, ne_eqb}
use Rattle.std.proofs.lemmas.List.Sorted.{Contains-permutation, IsPermutation-sym}
use Rattle.wu_base.specs.declared.addresses.Range.{Range}
use Rattle.wu_base.specs.declared.limits.TheConstants.{SPENT_AT}
use Rattle.wu_base.proofs.Members.{Contains-from_Has, Has, Has-from_Contains, Has-map, all_has}
use Rattle.wu_base.specs.Ranges.{is_in}
use Rattle.wu_tree.specs.declared.events.Node.{Node}
use Rattle.wu_tree.specs.FileSystems.{is_file_node, is_kind_file}
use Rattle.wu_tree.proofs.ListTests.{keys_mapped}
use Rattle.wu_tree.proofs.ParentPaths.{same_number}
use Rattle.wu_space.specs.Addresses.{Addresses, AreLive, IsSpace, Ranges}
use Rattle.wu_space.proofs.Live.{once-from_sorted}
use Rattle.wu_parts.specs.Contents.{Contents}
use Rattle.wu_image.specs.declared.checkpoints.Checkpoint.{Checkpoint}
use Rattle.wu_image.specs.declared.records.FileRec.{FileRec}
use Rattle.wu_image.specs.Checkpoints.{IsCheckpoint, file_numbers}
use Rattle.wu_image.proofs.FileNumbers.{file_numbers_ascend, kept_above}
use Rattle.wu_image.specs.LayoutRules.{AreLayoutRules, IsText}
use Rattle.wu_image.proofs.RuleLemmas.{sum_of_map}
use Rattle.wu_query.specs.Records.{recorded_ranges}
use Rattle.wu_query.specs.Soundness.{IsRecord, IsSound}
use Rattle.wu_engine.specs.Opened.{numbered, ranges_recorded}

-- ---- the files' numbers ascend

-- the number is below all of these
abbrev IsBelow : ℕ → List ℕ → Type 0
IsBelow number numbers = AllByRecursion (λ other. nat_cmp number other ≡ Less) numbers

pub numbers_ascend : (c : Checkpoint) → IsCheckpoint c → IsStrictlySortedBy nat_cmp (map (λ file. file.ino) c.files)
numbers_ascend c is = subst (IsStrictlySortedBy nat_cmp) (sym is.files) (file_numbers_ascend c.tree.nodes is.tree.nodes_ascend)

pub ranges_ascend : (files : List FileRec) → IsStrictlySortedBy nat_cmp (map (λ file. file.ino) files)
    → IsStrictlySortedBy nat_cmp (keys_of (ranges_recorded files))
ranges_ascend files s =
    subst (IsStrictlySortedBy nat_cmp) (sym (keys_mapped (λ (file : FileRec). (file.ino, file.range)) files)) s

pub records_ascend : (files : List FileRec) → IsStrictlySortedBy nat_cmp (map (λ file. file.ino) files)
    → IsStrictlySortedBy nat_cmp (keys_of (numbered files))
records_ascend files s = subst (IsStrictlySortedBy nat_cmp) (sym (keys_mapped (λ (file : FileRec). (file.ino, file)) files)) s

-- ---- the ranges are live ones

ranges_filled : (next : ℕ) (files : List FileRec) → AllByRecursion (IsText next) files
    → AllByRecursion (λ (file : ℕ × Range). 0 < file.1.len) (ranges_recorded files)
ranges_filled next [] a = tt
ranges_filled next (file ∷ files) a = (omega (arith, a.0.some), ranges_filled next files a.1)

ranges_given : (next : ℕ) (files : List FileRec) → AllByRecursion (IsText next) files
    → AllByRecursion (λ (file : ℕ × Range). file.1.start + file.1.len ≤ next) (ranges_recorded files)
ranges_given next [] a = tt
ranges_given next (file ∷ files) a = (a.0.within, ranges_given next files a.1)

pub ranges_live : (next next_blob flushes : ℕ) (c : Checkpoint) → AreLayoutRules next next_blob flushes c.files c.parts
    → IsStrictlySortedBy nat_cmp (map (λ file. file.ino) c.files) → AreLive next (ranges_recorded c.files)
ranges_live next next_blob flushes c rules s = record {
  once = once-from_sorted (ranges_recorded c.files) (ranges_ascend c.files s);
  disjoint = λ address.
      omega (
        arith,
        sum_of_map (λ (file : ℕ × Range). cond {A = ℕ} (is_in file.1 address) 1 0) (λ (file : FileRec). (file.ino, file.range)) c.files,
        rules.apart address,
      );
  filled = ranges_filled next c.files rules.texts;
  given = ranges_given next c.files rules.texts;
}

-- ---- a space of these ranges has no other

never_both : (x y : ℕ) → nat_cmp x y ≡ Less → nat_cmp y x ≡ Less → ⊥
never_both x y p q = let r : nat_cmp x y ≡ ordering_reverse Less = nat_cmp_total.antisymm x y ∙ ap ordering_reverse q in cc

later_above : (number : ℕ) (file : ℕ × Range) (files : Ranges) → IsBelow number (keys_of files) → Has file files
    → nat_cmp number file.0 ≡ Less
later_above number file files a h =
    all_has (λ (other : ℕ). nat_cmp number other ≡ Less) file.0 (keys_of files) a (Has-map (λ (e : ℕ × Range). e.0) file files h)

same_first : (x y : ℕ × Range) (xs ys : Ranges) → IsBelow x.0 (keys_of xs) → IsBelow y.0 (keys_of ys) → Has x (y ∷ ys) → Has y (x ∷ xs)
    → x ≡ y
same_first x y xs ys a b h g =
    ⊎_elim
    (λ (e : y ≡ x). sym e)
    (λ i.
    ⊎_elim
    (λ (e : x ≡ y). e)
    (λ j. absurd (never_both x.0 y.0 (later_above x.0 y xs a j) (later_above y.0 x ys b i)))
    g)
    h

past_first : (file x y : ℕ × Range) (xs ys : Ranges) → x ≡ y → IsBelow x.0 (keys_of xs) → Has file xs → Has file (y ∷ ys) → Has file ys
past_first file x y xs ys e a h g =
    ⊎_elim
    (λ (f : y ≡ file).
    let less : nat_cmp file.0 file.0 ≡ Less =
    subst (λ (v : ℕ × Range). nat_cmp v.0 file.0 ≡ Less) (e ∙ f) (later_above x.0 file xs a h) in
    absurd (never_both file.0 file.0 less less))
    (λ i. i)
    g

same_ranges : (xs ys : Ranges) → IsStrictlySortedBy nat_cmp (keys_of xs) → IsStrictlySortedBy nat_cmp (keys_of ys)
    → ((file : ℕ × Range) → Has file xs → Has file ys) → ((file : ℕ × Range) → Has file ys → Has file xs) → xs ≡ ys
unfolding IsStrictlySortedBy
same_ranges [] [] s t f g = refl
same_ranges [] (y ∷ ys) s t f g = absurd (g y (inl refl))
same_ranges (x ∷ xs) [] s t f g = absurd (f x (inl refl))
same_ranges (x ∷ xs) (y ∷ ys) s t f g =
    let e : x ≡ y = same_first x y xs ys s.0 t.0 (f x (inl refl)) (g y (inl refl)) in
    let rest : xs ≡ ys =
    same_ranges xs ys s.1 t.1 (λ file h. past_first file x y xs ys e s.0 h (f file (inr h)))
    (λ file h. past_first file y x ys xs (sym e) t.0 h (g file (inr h))) in
    cc

pub ranges_same : (xs ys : Ranges) → IsPermutation xs ys → IsStrictlySortedBy nat_cmp (keys_of xs)
    → IsStrictlySortedBy nat_cmp (keys_of ys) → ys ≡ xs
ranges_same xs ys moved s t =
    same_ranges ys xs t s
    (λ file h. Has-from_Contains file xs (Contains-permutation ys xs file (IsPermutation-sym xs ys moved) (Contains-from_Has file ys h)))
    (λ file h. Has-from_Contains file ys (Contains-permutation xs ys file moved (Contains-from_Has file xs h)))

pub space_is : (space : Addresses) (next : ℕ) (files : List FileRec) (given : Ranges) → space.next ≡ next → given ≡ ranges_recorded files
    → IsPermutation given space.ranges → IsStrictlySortedBy nat_cmp (map (λ file. file.ino) files) → IsSpace space
    → space ≡ record { next = next; ranges = ranges_recorded files }
space_is space next files given n g moved s is =
    let make : ℕ → Ranges → Addresses = λ m rs. record { next = m; ranges = rs } in
    let same : space.ranges ≡ ranges_recorded files =
    ranges_same (ranges_recorded files) space.ranges (subst (λ (rs : Ranges). IsPermutation rs space.ranges) g moved)
    (ranges_ascend files s)
    is.by_number in
    ap (λ m. make m space.ranges) n ∙ ap (λ rs. make next rs) same

-- ---- they are those of exactly the regular files

-- whether the number is among these
abbrev is_among : ℕ → List ℕ → Bool
is_among ino [] = false
is_among ino (number ∷ numbers) = cond (is_eq (nat_cmp ino number)) true (is_among ino numbers)

range_among : (ino : ℕ) (files : List FileRec)
    → is_some (lookup (is_at (nat_cmp ino)) (ranges_recorded files)) ≡ is_among ino (map (λ file. file.ino) files)
range_among ino [] = refl
range_among ino (file ∷ files) =
    elim (is_eq (nat_cmp ino file.ino)) as
    (λ b. is_some (cond b (Some file.range) (lookup (is_at (nat_cmp ino)) (ranges_recorded files)))
    ≡ cond b true (is_among ino (map (λ (f : FileRec). f.ino) files))) [
      | true ↦ refl
      | false ↦ range_among ino files
    ]

none_among : (ino : ℕ) (numbers : List ℕ) → IsBelow ino numbers → is_among ino numbers ≡ false
none_among ino [] a = refl
none_among ino (number ∷ numbers) a =
    let less : is_eq (nat_cmp ino number) ≡ false = ap is_eq a.0 in
    rw less (none_among ino numbers a.1)

-- the numbers of the nodes, of which the first is a file or not
abbrev numbers_with : Bool → ℕ × Node → List (ℕ × Node) → List ℕ
numbers_with b node nodes = map (λ (n : ℕ × Node). n.0)
    (cond b (node ∷ filter (λ n. is_kind_file n.1.kind) nodes) (filter (λ n. is_kind_file n.1.kind) nodes))

its_kind : (ino : ℕ) (node : ℕ × Node) (nodes : List (ℕ × Node)) → IsBelow node.0 (keys_of nodes) → is_eq (nat_cmp ino node.0) ≡ true
    → (b : Bool) → is_among ino (numbers_with b node nodes) ≡ b
its_kind ino node nodes s e true = rw e refl
its_kind ino node nodes s e false =
    let same : node.0 ≡ ino = sym (same_number ino node.0 e) in
    none_among ino (file_numbers nodes) (subst (λ (n : ℕ). IsBelow n (file_numbers nodes)) same (kept_above node.0 nodes s))

another_kind : (ino : ℕ) (node : ℕ × Node) (nodes : List (ℕ × Node)) → is_eq (nat_cmp ino node.0) ≡ false
    → is_among ino (file_numbers nodes) ≡ is_file_node (lookup (is_at (nat_cmp ino)) nodes)
    → (b : Bool) → is_among ino (numbers_with b node nodes) ≡ is_file_node (lookup (is_at (nat_cmp ino)) nodes)
another_kind ino node nodes e later true = rw e later
another_kind ino node nodes e later false = later

file_among : (ino : ℕ) (nodes : List (ℕ × Node)) → IsStrictlySortedBy nat_cmp (keys_of nodes)
    → is_among ino (file_numbers nodes) ≡ is_file_node (lookup (is_at (nat_cmp ino)) nodes)
unfolding IsStrictlySortedBy
file_among ino [] s = refl
file_among ino (node ∷ nodes) s =
    elim (is_eq (nat_cmp ino node.0)) as
    (λ b. is_eq (nat_cmp ino node.0) ≡ b → is_among ino (numbers_with (is_kind_file node.1.kind) node nodes)
    ≡ is_file_node (cond b (Some node.1) (lookup (is_at (nat_cmp ino)) nodes))) [
      | true ↦ λ e. its_kind ino node nodes s.0 e (is_kind_file node.1.kind)
      | false ↦ λ e. another_kind ino node nodes e (file_among ino nodes s.1) (is_kind_file node.1.kind)
    ] refl

-- ---- what an engine of them keeps

pub text_recorded : (next : ℕ) (file : FileRec) → IsText next file → IsRecord (file.ino, file)
text_recorded next file is = record {
  number = refl;
  short = is.short;
  tokens = is.long;
  stored = both_or_none file.blob file.len is.kept;
}
  where
    both_or_none : (m n : ℕ) → ((m ≡ 0) ↔ (n ≡ 0)) → (m == 0) ≡ (n == 0)
    both_or_none m n h =
        ⊎_elim
        (λ (e : m ≡ 0). eq-eqb m 0 e ∙ sym (eq-eqb n 0 (h.0 e)))
        (λ (e : m ≡ 0 → ⊥). ne_eqb m 0 e ∙ sym (ne_eqb n 0 (λ f. e (h.1 f))))
        (cases_eq m 0)

records_kept : (next : ℕ) (files : List FileRec) → AllByRecursion (IsText next) files → AllByRecursion IsRecord (numbered files)
records_kept next [] a = tt
records_kept next (file ∷ files) a = (text_recorded next file a.0, records_kept next files a.1)

ranges_of_records : (files : List FileRec) → recorded_ranges (numbered files) ≡ ranges_recorded files
ranges_of_records [] = refl
ranges_of_records (file ∷ files) = ap (λ (ranges : Ranges). (file.ino, file.range) ∷ ranges) (ranges_of_records files)

pub sound_engine : (c : Checkpoint) (parts : Contents) → IsCheckpoint c → c.next_address < SPENT_AT → 0 < c.next_blob
    → parts.next_blob ≡ c.next_blob → parts.memory.end ≤ c.next_address
    → IsSound c.tree (record { next = c.next_address; ranges = ranges_recorded c.files }) parts (numbered c.files) []
sound_engine c parts is room drawn blob end = record {
  of_files = λ ino.
      range_among ino c.files ∙ ap (is_among ino) is.files ∙ file_among ino c.tree.nodes is.tree.nodes_ascend;
  ranges = ranges_of_records c.files;
  records = records_kept c.next_address c.files is.layout.texts;
  few = omega (arith, room);
  below = omega (arith, end);
  blobs = omega (arith, blob, drawn);
  frames = tt;
}
