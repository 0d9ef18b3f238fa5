-- The records of a state's files keep the rules of a checkpoint on texts, and are those of the tree's regular files, in their order.
use Rattle.std.proofs.Common.{◌≡◌, ◌≢◌, ◌↔◌, ℕ, ◌+◌, ◌<◌, ◌≤◌, ◌==◌, Bool, true, false, true≢false, not, cond, List, [], ◌∷◌, length, map}
use Rattle.std.proofs.Common.{count_by, Some, IfSome, Less, refl, ap, sym, ◌∙◌, ⊎_elim, arith}
use Rattle.std.specs.Ordering.{nat_cmp}
use Rattle.std.specs.Cmp.{nat_cmp_total}
use Rattle.std.specs.List.{AllByRecursion}
use Rattle.std.specs.List.Sorted.{IsStrictlySortedBy}
use Rattle.std.specs.Map.{keys_of}
use Rattle.std.proofs.lemmas.Bool.{cases_Bool, cases_eq, eq-eqb, false≢true, ne_eqb, and_parts, leb-true, ltb-true}
use Rattle.std.proofs.lemmas.Map.Lookups.{exact_unsigned}
use Rattle.wu_base.specs.declared.addresses.Range.{Range}
use Rattle.wu_base.proofs.MapEntries.{all_found}
use Rattle.wu_base.proofs.SortedLists.{same_sorted}
use Rattle.wu_layout.proofs.LiveCounts.{other_key}
use Rattle.wu_token.proofs.LengthLemmas.{length-text, length-tokens_of}
use Rattle.wu_layout.specs.Layouts.{FileEntry, entry_of, homes_of, postings_of}
use Rattle.wu_base.specs.Ranges.{is_in, AreDisjoint}
use Rattle.wu_layout.specs.Invariants.{IsIndexed, RangesAreDisjoint}
use Rattle.wu_layout.proofs.BlobLemmas.{count-cons}
use Rattle.wu_layout.proofs.EntryLemmas.{IfSome-found}
use Rattle.wu_layout.proofs.PostingLemmas.{outside_above, outside_below}
use Rattle.wu_image.specs.declared.records.FileRec.{FileRec}
use Rattle.wu_image.specs.Checkpoints.{file_numbers}
use Rattle.wu_image.specs.LayoutRules.{IsText}
use Rattle.wu_image.proofs.FileNumbers.{file_numbers_ascend, found_key, key_found, number_there, there_number}
use Rattle.wu_token.specs.Tokens.{tokens_of}
use Rattle.wu_query.specs.Records.{record_of, records_of}
use Rattle.wu_query.specs.States.{State, IsState, Texts, indexed, text_in}

-- the records alone, in the order of their numbers
abbrev pub file_records : Texts → List (ℕ × FileEntry) → List FileRec
file_records texts files = map (λ file. file.1) (records_of texts files)

-- ---- texts

-- the two tags of the file
pub two_tokens : (text : List ℕ) → 2 ≤ length (tokens_of text)
two_tokens text = omega (arith, length-text text)

-- both are 0, or neither
both_none : (blob len : ℕ) → (blob == 0) ≡ not (not (len == 0)) → (blob ≡ 0) ↔ (len ≡ 0)
both_none blob len e = (
  λ z.
      ⊎_elim
      (λ (same : len ≡ 0). same)
      (λ (other : len ≢ 0).
      let some : not (not (len == 0)) ≡ false = ap (λ (b : Bool). not (not b)) (ne_eqb len 0 other) in
      absurd (true≢false (sym (eq-eqb blob 0 z) ∙ e ∙ some)))
      (cases_eq len 0),
  λ z.
      ⊎_elim
      (λ (same : blob ≡ 0). same)
      (λ (other : blob ≢ 0).
      let none : not (not (len == 0)) ≡ true = ap (λ (b : Bool). not (not b)) (eq-eqb len 0 z) in
      absurd (false≢true (sym (ne_eqb blob 0 other) ∙ e ∙ none)))
      (cases_eq blob 0),
)

module _ (s : State) (is : IsState s) where
  text_recorded : (file : ℕ × FileEntry) → entry_of s.layout.files file.0 ≡ Some file.1
      → IsText s.layout.next (record_of s.texts file)
  text_recorded file found =
      let text : List ℕ = text_in s.texts file.0 in
      let i : IsIndexed (indexed text) file.1 (homes_of s.layout.parts s.layout.memory) (postings_of s.layout.parts s.layout.memory) =
      IfSome-found
      (λ entry. IsIndexed (indexed text) entry (homes_of s.layout.parts s.layout.memory) (postings_of s.layout.parts s.layout.memory))
      (entry_of s.layout.files file.0) file.1 found (is.layout.texts.each file.0) in
      record {
        short = is.short file.0;
        kept = both_none file.1.blob (length text) i.kept;
        some = omega (arith, i.long, two_tokens text);
        long = omega (arith, i.long, length-tokens_of text);
        within =
            IfSome-found (λ entry. entry.range.start + entry.range.len ≤ s.layout.next) (entry_of s.layout.files file.0) file.1 found
            (is.layout.ranges.within file.0);
      }

  texts_in : (files : List (ℕ × FileEntry)) → AllByRecursion (λ e. entry_of s.layout.files e.0 ≡ Some e.1) files
      → AllByRecursion (IsText s.layout.next) (file_records s.texts files)
  texts_in [] a = tt
  texts_in (file ∷ files) a = (text_recorded file a.0, texts_in files a.1)

  pub texts_recorded : AllByRecursion (IsText s.layout.next) (file_records s.texts s.layout.files)
  texts_recorded = texts_in s.layout.files (all_found s.layout.files is.layout.ranges.by_number)

-- ---- an address is in one file's range at most

not_in_other : (range other : Range) (address : ℕ) → AreDisjoint range other → is_in range address ≡ true → is_in other address ≡ false
not_in_other range other address h t =
    let parts = and_parts _ _ t in
    let from : range.start ≤ address = leb-true range.start address parts.0 in
    let to : address < range.start + range.len = ltb-true address (range.start + range.len) parts.1 in
    ⊎_elim
    (λ l. outside_below other address (omega (arith, l, to)))
    (λ l. outside_above other address (omega (arith, l, from)))
    h

module _ (texts : Texts) (address : ℕ) where
  abbrev holds : FileRec → Bool
  holds file = is_in file.range address

  none_apart : (range : Range) (files : List (ℕ × FileEntry)) → is_in range address ≡ true
      → AllByRecursion (λ e. AreDisjoint range e.1.range) files → count_by holds (file_records texts files) ≡ 0
  none_apart range [] t a = refl
  none_apart range (file ∷ files) t a =
      let none : cond {A = ℕ} (is_in file.1.range address) 1 0 ≡ 0 =
      ap (λ (b : Bool). cond {A = ℕ} b 1 0) (not_in_other range file.1.range address a.0 t) in
      omega (arith, none, count-cons holds (record_of texts file) (file_records texts files), none_apart range files t a.1)

module _ (is_file : ℕ → Bool) (next : ℕ) (files : List (ℕ × FileEntry)) (d : RangesAreDisjoint is_file next files) where
  apart_from : (file : ℕ × FileEntry) (es : List (ℕ × FileEntry)) → entry_of files file.0 ≡ Some file.1
      → AllByRecursion (λ e. entry_of files e.0 ≡ Some e.1) es → AllByRecursion (λ k. nat_cmp file.0 k ≡ Less) (keys_of es)
      → AllByRecursion (λ e. AreDisjoint file.1.range e.1.range) es
  apart_from file [] f a s = tt
  apart_from file (e ∷ es) f a s = (
    IfSome-found (λ other. AreDisjoint file.1.range other.range) (entry_of files e.0) e.1 a.0
        (IfSome-found (λ entry. IfSome (entry_of files e.0) (λ other. AreDisjoint entry.range other.range)) (entry_of files file.0) file.1 f
        (d.apart file.0 e.0 (other_key file.0 e.0 s.0))),
    apart_from file es f a.1 s.1,
  )

  in_one_of : (texts : Texts) (address : ℕ) (es : List (ℕ × FileEntry)) → AllByRecursion (λ e. entry_of files e.0 ≡ Some e.1) es
      → IsStrictlySortedBy nat_cmp (keys_of es) → count_by (λ file. is_in file.range address) (file_records texts es) ≤ 1
  unfolding IsStrictlySortedBy
  in_one_of texts address [] a s = omega arith
  in_one_of texts address (e ∷ es) a s =
      let split = count-cons (λ (file : FileRec). is_in file.range address) (record_of texts e) (file_records texts es) in
      ⊎_elim
      (λ (t : is_in e.1.range address ≡ true).
      let one : cond {A = ℕ} (is_in e.1.range address) 1 0 ≡ 1 = ap (λ (b : Bool). cond {A = ℕ} b 1 0) t in
      omega (arith, split, one, none_apart texts address e.1.range es t (apart_from e es a.0 a.1 s.0)))
      (λ (f : is_in e.1.range address ≡ false).
      let none : cond {A = ℕ} (is_in e.1.range address) 1 0 ≡ 0 = ap (λ (b : Bool). cond {A = ℕ} b 1 0) f in
      omega (arith, split, none, in_one_of texts address es a.1 s.1))
      (cases_Bool (is_in e.1.range address))

  pub in_one_file : (texts : Texts) (address : ℕ) → count_by (λ file. is_in file.range address) (file_records texts files) ≤ 1
  in_one_file texts address = in_one_of texts address files (all_found files d.by_number) d.by_number

-- ---- the numbers of the files

numbers_recorded : (texts : Texts) (files : List (ℕ × FileEntry)) → map (λ file. file.ino) (file_records texts files) ≡ keys_of files
numbers_recorded texts [] = refl
numbers_recorded texts (file ∷ files) = ap (λ (numbers : List ℕ). file.0 ∷ numbers) (numbers_recorded texts files)

pub numbers_are_files : (s : State) → IsState s → map (λ file. file.ino) (file_records s.texts s.layout.files) ≡ file_numbers s.tree.nodes
numbers_are_files s is =
    numbers_recorded s.texts s.layout.files
    ∙ same_sorted nat_cmp_total exact_unsigned (keys_of s.layout.files) (file_numbers s.tree.nodes) is.layout.ranges.by_number
    (file_numbers_ascend s.tree.nodes is.tree.nodes_ascend)
    (λ q h. number_there q s.tree.nodes (sym (is.layout.ranges.of_files q) ∙ key_found q s.layout.files h))
    (λ q h. found_key q s.layout.files (is.layout.ranges.of_files q ∙ there_number q s.tree.nodes is.tree.nodes_ascend h))
