-- The records of files, after the record of one is put in or taken out.
use Rattle.std.proofs.Common.{◌≡◌, ◌≢◌, ℕ, ◌≤◌, ◌==◌, Bool, true, false, not, cond, List, [], ◌∷◌, length, refl, ap, sym, ◌∙◌, arith}
use Rattle.std.specs.Prelude.{Option, Some, None}
use Rattle.std.specs.declared.cmp.Ordering.TheVariants.{Less, Equal, Greater}
use Rattle.std.specs.Ordering.{is_eq, match_ordering, nat_cmp}
use Rattle.std.specs.List.{AllByRecursion}
use Rattle.std.specs.Map.{lookup, remove_entry}
use Rattle.std.specs.BTreeMap.{is_at, insert_entry}
use Rattle.std.proofs.lemmas.Bool.{ne_eqb}
use Rattle.std.proofs.lemmas.Map.{NonePasses}
use Rattle.std.proofs.lemmas.Map.Lookups.{exact_unsigned}
use Rattle.wu_base.specs.declared.addresses.Range.{Range}
use Rattle.wu_base.specs.declared.limits.TheConstants.{TEXT_MAX}
use Rattle.wu_base.proofs.MapEntries.{All-insert_entry, All-remove_entry, insert_entry-read, remove_entry-read}
use Rattle.wu_token.specs.Tokens.{tokens_of}
use Rattle.wu_token.proofs.LengthLemmas.{length-tokens_of}
use Rattle.wu_tree.proofs.TreeInvariant.{not_passed}
use Rattle.wu_layout.specs.Layouts.{FileEntry, entry_of}
use Rattle.wu_layout.specs.Steps.{text_blob}
use Rattle.wu_space.specs.Addresses.{Ranges}
use Rattle.wu_image.specs.declared.records.FileRec.{FileRec}
use Rattle.wu_query.specs.States.{Texts, text_in}
use Rattle.wu_query.specs.Records.{Records, record_of, records_of, recorded_ranges}
use Rattle.wu_query.specs.Soundness.{IsRecord}
use Rattle.wu_engine.specs.Indexing.{Catalog, blob_for, blob_of, record_for, records_with, records_without, catalog_with, catalog_without}
use Rattle.wu_engine.proofs.StateTexts.{text-there, text-elsewhere}

-- ---- live ranges

module _ (catalog : Catalog) (same : recorded_ranges catalog.files ≡ catalog.space.ranges) where
  pub ranges-without : (o : Option ℕ) → recorded_ranges (catalog_without o catalog).files ≡ (catalog_without o catalog).space.ranges
  ranges-without None = same
  ranges-without (Some ino) =
      sym (remove_entry-read (λ (file : FileRec). file.range) (is_at (nat_cmp ino)) catalog.files) ∙ ap (remove_entry (is_at (nat_cmp ino))) same

  pub ranges-with : (o : Option ℕ) (text : List ℕ) (blob : ℕ)
      → recorded_ranges (catalog_with o text blob catalog).files ≡ (catalog_with o text blob catalog).space.ranges
  ranges-with None text blob = same
  ranges-with (Some ino) text blob =
      let range : Range = record { start = catalog.space.next; len = length (tokens_of text) } in
      sym (insert_entry-read (λ (file : FileRec). file.range) nat_cmp catalog.files ino (record_for ino text blob catalog.space.next))
      ∙ ap (λ (ranges : Ranges). insert_entry nat_cmp ranges ino range) same

-- ---- what each record keeps

pub records-without : (o : Option ℕ) (files : Records) → AllByRecursion IsRecord files → AllByRecursion IsRecord (records_without o files)
records-without None files all = all
records-without (Some ino) files all = All-remove_entry IsRecord (is_at (nat_cmp ino)) files all

is_record : (ino q : ℕ) (text : List ℕ) (blob address : ℕ) → ino ≡ q → length text ≤ TEXT_MAX → (blob == 0) ≡ (length text == 0)
    → IsRecord (q, record_for ino text blob address)
is_record ino q text blob address same short stored = record {
  number = same;
  short = short;
  tokens = omega (arith, length-tokens_of text);
  stored = stored;
}

pub records-with : (o : Option ℕ) (text : List ℕ) (blob address : ℕ) (files : Records) → length text ≤ TEXT_MAX
    → ((ino : ℕ) → o ≡ Some ino → (blob == 0) ≡ (length text == 0)) → AllByRecursion IsRecord files
    → AllByRecursion IsRecord (records_with o text blob address files)
records-with None text blob address files short stored all = all
records-with (Some ino) text blob address files short stored all =
    All-insert_entry IsRecord nat_cmp files ino (record_for ino text blob address) all
    (λ q e. is_record ino q text blob address (exact_unsigned ino q e) short (stored ino refl))
    (is_record ino ino text blob address refl short (stored ino refl))

-- a text has a blob exactly where it has bytes
pub stored-with_bytes : (o : Option ℕ) (text : List ℕ) (next : ℕ) → 1 ≤ next → (ino : ℕ) → o ≡ Some ino
    → (blob_for o text next == 0) ≡ (length text == 0)
stored-with_bytes o text next positive ino is =
    ap (λ (p : Option ℕ). blob_for p text next == 0) is
    ∙ elim (length text == 0) as (λ b. (cond (not b) next 0 == 0) ≡ b) [
      | true ↦ refl
      | false ↦ ne_eqb next 0 (λ e. omega arith)
    ]

-- ---- the records of files and texts

module _ (texts : Texts) where
  pub records-removal : (test : ℕ → Bool) (files : List (ℕ × FileEntry))
      → remove_entry test (records_of texts files) ≡ records_of texts (remove_entry test files)
  records-removal test [] = refl
  records-removal test (file ∷ files) =
      elim (test file.0) as
      (λ b. cond b (records_of texts files) ((file.0, record_of texts file) ∷ remove_entry test (records_of texts files))
      ≡ records_of texts (cond b files (file ∷ remove_entry test files))) [
        | true ↦ refl
        | false ↦ ap (λ (l : Records). (file.0, record_of texts file) ∷ l) (records-removal test files)
      ]

  -- the blob that is given up with a file
  pub blob-recorded : (ino : ℕ) (files : List (ℕ × FileEntry))
      → blob_of (lookup (is_at (nat_cmp ino)) (records_of texts files)) ≡ text_blob (entry_of files ino)
  blob-recorded ino [] = refl
  blob-recorded ino (file ∷ files) =
      elim (is_at (nat_cmp ino) file.0) as
      (λ b. blob_of (cond b (Some (record_of texts file)) (lookup (is_at (nat_cmp ino)) (records_of texts files)))
      ≡ text_blob (cond b (Some file.1) (entry_of files ino))) [
        | true ↦ refl
        | false ↦ blob-recorded ino files
      ]

  records-insertion : (ino : ℕ) (entry : FileEntry) (files : List (ℕ × FileEntry)) → NonePasses (is_at (nat_cmp ino)) files
      → insert_entry nat_cmp (records_of texts files) ino (record_of texts (ino, entry))
      ≡ records_of texts (insert_entry nat_cmp files ino entry)
  records-insertion ino entry [] none = refl
  records-insertion ino entry (file ∷ files) none =
      elim (nat_cmp ino file.0) as
      (λ r. nat_cmp ino file.0 ≡ r
      → match_ordering r ((ino, record_of texts (ino, entry)) ∷ records_of texts (file ∷ files))
      ((file.0, record_of texts (ino, entry)) ∷ records_of texts files)
      ((file.0, record_of texts file) ∷ insert_entry nat_cmp (records_of texts files) ino (record_of texts (ino, entry)))
      ≡ records_of texts (match_ordering r ((ino, entry) ∷ file ∷ files) ((file.0, entry) ∷ files)
      (file ∷ insert_entry nat_cmp files ino entry))) [
        | Less ↦ λ e. refl
        | Equal ↦ λ e. absurd (let f : is_eq (nat_cmp ino file.0) ≡ true = ap is_eq e in let g : is_eq (nat_cmp ino file.0) ≡ false = none.0 in cc)
        | Greater ↦ λ e. ap (λ (l : Records). (file.0, record_of texts file) ∷ l) (records-insertion ino entry files none.1)
      ] refl

  -- files of other numbers have the same records where only one text differs
  pub records-elsewhere : (later : Texts) (ino : ℕ) → ((q : ℕ) → q ≢ ino → text_in later q ≡ text_in texts q)
      → (files : List (ℕ × FileEntry)) → NonePasses (is_at (nat_cmp ino)) files → records_of texts files ≡ records_of later files
  records-elsewhere later ino same [] none = refl
  records-elsewhere later ino same (file ∷ files) none =
      let one : record_of texts file ≡ record_of later file =
      ap (λ (t : List ℕ). let made : FileRec = record { ino = file.0; len = length t; blob = file.1.blob; range = file.1.range } in made)
      (sym (same file.0 (not_passed ino file.0 none.0))) in
      ap (λ (r : FileRec). (file.0, r) ∷ records_of texts files) one
      ∙ ap (λ (l : Records). (file.0, record_of later file) ∷ l) (records-elsewhere later ino same files none.1)

-- a file that had no record gets one with its text
module _ (texts : Texts) (ino : ℕ) (text : List ℕ) (entry : FileEntry) (files : List (ℕ × FileEntry))
    (none : NonePasses (is_at (nat_cmp ino)) files) where
  abbrev later : Texts
  later = insert_entry nat_cmp texts ino text

  abbrev recorded : FileRec
  recorded = record { ino = ino; len = length text; blob = entry.blob; range = entry.range }

  recorded-later : recorded ≡ record_of later (ino, entry)
  recorded-later =
      ap (λ (t : List ℕ). let made : FileRec = record { ino = ino; len = length t; blob = entry.blob; range = entry.range } in made)
      (sym (text-there texts ino text))

  pub records-put : insert_entry nat_cmp (records_of texts files) ino recorded ≡ records_of later (insert_entry nat_cmp files ino entry)
  records-put =
      ap (λ (l : Records). insert_entry nat_cmp l ino recorded) (records-elsewhere texts later ino (text-elsewhere texts ino text) files none)
      ∙ ap (insert_entry nat_cmp (records_of later files) ino) recorded-later
      ∙ records-insertion later ino entry files none
