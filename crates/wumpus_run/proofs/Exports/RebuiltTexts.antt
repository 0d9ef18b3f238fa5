-- The texts that the entries of an export give are those of its files.
use Rattle.std.proofs.Common.{◌≡◌, ◌≢◌, ℕ, ◌+◌, ◌<◌, ◌≤◌, List, [], ◌∷◌, ◌++◌, length, cond, map, refl, ap, ap₂, ◌∙◌, arith}
use Rattle.std.specs.Prelude.{Bool, Option, Some, drop, unwrap_or}
use Rattle.std.specs.List.{AllByRecursion}
use Rattle.std.specs.Ordering.{nat_cmp}
use Rattle.std.specs.Map.{lookup}
use Rattle.std.specs.BTreeMap.{insert_entry, is_at}
use Rattle.std.specs.Cmp.{nat_cmp_total}
use Rattle.wu_base.proofs.MapEntries.{lookup-insert_entry, number_itself}
use Rattle.wu_tree.proofs.ParentPaths.{other_number}
use Rattle.wu_export.specs.declared.Shown.{Shown}
use Rattle.wu_export.specs.Exports.{Entry, Directory, File, Link, Text, directories_of, directory_entry, entries_of, file_entries}
use Rattle.wu_export.specs.Exports.{files_from}
use Rattle.wu_export.specs.Exports.{first_file, link_entry, path_entries, text_entries}
use Rattle.wu_export.specs.Rebuilding.{seen_from}
use Rattle.wu_query.specs.States.{Texts, text_in}
use Rattle.wu_query.specs.View.{shown_of}

-- the texts after an entry: a file that is made has the empty text
abbrev pub with_entry : Texts → Entry → Texts
with_entry texts (Directory number parent name) = texts
with_entry texts (File number parent name) = insert_entry nat_cmp texts number []
with_entry texts (Link number parent name) = texts
with_entry texts (Text number text) = insert_entry nat_cmp texts number text

abbrev pub with_entries : Texts → List Entry → Texts
with_entries texts [] = texts
with_entries texts (entry ∷ entries) = with_entries (with_entry texts entry) entries

with-append : (texts : Texts) (xs ys : List Entry) → with_entries texts (xs ++ ys) ≡ with_entries (with_entries texts xs) ys
with-append texts [] ys = refl
with-append texts (x ∷ xs) ys = with-append (with_entry texts x) xs ys

-- ---- one text

module _ (texts : Texts) (number : ℕ) (text : List ℕ) where
  text_put : text_in (insert_entry nat_cmp texts number text) number ≡ text
  text_put =
      ap (λ (o : Option (List ℕ)). unwrap_or o [])
      (lookup-insert_entry nat_cmp_total texts number text number
      ∙ ap (λ (b : Bool). cond b (Some text) (lookup (is_at (nat_cmp number)) texts)) (number_itself number))

  text_kept : (q : ℕ) → q ≢ number → text_in (insert_entry nat_cmp texts number text) q ≡ text_in texts q
  text_kept q other =
      ap (λ (o : Option (List ℕ)). unwrap_or o [])
      (lookup-insert_entry nat_cmp_total texts number text q
      ∙ ap (λ (b : Bool). cond b (Some text) (lookup (is_at (nat_cmp q)) texts)) (other_number q number other))

-- ---- of one file

module _ (directories : List (List ℕ)) where
  links_give_none : (texts : Texts) (number : ℕ) (paths : List (List ℕ))
      → with_entries texts (map (link_entry directories number) paths) ≡ texts
  links_give_none texts number [] = refl
  links_give_none texts number (path ∷ paths) = links_give_none texts number paths

  directories_give_none : (texts : Texts) (paths : List (List ℕ)) → with_entries texts (map (directory_entry directories) paths) ≡ texts
  directories_give_none texts [] = refl
  directories_give_none texts (path ∷ paths) = directories_give_none texts paths

  -- the file is made, and has the empty text
  made_empty : (texts : Texts) (number : ℕ) (paths : List (List ℕ)) → 1 ≤ length paths
      → with_entries texts (path_entries directories number paths) ≡ insert_entry nat_cmp texts number []
  made_empty texts number [] some = absurd (omega arith)
  made_empty texts number (path ∷ paths) some = links_give_none (insert_entry nat_cmp texts number []) number paths

  text_given : (texts : Texts) (number : ℕ) (text : List ℕ)
      → text_in (with_entries (insert_entry nat_cmp texts number []) (text_entries number text)) number ≡ text
  text_given texts number [] = text_put texts number []
  text_given texts number (byte ∷ text) = text_put (insert_entry nat_cmp texts number []) number (byte ∷ text)

  others_given : (texts : Texts) (number q : ℕ) (text : List ℕ) → q ≢ number
      → text_in (with_entries (insert_entry nat_cmp texts number []) (text_entries number text)) q ≡ text_in texts q
  others_given texts number q [] other = text_kept texts number [] q other
  others_given texts number q (byte ∷ text) other =
      text_kept (insert_entry nat_cmp texts number []) number (byte ∷ text) q other ∙ text_kept texts number [] q other

  file_made : (texts : Texts) (number : ℕ) (shown : Shown) → 1 ≤ length shown.paths
      → with_entries texts (file_entries directories number shown)
      ≡ with_entries (insert_entry nat_cmp texts number []) (text_entries number shown.text)
  file_made texts number shown some =
      with-append texts (path_entries directories number shown.paths) (text_entries number shown.text)
      ∙ ap (λ (ts : Texts). with_entries ts (text_entries number shown.text)) (made_empty texts number shown.paths some)

  -- ---- of all files

  abbrev HavePaths : List Shown → Type 0
  HavePaths view = AllByRecursion (λ shown. 1 ≤ length shown.paths) view

  after_file : (texts : Texts) (number : ℕ) (shown : Shown) (view : List Shown)
      → with_entries texts (files_from directories number (shown ∷ view))
      ≡ with_entries (with_entries texts (file_entries directories number shown)) (files_from directories (number + 1) view)
  after_file texts number shown view = with-append texts (file_entries directories number shown) (files_from directories (number + 1) view)

  -- a text of a lesser number stays
  lesser_kept : (texts : Texts) (number q : ℕ) (view : List Shown) → HavePaths view → q < number
      → text_in (with_entries texts (files_from directories number view)) q ≡ text_in texts q
  lesser_kept texts number q [] some less = refl
  lesser_kept texts number q (shown ∷ view) some less =
      ap (λ (ts : Texts). text_in ts q) (after_file texts number shown view)
      ∙ lesser_kept (with_entries texts (file_entries directories number shown)) (number + 1) q view some.1 (omega arith)
      ∙ ap (λ (ts : Texts). text_in ts q) (file_made texts number shown some.0)
      ∙ others_given texts number q shown.text (λ e. absurd (omega arith))

  first_text : (texts : Texts) (number : ℕ) (shown : Shown) (view : List Shown) → HavePaths (shown ∷ view)
      → text_in (with_entries texts (files_from directories number (shown ∷ view))) number ≡ shown.text
  first_text texts number shown view some =
      ap (λ (ts : Texts). text_in ts number) (after_file texts number shown view)
      ∙ lesser_kept (with_entries texts (file_entries directories number shown)) (number + 1) number view some.1 (omega arith)
      ∙ ap (λ (ts : Texts). text_in ts number) (file_made texts number shown some.0)
      ∙ text_given texts number shown.text

  -- with their texts, the files are seen as they were
  files_shown : (texts : Texts) (number : ℕ) (view : List Shown) → HavePaths view
      → map (shown_of (with_entries texts (files_from directories number view))) (seen_from number view) ≡ view
  files_shown texts number [] some = refl
  files_shown texts number (shown ∷ view) some =
      ap₂ (λ (one : Shown) (others : List Shown). one ∷ others)
      (ap (λ (text : List ℕ). record { paths = shown.paths; text = text }) (first_text texts number shown view some))
      (ap (λ (ts : Texts). map (shown_of ts) (seen_from (number + 1) view)) (after_file texts number shown view)
      ∙ files_shown (with_entries texts (file_entries directories number shown)) (number + 1) view some.1)

-- from no texts at all
pub view_shown : (view : List Shown) → AllByRecursion (λ shown. 1 ≤ length shown.paths) view
    → map (shown_of (with_entries [] (entries_of view))) (seen_from (first_file (directories_of view)) view) ≡ view
view_shown view some =
    let directories = directories_of view in
    let made = map (directory_entry directories) (drop 1 directories) in
    ap (λ (ts : Texts). map (shown_of ts) (seen_from (first_file directories) view))
    (with-append [] made (files_from directories (first_file directories) view)
    ∙ ap (λ (ts : Texts). with_entries ts (files_from directories (first_file directories) view))
    (directories_give_none directories [] (drop 1 directories)))
    ∙ files_shown directories [] (first_file directories) view some
