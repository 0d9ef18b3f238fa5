-- Nodes with what is recorded of them as one list of entries, and as a list of nodes beside one of records.
use Rattle.std.proofs.Common.{◌≡◌, ℕ, ◌^◌, ◌<◌, List, [], ◌∷◌, ◌++◌, refl, ap, sym, subst, ◌∙◌, append_assoc}
use Rattle.std.specs.Prelude.{Option, None, Some, map, filter, cond}
use Rattle.std.specs.List.{AllByRecursion, flat_map}
use Rattle.wu_tree.specs.declared.events.Kind.{Kind}
use Rattle.wu_tree.specs.declared.events.Kind.TheVariants.{Directory, File}
use Rattle.wu_tree.specs.declared.events.Node.{Node}
use Rattle.wu_tree.specs.FileSystems.{is_kind_file}
use Rattle.wu_image.specs.declared.nodes.Entry.{Entry}
use Rattle.wu_image.specs.declared.records.FileRec.{FileRec}
use Rattle.wu_image.specs.Items.{Item}
use Rattle.wu_image.specs.Checkpoints.{node_items, first_text, later_files, tree_items, file_numbers}
use Rattle.wu_image.specs.Reading.{HasRecord, IsEntry, record_list, record_items, entry_items, nodes_of, files_of}

-- the records come first, and then the later ones
first_record : (kind : Kind) (ino : ℕ) (file : Option FileRec) (later : List FileRec) → HasRecord kind ino file
    → (first_text kind (record_list file ++ later) ≡ record_items file) × (later_files kind (record_list file ++ later) ≡ later)
first_record Directory ino None later h = (refl, refl)
first_record Directory ino (Some file) later h = absurd h
first_record File ino None later h = absurd h
first_record File ino (Some file) later h = (refl, refl)

pub items_of_entries : (entries : List Entry) → AllByRecursion IsEntry entries
    → tree_items (nodes_of entries) (files_of entries) ≡ flat_map entry_items entries
items_of_entries [] a = refl
items_of_entries (entry ∷ entries) a =
    let later = files_of entries in
    let first = first_record entry.node.kind entry.ino entry.file later a.0.recorded in
    let own = node_items (entry.ino, entry.node) in
    let more : tree_items (nodes_of entries) (later_files entry.node.kind (record_list entry.file ++ later))
    ≡ flat_map entry_items entries =
    ap (λ (l : List FileRec). tree_items (nodes_of entries) l) first.1 ∙ items_of_entries entries a.1 in
    ap (λ (i : List Item). own ++ i)
    (ap (λ (i : List Item). i ++ tree_items (nodes_of entries) (later_files entry.node.kind (record_list entry.file ++ later))) first.0
    ∙ ap (λ (i : List Item). record_items entry.file ++ i) more)
    ∙ sym (append_assoc own (record_items entry.file) (flat_map entry_items entries))

file_number : (kind : Kind) (ino : ℕ) (node : ℕ × Node) (file : Option FileRec) (later : List FileRec) (nodes : List (ℕ × Node))
    → HasRecord kind ino file → node.0 ≡ ino → map (λ f. f.ino) later ≡ map (λ n. n.0) nodes
    → map (λ f. f.ino) (record_list file ++ later) ≡ map (λ n. n.0) (cond (is_kind_file kind) (node ∷ nodes) nodes)
file_number Directory ino node None later nodes h i e = e
file_number Directory ino node (Some file) later nodes h i e = absurd h
file_number File ino node None later nodes h i e = absurd h
file_number File ino node (Some file) later nodes h i e =
    ap (λ (n : ℕ). n ∷ map (λ (f : FileRec). f.ino) later) (h.0 ∙ sym i) ∙ ap (λ (l : List ℕ). node.0 ∷ l) e

pub numbers_of_entries : (entries : List Entry) → AllByRecursion IsEntry entries
    → map (λ f. f.ino) (files_of entries) ≡ file_numbers (nodes_of entries)
numbers_of_entries [] a = refl
numbers_of_entries (entry ∷ entries) a =
    file_number entry.node.kind entry.ino (entry.ino, entry.node) entry.file (files_of entries)
    (filter (λ (n : ℕ × Node). is_kind_file n.1.kind) (nodes_of entries)) a.0.recorded refl (numbers_of_entries entries a.1)

-- two lists are those of nodes with their records
pub record AreEntriesOf (nodes : List (ℕ × Node)) (files : List FileRec) : Type 0 where
  pub entries : List Entry
  pub valid : AllByRecursion IsEntry entries
  pub nodes_are : nodes ≡ nodes_of entries
  pub files_are : files ≡ files_of entries

-- the entry in front
entry_first : (node : ℕ × Node) (file : Option FileRec) (nodes : List (ℕ × Node)) (files : List FileRec)
    → node.1.perm.mode < 2 ^ 16 → HasRecord node.1.kind node.0 file → AreEntriesOf nodes files
    → AreEntriesOf (node ∷ nodes) (record_list file ++ files)
entry_first node file nodes files m h a = record {
  entries = (record { ino = node.0; node = node.1; file = file }) ∷ a.entries;
  valid = (record { mode = m; recorded = h }, a.valid);
  nodes_are = ap (λ (l : List (ℕ × Node)). node ∷ l) a.nodes_are;
  files_are = ap (λ (l : List FileRec). record_list file ++ l) a.files_are;
}

with_file : (node : ℕ × Node) (nodes : List (ℕ × Node)) (files : List FileRec) → node.1.kind ≡ File
    → map (λ f. f.ino) files ≡ node.0 ∷ file_numbers nodes → node.1.perm.mode < 2 ^ 16 → AllByRecursion (λ f. f.len < 2 ^ 32) files
    → ((later : List FileRec) → map (λ f. f.ino) later ≡ file_numbers nodes → AllByRecursion (λ f. f.len < 2 ^ 32) later
    → AreEntriesOf nodes later)
    → AreEntriesOf (node ∷ nodes) files
with_file node nodes [] k e m ls more = absurd cc
with_file node nodes (file ∷ files) k e m ls more =
    let first : file.ino ≡ node.0 = cc in
    let later : map (λ (f : FileRec). f.ino) files ≡ file_numbers nodes = cc in
    entry_first node (Some file) nodes files m
    (subst (λ (n : Kind). HasRecord n node.0 (Some file)) (sym k) (first, ls.0)) (more files later ls.1)

pub entries_exist : (nodes : List (ℕ × Node)) (files : List FileRec) → map (λ f. f.ino) files ≡ file_numbers nodes
    → AllByRecursion (λ n. n.1.perm.mode < 2 ^ 16) nodes → AllByRecursion (λ f. f.len < 2 ^ 32) files → AreEntriesOf nodes files
entries_exist [] [] e ms ls = record { entries = []; valid = tt; nodes_are = refl; files_are = refl }
entries_exist [] (file ∷ files) e ms ls = absurd cc
entries_exist (node ∷ nodes) files e ms ls =
    elim (node.1.kind) as (λ k. node.1.kind ≡ k
    → map (λ (f : FileRec). f.ino) files
    ≡ map (λ (n : ℕ × Node). n.0) (cond (is_kind_file k) (node ∷ filter (λ (n : ℕ × Node). is_kind_file n.1.kind) nodes)
    (filter (λ (n : ℕ × Node). is_kind_file n.1.kind) nodes)) → AreEntriesOf (node ∷ nodes) files) [
      | Directory ↦ λ k f. entry_first node None nodes files ms.0
          (subst (λ (n : Kind). HasRecord n node.0 None) (sym k) tt) (entries_exist nodes files f ms.1 ls)
      | File ↦ λ k f. with_file node nodes files k f ms.0 ls (λ later l more. entries_exist nodes later l ms.1 more)
    ] refl e
