-- Lemmas on the nodes that were read so far.
use Rattle.std.proofs.Common.{◌≡◌, ℕ, ◌-◌, ◌<◌, List, [], ◌∷◌, ◌++◌, refl, ap, sym, ◌∙◌}
use Rattle.std.specs.List.{AllByRecursion}
use Rattle.std.proofs.lemmas.List.{map-append, flat_map_more}
use Rattle.wu_tree.specs.declared.events.Node.{Node}
use Rattle.wu_image.specs.declared.nodes.Entry.{Entry}
use Rattle.wu_image.specs.declared.records.FileRec.{FileRec}
use Rattle.wu_image.specs.Items.{Number, StartsWith, list_items}
use Rattle.wu_image.specs.Reading.{IsEntry, StartsWithTree, entry_items, files_of, nodes_of, record_list}
use Rattle.wu_image.proofs.ItemLemmas.{Taken, all_taken, none_taken, not_taken, one_taken}
use Rattle.wu_image.proofs.UniqueItems.{unique_entry}

pub record NodesTaken (bytes : List ℕ) (count : ℕ) (nodes : List (ℕ × Node)) (files : List FileRec) (left : ℕ) (rest : List ℕ)
    : Type 0 where
  pub entries : List Entry
  pub nodes_are : nodes ≡ nodes_of entries
  pub files_are : files ≡ files_of entries
  pub taken : Taken entry_items IsEntry bytes count entries left rest

pub no_nodes : (bytes : List ℕ) (count left : ℕ) (rest : List ℕ) → StartsWith bytes (Number count ∷ []) rest → left ≡ count
    → NodesTaken bytes count [] [] left rest
no_nodes bytes count left rest s e =
    record { entries = []; nodes_are = refl; files_are = refl; taken = none_taken entry_items IsEntry bytes count left rest s e }

pub one_node : (bytes : List ℕ) (count : ℕ) (nodes new_nodes : List (ℕ × Node)) (files new_files : List FileRec) (entry : Entry)
    (left fewer : ℕ) (rest after : List ℕ) → NodesTaken bytes count nodes files left rest → 0 < left → IsEntry entry
    → StartsWith rest (entry_items entry) after → new_nodes ≡ nodes ++ (entry.ino, entry.node) ∷ []
    → new_files ≡ files ++ record_list entry.file → fewer ≡ left - 1 → NodesTaken bytes count new_nodes new_files fewer after
one_node bytes count nodes new_nodes files new_files entry left fewer rest after t some p s e f g = record {
  entries = t.entries ++ entry ∷ [];
  nodes_are = e ∙ (ap (λ (l : List (ℕ × Node)). l ++ (entry.ino, entry.node) ∷ []) t.nodes_are
      ∙ sym (map-append (λ (x : Entry). (x.ino, x.node)) t.entries (entry ∷ [])));
  files_are = f ∙ (ap (λ (l : List FileRec). l ++ record_list entry.file) t.files_are
      ∙ flat_map_more (λ (x : Entry). record_list x.file) [] t.entries entry);
  taken = one_taken entry_items IsEntry bytes count t.entries _ entry left fewer rest after t.taken some p s refl g;
}

pub all_nodes : (bytes : List ℕ) (count : ℕ) (nodes : List (ℕ × Node)) (files : List FileRec) (left : ℕ) (rest : List ℕ)
    → NodesTaken bytes count nodes files left rest → left ≡ 0 → StartsWithTree bytes nodes files rest
all_nodes bytes count nodes files left rest t none =
    let all = all_taken entry_items IsEntry bytes count t.entries left rest t.taken none in
    record { entries = t.entries; valid = all.0; nodes_listed = t.nodes_are; files_listed = t.files_are; spelled = all.1 }

pub no_more_nodes : (bytes : List ℕ) (count : ℕ) (nodes : List (ℕ × Node)) (files : List FileRec) (left : ℕ) (rest : List ℕ)
    → NodesTaken bytes count nodes files left rest → 0 < left
    → ((entry : Entry) (after : List ℕ) → IsEntry entry → StartsWith rest (entry_items entry) after → ⊥)
    → (all : List Entry) (last : List ℕ) → AllByRecursion IsEntry all → StartsWith bytes (list_items entry_items all) last → ⊥
no_more_nodes bytes count nodes files left rest t some none all last p s =
    not_taken entry_items IsEntry unique_entry bytes count t.entries left rest t.taken some none all last p s
