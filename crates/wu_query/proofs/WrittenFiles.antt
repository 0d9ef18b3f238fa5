-- The files of a view are written one after the other, each with the text that the store has of it, and the script is then the export.
use Rattle.std.proofs.Common.{◌≡◌, ℕ, ◌+◌, ◌<◌, ◌≤◌, ◌∙◌, List, [], ◌∷◌, ◌++◌, length, drop, map, get_or, refl, sym, ap, ap₂, append-nil, arith}
use Rattle.std.specs.Prelude.{Option, IfSome}
use Rattle.std.specs.List.{flat_map}
use Rattle.std.proofs.lemmas.List.{drop_all, get_or-map, length-map}
use Rattle.wu_outside.specs.Content.{Content}
use Rattle.wu_layout.proofs.EntryLemmas.{IfSome-all, IfSome-map2}
use Rattle.wu_view.specs.declared.Seen.{Seen}
use Rattle.wu_export.specs.Exports.{commands_of, directories_of, directory_entry, export_of, file_entries, files_from, first_file, paths_in}
use Rattle.wu_export.specs.Exporting.{Begun, begun, with_file, with_files}
use Rattle.wu_export.proofs.WrittenCommands.{commands-append, files_more}
use Rattle.wu_query.specs.View.{Shown}

-- the files from a place on are still to be written
abbrev pub IsWritten : (Seen → Shown) → List Seen → ℕ → Begun → Begun → Type 0
IsWritten file view i first now =
    now.script ++ commands_of (files_from first.directories (first_file first.directories + i) (drop i (map file view)))
    ≡ first.script ++ commands_of (files_from first.directories (first_file first.directories) (map file view))

-- all are still to be written
pub none_written : (file : Content → Seen → Shown) (view : List Seen) (holds : Option Content) (first : Begun)
    → IfSome holds (λ content. IsWritten (file content) view 0 first first)
none_written file view holds first =
    let start : first_file first.directories + 0 ≡ first_file first.directories = omega arith in
    IfSome-all _ holds (λ content.
    ap (λ (n : ℕ). first.script ++ commands_of (files_from first.directories n (map (file content) view))) start)

-- one more file is written
one_more : (file : Seen → Shown) (view : List Seen) (i place : ℕ) (seen : Seen) (shown : Shown) (first before now : Begun) → i < length view
    → seen ≡ get_or view i seen → place ≡ i → before.directories ≡ first.directories → now ≡ with_file before place shown
    → IsWritten file view i first before → shown ≡ file seen → IsWritten file view (i + 1) first now
one_more file view i place seen shown first before now within is at same pushed written put =
    let directories : List (List ℕ) = first.directories in
    let number : ℕ = first_file directories + place in
    let size : length (map file view) ≡ length view = length-map view file in
    let inside : i < length (map file view) = omega (arith, size) in
    let its : shown ≡ get_or (map file view) i shown = put ∙ ap file is ∙ sym (get_or-map file view i seen shown within) in
    let numbered : number ≡ first_file directories + i = ap (λ (n : ℕ). first_file directories + n) at in
    let more : now.script ≡ before.script ++ commands_of (file_entries directories number shown) =
    ap (λ (e : Begun). e.script) pushed
    ∙ ap (λ (ds : List (List ℕ)). before.script ++ commands_of (file_entries ds (first_file ds + place) shown)) same in
    files_more directories (first_file directories) i number (map file view) shown _ before.script now.script inside its numbered written more

pub written_more : (file : Content → Seen → Shown) (view : List Seen) (i place : ℕ) (seen : Seen) (shown : Shown) (first before : Begun)
    {now : Begun} {holds here : Option Content} → i < length view → seen ≡ get_or view i seen → place ≡ i
    → before.directories ≡ first.directories → now ≡ with_file before place shown → here ≡ holds
    → IfSome holds (λ content. IsWritten (file content) view i first before) → IfSome here (λ content. shown ≡ file content seen)
    → IfSome holds (λ content. IsWritten (file content) view (i + 1) first now)
written_more file view i place seen shown first before {now} {holds} within is at same pushed here kept put =
    IfSome-map2 _ _ _ holds
    (λ content written its. one_more (file content) view i place seen shown first before now within is at same pushed written its)
    kept (rw here at put)

-- all files are written
pub written_all : (file : Content → Seen → Shown) (view : List Seen) (i : ℕ) (first now : Begun) (holds : Option Content) → length view ≤ i
    → now.directories ≡ first.directories → IfSome holds (λ content. IsWritten (file content) view i first now)
    → IfSome holds (λ content. now ≡ with_files first (map (file content) view))
written_all file view i first now holds all same kept =
    IfSome-map2 _ _ _ holds (λ content written _. one (file content) written) kept kept where
      one : (f : Seen → Shown) → IsWritten f view i first now → now ≡ with_files first (map f view)
      one f written =
          let size : length (map f view) ≡ length view = length-map view f in
          let none : drop i (map f view) ≡ [] = drop_all i (map f view) (omega (arith, size)) in
          let directories : List (List ℕ) = first.directories in
          let script : now.script ≡ (with_files first (map f view)).script =
          sym (append-nil now.script)
          ∙ ap (λ (rest : List Shown). now.script ++ commands_of (files_from directories (first_file directories + i) rest)) (sym none)
          ∙ written in
          ap₂ (λ (ds : List (List ℕ)) (bytes : List ℕ). let e : Begun = record { directories = ds; script = bytes } in e) same script

-- ---- the script

paths_alike : (file : Seen → Shown) (view : List Seen) → ((seen : Seen) → (file seen).paths ≡ seen.paths)
    → flat_map (λ (seen : Seen). seen.paths) view ≡ paths_in (map file view)
paths_alike file [] same = refl
paths_alike file (seen ∷ view) same =
    ap₂ (λ (here later : List (List ℕ)). here ++ later) (sym (same seen)) (paths_alike file view same)

-- the script that was begun for the paths of a view, with its files, is the export
pub is_export : (file : Seen → Shown) (view : List Seen) → ((seen : Seen) → (file seen).paths ≡ seen.paths)
    → (with_files (begun (flat_map (λ (seen : Seen). seen.paths) view)) (map file view)).script ≡ export_of (map file view)
unfolding export_of
is_export file view same =
    let shown : List Shown = map file view in
    let directories : List (List ℕ) = directories_of shown in
    ap (λ (paths : List (List ℕ)). (with_files (begun paths) shown).script) (paths_alike file view same)
    ∙ sym (commands-append (map (directory_entry directories) (drop 1 directories)) (files_from directories (first_file directories) shown))
