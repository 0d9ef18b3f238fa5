use Rattle.std.proofs.Common.{ℕ, List, ◌∙◌, subst}
use Rattle.std.specs.List.{flat_map}
use Rattle.std.proofs.lemmas.Map.Lookups.{exact_bytes}
use Rattle.wu_export.specs.Exports.{directories_on}
use Rattle.wu_export.specs.Finding.{HaveTheSame}
use Rattle.wu_export.proofs.FoundDirectories.{collected}
use Rattle.wu_export.proofs.directories.Directories.on.Goals as goal

pub sorted_once-files-requires : goal.sorted_once-files-requires
sorted_once-files-requires c = record { exact = exact_bytes }

pub sorted_once-paths-requires : goal.sorted_once-paths-requires
sorted_once-paths-requires c = record { exact = exact_bytes }

pub returns : goal.returns
returns c =
    let found : List (List ℕ) = c.in_ok-found.found.items in
    let files : List (List ℕ) = c.sorted_once-files.result.items in
    let same : HaveTheSame found (flat_map directories_on files) =
    subst (λ (l : List (List ℕ)). HaveTheSame found (flat_map directories_on l)) c.deref.ensures.value c.in_ok-found.ensures in
    c.sorted_once-paths.ensures.items ∙ collected found files c.args.all.items same c.sorted_once-files.ensures.items
