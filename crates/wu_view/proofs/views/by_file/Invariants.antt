use Rattle.std.proofs.Common.{◌≡◌, ℕ, List}
use Rattle.std.specs.Prelude.{map}
use Rattle.std.specs.Ordering.{nat_cmp}
use Rattle.std.specs.BTreeMap.{get}
use Rattle.wu_view.specs.Groups.{grouped}
use Rattle.wu_view.specs.KeptViews.{kept_file, place_of}
use Rattle.wu_view.specs.LinkLists.{file_at}
use Rattle.wu_view.proofs.views.by_file.Given as goal

abbrev pub invariant-loop-found : goal.invariant-loop-found
invariant-loop-found l = record {
  places : (q : ℕ) → get nat_cmp l.places q ≡ place_of q l.files.items;
  files : (paths : List (List ℕ)) → map (kept_file paths) l.files.items ≡ grouped (map (file_at paths) l.yielded);
}
