use Rattle.std.proofs.lemmas.Map.Lookups.{exact_bytes}
use Rattle.wu_view.proofs.groups.sorted.Goals as goal

pub sorted_once-requires : goal.sorted_once-requires
sorted_once-requires c = record { exact = exact_bytes }
