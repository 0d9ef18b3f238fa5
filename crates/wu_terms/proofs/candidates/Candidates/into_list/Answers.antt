use Rattle.std.proofs.lemmas.Map.Lookups.{exact_bytes}
use Rattle.wu_terms.proofs.candidates.Candidates.into_list.Goals as goal

pub sorted_once-requires : goal.sorted_once-requires
sorted_once-requires c = record { exact = exact_bytes }
