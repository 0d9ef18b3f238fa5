use Rattle.wu_terms.proofs.Ordered.{exact_lines}
use Rattle.wu_terms.proofs.listing.list_terms.Goals as goal

pub sorted_once-shown-requires : goal.sorted_once-shown-requires
sorted_once-shown-requires c = record { exact = exact_lines }
