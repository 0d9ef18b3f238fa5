use Rattle.wu_part_tests.proofs.ListLemmas.{exact_bytes}
use Rattle.wu_part_tests.proofs.lists.sorted_terms.Goals as goal

pub sorted_once-requires : goal.sorted_once-requires
sorted_once-requires c = record { exact = exact_bytes }
