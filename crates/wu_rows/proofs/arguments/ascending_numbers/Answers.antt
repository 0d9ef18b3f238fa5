use Rattle.std.proofs.lemmas.Map.Keys.{IsStrictlyIncreasing-from_sorted}
use Rattle.wu_rows.proofs.arguments.ascending_numbers.Goals as goal

pub returns-clause-increasing : goal.returns-clause-increasing
returns-clause-increasing c = IsStrictlyIncreasing-from_sorted c.sorted_once.result.items c.sorted_once.ensures.ascending
