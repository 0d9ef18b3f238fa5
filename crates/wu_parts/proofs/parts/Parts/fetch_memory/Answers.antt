use Rattle.std.specs.List.Sorted.{IsStrictlyIncreasing}
use Rattle.std.proofs.lemmas.Result.{IfOk-weaker}
use Rattle.wu_lists.specs.Ascending.{AscendBetween}
use Rattle.wu_lists.proofs.Ascending.{addresses_increase}
use Rattle.wu_parts.proofs.parts.Parts.fetch_memory.Goals as goal

pub returns-clause-ascending : goal.returns-clause-ascending
returns-clause-ascending c =
    IfOk-weaker c.fetch.result (AscendBetween c.self.inside.memory.low c.self.inside.memory.end) IsStrictlyIncreasing
    (λ found a. addresses_increase c.self.inside.memory.low c.self.inside.memory.end found a) c.fetch.ensures.ascend
