use Rattle.std.proofs.Common.{◌-◌}
use Rattle.wu_image.specs.Checkpoints.{part_items}
use Rattle.wu_image.specs.Reading.{FitsPart}
use Rattle.wu_image.proofs.ItemLemmas.{Taken}
use Rattle.wu_image.proofs.lists.take_parts.Given as goal

abbrev pub invariant-loop : goal.invariant-loop
invariant-loop l = Taken part_items FitsPart l.bytes l.count l.parts.items (l.count - l.counter) l.rest
