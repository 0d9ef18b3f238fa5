use Rattle.std.proofs.Common.{drop}
use Rattle.wu_image.proofs.DistinctBlobs.{RiseLeft}
use Rattle.wu_image.proofs.rules.rise.Given as goal

abbrev pub invariant-loop-number : goal.invariant-loop-number
invariant-loop-number l = RiseLeft l.numbers (drop l.number-index l.numbers) l.from
