use Rattle.std.proofs.Common.{drop}
use Rattle.wu_image.proofs.RuleLemmas.{PartsLeft}
use Rattle.wu_image.proofs.rules.are_parts.Given as goal

abbrev pub invariant-loop-part : goal.invariant-loop-part
invariant-loop-part l = PartsLeft l.parts (drop l.part-index l.parts) l.from l.limit l.flushes_left l.flushes l.next_address
