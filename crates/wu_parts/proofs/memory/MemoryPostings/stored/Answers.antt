use Rattle.std.proofs.Common.{ap, arith}
use Rattle.wu_layout.proofs.PostingLemmas.{Ascend-length}
use Rattle.wu_parts.specs.Memory.{Memory}
use Rattle.wu_parts.proofs.memory.MemoryPostings.stored.Goals as goal

pub returns-clause-room : goal.returns-clause-room
returns-clause-room c =
    omega (
      arith,
      Ascend-length _ _ c.self.invariant.postings c.self.invariant.has.ascend,
      c.self.invariant.has.stored,
      ap (λ (m : Memory). m.low) c.self.view_is,
      ap (λ (m : Memory). m.end) c.self.view_is,
      ap (λ (m : Memory). m.stored) c.self.view_is,
    )
