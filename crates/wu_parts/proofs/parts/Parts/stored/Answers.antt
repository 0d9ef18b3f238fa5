use Rattle.std.proofs.Common.{List, ap, arith}
use Rattle.wu_parts.specs.Contents.{stored_in_parts}
use Rattle.wu_parts.specs.StoredParts.{records_of}
use Rattle.wu_parts.specs.declared.writing.StoredPart.{StoredPart}
use Rattle.wu_parts.proofs.Spans.{stored_within}
use Rattle.wu_parts.proofs.parts.Parts.stored.Goals as goal

pub stored_in_all-requires : goal.stored_in_all-requires
stored_in_all-requires c =
    omega (
      arith,
      ap (λ (ps : List StoredPart). stored_in_parts (records_of ps)) c.as_slice.ensures.value,
      stored_within 0 c.self.inside.memory.low c.self.inside.parts.items c.self.invariant.stored.spans,
      c.stored.ensures.room,
      c.stored.ensures.bounded,
    )

pub overflow_add-result : goal.overflow_add-result
overflow_add-result c =
    omega (
      arith,
      c.stored_in_all.ensures,
      ap (λ (ps : List StoredPart). stored_in_parts (records_of ps)) c.as_slice.ensures.value,
      stored_within 0 c.self.inside.memory.low c.self.inside.parts.items c.self.invariant.stored.spans,
      c.stored.ensures.stored,
      c.stored.ensures.room,
      c.stored.ensures.bounded,
    )
