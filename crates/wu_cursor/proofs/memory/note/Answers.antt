use Rattle.std.proofs.Common.{Option, Some, MatchOption}
use Rattle.std.specs.Prelude.{⊤}
use Rattle.std.proofs.lemmas.List.Elements.{All-set}
use Rattle.wu_cursor.specs.declared.memory.Slot.{Slot}
use Rattle.wu_cursor.specs.Memory.{IsRight}
use Rattle.wu_cursor.proofs.memory.note.Goals as goal

pub returns-then-at-memory : goal.returns-then-at-memory
returns-then-at-memory c = λ lists frame right found.
    let old : MatchOption c.index-memory-at.result ⊤ (IsRight lists frame) = rw c.index-memory-at.is (right c.args.at _ c.if-at-memory.true) in
    All-set (λ (slot : Option Slot). MatchOption slot ⊤ (IsRight lists frame)) c.args.memory.now c.args.at
    (Some c.with_found-slot.result) (c.with_found-slot.ensures lists frame old found) right
