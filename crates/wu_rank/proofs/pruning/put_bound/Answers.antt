use Rattle.std.proofs.Common.{List, get_or, arith}
use Rattle.std.proofs.lemmas.List.{get_or_default}
use Rattle.std.proofs.lemmas.List.Edits.{map_over_more}
use Rattle.wu_rank.specs.declared.entries.Entry.{Entry}
use Rattle.wu_rank.specs.Pruning.{bounded}
use Rattle.wu_rank.proofs.pruning.put_bound.Goals as goal

pub loop-entry-preserved : goal.loop-entry-preserved
loop-entry-preserved c =
    let counts : List Entry = c.loop-entry.counts in
    let nothing : Entry = record { unit = 0; value = 0 } in
    let entry : Entry = get_or counts c.loop-entry.entry-index nothing in
    map_over_more (bounded c.args.bound) c.args.counts.now counts c.loop-entry.entry-index entry (omega arith) c.loop-entry.invariant
    (get_or_default counts c.loop-entry.entry-index nothing entry (omega arith))
