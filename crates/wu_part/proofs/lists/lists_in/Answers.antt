use Rattle.std.proofs.Common.{length}
use Rattle.wu_part.proofs.MarkSearchLemmas.{from_mark}
use Rattle.wu_part.proofs.ReadBackLemmas.{one_list_read_back, start_mark}
use Rattle.wu_part.proofs.lists.lists_in.Goals as goal

pub terms_from-entry-items-requires-clause-mark : goal.terms_from-entry-items-requires-clause-mark
terms_from-entry-items-requires-clause-mark c =
    let start = start_mark c.args.head.now (length c.args.blocks.now) c.args.entries.now c.requires.entries.0 c.requires.entries.1 in
    (from_mark _ _ _ _ _ start).1

pub loop-entry-preserved : goal.loop-entry-preserved
loop-entry-preserved c =
    one_list_read_back c.args.head.now.low c.args.blocks.now _ _ _ c.in-Some.entry _ _ c.in_ok-list_of.field-0 c.loop-entry.invariant
    c.in-Some.ensures.steps c.in_ok-list_of.ensures c.in_ok-push.ensures.items
