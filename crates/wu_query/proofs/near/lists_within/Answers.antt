use Rattle.std.proofs.Common.{◌<◌, length, rules}
use Rattle.wu_query.proofs.FetchedLists.{ascending_next}
use Rattle.wu_query.proofs.NearLists.{cut_next}
use Rattle.wu_query.proofs.near.lists_within.Goals as goal

pub loop-one-preserved : goal.loop-one-preserved
loop-one-preserved c =
    let within : c.loop-one.one-index < length c.args.gathered.now = search rules in
    let told = c.loop-one.invariant in
    record {
      lists = cut_next c.args.frames.now c.args.gathered.now c.loop-one.one-index c.one-item.result within c.one-item.is told.lists
          c.in_ok-push.ensures.items c.in_ok-list_within.ensures.list;
      ascending = ascending_next c.loop-one.lists.items c.push.new.self.items c.in_ok-list_within.field-0 told.ascending
          c.in_ok-push.ensures.items c.in_ok-list_within.ensures.ascending;
    }
