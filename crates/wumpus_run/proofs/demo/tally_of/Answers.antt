use Rattle.std.proofs.Common.{ap, ◌∙◌}
use Rattle.wu_outside.specs.Known.{KnownSource}
use Rattle.wu_outside.specs.Stored.{PlainBlobs}
use Rattle.wumpus_run.proofs.DemoLemmas.{IsReady-none, IsUnderWay-none}
use Rattle.wumpus_run.proofs.demo.tally_of.Goals as goal

pub count_items-requires : goal.count_items-requires
count_items-requires c =
    let fresh = c.in-Ok.ensures.fresh in
    IsReady-none c.new-source.result c.in_ok-reader.reader c.in-Ok.engine (ap (λ (source : KnownSource). source.ended) c.new-source.ensures)
    c.in_ok-reader.ensures fresh.goes_on (fresh.flush_at ∙ c.from.ensures) fresh.next fresh.next_blob fresh.flushes

pub returns : goal.returns
returns c =
    c.count_items.ensures c.args.script.items
    (IsUnderWay-none c.args.script.items c.new-source.result c.in_ok-reader.reader c.in-Ok.engine c.new-store.result c.begin.new.store
    (ap (λ (source : KnownSource). source.left) c.new-source.ensures) c.in_ok-reader.ensures
    (ap (λ (store : PlainBlobs). store.root) c.new-store.ensures) c.in-Ok.ensures.stands.stands)
