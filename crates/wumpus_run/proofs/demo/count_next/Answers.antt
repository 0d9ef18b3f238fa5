use Rattle.std.proofs.Common.{◌+◌, Some, subst, ◌∙◌, arith}
use Rattle.std.specs.Io.KnownBytes.{prepend_known}
use Rattle.wu_script.specs.Items.{IsNext}
use Rattle.wu_script.specs.Said.{said_by, tokens_given}
use Rattle.wumpus_run.proofs.SessionLemmas.{takes_one}
use Rattle.wumpus_run.proofs.AddressRoom.{HasRoom-item, HasRoom-few, HasRoom-fewer, StaysLow-item, StaysLow-few, few_drawn, few_flushes}
use Rattle.wumpus_run.proofs.DemoLemmas.{IsTallyOf-end, IsUnderWay-turn}
use Rattle.wumpus_run.proofs.demo.count_next.Goals as goal

pub reply_to-requires-clause-room : goal.reply_to-requires-clause-room
reply_to-requires-clause-room c =
    let item = c.in-Ok.item in
    let next = c.args.engine.now.space.next in
    HasRoom-few (next + tokens_given (said_by item)) 4194304 c.next.new.self
    (HasRoom-item (Some c.args.source.now.left) (Some c.next.new.source.left) c.next.new.source.last_read c.args.reader.now c.next.new.self
    item next 4194304 c.if-is_end.ensures c.in-Ok.ensures.taken c.requires.addresses)
    (omega arith)

pub reply_to-requires-clause-blobs : goal.reply_to-requires-clause-blobs
reply_to-requires-clause-blobs c =
    StaysLow-few c.args.engine.now.parts.next_blob 4194304 c.args.reader.now c.requires.blobs (omega arith)

pub reply_to-requires-clause-flushes : goal.reply_to-requires-clause-flushes
reply_to-requires-clause-flushes c =
    omega (arith, StaysLow-few c.args.engine.now.parts.flushes 4194304 c.args.reader.now c.requires.flushes (omega arith))

pub count_reply-requires : goal.count_reply-requires
count_reply-requires c =
    let few = c.requires.few in
    let left = c.requires.left in
    record {
      few = record {
        commands = omega (arith, few.commands, left);
        oks = omega (arith, few.oks, left);
        refused = omega (arith, few.refused, left);
        counts = omega (arith, few.counts, left);
        hits = omega (arith, few.hits, left);
      };
    }

pub returns-then-is_end-clause-counted : goal.returns-then-is_end-clause-counted
returns-then-is_end-clause-counted c = λ script so_far.
    let known = prepend_known c.args.reader.now.bytes (Some c.args.source.now.left) in
    let rest = prepend_known c.next.new.self.bytes (Some c.next.new.source.left) in
    IsTallyOf-end script c.args.source.now c.next.new.source c.args.reader.now c.next.new.self c.args.engine.now c.args.store.now
    c.args.tally.now (subst (IsNext known rest) c.if-is_end.ensures (c.in-Ok.ensures.first c.requires.at_end)) so_far

pub returns-clause-smaller : goal.returns-clause-smaller
returns-clause-smaller c = λ more.
    takes_one (Some c.args.source.now.left) (Some c.next.new.source.left) c.next.new.source.last_read c.args.reader.now c.next.new.self
    c.in-Ok.item c.if-is_end.ensures c.in-Ok.ensures.taken

pub returns-clause-ready : goal.returns-clause-ready
returns-clause-ready c = λ more.
    let item = c.in-Ok.item in
    let other = c.if-is_end.ensures in
    let took = c.in-Ok.ensures.taken in
    let left = Some c.args.source.now.left in
    let now = Some c.next.new.source.left in
    let last = c.next.new.source.last_read in
    let replied = c.in-Ok-reply_to.ensures in
    let old = c.args.engine.now in
    let new = c.reply_to.new.engine in
    record {
      goes_on = replied.leaves.goes_on;
      flush_at = replied.leaves.flush_at ∙ c.requires.flush_at;
      addresses = HasRoom-fewer new.space.next (old.space.next + tokens_given (said_by item)) 4194304 c.next.new.self
          (HasRoom-item left now last c.args.reader.now c.next.new.self item old.space.next 4194304 other took c.requires.addresses)
          replied.leaves.taken;
      blobs = StaysLow-item left now last c.args.reader.now c.next.new.self item old.parts.next_blob new.parts.next_blob 4194304
          other took c.requires.blobs (omega (arith, replied.leaves.drawn, few_drawn item c.in-Ok.ensures.sound));
      flushes = StaysLow-item left now last c.args.reader.now c.next.new.self item old.parts.flushes new.parts.flushes 4194304
          other took c.requires.flushes (omega (arith, replied.leaves.counted, few_flushes (said_by item)));
      items = c.requires.items + 1;
      few = c.count_reply.ensures.few c.requires.items c.requires.few;
      left = omega (arith, c.requires.left, takes_one left now last c.args.reader.now c.next.new.self item other took);
      follows = c.in-Ok.ensures.follows;
      at_end = c.in-Ok.ensures.at_end c.requires.at_end;
    }

pub returns-clause-counted : goal.returns-clause-counted
returns-clause-counted c = λ script so_far.
    IsUnderWay-turn script c.args.source.now c.next.new.source c.args.reader.now c.next.new.self c.args.engine.now c.reply_to.new.engine
    c.args.store.now c.reply_to.new.store c.args.tally.now c.count_reply.new.tally c.in-Ok.item c.in-Ok-reply_to.reply c.if-is_end.ensures
    (c.in-Ok.ensures.first c.requires.at_end) c.in-Ok-reply_to.ensures.reply c.requires.flush_at c.count_reply.ensures.counted so_far
