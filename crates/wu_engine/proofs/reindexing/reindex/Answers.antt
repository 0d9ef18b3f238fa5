use Rattle.std.proofs.Common.{ap}
use Rattle.wu_parts.specs.Contents.{Contents}
use Rattle.wu_query.proofs.PassedCauses.{err_from}
use Rattle.wu_engine.proofs.ReindexedTexts.{order_cause, order_follows, order_reads, order_reindexable, order_within}
use Rattle.wu_engine.proofs.reindexing.reindex.Goals as goal

pub index_texts-requires-clause-fresh : goal.index_texts-requires-clause-fresh
index_texts-requires-clause-fresh g c = ap (λ (p : Contents). p.memory) c.in_ok-parts.ensures.parts

pub index_texts-requires-clause-files : goal.index_texts-requires-clause-files
index_texts-requires-clause-files g c =
    rw c.deref.ensures.value
    (order_reindexable c.args.checkpoint.now c.requires.rules _ c.in_ok-parts.ensures.files c.requires.room)

pub index_texts-requires-clause-order : goal.index_texts-requires-clause-order
index_texts-requires-clause-order g c =
    rw c.deref.ensures.value (order_follows c.args.checkpoint.now c.requires.rules _ c.in_ok-parts.ensures.files)

pub returns-in_err-index_texts-clause-reads : goal.returns-in_err-index_texts-clause-reads
returns-in_err-index_texts-clause-reads g c =
    order_reads c.args.checkpoint.now c.requires.rules _ c.in_ok-parts.ensures.files (g.D.Store.reads c.args.store.now)
    (g.D.Store.reads c.index_texts.new.store) (rw c.deref.ensures.value at c.index_texts.ensures.only)

pub returns-in_err-index_texts-clause-cause : goal.returns-in_err-index_texts-clause-cause
returns-in_err-index_texts-clause-cause g c =
    err_from _ c.from_residual-in_err-index_texts.result c.in_err-index_texts.field-0.0 c.from_residual-in_err-index_texts.ensures.1
    (order_cause c.args.checkpoint.now c.requires.rules _ c.in_ok-parts.ensures.files
    (rw c.deref.ensures.value at c.in_err-index_texts.ensures.cause))

pub returns-clause-opened : goal.returns-clause-opened
returns-clause-opened g c =
    let done = rw c.deref.ensures.value at c.in_ok-index_texts.ensures in
    record {
      order = _;
      by_address = c.in_ok-parts.ensures.files;
      whole = done.whole;
      memory = done.memory;
      below =
          done.below c.args.checkpoint.now.next_address
          (order_within c.args.checkpoint.now c.requires.rules _ c.in_ok-parts.ensures.files);
      kept = rw c.in_ok-parts.ensures.parts at done.others;
      read_are = done.reads;
    }

pub returns-clause-reads : goal.returns-clause-reads
returns-clause-reads g c =
    order_reads c.args.checkpoint.now c.requires.rules _ c.in_ok-parts.ensures.files (g.D.Store.reads c.args.store.now)
    (g.D.Store.reads c.index_texts.new.store) (rw c.deref.ensures.value at c.index_texts.ensures.only)
