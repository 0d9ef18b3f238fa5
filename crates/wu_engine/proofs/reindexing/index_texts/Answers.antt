use Rattle.std.proofs.Common.{◌+◌, ◌<◌, ◌≤◌, ◌∙◌, length, arith}
use Rattle.wu_image.proofs.RuleLemmas.{all_has_at}
use Rattle.wu_image.specs.declared.records.FileRec.{FileRec}
use Rattle.wu_query.proofs.PassedCauses.{err_from}
use Rattle.wu_engine.proofs.ReindexedTexts.{no_file, turn-cause, turn-memory, turn-only, turn-order, turn-reads, turn-whole}
use Rattle.wu_engine.proofs.reindexing.index_texts.Goals as goal

pub returns-in_err-index_text-clause-only : goal.returns-in_err-index_text-clause-only
returns-in_err-index_text-clause-only g c =
    let within : c.loop-file.file-index < length c.args.files.now = omega arith in
    let reads = g.D.Store.reads in
    turn-only c.args.files.now c.loop-file.file-index within (reads c.args.store.now) (reads c.loop-file.store)
    (reads c.index_text.new.store) c.loop-file.invariant.only c.index_text.ensures.only

pub returns-in_err-index_text-clause-cause : goal.returns-in_err-index_text-clause-cause
returns-in_err-index_text-clause-cause g c =
    let within : c.loop-file.file-index < length c.args.files.now = omega arith in
    let holds = g.D.Store.holds in
    let faults = g.D.Store.faults in
    let reads = g.D.Store.reads in
    err_from _ c.from_residual.result c.in_err-index_text.field-0.0 c.from_residual.ensures.1
    (turn-cause c.args.files.now c.loop-file.file-index within (holds c.args.store.now) (holds c.loop-file.store)
    c.loop-file.invariant.holds (faults c.args.store.now) (faults c.loop-file.store) (faults c.index_text.new.store)
    (reads c.args.store.now) (reads c.loop-file.store) (reads c.index_text.new.store) c.in_err-index_text.field-0.0
    c.loop-file.invariant.whole c.loop-file.invariant.calm c.loop-file.invariant.reads c.in_err-index_text.ensures.cause)

pub loop-file-preserved : goal.loop-file-preserved
loop-file-preserved g c =
    let within : c.loop-file.file-index < length c.args.files.now = omega arith in
    let holds = g.D.Store.holds in
    let reads = g.D.Store.reads in
    let files = c.args.files.now in
    let index = c.loop-file.file-index in
    let invariant = c.loop-file.invariant in
    let done = c.in_ok-index_text.ensures in
    let order = turn-order files index within c.loop-file.parts.memory.end invariant.order in
    record {
      holds = c.index_text.ensures.store.holds ∙ invariant.holds;
      moments = c.index_text.ensures.store.moments ∙ invariant.moments;
      calm = done.store.calm ∙ invariant.calm;
      others = rw invariant.others at done.others;
      order = rw done.end order.1;
      below = λ next all.
          rw done.end
          (all_has_at (λ (file : FileRec). file.range.start + file.range.len ≤ next) files index no_file all within);
      whole = turn-whole files index within (holds c.args.store.now) (holds c.loop-file.store) invariant.holds invariant.whole done.whole;
      memory =
          turn-memory files index within (holds c.args.store.now) (holds c.loop-file.store) invariant.holds
          c.loop-file.parts.memory c.index_text.new.parts.memory invariant.memory order.0 done.memory done.end;
      reads =
          turn-reads files index within (reads c.args.store.now) (reads c.loop-file.store) (reads c.index_text.new.store)
          invariant.reads done.reads;
      only =
          turn-only files index within (reads c.args.store.now) (reads c.loop-file.store) (reads c.index_text.new.store)
          invariant.only c.index_text.ensures.only;
    }
