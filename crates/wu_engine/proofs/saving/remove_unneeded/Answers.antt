use Rattle.std.proofs.Common.{◌<◌, length, rules}
use Rattle.wu_base.proofs.Results.{on_err}
use Rattle.wu_engine.specs.Saving.{checkpoint_blob}
use Rattle.wu_engine.specs.SavedStores.{remove_blob, try_removal}
use Rattle.wu_engine.proofs.SavedContents.{next_some}
use Rattle.wu_engine.proofs.saving.remove_unneeded.Goals as goal

pub returns-in_err-remove-clause-failed : goal.returns-in_err-remove-clause-failed
returns-in_err-remove-clause-failed g c =
    let within : c.loop-blob.blob-index < length c.args.stale.now = search rules in
    on_err c.from_residual.result
    (c.loop-blob.invariant.some (g.D.Store.holds c.remove.new.self)
    (next_some remove_blob c.args.stale.now (checkpoint_blob c.args.checkpoint) c.loop-blob.blob-index within
    c.in_err-remove.ensures.done.failed))

pub returns-in_err-remove-clause-tried : goal.returns-in_err-remove-clause-tried
returns-in_err-remove-clause-tried g c =
    let within : c.loop-blob.blob-index < length c.args.stale.now = search rules in
    on_err c.from_residual.result
    (c.loop-blob.invariant.tried (g.D.Store.moments c.remove.new.self)
    (next_some try_removal c.args.stale.now (checkpoint_blob c.args.checkpoint) c.loop-blob.blob-index within
    c.in_err-remove.ensures.tried.failed))
