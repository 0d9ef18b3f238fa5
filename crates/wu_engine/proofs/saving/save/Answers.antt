use Rattle.std.proofs.Common.{◌≡◌, ◌+◌, ◌++◌, arith, inr, rules, length}
use Rattle.wu_base.proofs.Results.{on_err}
use Rattle.wu_engine.specs.Saving.{KeepsNamed, checkpoint_blob, removed_by_save}
use Rattle.wu_engine.specs.SavedStores.{SomeDone, remove_blob}
use Rattle.wu_engine.proofs.SavedContents.{all_some, named_checkpoint, named_removed, named_rooted}
use Rattle.wu_engine.proofs.DrawnNumbers.{draws_cleared, draws_failed, draws_more, draws_saved, draws_then}
use Rattle.wu_engine.proofs.SavedSteps.{saves_from, stale_drawn}
use Rattle.wu_engine.proofs.SoundLemmas.{numbers_left}
use Rattle.wu_engine.proofs.StoppedSaves.{stops_after_flush, stops_at_checkpoint, stops_at_flush, stops_at_removal, stops_at_root}
use Rattle.wu_engine.proofs.saving.save.Given as given
use Rattle.wu_engine.proofs.saving.save.Goals as goal
use Rattle.wu_engine.proofs.saving.save.Goals.{After-remove_unneeded}

pub returns-in_err-put_checkpoint-clause-elsewhere : goal.returns-in_err-put_checkpoint-clause-elsewhere
returns-in_err-put_checkpoint-clause-elsewhere g c =
    let old = c.args.parts.now in
    let numbers = numbers_left old c.flush.new.self c.in_ok-flush.ensures.changes in
    let number = c.draw_blob-blob.ensures.blob in
    named_checkpoint old.next_blob (removed_by_save old c.args.checkpoint) c.flush.ensures.elsewhere c.draw_blob-blob.result
    (omega (arith, number, numbers.least)) (omega (arith, number, numbers.most)) c.put_checkpoint.ensures.elsewhere

pub returns-in_err-set_root-clause-elsewhere : goal.returns-in_err-set_root-clause-elsewhere
returns-in_err-set_root-clause-elsewhere g c =
    let old = c.args.parts.now in
    let numbers = numbers_left old c.flush.new.self c.in_ok-flush.ensures.changes in
    let number = c.draw_blob-blob.ensures.blob in
    named_rooted old.next_blob (removed_by_save old c.args.checkpoint) c.flush.ensures.elsewhere c.draw_blob-blob.result
    (omega (arith, number, numbers.least)) (omega (arith, number, numbers.most)) c.put_checkpoint.ensures.elsewhere
    c.write_root.result c.in_err-set_root.ensures.failed

-- after the root was set, the removal of some of what the parts no longer need may differ too
removed : (g : given.Over) (c : After-remove_unneeded g)
    → SomeDone remove_blob (c.stale.result.now ++ checkpoint_blob c.args.checkpoint) (g.D.Store.holds c.set_root.new.store)
    (g.D.Store.holds c.remove_unneeded.new.store)
    → KeepsNamed c.args.parts.now.next_blob (c.args.parts.now.next_blob + 2) (removed_by_save c.args.parts.now c.args.checkpoint)
    (g.D.Store.holds c.args.store.now) (g.D.Store.holds c.remove_unneeded.new.store)
removed g c some =
    let old = c.args.parts.now in
    let numbers = numbers_left old c.flush.new.self c.in_ok-flush.ensures.changes in
    let number = c.draw_blob-blob.ensures.blob in
    named_removed old.next_blob (removed_by_save old c.args.checkpoint) c.flush.ensures.elsewhere c.draw_blob-blob.result
    (omega (arith, number, numbers.least)) (omega (arith, number, numbers.most)) c.put_checkpoint.ensures.elsewhere
    c.write_root.result (inr c.in_ok-set_root.ensures.set) (g.D.Store.holds c.remove_unneeded.new.store)
    (rw (stale_drawn old c.flush.new.self c.draw_blob-blob.new.self c.stale.result.now c.stale.ensures c.draw_blob-blob.ensures.next
    c.in_ok-flush.ensures.changes) at some)

pub returns-in_err-remove_unneeded-clause-elsewhere : goal.returns-in_err-remove_unneeded-clause-elsewhere
returns-in_err-remove_unneeded-clause-elsewhere g c =
    removed g (goal.at.returns-in_err-remove_unneeded-clause-elsewhere g c).After-remove_unneeded c.in_err-remove_unneeded.ensures.failed

pub returns-clause-elsewhere : goal.returns-clause-elsewhere
returns-clause-elsewhere g c =
    removed g (goal.at.returns-clause-elsewhere g c).After-remove_unneeded
    (rw c.in_ok-remove_unneeded.ensures.removed
    (all_some remove_blob (c.stale.result.now ++ checkpoint_blob c.args.checkpoint) (g.D.Store.holds c.set_root.new.store)))

pub returns-clause-saved : goal.returns-clause-saved
returns-clause-saved g c =
    let holds = g.D.Store.holds in
    let moments = g.D.Store.moments in
    let size : c.len.result ≡ length c.in_ok-bytes.bytes.items = search rules in
    saves_from c.args.tree.now c.args.space.now c.args.files.now.entries c.args.checkpoint c.args.parts.now
    (holds c.args.store.now, moments c.args.store.now) (holds c.flush.new.store, moments c.flush.new.store)
    (holds c.put_checkpoint.new.store, moments c.put_checkpoint.new.store) (holds c.set_root.new.store, moments c.set_root.new.store)
    (holds c.remove_unneeded.new.store, moments c.remove_unneeded.new.store) c.in_ok-flush.ensures.flushed
    c.in_ok-flush.ensures.changes c.draw_blob-blob.ensures.blob c.draw_blob-blob.ensures.next c.in_ok-bytes.ensures c.deref.ensures.value
    size c.next.ensures c.next_blob.ensures c.write_root.ensures c.in_ok-put_checkpoint.ensures.put
    c.in_ok-put_checkpoint.ensures.settled c.in_ok-set_root.ensures.set c.in_ok-set_root.ensures.settled c.stale.ensures
    c.in_ok-remove_unneeded.ensures.removed c.in_ok-remove_unneeded.ensures.settled c.clear_stale.ensures

-- ---- how far a save came that failed

pub returns-in_err-flush-clause-stops : goal.returns-in_err-flush-clause-stops
returns-in_err-flush-clause-stops g c =
    let holds = g.D.Store.holds in
    let moments = g.D.Store.moments in
    on_err c.from_residual.result
    (stops_at_flush c.args.tree.now c.args.space.now c.args.files.now.entries c.args.checkpoint c.args.parts.now
    (holds c.args.store.now, moments c.args.store.now) (holds c.flush.new.store, moments c.flush.new.store)
    c.flush.ensures.elsewhere c.flush.ensures.tried)

pub returns-in_err-bytes-clause-stops : goal.returns-in_err-bytes-clause-stops
returns-in_err-bytes-clause-stops g c =
    let holds = g.D.Store.holds in
    let moments = g.D.Store.moments in
    on_err c.from_residual-in_err-bytes.result
    (stops_after_flush c.args.tree.now c.args.space.now c.args.files.now.entries c.args.checkpoint c.args.parts.now
    (holds c.args.store.now, moments c.args.store.now) (holds c.flush.new.store, moments c.flush.new.store)
    c.in_ok-flush.ensures.flushed c.in_ok-flush.ensures.changes c.draw_blob-blob.ensures.blob)

pub returns-in_err-put_checkpoint-clause-stops : goal.returns-in_err-put_checkpoint-clause-stops
returns-in_err-put_checkpoint-clause-stops g c =
    let holds = g.D.Store.holds in
    let moments = g.D.Store.moments in
    on_err c.from_residual-in_err-put_checkpoint.result
    (stops_at_checkpoint c.args.tree.now c.args.space.now c.args.files.now.entries c.args.checkpoint c.args.parts.now
    (holds c.args.store.now, moments c.args.store.now) (holds c.flush.new.store, moments c.flush.new.store)
    c.in_ok-flush.ensures.flushed c.in_ok-flush.ensures.changes c.draw_blob-blob.ensures.blob
    (holds c.put_checkpoint.new.store, moments c.put_checkpoint.new.store) c.put_checkpoint.ensures.elsewhere
    c.in_err-put_checkpoint.ensures.tried)

pub returns-in_err-set_root-clause-stops : goal.returns-in_err-set_root-clause-stops
returns-in_err-set_root-clause-stops g c =
    let holds = g.D.Store.holds in
    let moments = g.D.Store.moments in
    let size : c.len.result ≡ length c.in_ok-bytes.bytes.items = search rules in
    on_err c.from_residual-in_err-set_root.result
    (stops_at_root c.args.tree.now c.args.space.now c.args.files.now.entries c.args.checkpoint c.args.parts.now
    (holds c.args.store.now, moments c.args.store.now) (holds c.flush.new.store, moments c.flush.new.store)
    c.in_ok-flush.ensures.flushed c.in_ok-flush.ensures.changes c.draw_blob-blob.ensures.blob c.draw_blob-blob.ensures.next
    c.in_ok-bytes.ensures c.deref.ensures.value size c.next.ensures c.next_blob.ensures c.write_root.ensures
    (holds c.put_checkpoint.new.store, moments c.put_checkpoint.new.store) c.in_ok-put_checkpoint.ensures.put
    c.in_ok-put_checkpoint.ensures.settled (holds c.set_root.new.store, moments c.set_root.new.store)
    c.in_err-set_root.ensures.failed c.in_err-set_root.ensures.tried)

pub returns-in_err-remove_unneeded-clause-stops : goal.returns-in_err-remove_unneeded-clause-stops
returns-in_err-remove_unneeded-clause-stops g c =
    let holds = g.D.Store.holds in
    let moments = g.D.Store.moments in
    let size : c.len.result ≡ length c.in_ok-bytes.bytes.items = search rules in
    on_err c.from_residual-in_err-remove_unneeded.result
    (stops_at_removal c.args.tree.now c.args.space.now c.args.files.now.entries c.args.checkpoint c.args.parts.now
    (holds c.args.store.now, moments c.args.store.now) (holds c.flush.new.store, moments c.flush.new.store)
    c.in_ok-flush.ensures.flushed c.in_ok-flush.ensures.changes c.draw_blob-blob.ensures.blob c.draw_blob-blob.ensures.next
    c.in_ok-bytes.ensures c.deref.ensures.value size c.next.ensures c.next_blob.ensures c.write_root.ensures
    (holds c.put_checkpoint.new.store, moments c.put_checkpoint.new.store) c.in_ok-put_checkpoint.ensures.put
    c.in_ok-put_checkpoint.ensures.settled (holds c.set_root.new.store, moments c.set_root.new.store)
    (holds c.remove_unneeded.new.store, moments c.remove_unneeded.new.store) c.stale.ensures
    c.in_ok-set_root.ensures.set c.in_ok-set_root.ensures.settled c.in_err-remove_unneeded.ensures.failed
    c.in_err-remove_unneeded.ensures.tried)

-- ---- the numbers

pub returns-in_err-flush-clause-numbers : goal.returns-in_err-flush-clause-numbers
returns-in_err-flush-clause-numbers g c =
    let old = c.args.parts.now in
    let new = c.flush.new.self in
    draws_more 1 2 old new (omega arith) (draws_failed old new c.in_err-flush.ensures.unchanged c.in_err-flush.ensures.drawn)

pub returns-in_err-bytes-clause-numbers : goal.returns-in_err-bytes-clause-numbers
returns-in_err-bytes-clause-numbers g c =
    draws_saved c.args.parts.now c.flush.new.self c.draw_blob-blob.new.self c.in_ok-flush.ensures.changes c.draw_blob-blob.ensures.next

pub returns-in_err-put_checkpoint-clause-numbers : goal.returns-in_err-put_checkpoint-clause-numbers
returns-in_err-put_checkpoint-clause-numbers g c =
    draws_saved c.args.parts.now c.flush.new.self c.draw_blob-blob.new.self c.in_ok-flush.ensures.changes c.draw_blob-blob.ensures.next

pub returns-in_err-set_root-clause-numbers : goal.returns-in_err-set_root-clause-numbers
returns-in_err-set_root-clause-numbers g c =
    draws_saved c.args.parts.now c.flush.new.self c.draw_blob-blob.new.self c.in_ok-flush.ensures.changes c.draw_blob-blob.ensures.next

pub returns-in_err-remove_unneeded-clause-numbers : goal.returns-in_err-remove_unneeded-clause-numbers
returns-in_err-remove_unneeded-clause-numbers g c =
    draws_saved c.args.parts.now c.flush.new.self c.draw_blob-blob.new.self c.in_ok-flush.ensures.changes c.draw_blob-blob.ensures.next

pub returns-clause-numbers : goal.returns-clause-numbers
returns-clause-numbers g c =
    let drawn = c.draw_blob-blob.new.self in
    draws_then 2 0 c.args.parts.now drawn c.clear_stale.new.self
    (draws_saved c.args.parts.now c.flush.new.self drawn c.in_ok-flush.ensures.changes c.draw_blob-blob.ensures.next)
    (draws_cleared drawn c.clear_stale.new.self c.clear_stale.ensures)
