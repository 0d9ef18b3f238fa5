use Rattle.std.proofs.Common.{sym, subst}
use Rattle.std.specs.Prelude.{IfSome}
use Rattle.std.proofs.lemmas.Result.{IfErr-weaker, IfOk-weaker}
use Rattle.wu_engine.specs.Opened.{IsFoundIn}
use Rattle.wu_engine.specs.Opening.{IsBeginCause}
use Rattle.wu_engine.proofs.OpenedRoots.{damage_cause}
use Rattle.wu_engine.proofs.OpenedStates.{checkpoint_broken, checkpoint_found, checkpoint_read, on_any_ok}
use Rattle.wu_engine.proofs.opening.open_checkpoint.Given as given
use Rattle.wu_engine.proofs.opening.open_checkpoint.Goals as goal
use Rattle.wu_engine.proofs.opening.open_checkpoint.Goals.{After-own_checkpoint}

-- what was found is what the blob has
found_there : (g : given.Over) (c : After-own_checkpoint g)
    → IfSome (g.D.Store.holds c.args.store.now)
    (λ content. IsFoundIn c.args.root.now.size (content.blobs c.args.root.now.checkpoint) c.in_ok-found.found)
found_there g c =
    checkpoint_read (g.D.Store.holds c.args.store.now) c.args.root.now c.in_ok-bytes.bytes.items c.deref.result.now
    c.in_ok-found.found c.deref.ensures.value c.in_ok-bytes.ensures.bytes c.in_ok-bytes.ensures.size c.in_ok-found.ensures.found
    c.in_ok-found.ensures.none

pub returns-clause-saved : goal.returns-clause-saved
returns-clause-saved g c =
    IfOk-weaker c.own_checkpoint.result _ _
    (checkpoint_found (g.D.Store.holds c.args.store.now) c.args.root.now c.in_ok-found.found
    (found_there g (goal.at.returns-clause-saved g c).After-own_checkpoint))
    c.own_checkpoint.ensures.own

pub returns-clause-own : goal.returns-clause-own
returns-clause-own g c = IfOk-weaker c.own_checkpoint.result _ _ (λ checkpoint own. own.1) c.own_checkpoint.ensures.own

pub returns-clause-taken : goal.returns-clause-taken
returns-clause-taken g c = on_any_ok _ c.own_checkpoint.result c.in_ok-bytes.ensures.taken

pub returns-clause-store : goal.returns-clause-store
returns-clause-store g c = record {
  holds = c.named_blob.ensures.store.holds;
  moments = c.named_blob.ensures.store.moments;
  calm = on_any_ok _ c.own_checkpoint.result c.in_ok-bytes.ensures.store.calm;
}

pub returns-clause-cause : goal.returns-clause-cause
returns-clause-cause g c =
    let holds = g.D.Store.holds c.args.store.now in
    let before = g.D.Store.faults c.args.store.now in
    let now = g.D.Store.faults c.named_blob.new.store in
    let root = c.args.root.now in
    IfErr-weaker c.own_checkpoint.result _ _
    (λ fault damaged. subst (IsBeginCause holds before now) (sym damaged.0)
    (damage_cause holds before now root.checkpoint c.in_ok-bytes.ensures.store.calm
    (checkpoint_broken holds root c.in_ok-found.found c.requires.found
    (found_there g (goal.at.returns-clause-cause g c).After-own_checkpoint) damaged.1)))
    c.own_checkpoint.ensures.damaged
