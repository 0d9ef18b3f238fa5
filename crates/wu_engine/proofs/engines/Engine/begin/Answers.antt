use Rattle.std.proofs.Common.{◌∙◌, ap, arith, inl, inr}
use Rattle.std.specs.Prelude.{Err}
use Rattle.std.proofs.lemmas.Result.{IfOk-weaker, on_ok_weaker}
use Rattle.wu_query.proofs.PassedCauses.{err_from}
use Rattle.wu_engine.specs.Opening.{IsBeginCause}
use Rattle.wu_engine.specs.declared.faults.BeginFault.{BeginFault}
use Rattle.wu_engine.specs.declared.faults.BeginFault.TheVariants.{NoMemory}
use Rattle.wu_engine.proofs.BegunEngines.{saved_by_root, saved_without}
use Rattle.wu_engine.proofs.EarlierBlobs.{drawn_by_root, drawn_without}
use Rattle.wu_engine.proofs.GoingAtFirst.{first_goes}
use Rattle.wu_engine.proofs.ImageStates.{first_stands}
use Rattle.wu_engine.proofs.OpenedStates.{error_passed, is_settled, never_damaged, on_any_ok, opens_first, reads_root, spent_on}
use Rattle.wu_engine.proofs.OpenedStates.{memory_passed, never_spent, on_no_ok, sized_checkpoint, syncs_only}
use Rattle.wu_engine.proofs.engines.Engine.begin.Goals as goal

pub find_saved-requires : goal.find_saved-requires
find_saved-requires g c = is_settled _ _ c.in_ok-sync.ensures.settled

-- ---- what was saved is opened

pub returns-in-Some-clause-stands : goal.returns-in-Some-clause-stands
returns-in-Some-clause-stands g c =
    let same = c.find_saved.ensures.store.holds ∙ c.sync.ensures.same in
    record {
      stands = rw same at c.open_saved.ensures.stands;
      goes = rw same at c.open_saved.ensures.goes;
      drawn = IfOk-weaker c.open_saved.result _ _
          (λ engine same. drawn_by_root (g.D.Store.holds c.args.store.now) c.in-Some.root engine.parts.next_blob
          (rw (c.sync.ensures.same, c.in-Some.is) at c.in_ok-find_saved.ensures.found) same) c.open_saved.ensures.drawn;
      saved = IfOk-weaker c.open_saved.result _ _
          (λ engine its. saved_by_root (g.D.Store.holds c.args.store.now) c.in-Some.root engine
          (rw (c.sync.ensures.same, c.in-Some.is) at c.in_ok-find_saved.ensures.found) its) (rw same at c.open_saved.ensures.saved);
    }

pub returns-in-Some-clause-fresh : goal.returns-in-Some-clause-fresh
returns-in-Some-clause-fresh g c =
    let opened = c.open_saved.ensures in
    record {
      next = opened.next;
      next_blob = opened.next_blob;
      flushes = opened.flushes;
      flush_at = opened.flush_at;
      kept = opened.kept;
      frames = opened.frames;
      goes_on = opened.goes_on;
    }

pub returns-in-Some-clause-reads : goal.returns-in-Some-clause-reads
returns-in-Some-clause-reads g c =
    let same = c.find_saved.ensures.store.holds ∙ c.sync.ensures.same in
    let asked = rw (c.sync.ensures.unread, c.in-Some.is) at c.in_ok-find_saved.ensures.asked in
    record {
      opened = on_ok_weaker c.open_saved.result (λ opens. opens _ asked) (rw same at c.open_saved.ensures.open);
      reads = (rw same at c.open_saved.ensures.reads) _ asked;
    }

pub returns-in-Some-clause-store : goal.returns-in-Some-clause-store
returns-in-Some-clause-store g c =
    syncs_only c.open_saved.result
    (c.open_saved.ensures.store.holds ∙ (c.find_saved.ensures.store.holds ∙ c.sync.ensures.same))
    (c.open_saved.ensures.store.moments ∙ (c.find_saved.ensures.store.moments ∙ c.in_ok-sync.ensures.settled))
    (g.met.D.Store.told_alike c.args.store.now)

pub returns-in-Some-clause-fails : goal.returns-in-Some-clause-fails
returns-in-Some-clause-fails g c =
    let same = c.find_saved.ensures.store.holds ∙ c.sync.ensures.same in
    let calm = c.in_ok-find_saved.ensures.store.calm ∙ c.in_ok-sync.ensures.cause.calm in
    record {
      calm = on_ok_weaker c.open_saved.result (λ e. e ∙ calm) c.open_saved.ensures.store.calm;
      cause = rw (same, calm) at c.open_saved.ensures.cause;
      memory = λ e. inr (sized_checkpoint (g.D.Store.holds c.args.store.now) c.in-Some.root
          (rw (c.sync.ensures.same, c.in-Some.is) at c.in_ok-find_saved.ensures.found)
          (rw (c.sync.ensures.same, c.in-Some.is) at c.in_ok-find_saved.ensures.size));
      spent = never_spent _ _ (g.D.Store.holds c.args.store.now) _ c.open_saved.result
          (rw c.sync.ensures.same at c.in_ok-find_saved.ensures.spent);
      undamaged = never_damaged _ _ _ c.open_saved.result (rw (same, calm) at c.open_saved.ensures.cause);
    }

-- ---- the root couldn't be opened

pub returns-in_err-find_saved-clause-store : goal.returns-in_err-find_saved-clause-store
returns-in_err-find_saved-clause-store g c =
    syncs_only c.from_residual-in_err-find_saved.result (c.find_saved.ensures.store.holds ∙ c.sync.ensures.same)
    (c.find_saved.ensures.store.moments ∙ c.in_ok-sync.ensures.settled) (g.met.D.Store.told_alike c.args.store.now)

pub returns-in_err-find_saved-clause-reads : goal.returns-in_err-find_saved-clause-reads
returns-in_err-find_saved-clause-reads g c = record {
  opened = on_no_ok _ _ c.from_residual-in_err-find_saved.result c.from_residual-in_err-find_saved.ensures.1;
  reads = rw (c.sync.ensures.same, c.sync.ensures.unread) at c.find_saved.ensures.reads;
}

pub returns-in_err-find_saved-clause-fails : goal.returns-in_err-find_saved-clause-fails
returns-in_err-find_saved-clause-fails g c =
    let r = c.from_residual-in_err-find_saved.result in
    let fault = c.in_err-find_saved.field-0.0 in
    let passed = c.from_residual-in_err-find_saved.ensures.1 in
    let holds = g.D.Store.holds in
    let faults = g.D.Store.faults in
    let its = rw (c.sync.ensures.same, c.in_ok-sync.ensures.cause.calm) at c.in_err-find_saved.ensures.cause in
    let few = rw c.sync.ensures.unread at c.in_err-find_saved.ensures.memory in
    record {
      calm = on_no_ok _ _ r passed;
      cause = err_from _ r fault passed its;
      memory = λ e. inl (few (ap (λ (f : BeginFault). Err f) (memory_passed fault r (error_passed r fault passed) e)));
      spent = spent_on _ _ (holds c.args.store.now) (holds c.sync.new.self) fault r c.sync.ensures.same (error_passed r fault passed)
          c.in_err-find_saved.ensures.spent;
      undamaged = never_damaged _ (faults c.args.store.now) (faults c.find_saved.new.store) r (err_from _ r fault passed its);
    }

-- ---- there is no root

pub returns-in_ok-open_first-in-None-clause-stands : goal.returns-in_ok-open_first-in-None-clause-stands
returns-in_ok-open_first-in-None-clause-stands g c =
    let holds = g.D.Store.holds in
    let same = c.find_saved.ensures.store.holds ∙ c.sync.ensures.same in
    let first = c.in_ok-open_first-in-None.field-0 in
    let rootless = rw (c.sync.ensures.same, c.in-None.is) at c.in_ok-find_saved.ensures.found in
    record {
      stands = λ s image.
          rw same (first_stands first c.args.flush_at c.in_ok-open_first-in-None.ensures (holds c.args.store.now) rootless s image);
      goes = λ content told.
          first_goes first c.args.flush_at c.in_ok-open_first-in-None.ensures (holds c.args.store.now)
          (holds c.find_saved.new.store) same content told;
      drawn = drawn_without (holds c.args.store.now) first.parts.next_blob rootless;
      saved = saved_without (holds c.args.store.now) first rootless;
    }

pub returns-in_ok-open_first-in-None-clause-reads : goal.returns-in_ok-open_first-in-None-clause-reads
returns-in_ok-open_first-in-None-clause-reads g c =
    let reads = g.D.Store.reads in
    let holds = g.D.Store.holds c.args.store.now in
    let read = rw (c.sync.ensures.unread, c.in-None.is) at c.in_ok-find_saved.ensures.asked in
    record {
      opened = opens_first holds (reads c.args.store.now) (reads c.find_saved.new.store) read
          (rw (c.sync.ensures.same, c.in-None.is) at c.in_ok-find_saved.ensures.found);
      reads = reads_root holds (reads c.args.store.now) (reads c.find_saved.new.store) (inr read);
    }

pub returns-in_ok-open_first-in-None-clause-store : goal.returns-in_ok-open_first-in-None-clause-store
returns-in_ok-open_first-in-None-clause-store g c =
    syncs_only _ (c.find_saved.ensures.store.holds ∙ c.sync.ensures.same)
    (c.find_saved.ensures.store.moments ∙ c.in_ok-sync.ensures.settled) (g.met.D.Store.told_alike c.args.store.now)

pub returns-in_err-open_first-in-None-clause-store : goal.returns-in_err-open_first-in-None-clause-store
returns-in_err-open_first-in-None-clause-store g c =
    syncs_only c.from_residual-in_err-open_first-in-None.result (c.find_saved.ensures.store.holds ∙ c.sync.ensures.same)
    (c.find_saved.ensures.store.moments ∙ c.in_ok-sync.ensures.settled) (g.met.D.Store.told_alike c.args.store.now)

pub returns-in_ok-open_first-in-None-clause-fails : goal.returns-in_ok-open_first-in-None-clause-fails
returns-in_ok-open_first-in-None-clause-fails g c = record {
  calm = c.in_ok-find_saved.ensures.store.calm ∙ c.in_ok-sync.ensures.cause.calm;
  cause = tt;
  memory = λ e. absurd (cc e);
  spent = never_spent _ _ (g.D.Store.holds c.args.store.now) _ _ (rw c.sync.ensures.same at c.in_ok-find_saved.ensures.spent);
  undamaged = λ s image blob e. absurd (cc e);
}

pub returns-in_err-open_first-in-None-clause-reads : goal.returns-in_err-open_first-in-None-clause-reads
returns-in_err-open_first-in-None-clause-reads g c = record {
  opened = on_no_ok _ _ c.from_residual-in_err-open_first-in-None.result c.from_residual-in_err-open_first-in-None.ensures.1;
  reads = reads_root (g.D.Store.holds c.args.store.now) (g.D.Store.reads c.args.store.now) (g.D.Store.reads c.find_saved.new.store)
      (inr (rw (c.sync.ensures.unread, c.in-None.is) at c.in_ok-find_saved.ensures.asked));
}

pub returns-in_err-open_first-in-None-clause-fails : goal.returns-in_err-open_first-in-None-clause-fails
returns-in_err-open_first-in-None-clause-fails g c =
    let r = c.from_residual-in_err-open_first-in-None.result in
    let passed = c.from_residual-in_err-open_first-in-None.ensures.1 in
    let holds = g.D.Store.holds c.args.store.now in
    let faults = g.D.Store.faults in
    let calm = c.in_ok-find_saved.ensures.store.calm ∙ c.in_ok-sync.ensures.cause.calm in
    let its : IsBeginCause holds (faults c.args.store.now) (faults c.find_saved.new.store) NoMemory = record {
      counted = omega (arith, calm);
      store_fault = λ e. absurd (cc e);
      calm = λ other. calm;
      spent = λ number e. absurd (cc e);
      damaged = λ blob e. absurd (cc e);
    } in
    record {
      calm = on_any_ok _ r calm;
      cause = err_from _ r NoMemory passed its;
      memory = λ e. inl (inr (rw (c.sync.ensures.unread, c.in-None.is) at c.in_ok-find_saved.ensures.asked));
      spent = never_spent _ _ holds _ r (rw c.sync.ensures.same at c.in_ok-find_saved.ensures.spent);
      undamaged = never_damaged _ (faults c.args.store.now) (faults c.find_saved.new.store) r (err_from _ r NoMemory passed its);
    }
