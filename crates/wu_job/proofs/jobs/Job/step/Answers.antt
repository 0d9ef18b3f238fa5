use Rattle.std.proofs.Common.{refl}
use Rattle.std.proofs.lemmas.Result.{err_from_is_err_and}
use Rattle.wu_layout.proofs.EntryLemmas.{IfSome-map}
use Rattle.wu_layout.proofs.HomeLemmas.{SomeOf-map}
use Rattle.wu_job.specs.Jobs.{AreKept, IsRight, MakesList}
use Rattle.wu_job.specs.Reading.{IsFoundDamaged}
use Rattle.wu_job.specs.Steps.{IsBrokenPart, IsDamaged, IsDamagedPart, step_ranges}
use Rattle.wu_job.proofs.Fronts.{cause_after, front_all, no_memory}
use Rattle.wu_job.proofs.Made.{right_after}
use Rattle.wu_job.proofs.jobs.Job.step.Goals as goal

pub returns-in_err-put-clause-front : goal.returns-in_err-put-clause-front
returns-in_err-put-clause-front g c =
    let p = err_from_is_err_and c.from_residual-in_err-put.result c.from_residual-in_err-put.ensures.1 in
    rw (p.1, p.2)
    (front_all (step_ranges c.args.self.now.terms_left c.args.self.now.parts) (g.D.Store.reads c.args.store.now)
    (g.D.Store.reads c.read_first.new.store) _ c.in_ok-list.ensures.reads (λ blob e. absurd (no_memory blob e)))

pub returns-clause-term : goal.returns-clause-term
returns-clause-term g c = record {
  term = c.in_ok-list.list.first.term;
  kept = c.in_ok-list.list.cut.addresses.items;
  makes = c.in_ok-put.ensures.made;
  held = c.in_ok-list.ensures.held;
}

pub returns-clause-right : goal.returns-clause-right
returns-clause-right g c =
    let old = c.args.self.now in
    let new = c.put.new.self in
    let term = c.in_ok-list.list.first.term in
    let kept = c.in_ok-list.list.cut.addresses.items in
    let makes : MakesList term kept old new = c.in_ok-put.ensures.made in
    IfSome-map (λ content. AreKept content old.parts old.live term kept) (λ content. IsRight content old → IsRight content new)
    (g.D.Store.holds c.args.store.now)
    (λ content k r. right_after content old new term kept makes.first makes.made makes.others k r)
    (c.in_ok-list.ensures.held)

pub returns-in_err-list-clause-cause : goal.returns-in_err-list-clause-cause
returns-in_err-list-clause-cause g c =
    let p = err_from_is_err_and c.from_residual.result c.from_residual.ensures.1 in
    let job = c.args.self.now in
    let holds = g.D.Store.holds c.args.store.now in
    let before = g.D.Store.faults c.args.store.now in
    let now = g.D.Store.faults c.read_first.new.store in
    rw (p.1, p.2)
    (cause_after (IsFoundDamaged holds job) (IsDamaged holds job) before before now c.in_err-list.field-0.0 refl
    (λ blob s.
    SomeOf-map (λ part. IsDamagedPart holds job blob part × IsBrokenPart holds job blob part) (IsDamagedPart holds job blob) job.parts
    (λ part both. both.0) s)
    c.in_err-list.ensures.cause)

pub returns-in_err-list-clause-broken : goal.returns-in_err-list-clause-broken
returns-in_err-list-clause-broken g c =
    let p = err_from_is_err_and c.from_residual.result c.from_residual.ensures.1 in
    let job = c.args.self.now in
    let holds = g.D.Store.holds c.args.store.now in
    rw (p.1, p.2)
    (λ blob e.
    SomeOf-map (λ part. IsDamagedPart holds job blob part × IsBrokenPart holds job blob part) (IsBrokenPart holds job blob) job.parts
    (λ part both. both.1)
    (c.in_err-list.ensures.cause.damaged blob e))
