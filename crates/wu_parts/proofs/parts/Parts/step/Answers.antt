use Rattle.std.proofs.Common.{◌≡◌, ℕ, length, Option, ap, ap₂, sym, subst, ◌∙◌, option_map, arith}
use Rattle.std.specs.List.{flat_map}
use Rattle.std.proofs.lemmas.Result.{err_from_is_err_and}
use Rattle.wu_job.specs.Jobs.{Answers, JobState, StandWithin}
use Rattle.wu_outside.specs.Content.{Content}
use Rattle.wu_outside.specs.Crash.{Moments}
use Rattle.wu_parts.specs.Flushing.{Told}
use Rattle.wu_parts.specs.StoredParts.{running_at}
use Rattle.wu_parts.specs.UnitsOfParts.{Replaces}
use Rattle.wu_job.specs.declared.jobs.Progress.{Progress}
use Rattle.wu_parts.proofs.UnitChains.{changes_less, changes_none}
use Rattle.wu_parts.proofs.UnitSteps.{ends_job, leaves_of, made_of, stops_late}
use Rattle.wu_parts.proofs.parts.Parts.step.Goals as goal

pub end-requires-clause-job : goal.end-requires-clause-job
end-requires-clause-job g c =
    let old : JobState = c.args.running.job in
    let new : JobState = c.step.new.self in
    let others = c.in_ok-step.ensures.term.makes.others in
    let answer = subst (λ (p : Progress). Answers new p) c.in-Done.is c.in_ok-step.ensures.answer in
    ends_job c.args.self.now.parts c.args.self.now.directories c.args.running new.done (option_map (λ bytes. bytes.items) c.in-Done.made)
    c.requires.job (made_of c.in-Done.made new old.generation answer (ap (λ (s : JobState). s.generation) others))
    (subst (λ ps. StandWithin ps (flat_map (λ list. list.at) new.done)) (ap (λ (s : JobState). s.parts) others)
    c.stays_within_its_parts.ensures)

pub returns-in_err-end-in-Done-clause-stops : goal.returns-in_err-end-in-Done-clause-stops
returns-in_err-end-in-Done-clause-stops g c =
    let p = err_from_is_err_and c.from_residual-in_err-end-in-Done.result c.from_residual-in_err-end-in-Done.ensures.1 in
    rw (p.1, p.2)
    (stops_late (running_at c.args.running) (g.D.Store.holds c.args.store.now) (g.D.Store.faults c.args.store.now)
    (g.D.Store.faults c.step.new.store) (g.D.Store.faults c.end.new.store) (g.D.Store.reads c.args.store.now)
    (g.D.Store.reads c.end.new.store) c.in_err-end-in-Done.field-0.0
    (c.in_err-end-in-Done.ensures.unread ∙ c.in_ok-step.ensures.reads) c.in_ok-step.ensures.calm c.in_err-end-in-Done.ensures.cause)

pub returns-in_ok-end-in-Done-clause-done : goal.returns-in_ok-end-in-Done-clause-done
returns-in_ok-end-in-Done-clause-done g c =
    let new : JobState = c.step.new.self in
    let others = c.in_ok-step.ensures.term.makes.others in
    let answer = subst (λ (p : Progress). Answers new p) c.in-Done.is c.in_ok-step.ensures.answer in
    let place : ℕ = c.args.running.place in
    let count : ℕ = c.args.running.count in
    let told : Option Content → Option Moments → Told = λ holds moments. (holds, moments) in
    let before : Told = (g.D.Store.holds c.args.store.now, g.D.Store.moments c.args.store.now) in
    let middle : Told = (g.D.Store.holds c.step.new.store, g.D.Store.moments c.step.new.store) in
    let after : Told = (g.D.Store.holds c.end.new.store, g.D.Store.moments c.end.new.store) in
    let same : middle ≡ before = ap₂ told c.in_ok-step.ensures.holds c.in_ok-step.ensures.still in
    let replaces : Replaces place count (option_map (λ bytes. bytes.items) c.in-Done.made) c.args.self.now c.end.new.self before after =
    subst (λ (t : Told). Replaces place count (option_map (λ bytes. bytes.items) c.in-Done.made) c.args.self.now c.end.new.self t after)
    same c.in_ok-end-in-Done.ensures.done in
    record {
      state = new;
      term = c.in_ok-step.ensures.term;
      right = c.in_ok-step.ensures.right;
      leaves =
          leaves_of c.in-Done.made place count new c.args.self.now c.end.new.self before after
          (c.requires.job.count ∙ ap (λ (s : JobState). length s.parts) (sym others)) answer replaces;
      read = c.in_ok-end-in-Done.ensures.unread ∙ c.in_ok-step.ensures.reads;
      whole = c.in_ok-step.ensures.whole;
    }

pub returns-in_err-step-clause-changes : goal.returns-in_err-step-clause-changes
returns-in_err-step-clause-changes g c =
    let p = err_from_is_err_and c.from_residual.result c.from_residual.ensures.1 in
    let old = c.args.self.now in
    rw p.1 (changes_less 0 1 old old (omega arith) (changes_none old))
