use Rattle.std.proofs.Common.{◌<◌, ◌∷◌, List, ℕ, length, ap, sym, ◌∙◌, subst, refl}
use Rattle.std.proofs.lemmas.Result.{err_from_is_err_and}
use Rattle.wu_job.specs.Jobs.{JobState}
use Rattle.wu_job.specs.Keeping.{AreFound, IsFirst, IsNext}
use Rattle.wu_job.specs.Sources.{terms_from}
use Rattle.wu_job.specs.Steps.{step_ranges}
use Rattle.wu_job.proofs.Fronts.{front_none, no_memory}
use Rattle.wu_job.proofs.Whole.{front_found, passed_at_sources, terms_at_sources}
use Rattle.wu_job.proofs.jobs.Job.read_first.Goals as goal

pub first_of-requires-clause-some : goal.first_of-requires-clause-some
first_of-requires-clause-some g c =
    subst (λ (s : JobState). 0 < length s.terms_left) (sym c.self.view_is) c.requires

pub read_live-requires-clause-first : goal.read_live-requires-clause-first
read_live-requires-clause-first g c =
    let i = c.self.inside in
    rw c.as_slice.ensures
    (subst (λ (s : JobState). IsFirst c.in_ok-first.first.term s) c.self.view_is
    (terms_from i.left i.right c.in_ok-first.first.after, c.in_ok-first.ensures.left))

pub read_live-requires-clause-front : goal.read_live-requires-clause-front
read_live-requires-clause-front g c =
    let i = c.self.inside in
    rw c.as_slice.ensures
    (subst (λ (s : JobState). AreFound s.parts c.in_ok-first.first.term c.front_at-front.result.left c.front_at-front.result.right)
    c.self.view_is
    (front_found i.left i.right i.places c.front_at-front.result c.in_ok-first.first.term
    (terms_from i.left i.right c.in_ok-first.first.after) c.are_whole.ensures.whole c.front_at-front.ensures c.in_ok-first.ensures.left
    c.self.invariant.passed))

pub returns-in_err-first-clause-front : goal.returns-in_err-first-clause-front
returns-in_err-first-clause-front g c =
    let p = err_from_is_err_and c.from_residual.result c.from_residual.ensures.1 in
    rw (p.1, p.2)
    (front_none (step_ranges c.args.self.now.terms_left c.args.self.now.parts) (g.D.Store.reads c.args.store.now)
    (g.D.Store.reads c.args.store.now) _ refl no_memory)

pub returns-clause-next : goal.returns-clause-next
returns-clause-next g c =
    let i = c.self.inside in
    let first = c.in_ok-first.first in
    subst (λ (s : JobState). IsNext s first.term first.after) c.self.view_is
    (record {
      left = c.in_ok-first.ensures.left ∙ ap (λ (ts : List (List ℕ)). first.term ∷ ts) (sym (terms_at_sources i.left i.right first.after));
      passed = passed_at_sources i.left i.right first.after (c.in_ok-first.ensures.passed c.self.invariant.passed);
      bounded = c.in_ok-first.ensures.bounded;
    })

pub returns-clause-held : goal.returns-clause-held
returns-clause-held g c = rw c.as_slice.ensures at c.in_ok-cut.ensures.held
