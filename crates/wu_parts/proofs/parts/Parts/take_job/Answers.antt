use Rattle.std.proofs.Common.{◌≡◌, ◌∙◌, ap, inl, inr, refl, subst, sym, List, None, Option, Some, true}
use Rattle.std.specs.Prelude.{option_map, IfSome}
use Rattle.wu_parts.specs.Contents.{Contents}
use Rattle.wu_parts.specs.StoredParts.{IsKeptJob, IsStarted, directories_of, records_of, running_at}
use Rattle.wu_parts.specs.Units.{next_job}
use Rattle.wu_parts.specs.UnitsOfParts.{FindsJob}
use Rattle.wu_parts.specs.ViewOfParts.{contents_of}
use Rattle.wu_parts.specs.Working.{is_idle}
use Rattle.wu_parts.specs.declared.working.NextJob.{NextJob}
use Rattle.wu_parts.specs.declared.working.Running.{Running}
use Rattle.wu_parts.specs.declared.writing.StoredPart.{StoredPart}
use Rattle.wu_parts.proofs.parts.Parts.take_job.Goals as goal
use Rattle.wu_parts.proofs.parts.Parts.take_job.Goals.{in-Some, in-None+in-Some-next_job+in_ok-running-in-Some-next_job}
use Rattle.wu_parts.proofs.parts.Parts.take_job.Goals.{in-None+in-None-next_job}

pub returns-clause-job : goal.returns-clause-job
returns-clause-job c =
    elim c.match-take.branch [
      | in-Some w ↦
          let running : Running = w.in-Some.running in
          let there : c.self.inside.job ≡ Some running = sym c.take.ensures.value ∙ w.in-Some.is in
          let kept : IsKeptJob (records_of c.self.inside.parts.items) (directories_of c.self.inside.parts.items) running =
          subst
          (λ (o : Option Running). IfSome o (IsKeptJob (records_of c.self.inside.parts.items) (directories_of c.self.inside.parts.items)))
          there c.self.invariant.job in
          let found : FindsJob c.args.space.now.ranges c.args.self.now (Some running) =
          subst (λ (k : Contents). FindsJob c.args.space.now.ranges k (Some running)) c.self.view_is
          (inl (ap (option_map running_at) there), kept, c.self.invariant.below) in
          rw w.result-is found
      | in-None+in-Some-next_job+in_ok-running-in-Some-next_job w ↦
          let running : Running = w.in_ok-running-in-Some-next_job.running in
          let next : NextJob = w.in-Some-next_job.next in
          let none : c.self.inside.job ≡ None = sym c.take.ensures.value ∙ w.in-None.is in
          let starts : IsStarted c.args.space.now.ranges c.self.inside.parts.items next running =
          subst (λ (ps : List StoredPart). IsStarted c.args.space.now.ranges ps next running) w.as_slice-in-Some-next_job.ensures.value
          w.in_ok-running-in-Some-next_job.ensures in
          let named : next_job c.args.space.now.ranges (records_of c.self.inside.parts.items) ≡ Some next =
          sym
          (subst (λ (ps : List StoredPart). w.next_job.result ≡ next_job c.args.space.now.ranges (records_of ps)) w.as_slice.ensures.value
          w.next_job.ensures)
          ∙ w.in-Some-next_job.is in
          let found : FindsJob c.args.space.now.ranges c.args.self.now (Some running) =
          subst (λ (k : Contents). FindsJob c.args.space.now.ranges k (Some running)) c.self.view_is (
            inr (
              ap (option_map running_at) none,
              record { next = next; named = named; place = starts.place; began = starts.began; live = starts.live },
            ),
            starts.kept,
            c.self.invariant.below,
          ) in
          rw w.result-is found
      | in-None+in-None-next_job w ↦
          let none : c.self.inside.job ≡ None = sym c.take.ensures.value ∙ w.in-None.is in
          let unnamed : next_job c.args.space.now.ranges (records_of c.self.inside.parts.items) ≡ None =
          sym
          (subst (λ (ps : List StoredPart). w.next_job.result ≡ next_job c.args.space.now.ranges (records_of ps)) w.as_slice.ensures.value
          w.next_job.ensures)
          ∙ w.in-None-next_job.is in
          let idle : is_idle c.args.space.now.ranges (contents_of c.self.inside) ≡ true = rw (none, unnamed) refl in
          rw w.result-is (subst (λ (k : Contents). is_idle c.args.space.now.ranges k ≡ true) c.self.view_is idle)
    ]
