use Rattle.std.proofs.Common.{◌+◌, ◌∙◌, ap}
use Rattle.std.proofs.lemmas.Bool.{le-leb, lt-leb}
use Rattle.wu_lists.specs.declared.tallies.Tally.{Tally}
use Rattle.wu_lists.proofs.Tallying.{counted_several}
use Rattle.wu_lists.proofs.tallies.Tally.count_to.Goals as goal
use Rattle.wu_lists.proofs.tallies.Tally.count_to.Goals.{then-self-start, else-self-start}

pub returns : goal.returns
returns c =
    counted_several c.args.start c.args.self.now c.if-self-start.self c.args.count (c.args.last + 1)
    (elim c.if-self-start.branch [
      | then-self-start w ↦ ap (λ (t : Tally). t.hits) w.self-is ∙ c.saturating_add-self.ensures
      | else-self-start w ↦ ap (λ (t : Tally). t.hits) w.self-is ∙ c.saturating_add-self.ensures
    ])
    (elim c.if-self-start.branch [
      | then-self-start w ↦
          rw (le-leb c.args.self.now.after c.args.start w.if-self-start.true)
          (ap (λ (t : Tally). t.frames) w.self-is ∙ w.saturating_add-self-then-self-start.ensures)
      | else-self-start w ↦
          rw (lt-leb c.args.self.now.after c.args.start w.if-self-start.false) (ap (λ (t : Tally). t.frames) w.self-is)
    ])
