use Rattle.std.proofs.Common.{◌+◌, ◌==◌, ◌||◌, ℕ, max, refl, ap, ◌∙◌}
use Rattle.wu_part.proofs.TotalsLemmas.{more_totals}
use Rattle.wu_part.proofs.totals.Totals.with.Goals as goal

pub returns-clause-totals : goal.returns-clause-totals
returns-clause-totals c = λ lists t.
    more_totals lists c.args.list.now c.args.self.now _ t c.requires.list c.requires.low refl
    (c.max.ensures ∙ ap (λ (n : ℕ). max c.args.self.now.high n) c.last_address.ensures)
    (c.in_ok-stored.ensures ∙ ap (λ (n : ℕ). c.args.self.now.stored + n) c.len.ensures) c.in_ok-count.ensures
    (c.is_noted.ensures ∙ ap (λ (n : ℕ). c.args.self.now.reached || (n == c.args.self.now.low)) c.first_address.ensures)
