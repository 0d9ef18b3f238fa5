use Rattle.std.proofs.Common.{ap, sym, ◌∙◌}
use Rattle.wu_lists.specs.Blocks.{count_in}
use Rattle.wu_lists.proofs.Terms.{entry-absent, entry-found}
use Rattle.wu_lists.proofs.counts.count_of.Goals as goal

pub returns-in-Some : goal.returns-in-Some
returns-in-Some c =
    c.count.ensures
    ∙ ap count_in
    (sym (entry-found c.args.dir.now.terms c.in-Some.entry c.args.term.now c.is_spelled.ensures.1.holds.ascending c.in-Some.ensures.0
    c.in-Some.ensures.1))

pub returns-in-None : goal.returns-in-None
returns-in-None c = ap count_in (sym (entry-absent c.args.dir.now.terms c.args.term.now c.in-None.ensures))
