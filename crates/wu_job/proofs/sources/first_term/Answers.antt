use Rattle.std.proofs.Common.{◌∙◌}
use Rattle.wu_job.specs.Sources.{terms_of, terms_of_other}
use Rattle.wu_job.proofs.Walking.{first_from, term_at, term_at_other}
use Rattle.wu_job.proofs.sources.first_term.Goals as goal

pub returns : goal.returns
returns c =
    let left = c.args.left.now in
    let right = c.args.right.now in
    let mine = term_at left.directory.terms c.args.places.left in
    let others = term_at_other right c.args.places.right in
    (rw (c.term_of.ensures, c.term_of-2.ensures, c.requires.first, c.requires.second, mine, others) at c.lesser.ensures)
    ∙ first_from (terms_of left) (terms_of_other right) c.args.places.left c.args.places.right
    c.are_whole.ensures.whole.terms.ascending c.are_whole.ensures.whole.others.ascending
