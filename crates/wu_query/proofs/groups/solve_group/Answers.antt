use Rattle.std.proofs.Common.{◌∙◌, List, ap}
use Rattle.wu_base.specs.declared.addresses.TermList.{TermList}
use Rattle.wu_gcl.specs.Regions.{region_of}
use Rattle.wu_solve.specs.Solving.{frames_hits}
use Rattle.wu_query.proofs.AnswerLemmas.{if_ok}
use Rattle.wu_query.proofs.NearGroups.{cut_hits, cut_lists}
use Rattle.wu_query.proofs.groups.solve_group.Goals as goal

pub solve_apart-requires-clause-lists : goal.solve_apart-requires-clause-lists
solve_apart-requires-clause-lists c =
    rw c.deref.ensures.value
    (cut_lists c.args.frames.now c.args.gathered.now c.requires.terms c.in_ok-lists.lists.items c.in_ok-lists.ensures.lists
    c.in_ok-lists.ensures.ascending)

pub returns : goal.returns
returns c =
    let region = region_of c.args.expr.now in
    let frames = c.args.frames.now in
    if_ok c.solve_apart.result c.solve_apart.ensures.extents
    (λ v is.
    is ∙ ap (λ (lists : List TermList). frames_hits region lists frames) (c.deref.ensures.value ∙ c.in_ok-lists.ensures.lists)
    ∙ cut_hits region frames c.args.gathered.now)
