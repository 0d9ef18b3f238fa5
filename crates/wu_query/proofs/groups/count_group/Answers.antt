use Rattle.std.proofs.Common.{◌∙◌, List, ap, length}
use Rattle.std.specs.Prelude.{count_by, nat_lt}
use Rattle.wu_base.specs.declared.addresses.TermList.{TermList}
use Rattle.wu_gcl.specs.Regions.{region_of}
use Rattle.wu_solve.specs.Solving.{frame_hits, frames_hits}
use Rattle.wu_query.proofs.AnswerLemmas.{if_ok}
use Rattle.wu_query.proofs.NearGroups.{cut_files, cut_hits, cut_lists}
use Rattle.wu_query.proofs.groups.count_group.Goals as goal

pub count_apart-requires-clause-lists : goal.count_apart-requires-clause-lists
count_apart-requires-clause-lists c =
    rw c.deref.ensures.value
    (cut_lists c.args.frames.now c.args.gathered.now c.requires.terms c.in_ok-lists.lists.items c.in_ok-lists.ensures.lists
    c.in_ok-lists.ensures.ascending)

pub count_apart-requires-clause-few : goal.count_apart-requires-clause-few
count_apart-requires-clause-few c =
    let same = cut_hits (region_of c.args.expr.now) c.args.frames.now c.args.gathered.now in
    rw (c.deref.ensures.value ∙ c.in_ok-lists.ensures.lists, same) c.requires.few

pub returns-clause-hits : goal.returns-clause-hits
returns-clause-hits c =
    let region = region_of c.args.expr.now in
    let frames = c.args.frames.now in
    if_ok c.count_apart.result c.count_apart.ensures.hits
    (λ counts is.
    is ∙ ap (λ (lists : List TermList). length (frames_hits region lists frames)) (c.deref.ensures.value ∙ c.in_ok-lists.ensures.lists)
    ∙ ap length (cut_hits region frames c.args.gathered.now))

pub returns-clause-files : goal.returns-clause-files
returns-clause-files c =
    let region = region_of c.args.expr.now in
    let frames = c.args.frames.now in
    if_ok c.count_apart.result c.count_apart.ensures.files
    (λ counts is.
    is
    ∙ ap (λ (lists : List TermList). count_by (λ frame. nat_lt 0 (length (frame_hits region lists frame))) frames)
    (c.deref.ensures.value ∙ c.in_ok-lists.ensures.lists)
    ∙ cut_files region frames c.args.gathered.now)
