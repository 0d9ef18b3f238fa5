use Rattle.std.proofs.Common.{subst, sym}
use Rattle.std.specs.Cmp.Lexicographic.{slice_cmp}
use Rattle.std.specs.List.Sorted.{IsStrictlySortedBy}
use Rattle.std.specs.Ordering.{nat_cmp}
use Rattle.wu_gcl.specs.Regions.{region_of}
use Rattle.wu_query.specs.Units.{found_in}
use Rattle.wu_query.proofs.FramesOfFiles.{are_lists}
use Rattle.wu_query.proofs.NearGroups.{same_by_all}
use Rattle.wu_query.proofs.postings.postings_near.Goals as goal

pub returns-then-are_few-clause-lists : goal.returns-then-are_few-clause-lists
returns-then-are_few-clause-lists g c = λ s tells. rw c.from.ensures (c.in_ok-lists.ensures.lists s tells)

pub returns-then-are_few-clause-solved : goal.returns-then-are_few-clause-solved
returns-then-are_few-clause-solved g c =
    rw c.from.ensures
    (are_lists c.args.terms.now c.in_ok-lists.lists.items c.in_ok-lists.ensures.named c.in_ok-lists.ensures.ascending c.requires.ascending)

pub returns-clause-lists : goal.returns-clause-lists
returns-clause-lists g c = λ s tells.
    rw c.from-2.ensures
    (same_by_all (region_of c.args.expr.now) c.args.frames.now.ranges c.in_ok-gathered.gathered.items
    (found_in c.args.frames.now.ranges s) c.args.terms.now (c.in_ok-gathered.ensures.lists s tells))

pub returns-clause-solved : goal.returns-clause-solved
returns-clause-solved g c =
    rw c.from-2.ensures
    (subst (IsStrictlySortedBy (slice_cmp nat_cmp)) (sym c.in_ok-gathered.ensures.named) c.requires.ascending)
