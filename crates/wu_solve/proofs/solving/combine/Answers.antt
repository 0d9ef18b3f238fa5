use Rattle.std.proofs.Common.{◌≡◌, true, false, ◌∙◌}
use Rattle.std.proofs.lemmas.Result.{IfOk-weaker}
use Rattle.wu_gcl.specs.declared.expressions.Op.TheVariants.{Containing, ContainedIn, NotContaining, NotContainedIn, OneOf}
use Rattle.wu_gcl.specs.Regions.{Both}
use Rattle.wu_solve.specs.Merging.{holding, held, IsOneOf, IsCover, IsSpan, AreInnermost}
use Rattle.wu_solve.specs.Solving.{frames_hits}
use Rattle.wu_solve.proofs.Whole.{containing_whole, not_containing_whole, contained_in_whole, not_contained_in_whole, one_of_whole}
use Rattle.wu_solve.proofs.Whole.{both_of_whole, followed_by_whole}
use Rattle.wu_solve.proofs.solving.combine.Goals as goal

pub returns-in-Containing-clause-hits : goal.returns-in-Containing-clause-hits
returns-in-Containing-clause-hits c = λ one other lists is_left is_right.
    rw c.in-Containing.is
    (IfOk-weaker c.holding.result (λ v. v.items ≡ holding true c.args.left.now c.args.right.now)
    (λ v. v.items ≡ frames_hits (Both Containing one other) lists c.args.frames.now)
    (λ v same. same ∙ rw (is_left, is_right) (containing_whole one other lists c.args.frames.now c.requires.apart)) c.holding.ensures)

pub returns-in-ContainedIn-clause-hits : goal.returns-in-ContainedIn-clause-hits
returns-in-ContainedIn-clause-hits c = λ one other lists is_left is_right.
    rw c.in-ContainedIn.is
    (IfOk-weaker c.held.result (λ v. v.items ≡ held true c.args.left.now c.args.right.now)
    (λ v. v.items ≡ frames_hits (Both ContainedIn one other) lists c.args.frames.now)
    (λ v same. same ∙ rw (is_left, is_right) (contained_in_whole one other lists c.args.frames.now c.requires.apart)) c.held.ensures)

pub returns-in-NotContaining-clause-hits : goal.returns-in-NotContaining-clause-hits
returns-in-NotContaining-clause-hits c = λ one other lists is_left is_right.
    rw c.in-NotContaining.is
    (IfOk-weaker c.holding-in-NotContaining.result (λ v. v.items ≡ holding false c.args.left.now c.args.right.now)
    (λ v. v.items ≡ frames_hits (Both NotContaining one other) lists c.args.frames.now)
    (λ v same. same ∙ rw (is_left, is_right) (not_containing_whole one other lists c.args.frames.now c.requires.apart))
    c.holding-in-NotContaining.ensures)

pub returns-in-NotContainedIn-clause-hits : goal.returns-in-NotContainedIn-clause-hits
returns-in-NotContainedIn-clause-hits c = λ one other lists is_left is_right.
    rw c.in-NotContainedIn.is
    (IfOk-weaker c.held-in-NotContainedIn.result (λ v. v.items ≡ held false c.args.left.now c.args.right.now)
    (λ v. v.items ≡ frames_hits (Both NotContainedIn one other) lists c.args.frames.now)
    (λ v same. same ∙ rw (is_left, is_right) (not_contained_in_whole one other lists c.args.frames.now c.requires.apart))
    c.held-in-NotContainedIn.ensures)

pub returns-in-OneOf-clause-hits : goal.returns-in-OneOf-clause-hits
returns-in-OneOf-clause-hits c = λ one other lists is_left is_right.
    rw c.in-OneOf.is
    (IfOk-weaker c.one_of.result (λ v. AreInnermost (IsOneOf c.args.left.now c.args.right.now) v.items)
    (λ v. v.items ≡ frames_hits (Both OneOf one other) lists c.args.frames.now)
    (λ v inner. one_of_whole one other lists c.args.frames.now c.requires.apart v.items (rw (is_left, is_right) at inner)) c.one_of.ensures)

pub returns-in_ok-both_of-in-BothOf-clause-hits : goal.returns-in_ok-both_of-in-BothOf-clause-hits
returns-in_ok-both_of-in-BothOf-clause-hits c = λ one other lists is_left is_right.
    let found = c.in_ok-both_of-in-BothOf.field-0.items in
    let inner : AreInnermost (IsCover c.args.left.now c.args.right.now) found = c.in_ok-both_of-in-BothOf.ensures in
    rw c.in-BothOf.is
    (c.lying_in.ensures ∙ both_of_whole one other lists c.args.frames.now c.requires.apart found (rw (is_left, is_right) at inner))

pub returns-in_ok-followed_by-in-FollowedBy-clause-hits : goal.returns-in_ok-followed_by-in-FollowedBy-clause-hits
returns-in_ok-followed_by-in-FollowedBy-clause-hits c = λ one other lists is_left is_right.
    let found = c.in_ok-followed_by-in-FollowedBy.field-0.items in
    let inner : AreInnermost (IsSpan c.args.left.now c.args.right.now) found = c.in_ok-followed_by-in-FollowedBy.ensures in
    rw c.in-FollowedBy.is
    (c.lying_in-in-FollowedBy.ensures
    ∙ followed_by_whole one other lists c.args.frames.now c.requires.apart found (rw (is_left, is_right) at inner))
