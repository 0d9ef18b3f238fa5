use Rattle.std.proofs.Common.{◌≡◌, ◌∙◌, List, subst}
use Rattle.std.specs.Prelude.{IfSome}
use Rattle.std.proofs.lemmas.Result.{IfOk-weaker}
use Rattle.wu_gcl.specs.declared.expressions.Tag.TheVariants.{FileStart, FileEnd, LineStart, LineEnd}
use Rattle.wu_gcl.specs.declared.expressions.Op.TheVariants.{FollowedBy}
use Rattle.wu_gcl.specs.Regions.{region_of, Mark, WholeFile, WholeLine, Both}
use Rattle.wu_base.specs.declared.addresses.Extent.{Extent}
use Rattle.wu_solve.specs.Merging.{tested}
use Rattle.wu_solve.specs.Simple.{Means}
use Rattle.wu_solve.specs.Solving.{frames_hits}
use Rattle.wu_solve.specs.Spanning.{AreHitsNear}
use Rattle.wu_solve.proofs.NearHits.{left_near, right_near}
use Rattle.wu_solve.proofs.Results.{frames_ascend}
use Rattle.wu_solve.proofs.SameRegions.{file_whole, line_whole}
use Rattle.wu_solve.proofs.solving.+solve_at_once.Goals as goal

pub combine_with_windows-requires-clause-ascend : goal.combine_with_windows-requires-clause-ascend
combine_with_windows-requires-clause-ascend t c =
    rw (c.deref-in-Windows-2.ensures.value, c.in_ok-left-in-Windows.ensures)
    (frames_ascend (region_of c.deref-in-Windows.result.now) c.args.lists.now c.args.frames.now c.requires.apart)

pub combine-requires-clause-right_ascends : goal.combine-requires-clause-right_ascends
combine-requires-clause-right_ascends t c =
    rw (c.deref-in-LeftNear-4.ensures.value, c.in_ok-right-in-LeftNear.ensures)
    (frames_ascend (region_of c.deref-in-LeftNear.result.now) c.args.lists.now c.args.frames.now c.requires.apart)

pub combine-requires-in-RightNear-clause-left_ascends : goal.combine-requires-in-RightNear-clause-left_ascends
combine-requires-in-RightNear-clause-left_ascends t c =
    rw (c.deref-in-RightNear-3.ensures.value, c.in_ok-left-in-RightNear.ensures)
    (frames_ascend (region_of c.deref-in-RightNear.result.now) c.args.lists.now c.args.frames.now c.requires.apart)

pub combine-requires-in-Lists-clause-left_ascends : goal.combine-requires-in-Lists-clause-left_ascends
combine-requires-in-Lists-clause-left_ascends t c =
    rw (c.deref-in-Lists-3.ensures.value, c.in_ok-left-in-Lists.ensures)
    (frames_ascend (region_of c.deref-in-Lists.result.now) c.args.lists.now c.args.frames.now c.requires.apart)

pub combine-requires-in-Lists-clause-right_ascends : goal.combine-requires-in-Lists-clause-right_ascends
combine-requires-in-Lists-clause-right_ascends t c =
    rw (c.deref-in-Lists-4.ensures.value, c.in_ok-right-in-Lists.ensures)
    (frames_ascend (region_of c.deref-in-Lists-2.result.now) c.args.lists.now c.args.frames.now c.requires.apart)

pub returns-in_ok-left-in-LeftNear : goal.returns-in_ok-left-in-LeftNear
returns-in_ok-left-in-LeftNear t c =
    let lists = c.args.lists.now in
    let frames = c.args.frames.now in
    let op = c.in-Both.op in
    let one = region_of c.in-Both.left.value in
    let other = region_of c.in-Both.right.value in
    let right = frames_hits other lists frames in
    let way = c.way_of.ensures.left c.in-LeftNear.simple c.in-LeftNear.is in
    let means : Means c.in-LeftNear.simple one = rw c.deref.ensures at way.1 in
    let is_right : c.in_ok-right-in-LeftNear.right.items ≡ right = rw c.deref-in-LeftNear.ensures at c.in_ok-right-in-LeftNear.ensures in
    let xs = c.in_ok-left-in-LeftNear.left.items in
    let close : AreHitsNear one lists frames right xs =
    subst (λ (es : List Extent). AreHitsNear one lists frames es xs) (c.deref-in-LeftNear-2.ensures.value ∙ is_right)
    (c.in_ok-left-in-LeftNear.ensures one means) in
    rw c.in-Both.is
    (IfOk-weaker c.combine.result (λ v. IfSome (tested op xs right) (λ kept. v.items ≡ kept))
    (λ v. v.items ≡ frames_hits (Both op one other) lists frames)
    (λ v is. left_near lists frames c.requires.apart one other op xs v.items close is way.0)
    (rw (c.deref-in-LeftNear-3.ensures.value, c.deref-in-LeftNear-4.ensures.value, is_right) at c.combine.ensures.tested))

pub returns-in_ok-right-in-RightNear : goal.returns-in_ok-right-in-RightNear
returns-in_ok-right-in-RightNear t c =
    let lists = c.args.lists.now in
    let frames = c.args.frames.now in
    let op = c.in-Both.op in
    let one = region_of c.in-Both.left.value in
    let other = region_of c.in-Both.right.value in
    let left = frames_hits one lists frames in
    let way = c.way_of.ensures.right c.in-RightNear.simple c.in-RightNear.is in
    let means : Means c.in-RightNear.simple other = rw c.deref-in-Both.ensures at way.1 in
    let is_left : c.in_ok-left-in-RightNear.left.items ≡ left = rw c.deref-in-RightNear.ensures at c.in_ok-left-in-RightNear.ensures in
    let xs = c.in_ok-right-in-RightNear.right.items in
    let close : AreHitsNear other lists frames left xs =
    subst (λ (es : List Extent). AreHitsNear other lists frames es xs) (c.deref-in-RightNear-2.ensures.value ∙ is_left)
    (c.in_ok-right-in-RightNear.ensures other means) in
    rw c.in-Both.is
    (IfOk-weaker c.combine-in-RightNear.result (λ v. IfSome (tested op left xs) (λ kept. v.items ≡ kept))
    (λ v. v.items ≡ frames_hits (Both op one other) lists frames)
    (λ v is. right_near lists frames c.requires.apart one other op xs v.items close is way.0)
    (rw (c.deref-in-RightNear-3.ensures.value, c.deref-in-RightNear-4.ensures.value, is_left) at c.combine-in-RightNear.ensures.tested))

pub returns-in-File : goal.returns-in-File
returns-in-File t c =
    rw c.in-File.is
    (IfOk-weaker c.between.result
    (λ v. v.items ≡ frames_hits (Both FollowedBy (Mark FileStart) (Mark FileEnd)) c.args.lists.now c.args.frames.now)
    (λ v. v.items ≡ frames_hits WholeFile c.args.lists.now c.args.frames.now)
    (λ v same. same ∙ file_whole c.args.lists.now c.args.frames.now) c.between.ensures)

pub returns-in-Line : goal.returns-in-Line
returns-in-Line t c =
    rw c.in-Line.is
    (IfOk-weaker c.between-in-Line.result
    (λ v. v.items ≡ frames_hits (Both FollowedBy (Mark LineStart) (Mark LineEnd)) c.args.lists.now c.args.frames.now)
    (λ v. v.items ≡ frames_hits WholeLine c.args.lists.now c.args.frames.now)
    (λ v same. same ∙ line_whole c.args.lists.now c.args.frames.now) c.between-in-Line.ensures)
