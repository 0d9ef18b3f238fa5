use Rattle.std.proofs.Common.{◌≡◌, ◌∙◌, [], true, false}
use Rattle.std.specs.Prelude.{filter}
use Rattle.std.proofs.lemmas.Result.{IfOk-weaker}
use Rattle.wu_gcl.specs.declared.expressions.Op.TheVariants.{Containing, ContainedIn, NotContaining, NotContainedIn}
use Rattle.wu_gcl.specs.Regions.{Window, Both}
use Rattle.wu_solve.specs.Merging.{is_wanted}
use Rattle.wu_solve.specs.Solving.{frames_hits}
use Rattle.wu_solve.specs.Windows.{lies_in_window, holds_window}
use Rattle.wu_solve.proofs.Results.{frames_ascend}
use Rattle.wu_solve.proofs.Roomy.{all_lie}
use Rattle.wu_solve.proofs.WindowsWhole.{contained_in_windows_whole, not_contained_in_windows_whole, containing_windows_whole}
use Rattle.wu_solve.proofs.WindowsWhole.{not_containing_windows_whole}
use Rattle.wu_solve.proofs.solving.combine_with_windows.Goals as goal

pub returns-in-Containing : goal.returns-in-Containing
returns-in-Containing c = λ one lists is_left.
    rw c.in-Containing.is
    (IfOk-weaker c.holding_windows.result (λ v. v.items ≡ filter (λ x. is_wanted true (holds_window c.args.size x)) c.args.left.now)
    (λ v. v.items ≡ frames_hits (Both Containing one (Window c.args.size)) lists c.args.frames.now)
    (λ v same. same ∙ rw is_left (containing_windows_whole one c.args.size lists c.args.frames.now c.requires.apart))
    c.holding_windows.ensures)

pub returns-in-ContainedIn : goal.returns-in-ContainedIn
returns-in-ContainedIn c = λ one lists is_left.
    rw c.in-ContainedIn.is
    (IfOk-weaker c.held_by_windows.result
    (λ v. v.items ≡ filter (λ x. is_wanted true (lies_in_window c.args.size c.args.frames.now x)) c.args.left.now)
    (λ v. v.items ≡ frames_hits (Both ContainedIn one (Window c.args.size)) lists c.args.frames.now)
    (λ v same. same ∙ rw is_left (contained_in_windows_whole one c.args.size lists c.args.frames.now c.requires.apart))
    (c.held_by_windows.ensures (rw is_left (all_lie one lists c.args.frames.now))))

pub returns-in-NotContaining : goal.returns-in-NotContaining
returns-in-NotContaining c = λ one lists is_left.
    rw c.in-NotContaining.is
    (IfOk-weaker c.holding_windows-in-NotContaining.result
    (λ v. v.items ≡ filter (λ x. is_wanted false (holds_window c.args.size x)) c.args.left.now)
    (λ v. v.items ≡ frames_hits (Both NotContaining one (Window c.args.size)) lists c.args.frames.now)
    (λ v same. same ∙ rw is_left (not_containing_windows_whole one c.args.size lists c.args.frames.now c.requires.apart))
    c.holding_windows-in-NotContaining.ensures)

pub returns-in-NotContainedIn : goal.returns-in-NotContainedIn
returns-in-NotContainedIn c = λ one lists is_left.
    rw c.in-NotContainedIn.is
    (IfOk-weaker c.held_by_windows-in-NotContainedIn.result
    (λ v. v.items ≡ filter (λ x. is_wanted false (lies_in_window c.args.size c.args.frames.now x)) c.args.left.now)
    (λ v. v.items ≡ frames_hits (Both NotContainedIn one (Window c.args.size)) lists c.args.frames.now)
    (λ v same. same ∙ rw is_left (not_contained_in_windows_whole one c.args.size lists c.args.frames.now c.requires.apart))
    (c.held_by_windows-in-NotContainedIn.ensures (rw is_left (all_lie one lists c.args.frames.now))))

pub combine-requires-clause-right_ascends : goal.combine-requires-clause-right_ascends
combine-requires-clause-right_ascends c =
    rw (c.deref.ensures.value, c.in_ok-right-in-OneOf.ensures [])
    (frames_ascend (Window c.args.size) [] c.args.frames.now c.requires.apart)
