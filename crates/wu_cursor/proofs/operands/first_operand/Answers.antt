use Rattle.std.proofs.Common.{Bool, subst}
use Rattle.std.specs.Prelude.{MatchOption}
use Rattle.wu_base.specs.declared.addresses.Extent.{Extent}
use Rattle.wu_solve.specs.Addresses.{stands_by}
use Rattle.wu_cursor.specs.Within.{NoneStarts, IsFirst}
use Rattle.wu_cursor.proofs.Made.{file_set, line_set}
use Rattle.wu_cursor.proofs.operands.first_operand.Goals as goal

pub returns-in-File : goal.returns-in-File
returns-in-File c =
    let n = c.args.frame.len in
    rw c.in-File.is
    (subst (λ (set : Extent → Bool). MatchOption c.first_between.result (NoneStarts n set c.args.from) (IsFirst n set c.args.from))
    (file_set (stands_by c.args.lists.now c.args.frame.start) n) c.first_between.ensures)

pub returns-in-Line : goal.returns-in-Line
returns-in-Line c =
    let n = c.args.frame.len in
    rw c.in-Line.is
    (subst (λ (set : Extent → Bool). MatchOption c.first_between-in-Line.result (NoneStarts n set c.args.from) (IsFirst n set c.args.from))
    (line_set (stands_by c.args.lists.now c.args.frame.start) n) c.first_between-in-Line.ensures)
