use Rattle.std.proofs.Common.{Bool, subst}
use Rattle.std.specs.Prelude.{MatchOption}
use Rattle.wu_base.specs.declared.addresses.Extent.{Extent}
use Rattle.wu_solve.specs.Addresses.{stands_by}
use Rattle.wu_cursor.specs.Within.{NoneEnds, IsLast}
use Rattle.wu_cursor.proofs.Made.{file_set, line_set}
use Rattle.wu_cursor.proofs.operands.last_operand.Goals as goal

pub returns-in-File : goal.returns-in-File
returns-in-File c =
    let n = c.args.frame.len in
    rw c.in-File.is
    (subst (λ (set : Extent → Bool). MatchOption c.last_between.result (NoneEnds n set c.args.to) (IsLast n set c.args.to))
    (file_set (stands_by c.args.lists.now c.args.frame.start) n) c.last_between.ensures)

pub returns-in-Line : goal.returns-in-Line
returns-in-Line c =
    let n = c.args.frame.len in
    rw c.in-Line.is
    (subst (λ (set : Extent → Bool). MatchOption c.last_between-in-Line.result (NoneEnds n set c.args.to) (IsLast n set c.args.to))
    (line_set (stands_by c.args.lists.now c.args.frame.start) n) c.last_between-in-Line.ensures)
