use Rattle.std.proofs.Common.{◌+◌, ◌-◌, length}
use Rattle.wu_gcl.specs.Extents.{words_stand}
use Rattle.wu_solve.specs.Addresses.{stands_by}
use Rattle.wu_cursor.proofs.Leaps.{first_by_leaps, none_by_leaps}
use Rattle.wu_cursor.proofs.phrases.first_standing.Goals as goal

pub returns-in_err-next : goal.returns-in_err-next
returns-in_err-next c =
    rw c.from_residual.ensures
    (none_by_leaps (c.args.frame.len + 1 - length c.args.words.now) (words_stand (stands_by c.args.lists.now c.args.frame.start)
    c.args.words.now)
    c.args.from c.loop-next.place c.loop-next.invariant.least c.in_err-next.ensures)

pub returns-then-next-place : goal.returns-then-next-place
returns-then-next-place c =
    first_by_leaps (c.args.frame.len + 1 - length c.args.words.now) (words_stand (stands_by c.args.lists.now c.args.frame.start)
    c.args.words.now)
    c.args.from c.loop-next.place c.loop-next.invariant.low c.loop-next.invariant.least c.in_ok-next.next c.if-next-place.true
    c.in_ok-next.ensures
