use Rattle.std.proofs.Common.{refl, arith, rules}
use Rattle.wu_part.proofs.MarkLemmas.{nothing_read, entry_more, first_before, all_read}
use Rattle.wu_part.proofs.EntryReadingLemmas.{entries_not_all}
use Rattle.wu_part.proofs.WholeLemmas.{none_may_follow, all_not_whole}
use Rattle.wu_part.proofs.reading.take_entries.Goals as goal
use Rattle.wu_part.proofs.reading.take_entries.Goals.{else-is_end-via-then-is_end+else-is_all, else-is_end-via-else-is_end}

pub loop-number-init : goal.loop-number-init
loop-number-init c = rw c.new-marks.ensures.items (nothing_read _ _ _ _ _ c.requires.place refl refl refl refl refl refl)

pub returns-in_err-put_mark-clause-err : goal.returns-in_err-put_mark-clause-err
returns-in_err-put_mark-clause-err c =
    let first = first_before _ _ _ _ _ _ _ _ c.loop-number.invariant refl c.in_err-put_mark.ensures.err in search (first, rules)

pub returns-in-None-clause-none : goal.returns-in-None-clause-none
returns-in-None-clause-none c terms a whole =
    none_may_follow _ _ _ _ _ _ _ _ _ _ _ _ c.loop-number.invariant.whole (omega arith) c.in-None.ensures.none terms a whole

pub loop-number-preserved : goal.loop-number-preserved
loop-number-preserved c =
    entry_more _ _ _ _ _ _ _ _ _ _ _ c.loop-number.invariant c.loop-number-test.true refl refl c.in_ok-put_mark.ensures.ok
    c.in-Some.ensures.found

pub returns-then-is_all-clause-found : goal.returns-then-is_all-clause-found
returns-then-is_all-clause-found c =
    let end = c.if-is_end.ensures in
    let all = c.if-is_all.ensures in
    all_read _ _ _ _ _ _ _ c.loop-number.invariant (omega (arith, c.loop-number-test.false)) end.0 end.1 all.0 all.1 all.2

pub returns-else-is_end-clause-none : goal.returns-else-is_end-clause-none
returns-else-is_end-clause-none c terms a whole =
    let read = c.loop-number.invariant in
    elim c.else-is_end.branch [
      | else-is_end-via-then-is_end+else-is_all w ↦ all_not_whole _ _ _ _ _ _ _ _ _ _ _ _ read.whole
          (omega (arith, c.loop-number-test.false)) w.if-is_all.ensures terms a whole
      | else-is_end-via-else-is_end w ↦ entries_not_all _ _ _ _ _ _ _ _ _ read.whole.entries (omega (arith, c.loop-number-test.false))
          w.if-is_end.ensures terms a
    ]
