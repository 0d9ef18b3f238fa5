use Rattle.std.proofs.Common.{◌≡◌, ◌+◌, ◌⊎◌, inl, inr, arith}
use Rattle.wu_solve.specs.Addresses.{stands_by}
use Rattle.wu_cursor.proofs.Leaves.{last_window, no_last_window, no_window_at_all}
use Rattle.wu_cursor.proofs.operands.last_window.Goals as goal

pub returns-then-size-eq0 : goal.returns-then-size-eq0
returns-then-size-eq0 c =
    no_window_at_all c.args.size (stands_by c.args.lists.now c.args.frame.start) c.args.frame.len c.args.to
    (elim c.then-size-eq0.either [ inl none ↦ inl (omega arith) | inr empty ↦ inr (omega (arith, empty.1)) ])

pub returns-then-end-size : goal.returns-then-end-size
returns-then-end-size c =
    let end = c.min-end.result in
    let is : (end ≡ c.args.to) ⊎ (end + 1 ≡ c.args.frame.len) = grind arith in
    no_last_window c.args.size (stands_by c.args.lists.now c.args.frame.start) c.args.frame.len c.args.to end is (omega arith)

pub returns : goal.returns
returns c =
    let end = c.min-end.result in
    let is : (end ≡ c.args.to) ⊎ (end + 1 ≡ c.args.frame.len) = grind arith in
    let same : c.from-size.result ≡ c.args.size = omega arith in
    rw same
    (last_window c.args.size (stands_by c.args.lists.now c.args.frame.start) c.args.frame.len c.args.to end (omega arith) (omega arith)
    (omega arith)
    (omega arith) is (omega arith))
