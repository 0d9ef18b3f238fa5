use Rattle.std.proofs.Common.{◌≡◌, inl, inr, arith}
use Rattle.wu_solve.specs.Addresses.{stands_by}
use Rattle.wu_cursor.proofs.Leaves.{first_window, no_window}
use Rattle.wu_cursor.proofs.operands.first_window.Goals as goal

pub returns-then-size-eq0 : goal.returns-then-size-eq0
returns-then-size-eq0 c =
    no_window c.args.size (stands_by c.args.lists.now c.args.frame.start) c.args.frame.len c.args.from
    (elim c.then-size-eq0.either [ inl none ↦ inl (omega arith) | inr short ↦ inr (inl (omega (arith, short.1))) ])

pub returns-then-frame-size-2 : goal.returns-then-frame-size-2
returns-then-frame-size-2 c =
    no_window c.args.size (stands_by c.args.lists.now c.args.frame.start) c.args.frame.len c.args.from (inr (inr (omega arith)))

pub returns : goal.returns
returns c =
    let same : c.from-size.result ≡ c.args.size = omega arith in
    rw same
    (first_window c.args.size (stands_by c.args.lists.now c.args.frame.start) c.args.frame.len c.args.from (omega arith) (omega arith)
    (omega arith))
