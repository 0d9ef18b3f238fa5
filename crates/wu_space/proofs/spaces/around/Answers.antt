use Rattle.std.proofs.Common.{◌≡◌, ◌-◌, arith}
use Rattle.wu_space.proofs.Window.{window-is}
use Rattle.wu_space.proofs.spaces.around.Goals as goal

pub returns-then-from-to : goal.returns-then-from-to
returns-then-from-to c = record {
  all = λ first end o. window-is c.args.low c.args.high first c.args.slots.now end _ _ o c.first_around-from.ensures c.starts_up_to-to.ensures.parts;
}

pub returns-else-from-to : goal.returns-else-from-to
returns-else-from-to c = record {
  all = λ first end o.
      let none : c.starts_up_to-to.result - c.first_around-from.result ≡ 0 = omega (arith, c.if-from-to.false) in
      let e = window-is c.args.low c.args.high first c.args.slots.now end _ _ o c.first_around-from.ensures c.starts_up_to-to.ensures.parts in
      rw none at e;
}
