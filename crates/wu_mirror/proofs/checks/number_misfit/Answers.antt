use Rattle.wu_mirror.proofs.Fitting.{apart_if, if_none, in_any, order_or, order_unless}
use Rattle.wu_mirror.proofs.checks.number_misfit.Goals as goal

pub returns : goal.returns
returns c = record {
  none = in_any (apart_if c.args.changes.now (if_none c.in_ok-number.field-0 c.in_default.not-Some c.in_ok-number.ensures.none))
      c.order_misfit.result;
  some = order_or _ c.args.changes.now c.order_misfit.result c.order_misfit.ensures;
  order = order_unless c.args.changes.now c.order_misfit.result c.order_misfit.ensures;
}
