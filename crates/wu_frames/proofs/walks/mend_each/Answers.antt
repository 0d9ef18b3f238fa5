use Rattle.std.proofs.Common.{refl, ◌∙◌, arith}
use Rattle.wu_frames.specs.Mending.{IsCacheAfterMove}
use Rattle.wu_frames.proofs.Turns.{next-turn, turned-all, turned-none}
use Rattle.wu_frames.proofs.Bringing.{brought-both, brought-none}
use Rattle.wu_frames.proofs.SeldomMended.{seldom-moved}
use Rattle.wu_frames.proofs.walks.mend_each.Goals as goal

pub loop-init : goal.loop-init
loop-init c = record {
  turned =
      turned-none (IsCacheAfterMove c.args.ino c.args.old c.args.new) c.args.kept.now.entries
      (brought-none c.args.ino c.args.old c.args.new);
  cap = refl;
}

pub loop-preserved : goal.loop-preserved
loop-preserved c =
    let turn =
    next-turn (IsCacheAfterMove c.args.ino c.args.old c.args.new) c.args.kept.now.entries c.loop.kept.entries c.loop.counter
    c.loop.invariant.turned (omega (arith, c.loop-test.true, c.len-end.ensures.len)) in
    let became = c.mend_last.ensures.entries turn.rest turn.entry turn.now_is in
    record {
      turned =
          turn.turned became.0 c.mend_last.new.kept.entries became.1
          (λ gone done b. brought-both c.args.ino c.args.old c.args.new turn.entry became.0 gone done became.2 b);
      cap = c.mend_last.ensures.cap ∙ c.loop.invariant.cap;
    }

pub returns-clause-entries : goal.returns-clause-entries
returns-clause-entries c =
    turned-all (IsCacheAfterMove c.args.ino c.args.old c.args.new) c.args.kept.now.entries c.loop.kept.entries c.loop.counter
    c.loop.invariant.turned (omega (arith, c.loop-test.false, c.len-end.ensures.len))

pub returns-clause-few : goal.returns-clause-few
returns-clause-few c =
    let brought =
    turned-all (IsCacheAfterMove c.args.ino c.args.old c.args.new) c.args.kept.now.entries c.loop.kept.entries c.loop.counter
    c.loop.invariant.turned (omega (arith, c.loop-test.false, c.len-end.ensures.len)) in
    seldom-moved c.args.old c.args.kept.now.entries c.loop.kept.entries brought.stays
