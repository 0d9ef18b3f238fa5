use Rattle.std.proofs.Common.{◌≡◌, ◌<◌, ◌∙◌, take, sym, ap, subst, arith}
use Rattle.std.specs.Prelude.{Some, None}
use Rattle.wu_base.specs.declared.addresses.Range.{Range}
use Rattle.wu_gcl.specs.Regions.{region_of}
use Rattle.wu_solve.specs.Solving.{frames_hits}
use Rattle.wu_cursor.specs.Access.{last_ending}
use Rattle.wu_cursor.proofs.InFrames.{last_up_to, last_next, from_dropped}
use Rattle.wu_cursor.proofs.frames.last_over.Goals as goal

pub loop-count-init : goal.loop-count-init
loop-count-init c =
    let d : Range = record { start = 0; len = 0 } in record {
      within = c.started-count.ensures.within;
      same = last_up_to (region_of c.args.expr.now) c.args.lists.now c.args.frames.now c.args.address c.started-count.result
          (λ f has.
          let t = from_dropped c.args.frames.now c.started-count.result f d has in
          subst (λ (g : Range). c.args.address < g.start) t.3 (c.started-count.ensures.behind t.0 d t.1 t.2));
    }

pub loop-count-preserved : goal.loop-count-preserved
loop-count-preserved c =
    let d : Range = record { start = 0; len = 0 } in record {
      within = omega arith;
      same = c.loop-count.invariant.same
          ∙ last_next (region_of c.args.expr.now) c.args.lists.now c.args.frames.now c.args.address c.loop-count.count d None
          (omega arith) (omega arith) c.in-None.ensures;
    }

pub returns-in-Some : goal.returns-in-Some
returns-in-Some c =
    let d : Range = record { start = 0; len = 0 } in
    sym (c.loop-count.invariant.same
    ∙ last_next (region_of c.args.expr.now) c.args.lists.now c.args.frames.now c.args.address c.loop-count.count d (Some c.in-Some.extent)
    (omega arith) (omega arith) c.in-Some.ensures)

pub returns : goal.returns
returns c =
    let none : c.loop-count.count ≡ 0 = omega arith in
    sym (c.loop-count.invariant.same
    ∙ ap (λ n. last_ending c.args.address (frames_hits (region_of c.args.expr.now) c.args.lists.now (take n c.args.frames.now))) none)
