use Rattle.std.proofs.Common.{◌+◌, ◌≤◌, ◌∙◌, length, sym, ap, subst, arith, drop_of_length-le}
use Rattle.std.specs.Prelude.{Some, None}
use Rattle.wu_base.specs.declared.addresses.Range.{Range}
use Rattle.wu_gcl.specs.Regions.{region_of}
use Rattle.wu_solve.specs.Solving.{frames_hits}
use Rattle.wu_cursor.specs.Access.{first_starting}
use Rattle.wu_cursor.proofs.InFrames.{first_from, first_next, from_taken}
use Rattle.wu_cursor.proofs.frames.first_over.Goals as goal

pub loop-index-init : goal.loop-index-init
loop-index-init c =
    let d : Range = record { start = 0; len = 0 } in record {
      within = c.ended-index.ensures.within;
      same = first_from (region_of c.args.expr.now) c.args.lists.now c.args.frames.now c.args.address c.ended-index.result
          (λ f has.
          let t = from_taken c.args.frames.now c.ended-index.result f d has in
          subst (λ (g : Range). g.start + g.len ≤ c.args.address) t.2 (c.ended-index.ensures.before t.0 d t.1));
    }

pub loop-index-preserved : goal.loop-index-preserved
loop-index-preserved c =
    let d : Range = record { start = 0; len = 0 } in record {
      within = omega arith;
      same = c.loop-index.invariant.same
          ∙ first_next (region_of c.args.expr.now) c.args.lists.now c.args.frames.now c.args.address c.loop-index.index d None
          (omega arith) c.in-None.ensures;
    }

pub returns-in-Some : goal.returns-in-Some
returns-in-Some c =
    let d : Range = record { start = 0; len = 0 } in
    sym (c.loop-index.invariant.same
    ∙ first_next (region_of c.args.expr.now) c.args.lists.now c.args.frames.now c.args.address c.loop-index.index d (Some c.in-Some.extent)
    (omega arith) c.in-Some.ensures)

pub returns : goal.returns
returns c =
    let end : length c.args.frames.now ≤ c.loop-index.index = omega arith in
    sym (c.loop-index.invariant.same
    ∙ ap (λ fs. first_starting c.args.address (frames_hits (region_of c.args.expr.now) c.args.lists.now fs))
    (drop_of_length-le c.args.frames.now end))
