use Rattle.std.proofs.Common.{◌+◌, cond, ap, sym, ◌∙◌, arith}
use Rattle.std.proofs.lemmas.Map.Keys.{sorted_from_strictly_increasing}
use Rattle.wu_base.specs.declared.addresses.Range.{Range}
use Rattle.wu_terms.proofs.InFrames.{counted_next, next_frame}
use Rattle.wu_terms.proofs.counting.files_with.Goals as goal
use Rattle.wu_terms.proofs.counting.files_with.Goals.{then-begins_in, else-begins_in}

pub loop-frame-init : goal.loop-frame-init
loop-frame-init c = record { counted = omega arith; ascending = sorted_from_strictly_increasing _ c.requires.ascending }

pub loop-frame-preserved : goal.loop-frame-preserved
loop-frame-preserved c =
    let d : Range = record { start = 0; len = 0 } in
    let whole = c.addresses_from-rest.ensures.whole in
    let step = next_frame c.args.frames.now c.loop-frame.frame-index d c.loop-frame.rest.now whole.0 c.addresses_from-rest.result.now
    (omega arith) c.requires.order whole.1 whole.2 in
    let n = c.loop-frame.count in
    record {
      counted = counted_next _ n _ _ _ _ c.loop-frame.invariant.counted step
          (elim c.if-begins_in.branch [
            | then-begins_in w ↦
                w.count-is ∙ ap (λ b. cond b (n + 1) n) (sym (sym c.begins_in.ensures ∙ w.if-begins_in.true))
            | else-begins_in w ↦
                w.count-is ∙ ap (λ b. cond b (n + 1) n) (sym (sym c.begins_in.ensures ∙ w.if-begins_in.false))
          ]);
      ascending = c.addresses_from-rest.ensures.ascending;
    }
