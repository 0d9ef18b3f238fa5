use Rattle.std.proofs.Common.{◌≡◌, ◌++◌, ◌≤◌, ◌⊎◌, ◌∙◌, length, sym, ap, append-nil, inl, inr, arith, List}
use Rattle.wu_base.specs.declared.addresses.Extent.{Extent}
use Rattle.wu_solve.proofs.Covers.{covers, covers_end, covers_inner}
use Rattle.wu_solve.proofs.merging.both_of.Goals as goal
use Rattle.wu_solve.proofs.merging.both_of.Goals.{then-loop-i-test+else-j-right, else-loop-i-test}

pub returns : goal.returns
returns c =
    let left = c.args.left.now in
    let right = c.args.right.now in
    let i = c.loop-i.i in
    let j = c.loop-i.j in
    let over : (length left ≤ i) ⊎ (length right ≤ j) = elim c.loop-i-test.branch [
      | then-loop-i-test+else-j-right w ↦ inr (omega arith)
      | else-loop-i-test w ↦ inl (omega arith)
    ] in
    let whole : c.loop-i.found.items ≡ covers left right =
    sym (append-nil c.loop-i.found.items) ∙ ap (λ (xs : List Extent). c.loop-i.found.items ++ xs) (sym (covers_end left right i j over))
    ∙ c.loop-i.invariant.same in
    rw whole (covers_inner left right c.requires.left_ascends c.requires.right_ascends)
