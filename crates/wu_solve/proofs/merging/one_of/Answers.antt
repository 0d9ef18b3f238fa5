use Rattle.std.proofs.Common.{◌≡◌, ◌++◌, ◌≤◌, ◌⊎◌, ◌∙◌, length, drop, sym, ap, append_assoc, inl, inr, arith, List}
use Rattle.std.proofs.lemmas.Grind.{common_steps}
use Rattle.wu_base.specs.declared.addresses.Extent.{Extent}
use Rattle.wu_solve.proofs.Unions.{union, union_end, union_inner}
use Rattle.wu_solve.proofs.merging.one_of.Goals as goal
use Rattle.wu_solve.proofs.merging.one_of.Goals.{then-loop-i-test+else-j-right, else-loop-i-test}

pub returns : goal.returns
returns c =
    let left = c.args.left.now in
    let right = c.args.right.now in
    let i = c.loop-i.i in
    let j = c.loop-i.j in
    let over : (length left ≤ i) ⊎ (length right ≤ j) = elim c.loop-i-test.branch [
      | then-loop-i-test+else-j-right w ↦ inr (omega arith)
      | else-loop-i-test w ↦ inl (omega arith)
    ] in
    let put : c.extend_from_slice-2.new.self.items ≡ (c.loop-i.found.items ++ drop i left) ++ drop j right = grind (arith, common_steps) in
    let whole : c.extend_from_slice-2.new.self.items ≡ union left right =
    put ∙ append_assoc c.loop-i.found.items (drop i left) (drop j right)
    ∙ ap (λ (xs : List Extent). c.loop-i.found.items ++ xs) (sym (union_end left right i j over)) ∙ c.loop-i.invariant.same in
    rw whole (union_inner left right c.requires.left_ascends c.requires.right_ascends)
