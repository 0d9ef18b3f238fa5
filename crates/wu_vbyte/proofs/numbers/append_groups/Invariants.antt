use Rattle.std.proofs.Common.{◌≡◌, ◌++◌, ℕ, List}
use Rattle.wu_vbyte.specs.Numbers.{SpellsNumber, AppendsNumber}
use Rattle.wu_vbyte.proofs.numbers.append_groups.Given as goal

-- the spelling of what is left completes that of the number
abbrev pub invariant-loop-rest : goal.invariant-loop-rest
invariant-loop-rest l = record {
  completed : (code : List ℕ) → SpellsNumber l.rest code → AppendsNumber l.fn.out.items l.number (l.out.items ++ code);
  begun : (more : List ℕ) × (l.out.items ≡ l.fn.out.items ++ more);
}

abbrev pub decreases-loop-rest : goal.decreases-loop-rest
decreases-loop-rest l = l.rest
