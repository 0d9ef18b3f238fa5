use Rattle.std.proofs.Common.{◌≡◌, ℕ, ◌-◌, length, drop, nat_cmp}
use Rattle.std.specs.BTreeSet.{contains}
use Rattle.wu_mirror.specs.Faults.{first_below}
use Rattle.wu_mirror.specs.Moments.{is_told}
use Rattle.wu_mirror.proofs.checks.order_misfit.Given as goal

abbrev pub invariant-loop-back : goal.invariant-loop-back
invariant-loop-back l = record {
  known : (q : ℕ) → contains nat_cmp l.behind q ≡ is_told (drop (length l.changes - l.back) l.changes) q;
  found_first : l.found ≡ first_below (drop (length l.changes - l.back) l.changes);
}
