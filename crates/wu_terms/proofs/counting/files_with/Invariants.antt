use Rattle.std.proofs.Common.{◌≡◌, ◌+◌, drop}
use Rattle.std.specs.List.Sorted.{IsStrictlySortedBy}
use Rattle.std.specs.Ordering.{nat_cmp}
use Rattle.wu_base.specs.Ranges.{frames_with}
use Rattle.wu_terms.proofs.counting.files_with.Given as goal

abbrev pub invariant-loop-frame : goal.invariant-loop-frame
invariant-loop-frame l = record {
  counted : l.count + frames_with (drop l.frame-index l.frames) l.rest ≡ frames_with l.frames l.at;
  ascending : IsStrictlySortedBy nat_cmp l.rest;
}
