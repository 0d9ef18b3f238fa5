use Rattle.std.proofs.Common.{◌≡◌, ◌≤◌, length, take}
use Rattle.std.specs.Prelude.{filter}
use Rattle.wu_gcl.specs.Extents.{words_stand}
use Rattle.wu_solve.specs.Addresses.{has_address}
use Rattle.wu_solve.specs.Prefixes.{PrefixStands}
use Rattle.wu_solve.proofs.operands.standing_again.Given as goal

abbrev pub invariant-loop-extent : goal.invariant-loop-extent
invariant-loop-extent l = record {
  found : l.found.items ≡ filter (λ x. words_stand (has_address l.lists) l.words x.start) (take l.extent-index l.extents);
  stretch : PrefixStands (has_address l.lists) l.words l.stretch.start l.stretch.count;
  within : l.stretch.count ≤ length l.words;
}
