use Rattle.std.proofs.Common.{◌≡◌, take}
use Rattle.std.specs.Prelude.{filter}
use Rattle.wu_gcl.specs.Extents.{words_stand}
use Rattle.wu_solve.specs.Addresses.{has_address}
use Rattle.wu_solve.proofs.operands.word_by_word.Given as goal

abbrev pub invariant-loop-place : goal.invariant-loop-place
invariant-loop-place l =
    l.left.items ≡ filter (λ x. words_stand (has_address l.lists) (take l.place l.words) x.start) l.initial.left.items
