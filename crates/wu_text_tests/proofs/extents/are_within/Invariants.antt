use Rattle.std.proofs.Common.{take}
use Rattle.std.specs.List.{All}
use Rattle.wu_snip.specs.Snippets.{IsWithin}
use Rattle.wu_text_tests.proofs.extents.are_within.Given as goal

abbrev pub invariant-loop-extent : goal.invariant-loop-extent
invariant-loop-extent l = All (IsWithin l.text) (take l.extent-index l.extents)
