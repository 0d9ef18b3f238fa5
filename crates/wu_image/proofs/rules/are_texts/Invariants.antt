use Rattle.std.proofs.Common.{take}
use Rattle.std.specs.List.{AllByRecursion}
use Rattle.wu_image.specs.LayoutRules.{IsText}
use Rattle.wu_image.proofs.rules.are_texts.Given as goal

abbrev pub invariant-loop-file : goal.invariant-loop-file
invariant-loop-file l = AllByRecursion (IsText l.next_address) (take l.file-index l.files)
