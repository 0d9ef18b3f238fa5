use Rattle.std.proofs.Common.{drop, map}
use Rattle.wu_image.specs.Items.{Number}
use Rattle.wu_image.proofs.ItemLemmas.{LeftToPut}
use Rattle.wu_image.proofs.fields.put_numbers.Given as goal

abbrev pub invariant-loop-number : goal.invariant-loop-number
invariant-loop-number l =
    LeftToPut l.fn.out.items l.out.items (map Number l.numbers) (map Number (drop l.number-index l.numbers))
