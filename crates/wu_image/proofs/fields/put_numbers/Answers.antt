use Rattle.std.proofs.Common.{◌≡◌, ℕ, ◌+◌, List, [], ◌∷◌, get_or, drop, map, arith}
use Rattle.std.proofs.lemmas.List.{at_drop_all, drop_more}
use Rattle.wu_image.specs.Items.{Number}
use Rattle.wu_image.proofs.ItemLemmas.{all_left, all_put_at, number_appended, some_put}
use Rattle.wu_image.proofs.fields.put_numbers.Goals as goal

pub loop-number-init : goal.loop-number-init
loop-number-init c = all_left _ _

pub loop-number-preserved : goal.loop-number-preserved
loop-number-preserved c =
    let numbers = c.args.numbers.now in
    let place = c.loop-number.number-index in
    let next : drop place numbers ≡ get_or numbers place 0 ∷ drop (place + 1) numbers = drop_more numbers place 0 c.loop-number-test.true in
    some_put _ _ _ (map Number numbers) (Number (get_or numbers place 0) ∷ []) (map Number (drop (place + 1) numbers))
    (rw next at c.loop-number.invariant)
    (number_appended _ _ _ (omega (arith, c.type_inv.numbers place)) c.in_ok-put_number.ensures.ok)

pub returns : goal.returns
returns c =
    all_put_at _ _ _ _ c.loop-number.invariant
    (at_drop_all (λ (l : List ℕ). map Number l) c.args.numbers.now c.loop-number.number-index c.loop-number-test.false)
