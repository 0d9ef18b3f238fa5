use Rattle.std.proofs.Common.{ℕ, List, ◌∷◌, length, ap, length-append, arith}
use Rattle.wu_image.specs.Items.{Raw}
use Rattle.wu_image.proofs.ItemLemmas.{past_number}
use Rattle.wu_image.proofs.fields.next_name.Goals as goal

pub returns-in_default-clause-none : goal.returns-in_default-clause-none
returns-in_default-clause-none c name items rest s = c.in_default.ensures.none (length name) (Raw name ∷ items) rest s

pub returns-else-length-rest-clause-none : goal.returns-else-length-rest-clause-none
returns-else-length-rest-clause-none c name items rest s =
    let p = past_number _ _ (length name) _ rest (Raw name ∷ items) c.in-Some.ensures.found s in
    let number = p.0 in
    let long = ap (λ (l : List ℕ). length l) p.1.1 in
    omega (arith, length-append name p.1.0)
