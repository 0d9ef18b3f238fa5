use Rattle.std.proofs.Common.{◌≡◌, ℕ, ◌+◌, List, [], ◌∷◌, get_or, drop, map, arith}
use Rattle.std.proofs.lemmas.List.{at_drop_all, drop_more}
use Rattle.wu_image.specs.Items.{Id}
use Rattle.wu_image.proofs.ItemLemmas.{all_left, all_put_at, same_id_appended, some_put}
use Rattle.wu_image.proofs.fields.put_ids.Goals as goal

pub loop-id-init : goal.loop-id-init
loop-id-init c = all_left _ _

pub loop-id-preserved : goal.loop-id-preserved
loop-id-preserved c =
    let ids = c.args.ids.now in
    let place = c.loop-id.id-index in
    let next : drop place ids ≡ get_or ids place 0 ∷ drop (place + 1) ids = drop_more ids place 0 c.loop-id-test.true in
    some_put _ _ _ (map Id ids) (Id (get_or ids place 0) ∷ []) (map Id (drop (place + 1) ids)) (rw next at c.loop-id.invariant)
    (same_id_appended _ _ (get_or ids place 0) c.from.result (omega arith) (omega (arith, c.type_inv.ids place))
    c.in_ok-put_number.ensures.ok)

pub returns : goal.returns
returns c =
    all_put_at _ _ _ _ c.loop-id.invariant
    (at_drop_all (λ (l : List ℕ). map Id l) c.args.ids.now c.loop-id.id-index c.loop-id-test.false)
