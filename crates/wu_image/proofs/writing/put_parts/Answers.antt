use Rattle.std.proofs.Common.{◌≡◌, ◌+◌, List, [], ◌∷◌, length, drop, get_or}
use Rattle.std.specs.List.{flat_map}
use Rattle.std.proofs.lemmas.List.{at_drop_all, drop_more}
use Rattle.wu_base.specs.declared.addresses.PartRec.{PartRec}
use Rattle.wu_image.specs.Items.{Number, list_items}
use Rattle.wu_image.specs.Checkpoints.{part_items}
use Rattle.wu_image.proofs.ItemLemmas.{all_left, all_put_at, some_put}
use Rattle.wu_image.proofs.RuleLemmas.{no_part}
use Rattle.wu_image.proofs.writing.put_parts.Goals as goal

pub loop-part-init : goal.loop-part-init
loop-part-init c =
    let parts = c.args.parts.now in
    some_put _ _ _ (list_items part_items parts) (Number (length parts) ∷ []) (flat_map part_items parts) (all_left _ _)
    c.in_ok-put_numbers.ensures

pub loop-part-preserved : goal.loop-part-preserved
loop-part-preserved c =
    let parts = c.args.parts.now in
    let place = c.loop-part.part-index in
    let next : drop place parts ≡ get_or parts place no_part ∷ drop (place + 1) parts =
    drop_more parts place no_part c.loop-part-test.true in
    some_put _ _ _ (list_items part_items parts) (part_items (get_or parts place no_part)) (flat_map part_items (drop (place + 1) parts))
    (rw next at c.loop-part.invariant) c.in_ok-put_part.ensures

pub returns : goal.returns
returns c =
    all_put_at _ _ _ _ c.loop-part.invariant
    (at_drop_all (λ (l : List PartRec). flat_map part_items l) c.args.parts.now c.loop-part.part-index c.loop-part-test.false)
