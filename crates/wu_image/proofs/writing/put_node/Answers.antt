use Rattle.std.proofs.Common.{[], ◌∷◌, arith}
use Rattle.wu_image.specs.Items.{Id, Number}
use Rattle.wu_image.specs.Checkpoints.{kind_number}
use Rattle.wu_image.proofs.ItemLemmas.{appended, renumbered}
use Rattle.wu_image.proofs.writing.put_node.Goals as goal

pub returns : goal.returns
returns c =
    let node = c.args.node.now in
    let perm = node.perm in
    let mode = renumbered _ _ perm.mode c.from.result (omega arith) c.in_ok-put_numbers-2.ensures in
    let owners = appended _ _ _ (Id perm.uid ∷ Id perm.gid ∷ []) (Number perm.mode ∷ []) c.in_ok-put_ids-2.ensures mode in
    let kind = renumbered _ _ (kind_number node.kind) c.kind_number_of.result c.kind_number_of.ensures c.in_ok-put_numbers.ensures in
    let rest = appended _ _ _ (Number (kind_number node.kind) ∷ []) (Id perm.uid ∷ Id perm.gid ∷ Number perm.mode ∷ []) kind owners in
    appended _ _ _ (Id c.args.ino ∷ [])
    (Number (kind_number node.kind) ∷ Id perm.uid ∷ Id perm.gid ∷ Number perm.mode ∷ []) c.in_ok-put_ids.ensures rest
