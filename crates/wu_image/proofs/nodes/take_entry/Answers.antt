use Rattle.std.proofs.Common.{ℕ, List, ◌∷◌, subst}
use Rattle.wu_tree.specs.declared.events.Kind.{Kind}
use Rattle.wu_image.specs.declared.nodes.Entry.{Entry}
use Rattle.wu_image.specs.Items.{Item, Id, Number}
use Rattle.wu_image.specs.Checkpoints.{kind_number}
use Rattle.wu_image.specs.Reading.{HasRecord, record_items}
use Rattle.wu_image.proofs.ItemLemmas.{past_id}
use Rattle.wu_image.proofs.UniqueItems.{past_kind, past_perm}
use Rattle.wu_image.proofs.nodes.take_entry.Goals as goal

-- what follows the kind, and what follows the number
abbrev after_kind : Entry → List Item
after_kind entry =
    Id entry.node.perm.uid ∷ Id entry.node.perm.gid ∷ Number entry.node.perm.mode ∷ record_items entry.file

abbrev after_ino : Entry → List Item
after_ino entry = Number (kind_number entry.node.kind) ∷ after_kind entry

pub returns-in_default-clause-none : goal.returns-in_default-clause-none
returns-in_default-clause-none c entry rest valid s = c.in_default.ensures.none entry.ino (after_ino entry) rest s

pub returns-in_default-take_kind-clause-none : goal.returns-in_default-take_kind-clause-none
returns-in_default-take_kind-clause-none c entry rest valid s =
    let h = past_id _ _ entry.ino _ rest (after_ino entry) c.in-Some.ensures.found s in
    c.in_default-take_kind.ensures.none entry.node.kind (after_kind entry) rest h.1

pub returns-in_default-take_perm-clause-none : goal.returns-in_default-take_perm-clause-none
returns-in_default-take_perm-clause-none c entry rest valid s =
    let h = past_id _ _ entry.ino _ rest (after_ino entry) c.in-Some.ensures.found s in
    let k = past_kind _ _ entry.node.kind _ rest (after_kind entry) c.in-Some-take_kind.ensures.found h.1 in
    c.in_default-take_perm.ensures.none entry.node.perm (record_items entry.file) rest valid.mode k.1

pub returns-in_default-take_record-clause-none : goal.returns-in_default-take_record-clause-none
returns-in_default-take_record-clause-none c entry rest valid s =
    let h = past_id _ _ entry.ino _ rest (after_ino entry) c.in-Some.ensures.found s in
    let k = past_kind _ _ entry.node.kind _ rest (after_kind entry) c.in-Some-take_kind.ensures.found h.1 in
    let p = past_perm _ c.in-Some-take_perm.perm entry.node.perm _ rest (record_items entry.file) c.in-Some-take_perm.ensures.found.1 k.1 in
    c.in_default-take_record.ensures.none entry.file rest
    (subst (λ (i : ℕ). HasRecord c.in-Some-take_kind.kind i entry.file) h.0
    (subst (λ (n : Kind). HasRecord n entry.ino entry.file) k.0 valid.recorded)) p
