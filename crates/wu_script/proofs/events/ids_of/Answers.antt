use Rattle.std.proofs.Common.{List, ℕ, map, Some, ap, sym, ◌∙◌, take_all, arith}
use Rattle.wu_fields.specs.Fields.{all_some}
use Rattle.wu_script.specs.Commands.{id_of, ids_of}
use Rattle.wu_fields.proofs.FieldLemmas.{all_some_fault, all_some_more}
use Rattle.wu_script.proofs.events.ids_of.Goals as goal

pub returns-in-None : goal.returns-in-None
unfolding ids_of
returns-in-None c =
    sym (all_some_fault {A = List ℕ} id_of c.args.fields.now c.loop-field.field-index c.field-item.result c.loop-field-test.true
    (ap id_of (sym c.field-item.is) ∙ sym c.in-None.ensures))

pub loop-field-preserved : goal.loop-field-preserved
loop-field-preserved c =
    all_some_more {A = List ℕ} id_of c.args.fields.now c.loop-field.field-index c.field-item.result c.loop-field.ids.items c.in-Some.id
    c.loop-field-test.true (ap id_of (sym c.field-item.is) ∙ sym c.in-Some.ensures) c.loop-field.invariant
    ∙ ap Some (sym c.in_ok-push-in-Some.ensures.items)

pub returns : goal.returns
unfolding ids_of
returns c = ap Some c.from.ensures ∙ sym c.loop-field.invariant
    ∙ ap (λ (xs : List (List ℕ)). all_some (map id_of xs)) (take_all c.loop-field.field-index c.args.fields.now (omega arith))
