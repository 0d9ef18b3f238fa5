use Rattle.std.proofs.Common.{◌≡◌, map, take, Some}
use Rattle.wu_fields.specs.Fields.{all_some}
use Rattle.wu_script.specs.Commands.{id_of}
use Rattle.wu_script.proofs.events.ids_of.Given as goal

abbrev pub invariant-loop-field : goal.invariant-loop-field
invariant-loop-field l = all_some (map id_of (take l.field-index l.fields)) ≡ Some l.ids.items
