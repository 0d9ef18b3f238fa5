use Rattle.std.proofs.Common.{◌≡◌, ℕ, Bool, true, false, Option, Some, None, is_none, is_some, refl, ◌∙◌}
use Rattle.std.specs.Prelude.{not}
use Rattle.wu_fields.proofs.FieldLemmas.{found_none_is}
use Rattle.wu_fields.proofs.escaping.is_plain.Goals as goal

not_some : (found : Option ℕ) (answer : Bool) → is_some found ≡ not answer → answer ≡ is_none found
not_some None true e = refl
not_some None false e = cc
not_some (Some place) true e = cc
not_some (Some place) false e = refl

pub returns : goal.returns
returns c =
    let found = c.find_byteset.result in
    not_some found c.is_none.result c.is_none.ensures ∙ found_none_is c.args.field.now found c.find_byteset.ensures
