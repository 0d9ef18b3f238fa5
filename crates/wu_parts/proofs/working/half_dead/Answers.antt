use Rattle.std.proofs.Common.{◌≡◌, ◌∙◌, position, rules, tests}
use Rattle.std.proofs.lemmas.Iterator.{YieldsList-from_slice}
use Rattle.std.proofs.lemmas.Iterator.Search.{position_from_yields_List}
use Rattle.wu_parts.specs.Units.{is_half_dead}
use Rattle.wu_parts.specs.declared.writing.StoredPart.{StoredPart}
use Rattle.wu_parts.proofs.Policy.{position-map}
use Rattle.wu_parts.proofs.working.half_dead.Goals as goal

pub returns : goal.returns
returns c =
    let test = λ (part : StoredPart). is_half_dead c.args.space.now.ranges part.recorded in
    let found : c.position.result ≡ position test c.args.parts.now =
    position_from_yields_List test _ _ c.position.result c.position.ensures.ran (YieldsList-from_slice _ c.iter.ensures.rest)
    (λ x b q k. search (rules, tests)) in
    found ∙ position-map (λ (part : StoredPart). part.recorded) (is_half_dead c.args.space.now.ranges) c.args.parts.now
