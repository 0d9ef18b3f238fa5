use Rattle.std.proofs.Common.{◌≤◌, ◌<◌, ◌≡◌, ◌-◌, ◌^◌, List, length, min, take_all, rules, subst, arith}
use Rattle.wu_parts.specs.Contents.{counted_of}
use Rattle.wu_parts.specs.StoredParts.{directories_of}
use Rattle.wu_parts.specs.declared.writing.StoredPart.{StoredPart}
use Rattle.wu_parts.proofs.Counts.{counted_next}
use Rattle.wu_parts.proofs.parts.count_in_all.Goals as goal

pub loop-part-preserved : goal.loop-part-preserved
loop-part-preserved c =
    let i = c.loop-part.part-index in
    let within : i < length c.args.parts.now = search rules in
    omega (
      arith,
      counted_next c.args.term.now c.args.parts.now i c.part-item.result within c.part-item.is,
      c.loop-part.invariant,
      c.count_of.ensures,
      c.saturating_add-count.ensures,
    )

pub returns : goal.returns
returns c =
    let all : length c.args.parts.now ≤ c.loop-part.part-index = search rules in
    subst (λ (parts : List StoredPart). c.loop-part.count ≡ min (counted_of c.args.term.now (directories_of parts)) (2 ^ 64 - 1))
    (take_all c.loop-part.part-index c.args.parts.now all) c.loop-part.invariant
