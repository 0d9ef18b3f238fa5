use Rattle.std.proofs.Common.{ltb, sym, ◌∙◌, rules, arith}
use Rattle.std.proofs.lemmas.Bool.{ltb-true, ltb-false}
use Rattle.std.proofs.lemmas.List.Sorted.{IsPartitionPoint-from_clause, IsPartitionedBy-ltb}
use Rattle.wu_base.specs.declared.addresses.PartRec.{PartRec}
use Rattle.wu_image.proofs.RuleLemmas.{no_part}
use Rattle.wu_image.proofs.HomeLemmas.{no_home, spans_rise}
use Rattle.wu_image.proofs.rules.home_of.Goals as goal

pub returns-then-place-parts-clause-none : goal.returns-then-place-parts-clause-none
returns-then-place-parts-clause-none c =
    let parts = c.args.parts.now in
    let range = c.args.range.now in
    let spans = c.requires.spans in
    let p = IsPartitionPoint-from_clause (λ (x : PartRec). ltb x.high range.start) parts c.partition_point-place.result
    c.partition_point-place.ensures.partitioned
    (IsPartitionedBy-ltb (λ (x : PartRec). x.high) parts range.start (spans_rise parts spans.0 spans.1)) (λ a r f k. search rules) in
    no_home parts spans.0 c.partition_point-place.result no_part range spans.1 c.requires.filled
    (λ k l less. ltb-true _ _ (p.0 k no_part (omega arith) less)) (λ k l more. ltb-false _ _ (p.1 k no_part more l))
    (λ inside. absurd (omega arith))

pub returns-else-is_home-clause-none : goal.returns-else-is_home-clause-none
returns-else-is_home-clause-none c =
    let parts = c.args.parts.now in
    let range = c.args.range.now in
    let spans = c.requires.spans in
    let p = IsPartitionPoint-from_clause (λ (x : PartRec). ltb x.high range.start) parts c.partition_point-place.result
    c.partition_point-place.ensures.partitioned
    (IsPartitionedBy-ltb (λ (x : PartRec). x.high) parts range.start (spans_rise parts spans.0 spans.1)) (λ a r f k. search rules) in
    no_home parts spans.0 c.partition_point-place.result no_part range spans.1 c.requires.filled
    (λ k l less. ltb-true _ _ (p.0 k no_part (omega arith) less)) (λ k l more. ltb-false _ _ (p.1 k no_part more l))
    (λ inside. sym c.is_home.ensures ∙ c.if-is_home.false)
