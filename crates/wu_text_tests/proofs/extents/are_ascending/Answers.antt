use Rattle.std.proofs.Common.{List, arith, subst}
use Rattle.std.proofs.lemmas.List.{take_rest}
use Rattle.wu_base.specs.declared.addresses.Extent.{Extent}
use Rattle.wu_snip.specs.Snippets.{IsAscending}
use Rattle.wu_text_tests.proofs.Rising.{ascend_from_second, few_ascend}
use Rattle.wu_text_tests.proofs.extents.are_ascending.Goals as goal

pub loop-rest-preserved : goal.loop-rest-preserved
loop-rest-preserved c = λ a.
    let d : Extent = record { start = 0; end = 0 } in
    let rest : List Extent = c.loop-rest.rest.now in
    c.loop-rest.invariant
    (ascend_from_second rest d (omega (arith, c.in-len2-up.len_at_least))
    (record { starts = c.if-extent-next.false; ends = c.if-extent-next-2.false })
    (subst IsAscending (take_rest rest 1) a))

pub returns : goal.returns
returns c = λ t. c.loop-rest.invariant (few_ascend c.loop-rest.rest.now c.in_default.len_below)
