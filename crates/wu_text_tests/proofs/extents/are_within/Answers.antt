use Rattle.std.proofs.Common.{take_all, get_or, sym, rules}
use Rattle.std.proofs.lemmas.List.Elements.{All-more, All-same}
use Rattle.wu_base.specs.declared.addresses.Extent.{Extent}
use Rattle.wu_snip.specs.Snippets.{IsWithin}
use Rattle.wu_text_tests.proofs.extents.are_within.Goals as goal

pub loop-extent-preserved : goal.loop-extent-preserved
loop-extent-preserved c =
    let d : Extent = record { start = 0; end = 0 } in
    let within : IsWithin c.args.text.now (get_or c.args.extents.now c.loop-extent.extent-index d) = c.is_within.ensures (search rules) in
    All-more (IsWithin c.args.text.now) c.args.extents.now c.loop-extent.extent-index d c.loop-extent-test.true c.loop-extent.invariant within

pub returns : goal.returns
returns c = λ t.
    All-same (IsWithin c.args.text.now) c.args.extents.now _
    (sym (take_all c.loop-extent.extent-index c.args.extents.now c.loop-extent-test.false)) c.loop-extent.invariant
