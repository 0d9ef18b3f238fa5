use Rattle.std.proofs.Common.{List}
use Rattle.std.proofs.lemmas.List.{drop_more, at_drop_all}
use Rattle.wu_base.specs.declared.addresses.Extent.{Extent}
use Rattle.wu_snip.proofs.SnippetLemmas.{walked-none, walked-next, walked-all}
use Rattle.wu_snip.proofs.snips.snippets.Goals as goal

pub loop-extent-init : goal.loop-extent-init
loop-extent-init c =
    let first = c.next_reaching-line.ensures in
    walked-none _ _ _ _ _ _ c.of_text-lines.ensures first.lines first.reaches c.requires.ascending c.new-snips.ensures.items

pub loop-extent-preserved : goal.loop-extent-preserved
loop-extent-preserved c =
    let extents = c.args.extents.now in
    let place = c.loop-extent.extent-index in
    let next = drop_more extents place record { start = 0; end = 0 } c.loop-extent-test.true in
    let step = c.reaching-line.ensures in
    walked-next _ _ _ _ _ _ _ _ _ _ _ (rw next at c.loop-extent.invariant) step.lines step.reaches c.in_ok-show.ensures
    c.in_ok-push.ensures.items

pub returns : goal.returns
returns c =
    let none = at_drop_all (λ (left : List Extent). left) c.args.extents.now c.loop-extent.extent-index c.loop-extent-test.false in
    walked-all _ _ _ _ _ (rw none at c.loop-extent.invariant)
