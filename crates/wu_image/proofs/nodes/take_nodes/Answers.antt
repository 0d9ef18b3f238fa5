use Rattle.std.proofs.Common.{length, arith}
use Rattle.std.specs.List.{flat_map}
use Rattle.wu_image.specs.Reading.{entry_items}
use Rattle.wu_image.proofs.NodeLemmas.{all_nodes, no_more_nodes, no_nodes, one_node}
use Rattle.wu_image.proofs.nodes.take_nodes.Goals as goal

pub returns-in_default-clause-none : goal.returns-in_default-clause-none
returns-in_default-clause-none c entries rest p s = c.in_default.ensures.none (length entries) (flat_map entry_items entries) rest s

pub loop-init : goal.loop-init
loop-init c = rw (c.new-nodes.ensures.items, c.new-files.ensures.items) (no_nodes _ _ _ _ c.in-Some.ensures.found (omega arith))

pub returns-in_default-take_entry-clause-none : goal.returns-in_default-take_entry-clause-none
returns-in_default-take_entry-clause-none c entries rest p s =
    no_more_nodes _ _ _ _ _ _ c.loop.invariant (omega (arith, c.loop-test.true)) c.in_default-take_entry.ensures.none entries rest p s

pub loop-preserved : goal.loop-preserved
loop-preserved c =
    one_node _ _ _ _ _ _ _ _ _ _ _ c.loop.invariant (omega (arith, c.loop-test.true)) c.in-Some-take_entry.ensures.found.0
    c.in-Some-take_entry.ensures.found.1 c.in_ok-push.ensures.items c.in_ok-keep_record.ensures (omega (arith, c.loop-test.true))

pub returns-clause-found : goal.returns-clause-found
returns-clause-found c = all_nodes _ _ _ _ _ _ c.loop.invariant (omega (arith, c.loop-test.false))
