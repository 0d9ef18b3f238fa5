use Rattle.std.proofs.Common.{length, arith}
use Rattle.std.specs.List.{flat_map}
use Rattle.wu_image.specs.Checkpoints.{acl_entry_items}
use Rattle.wu_image.specs.Reading.{FitsEntry}
use Rattle.wu_image.proofs.ItemLemmas.{all_taken, none_taken, not_taken, one_taken}
use Rattle.wu_image.proofs.UniqueItems.{unique_acl_entry}
use Rattle.wu_image.proofs.acls.take_entries.Goals as goal

pub returns-in_default-clause-none : goal.returns-in_default-clause-none
returns-in_default-clause-none c entries rest p s = c.in_default.ensures.none (length entries) (flat_map acl_entry_items entries) rest s

pub loop-init : goal.loop-init
loop-init c = rw c.new-entries.ensures.items (none_taken acl_entry_items FitsEntry _ _ _ _ c.in-Some.ensures.found (omega arith))

pub returns-in_default-take_entry-clause-none : goal.returns-in_default-take_entry-clause-none
returns-in_default-take_entry-clause-none c entries rest p s =
    not_taken acl_entry_items FitsEntry unique_acl_entry _ _ _ _ _ c.loop.invariant (omega (arith, c.loop-test.true))
    (λ entry after q t. c.in_default-take_entry.ensures.none entry after q t) entries rest p s

pub loop-preserved : goal.loop-preserved
loop-preserved c =
    one_taken acl_entry_items FitsEntry _ _ _ _ _ _ _ _ _ c.loop.invariant (omega (arith, c.loop-test.true))
    c.in-Some-take_entry.ensures.found.0
    c.in-Some-take_entry.ensures.found.1 c.in_ok-push.ensures.items (omega (arith, c.loop-test.true))

pub returns-clause-found : goal.returns-clause-found
returns-clause-found c = all_taken acl_entry_items FitsEntry _ _ _ _ _ c.loop.invariant (omega (arith, c.loop-test.false))
