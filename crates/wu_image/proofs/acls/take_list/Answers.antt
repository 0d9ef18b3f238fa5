use Rattle.std.proofs.Common.{length, arith}
use Rattle.std.specs.List.{flat_map}
use Rattle.wu_image.specs.Checkpoints.{acl_items}
use Rattle.wu_image.specs.Reading.{FitsAcl}
use Rattle.wu_image.proofs.ItemLemmas.{all_taken, none_taken, not_taken, one_taken}
use Rattle.wu_image.proofs.UniqueItems.{unique_acl}
use Rattle.wu_image.proofs.acls.take_list.Goals as goal

pub returns-in_default-clause-none : goal.returns-in_default-clause-none
returns-in_default-clause-none c acls rest p s = c.in_default.ensures.none (length acls) (flat_map acl_items acls) rest s

pub loop-init : goal.loop-init
loop-init c = rw c.new-acls.ensures.items (none_taken acl_items FitsAcl _ _ _ _ c.in-Some.ensures.found (omega arith))

pub returns-in-None-clause-none : goal.returns-in-None-clause-none
returns-in-None-clause-none c acls rest p s =
    not_taken acl_items FitsAcl unique_acl _ _ _ _ _ c.loop.invariant (omega (arith, c.loop-test.true))
    (λ acl after q t. (rw c.in-None.is at c.in_ok-taken.ensures.none) acl after q t) acls rest p s

pub loop-preserved : goal.loop-preserved
loop-preserved c =
    let read = rw c.in-Some-2.is at c.in_ok-taken.ensures.found in
    one_taken acl_items FitsAcl _ _ _ _ _ _ _ _ _ c.loop.invariant (omega (arith, c.loop-test.true)) read.0 read.1
    c.in_ok-push.ensures.items (omega (arith, c.loop-test.true))

pub returns-clause-found : goal.returns-clause-found
returns-clause-found c = all_taken acl_items FitsAcl _ _ _ _ _ c.loop.invariant (omega (arith, c.loop-test.false))
