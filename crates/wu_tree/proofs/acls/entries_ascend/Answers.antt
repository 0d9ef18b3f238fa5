use Rattle.std.proofs.Common.{rules}
use Rattle.std.specs.Prelude.{nat_lt}
use Rattle.std.specs.Cmp.{nat_cmp_total}
use Rattle.std.proofs.lemmas.List.Sorted.{answers_always}
use Rattle.wu_access.specs.declared.acls.AclEntry.{AclEntry}
use Rattle.wu_tree.proofs.ListTests.{sorted_answer, less_is}
use Rattle.wu_tree.proofs.acls.entries_ascend.Goals as goal

pub returns : goal.returns
returns c =
    sorted_answer nat_cmp_total (λ (e : AclEntry). e.id) (λ (a b : AclEntry). nat_lt a.id b.id)
    (λ a b. less_is a.id b.id) c.args.entries.now c.is_sorted_by.result
    (c.is_sorted_by.ensures.cases (λ (a b : AclEntry). nat_lt a.id b.id) (answers_always _ _ _ (λ f a r g k. search rules)))
