use Rattle.std.proofs.Common.{ℕ, rules}
use Rattle.std.specs.Prelude.{nat_lt}
use Rattle.std.specs.Cmp.{nat_cmp_total}
use Rattle.std.proofs.lemmas.List.Sorted.{answers_always}
use Rattle.wu_access.specs.declared.acls.Acl.{Acl}
use Rattle.wu_tree.proofs.ListTests.{sorted_answer, less_is}
use Rattle.wu_tree.proofs.acls.acls_ascend.Goals as goal

pub returns : goal.returns
returns c =
    sorted_answer nat_cmp_total (λ (a : ℕ × Acl). a.0) (λ (a b : ℕ × Acl). nat_lt a.0 b.0)
    (λ a b. less_is a.0 b.0) c.args.acls.now c.is_sorted_by.result
    (c.is_sorted_by.ensures.cases (λ (a b : ℕ × Acl). nat_lt a.0 b.0) (answers_always _ _ _ (λ f a r g k. search rules)))
