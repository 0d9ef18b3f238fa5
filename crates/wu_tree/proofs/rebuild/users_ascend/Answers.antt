use Rattle.std.proofs.Common.{◌∙◌, ℕ, List, sym, ap, rules}
use Rattle.std.specs.Prelude.{nat_lt}
use Rattle.std.specs.Ordering.{nat_cmp}
use Rattle.std.specs.Cmp.{nat_cmp_total}
use Rattle.std.proofs.lemmas.List.Sorted.{answers_always}
use Rattle.wu_access.specs.declared.UserRec.{UserRec}
use Rattle.wu_tree.specs.Lists.{ascends, user_of}
use Rattle.wu_tree.proofs.ListTests.{sorted_answer, less_is, keys_mapped}
use Rattle.wu_tree.proofs.rebuild.users_ascend.Goals as goal

pub returns : goal.returns
returns c =
    sorted_answer nat_cmp_total (λ (u : UserRec). u.uid) (λ (a b : UserRec). nat_lt a.uid b.uid)
    (λ a b. less_is a.uid b.uid) c.args.users.now c.is_sorted_by.result
    (c.is_sorted_by.ensures.cases (λ (a b : UserRec). nat_lt a.uid b.uid) (answers_always _ _ _ (λ f a r g k. search rules)))
    ∙ ap (λ (l : List ℕ). ascends nat_cmp l) (sym (keys_mapped user_of c.args.users.now))
