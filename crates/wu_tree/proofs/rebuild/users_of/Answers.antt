use Rattle.std.proofs.Common.{◌∙◌, ℕ, List, sym, ap, subst, take}
use Rattle.std.specs.Prelude.{map}
use Rattle.std.specs.Ordering.{nat_cmp}
use Rattle.std.specs.Cmp.{nat_cmp_total}
use Rattle.std.specs.List.Sorted.{IsStrictlySortedBy}
use Rattle.std.specs.BTreeMap.{insert_entry}
use Rattle.wu_access.specs.declared.UserRec.{UserRec}
use Rattle.wu_tree.specs.Lists.{user_of}
use Rattle.wu_tree.proofs.ListTests.{grown, keys_mapped}
use Rattle.wu_tree.proofs.rebuild.users_of.Goals as goal

pub loop-user-preserved : goal.loop-user-preserved
loop-user-preserved c =
    let user = c.user-item.result in
    let entry : UserRec → ℕ × UserRec = λ u. (u.uid, u) in
    c.in_ok-insert.ensures.entries
    ∙ ap (λ (l : List (ℕ × UserRec)). insert_entry nat_cmp l user.uid c.in_ok-copy.field-0) c.loop-user.invariant
    ∙ ap (λ (u : UserRec). insert_entry nat_cmp (map entry (take c.loop-user.user-index c.args.users.now)) user.uid u) c.in_ok-copy.ensures
    ∙ grown nat_cmp_total entry c.args.users.now c.loop-user.user-index user c.loop-user-test.true (sym c.user-item.is)
    (subst (λ (k : List ℕ). IsStrictlySortedBy nat_cmp k)
    (keys_mapped user_of c.args.users.now ∙ sym (keys_mapped entry c.args.users.now)) c.requires)
