use Rattle.std.proofs.Common.{◌∙◌, ℕ, List, sym, ap, subst, take}
use Rattle.std.specs.Prelude.{map}
use Rattle.std.specs.Ordering.{nat_cmp}
use Rattle.std.specs.Cmp.{nat_cmp_total}
use Rattle.std.specs.List.Sorted.{IsStrictlySortedBy}
use Rattle.std.specs.Map.{keys_of}
use Rattle.std.specs.BTreeMap.{insert_entry}
use Rattle.wu_access.specs.declared.acls.Acl.{Acl}
use Rattle.wu_tree.proofs.ListTests.{grown, itself_mapped}
use Rattle.wu_tree.proofs.acls.acls_of.Goals as goal

pub loop-ino-preserved : goal.loop-ino-preserved
loop-ino-preserved c =
    let acl = c.loop-ino-item.result in
    let entry : ℕ × Acl → ℕ × Acl = λ a. a in
    c.in_ok-insert.ensures.entries
    ∙ ap (λ (l : List (ℕ × Acl)). insert_entry nat_cmp l acl.0 c.in_ok-copied.field-0) c.loop-ino.invariant
    ∙ ap (λ (a : Acl). insert_entry nat_cmp (map entry (take c.loop-ino.ino-index c.args.acls.now)) acl.0 a) c.in_ok-copied.ensures
    ∙ grown nat_cmp_total entry c.args.acls.now c.loop-ino.ino-index acl c.loop-ino-test.true (sym c.loop-ino-item.is)
    (subst (λ (l : List (ℕ × Acl)). IsStrictlySortedBy nat_cmp (keys_of l)) (sym (itself_mapped c.args.acls.now)) c.requires)
