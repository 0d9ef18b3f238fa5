-- Access lists that pass the tests are lists that nodes may have, and no others are.
use Rattle.std.proofs.Common.{◌≡◌, ℕ, suc, ◌+◌, ◌<◌, ◌≤◌, Bool, true, false, cond, ◌&&◌, List, [], ◌∷◌, length, get_or, drop, drop-cons}
use Rattle.std.proofs.Common.{arith, refl, ap, sym, ◌∙◌, subst}
use Rattle.std.specs.Prelude.{is_some, map, nat_le, ◌==◌}
use Rattle.std.specs.declared.cmp.Ordering.{Ordering}
use Rattle.std.specs.declared.cmp.Ordering.TheVariants.{Less, Equal, Greater}
use Rattle.std.specs.Ordering.{is_eq, nat_cmp, ordering_reverse}
use Rattle.std.specs.Cmp.{nat_cmp_total}
use Rattle.std.specs.List.{AllByRecursion, list_all}
use Rattle.std.specs.List.Sorted.{IsStrictlySortedBy}
use Rattle.std.specs.Map.{keys_of, lookup}
use Rattle.std.specs.BTreeMap.{is_at}
use Rattle.std.proofs.lemmas.Bool.{and_from, and_parts}
use Rattle.std.proofs.lemmas.Map.{lookup-none}
use Rattle.std.proofs.lemmas.Map.Entries.{none_below_head}
use Rattle.std.proofs.lemmas.Map.Keys.{sorted_head, sorted_tail}
use borrow.Author.Tests.{eq-eqb, eqb-true, le-leb, leb-true}
use Rattle.wu_access.specs.declared.acls.Acl.{Acl}
use Rattle.wu_access.specs.declared.acls.AclEntry.{AclEntry}
use Rattle.wu_access.specs.Access.{AreEntries, IsAcl}
use Rattle.wu_tree.specs.declared.events.Node.{Node}
use Rattle.wu_tree.specs.Lists.{acl_test, acls_left, acls_past, acls_test, ascends, entries_test, is_empty}
use Rattle.wu_base.proofs.MapEntries.{All-map, All-map2, all_above, number_itself}
use Rattle.wu_tree.proofs.ParentPaths.{same_number}
use Rattle.wu_tree.proofs.ListTests.{Decides, decided_yes, decides_all, decides_ascends, decides_both, decides_by}

-- whether there is a node of that number
abbrev has_node : List (ℕ × Node) → ℕ → Bool
has_node nodes ino = is_some (lookup (is_at (nat_cmp ino)) nodes)

-- the access lists ascend, are each that of a node, and may be
abbrev pub AreAcls : List (ℕ × Node) → List (ℕ × Acl) → Type 0
AreAcls nodes acls =
    IsStrictlySortedBy nat_cmp (keys_of acls) × AllByRecursion (λ acl. (has_node nodes acl.0 ≡ true) × IsAcl acl.1) acls

entries_decided : (entries : List AclEntry) → Decides (entries_test entries) (AreEntries entries)
entries_decided entries =
    decides_both (list_all (λ (entry : AclEntry). nat_le entry.bits 7) entries)
    (ascends nat_cmp (map (λ (entry : AclEntry). entry.id) entries)) (AllByRecursion (λ (entry : AclEntry). entry.bits ≤ 7) entries)
    (IsStrictlySortedBy nat_cmp (map (λ (entry : AclEntry). entry.id) entries))
    (decides_all (λ (entry : AclEntry). nat_le entry.bits 7) (λ (entry : AclEntry). entry.bits ≤ 7) entries
    (λ entry. decides_by (nat_le entry.bits 7) (entry.bits ≤ 7) (leb-true entry.bits 7) (le-leb entry.bits 7)))
    (decides_ascends nat_cmp (map (λ (entry : AclEntry). entry.id) entries))

acl_decided : (acl : Acl) → Decides (acl_test acl) (IsAcl acl)
acl_decided acl =
    let both = decides_both (nat_le acl.owning 7 && entries_test acl.users) (entries_test acl.groups)
    ((acl.owning ≤ 7) × AreEntries acl.users) (AreEntries acl.groups)
    (decides_both (nat_le acl.owning 7) (entries_test acl.users) (acl.owning ≤ 7) (AreEntries acl.users)
    (decides_by (nat_le acl.owning 7) (acl.owning ≤ 7) (leb-true acl.owning 7) (le-leb acl.owning 7)) (entries_decided acl.users))
    (entries_decided acl.groups) in
    as_record (acl_test acl) both
  where
    as_record : (b : Bool) → Decides b (((acl.owning ≤ 7) × AreEntries acl.users) × AreEntries acl.groups) → Decides b (IsAcl acl)
    as_record true d = record { owning = d.0.0; users = d.0.1; groups = d.1 }
    as_record false d = λ a. d ((a.owning, a.users), a.groups)

-- ---- the walk

above_apart : (k q : ℕ) → nat_cmp k q ≡ Less → is_eq (nat_cmp q k) ≡ false
above_apart k q h = ap is_eq (nat_cmp_total.antisymm q k ∙ ap ordering_reverse h)

-- a node before them all is none of theirs
past : (n : ℕ × Node) (nodes : List (ℕ × Node)) (acls : List (ℕ × Acl)) → AllByRecursion (λ q. nat_cmp n.0 q ≡ Less) (keys_of acls)
    → list_all (λ acl. has_node (n ∷ nodes) acl.0) acls ≡ list_all (λ acl. has_node nodes acl.0) acls
past n nodes [] a = refl
past n nodes (acl ∷ acls) a =
    rw (above_apart n.0 acl.0 a.0) (ap (λ (b : Bool). has_node nodes acl.0 && b) (past n nodes acls a.1))

-- a number before all nodes is that of none
none_before : (q : ℕ) (n : ℕ × Node) (nodes : List (ℕ × Node)) → IsStrictlySortedBy nat_cmp (keys_of (n ∷ nodes)) → nat_cmp q n.0 ≡ Less
    → has_node (n ∷ nodes) q ≡ false
none_before q n nodes s h = ap is_some (lookup-none (is_at (nat_cmp q)) (n ∷ nodes) (none_below_head nat_cmp_total q n nodes s h))

drop_first : (a : Bool) (b c : Bool) → a ≡ false → (a && b) ≡ (a && c)
drop_first true b c h = absurd cc
drop_first false b c h = refl

none_left : (nodes : List (ℕ × Node)) → acls_left nodes [] ≡ []
none_left [] = refl
none_left (n ∷ nodes) = none_left nodes

walk : (nodes : List (ℕ × Node)) (acls : List (ℕ × Acl)) → IsStrictlySortedBy nat_cmp (keys_of nodes)
    → IsStrictlySortedBy nat_cmp (keys_of acls)
    → is_empty (acls_left nodes acls) ≡ list_all (λ acl. has_node nodes acl.0) acls
walk [] [] s t = refl
walk [] (acl ∷ acls) s t = refl
walk (n ∷ nodes) [] s t = ap is_empty (none_left nodes)
walk (n ∷ nodes) (acl ∷ acls) s t =
    elim (acl.0 == n.0) as
    (λ b. (acl.0 == n.0) ≡ b
    → is_empty (acls_left nodes (cond b acls (acl ∷ acls))) ≡ list_all (λ (x : ℕ × Acl). has_node (n ∷ nodes) x.0) (acl ∷ acls)) [
      | true ↦ λ e.
          let same : acl.0 ≡ n.0 = eqb-true acl.0 n.0 e in
          let here : has_node (n ∷ nodes) acl.0 ≡ true =
          subst (λ q. has_node (n ∷ nodes) q ≡ true) (sym same) (rw (number_itself n.0) refl) in
          let later : AllByRecursion (λ q. nat_cmp n.0 q ≡ Less) (keys_of acls) =
          subst (λ k. AllByRecursion (λ q. nat_cmp k q ≡ Less) (keys_of acls)) same (sorted_head nat_cmp _ _ t) in
          walk nodes acls (sorted_tail nat_cmp _ _ s) (sorted_tail nat_cmp _ _ t) ∙ sym (past n nodes acls later)
          ∙ ap (λ (b : Bool). b && list_all (λ (x : ℕ × Acl). has_node (n ∷ nodes) x.0) acls) (sym here)
      | false ↦ λ e.
          walk nodes (acl ∷ acls) (sorted_tail nat_cmp _ _ s) t ∙ apart e (nat_cmp acl.0 n.0) refl
    ] refl
  where
    apart : (acl.0 == n.0) ≡ false → (o : Ordering) → nat_cmp acl.0 n.0 ≡ o
        → list_all (λ (x : ℕ × Acl). has_node nodes x.0) (acl ∷ acls)
        ≡ list_all (λ (x : ℕ × Acl). has_node (n ∷ nodes) x.0) (acl ∷ acls)
    apart e Less h =
        let gone : has_node (n ∷ nodes) acl.0 ≡ false = none_before acl.0 n nodes s h in
        let same : has_node nodes acl.0 ≡ false = ap (λ (b : Bool). b) (rw h at gone) in
        rw (same, gone) refl
    apart e Equal h = absurd (let f : (acl.0 == n.0) ≡ true = eq-eqb acl.0 n.0 (same_number acl.0 n.0 (ap is_eq h)) in cc)
    apart e Greater h =
        let first : nat_cmp n.0 acl.0 ≡ Less = nat_cmp_total.antisymm n.0 acl.0 ∙ ap ordering_reverse h in
        sym (past n nodes (acl ∷ acls) (first, all_above nat_cmp_total n.0 acl.0 (keys_of acls) first (sorted_head nat_cmp _ _ t)))

-- ---- all tests

told_true : (b : Bool) (P : Type 0) → Decides b P → P → b ≡ true
told_true true P d p = refl
told_true false P d p = absurd (d p)

module _ (nodes : List (ℕ × Node)) (acls : List (ℕ × Acl)) where
  abbrev may_be : Bool
  may_be = list_all (λ (acl : ℕ × Acl). acl_test acl.1) acls

  abbrev are_there : Bool
  are_there = list_all (λ (acl : ℕ × Acl). has_node nodes acl.0) acls

  abbrev MayBe : Type 0
  MayBe = AllByRecursion (λ (acl : ℕ × Acl). IsAcl acl.1) acls

  abbrev AreThere : Type 0
  AreThere = AllByRecursion (λ (acl : ℕ × Acl). has_node nodes acl.0 ≡ true) acls

  ascends_decided : Decides (ascends nat_cmp (keys_of acls)) (IsStrictlySortedBy nat_cmp (keys_of acls))
  ascends_decided = decides_ascends nat_cmp (keys_of acls)

  may_be_decided : Decides may_be MayBe
  may_be_decided = decides_all (λ acl. acl_test acl.1) (λ acl. IsAcl acl.1) acls (λ acl. acl_decided acl.1)

  there_decided : Decides are_there AreThere
  there_decided =
      decides_all (λ acl. has_node nodes acl.0) (λ acl. has_node nodes acl.0 ≡ true) acls
      (λ acl. decides_by (has_node nodes acl.0) (has_node nodes acl.0 ≡ true) (λ h. h) (λ h. h))

  pub acls_decided : IsStrictlySortedBy nat_cmp (keys_of nodes) → Decides (acls_test nodes acls) (AreAcls nodes acls)
  acls_decided s =
      decides_by (acls_test nodes acls) (AreAcls nodes acls)
      (λ h.
      let a = and_parts (ascends nat_cmp (keys_of acls) && may_be) (is_empty (acls_left nodes acls)) h in
      let b = and_parts (ascends nat_cmp (keys_of acls)) may_be a.0 in
      let sorted = decided_yes (ascends nat_cmp (keys_of acls)) (IsStrictlySortedBy nat_cmp (keys_of acls)) ascends_decided b.0 in
      let there : are_there ≡ true = sym (walk nodes acls s sorted) ∙ a.1 in (
        sorted,
        All-map2 (λ acl. has_node nodes acl.0 ≡ true) (λ acl. IsAcl acl.1) (λ acl. (has_node nodes acl.0 ≡ true) × IsAcl acl.1) acls
            (λ acl is here. (here, is)) (decided_yes may_be MayBe may_be_decided b.1)
            (decided_yes are_there AreThere there_decided there),
      ))
      (λ p.
      let is = All-map (λ acl. (has_node nodes acl.0 ≡ true) × IsAcl acl.1) (λ acl. IsAcl acl.1) acls (λ acl x. x.1) p.1 in
      let here = All-map (λ acl. (has_node nodes acl.0 ≡ true) × IsAcl acl.1) (λ acl. has_node nodes acl.0 ≡ true) acls (λ acl x. x.0) p.1 in
      and_from (ascends nat_cmp (keys_of acls) && may_be) (is_empty (acls_left nodes acls))
      (and_from (ascends nat_cmp (keys_of acls)) may_be
      (told_true (ascends nat_cmp (keys_of acls)) (IsStrictlySortedBy nat_cmp (keys_of acls)) ascends_decided p.0)
      (told_true may_be MayBe may_be_decided is))
      (walk nodes acls s p.0 ∙ told_true are_there AreThere there_decided here))

-- ---- one step

pub left_next : (nodes : List (ℕ × Node)) (acls : List (ℕ × Acl)) (k : ℕ) (d : ℕ × Node) → k < length nodes
    → acls_left (drop k nodes) acls ≡ acls_left (drop (k + 1) nodes) (acls_past (get_or nodes k d).0 acls)
left_next nodes acls k d l =
    let n : suc k ≡ k + 1 = omega arith in
    ap (λ (l : List (ℕ × Node)). acls_left l acls) (drop-cons nodes k d l)
    ∙ ap (λ (i : ℕ). acls_left (drop i nodes) (acls_past (get_or nodes k d).0 acls)) n
