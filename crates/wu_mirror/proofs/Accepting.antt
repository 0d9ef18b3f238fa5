-- The whole batch: each event is accepted.
use Rattle.std.proofs.Common.{◌≡◌, ℕ, ◌*◌, ◌≤◌, List, [], ◌∷◌, ◌++◌, refl, ap, sym, ◌∙◌, subst, Bool, true, false, cond, not, arith}
use Rattle.std.proofs.Common.{inl, inr, ⊎_elim, append_assoc}
use Rattle.std.proofs.lemmas.List.{append-nil}
use Rattle.std.specs.Prelude.{◌⊎◌, ◌==◌, ◌||◌, Option, None, Some, is_some, map}
use Rattle.std.specs.Int.Bits.{bit_and}
use Rattle.std.specs.Ordering.{nat_cmp}
use Rattle.std.specs.List.{AllByRecursion, flat_map}
use Rattle.std.specs.List.Sorted.{IsStrictlySortedBy}
use Rattle.std.specs.Map.{lookup}
use Rattle.std.proofs.lemmas.Nat.{and_le_l}
use Rattle.std.specs.BTreeMap.{is_at}
use Rattle.wu_access.specs.declared.acls.Acl.{Acl}
use Rattle.wu_access.specs.declared.Perm.{Perm}
use Rattle.wu_access.specs.declared.UserRec.{UserRec}
use Rattle.wu_access.specs.Access.{IsAcl, group_digit}
use Rattle.wu_tree.specs.declared.events.Event.{Event}
use Rattle.wu_tree.specs.declared.events.Event.TheVariants.{Chmod}
use Rattle.wu_tree.specs.declared.events.Node.{Node}
use Rattle.wu_tree.specs.FileSystems.{FileSystem, Link, acl_of, child_of, is_file, is_file_node, is_kind_file, is_there, node_of, place_cmp}
use Rattle.wu_tree.specs.Rules.{IsAclOf, IsTree}
use Rattle.wu_base.proofs.MapEntries.{All-found}
use Rattle.wu_base.proofs.Members.{Has, all_has}
use Rattle.wu_mirror.specs.declared.batches.Batch.{Batch}
use Rattle.wu_mirror.specs.declared.batches.Change.{Change}
use Rattle.wu_mirror.specs.declared.batches.Fate.{Fate}
use Rattle.wu_mirror.specs.declared.batches.Fate.TheVariants.{Stays, Made, Goes}
use Rattle.wu_mirror.specs.declared.batches.ListChange.{ListChange}
use Rattle.wu_mirror.specs.declared.batches.ListChange.TheVariants.{Same, Set, Removed}
use Rattle.wu_mirror.specs.declared.batches.Owners.{Owners}
use Rattle.wu_mirror.specs.declared.batches.RightsChange.{RightsChange}
use Rattle.wu_mirror.specs.Acceptance.{AreAccepted, AreAcceptedTo, ClosedIsEmpty, HasRoom, IsTextIn}
use Rattle.wu_mirror.specs.Misfits.{Fits}
use Rattle.wu_mirror.specs.Moments.{HasFate, IsKept, IsMade, IsTrueOf, LeadsTo, TellsAllNames, list_after, node_with}
use Rattle.wu_mirror.specs.Moments.{perm_after}
use Rattle.wu_mirror.specs.Plans.{given, given_from, groups_change, groups_set, head_of, is_shut, keeps_classes, left_mode, list_given, list_set, made_given, mode_set, mode_then}
use Rattle.wu_mirror.specs.Plans.{nobody, owners_given, placed_in, removed_in, tail_of, taken, taken_from, taken_in, first_mode}
use Rattle.wu_mirror.proofs.Clearing.{clear_all}
use Rattle.wu_mirror.proofs.Gone.{none_if}
use Rattle.wu_mirror.proofs.InItems.{each_in, in_pairs}
use Rattle.wu_mirror.proofs.OutItems.{IsOrdered, each_out, out_pairs}
use Rattle.wu_mirror.proofs.Middle.{clearing, placing}
use Rattle.wu_mirror.proofs.Parts.{node_there}
use Rattle.wu_mirror.proofs.Placing.{Placing, numbered_at, place_all}
use Rattle.wu_mirror.proofs.RightsAccepted.{Leaves, all_taken}
use Rattle.wu_mirror.proofs.Ways.{in_events, ins, out_events, outs}

-- ---- lists of events
module _ (P : Event → Type 0) where
  all_append : (xs ys : List Event) → AllByRecursion P xs → AllByRecursion P ys → AllByRecursion P (xs ++ ys)
  all_append [] ys a b = b
  all_append (x ∷ xs) ys a b = (a.0, all_append xs ys a.1 b)

  all_flat : (f : Change → List Event) (changes : List Change) → ((c : Change) → Has c changes → AllByRecursion P (f c))
      → AllByRecursion P (flat_map f changes)
  all_flat f [] h = tt
  all_flat f (c ∷ changes) h = all_append (f c) (flat_map f changes) (h c (inl refl)) (all_flat f changes (λ d g. h d (inr g)))

-- ---- rights
low_left : (shut : Bool) (rights : RightsChange) → rights.before ≤ 0xFFF → left_mode shut rights ≤ 0xFFF
low_left shut rights l = by (shut || not (keeps_classes rights))
  where
    by : (b : Bool) → cond b 0 (bit_and rights.before rights.after) ≤ 0xFFF
    by true = omega arith
    by false = let m = and_le_l rights.before rights.after in omega arith

mode_leaves : (fs : FileSystem) (ino old new : ℕ) → is_there fs ino ≡ true → new ≤ 0xFFF → AllByRecursion (Leaves fs) (mode_set ino old new)
mode_leaves fs ino old new there low = by (old == new)
  where
    by : (b : Bool) → AllByRecursion (Leaves fs) (cond b [] (Chmod ino new ∷ []))
    by true = tt
    by false = ((low, there), tt)

sorted_none : IsStrictlySortedBy nat_cmp []
unfolding IsStrictlySortedBy
sorted_none = tt

nobody_is_acl : IsAcl nobody
nobody_is_acl = record { owning = omega arith; users = (tt, sorted_none); groups = (tt, sorted_none) }

digit_low : (mode : ℕ) → group_digit mode ≤ 7
digit_low mode = omega arith

acl_at : (fs : FileSystem) → IsTree fs → (ino : ℕ) (acl : Acl) → acl_of fs ino ≡ Some acl → IsAcl acl
acl_at fs t ino acl h = (All-found (IsAclOf fs) (is_at (nat_cmp ino)) fs.acls acl t.acls h).2.1

module _ (batch : Batch) (before after : FileSystem) (l : LeadsTo batch before after) (w : TellsAllNames batch before after) (f : Fits batch)
    (o : IsOrdered batch) (r : HasRoom batch before after) where
  true_of : (c : Change) → Has c batch.changes → IsTrueOf before after c
  true_of c h = all_has (IsTrueOf before after) c batch.changes l.changes h

  -- ---- rights are taken
  taken_leaves : (c : Change) → Has c batch.changes → AllByRecursion (Leaves before) (taken (groups_change batch) c)
  taken_leaves c h = by c.fate (true_of c h).fate
    where
      by : (d : Fate) → HasFate d c.kind c.ino before after → AllByRecursion (Leaves before) (taken_from c.ino (is_shut (groups_change batch) c) d)
      by (Stays rights other) k =
          mode_leaves before c.ino rights.before (left_mode (is_shut (groups_change batch) c) rights) (ap is_some k.was)
          (low_left (is_shut (groups_change batch) c) rights
          (subst (λ x. x ≤ 0xFFF) k.mode (numbered_at before l.from c.ino (node_with c.kind k.perm) k.was).1))
      by (Made perm acl) k = tt
      by Goes k = tt

  groups_leave : (users : List UserRec) → AllByRecursion (Leaves before) (map groups_set users)
  groups_leave [] = tt
  groups_leave (user ∷ users) = (tt, groups_leave users)

  first_leaves : AllByRecursion (Leaves before) (taken_in batch)
  first_leaves =
      all_append (Leaves before) (flat_map (taken (groups_change batch)) batch.changes) (map groups_set batch.users)
      (all_flat (Leaves before) (taken (groups_change batch)) batch.changes taken_leaves) (groups_leave batch.users)

  -- ---- texts and rights are given
  module _ (m : FileSystem) (h : Placing batch before after l o f r [] m) where
    nothing_inside : ClosedIsEmpty m
    nothing_inside n = none_if (child_of m 2 n) (λ x g. (h.inside n x g).1)

    all_there : (q : ℕ) → is_there after q ≡ true → is_there m q ≡ true
    all_there q t = ⊎_elim (λ a. a) (λ j. absurd j.1) (h.there q t)

    text_leaves : (texts : List Event) → AllByRecursion (IsTextIn after) texts → AllByRecursion (Leaves m) texts
    text_leaves [] a = tt
    text_leaves (text ∷ texts) a = (
      subst (λ (e : Event). Leaves m e) (sym a.0.1) (still_file a.0.0 a.0.2),
      text_leaves texts a.1,
    )
      where
        file_there : (q : Option Node) → is_file_node q ≡ true → is_some q ≡ true
        file_there None e = absurd cc
        file_there (Some node) e = refl

        still_file : (q : ℕ) → is_file after q ≡ true → is_file m q ≡ true
        still_file q e =
            let there = node_there (node_of after q) (file_there (node_of after q) e) in
            let here = node_there (node_of m q) (all_there q (file_there (node_of after q) e)) in
            ap is_file_node here.1 ∙ ap is_kind_file (h.kinds q here.0 there.0 here.1 there.1) ∙ sym (ap is_file_node there.1) ∙ e

    list_leaves : (ino : ℕ) → is_there m ino ≡ true → (acl : Acl) (mode : ℕ) → IsAcl acl
        → Leaves m (list_set ino acl mode)
    list_leaves ino there acl mode is = ((is, digit_low mode), there)

    owners_leave : (ino : ℕ) → is_there m ino ≡ true → (owners : Option Owners) → AllByRecursion (Leaves m) (owners_given ino owners)
    owners_leave ino there None = tt
    owners_leave ino there (Some owners) = (there, tt)

    lists_leave : (ino : ℕ) → is_there m ino ≡ true → (list : ListChange) (mode : ℕ) → ((acl : Acl) → list ≡ Set acl → IsAcl acl)
        → AllByRecursion (Leaves m) (list_given ino list mode)
    lists_leave ino there Same mode is = tt
    lists_leave ino there (Set acl) mode is = (list_leaves ino there acl mode (is acl refl), tt)
    lists_leave ino there Removed mode is = (((nobody_is_acl, omega arith), there), (((tt, omega arith), there), tt))

    kept_leaves : (c : Change) → Has c batch.changes → (rights : RightsChange) → IsKept rights c.kind c.ino before after → (shut : Bool)
        → AllByRecursion (Leaves m)
        (owners_given c.ino rights.owners ++ list_given c.ino rights.list rights.after
        ++ mode_set c.ino (mode_then rights.list (left_mode shut rights) rights.after) rights.after)
    kept_leaves c hc rights k shut =
        let there = all_there c.ino (ap is_some k.becomes) in
        let low = numbered_at after l.to c.ino (node_with c.kind (perm_after rights k.perm)) k.becomes in
        let a : List Event = owners_given c.ino rights.owners in
        let b : List Event = list_given c.ino rights.list rights.after in
        let old : ℕ = mode_then rights.list (left_mode shut rights) rights.after in
        all_append (Leaves m) (a ++ b) (mode_set c.ino old rights.after)
        (all_append (Leaves m) a b (owners_leave c.ino there rights.owners)
        (lists_leave c.ino there rights.list rights.after
        (λ acl e. acl_at after l.to c.ino acl (k.list ∙ ap (λ (x : ListChange). list_after x (acl_of before c.ino)) e))))
        (mode_leaves m c.ino old rights.after there low.1)

    made_leaves : (c : Change) → (perm : Perm) (acl : Option Acl) → IsMade perm acl c.kind c.ino before after → (shut : Bool)
        → AllByRecursion (Leaves m) (made_given c.ino shut acl perm.mode)
    made_leaves c perm None k shut =
        mode_leaves m c.ino (first_mode shut None perm.mode) perm.mode (all_there c.ino (ap is_some k.becomes))
        (numbered_at after l.to c.ino (node_with c.kind perm) k.becomes).1
    made_leaves c perm (Some list) k shut =
        let there = all_there c.ino (ap is_some k.becomes) in (
          list_leaves c.ino there list perm.mode (acl_at after l.to c.ino list k.list),
          mode_leaves m c.ino (group_digit perm.mode * 8) perm.mode there (numbered_at after l.to c.ino (node_with c.kind perm) k.becomes).1,
        )

    given_leaves : (c : Change) → Has c batch.changes → AllByRecursion (Leaves m) (given (groups_change batch) c)
    given_leaves c hc = by c.fate (true_of c hc).fate
      where
        by : (d : Fate) → HasFate d c.kind c.ino before after → AllByRecursion (Leaves m) (given_from c.ino (is_shut (groups_change batch) c) d)
        by (Stays rights other) k = kept_leaves c hc rights k (is_shut (groups_change batch) c)
        by (Made perm acl) k = made_leaves c perm acl k (is_shut (groups_change batch) c)
        by Goes k = tt

    last_accepted : (texts : List Event) → AllByRecursion (IsTextIn after) texts → AreAcceptedTo ClosedIsEmpty m (texts ++ tail_of batch)
    last_accepted texts a =
        subst (λ (events : List Event). AreAcceptedTo ClosedIsEmpty m events) (append-nil (texts ++ tail_of batch))
        (all_taken ClosedIsEmpty m (texts ++ tail_of batch)
        (all_append (Leaves m) texts (tail_of batch) (text_leaves texts a)
        (all_flat (Leaves m) (given (groups_change batch)) batch.changes given_leaves))
        m h.tree (record { links = refl; kinds = λ q. refl }) []
        (λ to t b n. ap (λ (links : List Link). lookup (is_at (place_cmp (2, n))) links) b.links ∙ nothing_inside n))

  -- ---- the whole batch
  pub each_accepted : (texts : List Event) → AllByRecursion (IsTextIn after) texts → AreAccepted before (head_of batch ++ texts ++ tail_of batch)
  each_accepted texts a =
      let last : List Event = texts ++ tail_of batch in
      subst (λ (events : List Event). AreAccepted before events) (in_line (taken_in batch) (removed_in batch) (placed_in batch) texts (tail_of batch))
      (all_taken ClosedIsEmpty before (taken_in batch) first_leaves before l.from (record { links = refl; kinds = λ q. refl })
      (removed_in batch ++ (placed_in batch ++ last))
      (λ m t b. subst (λ (events : List Event). AreAcceptedTo ClosedIsEmpty m (events ++ (placed_in batch ++ last))) (sym (out_events batch))
      (clear_all batch before after l o r (outs batch) (out_pairs batch before after l o) (each_out batch before after l o) m (clearing batch before after l w f o r m t b)
      (placed_in batch ++ last) ClosedIsEmpty
      (λ middle c. subst (λ (events : List Event). AreAcceptedTo ClosedIsEmpty middle (events ++ last)) (sym (in_events batch))
      (place_all batch before after l o f r (ins batch) (in_pairs batch before after l o f) (each_in batch before after l o f) middle
      (placing batch before after l w f o r middle c) last ClosedIsEmpty
      (λ end p. last_accepted end p texts a))))))
    where
      in_line : (a b c d e : List Event) → a ++ (b ++ (c ++ (d ++ e))) ≡ a ++ b ++ c ++ d ++ e
      in_line a b c d e =
          sym (append_assoc a b (c ++ (d ++ e)))
          ∙ sym (append_assoc (a ++ b) c (d ++ e))
          ∙ sym (append_assoc ((a ++ b) ++ c) d e)
