-- Which frames are left after those that may have changed are forgotten.
use Rattle.std.proofs.Common.{◌≡◌, ℕ, Bool, true, false, cond, List, [], ◌∷◌, nat_eq, refl, ap, sym, ◌∙◌, subst}
use Rattle.std.specs.Prelude.{Some, IsPermutation, Option, filter}
use Rattle.std.specs.Cmp.{booleans_Decides, nat_eq_equiv}
use Rattle.std.specs.List.{AllByRecursion, IsDistinct}
use Rattle.std.specs.Map.{keys_of, remove_entry}
use Rattle.std.proofs.lemmas.Map.{NonePasses}
use Rattle.std.proofs.lemmas.Map.Entries.{none_past_head}
use Rattle.wu_access.specs.declared.acls.Acl.{Acl}
use Rattle.wu_access.specs.Access.{is_allowed}
use Rattle.wu_tree.specs.declared.events.Node.{Node}
use Rattle.wu_tree.specs.FileSystems.{FileSystem, acl_of}
use Rattle.wu_tree.specs.Rules.{IsTree}
use Rattle.wu_tree.specs.Steps.{with_perm, with_user}
use Rattle.wu_view.specs.declared.Seen.{Seen}
use Rattle.wu_view.specs.Views.{is_granted_node, view_of}
use Rattle.wu_space.specs.Addresses.{Ranges}
use Rattle.wu_frames.specs.declared.Frames.{Frames}
use Rattle.wu_frames.specs.UserFrames.{CacheMatchesTree, AreFrames, Kept, frames_in}
use Rattle.wu_frames.specs.Permissions.{IsGroupChange, IsPermChange, grants_as_before, kept_as_before, user_in, want_of}
use Rattle.wu_frames.proofs.SameViews.{node_of-here, view_of-permitted, view_of-regrouped}

-- where all pass the test, all are left
pub all-kept : (p : ℕ → Bool) (kept : Kept) → AllByRecursion (λ entry. p entry.0 ≡ true) kept → filter (λ entry. p entry.0) kept ≡ kept
all-kept p [] a = refl
all-kept p (entry ∷ kept) a = rw a.0 (ap (λ (l : Kept). entry ∷ l) (all-kept p kept a.1))

-- ---- what is left is right

module _ (fs after : FileSystem) (live : Ranges) where
  -- frames depend on the tree by the view alone
  frames-same : (uid : ℕ) (frames : Frames) → view_of after uid ≡ view_of fs uid → AreFrames fs live uid frames
      → AreFrames after live uid frames
  frames-same uid frames e a = record {
    view = a.view ∙ sym e;
    of_view = subst (λ (l : List Seen). ∥ IsPermutation (frames_in live l) frames.by_address ∥₁) (sym e) a.of_view;
    ascending = a.ascending;
    ranges_alone = a.ranges_alone;
    sum = a.sum;
  }

  -- of those who pass the test
  right-filtered : (p : ℕ → Bool) → ((uid : ℕ) → p uid ≡ true → view_of after uid ≡ view_of fs uid) → (kept : Kept)
      → CacheMatchesTree fs live kept → CacheMatchesTree after live (filter (λ entry. p entry.0) kept)
  right-filtered p same [] a = tt
  right-filtered p same (entry ∷ kept) a =
      let rest : Kept = filter (λ (x : ℕ × Frames). p x.0) kept in
      elim (p entry.0) as (λ b. p entry.0 ≡ b → CacheMatchesTree after live (cond b (entry ∷ rest) rest)) [
        | true ↦ λ h. (frames-same entry.0 entry.1 (same entry.0 h) a.0, right-filtered p same kept a.1)
        | false ↦ λ h. right-filtered p same kept a.1
      ] refl

  -- of those other than one
  module _ (uid : ℕ) (same : (other : ℕ) → nat_eq uid other ≡ false → view_of after other ≡ view_of fs other) where
    right-others : (kept : Kept) → NonePasses (nat_eq uid) kept → CacheMatchesTree fs live kept → CacheMatchesTree after live kept
    right-others [] n a = tt
    right-others (entry ∷ kept) n a = (frames-same entry.0 entry.1 (same entry.0 n.0) a.0, right-others kept n.1 a.1)

    right-without : (kept : Kept) → IsDistinct nat_eq (keys_of kept) → CacheMatchesTree fs live kept
        → CacheMatchesTree after live (remove_entry (nat_eq uid) kept)
    unfolding IsDistinct
    right-without [] d a = tt
    right-without (entry ∷ kept) d a =
        elim (nat_eq uid entry.0) as
        (λ b. nat_eq uid entry.0 ≡ b → CacheMatchesTree after live (cond b kept (entry ∷ remove_entry (nat_eq uid) kept))) [
          | true ↦ λ h. right-others kept (none_past_head nat_eq_equiv uid entry kept d h) a.1
          | false ↦ λ h. (frames-same entry.0 entry.1 (same entry.0 h) a.0, right-without kept d.1 a.1)
        ] refl

module _ (fs : FileSystem) (ino : ℕ) (node : Node) (acl : Option Acl) (after : FileSystem) (c : IsPermChange fs ino node acl after) where
  abbrev now : FileSystem
  now = with_perm (λ _. c.perm) (record fs { acls = c.acls }) ino (Some node)

  granted-alike : (uid : ℕ) → grants_as_before now ino node acl uid ≡ true
      → is_allowed (user_in fs uid) node.perm (acl_of fs ino) (want_of node.kind)
      ≡ is_allowed (user_in fs uid) c.perm (acl_of now ino) (want_of node.kind)
  granted-alike uid h =
      ap (λ (a : Option Acl). is_allowed (user_in fs uid) node.perm a (want_of node.kind)) c.had
      ∙ (booleans_Decides _ _).0 h
      ∙ ap (λ (o : Option Node). is_granted_node (user_in fs uid) (want_of node.kind) (acl_of now ino) o)
      (node_of-here fs ino node c.perm c.acls c.there c.others)

  pub right-rechecked : (live : Ranges) (kept : Kept) → IsTree after → CacheMatchesTree fs live kept
      → CacheMatchesTree after live (kept_as_before after ino node acl kept)
  right-rechecked live kept t a =
      subst (λ (f : FileSystem). IsTree f → CacheMatchesTree f live (kept_as_before f ino node acl kept)) (sym c.changed)
      (λ u.
      right-filtered fs now live (grants_as_before now ino node acl)
      (λ uid h. view_of-permitted fs ino node c.perm c.acls c.there c.others (user_in fs uid) (granted-alike uid h) u uid refl)
      kept a) t

pub right-forgotten : (fs after : FileSystem) (live : Ranges) (uid : ℕ) (kept : Kept) → IsDistinct nat_eq (keys_of kept)
    → IsGroupChange fs uid after → CacheMatchesTree fs live kept → CacheMatchesTree after live (remove_entry (nat_eq uid) kept)
right-forgotten fs after live uid kept d c a =
    subst (λ (f : FileSystem). CacheMatchesTree f live (remove_entry (nat_eq uid) kept)) (sym c.changed)
    (right-without fs (with_user fs uid c.groups) live uid (λ other h. view_of-regrouped fs uid c.groups other h) kept d a)
