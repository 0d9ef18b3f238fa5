-- Frames of users who see none of the links that an event changed.
use Rattle.std.proofs.Common.{◌≡◌, ℕ, ◌+◌, true, false, cond, List, [], ◌∷◌, refl, sym, ◌∙◌, subst}
use Rattle.std.specs.Prelude.{None, IsPermutation, filter_map, option_map}
use Rattle.std.specs.List.{AllByRecursion, cons_option, enumerate_from}
use Rattle.wu_base.proofs.Members.{Has, all_from_has}
use Rattle.wu_tree.specs.FileSystems.{FileSystem}
use Rattle.wu_tree.specs.Rules.{IsTree}
use Rattle.wu_view.specs.declared.Seen.{Seen}
use Rattle.wu_view.specs.Views.{view_of}
use Rattle.wu_space.specs.Addresses.{Ranges, range_of}
use Rattle.wu_frames.specs.declared.Frame.{Frame}
use Rattle.wu_frames.specs.declared.Frames.{Frames}
use Rattle.wu_frames.specs.declared.links.LinkChanges.{LinkChanges}
use Rattle.wu_frames.specs.UserFrames.{CacheMatchesTree, AreFrames, Kept, frame_of, frame_with, frames_in}
use Rattle.wu_frames.specs.Links.{IsLinkChange, KeepRanges, kept_unshown, sees_none}
use Rattle.wu_frames.proofs.Rechecking.{all-kept}
use Rattle.wu_frames.proofs.SeenLinks.{file-of_view, view_of-relinked}

module _ (live now : Ranges) where
  -- frames depend on the ranges of the view's files alone
  frames_in-same : (n : ℕ) (view : List Seen) → AllByRecursion (λ (file : Seen). range_of now file.ino ≡ range_of live file.ino) view
      → filter_map (frame_of now) (enumerate_from n view) ≡ filter_map (frame_of live) (enumerate_from n view)
  frames_in-same n [] a = refl
  frames_in-same n (file ∷ view) a = λ i.
      cons_option (option_map (frame_with n file.ino) (a.0 i)) (frames_in-same (n + 1) view a.1 i)

  module _ (before after : FileSystem) (t : IsTree after) (links : LinkChanges) (c : IsLinkChange before links after)
      (same : KeepRanges before after live now) where
    ranges-same : (uid : ℕ) → view_of after uid ≡ view_of before uid
        → AllByRecursion (λ (file : Seen). range_of now file.ino ≡ range_of live file.ino) (view_of before uid)
    ranges-same uid e =
        all_from_has (λ (file : Seen). range_of now file.ino ≡ range_of live file.ino) (view_of before uid)
        (λ file h.
        same file.ino (file-of_view before c.rules uid file h)
        (file-of_view after t uid file (subst (λ (l : List Seen). Has file l) (sym e) h)))

    frames-relinked : (uid : ℕ) (frames : Frames) → sees_none after links uid ≡ true → AreFrames before live uid frames
        → AreFrames after now uid frames
    frames-relinked uid frames h a =
        let e : view_of after uid ≡ view_of before uid = view_of-relinked before after t links c uid h in
        let f : frames_in now (view_of before uid) ≡ frames_in live (view_of before uid) =
        frames_in-same 0 (view_of before uid) (ranges-same uid e) in
        record {
          view = a.view ∙ sym e;
          of_view =
              subst (λ (l : List Seen). ∥ IsPermutation (frames_in now l) frames.by_address ∥₁) (sym e)
              (subst (λ (l : List Frame). ∥ IsPermutation l frames.by_address ∥₁) (sym f) a.of_view);
          ascending = a.ascending;
          ranges_alone = a.ranges_alone;
          sum = a.sum;
        }

    pub right-unshown : (kept : Kept) → CacheMatchesTree before live kept → CacheMatchesTree after now (kept_unshown after links kept)
    right-unshown [] a = tt
    right-unshown (entry ∷ kept) a =
        let rest : Kept = kept_unshown after links kept in
        elim (sees_none after links entry.0) as
        (λ b. sees_none after links entry.0 ≡ b → CacheMatchesTree after now (cond b (entry ∷ rest) rest)) [
          | true ↦ λ h. (frames-relinked entry.0 entry.1 h a.0, right-unshown kept a.1)
          | false ↦ λ h. right-unshown kept a.1
        ] refl

-- where no link changes, all are left
pub unshown-none : (fs : FileSystem) (links : LinkChanges) (kept : Kept) → links.made ≡ None → links.removed ≡ None
    → links.replaced ≡ None → kept_unshown fs links kept ≡ kept
unshown-none fs links kept m r p = all-kept (sees_none fs links) kept (all-see-none kept)
  where
    all-see-none : (l : Kept) → AllByRecursion (λ (entry : ℕ × Frames). sees_none fs links entry.0 ≡ true) l
    all-see-none [] = tt
    all-see-none (entry ∷ l) = (rw (m, r, p) refl, all-see-none l)
