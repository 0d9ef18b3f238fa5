-- What is said of frames has one proof at most, so that a type may keep it beside its fields.
use Rattle.std.specs.Prelude.{ℕ, List, [], ◌∷◌, refl}
use Rattle.std.specs.Coded.{Coded, Coded-set, coded_ℕ, coded_list, coded×, code_by, ×_prop, Unit-prop, le_prop}
use Rattle.std.specs.List.{AllByRecursion-prop}
use mathlib.Core.Logic.{∥∥₁_prop}
use Rattle.wu_base.specs.declared.addresses.Range.{Range}
use Rattle.wu_tree.specs.FileSystems.{FileSystem}
use Rattle.wu_view.specs.declared.Seen.{Seen}
use Rattle.wu_space.specs.Addresses.{Ranges}
use Rattle.wu_base.specs.Ranges.{AreApart}
use Rattle.wu_frames.specs.declared.Frames.{Frames}
use Rattle.wu_frames.specs.UserFrames.{AreFrames, CacheMatchesTree, Kept}

abbrev coded_range : Coded Range
coded_range = code_by (ℕ × ℕ) (coded× coded_ℕ coded_ℕ) (λ r. (r.start, r.len)) (λ p. record { start = p.0; len = p.1 }) (λ _. refl)

abbrev coded_seen : Coded Seen
coded_seen =
    code_by (List (List ℕ) × ℕ) (coded× (coded_list (coded_list coded_ℕ)) coded_ℕ) (λ s. (s.paths, s.ino))
    (λ p. record { paths = p.0; ino = p.1 }) (λ _. refl)

AreApart-prop : (ranges : List Range) → IsProp (AreApart ranges)
AreApart-prop [] = Unit-prop
AreApart-prop (range ∷ ranges) = ×_prop (AllByRecursion-prop _ (λ _. le_prop) ranges) (AreApart-prop ranges)

pub AreFrames-prop : (fs : FileSystem) (live : Ranges) (uid : ℕ) (frames : Frames) → IsProp (AreFrames fs live uid frames)
AreFrames-prop fs live uid frames a b = λ i. record {
  view = Coded-set (coded_list coded_seen) _ _ a.view b.view i;
  of_view = ∥∥₁_prop a.of_view b.of_view i;
  ascending = AreApart-prop frames.ranges a.ascending b.ascending i;
  ranges_alone = Coded-set (coded_list coded_range) _ _ a.ranges_alone b.ranges_alone i;
  sum = Coded-set coded_ℕ _ _ a.sum b.sum i;
}

pub CacheMatchesTree-prop : (fs : FileSystem) (live : Ranges) (kept : Kept) → IsProp (CacheMatchesTree fs live kept)
CacheMatchesTree-prop fs live kept = AllByRecursion-prop _ (λ entry. AreFrames-prop fs live entry.0 entry.1) kept
