-- What is kept of users after a file had a new text, put together from what becomes of each.
use Rattle.std.proofs.Common.{◌≡◌, ◌≢◌, ℕ, ◌<◌, Bool, List, [], ◌∷◌, ◌++◌, length, get_or, refl, ap, sym, subst, inl, inr, ⊎_elim, arith}
use Rattle.std.specs.List.{AllByRecursion, Any, HoldsAt, remove}
use Rattle.std.specs.List.Sorted.{IsNonDecreasingBy}
use Rattle.std.proofs.lemmas.List.{get_or_default}
use Rattle.wu_base.specs.declared.addresses.Range.{Range}
use Rattle.wu_tree.specs.FileSystems.{FileSystem}
use Rattle.wu_space.specs.Addresses.{Ranges}
use Rattle.wu_base.specs.Ranges.{AreApart}
use Rattle.wu_frames.specs.declared.Frame.{Frame}
use Rattle.wu_frames.specs.declared.Frames.{Frames}
use Rattle.wu_frames.specs.UserFrames.{CacheMatchesTree, AreFrames, HasFrameAt, Kept, StayOrMove, is_mendable, with_range}
use Rattle.wu_frames.specs.Mending.{IsCacheAfterMove, IsMoved, MayForget, MayMove, with_last}
use Rattle.wu_frames.proofs.Mendable.{keys-both, keys-none, keys-one, mendable-few, mendable-without, only-worn, unmendable}
use Rattle.wu_frames.proofs.MovedFrames.{right-moved, right-without, starts-ascend}

-- ---- who stays and who doesn't

gone-first : (old : Range) (entry : ℕ × Frames) (kept now : Kept) → HasFrameAt old.start entry.1 → StayOrMove old kept now
    → StayOrMove old (entry ∷ kept) now
gone-first old entry kept [] h s = (h, s)
gone-first old entry kept (first ∷ now) h s = inr (h, inr s)

stay-both : (old : Range) (kept now more after : Kept) → StayOrMove old kept now → StayOrMove old more after
    → StayOrMove old (kept ++ more) (now ++ after)
stay-both old [] now more after s t = subst (λ (l : Kept). StayOrMove old more (l ++ after)) (sym s) t
stay-both old (entry ∷ kept) [] more after s t = gone-first old entry (kept ++ more) after s.0 (stay-both old kept [] more after s.1 t)
stay-both old (entry ∷ kept) (first ∷ now) more after s t =
    ⊎_elim (λ same. inl (same.0, stay-both old kept now more after same.1 t))
    (λ other.
    inr (
      other.0,
      ⊎_elim (λ mended. inl (mended.0, mended.1, stay-both old kept now more after mended.2 t))
          (λ gone. inr (stay-both old kept (first ∷ now) more after gone t)) other.1,
    )) s

for-both : (fs : FileSystem) (live : Ranges) (kept more : Kept) → CacheMatchesTree fs live kept → CacheMatchesTree fs live more → CacheMatchesTree fs live (kept ++ more)
for-both fs live [] more a b = b
for-both fs live (entry ∷ kept) more a b = (a.0, for-both fs live kept more a.1 b)

-- the one at that place is one of the frames
pub any-at : (start place : ℕ) (frames : List Frame) → place < length frames
    → HoldsAt (λ (x : Frame). x.range.start ≡ start) frames place → Any (λ (x : Frame). x.range.start ≡ start) frames
any-at start place [] inside there = absurd (omega (arith, inside))
any-at start place (first ∷ frames) inside there =
    let frame : Frame = get_or (first ∷ frames) place first in
    (place, frame, inside, get_or_default (first ∷ frames) place frame first inside, there first)

ascend : (fs : FileSystem) (live : Ranges) (uid : ℕ) (frames : Frames) → AreFrames fs live uid frames
    → IsNonDecreasingBy (λ (x : Frame). x.range.start) frames.by_address
ascend fs live uid frames r = starts-ascend frames.by_address (subst AreApart r.ranges_alone r.ascending)

module _ (ino : ℕ) (old new : Range) where
  abbrev test : ℕ × Frames → Bool
  test entry = is_mendable old entry.1

  pub brought-none : IsCacheAfterMove ino old new [] []
  brought-none = record { stays = refl; users = λ fs space m fits a. refl; right = λ fs space m a. tt }

  pub brought-both : (entry : ℕ × Frames) (first gone done : Kept) → IsCacheAfterMove ino old new (entry ∷ []) first
      → IsCacheAfterMove ino old new gone done → IsCacheAfterMove ino old new (entry ∷ gone) (first ++ done)
  brought-both entry first gone done a b = record {
    stays = stay-both old (entry ∷ []) first gone done a.stays b.stays;
    users = λ fs space m fits r. keys-both test entry first gone done (a.users fs space m fits (r.0, tt)) (b.users fs space m fits r.1);
    right = λ fs space m r.
        for-both fs (with_range ino new space.ranges) first done (a.right fs space m (r.0, tt)) (b.right fs space m r.1);
  }

  -- ---- what becomes of one

  pub brought-same : (uid : ℕ) (frames : Frames)
      → (IsNonDecreasingBy (λ (x : Frame). x.range.start) frames.by_address
      → AllByRecursion (λ (x : Frame). x.range.start ≢ old.start) frames.by_address)
      → IsCacheAfterMove ino old new ((uid, frames) ∷ []) ((uid, frames) ∷ [])
  brought-same uid frames none = record {
    stays = inl (refl, refl);
    users = λ fs space m fits r. keys-one test (uid, frames) (mendable-without old frames (none (ascend fs space.ranges uid frames r.0)));
    right = λ fs space m r. (right-without space ino old new m fs uid frames r.0 (none (ascend fs space.ranges uid frames r.0)), tt);
  }

  module _ (uid place : ℕ) (frames : Frames) (inside : place < length frames.by_address)
      (starts : HoldsAt (λ (x : Frame). x.range.start ≡ old.start) frames.by_address place) where
    has : HasFrameAt old.start frames
    has = any-at old.start place frames.by_address inside starts

    is-moved : (last : Frame) (sum : ℕ) → MayMove place ino new frames last sum
        → IsMoved place ino new frames (with_last place last sum frames)
    is-moved last sum may = record {
      frame = may.frame;
      there = may.there;
      its = may.its;
      by_address = ap (λ (x : Frame). remove frames.by_address place ++ x ∷ []) may.moved;
      seen = refl;
      ranges = ap (λ (x : Frame). remove frames.ranges place ++ x.range ∷ []) may.moved;
      total = may.counted;
    }

    pub brought-moved : (last : Frame) (sum : ℕ) → MayMove place ino new frames last sum
        → IsCacheAfterMove ino old new ((uid, frames) ∷ []) ((uid, with_last place last sum frames) ∷ [])
    brought-moved last sum may = record {
      stays = inr (has, inl (refl, (may.few, refl), refl));
      users = λ fs space m fits r. keys-one test (uid, frames) (mendable-few old frames may.few);
      right = λ fs space m r.
          (right-moved space ino old new m fs uid frames r.0 place inside (with_last place last sum frames) (is-moved last sum may), tt);
    }

    pub brought-forgotten : MayForget place ino new frames → IsCacheAfterMove ino old new ((uid, frames) ∷ []) []
    brought-forgotten may = record {
      stays = (has, refl);
      users = λ fs space m fits r.
          keys-none test (uid, frames)
          (unmendable old frames place may.frame inside starts
          (only-worn space ino old new m fits fs uid frames r.0 place inside may starts));
      right = λ fs space m r. tt;
    }
