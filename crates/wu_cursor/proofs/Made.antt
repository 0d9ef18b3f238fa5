-- The far end of the nearest extent of what `+`, `^` and `..` make of two expressions.
use Rattle.std.proofs.Common.{◌≡◌, ℕ, Bool, List, refl}
use Rattle.std.specs.Prelude.{Option, Some, None, MatchOption}
use Rattle.wu_base.specs.declared.addresses.Extent.{Extent}
use Rattle.wu_gcl.specs.declared.expressions.Op.TheVariants.{OneOf, BothOf, FollowedBy}
use Rattle.wu_gcl.specs.declared.expressions.Tag.TheVariants.{FileStart, FileEnd, LineStart, LineEnd}
use Rattle.wu_gcl.specs.Regions.{Region, Mark, WholeFile, WholeLine, Both}
use Rattle.wu_gcl.specs.Extents.{innermost, in_either, holds_both, holds_in_order, combined, is_in}
use Rattle.wu_cursor.specs.declared.directions.Direction.{Direction}
use Rattle.wu_cursor.specs.Directions.{next_place, nearer_of, farther}
use Rattle.wu_cursor.specs.Within.{NoneReached, IsFarEnd}
use Rattle.wu_cursor.proofs.Inner.{far_end_inner, none_inner}
use Rattle.wu_cursor.proofs.Ends.{first_of, far_end_of_either, far_end_of_both, none_of_both_left, none_of_both_right, far_end_in_order}
use Rattle.wu_cursor.proofs.Ends.{none_in_order_first, none_in_order_second, none_in_order_behind}

made_inner : (d : Direction) (n : ℕ) (set : Extent → Bool) (place : ℕ) (r : Option ℕ)
    → MatchOption r (NoneReached d n set place) (IsFarEnd d n set place)
    → MatchOption r (NoneReached d n (innermost n set) place) (IsFarEnd d n (innermost n set) place)
made_inner d n set place None none = none_inner d n set place none
made_inner d n set place (Some end) f = far_end_inner d n set place end f

module _ (d : Direction) (left right : Region) (stands : List ℕ → ℕ → Bool) (n : ℕ) where
  abbrev L : Extent → Bool
  L = is_in left stands n

  abbrev R : Extent → Bool
  R = is_in right stands n

  pub one_of_far_end : (place : ℕ) (one other : Option ℕ) → MatchOption one (NoneReached d n L place) (IsFarEnd d n L place)
      → MatchOption other (NoneReached d n R place) (IsFarEnd d n R place)
      → MatchOption (nearer_of d one other) (NoneReached d n (is_in (Both OneOf left right) stands n) place)
      (IsFarEnd d n (is_in (Both OneOf left right) stands n) place)
  unfolding is_in combined
  one_of_far_end place one other l r =
      made_inner d n (in_either L R) place (nearer_of d one other) (far_end_of_either d n L R place one other l r)

  pub both_of_far_end : (place a b : ℕ) → IsFarEnd d n L place a → IsFarEnd d n R place b
      → IsFarEnd d n (is_in (Both BothOf left right) stands n) place (farther d a b)
  unfolding is_in combined
  both_of_far_end place a b l r = far_end_inner d n (holds_both n L R) place (farther d a b) (far_end_of_both d n L R place a b l r)

  pub both_of_none_left : (place : ℕ) → NoneReached d n L place → NoneReached d n (is_in (Both BothOf left right) stands n) place
  unfolding is_in combined
  both_of_none_left place none = none_inner d n (holds_both n L R) place (none_of_both_left d n L R place none)

  pub both_of_none_right : (place : ℕ) → NoneReached d n R place → NoneReached d n (is_in (Both BothOf left right) stands n) place
  unfolding is_in combined
  both_of_none_right place none = none_inner d n (holds_both n L R) place (none_of_both_right d n L R place none)

  pub followed_by_far_end : (place a next : ℕ) (r : Option ℕ) → IsFarEnd d n (first_of d L R) place a → next_place d a ≡ Some next
      → MatchOption r (NoneReached d n (first_of d R L) next) (IsFarEnd d n (first_of d R L) next)
      → MatchOption r (NoneReached d n (is_in (Both FollowedBy left right) stands n) place)
      (IsFarEnd d n (is_in (Both FollowedBy left right) stands n) place)
  unfolding is_in combined
  followed_by_far_end place a next None f is none =
      none_inner d n (holds_in_order n L R) place (none_in_order_second d n L R place a f next is none)
  followed_by_far_end place a next (Some b) f is s =
      far_end_inner d n (holds_in_order n L R) place b (far_end_in_order d n L R place a f next b is s)

  pub followed_by_none_first : (place : ℕ) → NoneReached d n (first_of d L R) place
      → NoneReached d n (is_in (Both FollowedBy left right) stands n) place
  unfolding is_in combined
  followed_by_none_first place none = none_inner d n (holds_in_order n L R) place (none_in_order_first d n L R place none)

  pub followed_by_none_behind : (place a : ℕ) → IsFarEnd d n (first_of d L R) place a → next_place d a ≡ None
      → NoneReached d n (is_in (Both FollowedBy left right) stands n) place
  unfolding is_in combined
  followed_by_none_behind place a f is = none_inner d n (holds_in_order n L R) place (none_in_order_behind d n L R place a f is)

pub file_set : (stands : List ℕ → ℕ → Bool) (n : ℕ) → is_in (Both FollowedBy (Mark FileStart)
    (Mark FileEnd)) stands n ≡ is_in WholeFile stands n
unfolding is_in
file_set stands n = refl

pub line_set : (stands : List ℕ → ℕ → Bool) (n : ℕ) → is_in (Both FollowedBy (Mark LineStart)
    (Mark LineEnd)) stands n ≡ is_in WholeLine stands n
unfolding is_in
line_set stands n = refl
