-- Lists of extents, ascending, and the sets that they list.
use Rattle.std.specs.Prelude.{◌≡◌, ◌⊎◌, ℕ, ◌<◌, ◌≤◌, Bool, true, List, [], ◌∷◌}
use Rattle.std.specs.List.{AllByRecursion}
use Rattle.wu_base.specs.declared.addresses.Extent.{Extent}

-- starts and ends before the other one does
pub record IsBefore (x y : Extent) : Type 0 where
  pub starts : x.start < y.start
  pub ends : x.end < y.end

-- starts and ends both ascend strictly
abbrev pub IsAscending : List Extent → Type 0
IsAscending [] = Unit {0}
IsAscending (x ∷ xs) = AllByRecursion (IsBefore x) xs × IsAscending xs

-- one of the list is the extent
abbrev pub Has : List Extent → Extent → Type 0
Has [] x = ⊥
Has (y ∷ ys) x = (y ≡ x) ⊎ Has ys x

-- lies in a text of n places
pub record IsExtentIn (n : ℕ) (x : Extent) : Type 0 where
  pub ordered : x.start ≤ x.end
  pub within : x.end < n

-- The list has each extent of the set once, and no other.
pub record Lists (n : ℕ) (set : Extent → Bool) (xs : List Extent) : Type 0 where
  pub ascending : IsAscending xs
  pub sound : (x : Extent) → Has xs x → IsExtentIn n x × (set x ≡ true)
  pub complete : (x : Extent) → IsExtentIn n x → set x ≡ true → Has xs x
