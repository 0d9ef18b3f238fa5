-- The first extents of a list, and what is left of the list from a place on.
use Rattle.std.specs.Prelude.{ℕ, Bool, false, nat_le, nat_lt, List, [], ◌∷◌, if◌then◌else◌}
use Rattle.wu_base.specs.declared.addresses.Extent.{Extent}

-- from the first on that doesn't pass the test
abbrev pub skipped : (Extent → Bool) → List Extent → List Extent
skipped test [] = []
skipped test (y ∷ ys) = if test y then skipped test ys else y ∷ ys

-- from the first on that doesn't start before the place
abbrev pub from_start : ℕ → List Extent → List Extent
from_start place ys = skipped (λ y. nat_lt y.start place) ys

-- from the first on that doesn't end before the place
abbrev pub from_end : ℕ → List Extent → List Extent
from_end place ys = skipped (λ y. nat_lt y.end place) ys

-- from the first on that starts after the place
abbrev pub after_start : ℕ → List Extent → List Extent
after_start place ys = skipped (λ y. nat_le y.start place) ys

-- there is a first, and it ends at the place or before it
abbrev pub first_ends_by : ℕ → List Extent → Bool
first_ends_by place [] = false
first_ends_by place (y ∷ ys) = nat_le y.end place

-- there is a first, and it starts at the place or before it
abbrev pub first_starts_by : ℕ → List Extent → Bool
first_starts_by place [] = false
first_starts_by place (y ∷ ys) = nat_le y.start place

-- there is a first, and it ends before the place
abbrev pub first_ends_before : ℕ → List Extent → Bool
first_ends_before place [] = false
first_ends_before place (y ∷ ys) = nat_lt y.end place
