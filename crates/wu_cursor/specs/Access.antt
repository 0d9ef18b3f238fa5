-- The access functions of a list of extents.
-- After Clarke, Cormack and Burkowski, The Computer Journal 38(1), 1995.
use Rattle.std.specs.Prelude.{ℕ, nat_le, List, reverse, Option}
use Rattle.std.specs.List.{find}
use Rattle.wu_base.specs.declared.addresses.Extent.{Extent}

-- the first that starts at the place or after it
abbrev pub first_starting : ℕ → List Extent → Option Extent
first_starting place xs = find (λ x. nat_le place x.start) xs

-- the first that ends at the place or after it
abbrev pub first_ending : ℕ → List Extent → Option Extent
first_ending place xs = find (λ x. nat_le place x.end) xs

-- the last that ends at the place or before it
abbrev pub last_ending : ℕ → List Extent → Option Extent
last_ending place xs = find (λ x. nat_le x.end place) (reverse xs)

-- the last that starts at the place or before it
abbrev pub last_starting : ℕ → List Extent → Option Extent
last_starting place xs = find (λ x. nat_le x.start place) (reverse xs)
