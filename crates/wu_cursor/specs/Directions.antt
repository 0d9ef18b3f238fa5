-- Places and extents as they are met in a direction.
use Rattle.std.specs.Prelude.{ℕ, ◌+◌, ◌≤◌, ◌<◌, suc, zero, min, max, Option, Some, None}
use Rattle.wu_base.specs.declared.addresses.Extent.{Extent}
use Rattle.wu_cursor.specs.declared.directions.Direction.{Direction}
use Rattle.wu_cursor.specs.declared.directions.Direction.TheVariants.{Forward, Backward}

abbrev pub opposite : Direction → Direction
opposite Forward = Backward
opposite Backward = Forward

-- the other place is the one, or comes behind it
abbrev pub Reaches : Direction → ℕ → ℕ → Type 0
Reaches Forward one other = one ≤ other
Reaches Backward one other = other ≤ one

-- the one place comes before the other
abbrev pub Precedes : Direction → ℕ → ℕ → Type 0
Precedes Forward one other = one < other
Precedes Backward one other = other < one

-- the next place; none is before place 0
abbrev pub next_place : Direction → ℕ → Option ℕ
next_place Forward place = Some (place + 1)
next_place Backward zero = None
next_place Backward (suc place) = Some place

-- the place of an extent that comes first
abbrev pub near : Direction → Extent → ℕ
near Forward x = x.start
near Backward x = x.end

-- the place of an extent that comes last
abbrev pub far : Direction → Extent → ℕ
far Forward x = x.end
far Backward x = x.start

-- the extent from the one place to the other
abbrev pub between : Direction → ℕ → ℕ → Extent
between Forward near far = record { start = near; end = far }
between Backward near far = record { start = far; end = near }

-- the one of both places that comes first
abbrev pub nearer : Direction → ℕ → ℕ → ℕ
nearer Forward one other = min one other
nearer Backward one other = max one other

-- the same, as far as they are there
abbrev pub nearer_of : Direction → Option ℕ → Option ℕ → Option ℕ
nearer_of direction None other = other
nearer_of direction (Some one) None = Some one
nearer_of direction (Some one) (Some other) = Some (nearer direction one other)

-- the one of both places that comes last
abbrev pub farther : Direction → ℕ → ℕ → ℕ
farther Forward one other = max one other
farther Backward one other = min one other
