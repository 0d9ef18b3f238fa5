-- Which address each place of a posting has: those from 0 on are counted from a start, and those from each break on from another one,
-- which is no lower. So addresses ascend with their places, and the addresses between two texts that no posting has take no place.
use Rattle.std.specs.Prelude.{ℕ, ◌+◌, ◌≤◌, if◌then◌else◌, List, [], ◌∷◌, nat_lt}
use Rattle.std.specs.List.{AllByRecursion}
use Rattle.wu_parts.specs.declared.addressing.Addressing.{Addressing}
use Rattle.wu_parts.specs.declared.addressing.Break.{Break}

abbrev pub counted : ℕ → List Break → ℕ → ℕ
counted start [] place = start + place
counted start (next ∷ breaks) place = if nat_lt place next.place then start + place else counted next.start breaks place

abbrev pub address_of : Addressing → ℕ → ℕ
address_of addressing place = counted addressing.start addressing.breaks.items place

-- from one break to the next, places and starts never fall
abbrev pub NeverFall : ℕ → ℕ → List Break → Type 0
NeverFall place start [] = Unit {0}
NeverFall place start (next ∷ breaks) = (place ≤ next.place) × (start ≤ next.start) × NeverFall next.place next.start breaks

abbrev pub IsRising : Addressing → Type 0
IsRising addressing = NeverFall 0 addressing.start addressing.breaks.items

-- no break comes after the place
abbrev pub AreBy : ℕ → List Break → Type 0
AreBy place breaks = AllByRecursion (λ next. next.place ≤ place) breaks
