-- The extents of an operand, as a list.
use Rattle.std.specs.Prelude.{ℕ, ◌+◌, ◌-◌, List, filter, map, nat_le}
use Rattle.wu_base.specs.declared.addresses.Extent.{Extent}

-- the extent from a place on, with so many places after the first
abbrev pub run_from : ℕ → ℕ → Extent
run_from after first = record { start = first; end = first + after }

-- the extent with so many places before the address and after it
abbrev pub run_around : ℕ → ℕ → ℕ → Extent
run_around before after address = record { start = address - before; end = address + after }

-- those of addresses that have so many before them
abbrev pub runs_around : ℕ → ℕ → List ℕ → List Extent
runs_around before after addresses = map (run_around before after) (filter (λ address. nat_le before address) addresses)
