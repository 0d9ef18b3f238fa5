-- The calls of an object in memory, counted from 0, of which some are to fail.
use Rattle.std.specs.Prelude.{ℕ, ◌+◌, ◌-◌, ◌^◌, ◌==◌, ◌||◌, min, nat_le, List, Bool, false, cond, Option}
use Rattle.std.specs.Option.{option_map_or}
use Rattle.std.specs.List.{list_any}

-- how many calls and how many faults there were, two counts that stand still at 2^64 - 1, which calls are to fail, and
-- the call from which on all fail, if there is one
pub record Schedule : Type 0 where
  pub calls : ℕ
  pub faults : ℕ
  pub fails : List ℕ
  pub stop_from : Option ℕ

-- the next value of a count
abbrev pub counted : ℕ → ℕ
counted n = min (n + 1) (2 ^ 64 - 1)

-- the call that is next is to fail
abbrev pub is_failing : Schedule → Bool
is_failing s = list_any (λ call. call == s.calls) s.fails || option_map_or (λ from. nat_le from s.calls) s.stop_from false

-- after that call
abbrev pub after_call : Schedule → Schedule
after_call s = record s { calls = counted s.calls; faults = cond (is_failing s) (counted s.faults) s.faults }
