use Rattle.std.proofs.Common.{◌≡◌, List, ℕ, take, map, length, IsAscii}
use Rattle.std.specs.Char.{to_ascii_lowercase}
use Rattle.wu_base.specs.declared.limits.TheConstants.{WORD_MAX}
use Rattle.wu_token.proofs.lowered.Word.of_run.Given as goal

-- the bytes so far are ASCII, and stand lowered in the room
pub record AreLowered (i : ℕ) (run letters : List ℕ) : Type 0 where
  pub room : length letters ≡ WORD_MAX
  pub ascii : IsAscii (take i run)
  pub lowered : take i letters ≡ map to_ascii_lowercase (take i run)

abbrev pub invariant-loop-i : goal.invariant-loop-i
invariant-loop-i l = AreLowered l.i l.fn.run l.room
