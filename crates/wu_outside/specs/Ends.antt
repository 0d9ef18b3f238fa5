-- What a read says of the end of a source.
use Rattle.std.specs.Prelude.{◌≡◌, ℕ, ◌<◌, Bool, true}

-- a read of so many bytes, into so much room, gave the end where it gave none though there was room
pub record GivesEnd (before after : Bool) (count room : ℕ) : Type 0 where
  pub given : count ≡ 0 → 0 < room → after ≡ true
  pub more : 0 < count → after ≡ before
  pub no_room : room ≡ 0 → after ≡ before
