-- What a call leaves of a store, in one word.
use Rattle.std.specs.Prelude.{◌≡◌, OnOk, Result}
use Rattle.wu_outside.specs.declared.traits.Store as stores

-- The call only read: what is held and what a crash may leave is as it was, and where it succeeded no call failed.
pub record OnlyReads {D T E : Type 0} (Store : stores.Ghosts D) (old new : D) (r : Result T E) : Type 0 where
  pub holds : Store.holds new ≡ Store.holds old
  pub moments : Store.moments new ≡ Store.moments old
  pub calm : OnOk r (Store.faults new ≡ Store.faults old)
