-- What contracts see of a part that is being built.
use Rattle.std.specs.Prelude.{ℕ, List}
use Rattle.wu_base.specs.declared.addresses.TermList.{TermList}

pub record Building : Type 0 where
  -- the lowest address that may come
  pub low : ℕ
  -- the lists that were added
  pub lists : List TermList
