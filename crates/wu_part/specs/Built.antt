-- What a builder shows to contracts, and what holds of it.
use Rattle.std.specs.Prelude.{ℕ, List, [], ◌++◌, ◌≡◌, true}
use Rattle.wu_base.specs.declared.addresses.TermList.{TermList}
use Rattle.wu_part.specs.declared.builders.Builder.TheInside as inside
use Rattle.wu_part.specs.Buildings.{Building}
use Rattle.wu_part.specs.Totals.{AreTotals}
use Rattle.wu_part.specs.Writing.{AppendsLists}

abbrev pub building_of : inside.Inside → Building
building_of b = record { low = b.totals.low; lists = b.added.lists }

-- The bytes are those of the lists: with the entries and blocks of further lists behind them they are those of all.
abbrev pub AreWritten : ℕ → List TermList → List ℕ → List ℕ → Type 0
AreWritten low lists entries blocks =
    (more : List TermList) (new after front : List ℕ) → AppendsLists low more entries new blocks after front
    → AppendsLists low (lists ++ more) [] new [] after front

pub record IsBuilt (b : inside.Inside) : Type 0 where
  pub totals : AreTotals b.added.lists b.totals
  pub written : b.whole ≡ true → AreWritten b.totals.low b.added.lists b.entries.items b.blocks.items
