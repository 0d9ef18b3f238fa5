-- The numbers of a directory's head, as they are while the part's lists come.
use Rattle.std.specs.Prelude.{List, ◌<◌, ◌≤◌, ◌≡◌, ◌==◌, true, length}
use Rattle.std.specs.List.{AllByRecursion, list_any, sum_by}
use Rattle.wu_base.specs.declared.addresses.TermList.{TermList}
use Rattle.wu_part.specs.Parts.{IsList}
use Rattle.wu_part.specs.Writing.{first_of, last_of}
use Rattle.wu_part.specs.declared.totals.Totals.{Totals}

-- These are the totals of the lists, none of which has an address below low.
pub record AreTotals (lists : List TermList) (totals : Totals) : Type 0 where
  pub each : AllByRecursion IsList lists
  pub begin : AllByRecursion (λ list. totals.low ≤ first_of list.at) lists
  pub greatest : AllByRecursion (λ list. last_of list.at ≤ totals.high) lists
  pub last : 0 < length lists → list_any (λ list. last_of list.at == totals.high) lists ≡ true
  pub none : length lists ≡ 0 → totals.high ≡ 0
  pub stored : totals.stored ≡ sum_by (λ list. length list.at) lists
  pub count : totals.count ≡ length lists
  pub reached : totals.reached ≡ list_any (λ list. first_of list.at == totals.low) lists
