-- Lists that make a part.
use Rattle.std.specs.Prelude.{List, ◌<◌, eqb, length, map}
use Rattle.std.specs.List.{AllByRecursion, IsDistinct, flat_map}
use Rattle.std.specs.List.Sorted.{IsStrictlySortedBy}
use Rattle.std.specs.Cmp.Lexicographic.{slice_cmp}
use Rattle.std.specs.Ordering.{nat_cmp}
use Rattle.wu_base.specs.declared.addresses.TermList.{TermList}
use Rattle.wu_part.specs.Parts.{IsList}

pub record MakePart (lists : List TermList) : Type 0 where
  pub some : 0 < length lists
  pub are : AllByRecursion IsList lists
  pub ascending : IsStrictlySortedBy (slice_cmp nat_cmp) (map (λ list. list.term) lists)
  pub distinct : IsDistinct eqb (flat_map (λ list. list.at) lists)
