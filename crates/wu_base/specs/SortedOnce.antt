-- Items in ascending order, without repeats.
use Rattle.std.specs.Prelude.{List, []}
use Rattle.std.specs.declared.cmp.Ordering.{Ordering}
use Rattle.std.specs.List.{fold}
use Rattle.std.specs.BTreeSet.{insert_key}

-- the items ascending, each of them once: what an ordered set holds into which they are put one after the other
abbrev pub sorted_once : {X : Type 0} → (X → X → Ordering) → List X → List X
sorted_once compare items = fold (insert_key compare) [] items
