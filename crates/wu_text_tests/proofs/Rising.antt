-- Extents whose starts and ends ascend.
use Rattle.std.proofs.Common.{◌<◌, List, [], ◌∷◌, length, get_or, drop, arith}
use Rattle.std.specs.List.{AllByRecursion}
use Rattle.wu_base.specs.declared.addresses.Extent.{Extent}
use Rattle.wu_snip.specs.Snippets.{IsAscending, IsBefore}

before_later : (e f : Extent) (es : List Extent) → IsBefore e f → AllByRecursion (IsBefore f) es → AllByRecursion (IsBefore e) es
before_later e f [] b a = tt
before_later e f (g ∷ es) b a =
    (record { starts = omega (arith, b.starts, a.0.starts); ends = omega (arith, b.ends, a.0.ends) }, before_later e f es b a.1)

-- one that is before the first of them
pub ascend_from_second : (es : List Extent) (d : Extent) → 1 < length es → IsBefore (get_or es 0 d) (get_or es 1 d)
    → IsAscending (drop 1 es) → IsAscending es
ascend_from_second [] d l b a = absurd (omega arith)
ascend_from_second (e ∷ []) d l b a = absurd (omega arith)
ascend_from_second (e ∷ f ∷ es) d l b a = ((b, before_later e f es b a.0), a)

pub few_ascend : (es : List Extent) → length es < 2 → IsAscending es
few_ascend [] l = tt
few_ascend (e ∷ []) l = (tt, tt)
few_ascend (e ∷ f ∷ es) l = absurd (omega arith)
