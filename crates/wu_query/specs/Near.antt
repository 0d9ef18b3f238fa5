-- Lists of terms that are cut to frames, and by which expressions have the same extents in each of them.
use Rattle.std.specs.Prelude.{◌≡◌, ℕ, ◌<◌, List, filter, length, map, slice_index_or}
use Rattle.std.specs.Cmp.Lexicographic.{slice_cmp}
use Rattle.std.specs.List.{AllByRecursion}
use Rattle.std.specs.List.Sorted.{IsStrictlySortedBy}
use Rattle.std.specs.Ordering.{nat_cmp}
use Rattle.wu_base.specs.declared.addresses.Range.{Range}
use Rattle.wu_base.specs.declared.addresses.TermList.{TermList}
use Rattle.wu_gcl.specs.Regions.{Region}
use Rattle.wu_layout.specs.Postings.{is_live}
use Rattle.wu_solve.specs.Addresses.{AreLists}
use Rattle.wu_solve.specs.Solving.{frame_hits}
use Rattle.wu_query.specs.declared.near.GatheredTerm.{GatheredTerm}
use Rattle.wu_query.specs.declared.postings.Postings.{Postings}
use Rattle.wu_query.specs.declared.postings.Postings.TheVariants.{Listed, Gathered}
use Rattle.wu_query.specs.Units.{IsAmong}

-- the term's list, with all addresses that were gathered
abbrev pub whole : GatheredTerm → TermList
whole gathered = record { term = gathered.term; at = gathered.at }

-- with those of them that lie in these frames
abbrev pub cut_to : List Range → GatheredTerm → TermList
cut_to frames gathered = record { term = gathered.term; at = filter (is_live frames) gathered.at }

-- over each of these frames the expression has the same extents by the one lists as by the others
abbrev pub HaveSameExtents : Region → List Range → List TermList → List TermList → Type 0
HaveSameExtents region frames lists others =
    AllByRecursion (λ frame. frame_hits region lists frame ≡ frame_hits region others frame) frames

-- the term at that place is a needed one
pub record IsNeededAt (needed : List (List ℕ)) (gathered : List GatheredTerm) (place : ℕ) : Type 0 where
  pub within : place < length gathered
  pub among : (d : GatheredTerm) → IsAmong needed (slice_index_or gathered place d).term

-- ---- postings

-- the terms ascend by their bytes
abbrev pub AscendByTerm : List GatheredTerm → Type 0
AscendByTerm gathered = IsStrictlySortedBy (slice_cmp nat_cmp) (map (λ one. one.term) gathered)

-- the lists that an expression is solved by
abbrev pub lists_found : Postings → List TermList
lists_found (Listed lists) = lists
lists_found (Gathered terms) = map whole terms

-- what a solver asks of them
abbrev pub CanBeSolved : Postings → Type 0
CanBeSolved (Listed lists) = AreLists lists
CanBeSolved (Gathered terms) = AscendByTerm terms
