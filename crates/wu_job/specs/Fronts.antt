-- The entries of the first terms that are left.
use Rattle.std.specs.Prelude.{◌≡◌, Option, None, Some, List, [], slice_get}
use Rattle.wu_part.specs.declared.entries.TermEntry.{TermEntry}
use Rattle.wu_job.specs.declared.sources.Front.{Front}
use Rattle.wu_job.specs.declared.sources.Places.{Places}
use Rattle.wu_job.specs.declared.sources.Source.{Source}

abbrev pub entries_of_other : Option Source → List TermEntry
entries_of_other None = []
entries_of_other (Some source) = source.directory.terms

-- these are the entries at the places
pub record IsFront (left : Source) (right : Option Source) (places : Places) (front : Front) : Type 0 where
  pub first : front.left ≡ slice_get left.directory.terms places.left
  pub second : front.right ≡ slice_get (entries_of_other right) places.right
