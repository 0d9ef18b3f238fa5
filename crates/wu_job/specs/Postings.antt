-- A job over parts of some postings.
use Rattle.std.specs.Prelude.{◌≡◌, ℕ, List, [], ◌∷◌, Some}
use Rattle.wu_outside.specs.Content.{Content}
use Rattle.wu_layout.specs.Postings.{Posting}
use Rattle.wu_layout.specs.Layouts.{lists_of}
use Rattle.wu_part.specs.Parts.{SpellsPart}
use Rattle.wu_job.specs.Jobs.{JobPart}

-- the part's blob is there, and is the part of these postings
pub record HoldsPostings (content : Content) (part : JobPart) (postings : List Posting) : Type 0 where
  pub blob : List ℕ
  pub held : content.blobs part.recorded.blob ≡ Some blob
  pub spelled : SpellsPart part.directory (lists_of postings) blob

-- the same of several parts, side by side
abbrev pub HoldPostings : Content → List JobPart → List (List Posting) → Type 0
HoldPostings content [] [] = Unit {0}
HoldPostings content [] (postings ∷ more) = ⊥
HoldPostings content (part ∷ parts) [] = ⊥
HoldPostings content (part ∷ parts) (postings ∷ more) = HoldsPostings content part postings × HoldPostings content parts more
