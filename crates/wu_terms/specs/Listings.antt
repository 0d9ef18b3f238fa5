-- What is shown of a user's terms.
use Rattle.std.specs.Prelude.{Bool, List, if◌then◌else◌}
use Rattle.std.specs.List.Sorted.{IsNonDecreasingBy}
use Rattle.wu_base.specs.declared.addresses.Range.{Range}
use Rattle.wu_terms.specs.declared.listing.TermFiles.{TermFiles}
use Rattle.wu_terms.specs.Terms.{top_of}

-- the order in which a reply has them: that of the words, or the most frequent ones first
abbrev pub in_order : Bool → List TermFiles → List TermFiles
in_order top lines = if top then top_of lines else lines

-- no frame starts before one that stands before it
abbrev pub StartInOrder : List Range → Type 0
StartInOrder frames = IsNonDecreasingBy (λ frame. frame.start) frames
