-- The words that some of a user's frames have, by the addresses that a state has of them.
use Rattle.std.specs.Prelude.{ℕ, List, filter, map, nat_lt}
use Rattle.wu_base.specs.declared.addresses.Range.{Range}
use Rattle.wu_base.specs.Ranges.{frames_with}
use Rattle.wu_terms.specs.declared.listing.TermFiles.{TermFiles}
use Rattle.wu_query.specs.States.{State}
use Rattle.wu_query.specs.Units.{found_in}

-- the word, and how many of the frames have it
abbrev pub frames_of_word : List Range → State → List ℕ → TermFiles
frames_of_word ranges s word =
    record { word = word; files = frames_with ranges (found_in ranges s word) }

-- the same of each of the words that one of the frames has
abbrev pub words_found : List Range → State → List (List ℕ) → List TermFiles
words_found ranges s words =
    filter (λ line. nat_lt 0 line.files) (map (frames_of_word ranges s) words)
