-- The terms of which an index has postings, dead ones too: the candidates of a prefix are among them.
use Rattle.std.specs.Prelude.{◌≡◌, ℕ, List, ◌++◌, map}
use Rattle.std.specs.List.{flat_map}
use Rattle.std.specs.Map.{keys_of}
use Rattle.wu_part.specs.Directories.{PartDirectory}
use Rattle.wu_terms.specs.Collections.{Collection}
use Rattle.wu_terms.specs.Terms.{words_with}
use Rattle.wu_parts.specs.Contents.{Contents}

-- the terms of a part's directory
abbrev pub terms_listed : PartDirectory → List (List ℕ)
terms_listed directory = map (λ entry. entry.term) directory.terms

-- the terms of the parts, from left to right, and those of memory
abbrev pub terms_held : Contents → List (List ℕ)
terms_held contents = flat_map terms_listed contents.directories ++ keys_of contents.memory.lists

-- of these terms the words that begin with the prefix, as they are collected
abbrev pub candidates_of : List ℕ → List (List ℕ) → Collection
candidates_of prefix terms = record { prefix = prefix; words = words_with prefix terms }

-- what has the candidates of some terms has those of more
abbrev pub GainsCandidates : List (List ℕ) → Collection → Collection → Type 0
GainsCandidates more old new =
    (prefix : List ℕ) (terms : List (List ℕ)) → old ≡ candidates_of prefix terms → new ≡ candidates_of prefix (terms ++ more)
