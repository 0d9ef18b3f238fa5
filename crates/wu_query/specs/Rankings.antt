-- The ranking of a query's units over a user's view: BM25 over her files alone.
-- After Büttcher, Clarke and Cormack, Information Retrieval, chapter 8, in whole numbers.
use Rattle.std.specs.Prelude.{ℕ, suc, ◌-◌, ◌==◌, nat_eq, List, [], ◌∷◌, ◌++◌, map, take, drop, count_by, if◌then◌else◌}
use Rattle.std.specs.Cmp.Lexicographic.{pointwise}
use Rattle.wu_base.specs.declared.addresses.Extent.{Extent}
use Rattle.wu_token.specs.Tokens.{tokens_of}
use Rattle.wu_gcl.specs.Regions.{Region}
use Rattle.wu_rank.specs.declared.results.Unit.{Unit as RankedUnit}
use Rattle.wu_rank.specs.declared.results.Ranked.{Ranked}
use Rattle.wu_rank.specs.Scores.{length_of}
use Rattle.wu_rank.specs.Order.{listed}
use Rattle.wu_query.specs.View.{Shown}
use Rattle.wu_query.specs.Hits.{hits_in}

-- ---- units

abbrev pub unit_at : ℕ → Extent → RankedUnit
unit_at place extent = record { extent = extent; place = place }

-- of files of which the first has this place in the view
abbrev pub units_from : ℕ → Region → List Shown → List RankedUnit
units_from place region [] = []
units_from place region (file ∷ files) = map (unit_at place) (hits_in region file) ++ units_from (suc place) region files

-- the units: the extents of the expression over the view, each with its file's place in it, by place, then by start;
-- an extent is counted from its file's first token
unfoldable pub units_of : Region → List Shown → List RankedUnit
units_of region view = units_from 0 region view

-- the tokens of the file at a place of the view
abbrev pub tokens_at : List Shown → ℕ → List (List ℕ)
tokens_at [] place = []
tokens_at (file ∷ files) place = if place == 0 then tokens_of file.text else tokens_at files (place - 1)

abbrev pub tokens_between : Extent → List (List ℕ) → List (List ℕ)
tokens_between extent tokens = take (length_of extent) (drop extent.start tokens)

-- ---- the ranking

-- how often the word is in the unit
unfoldable pub frequency_in : List Shown → List ℕ → RankedUnit → ℕ
frequency_in view word unit = count_by (pointwise nat_eq word) (tokens_between unit.extent (tokens_at view unit.place))

-- The units that hold a query word, each with its score over all units: by score, falling, then by the place of their file,
-- then by start.
unfoldable pub ranking_of : List Shown → Region → List (List ℕ) → List Ranked
ranking_of view region words = listed (frequency_in view) (units_of region view) words
