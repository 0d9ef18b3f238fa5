-- The written answer to a query, over a user's view alone.
use Rattle.std.specs.Prelude.{ℕ, List, [], length, map, take, count_by, slice_get, option_and_then, unwrap_or}
use Rattle.std.specs.List.{flat_map}
use Rattle.wu_base.specs.declared.addresses.Extent.{Extent}
use Rattle.wu_rank.specs.declared.results.Ranked.{Ranked}
use Rattle.wu_snip.specs.Snippets.{snippet_of}
use Rattle.wu_gcl.specs.Regions.{Region}
use Rattle.wu_terms.specs.declared.listing.TermFiles.{TermFiles}
use Rattle.wu_terms.specs.Terms.{terms_of}
use Rattle.wu_terms.specs.Listings.{in_order}
use Rattle.wu_export.specs.Exports.{export_of}
use Rattle.wu_rank.specs.Pruning.{reaching}
use Rattle.wu_ask.specs.Questions.{Question, Counting, Finding, Ranking, ListingPaths, ListingTerms, Exporting, Weighing}
use Rattle.wu_ask.specs.declared.Found.{Found}
use Rattle.wu_ask.specs.declared.RankLine.{RankLine}
use Rattle.wu_ask.specs.declared.TermLine.{TermLine}
use Rattle.wu_ask.specs.declared.Answered.{Answered}
use Rattle.wu_ask.specs.declared.Answered.TheVariants.{Count, Find, Rank, Paths, Terms, Export, Weighed}
use Rattle.wu_query.specs.View.{Shown}
use Rattle.wu_query.specs.Hits.{hits_in, has_hit}
use Rattle.wu_query.specs.Rankings.{frequency_in, ranking_of, units_of}

-- the least open path of the file at a place of the view
abbrev pub path_at : List Shown → ℕ → List ℕ
path_at view place = unwrap_or (option_and_then (λ file. slice_get file.paths 0) (slice_get view place)) []

-- a unit as it is shown
abbrev pub line_of : List Shown → Ranked → RankLine
line_of view ranked = record {
  score = ranked.score;
  path = path_at view ranked.unit.place;
  start = ranked.unit.extent.start;
  end = ranked.unit.extent.end;
}

-- an extent of a file as it is shown: with the least open path, and the first line that shares an address with the extent
abbrev pub found_line : Shown → Extent → Found
found_line file extent = record {
  path = unwrap_or (slice_get file.paths 0) [];
  start = extent.start;
  end = extent.end;
  line = (snippet_of file.text extent).line;
  snippet = (snippet_of file.text extent).bytes;
}

-- the extents of an expression in a file, as they are shown
abbrev pub lines_in : Region → Shown → List Found
lines_in region file = map (found_line file) (hits_in region file)

-- a word as it is shown
abbrev pub term_line : TermFiles → TermLine
term_line term = record { word = term.word; files = term.files }

-- the words of the view's texts that begin with the prefix, each with the number of the files that have it
abbrev pub terms_in : List Shown → List ℕ → List TermFiles
terms_in view prefix = terms_of prefix (map (λ file. file.text) view)

-- The answer: to a count, the number of extents over the view, and of its files with one or more; to a search, these two and the
-- first k of the extents, file by file; to a ranking, the number of units that hold a word, and the first k of them; to a question
-- for paths, every open path, file by file; to one for terms, the number of the words with the prefix, and the first k of them, by
-- bytes or the most frequent ones first; to an export, the script; to a weighing, the number of units that hold a word, and of those
-- that could have a score that is shown.
unfoldable pub answer : List Shown → Question → Answered
answer view (Counting region) = Count (length (flat_map (hits_in region) view)) (count_by (has_hit region) view)
answer view (Finding k region) =
    Find (length (flat_map (hits_in region) view)) (count_by (has_hit region) view) (take k (flat_map (lines_in region) view))
answer view (Ranking k unit words) = Rank (length (ranking_of view unit words)) (map (line_of view) (take k (ranking_of view unit words)))
answer view ListingPaths = Paths (flat_map (λ file. file.paths) view)
answer view (ListingTerms k prefix top) =
    Terms (length (terms_in view prefix)) top (map term_line (take k (in_order top (terms_in view prefix))))
answer view Exporting = Export (export_of view)
answer view (Weighing k unit words) =
    Weighed (length (ranking_of view unit words)) (length (reaching (frequency_in view) (units_of unit view) words k))
