-- A search over a user's frames: where terms stand in them, the extents of an expression with the places of their files, and how
-- frames and postings stand for the user's view.
use Rattle.std.specs.Prelude.{◌≡◌, ℕ, suc, ◌+◌, ◌-◌, ◌<◌, ◌≤◌, ◌^◌, Contains, List, [], ◌∷◌, ◌++◌, length, map, take, drop, nat_eq, nat_le}
use Rattle.std.specs.Prelude.{nat_lt, true, filter, find, option_map, if◌then◌else◌, slice_get, option_and_then, unwrap_or, zip, Option}
use Rattle.std.specs.List.{All, AllByRecursion, flat_map, list_any}
use Rattle.std.specs.Cmp.Lexicographic.{pointwise}
use Rattle.wu_base.specs.declared.addresses.Extent.{Extent}
use Rattle.wu_base.specs.declared.addresses.Range.{Range}
use Rattle.wu_base.specs.declared.addresses.TermList.{TermList}
use Rattle.wu_base.specs.declared.limits.TheConstants.{ADDRESSES_MAX}
use Rattle.wu_base.specs.declared.troubles.Trouble.{Trouble}
use Rattle.wu_outside.specs.Content.{Content}
use Rattle.wu_outside.specs.declared.ranges.ReadRange.{ReadRange}
use Rattle.wu_layout.specs.Layouts.{postings_of}
use Rattle.wu_layout.specs.Postings.{fetched}
use Rattle.wu_gcl.specs.Regions.{Region}
use Rattle.wu_gcl.specs.Terms.{terms_in}
use Rattle.wu_view.specs.declared.Seen.{Seen}
use Rattle.wu_rank.specs.declared.results.Unit.{Unit as RankedUnit}
use Rattle.wu_rank.specs.declared.results.Ranked.{Ranked}
use Rattle.wu_rank.specs.Scores.{length_of}
use Rattle.wu_solve.specs.Solving.{frame_hits}
use Rattle.wu_space.specs.Addresses.{Ranges, range_of}
use Rattle.wu_base.specs.Ranges.{AreApart}
use Rattle.wu_parts.specs.Causes.{IsFetchCause}
use Rattle.wu_parts.specs.Contents.{Contents}
use Rattle.wu_frames.specs.declared.Frame.{Frame}
use Rattle.wu_frames.specs.declared.Frames.{Frames}
use Rattle.wu_query.specs.Asked.{blocks_read}
use Rattle.wu_ask.specs.Questions.{Question, Ranking, Weighing}
use Rattle.wu_query.specs.declared.ranking.Wanted.{Wanted}
use Rattle.wu_query.specs.declared.ranking.Wanted.TheVariants.{Best, Weighed}
use Rattle.wu_query.specs.Rankings.{unit_at}
use Rattle.wu_query.specs.States.{State}

-- What a search asks of frames: they lie apart, by address, and below the greatest address, and each is shorter than a ranking may
-- have units.
pub record CanBeSearched (frames : Frames) : Type 0 where
  pub apart : AreApart frames.ranges
  pub bounded : AllByRecursion (λ range. range.start + range.len ≤ ADDRESSES_MAX) frames.ranges
  pub short : AllByRecursion (λ range. range.len < 2 ^ 26) frames.ranges
  pub of_frames : frames.ranges ≡ map (λ frame. frame.range) frames.by_address

-- ---- terms

-- where a term stands in the frames: the addresses that it has in the state, in parts and in memory, of those that are in one of them
abbrev pub found_in : List Range → State → List ℕ → List ℕ
found_in ranges s term = fetched ranges (postings_of s.layout.parts s.layout.memory) term

-- the term's list, where a function tells the addresses of each term
abbrev pub list_at : (List ℕ → List ℕ) → List ℕ → TermList
list_at addresses term = record { term = term; at = addresses term }

-- the word is one of the terms
abbrev pub IsAmong : List (List ℕ) → List ℕ → Type 0
IsAmong terms word = list_any (pointwise nat_eq word) terms ≡ true

-- those of the terms that are among the words
abbrev pub terms_among : List (List ℕ) → List (List ℕ) → List (List ℕ)
terms_among words terms = filter (λ term. list_any (pointwise nat_eq term) words) terms

-- the list of the word, with the addresses that the first list of its term has; none where there is no such list
abbrev pub list_in : List TermList → List ℕ → TermList
list_in lists word =
    record { term = word; at = unwrap_or (option_map (λ list. list.at) (find (λ list. pointwise nat_eq word list.term) lists)) [] }

-- ---- units

-- the address after the frame's last
abbrev pub end_of : Frame → ℕ
end_of frame = frame.range.start + frame.range.len

-- how many of the first extents start before the address
abbrev pub count_before : ℕ → List Extent → ℕ
count_before end [] = 0
count_before end (x ∷ xs) = if nat_lt x.start end then suc (count_before end xs) else 0

-- the extents, each with the place of its frame's file, where those of each frame come before those of the next
abbrev pub placed : List Frame → List Extent → List RankedUnit
placed [] xs = []
placed (frame ∷ frames) xs = map (unit_at frame.place) (take (count_before (end_of frame) xs) xs)
    ++ placed frames (drop (count_before (end_of frame) xs) xs)

-- the units of frames: their extents, each with its file's place in the view
abbrev pub units_in : Region → List TermList → List Frame → List RankedUnit
units_in region lists frames = flat_map (λ frame. map (unit_at frame.place) (frame_hits region lists frame.range)) frames

-- what a ranking asks of its units
pub record CanBeRanked (units : List RankedUnit) : Type 0 where
  pub some : All (λ unit. 1 ≤ length_of unit.extent) units
  pub short : All (λ unit. length_of unit.extent < 2 ^ 26) units
  pub few : length units ≤ 2 ^ 47

-- the units of the expression in the frames, at addresses, by these lists
pub record AreUnits (region : Region) (frames : Frames) (lists : List TermList) (units : List RankedUnit) : Type 0 where
  pub are : units ≡ units_in region lists frames.by_address
  pub fit : CanBeRanked units

-- what is asked of a ranking of a unit's extents by words
abbrev pub ranking_question : Wanted → Region → List (List ℕ) → Question
ranking_question (Best k) unit words = Ranking k unit words
ranking_question (Weighed k) unit words = Weighing k unit words

-- all of the frame, as the unit that is the whole file; none where a frame has no room for the tags at its start and its end
abbrev pub file_unit : Frame → List RankedUnit
file_unit frame =
    if nat_le 2 frame.range.len then
    unit_at frame.place (record { start = frame.range.start; end = frame.range.start + frame.range.len - 1 }) ∷ []
    else
    []

-- the units that are whole files
abbrev pub file_units : List Frame → List RankedUnit
file_units [] = []
file_units (frame ∷ frames) = file_unit frame ++ file_units frames

-- ---- back to the files

abbrev pub no_range : Range
no_range = record { start = 0; len = 0 }

-- the live range of the file at that place of the view
abbrev pub range_at : Ranges → List Seen → ℕ → Range
range_at live view place = unwrap_or (option_and_then (λ file. range_of live file.ino) (slice_get view place)) no_range

-- the unit, with its extent counted from its file's first token, where the file at each place starts at some address
abbrev pub relative_to_file : (ℕ → ℕ) → Ranked → Ranked
relative_to_file start r = record {
  score = r.score;
  unit = record {
    extent = record { start = r.unit.extent.start - start r.unit.place; end = r.unit.extent.end - start r.unit.place };
    place = r.unit.place;
  };
}

abbrev pub in_its_file : Ranges → List Seen → Ranked → Ranked
in_its_file live view ranked = relative_to_file (λ place. (range_at live view place).start) ranked

-- ---- the state

-- The units of the expression in the frames, by the addresses that the state has.
pub record AreUnitsIn (region : Region) (frames : Frames) (s : State) (units : List RankedUnit) : Type 0 where
  pub terms : List (List ℕ)
  pub all : (term : List ℕ) → Contains (terms_in region) term → Contains terms term
  pub are : units ≡ units_in region (map (list_at (found_in frames.ranges s)) terms) frames.by_address

-- Why fetching these terms fails: of the blocks that frames need of them and that weren't kept, the first ones were read.
abbrev pub IsCauseFor : Contents → List Range → List (List ℕ) → Option Content → ℕ → ℕ → Option (List ReadRange) → Option (List ReadRange)
    → Trouble → Type 0
IsCauseFor contents frames terms holds before now ranges ranges_now trouble =
    IsFetchCause (zip contents.parts contents.directories) (blocks_read contents frames terms) holds before now ranges ranges_now trouble
