-- The lines that are shown of extents, by what is recorded of files and what the store holds of their texts.
use Rattle.std.specs.Prelude.{◌≡◌, ◌≢◌, ⊤, ℕ, ◌+◌, ◌-◌, ◌<◌, ◌≤◌, ◌==◌, Bool, List, [], ◌∷◌, ◌++◌, length, map, Option, None, Some}
use Rattle.std.specs.Prelude.{filter_map, if◌then◌else◌, slice_get}
use Rattle.std.specs.List.{AllByRecursion, list_any}
use Rattle.wu_base.specs.declared.addresses.Extent.{Extent}
use Rattle.wu_base.specs.declared.addresses.TermList.{TermList}
use Rattle.wu_base.specs.declared.limits.TheConstants.{ADDRESSES_MAX}
use Rattle.wu_base.specs.declared.troubles.Trouble.{Trouble}
use Rattle.wu_base.specs.declared.troubles.Trouble.TheVariants.{StoreFault, Damaged}
use Rattle.wu_outside.specs.Content.{Content}
use Rattle.wu_outside.specs.Faults.{Rose}
use Rattle.wu_outside.specs.declared.ranges.ReadRange.{ReadRange}
use Rattle.wu_ask.specs.Questions.{Question}
use Rattle.wu_ask.specs.declared.Found.{Found}
use Rattle.wu_frames.specs.declared.Frames.{Frames}
use Rattle.wu_parts.specs.Contents.{Contents}
use Rattle.wu_space.specs.Addresses.{Ranges}
use Rattle.wu_gcl.specs.Regions.{Region}
use Rattle.wu_image.specs.declared.records.FileRec.{FileRec}
use Rattle.wu_image.specs.Images.{text_held}
use Rattle.wu_rank.specs.declared.results.Unit.{Unit as RankedUnit}
use Rattle.wu_solve.specs.Solving.{frame_hits}
use Rattle.wu_view.specs.declared.Seen.{Seen}
use Rattle.wu_query.specs.Answer.{found_line}
use Rattle.wu_query.specs.Causes.{IsBlobOf, IsDamagedOf, WasRead}
use Rattle.wu_query.specs.declared.looking.Places.{Places}
use Rattle.wu_query.specs.declared.looking.Places.TheVariants.{All, Listed}
use Rattle.wu_query.specs.Permitted.{ReadsSuch}
use Rattle.wu_query.specs.Reads.{AreTexts, texts_read, texts_shown, whole_text}
use Rattle.wu_query.specs.Records.{Records, record_at, records_of}
use Rattle.wu_query.specs.Soundness.{IsRecord}
use Rattle.wu_query.specs.Searched.{HoldsTexts, Indexes, TellsPostings}
use Rattle.wu_query.specs.States.{State}
use Rattle.wu_query.specs.Units.{units_in}

-- a record as it is kept, whose range ends below the greatest address
pub record CanBeRead (file : ℕ × FileRec) : Type 0 where
  pub recorded : IsRecord file
  pub bounded : file.1.range.start + file.1.range.len ≤ ADDRESSES_MAX

-- ---- extents

-- the extent, counted from an address
abbrev pub counted_from : ℕ → Extent → Extent
counted_from start x = record { start = x.start - start; end = x.end - start }

-- the extents in the range of the file, counted from its first address
abbrev pub extents_of : Region → List TermList → FileRec → List Extent
extents_of region lists file = map (counted_from file.range.start) (frame_hits region lists file.range)

-- it has an address, and ends before there are so many
abbrev pub IsBelow : ℕ → Extent → Type 0
IsBelow len x = (x.start ≤ x.end) × (x.end < len)

-- ---- lines

-- the extents of a file with those paths, as they are shown
abbrev pub lines_of_record : Content → List (List ℕ) → List Extent → FileRec → List Found
lines_of_record content paths extents file = map (found_line (record { paths = paths; text = text_held content file })) extents

abbrev pub lines_recorded : Content → Region → List TermList → List (List ℕ) → Option FileRec → List Found
lines_recorded content region lists paths None = []
lines_recorded content region lists paths (Some file) = lines_of_record content paths (extents_of region lists file) file

abbrev pub hits_recorded : Region → List TermList → Option FileRec → ℕ
hits_recorded region lists None = 0
hits_recorded region lists (Some file) = length (extents_of region lists file)

abbrev pub text_recorded : Option FileRec → List ReadRange
text_recorded None = []
text_recorded (Some file) = whole_text file.blob file.len

-- of a file of a view
abbrev pub lines_at : Content → Records → Region → List TermList → Seen → List Found
lines_at content files region lists seen = lines_recorded content region lists seen.paths (record_at files seen.ino)

abbrev pub hits_at : Records → Region → List TermList → Seen → ℕ
hits_at files region lists seen = hits_recorded region lists (record_at files seen.ino)

abbrev pub text_at : Records → Seen → List ReadRange
text_at files seen = text_recorded (record_at files seen.ino)

-- the first ones of these texts
abbrev pub AreFirstOf : List ReadRange → List ReadRange → Type 0
AreFirstOf texts read = (left : List ReadRange) × (read ++ left ≡ texts)

-- ---- the files that are looked through

abbrev pub is_at_place : ℕ → RankedUnit → Bool
is_at_place place unit = unit.place == place

-- of the files, the first of them at that place of a view, those that have one of the units
abbrev pub with_units : List RankedUnit → ℕ → List Seen → List Seen
with_units units place [] = []
with_units units place (file ∷ files) =
    if list_any (is_at_place place) units then file ∷ with_units units (place + 1) files else with_units units (place + 1) files

-- the files at these places of a view
abbrev pub files_listed : List ℕ → List Seen → List Seen
files_listed places view = filter_map (slice_get view) places

abbrev pub files_at : Places → List Seen → List Seen
files_at All view = view
files_at (Listed places) view = files_listed places view

-- a file of the view is at each of them
abbrev pub AreWithin : Places → List Seen → Type 0
AreWithin All view = ⊤
AreWithin (Listed places) view = AllByRecursion (λ place. place < length view) places

-- a place comes after so many others, as far as the places tell without a view
abbrev pub IsTurn : Places → ℕ → Type 0
IsTurn All turn = ⊤
IsTurn (Listed places) turn = turn < length places

-- all files of the view, or, where there are few extents, those that have one
abbrev pub looked_through : Bool → Region → List TermList → Frames → List Seen
looked_through few region lists frames =
    if few then with_units (units_in region lists frames.by_address) 0 frames.seen else frames.seen

-- ---- troubles

-- a text that is read to show so many lines of these files is broken
abbrev pub IsBrokenShown : Records → Option Content → Region → List TermList → ℕ → List Seen → ℕ → Type 0
IsBrokenShown files holds region lists lines view blob =
    IsBlobOf (texts_shown (hits_at files region lists) (text_at files) lines view) blob × IsDamagedOf view files holds blob

-- Why a call that reads texts of the store answers a trouble: a store fault only where the count of faults rose, which else is as it was,
-- and a damaged blob only where that blob is broken and bytes of it were read in the call.
pub record IsCause (Broken : ℕ → Type 0) (before now : ℕ) (ranges ranges_now : Option (List ReadRange)) (trouble : Trouble) : Type 0 where
  pub kept : before ≤ now
  pub store_fault : trouble ≡ StoreFault → Rose before now
  pub calm : trouble ≢ StoreFault → now ≡ before
  pub damaged : (blob : ℕ) → trouble ≡ Damaged blob → Broken blob
  pub read : (blob : ℕ) → trouble ≡ Damaged blob → WasRead ranges ranges_now blob

-- Why a query does, which reads blocks too: the same of faults, and a damaged blob only where it is damaged so by what was read in the call.
pub record IsQueryCause (IsDamaged : List ReadRange → ℕ → Type 0) (before now : ℕ) (ranges ranges_now : Option (List ReadRange))
    (trouble : Trouble) : Type 0 where
  pub kept : before ≤ now
  pub store_fault : trouble ≡ StoreFault → Rose before now
  pub calm : trouble ≢ StoreFault → now ≡ before
  pub damaged : (blob : ℕ) → trouble ≡ Damaged blob → ReadsSuch (λ read. IsDamaged read blob) ranges ranges_now

-- ---- the state

-- The records are those of the state's texts, and the store holds them.
pub record KeepsTexts (files : Records) (holds : Option Content) (s : State) : Type 0 where
  pub records : files ≡ records_of s.texts s.layout.files
  pub texts : HoldsTexts holds s.texts s.layout.files

-- They are texts of these files. Where frames, postings and texts are a state's, they are those of the files of which a line is shown.
pub record AreTextsOf (frames : Frames) (contents : Contents) (files : Records) (holds : Option Content) (question : Question)
    (texts : List ReadRange) : Type 0 where
  pub are : AreTexts holds files question texts
  pub shown : (live : Ranges) (s : State) (uid : ℕ) → Indexes frames live s uid → TellsPostings contents holds s → KeepsTexts files holds s
      → texts ≡ texts_read s uid question
