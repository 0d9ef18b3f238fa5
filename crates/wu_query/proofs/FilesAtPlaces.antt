-- The files at places of a view, and what is recorded of them.
use Rattle.std.proofs.Common.{◌≡◌, ℕ, zero, suc, ◌+◌, ◌<◌, Bool, true, false, cond, List, [], ◌∷◌, ◌++◌, length, take, drop, get_or, min}
use Rattle.std.proofs.Common.{refl, sym, ap, ap₂, ◌∙◌, append_assoc, append-nil, arith}
use Rattle.std.specs.Prelude.{Option, None, Some, IfSome, nat_lt, option_and_then, option_map, slice_get, unwrap_or, map}
use Rattle.std.specs.List.{AllByRecursion, cons_option, flat_map, list_any}
use Rattle.std.proofs.lemmas.List.{take_more}
use Rattle.std.proofs.lemmas.List.Concat.{flat_map-append}
use Rattle.std.proofs.lemmas.List.Elements.{filter_map-append}
use Rattle.std.proofs.lemmas.Option.{get_or_from_slice_get, none-some}
use Rattle.wu_base.specs.declared.addresses.Extent.{Extent}
use Rattle.wu_base.specs.declared.addresses.TermList.{TermList}
use Rattle.wu_gcl.specs.Regions.{Region}
use Rattle.wu_base.proofs.EachLemmas.{each-push}
use Rattle.wu_ask.specs.declared.Found.{Found}
use Rattle.wu_image.specs.declared.records.FileRec.{FileRec}
use Rattle.wu_image.specs.Images.{text_held}
use Rattle.wu_outside.specs.Content.{Content}
use Rattle.wu_rank.specs.declared.results.Unit.{Unit as RankedUnit}
use Rattle.wu_space.specs.Addresses.{Ranges, range_of}
use Rattle.wu_view.specs.declared.Seen.{Seen}
use Rattle.wu_view.specs.Views.{first_of, least_path}
use Rattle.wu_query.specs.Answer.{found_line}
use Rattle.wu_query.specs.Finding.{CanBeRead, files_listed, hits_at, hits_recorded, is_at_place, lines_at, lines_of_record}
use Rattle.wu_query.specs.Finding.{lines_recorded, text_at, with_units}
use Rattle.wu_query.specs.Records.{Records, record_at}
use Rattle.wu_query.specs.Units.{no_range, range_at}
use Rattle.wu_query.proofs.FirstLines.{at_place}
use Rattle.wu_query.proofs.ReadCauses.{recorded}

-- ---- the file at a place

-- there is one below their number
pub file_there : (view : List Seen) (place : ℕ) → place < length view → (file : Seen) × (slice_get view place ≡ Some file)
file_there [] place within = absurd (omega (arith, within))
file_there (file ∷ view) zero within = (file, refl)
file_there (file ∷ view) (suc place) within = file_there view place (omega (arith, within))

pub file_is : (view : List Seen) (place : ℕ) (file : Seen) → slice_get view place ≡ Some file → file ≡ get_or view place file
file_is view place file there = sym (get_or_from_slice_get view place file file there)

-- its range, from its number
pub range_by_number : (live : Ranges) (view : List Seen) (place : ℕ) (number : Option ℕ)
    → number ≡ option_map (λ (seen : Seen). seen.ino) (slice_get view place)
    → range_at live view place ≡ unwrap_or (option_and_then (range_of live) number) no_range
range_by_number live view place number is =
    by (slice_get view place) ∙ sym (ap (λ (o : Option ℕ). unwrap_or (option_and_then (range_of live) o) no_range) is) where
      by : (o : Option Seen) → unwrap_or (option_and_then (λ (file : Seen). range_of live file.ino) o) no_range
          ≡ unwrap_or (option_and_then (range_of live) (option_map (λ (seen : Seen). seen.ino) o)) no_range
      by None = refl
      by (Some file) = refl

-- ---- its paths

first_is : (paths : List (List ℕ)) → first_of paths ≡ unwrap_or (slice_get paths 0) []
first_is [] = refl
first_is (path ∷ paths) = refl

-- with the paths of one file more
pub paths_more : (view : List Seen) (place : ℕ) (before now : List (List ℕ)) → place < length view
    → ((seen : Seen) → slice_get view place ≡ Some seen → now ≡ before ++ seen.paths)
    → before ≡ flat_map (λ (seen : Seen). seen.paths) (take place view)
    → now ≡ flat_map (λ (seen : Seen). seen.paths) (take (place + 1) view)
paths_more view place before now within put are =
    let found = file_there view place within in
    let paths : Seen → List (List ℕ) = λ seen. seen.paths in
    put found.0 found.1 ∙ ap (λ (ps : List (List ℕ)). ps ++ found.0.paths) are
    ∙ sym (ap (flat_map paths) (take_more view place found.0 within
    ∙ ap (λ (file : Seen). take place view ++ file ∷ []) (sym (file_is view place found.0 found.1)))
    ∙ flat_map-append paths (take place view) (found.0 ∷ [])
    ∙ ap (λ (ps : List (List ℕ)). flat_map paths (take place view) ++ ps) (append-nil found.0.paths))

-- extents of a text that has its least path are shown with its paths
pub lines_by_path : (content : Content) (view : List Seen) (place : ℕ) (seen : Seen) (file : FileRec) (extents : List Extent)
    (path text : List ℕ) → slice_get view place ≡ Some seen
    → path ≡ unwrap_or (option_map least_path (slice_get view place)) [] → text ≡ text_held content file
    → map (found_line (record { paths = path ∷ []; text = text })) extents ≡ lines_of_record content seen.paths extents file
lines_by_path content view place seen file extents path text there path_is text_is =
    ap₂ (λ (p t : List ℕ). map (found_line (record { paths = p ∷ []; text = t })) extents)
    (path_is ∙ ap (λ (o : Option Seen). unwrap_or (option_map least_path o) []) there ∙ first_is seen.paths) text_is

-- ---- what is recorded of it

abbrev record_of : Records → Option Seen → Option FileRec
record_of files found = option_and_then (λ (seen : Seen). record_at files seen.ino) found

-- a record that was found can be read
pub found_readable : (files : Records) (found : Option Seen) (file : FileRec) → Some file ≡ record_of files found
    → AllByRecursion CanBeRead files → CanBeRead (file.ino, file)
found_readable files None file is all = absurd (none-some file (sym is))
found_readable files (Some seen) file is all = recorded files seen.ino file (sym is) all

-- and is the file's
pub record_is : (files : Records) (found : Option Seen) (seen : Seen) (kept : Option FileRec) → found ≡ Some seen
    → kept ≡ record_of files found → record_at files seen.ino ≡ kept
record_is files found seen kept there is = sym (is ∙ ap (record_of files) there)

-- a file without a record shows nothing
module _ (files : Records) (region : Region) (lists : List TermList) (seen : Seen) (left : ℕ) (none : record_at files seen.ino ≡ None) where
  pub no_hits : hits_at files region lists seen ≡ 0
  no_hits = ap (hits_recorded region lists) none

  pub no_line : (holds : Option Content) (before : List Found)
      → IfSome holds (λ content. before ≡ before ++ take left (lines_at content files region lists seen))
  no_line None before = tt
  no_line (Some content) before =
      sym (ap (λ (lines : List Found). before ++ lines)
      (ap (λ (o : Option FileRec). take left (lines_recorded content region lists seen.paths o)) none ∙ first left)
      ∙ append-nil before) where
        first : (n : ℕ) → take {A = Found} n [] ≡ []
        first zero = refl
        first (suc n) = refl

  pub no_text : cond (nat_lt 0 (min left (hits_at files region lists seen))) (text_at files seen) [] ≡ []
  no_text =
      let least : min left (hits_at files region lists seen) ≡ 0 = omega (arith, no_hits) in
      ap (λ (n : ℕ). cond (nat_lt 0 n) (text_at files seen) []) least

-- ---- the files at places

module _ (view : List Seen) where
  first_listed : (place : ℕ) (places : List ℕ) (file : Seen) → slice_get view place ≡ Some file
      → files_listed (place ∷ places) view ≡ file ∷ files_listed places view
  first_listed place places file there = ap (λ (o : Option Seen). cons_option o (files_listed places view)) there

  pub listed_length : (places : List ℕ) → AllByRecursion (λ place. place < length view) places
      → length (files_listed places view) ≡ length places
  listed_length [] all = refl
  listed_length (place ∷ places) all =
      let found = file_there view place all.0 in
      ap length (first_listed place places found.0 found.1) ∙ ap suc (listed_length places all.1)

  pub listed_nth : (places : List ℕ) → AllByRecursion (λ place. place < length view) places → (turn : ℕ) → turn < length places
      → slice_get view (get_or places turn 0) ≡ slice_get (files_listed places view) turn
  listed_nth [] all turn within = absurd (omega (arith, within))
  listed_nth (place ∷ places) all zero within =
      let found = file_there view place all.0 in
      found.1 ∙ sym (ap (λ (files : List Seen). slice_get files 0) (first_listed place places found.0 found.1))
  listed_nth (place ∷ places) all (suc turn) within =
      let found = file_there view place all.0 in
      listed_nth places all.1 turn (omega (arith, within))
      ∙ sym (ap (λ (files : List Seen). slice_get files (suc turn)) (first_listed place places found.0 found.1))

  -- one more place, where its file is met
  module _ (units : List RankedUnit) (places : List ℕ) (place : ℕ) (within : place < length view) where
    more_listed : (met : Bool) → met ≡ list_any (is_at_place place) units
        → files_listed (places ++ cond met (place ∷ []) []) view ++ with_units units (place + 1) (drop (place + 1) view)
        ≡ files_listed places view ++ with_units units place (drop place view)
    more_listed met is =
        let found = file_there view place within in
        let later = with_units units (place + 1) (drop (place + 1) view) in
        let here : with_units units place (drop place view) ≡ cond met (found.0 ∷ later) later =
        ap (with_units units place) (at_place view place found.0 within (file_is view place found.0 found.1))
        ∙ sym (ap (λ (b : Bool). cond b (found.0 ∷ later) later) is) in
        by found.0 found.1 later met ∙ sym (ap (λ (files : List Seen). files_listed places view ++ files) here) where
          by : (file : Seen) → slice_get view place ≡ Some file → (later : List Seen) (b : Bool)
              → files_listed (places ++ cond b (place ∷ []) []) view ++ later
              ≡ files_listed places view ++ cond b (file ∷ later) later
          by file there later true =
              ap (λ (files : List Seen). files ++ later)
              (filter_map-append (slice_get view) places (place ∷ [])
              ∙ ap (λ (files : List Seen). files_listed places view ++ files) (first_listed place [] file there))
              ∙ append_assoc (files_listed places view) (file ∷ []) later
          by file there later false = ap (λ (ps : List ℕ). files_listed ps view ++ later) (append-nil places)

    pub met_more : {now : List ℕ} {met : Bool} → now ≡ places ++ cond met (place ∷ []) [] → met ≡ list_any (is_at_place place) units
        → files_listed places view ++ with_units units place (drop place view) ≡ with_units units 0 view
        → files_listed now view ++ with_units units (place + 1) (drop (place + 1) view) ≡ with_units units 0 view
    met_more {met = met} put is told =
        ap (λ (ps : List ℕ). files_listed ps view ++ with_units units (place + 1) (drop (place + 1) view)) put
        ∙ more_listed met is ∙ told

    pub within_more : (met : Bool) {now : List ℕ} → now ≡ places ++ cond met (place ∷ []) []
        → AllByRecursion (λ p. p < length view) places → AllByRecursion (λ p. p < length view) now
    within_more met put all = rw put (by met) where
      by : (b : Bool) → AllByRecursion (λ (p : ℕ). p < length view) (places ++ cond b (place ∷ []) [])
      by true = each-push (λ (p : ℕ). p < length view) places place all within
      by false = rw (append-nil places) all
