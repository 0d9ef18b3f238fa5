-- The first lines of files, and the texts that are read for them, file by file.
use Rattle.std.proofs.Common.{◌≡◌, ℕ, zero, suc, ◌+◌, ◌-◌, ◌<◌, cond, List, [], ◌∷◌, ◌++◌, length, take, drop, min, get_or, refl, sym, ap}
use Rattle.std.proofs.Common.{ap₂, ◌∙◌, ◌⊎◌, inl, inr, arith, append_assoc, length-append}
use Rattle.std.specs.Prelude.{Option, Some, None, IfSome, nat_lt, option_map}
use Rattle.std.specs.List.{flat_map}
use Rattle.std.proofs.lemmas.List.{length-take, drop_more, take-map}
use Rattle.wu_outside.specs.Content.{Content}
use Rattle.wu_outside.specs.declared.ranges.ReadRange.{ReadRange}
use Rattle.wu_lists.proofs.Asking.{ranges-none}
use Rattle.wu_ask.specs.declared.Found.{Found}
use Rattle.wu_ask.specs.Questions.{Question, Counting, Finding, Ranking, ListingPaths, ListingTerms, Exporting, Weighing}
use Rattle.wu_base.specs.declared.addresses.Extent.{Extent}
use Rattle.wu_base.specs.declared.addresses.TermList.{TermList}
use Rattle.wu_gcl.specs.Regions.{Region}
use Rattle.wu_layout.proofs.EntryLemmas.{IfSome-map2}
use Rattle.wu_image.specs.declared.records.FileRec.{FileRec}
use Rattle.wu_image.specs.Images.{text_held}
use Rattle.wu_view.specs.declared.Seen.{Seen}
use Rattle.wu_view.specs.Views.{view_of as files_of}
use Rattle.wu_query.specs.Answer.{found_line}
use Rattle.wu_query.specs.Finding.{extents_of, lines_at, lines_of_record, lines_recorded}
use Rattle.wu_query.specs.Records.{Records, record_at}
use Rattle.wu_query.specs.Hits.{hits_in}
use Rattle.wu_query.specs.Reads.{ShowsNoText, text_of_file, texts_read, texts_shown}
use Rattle.wu_query.specs.States.{State}
use Rattle.wu_query.specs.View.{shown_of}

none_of : (n : ℕ) → take {A = Found} n [] ≡ []
none_of zero = refl
none_of (suc n) = refl

first_of_both : (n : ℕ) (xs ys : List Found) → take n (xs ++ ys) ≡ take n xs ++ take (n - length xs) ys
first_of_both n [] ys =
    let e : n - 0 ≡ n = omega arith in sym (ap₂ (λ (zs : List Found) (m : ℕ). zs ++ take m ys) (none_of n) e)
first_of_both zero (x ∷ xs) ys = let e : 0 - length (x ∷ xs) ≡ 0 = omega arith in sym (ap (λ (m : ℕ). take m ys) e)
first_of_both (suc n) (x ∷ xs) ys =
    let e : suc n - suc (length xs) ≡ n - length xs = omega arith in
    ap (λ (zs : List Found). x ∷ zs) (first_of_both n xs ys)
    ∙ sym (ap (λ (m : ℕ). x ∷ (take n xs ++ take m ys)) e)

-- the file of this place comes before those that are left
pub at_place : (view : List Seen) (i : ℕ) (file : Seen) → i < length view → file ≡ get_or view i file
    → drop i view ≡ file ∷ drop (i + 1) view
at_place view i file within is = drop_more view i file within ∙ ap (λ (f : Seen). f ∷ drop (i + 1) view) (sym is)

module _ (k i : ℕ) (view : List Seen) (file : Seen) (within : i < length view) (is : file ≡ get_or view i file)
    (before after : List Found) where
  module _ (lines : Seen → List Found) where
    -- the lines so far, with the first of those to come, stay the same
    pub lines_on : after ≡ before ++ take (k - length before) (lines file)
        → after ++ take (k - length after) (flat_map lines (drop (i + 1) view))
        ≡ before ++ take (k - length before) (flat_map lines (drop i view))
    lines_on put =
        let left = k - length before in
        let count : length after ≡ length before + min left (length (lines file)) =
        ap length put ∙ length-append before (take left (lines file)) ∙ ap (λ (n : ℕ). length before + n) (length-take left (lines file)) in
        let fewer : k - length after ≡ left - length (lines file) = omega (arith, count) in
        let rest = flat_map lines (drop (i + 1) view) in
        ap₂ (λ (xs : List Found) (n : ℕ). xs ++ take n rest) put fewer
        ∙ append_assoc before (take left (lines file)) (take (left - length (lines file)) rest)
        ∙ ap (λ (xs : List Found). before ++ xs)
        (sym (first_of_both left (lines file) rest)
        ∙ ap (λ (files : List Seen). take left (flat_map lines files)) (sym (at_place view i file within is)))

  module _ (hits : Seen → ℕ) (text : Seen → List ReadRange) where
    -- so do the texts read so far with those to come
    pub texts_on : (old now : Option (List ReadRange)) → length after ≡ length before + min (k - length before) (hits file)
        → now ≡ option_map (λ ranges. ranges ++ cond (nat_lt 0 (min (k - length before) (hits file))) (text file) []) old
        → option_map (λ ranges. ranges ++ texts_shown hits text (k - length after) (drop (i + 1) view)) now
        ≡ option_map (λ ranges. ranges ++ texts_shown hits text (k - length before) (drop i view)) old
    texts_on None now count is_read =
        ap (option_map (λ (ranges : List ReadRange). ranges ++ texts_shown hits text (k - length after) (drop (i + 1) view))) is_read
    texts_on (Some ranges) now count is_read =
        let left = k - length before in
        let fewer : k - length after ≡ left - hits file = omega (arith, count) in
        let here = cond (nat_lt 0 (min left (hits file))) (text file) [] in
        ap (option_map (λ (rs : List ReadRange). rs ++ texts_shown hits text (k - length after) (drop (i + 1) view))) is_read
        ∙ ap (λ (n : ℕ). Some ((ranges ++ here) ++ texts_shown hits text n (drop (i + 1) view))) fewer
        ∙ ap (λ (rs : List ReadRange). Some rs) (append_assoc ranges here (texts_shown hits text (left - hits file) (drop (i + 1) view)))
        ∙ ap (λ (files : List Seen). Some (ranges ++ texts_shown hits text left files)) (sym (at_place view i file within is))

  -- what is read of the store is as it was, and so many lines there were
  pub lines_kept : (lines : Content → Seen → List Found) (all : Content → List Found) {count : ℕ} {holds here : Option Content}
      → count ≡ length before → here ≡ holds → IfSome here (λ content. after ≡ before ++ take (k - count) (lines content file))
      → IfSome holds (λ content. before ++ take (k - length before) (flat_map (lines content) (drop i view)) ≡ all content)
      → IfSome holds (λ content. after ++ take (k - length after) (flat_map (lines content) (drop (i + 1) view)) ≡ all content)
  lines_kept lines all {holds = holds} counted same put kept =
      IfSome-map2 _ _ _ holds (λ content p q. lines_on (lines content) (rw counted at p) ∙ q) (rw same at put) kept

  pub texts_kept : (hits : Seen → ℕ) (text : Seen → List ReadRange) (old : Option (List ReadRange)) {now all : Option (List ReadRange)}
      {count : ℕ} → count ≡ length before → length after ≡ length before + min (k - count) (hits file)
      → now ≡ option_map (λ ranges. ranges ++ cond (nat_lt 0 (min (k - count) (hits file))) (text file) []) old
      → option_map (λ ranges. ranges ++ texts_shown hits text (k - length before) (drop i view)) old ≡ all
      → option_map (λ ranges. ranges ++ texts_shown hits text (k - length after) (drop (i + 1) view)) now ≡ all
  texts_kept hits text old {now} counted more is_read kept =
      texts_on hits text old now (rw counted at more) (rw counted at is_read) ∙ kept

-- ---- one file

-- the first lines of a file are those of its first extents
pub lines_of_file : (content : Content) (files : Records) (region : Region) (lists : List TermList) (seen : Seen)
    (file : FileRec) (left : ℕ)
    (paths : List (List ℕ)) (extents : List Extent) → record_at files seen.ino ≡ Some file → paths ≡ seen.paths
    → extents ≡ take left (extents_of region lists file)
    → lines_of_record content paths extents file ≡ take left (lines_at content files region lists seen)
lines_of_file content files region lists seen file left paths extents there paths_are extents_are =
    ap₂ (λ (ps : List (List ℕ)) (xs : List Extent). lines_of_record content ps xs file) paths_are extents_are
    ∙ sym (take-map (found_line (record { paths = seen.paths; text = text_held content file })) left (extents_of region lists file))
    ∙ sym (ap (λ (o : Option FileRec). take left (lines_recorded content region lists seen.paths o)) there)

-- ---- at the end

no_texts : (hits : Seen → ℕ) (text : Seen → List ReadRange) (files : List Seen) → texts_shown hits text 0 files ≡ []
no_texts hits text [] = refl
no_texts hits text (file ∷ files) =
    let none : min 0 (hits file) ≡ 0 = omega arith in
    let still : 0 - hits file ≡ 0 = omega arith in
    ap₂ (λ (m n : ℕ). cond (nat_lt 0 m) (text file) [] ++ texts_shown hits text n files) none still ∙ no_texts hits text files

-- a question that has no text shown reads none
pub no_text_read : (question : Question) → ShowsNoText question → (s : State) (uid : ℕ) → texts_read s uid question ≡ []
unfolding texts_read
no_text_read (Counting region) none s uid = refl
no_text_read (Finding k region) none s uid =
    let hits : Seen → ℕ = λ file. length (hits_in region (shown_of s.texts file)) in
    ap (λ (lines : ℕ). texts_shown hits (text_of_file s) lines (files_of s.tree uid)) none
    ∙ no_texts hits (text_of_file s) (files_of s.tree uid)
no_text_read (Ranking k unit words) none s uid = refl
no_text_read ListingPaths none s uid = refl
no_text_read (ListingTerms k prefix top) none s uid = refl
no_text_read Exporting none s uid = absurd none
no_text_read (Weighing k unit words) none s uid = refl

-- where there are as many lines as are asked for, or no file is left
abbrev pub IsEnough : ℕ → List Found → List Seen → Type 0
IsEnough k shown files = (k - length shown ≡ 0) ⊎ (files ≡ [])

pub none_to_show : (k : ℕ) (shown : List Found) (files : List Seen) (hits : Seen → ℕ) (text : Seen → List ReadRange)
    → IsEnough k shown files → texts_shown hits text (k - length shown) files ≡ []
none_to_show k shown files hits text (inl full) = ap (λ (n : ℕ). texts_shown hits text n files) full ∙ no_texts hits text files
none_to_show k shown files hits text (inr last) = ap (texts_shown hits text (k - length shown)) last

pub texts_done : (k : ℕ) (shown : List Found) (files : List Seen) (hits : Seen → ℕ) (text : Seen → List ReadRange)
    (now all : Option (List ReadRange)) → IsEnough k shown files
    → option_map (λ ranges. ranges ++ texts_shown hits text (k - length shown) files) now ≡ all → now ≡ all
texts_done k shown files hits text now all enough is =
    ranges-none now
    ∙ ap (λ (texts : List ReadRange). option_map (λ (ranges : List ReadRange). ranges ++ texts) now)
    (sym (none_to_show k shown files hits text enough)) ∙ is
