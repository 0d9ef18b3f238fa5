-- As many of a user's frames have a word as files of her view do.
use Rattle.std.proofs.Common.{◌≡◌, ℕ, zero, suc, ◌+◌, ◌-◌, ◌<◌, ◌≤◌, ◌==◌, Bool, true, cond, List, [], ◌∷◌, length, map, refl, sym, ap}
use Rattle.std.proofs.Common.{ap₂, ◌∙◌, ⊎_elim, arith}
use Rattle.std.proofs.Math.Logic.{∥∥₁_elim}
use Rattle.std.specs.Cmp.{both_ways}
use Rattle.std.specs.Cmp.Lexicographic.{pointwise}
use Rattle.std.specs.Coded.{Coded-set, coded_ℕ}
use Rattle.std.specs.List.{AllByRecursion, list_any}
use Rattle.std.specs.Prelude.{count_by, nat_eq}
use Rattle.std.proofs.lemmas.Bool.{and_from, and_parts, eq-eqb, eqb-true, le-leb, leb-true, lt-ltb, ltb-true, or_cases, or_right}
use Rattle.std.proofs.lemmas.List.Sorted.{sum_by-IsPermutation}
use Rattle.wu_base.specs.declared.addresses.Range.{Range}
use Rattle.wu_base.specs.Ranges.{frames_with, is_in}
use Rattle.wu_base.proofs.Members.{any_has, has_any}
use Rattle.wu_frames.specs.declared.Frame.{Frame}
use Rattle.wu_frames.specs.declared.Frames.{Frames}
use Rattle.wu_gcl.specs.Extents.{is_token_at}
use Rattle.wu_layout.proofs.BlobLemmas.{count-cons}
use Rattle.wu_solve.specs.Addresses.{is_among}
use Rattle.wu_space.specs.Addresses.{Ranges}
use Rattle.wu_terms.specs.Terms.{has_word}
use Rattle.wu_view.specs.Views.{view_of as files_of}
use Rattle.wu_query.specs.Rankings.{tokens_at}
use Rattle.wu_query.specs.Searched.{Indexes}
use Rattle.wu_query.specs.States.{State}
use Rattle.wu_query.specs.Units.{found_in, range_at}
use Rattle.wu_query.specs.View.{Shown, view_of}
use Rattle.wu_query.proofs.FramesOfFiles.{IsFrameOf}
use Rattle.wu_query.proofs.FramesOfView.{are_of_view}
use Rattle.wu_query.proofs.Places.{all_places, sums_by_place}

-- the word is one of the tokens
abbrev pub has_token : List ℕ → List (List ℕ) → Bool
has_token word tokens = list_any (λ token. pointwise nat_eq token word) tokens

token_somewhere : (word : List ℕ) (tokens : List (List ℕ)) → has_token word tokens ≡ true
    → (i : ℕ) × ((i < length tokens) × (is_token_at tokens word i ≡ true))
token_somewhere word [] has = absurd (cc)
token_somewhere word (token ∷ tokens) has =
    ⊎_elim
    (λ (here : pointwise nat_eq token word ≡ true). (zero, (omega arith, here)))
    (λ (later : has_token word tokens ≡ true).
    let r = token_somewhere word tokens later in (suc r.0, (omega (arith, r.1.0), r.1.1)))
    (or_cases (pointwise nat_eq token word) (has_token word tokens) has)

somewhere_token : (word : List ℕ) (tokens : List (List ℕ)) (i : ℕ) → is_token_at tokens word i ≡ true → has_token word tokens ≡ true
somewhere_token word [] i here = absurd (cc)
somewhere_token word (token ∷ tokens) zero here = rw here refl
somewhere_token word (token ∷ tokens) (suc i) here =
    or_right (pointwise nat_eq token word) (has_token word tokens) (somewhere_token word tokens i here)

-- ---- a frame and its file

module _ (addresses : List ℕ → List ℕ) (tokens : List (List ℕ)) (frame : Range) (is : IsFrameOf addresses tokens frame)
    (word : List ℕ) where
  word_in_file : list_any (is_in frame) (addresses word) ≡ true → has_token word tokens ≡ true
  word_in_file some =
      let r = any_has (is_in frame) (addresses word) some in
      let both = and_parts _ _ r.1.1 in
      let from : frame.start ≤ r.0 = leb-true frame.start r.0 both.0 in
      let below : r.0 < frame.start + frame.len = ltb-true r.0 (frame.start + frame.len) both.1 in
      let i : ℕ = r.0 - frame.start in
      let within : i < length tokens = omega (arith, is.long, from, below) in
      let there : r.0 ≡ frame.start + i = omega (arith, from) in
      let among : is_among (addresses word) (frame.start + i) ≡ true =
      has_any (λ a. a == frame.start + i) r.0 (addresses word) r.1.0 (eq-eqb r.0 (frame.start + i) there) in
      somewhere_token word tokens i (sym (is.told word i within) ∙ among)

  word_in_frame : has_token word tokens ≡ true → list_any (is_in frame) (addresses word) ≡ true
  word_in_frame some =
      let t = token_somewhere word tokens some in
      let r = any_has (λ a. a == frame.start + t.0) (addresses word) (is.told word t.0 t.1.0 ∙ t.1.1) in
      let there : r.0 ≡ frame.start + t.0 = eqb-true r.0 (frame.start + t.0) r.1.1 in
      let within : t.0 < length tokens = t.1.0 in
      has_any (is_in frame) r.0 (addresses word) r.1.0
      (and_from _ _ (le-leb frame.start r.0 (omega (arith, there)))
      (lt-ltb r.0 (frame.start + frame.len) (omega (arith, there, is.long, within))))

  same_word : list_any (is_in frame) (addresses word) ≡ has_token word tokens
  same_word = both_ways (list_any (is_in frame) (addresses word)) (has_token word tokens) word_in_file word_in_frame

-- ---- how many there are

in_places : (addresses : List ℕ → List ℕ) (tokens : ℕ → List (List ℕ)) (frame : ℕ → Range) (word : List ℕ) (places : List ℕ)
    → AllByRecursion (λ place. IsFrameOf addresses (tokens place) (frame place)) places
    → frames_with (map frame places) (addresses word) ≡ count_by (λ place. has_token word (tokens place)) places
in_places addresses tokens frame word [] each = refl
in_places addresses tokens frame word (place ∷ places) each =
    count-cons (λ (f : Range). list_any (is_in f) (addresses word)) (frame place) (map frame places)
    ∙ ap₂ (λ (b : Bool) (n : ℕ). cond b 1 0 + n) (same_word addresses (tokens place) (frame place) each.0 word)
    (in_places addresses tokens frame word places each.1)
    ∙ sym (count-cons (λ p. has_token word (tokens p)) place places)

-- the texts of the files
abbrev pub texts_of : List Shown → List (List ℕ)
texts_of view = map (λ file. file.text) view

texts_counted : (word : List ℕ) (view : List Shown)
    → count_by (has_word word) (texts_of view) ≡ count_by (λ file. has_word word file.text) view
texts_counted word [] = refl
texts_counted word (file ∷ view) =
    count-cons (has_word word) file.text (texts_of view)
    ∙ ap (λ (n : ℕ). cond (has_word word file.text) 1 0 + n) (texts_counted word view)
    ∙ sym (count-cons (λ (f : Shown). has_word word f.text) file view)

module _ (frames : Frames) (live : Ranges) (s : State) (uid : ℕ) (is : Indexes frames live s uid) where
  first : (i : ℕ) → tokens_at (view_of s uid) (0 + i) ≡ tokens_at (view_of s uid) i
  first i = let e : 0 + i ≡ i = omega arith in ap (tokens_at (view_of s uid)) e

  pub word_counted : (word : List ℕ)
      → frames_with frames.ranges (found_in frames.ranges s word) ≡ count_by (has_word word) (texts_of (view_of s uid))
  word_counted word =
      ∥∥₁_elim is.hers.of_view (Coded-set coded_ℕ _ _)
      (λ moved.
      let v = are_of_view frames live s uid is moved in
      let view = view_of s uid in
      let order : List ℕ = map (λ (frame : Frame). frame.place) frames.by_address in
      ap (λ (rs : List Range). frames_with rs (found_in frames.ranges s word)) v.ranges
      ∙ in_places (found_in frames.ranges s) (tokens_at view) (range_at live (files_of s.tree uid)) word order v.framed.each
      ∙ sum_by-IsPermutation (λ p. cond (has_token word (tokens_at view p)) 1 0) (all_places view) order v.order
      ∙ sums_by_place (λ (tokens : List (List ℕ)). cond (has_token word tokens) 1 0) view 0 view first
      ∙ sym (texts_counted word view))
