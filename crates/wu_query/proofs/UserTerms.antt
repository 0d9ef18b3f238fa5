-- The words that a user's frames have, of those that the index lists with a prefix, are the terms of the texts of her view.
use Rattle.std.proofs.Common.{◌≡◌, ℕ, ◌+◌, true, Bool, List, [], ◌∷◌, length, map, filter, take, refl, sym, ap, ap₂, ◌∙◌}
use Rattle.std.proofs.Common.{subst, Option, None, Some}
use Rattle.std.specs.Prelude.{is_some, nat_lt}
use Rattle.wu_base.specs.declared.addresses.Range.{Range}
use Rattle.wu_base.specs.Ranges.{is_in}
use Rattle.wu_base.proofs.Members.{Has, Has-from_Contains, Contains-from_Has, Has-map, all_has, filter_has, map_has}
use Rattle.wu_outside.specs.Content.{Content}
use Rattle.wu_layout.specs.Layouts.{postings_of}
use Rattle.wu_layout.specs.Postings.{Posting, cut, placed_from}
use Rattle.wu_layout.proofs.ListLemmas.{all_terms}
use Rattle.wu_ask.specs.Questions.{ListingTerms}
use Rattle.wu_ask.specs.declared.Answered.TheVariants.{Terms}
use Rattle.wu_ask.specs.declared.TermLine.{TermLine}
use Rattle.wu_frames.specs.declared.Frames.{Frames}
use Rattle.wu_parts.specs.Candidates.{terms_held}
use Rattle.wu_parts.specs.Contents.{Contents}
use Rattle.wu_space.specs.Addresses.{Ranges, range_of}
use Rattle.wu_terms.specs.Laws.{HaveTerms}
use Rattle.wu_terms.specs.Listings.{in_order}
use Rattle.wu_terms.specs.Terms.{counted, words_with}
use Rattle.wu_terms.specs.declared.listing.TermFiles.{TermFiles}
use Rattle.wu_terms.proofs.TextTerms.{gives_the_terms}
use Rattle.wu_token.specs.Tokens.{tokens_of}
use Rattle.wu_view.specs.declared.Seen.{Seen}
use Rattle.wu_view.specs.Views.{view_of as files_of}
use Rattle.wu_query.specs.Answer.{answer, term_line, terms_in}
use Rattle.wu_query.specs.Permitted.{terms_indexed}
use Rattle.wu_query.specs.Searched.{IsIndexOf, Indexes, TellsPostings}
use Rattle.wu_query.specs.States.{State, text_in}
use Rattle.wu_query.specs.TermLines.{frames_of_word, words_found}
use Rattle.wu_query.specs.View.{Shown, shown_of, view_of}
use Rattle.wu_query.proofs.FramesOfView.{indexed_at, view_has_ranges}
use Rattle.wu_query.proofs.HeldTerms.{indexed_held}
use Rattle.wu_query.proofs.WordsInFrames.{texts_of, word_counted}

-- ---- the index has postings of each token of a text

placed_terms : (start : ℕ) (terms : List (List ℕ)) → all_terms (placed_from start terms) ≡ terms
placed_terms start [] = refl
placed_terms start (term ∷ terms) = ap (λ (ts : List (List ℕ)). term ∷ ts) (placed_terms (start + 1) terms)

cut_terms : (range : Range) (term : List ℕ) (ps : List Posting) → Has term (all_terms (cut range ps)) → Has term (all_terms ps)
cut_terms range term ps has =
    let r = map_has (λ (p : Posting). p.term) term (cut range ps) has in
    let there = (filter_has (λ (p : Posting). is_in range p.address) r.0 ps r.1.0).0 in
    subst (λ (t : List ℕ). Has t (all_terms ps)) r.1.1 (Has-map (λ (p : Posting). p.term) r.0 ps there)

module _ (live : Ranges) (s : State) (is : IsIndexOf live s) where
  file_indexed : (ino : ℕ) (term : List ℕ) → is_some (range_of live ino) ≡ true → Has term (tokens_of (text_in s.texts ino))
      → Has term (terms_indexed s)
  file_indexed ino term ranged has =
      elim (range_of live ino) as (λ o. range_of live ino ≡ o → is_some o ≡ true → Has term (terms_indexed s)) [
        | None ↦ λ e none. absurd (cc)
        | Some range ↦ λ e some.
            cut_terms range term (postings_of s.layout.parts s.layout.memory)
            (subst (λ (ps : List Posting). Has term (all_terms ps)) (sym (indexed_at live s is ino range e).1)
            (subst (Has term) (sym (placed_terms range.start (tokens_of (text_in s.texts ino)))) has))
      ] refl ranged

  view_indexed : (uid : ℕ) (text term : List ℕ) → Has text (texts_of (view_of s uid)) → Has term (tokens_of text)
      → Has term (terms_indexed s)
  unfolding view_of
  view_indexed uid text term has token =
      let file = map_has (λ (f : Shown). f.text) text (map (shown_of s.texts) (files_of s.tree uid)) has in
      let seen = map_has (shown_of s.texts) file.0 (files_of s.tree uid) file.1.0 in
      let same : text_in s.texts seen.0.ino ≡ text = ap (λ (f : Shown). f.text) seen.1.1 ∙ file.1.1 in
      file_indexed seen.0.ino term
      (all_has (λ (f : Seen). is_some (range_of live f.ino) ≡ true) seen.0 (files_of s.tree uid) (view_has_ranges live s is uid) seen.1.0)
      (subst (λ (t : List ℕ). Has term (tokens_of t)) (sym same) token)

-- ---- the answer

module _ (frames : Frames) (live : Ranges) (s : State) (uid : ℕ) (is : Indexes frames live s uid) (contents : Contents)
    (holds : Option Content) (tells : TellsPostings contents holds s) where
  have_terms : HaveTerms (terms_held contents) (texts_of (view_of s uid))
  have_terms text term has token =
      Contains-from_Has term (terms_held contents)
      (indexed_held contents holds s tells term
      (view_indexed live s is.index uid text term (Has-from_Contains text (texts_of (view_of s uid)) has)
      (Has-from_Contains term (tokens_of text) token)))

  same_counts : frames_of_word frames.ranges s ≡ counted (texts_of (view_of s uid))
  same_counts = λ i. λ word. record { word = word; files = word_counted frames live s uid is word i }

  terms_told : (prefix : List ℕ) → words_found frames.ranges s (words_with prefix (terms_held contents)) ≡ terms_in (view_of s uid) prefix
  terms_told prefix =
      ap (λ (f : List ℕ → TermFiles). filter (λ (line : TermFiles). nat_lt 0 line.files) (map f (words_with prefix (terms_held contents))))
      same_counts
      ∙ gives_the_terms prefix (terms_held contents) (texts_of (view_of s uid)) have_terms

  -- the words that were found, listed and shown, are the answer
  pub terms_answered : (k : ℕ) (prefix : List ℕ) (top : Bool) {found shown : List TermFiles} {total : ℕ} {lines : List TermLine}
      → found ≡ words_found frames.ranges s (words_with prefix (terms_held contents)) → total ≡ length found
      → shown ≡ take k (in_order top found) → lines ≡ map term_line shown
      → Terms total top lines ≡ answer (view_of s uid) (ListingTerms k prefix top)
  unfolding answer
  terms_answered k prefix top found_is total_is shown_is lines_are =
      let told = found_is ∙ terms_told prefix in
      ap₂ (λ (n : ℕ) (ls : List TermLine). Terms n top ls) (total_is ∙ ap length told)
      (lines_are ∙ ap (map term_line) (shown_is ∙ ap (λ (ts : List TermFiles). take k (in_order top ts)) told))
