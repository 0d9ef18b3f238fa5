-- The words that a user's frames have, found one after the other.
use Rattle.std.proofs.Common.{◌≡◌, ◌≢◌, ℕ, ◌+◌, ◌<◌, cond, List, [], ◌∷◌, ◌++◌, length, map, filter, take, get_or, ap, ap₂, sym}
use Rattle.std.proofs.Common.{◌∙◌, append-nil, arith}
use Rattle.std.specs.Prelude.{nat_lt}
use Rattle.std.proofs.lemmas.Bool.{lt-ltb}
use Rattle.std.proofs.lemmas.List.{take_more, map-append}
use Rattle.std.proofs.lemmas.List.Elements.{filter-append}
use Rattle.wu_base.specs.declared.addresses.Range.{Range}
use Rattle.wu_base.specs.Ranges.{frames_with}
use Rattle.wu_lists.specs.Tallying.{tally_of}
use Rattle.wu_lists.specs.declared.tallies.Tally.{Tally}
use Rattle.wu_terms.specs.declared.listing.TermFiles.{TermFiles}
use Rattle.wu_query.specs.States.{State}
use Rattle.wu_query.specs.TermLines.{frames_of_word, words_found}
use Rattle.wu_query.specs.Units.{found_in}

module _ (ranges : List Range) (s : State) where
  words_joined : (xs ys : List (List ℕ)) → words_found ranges s (xs ++ ys) ≡ words_found ranges s xs ++ words_found ranges s ys
  words_joined xs ys =
      ap (filter (λ (line : TermFiles). nat_lt 0 line.files)) (map-append (frames_of_word ranges s) xs ys)
      ∙ filter-append (λ (line : TermFiles). nat_lt 0 line.files) (map (frames_of_word ranges s) xs) (map (frames_of_word ranges s) ys)

  -- one more word
  pub words_next : (words : List (List ℕ)) (i : ℕ) (word : List ℕ) → i < length words → word ≡ get_or words i word
      → {found now : List TermFiles} → found ≡ words_found ranges s (take i words) → now ≡ found ++ words_found ranges s (word ∷ [])
      → now ≡ words_found ranges s (take (i + 1) words)
  words_next words i word within is before put =
      put ∙ ap (λ (lines : List TermFiles). lines ++ words_found ranges s (word ∷ [])) before
      ∙ sym (words_joined (take i words) (word ∷ []))
      ∙ ap (words_found ranges s)
      (sym (take_more words i word within ∙ ap (λ (w : List ℕ). take i words ++ w ∷ []) (sym is)))

  -- ---- a word alone, by the tally of its addresses

  module _ (word : List ℕ) (items : List TermFiles) (tally : Tally) (told : tally ≡ tally_of ranges (found_in ranges s word)) where
    files_told : tally.frames ≡ frames_with ranges (found_in ranges s word)
    files_told = ap (λ (t : Tally). t.frames) told

    pub word_not_found : tally.frames ≡ 0 → items ≡ items ++ words_found ranges s (word ∷ [])
    word_not_found none =
        sym (ap (λ (lines : List TermFiles). items ++ lines)
        (ap (λ (n : ℕ). cond (nat_lt 0 n) (record { word = word; files = n } ∷ []) []) (sym files_told ∙ none)) ∙ append-nil items)

    pub word_found : tally.frames ≢ 0 → {copy : List ℕ} → copy ≡ word → {now : List TermFiles}
        → now ≡ items ++ record { word = copy; files = tally.frames } ∷ [] → now ≡ items ++ words_found ranges s (word ∷ [])
    word_found some copied put =
        let positive : 0 < frames_with ranges (found_in ranges s word) = omega (arith, files_told, some) in
        put
        ∙ ap₂ (λ (w : List ℕ) (n : ℕ). items ++ record { word = w; files = n } ∷ []) copied files_told
        ∙ ap (λ b. items ++ cond b (frames_of_word ranges s word ∷ []) [])
        (sym (lt-ltb 0 (frames_with ranges (found_in ranges s word)) positive))
