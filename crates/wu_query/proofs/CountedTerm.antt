-- Counting a term alone: each address that it has in a user's frames is an extent.
use Rattle.std.proofs.Common.{◌≡◌, ℕ, true, List, [], ◌∷◌, length, map, refl, ap, sym, ◌∙◌, subst, arith}
use Rattle.std.specs.Prelude.{Contains, count_by, nat_lt}
use Rattle.std.specs.Cmp.Lexicographic.{slice_cmp}
use Rattle.std.specs.List.Sorted.{IsStrictlySortedBy}
use Rattle.std.specs.Ordering.{nat_cmp}
use Rattle.std.proofs.lemmas.List.Elements.{filter_passes, recursion_from_All}
use Rattle.std.proofs.lemmas.List.Sums.{length-filter}
use Rattle.wu_base.specs.Ranges.{frames_with}
use Rattle.wu_base.specs.declared.addresses.TermList.{TermList}
use Rattle.wu_layout.specs.Layouts.{postings_of}
use Rattle.wu_layout.specs.Postings.{addresses_of, is_live}
use Rattle.wu_lists.specs.Tallying.{tally_of}
use Rattle.wu_lists.specs.declared.tallies.Tally.{Tally}
use Rattle.wu_gcl.specs.Regions.{Region, Phrase}
use Rattle.wu_gcl.specs.Terms.{AreTerms}
use Rattle.wu_ask.specs.declared.Answered.TheVariants.{Count}
use Rattle.wu_ask.specs.Questions.{Counting}
use Rattle.wu_solve.specs.Addresses.{AreAddressesOf}
use Rattle.wu_solve.specs.Frames.{has_one_of}
use Rattle.wu_solve.specs.Solving.{frame_hits, frames_hits}
use Rattle.wu_solve.proofs.OneTerm.{all_lie, files_alike, term_files, term_hits}
use Rattle.wu_solve.proofs.SameRegions.{alike_everywhere}
use Rattle.wu_space.specs.Addresses.{Ranges}
use Rattle.wu_frames.specs.declared.Frames.{Frames}
use Rattle.wu_query.specs.Answer.{answer}
use Rattle.wu_query.specs.Asked.{IsTermAlone}
use Rattle.wu_query.specs.Searched.{Indexes}
use Rattle.wu_query.specs.States.{State}
use Rattle.wu_query.specs.Units.{CanBeSearched, found_in, list_at}
use Rattle.wu_query.specs.View.{view_of}
use Rattle.wu_query.proofs.CountLemmas.{counted}
use Rattle.wu_query.proofs.FramesOfFiles.{lists_have}
use Rattle.wu_query.proofs.FramesOfView.{found_ascend}

module _ (region : Region) (term : List ℕ) (alone : IsTermAlone region term) where
  sorted_alone : IsStrictlySortedBy (slice_cmp nat_cmp) (term ∷ [])
  unfolding IsStrictlySortedBy
  sorted_alone = (tt, tt)

  are_terms : AreTerms region (term ∷ [])
  are_terms = record {
    ascending = sorted_alone;
    none_else = λ other has. subst (λ (terms : List (List ℕ)). Contains terms other) (sym alone.named) has;
    all = λ other has. subst (λ (terms : List (List ℕ)). Contains terms other) alone.named has;
  }

  module _ (frames : Frames) (can : CanBeSearched frames) (live : Ranges) (s : State) (uid : ℕ) (is : Indexes frames live s uid) where
    abbrev found : List ℕ
    found = found_in frames.ranges s term

    abbrev lists : List TermList
    lists = map (list_at (found_in frames.ranges s)) (term ∷ [])

    are_addresses : AreAddressesOf lists term found
    are_addresses = record {
      ascending = found_ascend live s is.index frames.ranges term;
      same = λ address. sym (lists_have (found_in frames.ranges s) term (term ∷ []) address (0, omega arith, refl));
    }

    hits_told : length found ≡ length (frames_hits region lists frames.ranges)
    hits_told =
        let all_live = recursion_from_All (λ (address : ℕ). is_live frames.ranges address ≡ true) found
        (filter_passes (is_live frames.ranges) (addresses_of term (postings_of s.layout.parts s.layout.memory))) in
        sym (all_lie frames.ranges found all_live)
        ∙ term_hits lists frames.ranges can.apart term found are_addresses
        ∙ ap length (alike_everywhere (Phrase (term ∷ [])) region alone.same lists frames.ranges)

    files_told : frames_with frames.ranges found ≡ count_by (λ frame. nat_lt 0 (length (frame_hits region lists frame))) frames.ranges
    files_told =
        sym (length-filter (has_one_of found) frames.ranges) ∙ term_files lists term found are_addresses frames.ranges
        ∙ files_alike (Phrase (term ∷ [])) region alone.same lists frames.ranges

    -- the tally of its addresses is the answer
    pub tally_counted : (tally : Tally) → tally ≡ tally_of frames.ranges found
        → Count tally.hits tally.frames ≡ answer (view_of s uid) (Counting region)
    tally_counted tally told =
        counted frames live s uid is region (term ∷ []) are_terms lists tally.hits tally.frames refl
        (ap (λ (t : Tally). t.hits) told ∙ hits_told) (ap (λ (t : Tally). t.frames) told ∙ files_told)
