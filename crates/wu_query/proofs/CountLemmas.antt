-- Counting the extents of an expression over a user's frames is counting them over the files of her view.
use Rattle.std.proofs.Common.{◌≡◌, ℕ, ◌+◌, cond, List, length, map, sym, ap, ap₂, ◌∙◌, arith}
use Rattle.std.proofs.Math.Logic.{∥∥₁_elim}
use Rattle.std.proofs.lemmas.List.Concat.{length-flat_map}
use Rattle.std.specs.Coded.{Coded-set, coded_ℕ}
use Rattle.std.specs.Prelude.{nat_lt, count_by}
use Rattle.std.specs.List.{flat_map}
use Rattle.wu_base.specs.declared.addresses.Range.{Range}
use Rattle.wu_base.specs.declared.addresses.TermList.{TermList}
use Rattle.wu_gcl.specs.Extents.{token_hits}
use Rattle.wu_gcl.specs.Regions.{Region}
use Rattle.wu_gcl.specs.Terms.{AreTerms}
use Rattle.wu_ask.specs.declared.Answered.TheVariants.{Count}
use Rattle.wu_ask.specs.Questions.{Counting}
use Rattle.wu_solve.specs.Solving.{frame_hits, frames_hits}
use Rattle.wu_space.specs.Addresses.{Ranges}
use Rattle.wu_frames.specs.declared.Frame.{Frame}
use Rattle.wu_frames.specs.declared.Frames.{Frames}
use Rattle.wu_view.specs.Views.{view_of as files_of}
use Rattle.wu_query.specs.Answer.{answer}
use Rattle.wu_query.specs.Hits.{hits_in, has_hit}
use Rattle.wu_query.specs.Rankings.{tokens_at}
use Rattle.wu_query.specs.States.{State}
use Rattle.wu_query.specs.Searched.{Indexes}
use Rattle.wu_query.specs.Units.{found_in, list_at, range_at}
use Rattle.wu_query.specs.View.{view_of}
use Rattle.wu_query.proofs.FramesOfFiles.{IsCounted, frames_counted}
use Rattle.wu_query.proofs.FramesOfView.{AreOfView, are_of_view}
use Rattle.wu_query.proofs.Places.{all_places, sums_by_place}

module _ (frames : Frames) (live : Ranges) (s : State) (uid : ℕ) (is : Indexes frames live s uid)
    (region : Region) (terms : List (List ℕ)) (are : AreTerms region terms) where
  counted_by_place : AreOfView frames live s uid
      → IsCounted region (map (list_at (found_in frames.ranges s)) terms)
      (map (range_at live (files_of s.tree uid)) (map (λ frame. frame.place) frames.by_address))
      (λ place. token_hits region (tokens_at (view_of s uid) place)) (all_places (view_of s uid))
  counted_by_place v =
      frames_counted region (found_in frames.ranges s) terms (tokens_at (view_of s uid)) (range_at live (files_of s.tree uid))
      (all_places (view_of s uid)) (map (λ (frame : Frame). frame.place) frames.by_address) are.all v.framed v.order

  first : (i : ℕ) → tokens_at (view_of s uid) (0 + i) ≡ tokens_at (view_of s uid) i
  first i = let e : 0 + i ≡ i = omega arith in ap (tokens_at (view_of s uid)) e

  -- as many extents
  pub hits_counted : length (frames_hits region (map (list_at (found_in frames.ranges s)) terms) frames.ranges)
      ≡ length (flat_map (hits_in region) (view_of s uid))
  unfolding hits_in
  hits_counted =
      ∥∥₁_elim is.hers.of_view (Coded-set coded_ℕ _ _)
      (λ moved.
      let v = are_of_view frames live s uid is moved in
      let view = view_of s uid in
      let lists = map (list_at (found_in frames.ranges s)) terms in
      ap (λ (rs : List Range). length (frames_hits region lists rs)) v.ranges
      ∙ (counted_by_place v).hits
      ∙ length-flat_map (λ (place : ℕ). token_hits region (tokens_at view place)) (all_places view)
      ∙ sums_by_place (λ (tokens : List (List ℕ)). length (token_hits region tokens)) view 0 view first
      ∙ sym (length-flat_map (hits_in region) view))

  -- in as many files
  pub files_counted : count_by (λ frame. nat_lt 0 (length (frame_hits region (map (list_at (found_in frames.ranges s)) terms) frame)))
      frames.ranges
      ≡ count_by (has_hit region) (view_of s uid)
  unfolding hits_in
  files_counted =
      ∥∥₁_elim is.hers.of_view (Coded-set coded_ℕ _ _)
      (λ moved.
      let v = are_of_view frames live s uid is moved in
      let view = view_of s uid in
      let lists = map (list_at (found_in frames.ranges s)) terms in
      ap (λ (rs : List Range). count_by (λ frame. nat_lt 0 (length (frame_hits region lists frame))) rs) v.ranges
      ∙ (counted_by_place v).files
      ∙ sums_by_place (λ (tokens : List (List ℕ)). cond (nat_lt 0 (length (token_hits region tokens))) 1 0) view 0 view first)

  -- the counts over the user's frames are the answer
  pub counted : (lists : List TermList) (hits found : ℕ) → lists ≡ map (list_at (found_in frames.ranges s)) terms
      → hits ≡ length (frames_hits region lists frames.ranges)
      → found ≡ count_by (λ frame. nat_lt 0 (length (frame_hits region lists frame))) frames.ranges
      → Count hits found ≡ answer (view_of s uid) (Counting region)
  unfolding answer
  counted lists hits found lists_are hits_is found_is =
      ap₂ Count
      (hits_is ∙ ap (λ (ls : List TermList). length (frames_hits region ls frames.ranges)) lists_are ∙ hits_counted)
      (found_is
      ∙ ap (λ (ls : List TermList). count_by (λ frame. nat_lt 0 (length (frame_hits region ls frame))) frames.ranges) lists_are
      ∙ files_counted)
