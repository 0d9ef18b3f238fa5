-- A ranking by addresses, over a user's frames, is the ranking of her view by what its files' texts hold.
use Rattle.std.proofs.Common.{◌≡◌, ℕ, List, [], ◌∷◌, length, take, map, refl, sym, ap, ap₂, ◌∙◌}
use Rattle.std.proofs.Math.Logic.{∥∥₁_elim}
use Rattle.std.proofs.lemmas.List.{length-map, take-map}
use Rattle.std.specs.Coded.{Coded, Coded-set, coded_ℕ, coded_list, coded×, code_by}
use Rattle.wu_base.specs.declared.addresses.TermList.{TermList}
use Rattle.wu_gcl.specs.Regions.{Region}
use Rattle.wu_ask.specs.declared.Answered.TheVariants.{Rank, Weighed}
use Rattle.wu_ask.specs.declared.RankLine.{RankLine}
use Rattle.wu_ask.specs.Questions.{Ranking, Weighing}
use Rattle.wu_rank.specs.declared.results.Unit.{Unit as RankedUnit}
use Rattle.wu_rank.specs.declared.results.Ranked.{Ranked}
use Rattle.wu_rank.specs.Scores.{count_at}
use Rattle.wu_rank.specs.Order.{listed}
use Rattle.wu_rank.specs.Pruning.{reaching}
use Rattle.wu_rank.proofs.Shifting.{shifted_ranked}
use Rattle.wu_space.specs.Addresses.{Ranges}
use Rattle.wu_view.specs.declared.Seen.{Seen}
use Rattle.wu_view.specs.Views.{view_of as files_of}
use Rattle.wu_frames.specs.declared.Frame.{Frame}
use Rattle.wu_frames.specs.declared.Frames.{Frames}
use Rattle.wu_query.specs.Answer.{answer, line_of}
use Rattle.wu_query.specs.Rankings.{frequency_in, ranking_of, tokens_at, units_of}
use Rattle.wu_query.specs.States.{State, Texts}
use Rattle.wu_query.specs.Searched.{Indexes}
use Rattle.wu_query.specs.Units.{AreUnitsIn, found_in, in_its_file, list_at, range_at, relative_to_file}
use Rattle.wu_query.specs.View.{Shown, shown_of, view_of}
use Rattle.wu_query.proofs.FramesOfView.{are_of_view}
use Rattle.wu_query.proofs.Places.{all_places, units_of-places}
use Rattle.wu_query.proofs.UnitsOfFrames.{frames_ranked, frames_weighed, shifted_back_one}

-- an equation of ranked units is a proposition
abbrev coded_ranked : Coded Ranked
coded_ranked =
    code_by ((ℕ × ℕ) × (ℕ × ℕ)) (coded× (coded× coded_ℕ coded_ℕ) (coded× coded_ℕ coded_ℕ))
    (λ r. ((r.score, r.unit.place), (r.unit.extent.start, r.unit.extent.end)))
    (λ p. record { score = p.0.0; unit = record { extent = record { start = p.1.0; end = p.1.1 }; place = p.0.1 } }) (λ _. refl)

lines_back : (view : List Shown) (start : ℕ → ℕ) (rs : List Ranked)
    → map (λ r. line_of view (relative_to_file start r)) (map (shifted_ranked start) rs) ≡ map (line_of view) rs
lines_back view start [] = refl
lines_back view start (r ∷ rs) =
    ap₂ (λ (x : Ranked) (lines : List RankLine). line_of view x ∷ lines) (shifted_back_one start r) (lines_back view start rs)

module _ (frames : Frames) (live : Ranges) (s : State) (uid : ℕ) (is : Indexes frames live s uid)
    (region : Region) (words : List (List ℕ)) (units : List RankedUnit) (are : AreUnitsIn region frames s units) (lists : List TermList)
    (of_words : lists ≡ map (list_at (found_in frames.ranges s)) words) where
  abbrev start_at : ℕ → ℕ
  start_at place = (range_at live (files_of s.tree uid) place).start

  -- the ranking of the units is that of the view, at addresses
  ranked_at : listed count_at units lists ≡ map (shifted_ranked start_at) (ranking_of (view_of s uid) region words)
  unfolding ranking_of frequency_in
  ranked_at =
      ∥∥₁_elim is.hers.of_view (Coded-set (coded_list coded_ranked) _ _)
      (λ moved.
      let v = are_of_view frames live s uid is moved in
      let view = view_of s uid in
      let found = found_in frames.ranges s in
      ap₂ (λ (us : List RankedUnit) (ls : List TermList). listed count_at us ls)
      (are.are ∙ v.units region (map (list_at found) are.terms)) of_words
      ∙ frames_ranked region found are.terms words (tokens_at view) (range_at live (files_of s.tree uid)) (all_places view)
      (map (λ (frame : Frame). frame.place) frames.by_address) are.all v.framed v.order
      ∙ ap (λ (us : List RankedUnit). map (shifted_ranked start_at) (listed (frequency_in view) us words))
      (sym (units_of-places region view)))

  lines_shown : (k : ℕ) (top : List Ranked) (shown : List RankLine) → top ≡ take k (listed count_at units lists)
      → shown ≡ map (λ ranked. line_of (view_of s uid) (in_its_file live (files_of s.tree uid) ranked)) top
      → shown ≡ map (line_of (view_of s uid)) (take k (ranking_of (view_of s uid) region words))
  lines_shown k top shown top_is shown_is =
      let view = view_of s uid in
      let ranking = ranking_of view region words in
      shown_is
      ∙ ap (map (λ (r : Ranked). line_of view (relative_to_file start_at r)))
      (top_is ∙ ap (take k) ranked_at ∙ take-map (shifted_ranked start_at) k ranking)
      ∙ lines_back view start_at (take k ranking)

  -- it is the answer
  pub ranked : (k number : ℕ) (top : List Ranked) (shown : List RankLine) (seen : List Seen) → seen ≡ frames.seen
      → number ≡ length (listed count_at units lists) → top ≡ take k (listed count_at units lists)
      → ((texts : Texts) → shown ≡ map (λ ranked. line_of (map (shown_of texts) seen) (in_its_file live seen ranked)) top)
      → Rank number shown ≡ answer (view_of s uid) (Ranking k region words)
  unfolding answer view_of
  ranked k number top shown seen seen_is number_is top_is shown_is =
      let view = view_of s uid in
      let ranking = ranking_of view region words in
      let seen_there : seen ≡ files_of s.tree uid = seen_is ∙ is.hers.view in
      ap₂ (λ (n : ℕ) (lines : List RankLine). Rank n lines)
      (number_is ∙ ap length ranked_at ∙ length-map ranking (shifted_ranked start_at))
      (lines_shown k top shown top_is
      (shown_is s.texts
      ∙ ap (λ (files : List Seen). map (λ (r : Ranked). line_of (map (shown_of s.texts) files) (in_its_file live files r)) top) seen_there))

  -- as many of the units could be among the first k
  weighed_at : (k : ℕ) → length (reaching count_at units lists k)
      ≡ length (reaching (frequency_in (view_of s uid)) (units_of region (view_of s uid)) words k)
  unfolding frequency_in
  weighed_at k =
      ∥∥₁_elim is.hers.of_view (Coded-set coded_ℕ _ _)
      (λ moved.
      let v = are_of_view frames live s uid is moved in
      let view = view_of s uid in
      let found = found_in frames.ranges s in
      ap₂ (λ (us : List RankedUnit) (ls : List TermList). length (reaching count_at us ls k))
      (are.are ∙ v.units region (map (list_at found) are.terms)) of_words
      ∙ frames_weighed region found are.terms words (tokens_at view) (range_at live (files_of s.tree uid)) (all_places view)
      (map (λ (frame : Frame). frame.place) frames.by_address) k are.all v.framed v.order
      ∙ ap (λ (us : List RankedUnit). length (reaching (frequency_in view) us words k)) (sym (units_of-places region view)))

  pub weighed : (k number some : ℕ) → number ≡ length (listed count_at units lists)
      → some ≡ length (reaching count_at units lists k)
      → Weighed number some ≡ answer (view_of s uid) (Weighing k region words)
  unfolding answer
  weighed k number some number_is some_is =
      ap₂ (λ (m n : ℕ). Weighed m n)
      (number_is ∙ ap length ranked_at ∙ length-map (ranking_of (view_of s uid) region words) (shifted_ranked start_at))
      (some_is ∙ weighed_at k)
