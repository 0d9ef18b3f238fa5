-- Frames without an extent can be left out.
use Rattle.std.proofs.Common.{◌≡◌, ℕ, ◌+◌, Bool, true, false, cond, List, [], ◌∷◌, ◌++◌, length, refl, sym, ap, ◌∙◌, inl, inr, zero-add}
use Rattle.std.specs.Prelude.{filter, count_by, nat_lt}
use Rattle.std.proofs.lemmas.List.Sums.{sum_by-cons}
use Rattle.wu_base.specs.declared.addresses.Extent.{Extent}
use Rattle.wu_base.specs.declared.addresses.Range.{Range}
use Rattle.wu_base.specs.declared.addresses.TermList.{TermList}
use Rattle.wu_gcl.specs.Regions.{Region}
use Rattle.wu_solve.specs.Solving.{frame_hits, frames_hits}
use Rattle.wu_solve.proofs.OneFrame.{HasFrame}

module _ (region : Region) (lists : List TermList) (kept : Range → Bool) where
  kept_hits : (f : Range) (frames : List Range) (test : Bool) → (test ≡ false → frame_hits region lists f ≡ [])
      → frames_hits region lists (filter kept frames) ≡ frames_hits region lists frames
      → frames_hits region lists (cond test (f ∷ filter kept frames) (filter kept frames)) ≡ frame_hits region lists f
      ++ frames_hits region lists frames
  kept_hits f frames true none more = ap (λ (xs : List Extent). frame_hits region lists f ++ xs) more
  kept_hits f frames false none more = rw (none refl) more

  pub hits_of_kept : (frames : List Range) → ((f : Range) → HasFrame frames f → kept f ≡ false → frame_hits region lists f ≡ [])
      → frames_hits region lists (filter kept frames) ≡ frames_hits region lists frames
  hits_of_kept [] none = refl
  hits_of_kept (f ∷ frames) none =
      kept_hits f frames (kept f) (none f (inl refl)) (hits_of_kept frames (λ g sees. none g (inr sees)))

  abbrev pub has_hits : Range → Bool
  has_hits f = nat_lt 0 (length (frame_hits region lists f))

  kept_count : (f : Range) (frames : List Range) (test : Bool) → (test ≡ false → frame_hits region lists f ≡ [])
      → count_by has_hits (filter kept frames) ≡ count_by has_hits frames
      → count_by has_hits (cond test (f ∷ filter kept frames) (filter kept frames)) ≡ count_by has_hits (f ∷ frames)
  kept_count f frames true none more =
      sum_by-cons (λ x. cond (has_hits x) 1 0) f (filter kept frames) ∙ ap (λ (n : ℕ). cond (has_hits f) 1 0 + n) more
      ∙ sym (sum_by-cons (λ x. cond (has_hits x) 1 0) f frames)
  kept_count f frames false none more =
      more ∙ sym (sum_by-cons (λ x. cond (has_hits x) 1 0) f frames
      ∙ ap (λ (xs : List Extent). cond (nat_lt 0 (length xs)) 1 0 + count_by has_hits frames) (none refl)
      ∙ zero-add (count_by has_hits frames))

  pub files_of_kept : (frames : List Range) → ((f : Range) → HasFrame frames f → kept f ≡ false → frame_hits region lists f ≡ [])
      → count_by has_hits (filter kept frames) ≡ count_by has_hits frames
  files_of_kept [] none = refl
  files_of_kept (f ∷ frames) none =
      kept_count f frames (kept f) (none f (inl refl)) (files_of_kept frames (λ g sees. none g (inr sees)))
