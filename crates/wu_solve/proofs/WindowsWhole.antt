-- What lies in windows of all frames, or holds one, is what does so frame by frame.
use Rattle.std.proofs.Common.{◌≡◌, ℕ, ◌+◌, ◌-◌, ◌<◌, ◌≤◌, Bool, true, false, cond, ◌&&◌, ◌⊎◌, List, [], ◌∷◌, map, refl, sym, ap, subst, inl}
use Rattle.std.proofs.Common.{inr, arith, nat_lt, nat_le}
use Rattle.std.specs.Prelude.{filter}
use Rattle.std.specs.Cmp.{both_ways}
use Rattle.std.specs.List.{range_with_len}
use Rattle.wu_base.specs.declared.addresses.Extent.{Extent}
use Rattle.wu_base.specs.declared.addresses.Range.{Range}
use Rattle.wu_base.specs.declared.addresses.TermList.{TermList}
use Rattle.wu_gcl.specs.declared.expressions.Op.{Op}
use Rattle.wu_gcl.specs.declared.expressions.Op.TheVariants.{Containing, ContainedIn, NotContaining, NotContainedIn}
use Rattle.wu_gcl.specs.Regions.{Region, Window, Both}
use Rattle.wu_gcl.specs.Extents.{is_in, hits}
use Rattle.wu_solve.specs.Addresses.{stands_by}
use Rattle.wu_solve.specs.Frames.{lies_in_one}
use Rattle.wu_solve.specs.Listing.{Lists}
use Rattle.wu_solve.specs.Merging.{is_wanted}
use Rattle.wu_solve.specs.Operands.{run_from}
use Rattle.wu_solve.specs.Solving.{moved, frame_hits, frames_hits}
use Rattle.wu_base.specs.Ranges.{AreApart}
use Rattle.wu_solve.specs.Windows.{lies_in_window, holds_window}
use Rattle.wu_solve.proofs.Combining.{both_listed}
use Rattle.wu_solve.proofs.Results.{LiesIn, extent_lies, hits_listed}
use Rattle.wu_solve.proofs.Phrases.{windows_listed, no_windows}
use Rattle.wu_solve.proofs.WindowLengths.{is_short, contained_in_window, not_contained_in_window, containing_window, not_containing_window}
use Rattle.wu_solve.proofs.OneFrame.{HasFrame, one_frame, one_lies, lies_one}
use Rattle.wu_solve.proofs.Whole.{hits_are, kept_whole, kept_each}

-- the frames that pass a test

kept_frame : (p : Range → Bool) (g f : Range) (gs : List Range) (test : Bool) → p g ≡ test → HasFrame (cond test (g ∷ gs) gs) f
    → (HasFrame gs f → (p f ≡ true)) → (p f ≡ true) × ((g ≡ f) ⊎ HasFrame gs f)
kept_frame p g f gs true is (inl here) rest = (subst (λ (k : Range). p k ≡ true) here is, inl here)
kept_frame p g f gs true is (inr more) rest = (rest more, inr more)
kept_frame p g f gs false is more rest = (rest more, inr more)

frame_kept : (p : Range → Bool) (frames : List Range) (f : Range) → HasFrame (filter p frames) f → HasFrame frames f × (p f ≡ true)
frame_kept p [] f sees = absurd sees
frame_kept p (g ∷ gs) f sees =
    let k = kept_frame p g f (filter p gs) (p g) refl sees (λ more. (frame_kept p gs f more).1) in
    (elim k.1 [ inl here ↦ inl here | inr more ↦ inr (frame_kept p gs f more).0 ], k.0)

keeps_frame : (g f : Range) (gs : List Range) (test : Bool) → HasFrame gs f → HasFrame (cond test (g ∷ gs) gs) f
keeps_frame g f gs true sees = inr sees
keeps_frame g f gs false sees = sees

to_kept_frame : (p : Range → Bool) (frames : List Range) (f : Range) → HasFrame frames f → p f ≡ true → HasFrame (filter p frames) f
to_kept_frame p [] f sees is = absurd sees
to_kept_frame p (g ∷ gs) f (inl here) is =
    let now : p g ≡ true = subst (λ (k : Range). p k ≡ true) (sym here) is in
    rw now (inl here)
to_kept_frame p (g ∷ gs) f (inr more) is = keeps_frame g f (filter p gs) (p g) (to_kept_frame p gs f more is)

-- an extent of a frame lies in one with room exactly if its frame has it
room_alike : (frames : List Range) (size : ℕ) (f : Range) (x : Extent) → AreApart frames → HasFrame frames f → LiesIn f x
    → lies_in_one (filter (λ frame. nat_le size frame.len) frames) x ≡ nat_le size f.len
room_alike frames size f x apart sees lies = both_ways _ _
    (λ is.
    let o = one_lies (filter (λ frame. nat_le size frame.len) frames) x is in
    let k = frame_kept (λ frame. nat_le size frame.len) frames o.0 o.1 in
    let there : LiesIn o.0 x = record { low = o.2; ordered = lies.ordered; high = o.3 } in
    let same : o.0 ≡ f = one_frame frames o.0 f x apart k.0 sees there lies in
    subst (λ (g : Range). nat_le size g.len ≡ true) same k.1)
    (λ is. lies_one (filter (λ frame. nat_le size frame.len) frames) f x (to_kept_frame (λ frame. nat_le size frame.len) frames f sees is)
    lies)

same_length : (s a b : ℕ) → (s + a) - (s + b) ≡ a - b
same_length s a b = omega arith

module _ (left : Region) (size : ℕ) (lists : List TermList) (frames : List Range) (apart : AreApart frames) where
  held_by_windows_whole : (w : Bool) (op : Op)
      → ((f : Range) → Lists f.len (is_in (Both op left (Window size)) (stands_by lists f.start) f.len)
      (filter (λ x. is_wanted w (is_short size f.len x)) (hits left (stands_by lists f.start) f.len)))
      → filter (λ x. is_wanted w (lies_in_window size frames x)) (frames_hits left lists frames)
      ≡ frames_hits (Both op left (Window size)) lists frames
  held_by_windows_whole w op each =
      kept_whole left (Both op left (Window size)) lists frames (λ x. is_wanted w (lies_in_window size frames x))
      (λ f x. is_wanted w (is_short size f.len x))
      (λ f x sees has. ap (λ (b : Bool). is_wanted w (nat_lt (x.end - x.start) size && b))
      (room_alike frames size f x apart sees (extent_lies left lists f x has)))
      (λ f. kept_each left (Both op left (Window size)) lists f (λ x. is_wanted w (is_short size f.len x))
      (λ x. is_wanted w (is_short size f.len x))
      (λ x. ap (λ (n : ℕ). is_wanted w (nat_lt n size && nat_le size f.len)) (same_length f.start x.end x.start)) (each f))

  holding_windows_whole : (w : Bool) (op : Op)
      → ((f : Range) → Lists f.len (is_in (Both op left (Window size)) (stands_by lists f.start) f.len)
      (filter (λ x. is_wanted w (holds_window size x)) (hits left (stands_by lists f.start) f.len)))
      → filter (λ x. is_wanted w (holds_window size x)) (frames_hits left lists frames)
      ≡ frames_hits (Both op left (Window size)) lists frames
  holding_windows_whole w op each =
      kept_whole left (Both op left (Window size)) lists frames (λ x. is_wanted w (holds_window size x))
      (λ f x. is_wanted w (holds_window size x)) (λ f x sees has. refl)
      (λ f. kept_each left (Both op left (Window size)) lists f (λ x. is_wanted w (holds_window size x))
      (λ x. is_wanted w (holds_window size x))
      (λ x. ap (λ (n : ℕ). is_wanted w (nat_lt 0 size && nat_le (size - 1) n)) (same_length f.start x.end x.start)) (each f))

  pub contained_in_windows_whole : filter (λ x. is_wanted true (lies_in_window size frames x)) (frames_hits left lists frames)
      ≡ frames_hits (Both ContainedIn left (Window size)) lists frames
  contained_in_windows_whole = held_by_windows_whole true ContainedIn (λ f.
      both_listed f.len (stands_by lists f.start) _ ContainedIn left (Window size)
      (contained_in_window f.len size (stands_by lists f.start) _ _ (hits_listed left (stands_by lists f.start) f.len)))

  pub not_contained_in_windows_whole : filter (λ x. is_wanted false (lies_in_window size frames x)) (frames_hits left lists frames)
      ≡ frames_hits (Both NotContainedIn left (Window size)) lists frames
  not_contained_in_windows_whole = held_by_windows_whole false NotContainedIn (λ f.
      both_listed f.len (stands_by lists f.start) _ NotContainedIn left (Window size)
      (not_contained_in_window f.len size (stands_by lists f.start) _ _ (hits_listed left (stands_by lists f.start) f.len)))

  pub containing_windows_whole : filter (λ x. is_wanted true (holds_window size x)) (frames_hits left lists frames)
      ≡ frames_hits (Both Containing left (Window size)) lists frames
  containing_windows_whole = holding_windows_whole true Containing (λ f.
      both_listed f.len (stands_by lists f.start) _ Containing left (Window size)
      (containing_window f.len size (stands_by lists f.start) _ _ (hits_listed left (stands_by lists f.start) f.len)))

  pub not_containing_windows_whole : filter (λ x. is_wanted false (holds_window size x)) (frames_hits left lists frames)
      ≡ frames_hits (Both NotContaining left (Window size)) lists frames
  not_containing_windows_whole = holding_windows_whole false NotContaining (λ f.
      both_listed f.len (stands_by lists f.start) _ NotContaining left (Window size)
      (not_containing_window f.len size (stands_by lists f.start) _ _ (hits_listed left (stands_by lists f.start) f.len)))

-- the windows of one frame
pub windows_of_frame : (size : ℕ) (lists : List TermList) (f : Range) → 0 < size → size ≤ f.len
    → map (moved f.start) (map (run_from (size - 1)) (range_with_len 0 (f.len - size + 1))) ≡ frame_hits (Window size) lists f
windows_of_frame size lists f some fits = ap (map (moved f.start))
    (hits_are (Window size) (stands_by lists f.start) f.len _ (windows_listed size f.len (stands_by lists f.start) some fits))

pub no_windows_of_frame : (size : ℕ) (lists : List TermList) (f : Range) → (size ≡ 0) ⊎ (f.len < size)
    → [] ≡ frame_hits (Window size) lists f
no_windows_of_frame size lists f none = ap (map (moved f.start))
    (hits_are (Window size) (stands_by lists f.start) f.len [] (no_windows size f.len (stands_by lists f.start) none))
