-- What is gathered of terms gives an expression the same extents in a group of frames, whether it is cut to them or whole.
use Rattle.std.proofs.Common.{◌≡◌, ℕ, zero, suc, ◌+◌, ◌<◌, ◌≤◌, ◌^◌, cond, false, List, [], ◌∷◌, length, get_or, map, take, drop}
use Rattle.std.proofs.Common.{refl, sym, ap, ◌∙◌, subst, arith, inl, inr, length-append, nat_lt}
use Rattle.std.proofs.lemmas.Bool.Decides.{nat_tests}
use Rattle.std.proofs.lemmas.List.{length-map}
use Rattle.std.specs.Cmp.Lexicographic.{nat_list_eq_equiv, slice_cmp}
use Rattle.std.specs.List.Sorted.{IsStrictlyIncreasing, IsStrictlySortedBy}
use Rattle.std.specs.Ordering.{nat_cmp}
use Rattle.std.specs.Prelude.{All, Contains, count_by, filter}
use Rattle.wu_base.specs.declared.addresses.Range.{Range}
use Rattle.wu_base.specs.declared.addresses.TermList.{TermList}
use Rattle.wu_base.proofs.Members.{Has, all_from_has}
use Rattle.wu_layout.specs.Postings.{is_live}
use Rattle.wu_layout.proofs.BlobLemmas.{count-cons}
use Rattle.wu_gcl.specs.Regions.{Region}
use Rattle.wu_solve.specs.Addresses.{AreAddressesOf, AreLists, stands_by}
use Rattle.wu_solve.specs.Frames.{has_one_of}
use Rattle.wu_solve.specs.Needed.{Needs}
use Rattle.wu_solve.specs.Solving.{frame_hits, frames_hits, moved}
use Rattle.wu_solve.proofs.FrameCounts.{has_hits, hits_of_part, hits_taken}
use Rattle.wu_solve.proofs.LeavingOut.{files_of_kept, hits_of_kept}
use Rattle.wu_solve.proofs.Needing.{none_without}
use Rattle.wu_solve.proofs.OneFrame.{HasFrame}
use Rattle.wu_solve.proofs.OneTerm.{none_of_term}
use Rattle.wu_solve.proofs.Results.{hits_alike}
use Rattle.wu_solve.proofs.TermLists.{addresses_at, found_again}
use Rattle.wu_query.specs.Near.{AscendByTerm, HaveSameExtents, IsNeededAt, cut_to, whole}
use Rattle.wu_query.specs.Units.{list_at}
use Rattle.wu_query.specs.declared.near.GatheredTerm.{GatheredTerm}
use Rattle.wu_query.proofs.FramesOfFiles.{are_lists}
use Rattle.wu_query.proofs.NearLists.{among_has, cut_has, cut_named, live_in, same_files, same_hits}

-- ---- lists that are cut to the frames

pub cut_lists : (frames : List Range) (gathered : List GatheredTerm) → AscendByTerm gathered → (lists : List TermList)
    → lists ≡ map (cut_to frames) gathered → All (λ list. IsStrictlyIncreasing list.at) lists → AreLists lists
cut_lists frames gathered up lists are rise =
    are_lists (map (λ (one : GatheredTerm). one.term) gathered) lists
    (ap (map (λ (list : TermList). list.term)) are ∙ cut_named frames gathered) rise up

module _ (region : Region) (frames : List Range) (gathered : List GatheredTerm) where
  abbrev cut : List TermList
  cut = map (cut_to frames) gathered

  abbrev all : List TermList
  all = map whole gathered

  same_in_cut : (frame : Range) → Has frame frames → frame_hits region cut frame ≡ frame_hits region all frame
  same_in_cut frame has =
      ap (map (moved frame.start))
      (hits_alike region frame.len (stands_by cut frame.start) (stands_by all frame.start)
      (λ term its place low.
      cut_has frames term (frame.start + place) gathered
      (live_in frames frame (frame.start + place) has (omega arith) (omega arith))))

  same_by_cut : HaveSameExtents region frames cut all
  same_by_cut = all_from_has (λ (frame : Range). frame_hits region cut frame ≡ frame_hits region all frame) frames same_in_cut

  pub cut_hits : frames_hits region cut frames ≡ frames_hits region all frames
  cut_hits = same_hits region cut all frames same_by_cut

  pub cut_files : count_by (λ frame. nat_lt 0 (length (frame_hits region cut frame))) frames
      ≡ count_by (λ frame. nat_lt 0 (length (frame_hits region all frame))) frames
  cut_files = same_files region cut all frames same_by_cut

  -- so the whole ones serve as well as those that the terms have in the frames
  pub same_by_all : (found : List ℕ → List ℕ) (terms : List (List ℕ)) → map (cut_to frames) gathered ≡ map (list_at found) terms
      → HaveSameExtents region frames all (map (list_at found) terms)
  same_by_all found terms tells =
      all_from_has (λ (frame : Range). frame_hits region all frame ≡ frame_hits region (map (list_at found) terms) frame) frames
      (λ frame has. sym (same_in_cut frame has) ∙ ap (λ (lists : List TermList). frame_hits region lists frame) tells)

-- ---- frames without a needed term

has_of_frame : (frames : List Range) (frame : Range) → HasFrame frames frame → Has frame frames
has_of_frame [] frame has = absurd has
has_of_frame (first ∷ frames) frame (inl here) = inl here
has_of_frame (first ∷ frames) frame (inr more) = inr (has_of_frame frames frame more)

cut_at : (frames : List Range) (gathered : List GatheredTerm) (place : ℕ) (d : GatheredTerm) → place < length gathered
    → get_or (map (cut_to frames) gathered) place (cut_to frames d) ≡ cut_to frames (get_or gathered place d)
cut_at frames [] place d within = absurd (omega arith)
cut_at frames (one ∷ gathered) zero d within = refl
cut_at frames (one ∷ gathered) (suc place) d within = cut_at frames gathered place d (omega arith)

module _ (region : Region) (frames : List Range) (gathered : List GatheredTerm) (up : AscendByTerm gathered)
    (needed : List (List ℕ)) (needs : (term : List ℕ) → Contains needed term → Needs region term) (place : ℕ)
    (is : IsNeededAt needed gathered place) (one : GatheredTerm) (one_is : one ≡ get_or gathered place one) {addresses : List ℕ}
    (addresses_are : addresses ≡ filter (is_live frames) (get_or gathered place one).at) (rise : IsStrictlyIncreasing addresses) where
  abbrev here : GatheredTerm
  here = get_or gathered place one

  its_addresses : AreAddressesOf (map (cut_to frames) gathered) here.term addresses
  its_addresses =
      let lists = map (cut_to frames) gathered in
      let there : get_or lists place (cut_to frames one) ≡ cut_to frames here = cut_at frames gathered place one is.within in
      let term : (get_or lists place (cut_to frames one)).term ≡ here.term = ap (λ (list : TermList). list.term) there in
      let its_at : (get_or lists place (cut_to frames one)).at ≡ addresses =
      ap (λ (list : TermList). list.at) there ∙ sym addresses_are in
      let sorted : IsStrictlySortedBy (slice_cmp nat_cmp) (map (λ (list : TermList). list.term) lists) =
      subst (IsStrictlySortedBy (slice_cmp nat_cmp)) (sym (cut_named frames gathered)) up in
      let within : place < length lists = omega (arith, is.within, length-map gathered (cut_to frames)) in
      let found = found_again lists here.term place (cut_to frames one) sorted within
      (rw term (nat_list_eq_equiv.refl here.term)) in
      record {
        ascending = rise;
        same = λ address. rw its_at at (addresses_at lists here.term place (cut_to frames one) found address);
      }

  its_need : Needs region here.term
  its_need = needs here.term (among_has needed here.term (is.among one))

  none_there : (frame : Range) → HasFrame frames frame → has_one_of addresses frame ≡ false
      → frame_hits region (map whole gathered) frame ≡ []
  none_there frame has misses =
      sym (same_in_cut region frames gathered frame (has_of_frame frames frame has))
      ∙ none_without region (map (cut_to frames) gathered) frame here.term its_need
      (none_of_term (map (cut_to frames) gathered) here.term addresses frame its_addresses misses)

  -- the frames that have it have all extents
  pub near_hits : frames_hits region (map whole gathered) (filter (has_one_of addresses) frames)
      ≡ frames_hits region (map whole gathered) frames
  near_hits = hits_of_kept region (map whole gathered) (has_one_of addresses) frames none_there

  pub near_files : count_by (λ frame. nat_lt 0 (length (frame_hits region (map whole gathered) frame)))
      (filter (has_one_of addresses) frames)
      ≡ count_by (λ frame. nat_lt 0 (length (frame_hits region (map whole gathered) frame))) frames
  near_files = files_of_kept region (map whole gathered) (has_one_of addresses) frames none_there

-- ---- a group of frames

-- no more frames have extents than there are extents
pub files_few : (region : Region) (lists : List TermList) (frames : List Range)
    → count_by (has_hits region lists) frames ≤ length (frames_hits region lists frames)
files_few region lists [] = omega arith
files_few region lists (frame ∷ frames) =
    let one : cond (nat_lt 0 (length (frame_hits region lists frame))) 1 0 ≤ length (frame_hits region lists frame) =
    at_most (length (frame_hits region lists frame)) in
    omega (
      arith,
      one,
      count-cons (has_hits region lists) frame frames,
      length-append (frame_hits region lists frame) (frames_hits region lists frames),
      files_few region lists frames,
    )
  where
    at_most : (n : ℕ) → cond (nat_lt 0 n) 1 0 ≤ n
    at_most n = grind (arith, nat_tests)

-- a group has no more extents than all frames
pub part_few : (region : Region) (lists : List TermList) (frames : List Range) (from some m : ℕ) → m ≡ some
    → length (frames_hits region lists frames) ≤ 2 ^ 47 → length (frames_hits region lists (take m (drop from frames))) ≤ 2 ^ 47
part_few region lists frames from some m same few =
    omega (arith, few, hits_of_part region lists frames from some m same, hits_taken region lists frames (from + some))
