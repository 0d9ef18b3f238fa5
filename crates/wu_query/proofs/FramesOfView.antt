-- A user's frames, in a state whose index the engine keeps, are frames of the files of her view, one for each, in the order of their
-- addresses.
use Rattle.std.proofs.Common.{◌≡◌, ℕ, zero, suc, ◌+◌, true, List, [], ◌∷◌, ◌++◌, length, map, filter, refl, sym, ap, ap₂, ◌∙◌, subst, arith}
use Rattle.std.proofs.Common.{inl, inr, Option, None, Some}
use Rattle.std.specs.Prelude.{is_some, slice_get, option_and_then, option_map, unwrap_or, IfSome, filter_map, not, IsPermutation}
use Rattle.std.specs.List.{AllByRecursion, cons_option, enumerate_from, range_with_len}
use Rattle.std.specs.List.Sorted.{IsStrictlyIncreasing}
use Rattle.std.proofs.lemmas.Bool.{and_parts}
use Rattle.std.proofs.lemmas.List.{length-map}
use Rattle.std.proofs.lemmas.List.Kept.{IsStrictlyIncreasing-filter}
use Rattle.std.proofs.lemmas.List.Sorted.{IsPermutation-map, Contains-permutation, IsPermutation-sym}
use Rattle.wu_base.specs.declared.addresses.Range.{Range}
use Rattle.wu_base.specs.SortedOnce.{sorted_once}
use Rattle.wu_base.proofs.Members.{Has, Has-from_Contains, Contains-from_Has, Has-map, all_has, all_from_has, filter_has, map_has}
use Rattle.wu_base.proofs.SortedLists.{sorted_once_has}
use Rattle.wu_gcl.specs.Extents.{is_token_at}
use Rattle.wu_layout.specs.Invariants.{IsIndexed, IsAmong, HasText}
use Rattle.wu_layout.specs.Layouts.{FileEntry, entry_of, homes_of, postings_of}
use Rattle.wu_layout.specs.Postings.{addresses_of, is_live}
use Rattle.wu_layout.proofs.Fetches.{is_term_at, fetched_at}
use Rattle.wu_layout.proofs.NumberedRanges.{lookup-ranges_by_number}
use Rattle.wu_layout.proofs.TermLemmas.{addresses_of-increasing}
use Rattle.wu_space.specs.Addresses.{Ranges, range_of}
use Rattle.wu_token.specs.Tokens.{tokens_of}
use Rattle.wu_tree.specs.declared.events.Node.{Node}
use Rattle.wu_tree.specs.FileSystems.{FileSystem, groups_of, is_file}
use Rattle.wu_view.specs.declared.Seen.{Seen}
use Rattle.wu_view.specs.Views.{seen_as, seen_cmp, is_readable, is_empty, may, view_for, user_with, view_of as files_of}
use Rattle.wu_view.proofs.ShownFiles.{seen_exact, seen_total}
use Rattle.wu_access.specs.declared.Want.TheVariants.{Read}
use Rattle.wu_frames.specs.declared.Frame.{Frame}
use Rattle.wu_frames.specs.declared.Frames.{Frames}
use Rattle.wu_frames.specs.UserFrames.{frame_of, frame_with, frames_in}
use Rattle.wu_gcl.specs.Regions.{Region}
use Rattle.wu_base.specs.declared.addresses.TermList.{TermList}
use Rattle.wu_base.proofs.Options.{mapped_some}
use Rattle.wu_rank.specs.declared.results.Unit.{Unit as RankedUnit}
use Rattle.wu_solve.specs.Solving.{frame_hits}
use Rattle.wu_query.specs.Rankings.{tokens_at, unit_at}
use Rattle.wu_query.specs.States.{State, indexed, text_in}
use Rattle.wu_query.specs.Searched.{IsIndexOf, Indexes}
use Rattle.wu_query.specs.Units.{found_in, range_at, no_range, units_in}
use Rattle.wu_query.specs.View.{shown_of, view_of}
use Rattle.wu_query.proofs.FramesOfFiles.{IsFrameOf, FramesOf}
use Rattle.wu_query.proofs.Places.{all_places, tokens_of_file}
use Rattle.wu_query.proofs.UnitsOfFrames.{units_in_frames}

-- ---- frames and the files that they are of

-- the frame is the live range of the file at its place
pub record IsOfFile (live : Ranges) (view : List Seen) (frame : Frame) : Type 0 where
  pub file : Seen
  pub there : slice_get view frame.place ≡ Some file
  pub number : file.ino ≡ frame.ino
  pub range : range_of live frame.ino ≡ Some frame.range

module _ (live : Ranges) where
  of_files : (n : ℕ) (all view : List Seen) → ((i : ℕ) → slice_get all (n + i) ≡ slice_get view i)
      → AllByRecursion (IsOfFile live all) (filter_map (frame_of live) (enumerate_from n view))
  of_files n all [] same = tt
  of_files n all (file ∷ view) same =
      let zeroth : n ≡ n + 0 = omega arith in
      let here : slice_get all n ≡ Some file = ap (slice_get all) zeroth ∙ same 0 in
      let rest = of_files (n + 1) all view
      (λ i. let e : (n + 1) + i ≡ n + suc i = omega arith in ap (slice_get all) e ∙ same (suc i)) in
      elim (range_of live file.ino) as
      (λ o. range_of live file.ino ≡ o → AllByRecursion (IsOfFile live all)
      (cons_option (option_map (frame_with n file.ino) o) (filter_map (frame_of live) (enumerate_from (n + 1) view)))) [
        | None ↦ λ e. rest
        | Some range ↦ λ e. (record { file = file; there = here; number = refl; range = e }, rest)
      ] refl

  -- where each file has a live range, there is a frame for each place
  all_places_framed : (n : ℕ) (view : List Seen) → AllByRecursion (λ file. is_some (range_of live file.ino) ≡ true) view
      → range_with_len n (length view) ≡ map (λ frame. frame.place) (filter_map (frame_of live) (enumerate_from n view))
  all_places_framed n [] all = refl
  all_places_framed n (file ∷ view) all =
      let rest = all_places_framed (n + 1) view all.1 in
      elim (range_of live file.ino) as
      (λ o. is_some o ≡ true → n ∷ range_with_len (n + 1) (length view) ≡ map (λ (frame : Frame). frame.place)
      (cons_option (option_map (frame_with n file.ino) o) (filter_map (frame_of live) (enumerate_from (n + 1) view)))) [
        | None ↦ λ e. absurd (cc)
        | Some range ↦ λ e. ap (λ (places : List ℕ). n ∷ places) rest
      ] all.0

  module _ (view : List Seen) (frames : List Frame) (moved : IsPermutation (frames_in live view) frames) where
    pub by_address_of_files : AllByRecursion (IsOfFile live view) frames
    by_address_of_files =
        all_from_has (IsOfFile live view) frames
        (λ frame has.
        all_has (IsOfFile live view) frame (frames_in live view)
        (of_files 0 view view (λ i. let e : 0 + i ≡ i = omega arith in ap (slice_get view) e))
        (Has-from_Contains frame (frames_in live view)
        (Contains-permutation frames (frames_in live view) frame (IsPermutation-sym (frames_in live view) frames moved)
        (Contains-from_Has frame frames has))))

    pub by_address_has_places : AllByRecursion (λ file. is_some (range_of live file.ino) ≡ true) view
        → IsPermutation (range_with_len 0 (length view)) (map (λ frame. frame.place) frames)
    by_address_has_places all =
        subst (λ (places : List ℕ). IsPermutation places (map (λ (frame : Frame). frame.place) frames))
        (sym (all_places_framed 0 view all)) (IsPermutation-map (λ (frame : Frame). frame.place) (frames_in live view) frames moved)

  -- the frame's range is told by its place
  pub range_there : (view : List Seen) (frame : Frame) → IsOfFile live view frame → range_at live view frame.place ≡ frame.range
  range_there view frame is =
      ap (λ (o : Option Seen). unwrap_or (option_and_then (λ (x : Seen). range_of live x.ino) o) no_range) is.there
      ∙ ap (λ (n : ℕ). unwrap_or (range_of live n) no_range) is.number
      ∙ ap (λ (o : Option Range). unwrap_or o no_range) is.range

  pub ranges_there : (view : List Seen) (frames : List Frame) → AllByRecursion (IsOfFile live view) frames
      → map (λ frame. frame.range) frames ≡ map (range_at live view) (map (λ frame. frame.place) frames)
  ranges_there view [] are = refl
  ranges_there view (frame ∷ frames) are =
      ap (λ (r : Range). r ∷ map (λ (f : Frame). f.range) frames) (sym (range_there view frame are.0))
      ∙ ap (λ (rs : List Range). range_at live view frame.place ∷ rs) (ranges_there view frames are.1)

  -- and so are its units
  pub units_there : (region : Region) (lists : List TermList) (view : List Seen) (frames : List Frame)
      → AllByRecursion (IsOfFile live view) frames
      → units_in region lists frames ≡ units_in_frames region lists (range_at live view) (map (λ frame. frame.place) frames)
  units_there region lists view [] are = refl
  units_there region lists view (frame ∷ frames) are =
      ap₂ (λ (us vs : List RankedUnit). us ++ vs)
      (ap (λ (r : Range). map (unit_at frame.place) (frame_hits region lists r)) (sym (range_there view frame are.0)))
      (units_there region lists view frames are.1)

-- ---- the files of a view are files

pub view_of_files : (fs : FileSystem) (uid : ℕ) → AllByRecursion (λ file. is_file fs file.ino ≡ true) (files_of fs uid)
unfolding files_of view_for
view_of_files fs uid =
    let user = user_with uid (groups_of fs uid) in
    let readable : List (ℕ × Node) = filter (λ node. is_readable fs user node.0) fs.nodes in
    let shown : List Seen = map (λ (node : ℕ × Node). seen_as fs user node.0) readable in
    let opened : List Seen = filter (λ (seen : Seen). not (is_empty seen.paths)) shown in
    all_from_has (λ (file : Seen). is_file fs file.ino ≡ true) (sorted_once seen_cmp opened)
    (λ file has.
    let a : Has file opened = sorted_once_has seen_total seen_exact file opened has in
    let b = filter_has (λ (seen : Seen). not (is_empty seen.paths)) file shown a in
    let n = map_has (λ (node : ℕ × Node). seen_as fs user node.0) file readable b.0 in
    let r = filter_has (λ (node : ℕ × Node). is_readable fs user node.0) n.0 fs.nodes n.1.0 in
    let ino : n.0.0 ≡ file.ino = ap (λ (x : Seen). x.ino) n.1.1 in
    subst (λ (k : ℕ). is_file fs k ≡ true) ino (and_parts (is_file fs n.0.0) (may fs user Read n.0.0) r.1).0)

-- ---- in a state

is_token : (terms : List (List ℕ)) (term : List ℕ) (i : ℕ) → is_term_at terms term i ≡ is_token_at terms term i
is_token [] term i = refl
is_token (first ∷ terms) term zero = refl
is_token (first ∷ terms) term (suc i) = is_token terms term i

among : (frame : Range) (ranges : List Range) → Has frame ranges → IsAmong ranges frame
among frame [] has = has
among frame (range ∷ ranges) (inl here) = inl here
among frame (range ∷ ranges) (inr more) = inr (among frame ranges more)

module _ (live : Ranges) (s : State) (is : IsIndexOf live s) where
  pub range_in : (ino : ℕ) → range_of live ino ≡ option_map (λ entry. entry.range) (entry_of s.layout.files ino)
  range_in ino = ap (λ (l : Ranges). range_of l ino) is.ranges ∙ lookup-ranges_by_number s.layout.files ino

  has_range : (ino : ℕ) → is_file s.tree ino ≡ true → is_some (range_of live ino) ≡ true
  has_range ino file =
      ap (λ (o : Option Range). is_some o) (range_in ino)
      ∙ mapped_some (λ (entry : FileEntry). entry.range) (entry_of s.layout.files ino)
      ∙ is.is_state.layout.ranges.of_files ino ∙ file

  pub view_has_ranges : (uid : ℕ) → AllByRecursion (λ file. is_some (range_of live file.ino) ≡ true) (files_of s.tree uid)
  view_has_ranges uid =
      all_from_has (λ (file : Seen). is_some (range_of live file.ino) ≡ true) (files_of s.tree uid)
      (λ file has.
      has_range file.ino
      (all_has (λ (f : Seen). is_file s.tree f.ino ≡ true) file (files_of s.tree uid) (view_of_files s.tree uid) has))

  -- the file's text is indexed at its live range
  pub indexed_at : (ino : ℕ) (range : Range) → range_of live ino ≡ Some range
      → (range.len ≡ length (tokens_of (text_in s.texts ino)))
      × HasText (indexed (text_in s.texts ino)) range (postings_of s.layout.parts s.layout.memory)
  indexed_at ino range there =
      by (entry_of s.layout.files ino) (sym (range_in ino) ∙ there) (is.is_state.layout.texts.each ino) where
        by : (o : Option FileEntry) → option_map (λ (entry : FileEntry). entry.range) o ≡ Some range
            → IfSome o (λ entry. IsIndexed (indexed (text_in s.texts ino)) entry (homes_of s.layout.parts s.layout.memory)
            (postings_of s.layout.parts s.layout.memory))
            → (range.len ≡ length (tokens_of (text_in s.texts ino)))
            × HasText (indexed (text_in s.texts ino)) range (postings_of s.layout.parts s.layout.memory)
        by None e h = absurd (cc)
        by (Some entry) e h =
            let same : entry.range ≡ range = cc in
            subst (λ (r : Range). (r.len ≡ length (tokens_of (text_in s.texts ino)))
            × HasText (indexed (text_in s.texts ino)) r (postings_of s.layout.parts s.layout.memory)) same (h.long, h.whole)

  module _ (ranges : List Range) where
    pub found_ascend : (term : List ℕ) → IsStrictlyIncreasing (found_in ranges s term)
    found_ascend term =
        IsStrictlyIncreasing-filter (is_live ranges) (addresses_of term (postings_of s.layout.parts s.layout.memory))
        (addresses_of-increasing term 0 s.layout.next (postings_of s.layout.parts s.layout.memory) is.is_state.layout.addresses.ascend)

    frame_of_text : (ino : ℕ) (range : Range) → range_of live ino ≡ Some range → IsAmong ranges range
        → IsFrameOf (found_in ranges s) (tokens_of (text_in s.texts ino)) range
    frame_of_text ino range there one =
        let text = indexed (text_in s.texts ino) in
        let at' = indexed_at ino range there in
        record {
          long = at'.0;
          told = λ term i within.
              (fetched_at ranges (postings_of s.layout.parts s.layout.memory) term text range one at'.1 i (omega (arith, at'.0))
              ∙ is_token text.terms term i);
        }

    module _ (view : List Seen) where
      framed_here : (frame : Frame) → IsOfFile live view frame → IsAmong ranges frame.range
          → IsFrameOf (found_in ranges s) (tokens_at (map (shown_of s.texts) view) frame.place) (range_at live view frame.place)
      framed_here frame of one =
          let tokens : tokens_at (map (shown_of s.texts) view) frame.place ≡ tokens_of (text_in s.texts frame.ino) =
          tokens_of_file s.texts view frame.place of.file of.there ∙ ap (λ (n : ℕ). tokens_of (text_in s.texts n)) of.number in
          subst (IsFrameOf (found_in ranges s) (tokens_at (map (shown_of s.texts) view) frame.place))
          (sym (range_there live view frame of))
          (subst (λ (ts : List (List ℕ)). IsFrameOf (found_in ranges s) ts frame.range) (sym tokens)
          (frame_of_text frame.ino frame.range of.range one))

      framed_all : (frames : List Frame) → AllByRecursion (IsOfFile live view) frames
          → AllByRecursion (λ frame. IsAmong ranges frame.range) frames
          → AllByRecursion
          (λ place. IsFrameOf (found_in ranges s) (tokens_at (map (shown_of s.texts) view) place) (range_at live view place))
          (map (λ frame. frame.place) frames)
      framed_all [] are all = tt
      framed_all (frame ∷ frames) are all = (framed_here frame are.0 all.0, framed_all frames are.1 all.1)

  -- the frames are those of the files at their places
  pub view_framed : (view : List Seen) (frames : List Frame) (ranges : List Range) → ranges ≡ map (λ frame. frame.range) frames
      → AllByRecursion (IsOfFile live view) frames
      → FramesOf (found_in ranges s) (tokens_at (map (shown_of s.texts) view)) (range_at live view) (map (λ frame. frame.place) frames)
  view_framed view frames ranges alone are = record {
    each = framed_all ranges view frames are
        (all_from_has (λ (frame : Frame). IsAmong ranges frame.range) frames
        (λ frame has. among frame.range ranges
        (subst (Has frame.range) (sym alone) (Has-map (λ (f : Frame). f.range) frame frames has))));
    ascending = found_ascend ranges;
  }

-- ---- the user's frames

-- the files of the view are at these places, in the order of their addresses, and so are their frames
pub record AreOfView (frames : Frames) (live : Ranges) (s : State) (uid : ℕ) : Type 0 where
  pub order : IsPermutation (all_places (view_of s uid)) (map (λ frame. frame.place) frames.by_address)
  pub ranges : frames.ranges ≡ map (range_at live (files_of s.tree uid)) (map (λ frame. frame.place) frames.by_address)
  pub framed : FramesOf (found_in frames.ranges s) (tokens_at (view_of s uid)) (range_at live (files_of s.tree uid))
      (map (λ frame. frame.place) frames.by_address)
  pub units : (region : Region) (lists : List TermList) → units_in region lists frames.by_address
      ≡ units_in_frames region lists (range_at live (files_of s.tree uid)) (map (λ frame. frame.place) frames.by_address)

pub are_of_view : (frames : Frames) (live : Ranges) (s : State) (uid : ℕ) → Indexes frames live s uid
    → IsPermutation (frames_in live (files_of s.tree uid)) frames.by_address → AreOfView frames live s uid
unfolding view_of
are_of_view frames live s uid is moved =
    let view = files_of s.tree uid in
    let are = by_address_of_files live view frames.by_address moved in
    record {
      order =
          subst (λ (n : ℕ). IsPermutation (range_with_len 0 n) (map (λ (frame : Frame). frame.place) frames.by_address))
          (sym (length-map view (shown_of s.texts)))
          (by_address_has_places live view frames.by_address moved (view_has_ranges live s is.index uid));
      ranges = is.hers.ranges_alone ∙ ranges_there live view frames.by_address are;
      framed = view_framed live s is.index view frames.by_address frames.ranges is.hers.ranges_alone are;
      units = λ region lists. units_there live region lists view frames.by_address are;
    }
