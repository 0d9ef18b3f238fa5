-- Frames of a file that has a new text: where they stood and where they stand now.
use Rattle.std.proofs.Common.{◌≡◌, ◌≢◌, ℕ, ◌⊎◌, zero, suc, ◌+◌, ◌<◌, ◌≤◌, true, false, cond, ltb, List, [], ◌∷◌, ◌++◌, length, get_or, refl}
use Rattle.std.proofs.Common.{ap, sym, ◌∙◌, subst, ⊎_elim, arith}
use Rattle.std.specs.Prelude.{◌==◌, Some, None, map, filter_map, option_map, sum_by, IsPermutation}
use Rattle.std.specs.Ordering.{nat_cmp, is_eq}
use Rattle.std.specs.Cmp.{nat_cmp_total}
use Rattle.std.specs.List.{AllByRecursion, cons_option, enumerate_from, remove}
use Rattle.std.specs.List.Sorted.{IsNonDecreasingBy, IsPartitionPoint}
use Rattle.std.specs.Map.{remove_entry}
use Rattle.std.specs.BTreeMap.{is_at}
use Rattle.std.proofs.Math.Logic.{∥∥₁_elim}
use mathlib.Core.Logic.{∥∥₁_prop}
use Rattle.std.proofs.lemmas.Bool.{eqb-true, eq-eqb, ne_eqb, ltb-true, ltb-false, false_from_ne_true}
use Rattle.std.proofs.lemmas.List.{map-append}
use Rattle.std.proofs.lemmas.List.Elements.{recursion_from_All}
use Rattle.std.proofs.lemmas.List.Sums.{sum_by-cons, sum_by-append}
use Rattle.std.proofs.lemmas.List.Sorted.{IsPermutation-map, IsPermutation-remove, IsPermutation-sym, IsPermutation-to_front}
use Rattle.std.proofs.lemmas.List.Sorted.{IsPermutation-trans, sum_by_popped}
use Rattle.std.proofs.lemmas.Map.Lookups.{exact_unsigned}
use Rattle.wu_base.specs.declared.addresses.Range.{Range}
use Rattle.wu_base.proofs.MapEntries.{is_equal, number_itself, lookup-insert_entry, lookup-remove_other}
use Rattle.wu_base.proofs.Members.{all_has, all_from_has}
use Rattle.wu_tree.specs.FileSystems.{FileSystem}
use Rattle.wu_space.specs.Addresses.{Addresses, Ranges, range_of}
use Rattle.wu_base.specs.Ranges.{AreApart}
use Rattle.wu_space.proofs.Files.{sum-positive}
use Rattle.wu_view.specs.declared.Seen.{Seen}
use Rattle.wu_view.specs.Views.{view_of}
use Rattle.wu_frames.specs.declared.Frame.{Frame}
use Rattle.wu_frames.specs.declared.Frames.{Frames}
use Rattle.wu_frames.specs.UserFrames.{AreFrames, IsMove, frame_of, frame_with, frames_in, length_of, with_range}
use Rattle.wu_frames.specs.Mending.{IsMoved}
use Rattle.wu_frames.proofs.FrameFacts.{AreFrames-prop}
use Rattle.wu_frames.proofs.ViewFrames.{HasRange, all-have, each-once, within}
use Rattle.wu_frames.proofs.Views.{view_of-once}

-- ---- lists without one item

All-removed : {X : Type 0} (P : X → Type 0) (xs : List X) (i : ℕ) → AllByRecursion P xs → AllByRecursion P (remove xs i)
All-removed P [] zero a = tt
All-removed P [] (suc i) a = tt
All-removed P (x ∷ xs) zero a = a.1
All-removed P (x ∷ xs) (suc i) a = (a.0, All-removed P xs i a.1)

map-remove : {X Y : Type 0} (f : X → Y) (xs : List X) (i : ℕ) → map f (remove xs i) ≡ remove (map f xs) i
map-remove f [] zero = refl
map-remove f [] (suc i) = refl
map-remove f (x ∷ xs) zero = refl
map-remove {Y = Y} f (x ∷ xs) (suc i) = ap (λ (l : List Y). f x ∷ l) (map-remove f xs i)

apart-removed : (rs : List Range) (i : ℕ) → AreApart rs → AreApart (remove rs i)
apart-removed [] zero a = tt
apart-removed [] (suc i) a = tt
apart-removed (r ∷ rs) zero a = a.1
apart-removed (r ∷ rs) (suc i) a =
    (All-removed (λ (later : Range). r.start + r.len ≤ later.start) rs i a.0, apart-removed rs i a.1)

-- ---- and with another at the end

later-pushed : (low : ℕ) (rs : List Range) (new : Range) → AllByRecursion (λ (later : Range). low ≤ later.start) rs → low ≤ new.start
    → AllByRecursion (λ (later : Range). low ≤ later.start) (rs ++ new ∷ [])
later-pushed low [] new a h = (h, tt)
later-pushed low (r ∷ rs) new a h = (a.0, later-pushed low rs new a.1 h)

apart-pushed : (rs : List Range) (new : Range) (next : ℕ) → AreApart rs → AllByRecursion (λ (r : Range). r.start + r.len ≤ next) rs
    → next ≤ new.start → AreApart (rs ++ new ∷ [])
apart-pushed [] new next a w h = (tt, tt)
apart-pushed (r ∷ rs) new next a w h =
    (later-pushed (r.start + r.len) rs new a.0 (omega (arith, w.0)), apart-pushed rs new next a.1 w.1 h)

-- ---- frames that ascend

start-later : (low : ℕ) (frames : List Frame) (j : ℕ) (d : Frame)
    → AllByRecursion (λ (later : Range). low ≤ later.start) (map (λ (x : Frame). x.range) frames) → j < length frames
    → low ≤ (get_or frames j d).range.start
start-later low [] j d a h = absurd (omega arith)
start-later low (x ∷ xs) zero d a h = a.0
start-later low (x ∷ xs) (suc j) d a h = start-later low xs j d a.1 (omega arith)

pub starts-ascend : (frames : List Frame) → AreApart (map (λ (x : Frame). x.range) frames)
    → IsNonDecreasingBy (λ (x : Frame). x.range.start) frames
starts-ascend [] a i j d m n = absurd (omega arith)
starts-ascend (x ∷ xs) a zero zero d m n = omega arith
starts-ascend (x ∷ xs) a zero (suc j) d m n =
    omega (arith, start-later (x.range.start + x.range.len) xs j d a.0 (omega arith))
starts-ascend (x ∷ xs) a (suc i) zero d m n = absurd (omega arith)
starts-ascend (x ∷ xs) a (suc i) (suc j) d m n = starts-ascend xs a.1 i j d (omega arith) (omega arith)

pub none-starts : (frames : List Frame) (start place : ℕ) → IsNonDecreasingBy (λ (x : Frame). x.range.start) frames
    → IsPartitionPoint (λ (x : Frame). ltb x.range.start start ≡ true) (λ (x : Frame). ltb x.range.start start ≡ false) frames place
    → (place < length frames → (d : Frame) → (get_or frames place d).range.start ≢ start)
    → AllByRecursion (λ (x : Frame). x.range.start ≢ start) frames
none-starts frames start place up point other =
    recursion_from_All (λ (x : Frame). x.range.start ≢ start) frames
    (λ k d h e.
    ⊎_elim
    (λ (front : k < place). absurd (omega (arith, e, ltb-true (get_or frames k d).range.start start (point.0 k d (omega arith) front))))
    (λ (back : place ≤ k).
    absurd (other (omega arith) d
    (let low = ltb-false (get_or frames place d).range.start start (point.1 place d (omega arith) (omega arith)) in
    omega (arith, e, low, up place k d back h))))
    (let cases : (k < place) ⊎ (place ≤ k) = grind arith in cases))

-- ---- the file's frame in the new space

module _ (space : Addresses) (ino : ℕ) (old new : Range) (m : IsMove space ino old new) where
  live : Ranges
  live = space.ranges

  abbrev now : Ranges
  now = with_range ino new space.ranges

  -- what the frame of a file is then
  abbrev change : Frame → Frame
  change frame = cond (frame.ino == ino) (frame_with frame.place frame.ino new) frame

  range-itself : range_of now ino ≡ Some new
  range-itself =
      lookup-insert_entry nat_cmp_total (remove_entry (is_at (nat_cmp ino)) space.ranges) ino new ino ∙ rw (number_itself ino) refl

  other-number : (q p : ℕ) → q ≢ p → is_eq (nat_cmp q p) ≡ false
  other-number q p n = false_from_ne_true (is_eq (nat_cmp q p)) (λ e. n (exact_unsigned q p (is_equal _ e)))

  range-other : (q : ℕ) → q ≢ ino → range_of now q ≡ range_of space.ranges q
  range-other q n =
      lookup-insert_entry nat_cmp_total (remove_entry (is_at (nat_cmp ino)) space.ranges) ino new q
      ∙ rw (other-number q ino n)
      (lookup-remove_other (is_at (nat_cmp q)) (is_at (nat_cmp ino))
      (λ k p. other-number q k (λ e. n (e ∙ sym (exact_unsigned ino k (is_equal _ p))))) space.ranges)

  frames-changed : (n : ℕ) (view : List Seen)
      → filter_map (frame_of now) (enumerate_from n view) ≡ map change (filter_map (frame_of space.ranges) (enumerate_from n view))
  frames-changed n [] = refl
  frames-changed n (file ∷ view) =
      let rest = frames-changed (n + 1) view in
      let later : List Frame = filter_map (frame_of now) (enumerate_from (n + 1) view) in
      let before : List Frame = filter_map (frame_of space.ranges) (enumerate_from (n + 1) view) in
      elim (file.ino == ino) as
      (λ b. (file.ino == ino) ≡ b
      → cons_option (option_map (frame_with n file.ino) (range_of now file.ino)) later
      ≡ map change (cons_option (option_map (frame_with n file.ino) (range_of space.ranges file.ino)) before)) [
        | true ↦ λ p.
            let e : file.ino ≡ ino = eqb-true file.ino ino p in
            let a : range_of now file.ino ≡ Some new = ap (range_of now) e ∙ range-itself in
            let b : range_of space.ranges file.ino ≡ Some old = ap (range_of space.ranges) e ∙ m.from in
            rw (a, b, p) (ap (λ (l : List Frame). frame_with n file.ino new ∷ l) rest)
        | false ↦ λ p.
            let a : range_of now file.ino ≡ range_of space.ranges file.ino =
            range-other file.ino (λ e. let t = eq-eqb file.ino ino e in cc) in
            rw a
            (elim (range_of space.ranges file.ino) as
            (λ o. cons_option (option_map (frame_with n file.ino) o) later
            ≡ map change (cons_option (option_map (frame_with n file.ino) o) before)) [
              | None ↦ rest
              | Some range ↦ rw p (ap (λ (l : List Frame). frame_with n file.ino range ∷ l) rest)
            ])
      ] refl

  unchanged : (frames : List Frame) → AllByRecursion (λ (x : Frame). x.ino ≢ ino) frames → map change frames ≡ frames
  unchanged [] a = refl
  unchanged (x ∷ xs) a = rw (ne_eqb x.ino ino a.0) (ap (λ (l : List Frame). x ∷ l) (unchanged xs a.1))

  changed-order : (view : List Seen) (frames : List Frame) → IsPermutation (frames_in space.ranges view) frames
      → IsPermutation (frames_in now view) (map change frames)
  changed-order view frames p =
      subst (λ (l : List Frame). IsPermutation l (map change frames)) (sym (frames-changed 0 view))
      (IsPermutation-map change (frames_in space.ranges view) frames p)

  same-range : (x : Frame) → HasRange space.ranges x → x.ino ≡ ino → x.range ≡ old
  same-range x h e =
      let a : range_of space.ranges ino ≡ Some x.range = subst (λ (n : ℕ). range_of space.ranges n ≡ Some x.range) e h in
      let b = m.from in
      cc

  module _ (fs : FileSystem) (uid : ℕ) (frames : Frames) (hers : AreFrames fs space.ranges uid frames) where
    -- where no frame starts at the old range, none is the file's
    pub right-without : AllByRecursion (λ (x : Frame). x.range.start ≢ old.start) frames.by_address → AreFrames fs now uid frames
    right-without other = record {
      view = hers.view;
      of_view =
          ∥∥₁_elim hers.of_view ∥∥₁_prop
          (λ p.
          let have = all-have space.ranges (view_of fs uid) frames.by_address p in
          let others : AllByRecursion (λ (x : Frame). x.ino ≢ ino) frames.by_address =
          all_from_has (λ (x : Frame). x.ino ≢ ino) frames.by_address
          (λ x h e.
          all_has (λ (y : Frame). y.range.start ≢ old.start) x frames.by_address other h
          (ap (λ (r : Range). r.start) (same-range x (all_has (HasRange space.ranges) x frames.by_address have h) e))) in
          ∣ subst (IsPermutation (frames_in now (view_of fs uid))) (unchanged frames.by_address others)
          (changed-order (view_of fs uid) frames.by_address p) ∣₁);
      ascending = hers.ascending;
      ranges_alone = hers.ranges_alone;
      sum = hers.sum;
    }

    module _ (place : ℕ) (inside : place < length frames.by_address) (after : Frames) (moved : IsMoved place ino new frames after) where
      abbrev rest : List Frame
      rest = remove frames.by_address place

      abbrev last : Frame
      last = record moved.frame { range = new }

      popped : IsPermutation frames.by_address (moved.frame ∷ rest)
      popped = IsPermutation-remove frames.by_address place moved.frame inside moved.there

      ends : List Frame → Type 0
      ends l = AllByRecursion (λ (range : Range). range.start + range.len ≤ space.next) (map (λ (x : Frame). x.range) l)

      module _ (p : IsPermutation (frames_in space.ranges (view_of fs uid)) frames.by_address) where
        have : AllByRecursion (HasRange space.ranges) frames.by_address
        have = all-have space.ranges (view_of fs uid) frames.by_address p

        others : AllByRecursion (λ (x : Frame). x.ino ≢ ino) rest
        others =
            let f : Frame → ℕ = λ x. cond {A = ℕ} (x.ino == ino) 1 0 in
            let once : sum_by f frames.by_address ≤ 1 =
            each-once space.ranges (view_of fs uid) frames.by_address p (view_of-once fs uid) ino in
            let itself : f moved.frame ≡ 1 = rw (eq-eqb moved.frame.ino ino moved.its) refl in
            let total = sum_by_popped f moved.frame frames.by_address rest popped in
            all_from_has (λ (x : Frame). x.ino ≢ ino) rest
            (λ x h e.
            let one : f x ≡ 1 = rw (eq-eqb x.ino ino e) refl in
            omega (arith, once, itself, total, sum-positive f x rest h (omega (arith, one))))

        order : IsPermutation (frames_in now (view_of fs uid)) after.by_address
        order =
            let its : map change (moved.frame ∷ rest) ≡ last ∷ rest =
            rw (eq-eqb moved.frame.ino ino moved.its) (ap (λ (l : List Frame). last ∷ l) (unchanged rest others)) in
            let changed : IsPermutation (map change frames.by_address) (last ∷ rest) =
            subst (IsPermutation (map change frames.by_address)) its
            (IsPermutation-map change frames.by_address (moved.frame ∷ rest) popped) in
            subst (IsPermutation (frames_in now (view_of fs uid))) (sym moved.by_address)
            (IsPermutation-trans _ _ _ (changed-order (view_of fs uid) frames.by_address p)
            (IsPermutation-trans _ _ _ changed (IsPermutation-sym (rest ++ last ∷ []) (last ∷ rest) (IsPermutation-to_front rest last))))

        apart : AreApart (remove frames.ranges place ++ new ∷ [])
        apart =
            apart-pushed (remove frames.ranges place) new space.next (apart-removed frames.ranges place hers.ascending)
            (All-removed (λ (r : Range). r.start + r.len ≤ space.next) frames.ranges place
            (subst (AllByRecursion (λ (r : Range). r.start + r.len ≤ space.next)) (sym hers.ranges_alone)
            (within space.ranges space.next m.rules.live frames.by_address have)))
            m.to

      ranges-moved : after.ranges ≡ map (λ (x : Frame). x.range) after.by_address
      ranges-moved =
          moved.ranges
          ∙ ap (λ (l : List Range). remove l place ++ new ∷ []) hers.ranges_alone
          ∙ ap (λ (l : List Range). l ++ new ∷ []) (sym (map-remove (λ (x : Frame). x.range) frames.by_address place))
          ∙ sym (map-append (λ (x : Frame). x.range) rest (last ∷ []))
          ∙ sym (ap (λ (l : List Frame). map (λ (x : Frame). x.range) l) moved.by_address)

      sum-moved : after.total ≡ length_of after.ranges
      sum-moved =
          let len : Range → ℕ = λ r. r.len in
          let ranges : Frame → Range = λ x. x.range in
          let shorter : sum_by len (map ranges rest) + moved.frame.range.len ≡ sum_by len (map ranges frames.by_address) =
          sum_by_popped len moved.frame.range (map ranges frames.by_address) (map ranges rest)
          (IsPermutation-map ranges frames.by_address (moved.frame ∷ rest) popped) in
          let left : sum_by len (remove frames.ranges place) ≡ sum_by len (map ranges rest) =
          ap (sum_by len) (ap (λ (l : List Range). remove l place) hers.ranges_alone ∙ sym (map-remove ranges frames.by_address place)) in
          let longer : sum_by len after.ranges ≡ sum_by len (remove frames.ranges place) + sum_by len (new ∷ []) =
          ap (sum_by len) moved.ranges ∙ sum_by-append len (remove frames.ranges place) (new ∷ []) in
          let one : sum_by len (new ∷ []) ≡ new.len = sum_by-cons len new [] ∙ (let n : new.len + 0 ≡ new.len = omega arith in n) in
          let before : frames.total ≡ sum_by len (map ranges frames.by_address) = hers.sum ∙ ap (sum_by len) hers.ranges_alone in
          omega (arith, moved.total, shorter, left, longer, one, before)

      -- where the file's frame goes last, with the new range, all is right
      pub right-moved : AreFrames fs now uid after
      right-moved =
          ∥∥₁_elim hers.of_view (AreFrames-prop fs now uid after)
          (λ p. record {
            view = moved.seen ∙ hers.view;
            of_view = ∣ order p ∣₁;
            ascending = subst AreApart (sym moved.ranges) (apart p);
            ranges_alone = ranges-moved;
            sum = sum-moved;
          })
