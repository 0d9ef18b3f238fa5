-- A phrase's extents over frames that lie apart, from the addresses of one of its words.
use Rattle.std.proofs.Common.{◌≡◌, ℕ, zero, suc, ◌+◌, ◌-◌, ◌<◌, ◌≤◌, Bool, true, List, [], ◌∷◌, length, get_or, refl, sym, ap, ◌∙◌, subst}
use Rattle.std.proofs.Common.{arith, eqb, eqb-true, eq-eqb, leb-true, le-leb, nat_le}
use Rattle.std.specs.Prelude.{filter}
use Rattle.std.specs.List.{All}
use Rattle.std.proofs.lemmas.Bool.{and_parts, and_from}
use Rattle.std.proofs.lemmas.List.Elements.{All-from_recursion}
use Rattle.wu_base.specs.declared.addresses.Extent.{Extent}
use Rattle.wu_base.specs.declared.addresses.Range.{Range}
use Rattle.wu_base.specs.declared.addresses.TermList.{TermList}
use Rattle.wu_gcl.specs.Regions.{Phrase}
use Rattle.wu_gcl.specs.Extents.{words_stand, is_in, hits}
use Rattle.wu_solve.specs.Addresses.{is_among, has_address, stands_by, AreAddressesOf}
use Rattle.wu_solve.specs.Frames.{lies_in_one}
use Rattle.wu_solve.specs.Listing.{Has}
use Rattle.wu_solve.specs.Operands.{run_around, runs_around}
use Rattle.wu_solve.specs.Solving.{moved, frame_hits, frames_hits}
use Rattle.wu_base.specs.Ranges.{AreApart}
use Rattle.wu_solve.proofs.Sets.{same_ends, all_from, from_filter, to_filter}
use Rattle.wu_solve.proofs.Order.{one_list, filter_ordered, ordered_from}
use Rattle.wu_solve.proofs.Phrases.{Among, from_among, to_among, from_kept, to_kept, has_map, map_has, runs_ascending, words_moved}
use Rattle.wu_solve.proofs.Results.{LiesIn, extent_lies, hits_listed, from_moved, frames_ascend}
use Rattle.wu_solve.proofs.Moving.{moved_has}
use Rattle.wu_solve.proofs.OneFrame.{in_some_frame, from_frame, one_lies, lies_one}
use Rattle.wu_solve.proofs.Whole.{keeps_all}

-- the extent at places of the frame
abbrev extent_from : ℕ → Extent → Extent
extent_from start x = record { start = x.start - start; end = x.end - start }

-- a phrase in a frame, by its places

pub record StandsAt (lists : List TermList) (words : List (List ℕ)) (x : Extent) : Type 0 where
  pub long : x.start + length words ≡ x.end + 1
  pub stand : words_stand (has_address lists) words x.start ≡ true

pub phrase_at : (lists : List TermList) (words : List (List ℕ)) (f : Range) (x : Extent) → Has (frame_hits (Phrase words) lists f) x
    → StandsAt lists words x
unfolding is_in
phrase_at lists words f x has =
    let stands = stands_by lists f.start in
    let m = from_moved f.start (hits (Phrase words) stands f.len) x has in
    let y = m.0 in
    let s = (hits_listed (Phrase words) stands f.len).sound y m.1 in
    let b = and_parts (eqb (y.start + length words) (y.end + 1)) (words_stand stands words y.start) s.1 in
    let long : y.start + length words ≡ y.end + 1 = eqb-true _ _ b.0 in
    subst (λ (e : Extent). StandsAt lists words e) m.2
    (record { long = omega arith; stand = sym (words_moved lists f.start words y.start) ∙ b.1 })

pub at_phrase : (lists : List TermList) (words : List (List ℕ)) (f : Range) (x : Extent) → LiesIn f x → StandsAt lists words x
    → Has (frame_hits (Phrase words) lists f) x
unfolding is_in
at_phrase lists words f x lies is =
    let stands = stands_by lists f.start in
    let low : f.start ≤ x.start = lies.low in
    let ordered : x.start ≤ x.end = lies.ordered in
    let high : x.end < f.start + f.len = lies.high in
    let long : x.start + length words ≡ x.end + 1 = is.long in
    let y = extent_from f.start x in
    let back : f.start + y.start ≡ x.start = omega arith in
    let there : words_stand stands words y.start ≡ true = words_moved lists f.start words y.start
    ∙ ap (words_stand (has_address lists) words) back ∙ is.stand in
    let has = (hits_listed (Phrase words) stands f.len).complete y (record { ordered = omega arith; within = omega arith })
    (and_from _ _ (eq-eqb _ _ (omega arith)) there) in
    subst (λ (e : Extent). Has (frame_hits (Phrase words) lists f) e) (same_ends (moved f.start y) x back (omega arith))
    (moved_has f.start (hits (Phrase words) stands f.len) y has)

-- where the words stand, so does each of them
word_stands : (stands : List ℕ → ℕ → Bool) (words : List (List ℕ)) (place k : ℕ) → words_stand stands words place ≡ true
    → k < length words → stands (get_or words k []) (place + k) ≡ true
word_stands stands [] place k is within = absurd (omega arith)
word_stands stands (word ∷ words) place zero is within =
    let b = and_parts (stands word place) (words_stand stands words (place + 1)) is in
    let here : place ≡ place + 0 = omega arith in
    subst (λ (p : ℕ). stands word p ≡ true) here b.0
word_stands stands (word ∷ words) place (suc k) is within =
    let b = and_parts (stands word place) (words_stand stands words (place + 1)) is in
    let next : place + 1 + k ≡ place + suc k = omega arith in
    subst (λ (p : ℕ). stands (get_or words k []) p ≡ true) next (word_stands stands words (place + 1) k b.1 (omega arith))

module _ (lists : List TermList) (frames : List Range) (apart : AreApart frames) (words : List (List ℕ)) (r after : ℕ)
    (within : r + after + 1 ≡ length words) (addresses : List ℕ) (are : AreAddressesOf lists (get_or words r []) addresses) where
  abbrev stand : Extent → Bool
  stand x = words_stand (has_address lists) words x.start

  kept : (x : Extent) → Has (filter stand (filter (lies_in_one frames) (runs_around r after addresses))) x
      → Has (frames_hits (Phrase words) lists frames) x
  kept x has =
      let k = from_filter stand (filter (lies_in_one frames) (runs_around r after addresses)) x has in
      let l = from_filter (lies_in_one frames) (runs_around r after addresses) x k.0 in
      let m = has_map (run_around r after) (filter (λ a. nat_le r a) addresses) x l.0 in
      let low : r ≤ m.0 = leb-true r m.0 (from_kept (λ a. nat_le r a) addresses m.0 m.1).1 in
      let starts : m.0 - r ≡ x.start = ap (λ (e : Extent). e.start) m.2 in
      let ends : m.0 + after ≡ x.end = ap (λ (e : Extent). e.end) m.2 in
      let o = one_lies frames x l.1 in
      let first : o.0.start ≤ x.start = o.2 in
      let last : x.end < o.0.start + o.0.len = o.3 in
      from_frame (Phrase words) lists frames o.0 x o.1
      (at_phrase lists words o.0 x (record { low = first; ordered = omega arith; high = last })
      (record { long = omega arith; stand = k.1 }))

  found : (x : Extent) → Has (frames_hits (Phrase words) lists frames) x
      → Has (filter stand (filter (lies_in_one frames) (runs_around r after addresses))) x
  found x has =
      let s = in_some_frame (Phrase words) lists frames x has in
      let lies = extent_lies (Phrase words) lists s.0 x s.2 in
      let is = phrase_at lists words s.0 x s.2 in
      let long : x.start + length words ≡ x.end + 1 = is.long in
      let here : is_among addresses (x.start + r) ≡ true =
      are.same (x.start + r) ∙ word_stands (has_address lists) words x.start r is.stand (omega arith) in
      let among : Among (filter (λ a. nat_le r a) addresses) (x.start + r) =
      to_kept (λ a. nat_le r a) addresses (x.start + r) (from_among addresses (x.start + r) here)
      (le-leb r (x.start + r) (omega arith)) in
      let run : Has (runs_around r after addresses) (run_around r after (x.start + r)) =
      map_has (run_around r after) (filter (λ a. nat_le r a) addresses) (x.start + r) among in
      let same : run_around r after (x.start + r) ≡ x = same_ends (run_around r after (x.start + r)) x (omega arith) (omega arith) in
      to_filter stand (filter (lies_in_one frames) (runs_around r after addresses)) x
      (to_filter (lies_in_one frames) (runs_around r after addresses) x
      (subst (λ (e : Extent). Has (runs_around r after addresses) e) same run) (lies_one frames s.0 x s.1 lies)) is.stand

  pub phrase_whole : filter stand (filter (lies_in_one frames) (runs_around r after addresses)) ≡ frames_hits (Phrase words) lists frames
  phrase_whole =
      one_list _ (frames_hits (Phrase words) lists frames)
      (filter_ordered stand (filter (lies_in_one frames) (runs_around r after addresses))
      (filter_ordered (lies_in_one frames) (runs_around r after addresses)
      (ordered_from (runs_around r after addresses) (runs_ascending r after addresses are.ascending))))
      (ordered_from (frames_hits (Phrase words) lists frames) (frames_ascend (Phrase words) lists frames apart)) kept found

-- the word whose addresses these are stands in each of the extents around them
pub known_word : (lists : List TermList) (frames : List Range) (term addresses : List ℕ) (r after : ℕ) → AreAddressesOf lists term addresses
    → All (λ x. has_address lists term (x.start + r) ≡ true) (filter (lies_in_one frames) (runs_around r after addresses))
known_word lists frames term addresses r after are =
    All-from_recursion (λ x. has_address lists term (x.start + r) ≡ true) (filter (lies_in_one frames) (runs_around r after addresses))
    (all_from (λ x. has_address lists term (x.start + r) ≡ true) (filter (lies_in_one frames) (runs_around r after addresses)) (λ x has.
    let l = from_filter (lies_in_one frames) (runs_around r after addresses) x has in
    let m = has_map (run_around r after) (filter (λ a. nat_le r a) addresses) x l.0 in
    let kept = from_kept (λ a. nat_le r a) addresses m.0 m.1 in
    let starts : m.0 - r ≡ x.start = ap (λ (e : Extent). e.start) m.2 in
    let room : r ≤ m.0 = leb-true r m.0 kept.1 in
    let same : m.0 ≡ x.start + r = omega arith in
    subst (λ (a : ℕ). has_address lists term a ≡ true) same (sym (are.same m.0) ∙ to_among addresses m.0 kept.0)))

-- one word alone
pub term_whole : (lists : List TermList) (frames : List Range) → AreApart frames → (term addresses : List ℕ)
    → AreAddressesOf lists term addresses
    → filter (lies_in_one frames) (runs_around 0 0 addresses) ≡ frames_hits (Phrase (term ∷ [])) lists frames
term_whole lists frames apart term addresses are =
    sym (keeps_all (λ x. words_stand (has_address lists) (term ∷ []) x.start) (filter (lies_in_one frames) (runs_around 0 0 addresses))
    each)
    ∙ phrase_whole lists frames apart (term ∷ []) 0 0 (omega arith) addresses are
  where
    each : (x : Extent) → Has (filter (lies_in_one frames) (runs_around 0 0 addresses)) x
        → words_stand (has_address lists) (term ∷ []) x.start ≡ true
    each x has =
        let l = from_filter (lies_in_one frames) (runs_around 0 0 addresses) x has in
        let m = has_map (run_around 0 0) (filter (λ a. nat_le 0 a) addresses) x l.0 in
        let starts : m.0 - 0 ≡ x.start = ap (λ (e : Extent). e.start) m.2 in
        let same : m.0 ≡ x.start = omega arith in
        let here = to_among addresses m.0 (from_kept (λ a. nat_le 0 a) addresses m.0 m.1).0 in
        and_from (has_address lists term x.start) true
        (subst (λ (a : ℕ). has_address lists term a ≡ true) same (sym (are.same m.0) ∙ here)) refl
