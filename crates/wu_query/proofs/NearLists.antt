-- Lists that are cut to the frames in which a needed term stands give an expression the same extents in each frame.
use Rattle.std.proofs.Common.{◌≡◌, ℕ, ◌+◌, ◌<◌, ◌≤◌, Bool, true, false, ◌&&◌, ◌||◌, cond, List, [], ◌∷◌, ◌++◌, length, get_or, take, map}
use Rattle.std.proofs.Common.{refl, sym, ap, ap₂, ◌∙◌, subst, arith, eqb, eqb-true, leb, nat_lt, le-leb, lt-ltb}
use Rattle.std.specs.Prelude.{Contains, count_by, filter, nat_eq}
use Rattle.std.specs.Cmp.Lexicographic.{nat_list_eq_equiv, pointwise, same_text}
use Rattle.std.specs.List.{list_any}
use Rattle.std.specs.List.Sorted.{IsStrictlyIncreasing}
use Rattle.std.proofs.lemmas.List.{map-append, take_more}
use Rattle.std.proofs.lemmas.Bool.{and_from, false_from_ne_true, false≢true}
use Rattle.wu_base.specs.Ranges.{is_in}
use Rattle.wu_base.specs.declared.addresses.Extent.{Extent}
use Rattle.wu_base.specs.declared.addresses.Range.{Range}
use Rattle.wu_base.specs.declared.addresses.TermList.{TermList}
use Rattle.wu_base.proofs.Members.{Has, Has-filter, Has-from_Contains, Has-map, Contains-from_Has, all_from_has, any_has, filter_has}
use Rattle.wu_base.proofs.Members.{has_any, map_has}
use Rattle.wu_layout.specs.Postings.{is_live}
use Rattle.wu_layout.proofs.BlobLemmas.{count-cons}
use Rattle.wu_gcl.specs.Regions.{Region}
use Rattle.wu_solve.specs.Addresses.{AreAddressesOf, has_address, is_among, stands_by}
use Rattle.wu_solve.specs.Frames.{has_one_of}
use Rattle.wu_solve.specs.Needed.{HasNone, Needs}
use Rattle.wu_solve.specs.Solving.{frame_hits, frames_hits, moved}
use Rattle.wu_solve.proofs.Needing.{none_without}
use Rattle.wu_solve.proofs.OneTerm.{none_of_term}
use Rattle.wu_solve.proofs.Results.{hits_alike}
use Rattle.wu_query.specs.Near.{HaveSameExtents, IsNeededAt, cut_to, whole}
use Rattle.wu_query.specs.Units.{IsAmong, list_at}
use Rattle.wu_query.specs.declared.near.GatheredTerm.{GatheredTerm}
use Rattle.wu_query.proofs.FramesOfFiles.{lists_have}

-- a term is sought by either order of the comparison
pub among_either_way : (needed : List (List ℕ)) (term : List ℕ)
    → list_any (λ other. pointwise nat_eq other term) needed ≡ list_any (pointwise nat_eq term) needed
among_either_way [] term = refl
among_either_way (other ∷ needed) term =
    ap₂ (λ (one more : Bool). one || more) (nat_list_eq_equiv.symm other term) (among_either_way needed term)

-- ---- addresses that are kept

module _ (p : ℕ → Bool) (address : ℕ) where
  other_than : (x : ℕ) → (p x ≡ p address → ⊥) → eqb x address ≡ false
  other_than x differs = false_from_ne_true (eqb x address) (λ same. differs (ap p (eqb-true x address same)))

  among_kept : (xs : List ℕ) → p address ≡ true → is_among (filter p xs) address ≡ is_among xs address
  among_kept [] passes = refl
  among_kept (x ∷ xs) passes = by (p x) refl (among_kept xs passes) where
    by : (b : Bool) → p x ≡ b → is_among (filter p xs) address ≡ is_among xs address
        → is_among (cond b (x ∷ filter p xs) (filter p xs)) address ≡ (eqb x address || is_among xs address)
    by true is more = ap (λ (b : Bool). eqb x address || b) more
    by false is more = rw (other_than x (λ same. false≢true (sym is ∙ same ∙ passes))) more

  among_left_out : (xs : List ℕ) → p address ≡ false → is_among (filter p xs) address ≡ false
  among_left_out [] fails = refl
  among_left_out (x ∷ xs) fails = by (p x) refl (among_left_out xs fails) where
    by : (b : Bool) → p x ≡ b → is_among (filter p xs) address ≡ false
        → is_among (cond b (x ∷ filter p xs) (filter p xs)) address ≡ false
    by true is more = rw (other_than x (λ same. false≢true (sym fails ∙ sym same ∙ is))) more
    by false is more = more

-- ---- lists that are cut

and_none : (b : Bool) → (b && false) ≡ false
and_none true = refl
and_none false = refl

module _ (frames : List Range) (term : List ℕ) (address : ℕ) where
  -- of an address in the frames they tell what all lists tell
  pub cut_has : (gathered : List GatheredTerm) → is_live frames address ≡ true
      → has_address (map (cut_to frames) gathered) term address ≡ has_address (map whole gathered) term address
  cut_has [] live = refl
  cut_has (one ∷ gathered) live =
      ap₂ (λ (b c : Bool). (pointwise nat_eq one.term term && b) || c) (among_kept (is_live frames) address one.at live)
      (cut_has gathered live)

  -- and no list has another
  cut_lacks : (gathered : List GatheredTerm) → is_live frames address ≡ false
      → has_address (map (cut_to frames) gathered) term address ≡ false
  cut_lacks [] dead = refl
  cut_lacks (one ∷ gathered) dead =
      ap₂ (λ (b c : Bool). (pointwise nat_eq one.term term && b) || c) (among_left_out (is_live frames) address one.at dead)
      (cut_lacks gathered dead)
      ∙ ap (λ (b : Bool). b || false) (and_none (pointwise nat_eq one.term term))

-- ---- addresses in frames

inside : (frame : Range) (address : ℕ) → frame.start ≤ address → address < frame.start + frame.len → is_in frame address ≡ true
inside frame address low high =
    and_from (leb frame.start address) _ (le-leb frame.start address low) (lt-ltb address (frame.start + frame.len) high)

pub live_in : (frames : List Range) (frame : Range) (address : ℕ) → Has frame frames → frame.start ≤ address
    → address < frame.start + frame.len → is_live frames address ≡ true
live_in frames frame address has low high =
    has_any (λ (range : Range). is_in range address) frame frames has (inside frame address low high)

live_of_kept : (kept : Range → Bool) (frames : List Range) (address : ℕ) → is_live (filter kept frames) address ≡ true
    → is_live frames address ≡ true
live_of_kept kept frames address live =
    let found = any_has (λ (range : Range). is_in range address) (filter kept frames) live in
    has_any (λ (range : Range). is_in range address) found.0 frames (filter_has kept found.0 frames found.1.0).0 found.1.1

-- ---- a needed term

module _ (region : Region) (frames : List Range) (gathered : List GatheredTerm) (found : List ℕ → List ℕ) (terms : List (List ℕ))
    (tells : map (cut_to frames) gathered ≡ map (list_at found) terms)
    (needed : GatheredTerm) (has : Has needed gathered) (needs : Needs region needed.term) (addresses : List ℕ)
    (addresses_are : addresses ≡ filter (is_live frames) needed.at) (up : IsStrictlyIncreasing addresses) where
  abbrev all : List TermList
  all = map (list_at found) terms

  abbrev near : List Range
  near = filter (has_one_of addresses) frames

  abbrev cut : List TermList
  cut = map (cut_to near) gathered

  are_addresses : AreAddressesOf all needed.term addresses
  are_addresses =
      let there = map_has (list_at found) (cut_to frames needed) terms
      (subst (Has (cut_to frames needed)) tells (Has-map (cut_to frames) needed gathered has)) in
      let term : there.0 ≡ needed.term = ap (λ (l : TermList). l.term) there.1.1 in
      let its : found there.0 ≡ addresses = ap (λ (l : TermList). l.at) there.1.1 ∙ sym addresses_are in
      record {
        ascending = up;
        same = λ address.
            ap (λ (xs : List ℕ). is_among xs address) (sym its)
            ∙ sym (lists_have found there.0 terms address (Contains-from_Has there.0 terms there.1.0))
            ∙ ap (λ (t : List ℕ). has_address all t address) term;
      }

  -- of an address in the frames that have the term
  same_near : (term : List ℕ) (address : ℕ) → is_live near address ≡ true → has_address cut term address ≡ has_address all term address
  same_near term address live =
      cut_has near term address gathered live
      ∙ sym (cut_has frames term address gathered (live_of_kept (has_one_of addresses) frames address live))
      ∙ ap (λ (lists : List TermList). has_address lists term address) tells

  same_in_near : (frame : Range) → Has frame near → frame_hits region cut frame ≡ frame_hits region all frame
  same_in_near frame kept =
      ap (map (moved frame.start))
      (hits_alike region frame.len (stands_by cut frame.start) (stands_by all frame.start)
      (λ term has place low.
      same_near term (frame.start + place) (live_in near frame (frame.start + place) kept (omega arith) (omega arith))))

  none_in_others : (frame : Range) → has_one_of addresses frame ≡ false → frame_hits region cut frame ≡ frame_hits region all frame
  none_in_others frame misses =
      let lacks : HasNone all needed.term frame = none_of_term all needed.term addresses frame are_addresses misses in
      none_without region cut frame needed.term needs
      (λ address low high.
      by address (is_live near address) refl (lacks address low high))
      ∙ sym (none_without region all frame needed.term needs lacks)
    where
      by : (address : ℕ) (b : Bool) → is_live near address ≡ b → has_address all needed.term address ≡ false
          → has_address cut needed.term address ≡ false
      by address true live lacks = same_near needed.term address live ∙ lacks
      by address false dead lacks = cut_lacks near needed.term address gathered dead

  -- where it stands in no address of a frame, there is no extent
  pub same_by_near : HaveSameExtents region frames cut all
  same_by_near =
      all_from_has (λ (frame : Range). frame_hits region cut frame ≡ frame_hits region all frame) frames
      (λ frame there. by frame there (has_one_of addresses frame) refl)
    where
      by : (frame : Range) → Has frame frames → (b : Bool) → has_one_of addresses frame ≡ b
          → frame_hits region cut frame ≡ frame_hits region all frame
      by frame there true meets = same_in_near frame (Has-filter (has_one_of addresses) frame frames there meets)
      by frame there false misses = none_in_others frame misses

-- ---- one term more

pub cut_named : (frames : List Range) (gathered : List GatheredTerm)
    → map (λ list. list.term) (map (cut_to frames) gathered) ≡ map (λ one. one.term) gathered
cut_named frames [] = refl
cut_named frames (one ∷ gathered) = ap (λ (ts : List (List ℕ)). one.term ∷ ts) (cut_named frames gathered)

pub cut_next : (frames : List Range) (gathered : List GatheredTerm) (i : ℕ) (one : GatheredTerm) → i < length gathered
    → one ≡ get_or gathered i one → {lists now : List TermList} {list : TermList} → lists ≡ map (cut_to frames) (take i gathered)
    → now ≡ lists ++ list ∷ [] → list ≡ cut_to frames one → now ≡ map (cut_to frames) (take (i + 1) gathered)
cut_next frames gathered i one within is {list = list} before pushed list_is =
    pushed ∙ ap₂ (λ (ls : List TermList) (l : TermList). ls ++ l ∷ []) before (list_is ∙ ap (cut_to frames) is)
    ∙ sym (map-append (cut_to frames) (take i gathered) (get_or gathered i one ∷ []))
    ∙ ap (map (cut_to frames)) (sym (take_more gathered i one within))

pub named_more : (terms : List (List ℕ)) (i : ℕ) (term : List ℕ) → i < length terms → term ≡ get_or terms i term
    → (gathered now : List GatheredTerm) (one : GatheredTerm) → map (λ one. one.term) gathered ≡ take i terms
    → now ≡ gathered ++ one ∷ [] → one.term ≡ term → map (λ one. one.term) now ≡ take (i + 1) terms
named_more terms i term within is gathered now one before pushed named =
    ap (map (λ (g : GatheredTerm). g.term)) pushed
    ∙ map-append (λ (g : GatheredTerm). g.term) gathered (one ∷ [])
    ∙ ap₂ (λ (ts : List (List ℕ)) (t : List ℕ). ts ++ t ∷ []) before (named ∙ is)
    ∙ sym (take_more terms i term within)

-- ---- the same extents in each frame

pub same_lists : (region : Region) (frames : List Range) {lists others : List TermList} → lists ≡ others
    → HaveSameExtents region frames lists others
same_lists region frames {lists} {others} same =
    all_from_has (λ (frame : Range). frame_hits region lists frame ≡ frame_hits region others frame) frames
    (λ frame there. ap (λ (ls : List TermList). frame_hits region ls frame) same)

pub same_of : (region : Region) (frames : List Range) (found : List ℕ → List ℕ) {lists items : List TermList}
    {terms asked : List (List ℕ)} → lists ≡ items → asked ≡ terms → HaveSameExtents region frames items (map (list_at found) asked)
    → HaveSameExtents region frames lists (map (list_at found) terms)
same_of region frames found {items = items} {terms} lists_are asked_are same =
    subst (λ (ls : List TermList). HaveSameExtents region frames ls (map (list_at found) terms)) (sym lists_are)
    (subst (λ (ts : List (List ℕ)). HaveSameExtents region frames items (map (list_at found) ts)) asked_are same)

-- ---- the frames that have a needed term

-- a word that is among the terms is one of them
pub among_has : (terms : List (List ℕ)) (word : List ℕ) → IsAmong terms word → Contains terms word
among_has terms word among =
    let one = any_has (pointwise nat_eq word) terms among in
    subst (Contains terms) (sym (same_text word one.0 (sym one.1.1))) (Contains-from_Has one.0 terms one.1.0)

-- so it is by lists that are cut to the frames that have the needed term at some place
pub same_for : (region : Region) (frames : List Range) (gathered : List GatheredTerm) (found : List ℕ → List ℕ)
    (terms needed : List (List ℕ)) → ((term : List ℕ) → Contains needed term → Needs region term)
    → map (cut_to frames) gathered ≡ map (list_at found) terms → (place : ℕ) → IsNeededAt needed gathered place
    → (one : GatheredTerm) → one ≡ get_or gathered place one → {addresses : List ℕ}
    → addresses ≡ filter (is_live frames) (get_or gathered place one).at
    → IsStrictlyIncreasing addresses → {near : List Range} → near ≡ filter (has_one_of addresses) frames → {lists : List TermList}
    → lists ≡ map (cut_to near) gathered → HaveSameExtents region frames lists (map (list_at found) terms)
same_for region frames gathered found terms needed needs tells place is one one_is {addresses} addresses_are up near_is lists_are =
    let there : (get_or gathered place one).term ≡ one.term = ap (λ (g : GatheredTerm). g.term) (sym one_is) in
    let its : Needs region one.term = needs one.term (among_has needed one.term (subst (IsAmong needed) there (is.among one))) in
    same_of region frames found (lists_are ∙ ap (λ (fs : List Range). map (cut_to fs) gathered) near_is) refl
    (same_by_near region frames gathered found terms tells one (Has-from_Contains one gathered (place, is.within, sym one_is)) its addresses
    (addresses_are ∙ ap (λ (g : GatheredTerm). filter (is_live frames) g.at) (sym one_is)) up)

module _ (region : Region) (lists others : List TermList) where
  -- are the same in all
  pub same_hits : (frames : List Range) → HaveSameExtents region frames lists others
      → frames_hits region lists frames ≡ frames_hits region others frames
  same_hits [] same = refl
  same_hits (frame ∷ frames) same = ap₂ (λ (xs ys : List Extent). xs ++ ys) same.0 (same_hits frames same.1)

  -- and as many frames have one
  pub same_files : (frames : List Range) → HaveSameExtents region frames lists others
      → count_by (λ frame. nat_lt 0 (length (frame_hits region lists frame))) frames
      ≡ count_by (λ frame. nat_lt 0 (length (frame_hits region others frame))) frames
  same_files [] same = refl
  same_files (frame ∷ frames) same =
      count-cons (λ f. nat_lt 0 (length (frame_hits region lists f))) frame frames
      ∙ ap₂ (λ (xs : List Extent) (n : ℕ). cond (nat_lt 0 (length xs)) 1 0 + n) same.0 (same_files frames same.1)
      ∙ sym (count-cons (λ f. nat_lt 0 (length (frame_hits region others f))) frame frames)
