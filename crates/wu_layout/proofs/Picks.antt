-- The job that the policy names is one that may be under way.
use Rattle.std.proofs.Common.{◌≡◌, ℕ, suc, ◌<◌, ◌≤◌, ◌==◌, nat_lt, Bool, true, false, cond, List, [], ◌∷◌, length, map, filter, take, drop}
use Rattle.std.proofs.Common.{Some, None, option_map, position, zip, refl, ap, sym, ◌∙◌, subst, arith, ⊎_elim, inl, inr, length-append}
use Rattle.std.proofs.Common.{length-take, length-drop}
use Rattle.std.specs.Option.{option_or}
use Rattle.std.specs.List.{AllByRecursion, position_or_len}
use Rattle.std.proofs.lemmas.Bool.{cases_Bool, ltb-true, eqb-true, eqb-false}
use Rattle.std.proofs.lemmas.Cmp.{nat_list_cmp_total}
use Rattle.std.proofs.lemmas.Map.Lookups.{exact_bytes}
use Rattle.std.proofs.lemmas.Option.{cond_some, same_Some}
use Rattle.wu_base.specs.declared.addresses.Range.{Range}
use Rattle.wu_base.proofs.Members.{Has}
use Rattle.wu_base.proofs.SortedLists.{has-sorted_once}
use Rattle.wu_base.proofs.EachLemmas.{each-take, each-drop, each-map}
use Rattle.wu_base.proofs.Positions.{first_here, first_later, place_later}
use Rattle.wu_layout.specs.Postings.{Posting, has_some}
use Rattle.wu_layout.specs.Layouts.{Part, Layout, entry_of, ranges_of, stored_in, terms_of}
use Rattle.wu_layout.specs.Invariants.{NeverRise, MayBeTaken, IsAmong, AddressesAscend, IsUnderWay, JobIsUnderWay}
use Rattle.wu_layout.specs.Steps.{alike_neighbours, is_half_dead, job_at, pick}
use Rattle.wu_layout.proofs.EntryLemmas.{IfSome-map}
use Rattle.wu_layout.proofs.KeptLemmas.{among_ranges}

-- ---- the first that passes a test

found_within : {X : Type 0} (test : X → Bool) (xs : List X) (place : ℕ) → position test xs ≡ Some place → place < length xs
found_within test xs place e =
    let r = cond_some (nat_lt (position_or_len test xs) (length xs)) (position_or_len test xs) place e in
    omega (arith, ltb-true _ _ r.0, r.1)

zip_shorter : {X Y : Type 0} (xs : List X) (ys : List Y) → length (zip xs ys) ≤ length ys
zip_shorter [] ys = omega arith
zip_shorter (x ∷ xs) [] = omega arith
zip_shorter (x ∷ xs) (y ∷ ys) = let r : length (zip xs ys) ≤ length ys = zip_shorter xs ys in omega arith

-- ---- which parts are taken

abbrev pub alike : Part × Part → Bool
alike pair = pair.0.generation == pair.1.generation

pair_number : (parts : List Part) (place : ℕ) → alike_neighbours parts ≡ Some place → length (take 2 (drop place parts)) ≡ 2
pair_number parts place e =
    let within : place < length (zip parts (drop 1 parts)) = found_within alike (zip parts (drop 1 parts)) place e in
    omega (arith, zip_shorter parts (drop 1 parts), length-drop 1 parts, length-drop place parts, length-take 2 (drop place parts))

one_number : (test : Part → Bool) (parts : List Part) (place : ℕ) → position test parts ≡ Some place
    → length (take 1 (drop place parts)) ≡ 1
one_number test parts place e =
    let within : place < length parts = found_within test parts place e in
    omega (arith, length-drop place parts, length-take 1 (drop place parts))

one_may_be_taken : (before taken : List Part) → length taken ≡ 1 → MayBeTaken before taken
one_may_be_taken before [] e = absurd (omega arith)
one_may_be_taken before (part ∷ []) e = tt
one_may_be_taken before (first ∷ second ∷ more) e = absurd (omega arith)

-- one more part on the left, of a greater generation
pub one_more_before : (part : Part) (before taken : List Part) → AllByRecursion (λ p. p.generation < part.generation) taken
    → MayBeTaken before taken → MayBeTaken (part ∷ before) taken
one_more_before part before [] a m = m
one_more_before part before (first ∷ []) a m = tt
one_more_before part before (left ∷ right ∷ []) a m = (m.0, (a.0, m.1))
one_more_before part before (first ∷ second ∷ third ∷ more) a m = m

abbrev MayBeTakenAt : List Part → ℕ → Type 0
MayBeTakenAt parts place = MayBeTaken (take place parts) (take 2 (drop place parts))

module _ (left right : Part) (more : List Part) (place : ℕ) (e : alike_neighbours (left ∷ right ∷ more) ≡ Some place) where
  pair_here : (left.generation == right.generation) ≡ true → MayBeTakenAt (left ∷ right ∷ more) place
  pair_here t =
      let first : alike_neighbours (left ∷ right ∷ more) ≡ Some 0 = first_here alike (left, right) (zip (right ∷ more) more) t in
      let here : 0 ≡ place = same_Some 0 place (sym first ∙ e) in
      subst (MayBeTakenAt (left ∷ right ∷ more)) here (eqb-true left.generation right.generation t, tt)

  pair_later : (left.generation == right.generation) ≡ false → NeverRise (left ∷ right ∷ more)
      → ((k : ℕ) → alike_neighbours (right ∷ more) ≡ Some k → MayBeTakenAt (right ∷ more) k)
      → MayBeTakenAt (left ∷ right ∷ more) place
  pair_later f n rest =
      let later : alike_neighbours (left ∷ right ∷ more) ≡ option_map (λ k. suc k) (alike_neighbours (right ∷ more)) =
      first_later alike (left, right) (zip (right ∷ more) more) f in
      let r = place_later (alike_neighbours (right ∷ more)) place (sym later ∙ e) in
      let less : right.generation < left.generation =
      omega (arith, n.0.0, eqb-false left.generation right.generation f) in
      let all_less : AllByRecursion (λ (p : Part). p.generation < left.generation) (right ∷ more) =
      (less, each-map (λ p. p.generation ≤ right.generation) (λ p. p.generation < left.generation) more (λ p l. omega arith) n.1.0) in
      subst (MayBeTakenAt (left ∷ right ∷ more)) r.1.1
      (one_more_before left (take r.0 (right ∷ more)) (take 2 (drop r.0 (right ∷ more)))
      (each-take (λ (p : Part). p.generation < left.generation) 2 (drop r.0 (right ∷ more))
      (each-drop (λ (p : Part). p.generation < left.generation) r.0 (right ∷ more) all_less))
      (rest r.0 r.1.0))

-- left of the leftmost two of equal generations all generations differ, so they fall
pair_may_be_taken : (parts : List Part) (place : ℕ) → alike_neighbours parts ≡ Some place → NeverRise parts → MayBeTakenAt parts place
pair_may_be_taken [] place e n = absurd cc
pair_may_be_taken (part ∷ []) place e n = absurd cc
pair_may_be_taken (left ∷ right ∷ more) place e n =
    ⊎_elim
    (λ (t : (left.generation == right.generation) ≡ true). pair_here left right more place e t)
    (λ (f : (left.generation == right.generation) ≡ false).
    pair_later left right more place e f n (λ k g. pair_may_be_taken (right ∷ more) k g n.1))
    (cases_Bool (left.generation == right.generation))

-- ---- a job at its start

IsAmong-filter : (test : Range → Bool) (range : Range) (ranges : List Range) → test range ≡ true → IsAmong ranges range
    → IsAmong (filter test ranges) range
IsAmong-filter test range [] t h = absurd h
IsAmong-filter test range (other ∷ ranges) t h =
    elim (test other) as (λ b. test other ≡ b → IsAmong (cond b (other ∷ filter test ranges) (filter test ranges)) range) [
      | true ↦ λ q. ⊎_elim (λ e. inl e) (λ i. inr (IsAmong-filter test range ranges t i)) h
      | false ↦ λ q.
          ⊎_elim (λ e. let g : test other ≡ true = ap test e ∙ t in absurd cc) (λ i. IsAmong-filter test range ranges t i) h
    ] refl

has_long : {X : Type 0} (x : X) (xs : List X) → Has x xs → 0 < length xs
has_long x [] h = absurd h
has_long x (y ∷ ys) h = omega arith

terms_long : (postings : List Posting) → 0 < length postings → 0 < length (terms_of postings)
terms_long [] l = absurd (omega arith)
terms_long (p ∷ ps) l =
    has_long p.term (terms_of (p ∷ ps))
    (has-sorted_once nat_list_cmp_total exact_bytes p.term (map (λ (posting : Posting). posting.term) (p ∷ ps)) (inl refl))

stored_long : (parts : List Part) → AllByRecursion (λ part. 0 < length part.postings) parts → 0 < length parts
    → 0 < length (stored_in parts)
stored_long [] a l = absurd (omega arith)
stored_long (part ∷ parts) a l = omega (arith, a.0, length-append part.postings (stored_in parts))

module _ (is_file : ℕ → Bool) (layout : Layout) (memory : List Posting)
    (addresses : AddressesAscend layout.next layout.parts memory) where
  started : (count place : ℕ) → 0 < count → length (take count (drop place layout.parts)) ≡ count
      → MayBeTaken (take place layout.parts) (take count (drop place layout.parts))
      → IsUnderWay layout.files layout.parts (job_at layout count place)
  started count place l e m =
      let taken : List Part = take count (drop place layout.parts) in
      let long : 0 < length (stored_in taken) =
      stored_long taken
      (each-take (λ (part : Part). 0 < length part.postings) count (drop place layout.parts)
      (each-drop (λ (part : Part). 0 < length part.postings) place layout.parts addresses.filled))
      (omega arith) in
      record {
        number = e;
        taken = m;
        terms = ([], (refl, terms_long (stored_in taken) long));
        was_live = λ ino.
            IfSome-map _ _ (entry_of layout.files ino)
            (λ entry i.
            ⊎_elim
            (λ (t : has_some entry.range (stored_in taken) ≡ true).
            inr (IsAmong-filter (λ range. has_some range (stored_in taken)) entry.range (ranges_of layout.files) t i))
            (λ (f : has_some entry.range (stored_in taken) ≡ false). inl f)
            (cases_Bool (has_some entry.range (stored_in taken))))
            (among_ranges layout.files ino);
      }

  pub picked : NeverRise layout.parts → JobIsUnderWay layout.files layout.parts (pick layout)
  picked n =
      elim (alike_neighbours layout.parts) as
      (λ o. alike_neighbours layout.parts ≡ o
      → JobIsUnderWay layout.files layout.parts
      (option_or (option_map (job_at layout 2) o)
      (option_map (job_at layout 1) (position (is_half_dead (ranges_of layout.files)) layout.parts)))) [
        | Some place ↦ λ e.
            started 2 place (omega arith) (pair_number layout.parts place e) (pair_may_be_taken layout.parts place e n)
        | None ↦ λ e.
            elim (position (is_half_dead (ranges_of layout.files)) layout.parts) as
            (λ o. position (is_half_dead (ranges_of layout.files)) layout.parts ≡ o
            → JobIsUnderWay layout.files layout.parts (option_map (job_at layout 1) o)) [
              | Some place ↦ λ f.
                  let one : length (take 1 (drop place layout.parts)) ≡ 1 =
                  one_number (is_half_dead (ranges_of layout.files)) layout.parts place f in
                  started 1 place (omega arith) one
                  (one_may_be_taken (take place layout.parts) (take 1 (drop place layout.parts)) one)
              | None ↦ λ f. tt
            ] refl
      ] refl
