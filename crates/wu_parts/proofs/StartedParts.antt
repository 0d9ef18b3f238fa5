-- The job that the policy names, at its start, is on parts that may be taken.
use Rattle.std.proofs.Common.{◌≡◌, ℕ, zero, suc, ◌+◌, ◌^◌, ◌<◌, ◌≤◌, ◌==◌, true, false, List, [], ◌∷◌, length, map, take, drop, get_or}
use Rattle.std.proofs.Common.{Some, option_map, zip, refl, ap, ap₂, sym, ◌∙◌, subst, arith, ⊎_elim, pow_mono}
use Rattle.std.specs.Prelude.{IsPermutation}
use Rattle.std.specs.List.{AllByRecursion}
use Rattle.std.proofs.lemmas.Bool.{cases_Bool, cases_lt, eqb-true, eqb-false}
use Rattle.std.proofs.lemmas.List.Sums.{sum_by-cons}
use Rattle.std.proofs.lemmas.Option.{same_Some}
use Rattle.wu_base.specs.declared.addresses.Range.{Range}
use Rattle.wu_base.specs.declared.limits.TheConstants.{GENERATION_MAX}
use Rattle.wu_base.proofs.EachLemmas.{each-drop, each-map, each-take}
use Rattle.wu_base.proofs.Positions.{first_here, first_later, place_later}
use Rattle.wu_layout.proofs.Picks.{alike, one_more_before}
use Rattle.wu_layout.specs.Layouts.{Part}
use Rattle.wu_layout.specs.Invariants.{MayBeTaken, NeverRise, flushes_for}
use Rattle.wu_layout.specs.Steps.{alike_neighbours, made_generation as made}
use Rattle.wu_part.specs.Parts.{IsRecorded}
use Rattle.wu_space.specs.Addresses.{Ranges, live_ranges}
use Rattle.wu_job.specs.Jobs.{JobPart, JobState, highest, lowest, started}
use Rattle.wu_parts.specs.StoredParts.{IsStarted, MayBeMerged, SpansAscend, directories_of, records_of}
use Rattle.wu_parts.specs.Units.{as_part, as_parts, parts_at}
use Rattle.wu_parts.specs.declared.working.NextJob.TheVariants.{Merge, Collect}
use Rattle.wu_parts.specs.declared.writing.StoredPart.{StoredPart}
use Rattle.wu_parts.proofs.EndedJobs.{as_parts_taken}
use Rattle.wu_parts.proofs.SoundParts.{job_part, parts_at_stored, same_length}

-- ---- the leftmost pair

abbrev IsPair : List Part → ℕ → Type 0
IsPair parts place = (place + 1 < length parts) × MayBeTaken (take place parts) (take 2 (drop place parts))

pair_on : (left right : Part) (more : List Part) (place k : ℕ) → suc k ≡ place
    → AllByRecursion (λ p. p.generation < left.generation) (right ∷ more) → IsPair (right ∷ more) k → IsPair (left ∷ right ∷ more) place
pair_on left right more place k e a p =
    subst (IsPair (left ∷ right ∷ more)) e (
      omega (arith, p.0),
      one_more_before left (take k (right ∷ more)) (take 2 (drop k (right ∷ more)))
          (each-take (λ (q : Part). q.generation < left.generation) 2 (drop k (right ∷ more))
          (each-drop (λ (q : Part). q.generation < left.generation) k (right ∷ more) a))
          p.1,
    )

pub pair_taken : (parts : List Part) (place : ℕ) → alike_neighbours parts ≡ Some place → NeverRise parts → IsPair parts place
pair_taken [] place e n = absurd cc
pair_taken (part ∷ []) place e n = absurd cc
pair_taken (left ∷ right ∷ more) place e n =
    ⊎_elim
    (λ (t : (left.generation == right.generation) ≡ true).
    let first : alike_neighbours (left ∷ right ∷ more) ≡ Some 0 = first_here alike (left, right) (zip (right ∷ more) more) t in
    subst (IsPair (left ∷ right ∷ more)) (same_Some 0 place (sym first ∙ e))
    (omega arith, (eqb-true left.generation right.generation t, tt)))
    (λ (f : (left.generation == right.generation) ≡ false).
    let later : alike_neighbours (left ∷ right ∷ more) ≡ option_map (λ k. suc k) (alike_neighbours (right ∷ more)) =
    first_later alike (left, right) (zip (right ∷ more) more) f in
    let r = place_later (alike_neighbours (right ∷ more)) place (sym later ∙ e) in
    let less : right.generation < left.generation =
    omega (arith, n.0.0, eqb-false left.generation right.generation f) in
    pair_on left right more place r.0 r.1.1
    (less, each-map (λ p. p.generation ≤ right.generation) (λ p. p.generation < left.generation) more (λ p l. omega arith) n.1.0)
    (pair_taken (right ∷ more) r.0 r.1.0 n.1))
    (cases_Bool (left.generation == right.generation))

-- ---- parts at a place

module _ {X : Type 0} where
  pub each-at : (P : X → Type 0) (xs : List X) (n : ℕ) (x : X) → AllByRecursion P xs → n < length xs → x ≡ get_or xs n x → P x
  each-at P [] n x a l e = absurd (omega (arith, l))
  each-at P (y ∷ xs) zero x a l e = subst P (sym e) a.0
  each-at P (y ∷ xs) (suc n) x a l e = each-at P xs n x a.1 (omega (arith, l)) e

  take_one : (n : ℕ) (xs : List X) (x : X) → n < length xs → x ≡ get_or xs n x → take 1 (drop n xs) ≡ x ∷ []
  take_one n [] x l e = absurd (omega (arith, l))
  take_one zero (y ∷ xs) x l e = ap (λ (z : X). z ∷ []) (sym e)
  take_one (suc n) (y ∷ xs) x l e = take_one n xs x (omega (arith, l)) e

  two_at : (n : ℕ) (xs : List X) (x y : X) → suc n < length xs → x ≡ get_or xs n x → y ≡ get_or xs (suc n) y
      → take 2 (drop n xs) ≡ x ∷ y ∷ []
  two_at n [] x y l e f = absurd (omega (arith, l))
  two_at zero (a ∷ []) x y l e f = absurd (omega (arith, l))
  two_at zero (a ∷ b ∷ xs) x y l e f = ap₂ (λ (p q : X). p ∷ q ∷ []) (sym e) (sym f)
  two_at (suc n) (a ∷ xs) x y l e f = two_at n xs x y (omega (arith, l)) e f

  take_two : (n : ℕ) (xs : List X) (x y : X) → n + 1 < length xs → x ≡ get_or xs n x → y ≡ get_or xs (n + 1) y
      → take 2 (drop n xs) ≡ x ∷ y ∷ []
  take_two n xs x y l e f =
      let next : n + 1 ≡ suc n = omega arith in two_at n xs x y (omega (arith, l)) e (f ∙ ap (λ (m : ℕ). get_or xs m y) next)

spans_at : (low high : ℕ) (parts : List StoredPart) (n : ℕ) (left right : StoredPart) → SpansAscend low high parts → suc n < length parts
    → left ≡ get_or parts n left → right ≡ get_or parts (suc n) right → left.recorded.high < right.recorded.low
spans_at low high [] n left right s l e f = absurd (omega (arith, l))
spans_at low high (a ∷ []) n left right s l e f = absurd (omega (arith, l))
spans_at low high (a ∷ b ∷ parts) zero left right s l e f =
    omega (
      arith,
      s.2.0,
      ap (λ (p : StoredPart). p.recorded.high) e,
      ap (λ (p : StoredPart). p.recorded.low) f,
    )
spans_at low high (a ∷ b ∷ parts) (suc n) left right s l e f =
    spans_at (a.recorded.high + 1) high (b ∷ parts) n left right s.2 (omega (arith, l)) e f

pub spans_of_pair : (parts : List StoredPart) (n : ℕ) (left right : StoredPart) → MayBeMerged parts → n + 1 < length parts
    → left ≡ get_or parts n left → right ≡ get_or parts (n + 1) right → left.recorded.high < right.recorded.low
spans_of_pair parts n left right ready l e f =
    let next : n + 1 ≡ suc n = omega arith in
    spans_at ready.low ready.high parts n left right ready.spans (omega (arith, l)) e (f ∙ ap (λ (m : ℕ). get_or parts m right) next)

pair_cost : (parts : List Part) (n : ℕ) (left right : Part) → take 2 (drop n parts) ≡ left ∷ right ∷ []
    → 2 ^ left.generation + 2 ^ right.generation ≤ flushes_for parts
pair_cost [] zero left right e = absurd (omega (arith, ap length e))
pair_cost [] (suc n) left right e = absurd (omega (arith, ap length e))
pair_cost (a ∷ []) zero left right e = absurd (omega (arith, ap length e))
pair_cost (a ∷ b ∷ parts) zero left right e =
    let first : a ≡ left = same_first a left (b ∷ []) (right ∷ []) e in
    let second : b ≡ right = same_first b right [] [] (ap (drop 1) e) in
    omega (
      arith,
      ap (λ (p : Part). 2 ^ p.generation) first,
      ap (λ (p : Part). 2 ^ p.generation) second,
      sum_by-cons (λ (p : Part). 2 ^ p.generation) a (b ∷ parts),
      sum_by-cons (λ (p : Part). 2 ^ p.generation) b parts,
    )
  where
    same_first : (a b : Part) (xs ys : List Part) → a ∷ xs ≡ b ∷ ys → a ≡ b
    same_first a b xs ys e = cc
pair_cost (a ∷ parts) (suc n) left right e =
    omega (arith, pair_cost parts n left right e, sum_by-cons (λ (p : Part). 2 ^ p.generation) a parts)

below_greatest : (g flushes : ℕ) → 2 ^ g + 2 ^ g ≤ flushes → flushes < 2 ^ 63 → g < GENERATION_MAX
below_greatest g flushes l h =
    ⊎_elim
    (λ (b : g < GENERATION_MAX). b)
    (λ (b : GENERATION_MAX ≤ g). let p : 2 ^ 62 ≤ 2 ^ g = pow_mono b in absurd (omega (arith, p, l, h)))
    (cases_lt g GENERATION_MAX)

-- ---- jobs

module _ (ranges : Ranges) (parts : List StoredPart) (place : ℕ) (ready : MayBeMerged parts) where
  module _ (part : StoredPart) (live : List Range) (job : JobState) (l : place < length parts) (e : part ≡ get_or parts place part)
      (began : job ≡ started (job_part part ∷ []) live part.recorded.generation) (left : 0 < length job.terms_left)
      (met : IsPermutation (live_ranges ranges part.recorded.low part.recorded.high) live) where
    its_part : parts_at place 1 (records_of parts) (directories_of parts) ≡ job_part part ∷ []
    its_part = parts_at_stored place 1 parts ∙ ap (map job_part) (take_one place parts part l e)

    its_bare : take 1 (drop place (as_parts (records_of parts))) ≡ as_part part.recorded ∷ []
    its_bare = as_parts_taken place 1 parts ∙ ap (λ (ps : List StoredPart). as_parts (records_of ps)) (take_one place parts part l e)

    its_told : IsRecorded part.recorded part.directory
    its_told = each-at (λ (p : StoredPart). IsRecorded p.recorded p.directory) parts place part ready.told l e

    its_parts : job.parts ≡ job_part part ∷ []
    its_parts = ap (λ (state : JobState). state.parts) began

    its_live : job.live ≡ live
    its_live = ap (λ (state : JobState). state.live) began

    its_generation : job.generation ≡ part.recorded.generation
    its_generation = ap (λ (state : JobState). state.generation) began

    pub collect_started : IsStarted ranges parts (Collect place) (record { place = place; count = 1; job = job })
    collect_started = record {
      kept = record {
        running = record {
          paired = same_length parts;
          parts =
              its_parts ∙ sym its_part
              ∙ ap (λ (count : ℕ). parts_at place count (records_of parts) (directories_of parts)) (sym (ap length its_parts));
          taken =
              subst (λ count. MayBeTaken (take place (as_parts (records_of parts))) (take count (drop place (as_parts (records_of parts)))))
              (sym (ap length its_parts))
              (subst (MayBeTaken (take place (as_parts (records_of parts)))) (sym its_bare) tt);
          generation =
              let none : part.recorded.generation ≡ part.recorded.generation + 0 = omega arith in
              its_generation
              ∙ none
              ∙ ap made (sym its_bare)
              ∙ ap (λ (count : ℕ). made (take count (drop place (as_parts (records_of parts))))) (sym (ap length its_parts));
          left = left;
        };
        count = sym (ap length its_parts);
      };
      place = refl;
      began =
          began
          ∙ ap₂ (λ (ps : List JobPart) (rs : List Range). started ps rs part.recorded.generation) (sym its_part) (sym its_live)
          ∙ ap (λ (g : ℕ). started (parts_at place 1 (records_of parts) (directories_of parts)) job.live g) (sym its_generation);
      live =
          subst (λ (ps : List JobPart). IsPermutation (live_ranges ranges (lowest ps) (highest ps)) job.live) (sym its_parts)
          (subst (λ n. IsPermutation (live_ranges ranges n part.directory.high) job.live) (sym its_told.low)
          (subst (λ n. IsPermutation (live_ranges ranges part.recorded.low n) job.live) (sym its_told.high)
          (subst (IsPermutation (live_ranges ranges part.recorded.low part.recorded.high)) (sym its_live) met)));
    }

  module _ (first second : StoredPart) (l : place + 1 < length parts)
      (e : first ≡ get_or parts place first) (f : second ≡ get_or parts (place + 1) second)
      (named : alike_neighbours (as_parts (records_of parts)) ≡ Some place) where
    both_parts : parts_at place 2 (records_of parts) (directories_of parts) ≡ job_part first ∷ job_part second ∷ []
    both_parts = parts_at_stored place 2 parts ∙ ap (map job_part) (take_two place parts first second l e f)

    both_bare : take 2 (drop place (as_parts (records_of parts))) ≡ as_part first.recorded ∷ as_part second.recorded ∷ []
    both_bare =
        as_parts_taken place 2 parts ∙ ap (λ (ps : List StoredPart). as_parts (records_of ps)) (take_two place parts first second l e f)

    both_taken : MayBeTaken (take place (as_parts (records_of parts))) (as_part first.recorded ∷ as_part second.recorded ∷ [])
    both_taken =
        subst (MayBeTaken (take place (as_parts (records_of parts)))) both_bare
        (pair_taken (as_parts (records_of parts)) place named ready.never_rise).1

    pub both_alike : first.recorded.generation ≡ second.recorded.generation
    both_alike = both_taken.0

    pub both_below : first.recorded.generation < GENERATION_MAX
    both_below =
        below_greatest first.recorded.generation (flushes_for (as_parts (records_of parts)))
        (omega (
          arith,
          pair_cost (as_parts (records_of parts)) place (as_part first.recorded) (as_part second.recorded) both_bare,
          ap (λ (g : ℕ). 2 ^ g) both_alike,
        ))
        ready.few

    first_told : IsRecorded first.recorded first.directory
    first_told = each-at (λ (p : StoredPart). IsRecorded p.recorded p.directory) parts place first ready.told (omega (arith, l)) e

    second_told : IsRecorded second.recorded second.directory
    second_told = each-at (λ (p : StoredPart). IsRecorded p.recorded p.directory) parts (place + 1) second ready.told l f

    module _ (live : List Range) (job : JobState)
        (began : job ≡ started (job_part first ∷ job_part second ∷ []) live (first.recorded.generation + 1))
        (left : 0 < length job.terms_left) (met : IsPermutation (live_ranges ranges first.recorded.low second.recorded.high) live) where
      own_parts : job.parts ≡ job_part first ∷ job_part second ∷ []
      own_parts = ap (λ (state : JobState). state.parts) began

      own_live : job.live ≡ live
      own_live = ap (λ (state : JobState). state.live) began

      own_generation : job.generation ≡ first.recorded.generation + 1
      own_generation = ap (λ (state : JobState). state.generation) began

      pub merge_started : IsStarted ranges parts (Merge place) (record { place = place; count = 2; job = job })
      merge_started = record {
        kept = record {
          running = record {
            paired = same_length parts;
            parts =
                own_parts ∙ sym both_parts
                ∙ ap (λ (count : ℕ). parts_at place count (records_of parts) (directories_of parts)) (sym (ap length own_parts));
            taken =
                subst (λ count. MayBeTaken (take place (as_parts (records_of parts))) (take count (drop place (as_parts (records_of parts)))))
                (sym (ap length own_parts))
                (subst (MayBeTaken (take place (as_parts (records_of parts)))) (sym both_bare) both_taken);
            generation =
                own_generation
                ∙ ap made (sym both_bare)
                ∙ ap (λ (count : ℕ). made (take count (drop place (as_parts (records_of parts))))) (sym (ap length own_parts));
            left = left;
          };
          count = sym (ap length own_parts);
        };
        place = refl;
        began =
            began
            ∙ ap₂ (λ (ps : List JobPart) (rs : List Range). started ps rs (first.recorded.generation + 1)) (sym both_parts) (sym own_live)
            ∙ ap (λ (g : ℕ). started (parts_at place 2 (records_of parts) (directories_of parts)) job.live g) (sym own_generation);
        live =
            subst (λ (ps : List JobPart). IsPermutation (live_ranges ranges (lowest ps) (highest ps)) job.live) (sym own_parts)
            (subst (λ n. IsPermutation (live_ranges ranges n second.directory.high) job.live) (sym first_told.low)
            (subst (λ n. IsPermutation (live_ranges ranges first.recorded.low n) job.live) (sym second_told.high)
            (subst (IsPermutation (live_ranges ranges first.recorded.low second.recorded.high)) (sym own_live) met)));
      }
