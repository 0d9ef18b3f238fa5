-- Where there is no more to do in the background, generations fall, so there are few parts, and most of each part is live.
use Rattle.std.proofs.Common.{◌≡◌, ℕ, ◌+◌, ◌^◌, ◌<◌, ◌≤◌, not, Bool, true, false, List, [], ◌∷◌, length, Option, Some, None, is_some}
use Rattle.std.proofs.Common.{option_map, position, zip, refl, arith, pow_mono, pow-suc}
use Rattle.std.specs.Option.{option_or}
use Rattle.std.specs.List.{AllByRecursion}
use Rattle.std.proofs.lemmas.Bool.{leb-false, eqb-false}
use Rattle.std.proofs.lemmas.List.Sums.{sum_by-cons}
use Rattle.wu_base.specs.declared.addresses.Range.{Range}
use Rattle.wu_base.proofs.EachLemmas.{each-map}
use Rattle.wu_base.proofs.Options.{mapped_none}
use Rattle.wu_base.proofs.Positions.{none_later, none_passes}
use Rattle.wu_layout.specs.Postings.{live_of, dead_of}
use Rattle.wu_layout.specs.Layouts.{Text, Part, Layout, ranges_of}
use Rattle.wu_layout.specs.Invariants.{NeverRise, Fall, flushes_for, AreFewParts, IsLayoutOf}
use Rattle.wu_layout.specs.Steps.{alike_neighbours, is_half_dead, job_at, pick, job_of, is_idle}
use Rattle.wu_layout.proofs.Picks.{alike}

-- ---- nothing is found

module _ {X : Type 0} where
  pub none_of_idle : (o : Option X) → not (is_some o) ≡ true → o ≡ None
  none_of_idle None e = refl
  none_of_idle (Some x) e = absurd cc

  pub neither : (o p : Option X) → option_or o p ≡ None → (o ≡ None) × (p ≡ None)
  neither None p e = (refl, e)
  neither (Some x) p e = absurd cc

-- ---- generations fall

pub fall : (parts : List Part) → alike_neighbours parts ≡ None → NeverRise parts → Fall parts
fall [] e n = tt
fall (part ∷ []) e n = (tt, tt)
fall (left ∷ right ∷ more) e n =
    let r = none_later alike (left, right) (zip (right ∷ more) more) e in
    let less : right.generation < left.generation = omega (arith, n.0.0, eqb-false left.generation right.generation r.0) in (
      (less, each-map (λ p. p.generation ≤ right.generation) (λ p. p.generation < left.generation) more (λ p l. omega arith) n.1.0),
      fall (right ∷ more) r.1 n.1,
    )

-- as many parts as their generations are below
as_many : (n : ℕ) (parts : List Part) → AllByRecursion (λ part. part.generation < n) parts → Fall parts → length parts ≤ n
as_many n [] a f = omega arith
as_many n (part ∷ parts) a f = let r : length parts ≤ part.generation = as_many part.generation parts f.0 f.1 in omega (arith, a.0)

pub few : (parts : List Part) → Fall parts → 2 ^ length parts ≤ flushes_for parts + 1
few [] f = omega arith
few (part ∷ parts) f =
    let least : 2 ^ length parts ≤ 2 ^ part.generation = pow_mono (as_many part.generation parts f.0 f.1) in
    let rest : 2 ^ length parts ≤ flushes_for parts + 1 = few parts f.1 in
    omega (arith, pow-suc 2 (length parts), sum_by-cons (λ (p : Part). 2 ^ p.generation) part parts)

-- ---- all of it

pub few_where_idle : (is_file : ℕ → Bool) (text_of : ℕ → Text) (layout : Layout) → IsLayoutOf is_file text_of layout
    → is_idle layout ≡ true → AreFewParts (ranges_of layout.files) layout.flushes layout.parts
few_where_idle is_file text_of layout d e =
    let ranges : List Range = ranges_of layout.files in
    let none = neither layout.job (pick layout) (none_of_idle (job_of layout) e) in
    let either = neither (option_map (job_at layout 2) (alike_neighbours layout.parts))
    (option_map (job_at layout 1) (position (is_half_dead ranges) layout.parts)) none.1 in
    let falls : Fall layout.parts =
    fall layout.parts (mapped_none (job_at layout 2) (alike_neighbours layout.parts) either.0) d.generations.never_rise in
    record {
      fall = falls;
      few = omega (arith, few layout.parts falls, d.generations.flushed);
      mostly_live =
          each-map (λ part. is_half_dead ranges part ≡ false)
          (λ part. length (dead_of ranges part.postings) < length (live_of ranges part.postings)) layout.parts
          (λ part f. leb-false (length (live_of ranges part.postings)) (length (dead_of ranges part.postings)) f)
          (none_passes (is_half_dead ranges) layout.parts
          (mapped_none (job_at layout 1) (position (is_half_dead ranges) layout.parts) either.1));
    }
