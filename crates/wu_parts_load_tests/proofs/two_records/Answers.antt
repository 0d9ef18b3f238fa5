use Rattle.std.proofs.Common.{◌≡◌, ◌+◌, ◌^◌, ◌<◌, ◌≤◌, [], ◌∷◌, arith, rules}
use Rattle.std.specs.Prelude.{IsTrue}
use Rattle.std.proofs.Math.Pow.{pow_mono}
use Rattle.std.proofs.lemmas.List.Sums.{sum_by-cons}
use Rattle.wu_base.specs.declared.addresses.PartRec.{PartRec}
use Rattle.wu_layout.specs.Layouts.{Part}
use Rattle.wu_layout.specs.Invariants.{flushes_for}
use Rattle.wu_parts.specs.Loading.{AreLoadable}
use Rattle.wu_parts.specs.Units.{as_part, as_parts}
use Rattle.wu_parts_load_tests.proofs.two_records.Goals as goal

loadable_two : (first second : PartRec)
    → (first.low + first.stored ≤ first.high + 1) × (first.high < second.low) × (second.low + second.stored ≤ second.high + 1)
    × (first.blob < 100) × (second.blob < 100) × (first.generation ≤ 2) × (second.generation ≤ first.generation)
    → AreLoadable (first ∷ second ∷ []) 100 9
loadable_two first second h =
    let few : 2 ^ first.generation ≤ 2 ^ 2 = pow_mono h.5 in
    let fewer : 2 ^ second.generation ≤ 2 ^ first.generation = pow_mono h.6 in
    let sum : flushes_for (as_parts (first ∷ second ∷ [])) ≡ 2 ^ first.generation + flushes_for (as_part second ∷ []) =
    sum_by-cons (λ (part : Part). 2 ^ part.generation) (as_part first) (as_part second ∷ []) in
    let last : flushes_for (as_part second ∷ []) ≡ 2 ^ second.generation + 0 =
    sum_by-cons (λ (part : Part). 2 ^ part.generation) (as_part second) [] in
    record {
      spans = (omega arith, h.0, (omega (arith, h.1), h.2, tt));
      below = (h.3, (h.4, tt));
      never_rise = ((h.6, tt), (tt, tt));
      flushed = omega (arith, few, fewer, sum, last);
      few = omega arith;
    }

pub returns-then-are_loadable : goal.returns-then-are_loadable
returns-then-are_loadable c =
    let fits : IsTrue c.are_loadable.result = search rules in
    loadable_two c.in_ok-first.first c.in_ok-first.second (c.are_loadable.ensures fits)
