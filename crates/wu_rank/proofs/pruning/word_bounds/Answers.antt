use Rattle.std.proofs.Common.{◌≡◌, ◌*◌, ◌/◌, ℕ, length, ap, ◌∙◌, refl, arith}
use Rattle.wu_rank.specs.Scores.{count_at, holders, idf_of}
use Rattle.wu_rank.proofs.Bounds.{bounds_kept, kept_small}
use Rattle.wu_rank.proofs.Parts.{holders-le, idf-is, length-times}
use Rattle.wu_rank.proofs.pruning.word_bounds.Goals as goal

pub inverse_frequency-rarity-requires : goal.inverse_frequency-rarity-requires
inverse_frequency-rarity-requires c =
    let held : length c.in_ok-bounds.bounds.items ≡ holders count_at c.args.units.now c.args.list.now =
    ap length c.in_ok-bounds.ensures ∙ length-times c.args.list.now (length c.args.units.now) c.args.units.now in
    omega (arith, held, c.in_ok-bounds.bounds.ok.0, holders-le c.args.list.now c.args.units.now)

pub returns-clause-value : goal.returns-clause-value
returns-clause-value c =
    let held : c.len.result ≡ holders count_at c.args.units.now c.args.list.now =
    (omega (arith, c.len.ensures, c.in_ok-bounds.bounds.ok.0))
    ∙ ap length c.in_ok-bounds.ensures
    ∙ length-times c.args.list.now (length c.args.units.now) c.args.units.now in
    let is : c.inverse_frequency-rarity.result ≡ idf_of count_at c.args.units.now c.args.list.now =
    idf-is c.args.units.now c.args.list.now c.len.result (length c.args.units.now) c.inverse_frequency-rarity.result held refl
    c.inverse_frequency-rarity.ensures.value in
    bounds_kept c.args.units.now c.args.list.now _ c.in_ok-bounds.bounds.len c.put_bound.new.counts _ c.as_mut_slice.result.now
    (omega (arith, c.put_bound.auto.counts, c.as_mut_slice.ensures.len))
    c.put_bound.ensures (c.as_mut_slice.ensures.value ∙ c.in_ok-bounds.ensures)
    (ap (λ (r : ℕ). 22 * r / 10) (c.from.ensures ∙ is))

pub returns-clause-small : goal.returns-clause-small
returns-clause-small c =
    kept_small _ c.in_ok-bounds.bounds.len c.put_bound.new.counts _ c.as_mut_slice.result.now
    (omega (arith, c.put_bound.auto.counts, c.as_mut_slice.ensures.len))
    c.put_bound.ensures (omega (arith, c.inverse_frequency-rarity.ensures.small))
