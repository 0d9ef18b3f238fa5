use Rattle.std.proofs.Common.{◌≡◌, ◌^◌, ◌≤◌, List, length, refl, ap, sym, ◌∙◌, subst, arith}
use Rattle.std.specs.List.{AllByRecursion}
use Rattle.std.proofs.lemmas.List.Elements.{All-from_recursion}
use Rattle.wu_rank.specs.declared.entries.Entry.{Entry}
use Rattle.wu_rank.specs.Entries.{entries, times_in, IsWithin}
use Rattle.wu_rank.specs.Scores.{count_at, holders}
use Rattle.wu_rank.proofs.Ascending.{increasing_ascend}
use Rattle.wu_rank.proofs.Parts.{counts_within, holders-le, idf-is, length-times, weights_are, weights_kept, weights-small}
use Rattle.wu_rank.proofs.scoring.parts_of.Goals as goal

pub counts_of-requires-clause-ascend : goal.counts_of-requires-clause-ascend
counts_of-requires-clause-ascend g c = c.requires.rankable.ascending 0 c.args.list.now (omega arith)

pub inverse_frequency-idf-requires : goal.inverse_frequency-idf-requires
inverse_frequency-idf-requires g c =
    let held : length c.in_ok-parts.parts.items ≡ holders count_at c.args.units.now c.args.list.now =
    ap length c.in_ok-parts.ensures ∙ length-times c.args.list.now (length c.args.units.now) c.args.units.now in
    omega (arith, held, c.in_ok-parts.parts.ok.0, holders-le c.args.list.now c.args.units.now)

pub weigh_counts-requires-clause-within : goal.weigh_counts-requires-clause-within
weigh_counts-requires-clause-within g c =
    All-from_recursion (IsWithin c.args.units.now) c.as_mut_slice.result.now
    (subst (AllByRecursion (IsWithin c.args.units.now)) (sym (c.as_mut_slice.ensures.value ∙ c.in_ok-parts.ensures))
    (counts_within c.args.units.now c.args.list.now.at
    (increasing_ascend c.args.list.now.at (c.requires.rankable.ascending 0 c.args.list.now (omega arith)))))

pub returns-clause-value : goal.returns-clause-value
returns-clause-value g c =
    let held : c.len.result ≡ holders count_at c.args.units.now c.args.list.now =
    (omega (arith, c.len.ensures, c.in_ok-parts.parts.ok.0))
    ∙ ap length c.in_ok-parts.ensures
    ∙ length-times c.args.list.now (length c.args.units.now) c.args.units.now in
    weights_kept c.args.units.now c.inverse_frequency-idf.result c.args.ranker.now.n c.args.ranker.now.t c.in_ok-parts.parts.len
    c.weigh_counts.new.counts _ c.as_mut_slice.result.now c.args.list.now.at
    (omega (arith, c.weigh_counts.auto.counts, c.as_mut_slice.ensures.len))
    c.weigh_counts.ensures (c.as_mut_slice.ensures.value ∙ c.in_ok-parts.ensures)
    ∙ weights_are c.args.units.now c.args.list.now c.inverse_frequency-idf.result c.args.ranker.now.n c.args.ranker.now.t
    (idf-is c.args.units.now c.args.list.now c.len.result (length c.args.units.now) c.inverse_frequency-idf.result held refl
    c.inverse_frequency-idf.ensures.value) c.requires.rankable.statistics

pub returns-clause-small : goal.returns-clause-small
returns-clause-small g c =
    subst (λ (es : List Entry). AllByRecursion (λ (part : Entry). part.value ≤ 2 ^ 24) es)
    (sym (weights_kept c.args.units.now c.inverse_frequency-idf.result c.args.ranker.now.n c.args.ranker.now.t c.in_ok-parts.parts.len
    c.weigh_counts.new.counts _ c.as_mut_slice.result.now c.args.list.now.at
    (omega (arith, c.weigh_counts.auto.counts, c.as_mut_slice.ensures.len))
    c.weigh_counts.ensures (c.as_mut_slice.ensures.value ∙ c.in_ok-parts.ensures)))
    (weights-small c.args.units.now c.inverse_frequency-idf.result c.args.ranker.now.n c.args.ranker.now.t
    (entries (times_in c.args.list.now.at) (length c.args.units.now) c.args.units.now) c.inverse_frequency-idf.ensures.small)
