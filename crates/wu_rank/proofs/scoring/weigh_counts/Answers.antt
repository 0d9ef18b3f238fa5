use Rattle.std.proofs.Common.{◌≡◌, ℕ, List, get_or, set, ap, ◌∙◌, arith}
use Rattle.std.proofs.lemmas.List.{get_or_default}
use Rattle.std.proofs.lemmas.List.Edits.{map_over_more}
use Rattle.wu_rank.specs.declared.entries.Entry.{Entry}
use Rattle.wu_rank.specs.Bm25.{weigh}
use Rattle.wu_rank.specs.Entries.{unit_at, weighed}
use Rattle.wu_rank.specs.Scores.{length_of}
use Rattle.wu_rank.proofs.scoring.weigh_counts.Goals as goal

pub loop-i-preserved : goal.loop-i-preserved
loop-i-preserved g c =
    let counts : List Entry = c.loop-i.counts in
    let nothing : Entry = record { unit = 0; value = 0 } in
    let entry : Entry = get_or counts c.loop-i.i nothing in
    let units = c.args.units.now in
    let n : ℕ = c.args.ranker.now.n in
    let t : ℕ = c.args.ranker.now.t in
    let weight : c.weigh.result ≡ weigh c.args.idf entry.value (length_of (unit_at units entry.unit).extent) n t =
    c.weigh.ensures.value ∙ ap (λ (l : ℕ). weigh c.args.idf entry.value l n t) c.extent_length-length.ensures in
    ap (λ (v : ℕ). set counts c.loop-i.i (record { unit = entry.unit; value = v })) weight
    ∙ map_over_more (weighed units c.args.idf n t) c.args.counts.now counts c.loop-i.i entry (omega arith) c.loop-i.invariant
    (get_or_default counts c.loop-i.i nothing entry (omega arith))
