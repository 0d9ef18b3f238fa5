use Rattle.std.proofs.Common.{◌≡◌, ℕ, ◌-◌, ◌++◌, List, length, ap, ap₂, sym, ◌∙◌, subst, append_assoc, arith}
use Rattle.std.proofs.lemmas.List.{drop_more, take-append-drop}
use Rattle.wu_rank.specs.declared.entries.Entry.{Entry}
use Rattle.wu_rank.specs.declared.results.Unit.{Unit as RankedUnit}
use Rattle.wu_rank.specs.Entries.{entries, times_in}
use Rattle.wu_rank.specs.Sweeps.{AreRuns}
use Rattle.wu_rank.proofs.Ascending.{increasing_ascend}
use Rattle.wu_rank.proofs.Sparse.{entries-append}
use Rattle.wu_rank.proofs.sweeping.counts_of.Goals as goal

pub sweep-requires-clause-ascend : goal.sweep-requires-clause-ascend
sweep-requires-clause-ascend c = rw c.as_slice.ensures (increasing_ascend c.args.list.now.at c.requires.ascend)

pub loop-run-preserved : goal.loop-run-preserved
loop-run-preserved c =
    let xs : List ℕ = c.args.list.now.at in
    let all : ℕ = length c.args.units.now in
    let rest : List RankedUnit = c.loop-run.rest.now in
    let some : List RankedUnit = c.split_at.result.0.now in
    let later : List RankedUnit = c.split_at.result.1.now in
    let counts : List Entry = c.loop-run.counts.items in
    let runs = subst (AreRuns rest) (drop_more c.args.runs.now c.loop-run.run-index 0 c.loop-run-test.true) c.loop-run.invariant.runs in
    let whole : some ++ later ≡ rest = ap₂ ◌++◌ c.split_at.ensures.front c.split_at.ensures.back ∙ take-append-drop _ rest in
    record {
      made =
          ap (λ (es : List Entry). es ++ entries (times_in xs) all later)
          (c.in_ok-sweep.ensures
          ∙ ap (λ (l : List ℕ). counts ++ entries (times_in l) (all - length later) some) c.as_slice.ensures)
          ∙ append_assoc counts (entries (times_in xs) (all - length later) some) (entries (times_in xs) all later)
          ∙ ap (λ (es : List Entry). counts ++ es)
          (sym (entries-append (times_in xs) all some later) ∙ ap (λ (us : List RankedUnit). entries (times_in xs) all us) whole)
          ∙ c.loop-run.invariant.made;
      runs = rw c.split_at.ensures.back runs.2;
      within = omega (arith, c.split_at.ensures.back_len, c.loop-run.invariant.within);
    }
