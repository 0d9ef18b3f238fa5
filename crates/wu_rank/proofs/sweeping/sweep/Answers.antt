use Rattle.std.proofs.Common.{◌≡◌, ℕ, ◌-◌, cond, ltb, Option, Some, None, ◌++◌, List, drop, take, length, ap, ap₂, sym, ◌∙◌, subst, refl}
use Rattle.std.proofs.Common.{arith}
use Rattle.std.proofs.lemmas.List.{take_rest, length-drop}
use Rattle.wu_rank.specs.declared.entries.Entry.{Entry}
use Rattle.wu_rank.specs.declared.results.Unit.{Unit as RankedUnit}
use Rattle.wu_rank.specs.Entries.{with_entry, entries, times_in}
use Rattle.wu_rank.specs.Sweeps.{UnitsAscend}
use Rattle.wu_rank.proofs.Ascending.{ascend-lower, units-drop}
use Rattle.wu_rank.proofs.Sparse.{with_entry-append, sweep_first}
use Rattle.wu_rank.proofs.sweeping.sweep.Goals as goal

pub count_up_to-count-requires : goal.count_up_to-count-requires
count_up_to-count-requires c = ascend-lower 0 _ c.split_below.result.1.now (omega arith) c.split_below.ensures.others

pub units_for-left-requires-clause-order : goal.units_for-left-requires-clause-order
units_for-left-requires-clause-order c =
    subst UnitsAscend (sym (take_rest c.loop-left.left.now 1)) (units-drop 1 c.loop-left.left.now c.loop-left.invariant.order)

pub units_for-left-requires-clause-ascend : goal.units_for-left-requires-clause-ascend
units_for-left-requires-clause-ascend c = ascend-lower 0 _ c.split_below.result.1.now (omega arith) c.split_below.ensures.others

pub loop-left-preserved : goal.loop-left-preserved
loop-left-preserved c =
    let d : RankedUnit = record { extent = record { start = 0; end = 0 }; place = 0 } in
    let left : List RankedUnit = c.loop-left.left.now in
    let end : ℕ = c.args.end in
    let rest : List ℕ = c.split_below.result.1.now in
    let n : ℕ = c.count_up_to-count.result in
    let value : Option ℕ = cond (ltb 0 n) (Some n) None in
    let later : List Entry = entries (times_in rest) end (drop 1 left) in
    let same : entries (times_in rest) end c.units_for-left.result.now ≡ later =
    c.units_for-left.ensures.same end ∙ ap (λ (us : List RankedUnit). entries (times_in rest) end us) (take_rest left 1) in
    let first : entries (times_in c.loop-left.rest.now) end left ≡ with_entry (end - length left) value later =
    sweep_first left (drop 1 left) d c.split_below.result.0.now rest c.loop-left.rest.now n end (end - length left) (omega arith) refl
    c.loop-left.invariant.order c.split_below.ensures.whole c.split_below.ensures.below c.split_below.ensures.others
    c.count_up_to-count.ensures.within c.count_up_to-count.ensures.up_to c.count_up_to-count.ensures.others refl in
    let shorter : length (take (length left - 1) (drop 1 left)) ≡ length left - 1 = ap length (take_rest left 1) ∙ length-drop 1 left in
    record {
      made =
          ap₂ ◌++◌ c.in_ok-put_count.ensures same
          ∙ sym (with_entry-append (end - length left) value c.loop-left.counts.items later)
          ∙ ap (λ (es : List Entry). c.loop-left.counts.items ++ es) (sym first)
          ∙ c.loop-left.invariant.made;
      ascend = ascend-lower 0 _ rest (omega arith) c.split_below.ensures.others;
      order = c.units_for-left.ensures.order;
      within = omega (arith, c.units_for-left.ensures.within, shorter, c.loop-left.invariant.within);
    }
