use Rattle.std.proofs.Common.{◌≡◌, ◌∷◌, ◌++◌, [], ℕ, List, true, sym, subst, rules}
use Rattle.wu_base.specs.declared.addresses.TermList.{TermList}
use Rattle.wu_part.specs.Built.{AreWritten}
use Rattle.wu_part.specs.Totals.{AreTotals}
use Rattle.wu_part.proofs.BuilderLemmas.{written_more}
use Rattle.wu_part.proofs.builders.Builder.add.Goals as goal

pub invariant_of-self-2 : goal.invariant_of-self-2
invariant_of-self-2 c =
    let i = c.self.inside in
    let whole : i.whole ≡ true = search rules in
    let added = c.with-self-inside.ensures in
    let written : AreWritten i.totals.low (i.added.lists ++ c.args.list.now ∷ []) c.put_list.new.entries.items c.put_list.new.blocks.items =
    written_more i.totals.low i.added.lists c.args.list.now i.entries.items i.blocks.items c.put_list.new.entries.items
    c.put_list.new.blocks.items (c.self.invariant.written whole) c.in_ok-put_list.ensures in
    record {
      totals =
          subst (λ (ls : List TermList). AreTotals ls c.in_ok-totals.totals) (sym added)
          (c.in_ok-totals.ensures.totals i.added.lists c.self.invariant.totals);
      written = λ e.
          subst (λ (ls : List TermList). AreWritten c.in_ok-totals.totals.low ls c.put_list.new.entries.items c.put_list.new.blocks.items)
          (sym added)
          (subst
          (λ (low : ℕ). AreWritten low (i.added.lists ++ c.args.list.now ∷ []) c.put_list.new.entries.items c.put_list.new.blocks.items)
          (sym c.in_ok-totals.ensures.low) written);
    }
