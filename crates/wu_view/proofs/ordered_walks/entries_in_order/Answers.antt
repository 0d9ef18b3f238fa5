use Rattle.std.proofs.Common.{◌≡◌, ◌∙◌, List, [], ap, sym, ℕ}
use Rattle.wu_base.specs.SortedOnce.{sorted_once}
use Rattle.wu_tree.specs.FileSystems.{entries_of}
use Rattle.wu_view.specs.declared.ordered_walks.Entry.{Entry}
use Rattle.wu_view.specs.OrderedWalks.{entry_cmp, open_entries}
use Rattle.wu_view.proofs.OrderedEntries.{entry_exact}
use Rattle.wu_view.proofs.ordered_walks.entries_in_order.Goals as goal

pub sorted_once-requires : goal.sorted_once-requires
sorted_once-requires c = record { exact = entry_exact }

pub returns-in_default : goal.returns-in_default
returns-in_default c =
    let h : entries_of c.args.walker.now.tree.links c.args.directory ≡ [] = c.in_default.ensures in
    c.new.ensures.items
    ∙ ap (λ (l : List (List ℕ × ℕ)). sorted_once entry_cmp (open_entries c.args.walker.now.tree c.args.walker.now.user l)) (sym h)

pub returns : goal.returns
returns c =
    c.sorted_once.ensures.items
    ∙ ap (λ (l : List Entry). sorted_once entry_cmp l)
    (c.in_ok-entries.ensures ∙ ap (open_entries c.args.walker.now.tree c.args.walker.now.user) c.in-Some.ensures)
