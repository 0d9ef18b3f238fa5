use Rattle.std.proofs.Common.{◌∙◌, ap, length, rules}
use Rattle.std.specs.Prelude.{count_by}
use Rattle.std.specs.Map.Iter.{TakesFirst, deref}
use Rattle.std.proofs.lemmas.Iterator.Consumers.{YieldsList-at, YieldsList-from_shown, YieldsList-from_filter, count_from_yields_List}
use Rattle.std.proofs.lemmas.List.Sums.{length-filter}
use Rattle.wu_tree.specs.declared.inodes.Inode.{Inode}
use Rattle.wu_tree.specs.Inodes.{kind_of}
use Rattle.wu_tree.specs.FileSystems.{is_kind_file}
use Rattle.wu_tree.proofs.NodeLookups.{files_by_value}
use Rattle.wu_tree.proofs.trees.Tree.file_count.Goals as goal

pub returns : goal.returns
returns c =
    let test = λ (i : Inode). is_kind_file (kind_of i.hold) in
    rw (← c.self.view_is)
    (count_from_yields_List c.filter.result c.count.result c.count.ensures.ran
    (YieldsList-from_filter _ test
    (YieldsList-at c.filter.ensures.source
    (YieldsList-from_shown (TakesFirst deref) deref (λ s. s) (λ s t h. ap length h.0)
    (λ s x t h. h) c.values.result)) c.filter.ensures.closure (λ x r q k. search rules))
    ∙ length-filter test c.values.result
    ∙ ap (count_by test) c.values.ensures.rest
    ∙ files_by_value c.self.inside.inodes.entries)
