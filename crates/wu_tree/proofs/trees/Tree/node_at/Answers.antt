use Rattle.std.proofs.Common.{◌∙◌, sym, ap, length}
use Rattle.std.specs.Prelude.{slice_get}
use Rattle.std.specs.Option.{option_map}
use Rattle.std.specs.Map.Iter.{TakesFirst, deref_pair}
use Rattle.std.proofs.lemmas.Iterator.Consumers.{YieldsList-from_shown, nth_from_yields_List}
use Rattle.std.proofs.lemmas.Option.{slice_get-map}
use Rattle.wu_tree.specs.Inodes.{node_in}
use Rattle.wu_tree.proofs.trees.Tree.node_at.Goals as goal

pub returns-in-Some : goal.returns-in-Some
returns-in-Some c =
    let item = nth_from_yields_List c.nth.result c.nth.new.self c.args.i c.nth.ensures.ran
    (YieldsList-from_shown (TakesFirst deref_pair) deref_pair (λ s. s) (λ s t h. ap length h.0) (λ s x t h. h) c.iter.result) in
    let got = ap (option_map deref_pair) (sym c.in-Some.is) ∙ item ∙ ap (λ es. slice_get es c.args.i) c.iter.ensures.rest in
    rw (← c.self.view_is, c.node.ensures)
    (ap (option_map (λ e. (e.0, node_in e.1))) got
    ∙ sym (slice_get-map (λ e. (e.0, node_in e.1)) c.self.inside.inodes.entries c.args.i))

pub returns-in-None : goal.returns-in-None
returns-in-None c =
    let item = nth_from_yields_List c.nth.result c.nth.new.self c.args.i c.nth.ensures.ran
    (YieldsList-from_shown (TakesFirst deref_pair) deref_pair (λ s. s) (λ s t h. ap length h.0) (λ s x t h. h) c.iter.result) in
    let got = ap (option_map deref_pair) (sym c.in-None.is) ∙ item ∙ ap (λ es. slice_get es c.args.i) c.iter.ensures.rest in
    rw (← c.self.view_is)
    (ap (option_map (λ e. (e.0, node_in e.1))) got
    ∙ sym (slice_get-map (λ e. (e.0, node_in e.1)) c.self.inside.inodes.entries c.args.i))
