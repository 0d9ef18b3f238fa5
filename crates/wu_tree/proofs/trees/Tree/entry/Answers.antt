use Rattle.std.proofs.Common.{◌∙◌, sym, ap, length}
use Rattle.std.specs.Prelude.{slice_get}
use Rattle.std.specs.Option.{option_map}
use Rattle.std.specs.Map.Iter.{TakesFirst, deref_pair}
use Rattle.std.proofs.lemmas.Iterator.Consumers.{YieldsList-from_shown, nth_from_yields_List}
use Rattle.std.proofs.lemmas.Option.{slice_get-map}
use Rattle.wu_tree.proofs.trees.Tree.entry.Goals as goal

pub returns-in-Some-nth : goal.returns-in-Some-nth
returns-in-Some-nth c =
    let item = nth_from_yields_List c.nth.result c.nth.new.self c.args.i c.nth.ensures.ran
    (YieldsList-from_shown (TakesFirst deref_pair) deref_pair (λ s. s) (λ s t h. ap length h.0) (λ s x t h. h) c.iter.result) in
    let got = ap (option_map deref_pair) (sym c.in-Some-nth.is) ∙ item ∙ ap (λ es. slice_get es c.args.i) c.iter.ensures.rest in
    rw (← c.in-Some.ensures, c.as_slice.ensures.value)
    (ap (option_map (λ e. (e.0.items, e.1))) got ∙ sym (slice_get-map (λ e. (e.0.items, e.1)) c.in-Some.names.now.entries c.args.i))

pub returns-in-None-nth : goal.returns-in-None-nth
returns-in-None-nth c =
    let item = nth_from_yields_List c.nth.result c.nth.new.self c.args.i c.nth.ensures.ran
    (YieldsList-from_shown (TakesFirst deref_pair) deref_pair (λ s. s) (λ s t h. ap length h.0) (λ s x t h. h) c.iter.result) in
    let got = ap (option_map deref_pair) (sym c.in-None-nth.is) ∙ item ∙ ap (λ es. slice_get es c.args.i) c.iter.ensures.rest in
    rw (← c.in-Some.ensures)
    (ap (option_map (λ e. (e.0.items, e.1))) got ∙ sym (slice_get-map (λ e. (e.0.items, e.1)) c.in-Some.names.now.entries c.args.i))
