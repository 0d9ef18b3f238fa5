use Rattle.std.proofs.Common.{◌≡◌, ◌∙◌, ap, sym, subst, filter, IfOk, arith}
use Rattle.wu_snip.specs.Snippets.{meets, first_shown, snippet_of}
use Rattle.wu_snip.specs.Walks.{shown}
use Rattle.wu_snip.proofs.LineLemmas.{shown-held}
use Rattle.wu_snip.proofs.snips.snippet.Goals as goal

pub returns : goal.returns
unfolding snippet_of
returns c =
    let extent = c.args.extent in
    let line = c.next_reaching-line.result in
    let same = sym (c.next_reaching-line.ensures.lines extent (omega arith)) ∙ ap (filter (meets extent)) c.of_text.ensures in
    let whole : shown line extent ≡ snippet_of c.args.text.now extent =
    shown-held line c.next_reaching-line.new.self extent c.next_reaching-line.ensures.reaches ∙ ap first_shown same in
    subst (λ s. IfOk c.show.result (λ snip. snip ≡ s)) whole c.show.ensures
