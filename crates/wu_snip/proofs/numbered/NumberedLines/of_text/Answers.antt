use Rattle.std.proofs.Common.{◌∙◌, ap, sym, subst}
use Rattle.wu_token.specs.Tokens.{lines_of}
use Rattle.wu_snip.specs.Snippets.{numbered, numbered_lines_of}
use Rattle.wu_snip.specs.Walks.{Fits, bytes_of}
use Rattle.wu_snip.proofs.LineLemmas.{bytes-placed, fits-text}
use Rattle.wu_snip.proofs.numbered.NumberedLines.of_text.Goals as goal

pub invariant_of-result : goal.invariant_of-result
invariant_of-result c =
    let lines = ap bytes_of c.of_text.ensures.lines ∙ bytes-placed 0 (lines_of c.args.text.now) in
    subst (Fits 1 1) (sym lines) (fits-text c.args.text.now c.requires)

pub returns : goal.returns
unfolding numbered_lines_of
returns c = ap (numbered 1 1) (ap bytes_of c.of_text.ensures.lines ∙ bytes-placed 0 (lines_of c.args.text.now))
