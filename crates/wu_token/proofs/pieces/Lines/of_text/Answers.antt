use Rattle.std.proofs.Common.{◌∙◌, length, ap, sym, subst, All, arith}
use Rattle.std.specs.List.{concat}
use Rattle.bstr.proofs.lemmas.RestLemmas.{concat-lines_of}
use Rattle.wu_token.specs.Pieces.{EndsBy, stripped}
use Rattle.wu_token.proofs.LineLemmas.{stripped-lines}
use Rattle.wu_token.proofs.LengthLemmas.{within-lines}
use Rattle.wu_token.proofs.pieces.Lines.of_text.Goals as goal

pub invariant_of-result : goal.invariant_of-result
invariant_of-result c =
    let whole = ap length (ap concat c.lines_with_terminator.ensures.value ∙ concat-lines_of c.args.text.now) in
    omega arith

pub returns-clause-lines : goal.returns-clause-lines
returns-clause-lines c = ap (stripped 0) c.lines_with_terminator.ensures.value ∙ stripped-lines 0 c.args.text.now

pub returns-clause-within : goal.returns-clause-within
returns-clause-within c = subst (All (EndsBy (length c.args.text.now))) (sym (returns-clause-lines c)) (within-lines c.args.text.now)
