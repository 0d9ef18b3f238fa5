use Rattle.std.proofs.Common.{sym, ◌∙◌}
use Rattle.wu_check.proofs.ComparedFiles.{tokens_fit}
use Rattle.wu_check.proofs.texts.compare_with.Goals as goal

pub returns-then-has_tokens-clause-same : goal.returns-then-has_tokens-clause-same
returns-then-has_tokens-clause-same c = λ ranges lists index at_place.
    let count = c.compare_text-compared.ensures.count in
    c.compare_text-compared.ensures.same ranges lists c.args.file.now.range index.indexed index.distinct index.apart at_place
    (tokens_fit c.args.file.now c.args.text.now c.requires.file c.requires.size (λ some. sym count ∙ c.if-has_tokens.ensures some))
