use Rattle.std.proofs.Common.{ap}
use Rattle.std.proofs.lemmas.Result.{on_ok_weaker}
use Rattle.wu_token.specs.Tokens.{tokens_of}
use Rattle.wu_parts.specs.Contents.{Contents}
use Rattle.wu_parts.specs.ViewOfParts.{contents_of}
use Rattle.wu_parts.proofs.Gaining.{gained}
use Rattle.wu_parts.proofs.parts.Parts.add_text.Goals as goal

pub returns-clause-terms : goal.returns-clause-terms
returns-clause-terms c =
    on_ok_weaker c.add_text.result
    (gained c.args.self.now (contents_of c.self.inside) c.add_text.new.self c.args.start (tokens_of c.args.text.now) c.self.view_is)
    c.add_text.ensures.terms

pub returns-clause-others : goal.returns-clause-others
returns-clause-others c = ap (λ (k : Contents). record k { memory = c.add_text.new.self }) c.self.view_is
