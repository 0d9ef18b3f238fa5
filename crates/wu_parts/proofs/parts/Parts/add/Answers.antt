use Rattle.std.proofs.Common.{ap, map}
use Rattle.std.proofs.lemmas.Result.{on_ok_weaker}
use Rattle.wu_token.specs.declared.spans.Token.{Token}
use Rattle.wu_parts.specs.Contents.{Contents}
use Rattle.wu_parts.specs.ViewOfParts.{contents_of}
use Rattle.wu_parts.proofs.Gaining.{gained}
use Rattle.wu_parts.proofs.parts.Parts.add.Goals as goal

pub returns-clause-terms : goal.returns-clause-terms
returns-clause-terms c =
    on_ok_weaker c.add.result
    (gained c.args.self.now (contents_of c.self.inside) c.add.new.self c.args.range.start
    (map (λ (t : Token). t.term) c.args.tokens.now) c.self.view_is)
    c.add.ensures.terms

pub returns-clause-others : goal.returns-clause-others
returns-clause-others c = ap (λ (k : Contents). record k { memory = c.add.new.self }) c.self.view_is
