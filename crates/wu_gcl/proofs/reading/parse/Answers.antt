use Rattle.std.proofs.Common.{◌≡◌, map}
use Rattle.std.specs.Prelude.{IfOk}
use Rattle.wu_gcl.specs.Lexical.{AreTokens}
use Rattle.wu_gcl.specs.Reading.{seen}
use Rattle.wu_gcl.specs.Pending.{outcome}
use Rattle.wu_gcl.specs.Views.{token_of}
use Rattle.wu_gcl.proofs.Outcomes.{reads_all}
use Rattle.wu_gcl.proofs.ReadableRegions.{all_proper}
use Rattle.wu_gcl.proofs.reading.parse.Goals as goal

pub returns-in-Some-clause-reads : goal.returns-in-Some-clause-reads
returns-in-Some-clause-reads c =
    let lexed : AreTokens (map token_of c.in-Some.tokens.items) c.args.text.now = rw c.in-Some.is at c.in_ok-tokens.ensures in
    let said : IfOk c.said.result (λ r. seen r ≡ outcome (map token_of c.in-Some.tokens.items)) = rw
    (← c.deref.ensures.value) c.said.ensures in
    reads_all c.args.text.now (map token_of c.in-Some.tokens.items) c.said.result lexed said

pub returns-in-Some-clause-proper : goal.returns-in-Some-clause-proper
returns-in-Some-clause-proper c = all_proper c.args.text.now c.said.result (returns-in-Some-clause-reads c)
