use Rattle.std.proofs.Common.{arith}
use Rattle.wu_engine.proofs.IndexLemmas.{some_tokens}
use Rattle.wu_engine.proofs.updating.place_text.Goals as goal

pub place-requires-clause-some : goal.place-requires-clause-some
place-requires-clause-some c = omega (arith, c.in_ok-len-in-Some.ensures.count, some_tokens c.args.text.now)
