use Rattle.wu_secrecy.proofs.TurnLemmas.{bytes-query}
use Rattle.wu_secrecy.proofs.laws.a_reply_is_over_her_view.Goals as goal

pub returns : goal.returns
returns c = bytes-query
