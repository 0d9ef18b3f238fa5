use Rattle.wu_check.proofs.OneFinding.{one_finding}
use Rattle.wu_check.proofs.laws.a_store_has_one_finding.Goals as goal

pub returns : goal.returns
returns c content found other is its = one_finding content found other is its
