use Rattle.wu_layout.proofs.FewParts.{few_where_idle}
use Rattle.wu_layout.proofs.laws.background_work_ends_with_few_parts.Goals as goal

pub returns : goal.returns
returns c = few_where_idle
