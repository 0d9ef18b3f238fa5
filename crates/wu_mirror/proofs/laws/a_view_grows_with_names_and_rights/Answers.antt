use Rattle.wu_mirror.proofs.ViewGrowth.{view_grows}
use Rattle.wu_mirror.proofs.laws.a_view_grows_with_names_and_rights.Goals as goal

pub returns : goal.returns
returns c = λ part whole uid tp tw g p. view_grows c.check_is_decided_by_cases.ensures part whole tp tw uid g p
