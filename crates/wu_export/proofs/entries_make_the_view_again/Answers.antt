use Rattle.wu_export.proofs.Rebuilt.{rebuilt}
use Rattle.wu_export.proofs.entries_make_the_view_again.Goals as goal

pub returns : goal.returns
returns c = rebuilt
