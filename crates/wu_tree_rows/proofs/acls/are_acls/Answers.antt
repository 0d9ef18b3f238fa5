use Rattle.wu_tree_rows.proofs.SoundLists.{sound_lists}
use Rattle.wu_tree_rows.proofs.acls.are_acls.Goals as goal

pub returns-in-Some : goal.returns-in-Some
returns-in-Some c = λ is. sound_lists _ (rw c.in-Some.is at c.in_ok-_tree.ensures).0
