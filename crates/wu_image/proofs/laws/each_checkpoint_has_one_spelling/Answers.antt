use Rattle.wu_image.proofs.ListedLemmas.{one_spelling, one_spelling_with_acls, same_checkpoint}
use Rattle.wu_image.proofs.laws.each_checkpoint_has_one_spelling.Goals as goal

pub returns-clause-spelling : goal.returns-clause-spelling
returns-clause-spelling c version checkpoint bytes other s t = one_spelling version checkpoint bytes other s.spelled t.spelled

pub returns-clause-lists : goal.returns-clause-lists
returns-clause-lists c checkpoint bytes other some s t = one_spelling_with_acls checkpoint bytes other some s t

pub returns-clause-checkpoint : goal.returns-clause-checkpoint
returns-clause-checkpoint c checkpoint other bytes s t = same_checkpoint checkpoint other bytes s t
