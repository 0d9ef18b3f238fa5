use Rattle.wu_image.proofs.acls.take_acls.Goals as goal

pub returns-in-Second-clause-none : goal.returns-in-Second-clause-none
returns-in-Second-clause-none c = rw c.in-Second.is c.take_list.ensures.none
