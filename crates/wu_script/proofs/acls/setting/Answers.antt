use Rattle.std.proofs.Common.{rules}
use Rattle.wu_script.proofs.AclLemmas.{read_fits}
use Rattle.wu_script.proofs.acls.setting.Goals as goal

pub returns-in-Some-2-clause-sound : goal.returns-in-Some-2-clause-sound
returns-in-Some-2-clause-sound c =
    read_fits c.args.entries.now c.in-Some.pieces.items c.in-Some-2.acl c.in-Some-2.mask (search rules) (search rules)
