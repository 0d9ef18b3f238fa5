use Rattle.std.proofs.Common.{[]}
use Rattle.wu_tree.specs.declared.events.Event.TheVariants.{Chmod, Chown, Text, User}
use Rattle.wu_tree.specs.declared.events.Event.TheVariants.{Acl as SetAcl}
use Rattle.wu_tree.specs.FileSystems.{node_of}
use Rattle.wu_tree.specs.Steps.{next}
use Rattle.wu_secrecy.proofs.UnseenCases.{alike-at, groups-unseen, others-acl, others-perm}
use Rattle.wu_secrecy.proofs.UnseenItems.{unseen-event}
use Rattle.wu_secrecy.proofs.events.events_that_change_no_links.Goals as goal

pub returns-clause-text : goal.returns-clause-text
returns-clause-text c = λ flush_at uid ino s text is unseen. unseen-event flush_at uid s (Text ino) text is tt unseen

pub returns-clause-mode : goal.returns-clause-mode
returns-clause-mode c = λ flush_at uid ino mode s is valid alike.
    unseen-event flush_at uid s (Chmod ino mode) [] is valid
    (alike-at s.tree (next s.tree (Chmod ino mode)) uid ino
    (others-perm (λ perm. record perm { mode = mode }) s.tree ino (node_of s.tree ino)) alike)

pub returns-clause-owner : goal.returns-clause-owner
returns-clause-owner c = λ flush_at uid ino owner group s is alike.
    unseen-event flush_at uid s (Chown ino owner group) [] is tt
    (alike-at s.tree (next s.tree (Chown ino owner group)) uid ino
    (others-perm (λ perm. record perm { uid = owner; gid = group }) s.tree ino (node_of s.tree ino)) alike)

pub returns-clause-list : goal.returns-clause-list
returns-clause-list c = λ flush_at uid ino acl mask s is valid alike.
    unseen-event flush_at uid s (SetAcl ino acl mask) [] is valid
    (alike-at s.tree (next s.tree (SetAcl ino acl mask)) uid ino (others-acl s.tree ino acl mask) alike)

pub returns-clause-groups : goal.returns-clause-groups
returns-clause-groups c = λ flush_at uid other groups s is apart.
    unseen-event flush_at uid s (User other groups) [] is tt (groups-unseen s.tree uid other groups apart)
