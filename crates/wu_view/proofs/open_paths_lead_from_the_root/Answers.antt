use Rattle.wu_view.proofs.PathResolution.{open_paths_lead, readable_by_cases}
use Rattle.wu_view.proofs.open_paths_lead_from_the_root.Goals as goal

pub returns-clause-reads : goal.returns-clause-reads
returns-clause-reads c = λ user ino. readable_by_cases c.check_is_decided_by_cases.ensures c.args.tree.now user ino

pub returns-clause-paths : goal.returns-clause-paths
returns-clause-paths c =
    λ user ino path h. open_paths_lead c.check_is_decided_by_cases.ensures c.args.tree.now c.keeps_the_rules.ensures user ino path h
