use Rattle.wu_engine.proofs.OpenedStates.{reads_root, reads_size}
use Rattle.wu_engine.proofs.opening.find_saved.Goals as goal

pub returns-in_err-open_root-clause-reads : goal.returns-in_err-open_root-clause-reads
returns-in_err-open_root-clause-reads g c = reads_root _ _ _ c.open_root.ensures.reads

pub returns-in-None-clause-reads : goal.returns-in-None-clause-reads
returns-in-None-clause-reads g c = reads_root _ _ _ c.open_root.ensures.reads

pub returns-in_err-ask_size-in-Some-clause-reads : goal.returns-in_err-ask_size-in-Some-clause-reads
returns-in_err-ask_size-in-Some-clause-reads g c =
    reads_size c.in-Some.root _ _ _ _ (rw c.in-Some.is at c.in_ok-open_root.ensures.found) c.in_ok-open_root.ensures.noted
    c.ask_size.ensures.reads

pub returns-in_ok-ask_size-in-Some-clause-reads : goal.returns-in_ok-ask_size-in-Some-clause-reads
returns-in_ok-ask_size-in-Some-clause-reads g c =
    reads_size c.in-Some.root _ _ _ _ (rw c.in-Some.is at c.in_ok-open_root.ensures.found) c.in_ok-open_root.ensures.noted
    c.ask_size.ensures.reads
