use Rattle.wu_query.proofs.finding.lines_shown.Goals as goal

pub returns-clause-lines : goal.returns-clause-lines
returns-clause-lines g c = rw c.in_ok-places.ensures.files at c.first_lines.ensures.lines

pub returns-clause-reads : goal.returns-clause-reads
returns-clause-reads g c = rw c.in_ok-places.ensures.files at c.first_lines.ensures.reads

pub returns-clause-sound : goal.returns-clause-sound
returns-clause-sound g c = rw c.in_ok-places.ensures.files at c.first_lines.ensures.sound

pub returns-clause-only : goal.returns-clause-only
returns-clause-only g c = rw c.in_ok-places.ensures.files at c.first_lines.ensures.only

pub returns-clause-cause : goal.returns-clause-cause
returns-clause-cause g c = rw c.in_ok-places.ensures.files at c.first_lines.ensures.cause
