use Rattle.wu_part.proofs.reading.keep_directory.Goals as goal

pub returns-in-None-clause-none : goal.returns-in-None-clause-none
returns-in-None-clause-none c = rw (c.in-None.is, c.deref.ensures.value) at c.in_ok-checked.ensures.none

pub directory_with-requires : goal.directory_with-requires
directory_with-requires c = rw (c.in-Some.is, c.deref.ensures.value) at c.in_ok-checked.ensures.found
