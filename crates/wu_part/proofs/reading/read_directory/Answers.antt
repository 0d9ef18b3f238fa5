use Rattle.std.proofs.Common.{rules}
use Rattle.wu_part.proofs.DirectoryLemmas.{entry_of_checked}
use Rattle.wu_part.proofs.reading.read_directory.Goals as goal

pub returns-in-None-clause-none : goal.returns-in-None-clause-none
returns-in-None-clause-none c = rw c.in-None.is at c.in_ok-checked.ensures.none

pub returns-in_err-bytes-clause-err : goal.returns-in_err-bytes-clause-err
returns-in_err-bytes-clause-err c =
    let entry = entry_of_checked _ _ _ (rw c.in-Some.is at c.in_ok-checked.ensures.found) in search (entry, rules)

pub directory_with-requires : goal.directory_with-requires
directory_with-requires c = rw c.in_ok-bytes.ensures.items (rw c.in-Some.is at c.in_ok-checked.ensures.found)

pub returns-clause-found : goal.returns-clause-found
returns-clause-found c = rw c.in_ok-bytes.ensures.items at c.directory_with.ensures
