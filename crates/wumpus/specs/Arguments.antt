-- How the program ends where its arguments couldn't be read.
use Rattle.std.specs.declared.io.ErrorKind.{ErrorKind}
use Rattle.std.specs.declared.io.ErrorKind.TheVariants.{OutOfMemory}
use Rattle.wumpus_run.specs.declared.statuses.Status.{Status}
use Rattle.wumpus_run.specs.declared.statuses.Status.TheVariants.{Usage, NoMemory}

-- without memory as out of memory, and by any other cause, as that one isn't UTF-8, as usage
abbrev pub status_of_unread : ErrorKind → Status
status_of_unread OutOfMemory = NoMemory
status_of_unread _ = Usage
