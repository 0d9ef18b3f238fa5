-- What is printed to standard error.
use Rattle.std.specs.Prelude.{ℕ, List, [], ◌++◌, codes, decimal}
use Rattle.wumpus_run.specs.declared.statuses.Status.{Status}
use Rattle.wumpus_run.specs.declared.statuses.Status.TheVariants.{Done, Usage, ReadFault, WriteFault, NoMemory, InputTooLong}
use Rattle.wumpus_run.specs.declared.statuses.Status.TheVariants.{StoreFault, Damaged, Spent}

-- the message of each status; a session that is done has none
abbrev pub message_of : Status → List ℕ
message_of Done = []
message_of Usage = codes "usage: wumpus run [--max-input=N] [--flush=N] | wumpus demo N | wumpus check"
message_of ReadFault = codes "cannot read the input"
message_of WriteFault = codes "cannot write the output"
message_of NoMemory = codes "no memory"
message_of InputTooLong = codes "input too long"
message_of StoreFault = codes "store failed"
message_of (Damaged blob) = codes "store damaged at blob " ++ decimal blob
message_of (Spent next) = codes "store spent at " ++ decimal next
