-- How a session ends, by where it stopped, and what it did then.
use Rattle.std.specs.Prelude.{◌≡◌, ℕ, Option, None, Some, Result, Ok, Err}
use Rattle.wu_base.specs.declared.memory.NoMemory.{NoMemory as Unread}
use Rattle.wu_base.specs.declared.troubles.Trouble.{Trouble}
use Rattle.wu_base.specs.declared.troubles.Trouble.TheVariants as troubles
use Rattle.wu_outside.specs.Content.{Content}
use Rattle.wu_outside.specs.declared.traits.Fault.{Fault}
use Rattle.wu_outside.specs.declared.traits.Fault.TheVariants.{Failed}
use Rattle.wu_outside.specs.declared.traits.Fault.TheVariants as faults
use Rattle.wu_script.specs.declared.ends.ReadEnd.{ReadEnd}
use Rattle.wu_script.specs.declared.ends.ReadEnd.TheVariants as ends
use Rattle.wu_options.specs.declared.command_lines.CommandLine.{CommandLine}
use Rattle.wu_options.specs.declared.command_lines.Settings.{Settings}
use Rattle.wumpus_run.specs.declared.statuses.Status.{Status}
use Rattle.wumpus_run.specs.declared.statuses.Status.TheVariants.{Done, Usage, ReadFault, WriteFault, NoMemory, InputTooLong, StoreFault}
use Rattle.wumpus_run.specs.declared.statuses.Status.TheVariants.{Damaged, Spent}
use Rattle.wu_query.specs.States.{State}
use Rattle.wu_image.specs.declared.roots.Root.{Root}
use Rattle.wu_engine.specs.Earlier.{KeepsCheckpoint, LeavesEarlier}
use Rattle.wu_engine.specs.Going.{HasBroken}
use Rattle.wu_engine.specs.Opening.{HasRoot}
use Rattle.wu_engine.specs.declared.faults.BeginFault.{BeginFault}
use Rattle.wu_engine.specs.declared.faults.BeginFault.TheVariants as opening
use Rattle.wumpus_run.specs.Session.{AnswersAll, AnswersPrefix, AnswersTaken, AsksBriefly, FromImage, HoldsNothingBack, IsCounted, IsSpent}
use Rattle.wumpus_run.specs.Session.{IsTooLong, KeepsStrays, LeavesNoStray, Moment, OpensAlone, SavesAll, StaysShut, StaysWithin}
use Rattle.wumpus_run.specs.Session.{TakesAll}

-- what the arguments ask for, as they were read, or how a session ends that can't begin
abbrev pub asked_for : Result (Option CommandLine) Unread → Result CommandLine Status
asked_for (Ok (Some line)) = Ok line
asked_for (Ok None) = Err Usage
asked_for (Err unread) = Err NoMemory

-- how a session ends where no item could be read
abbrev pub status_of : ReadEnd → Status
status_of ends.ReadFault = ReadFault
status_of ends.InputTooLong = InputTooLong
status_of ends.NoMemory = NoMemory

-- how it ends where the store couldn't be opened
abbrev pub status_of_opening : BeginFault → Status
status_of_opening opening.NoMemory = NoMemory
status_of_opening opening.StoreFault = StoreFault
status_of_opening (opening.Damaged blob) = Damaged blob
status_of_opening (opening.Spent next) = Spent next

-- how it ends where an item couldn't be answered, or the state not be saved
abbrev pub status_of_trouble : Trouble → Status
status_of_trouble troubles.NoMemory = NoMemory
status_of_trouble troubles.StoreFault = StoreFault
status_of_trouble (troubles.Damaged blob) = Damaged blob

-- how it ends with a save
abbrev pub status_of_saving : Result (Unit {0}) Trouble → Status
status_of_saving (Ok saved) = Done
status_of_saving (Err trouble) = status_of_trouble trouble

-- how it ends where a reply couldn't be written
abbrev pub status_of_fault : Fault → Status
status_of_fault Failed = WriteFault
status_of_fault faults.NoMemory = NoMemory

-- what was written, however a session ends
pub record Ends (start : State) (status : Status) (settings : Option Settings) (before now : Moment) : Type 0 where
  -- a prefix of the output
  pub prefix : AnswersPrefix start settings before now
  -- and a prefix of that for the bytes that were taken: where none was, nothing
  pub only_taken : AnswersTaken start settings before now
  -- Where the source failed or gave too much, exactly the replies to the whole items that it gave; where sink or store failed or there
  -- was no memory, at least those to the whole items before the bytes of the source's last read.
  pub prompt : HoldsNothingBack start status settings before now

-- What a session did, however it ended, where these settings were asked for. What is said of its output is said from each state of which
-- the store held an image.
pub record IsOutcome (status : Status) (settings : Option Settings) (before now : Moment) : Type 0 where
  pub usage : status ≡ Usage → settings ≡ None
  -- On Done the input was read to its end, and the sink gained the replies to its items, and nothing else. The store holds an image of the
  -- state after them, and no other blob but those that an earlier session left.
  pub all_taken : status ≡ Done → TakesAll settings before now
  pub done : status ≡ Done → FromImage before.holds (λ s. AnswersAll s settings before now)
  pub saved : status ≡ Done → FromImage before.holds (λ s. SavesAll s settings before now)
  pub named : status ≡ Done → FromImage before.holds (λ s. LeavesNoStray s settings before now)
  -- a fault of source, sink or store ends a session, exactly where its count of faults rose
  pub read_fault : IsCounted ReadFault status before.read_faults now.read_faults
  pub write_fault : IsCounted WriteFault status before.write_faults now.write_faults
  pub store_fault : IsCounted StoreFault status before.store_faults now.store_faults
  pub too_long : IsTooLong status settings before now
  -- a store that holds an image of a state is never called damaged, and it is called spent exactly where it is
  pub damaged : FromImage before.holds (λ s. (blob : ℕ) → status ≡ Damaged blob → ⊥)
  pub spent : IsSpent status settings before.holds
  -- no byte after the one past the limit was taken, and no more were asked for at once than may be
  pub asked : AsksBriefly before now
  pub taken : StaysWithin settings before now
  pub ends : FromImage before.holds (λ s. Ends s status settings before now)

-- ---- what became of the store

-- What became of the blobs of the store, whatever the status.
pub record KeepsBlobs (before now : Moment) : Type 0 where
  -- No blob below the root's next one is written over: as long as the root is the one from before all are as they were, and some are gone
  -- only where the root names a checkpoint with a number from that next one on.
  pub earlier : (content : Content) → before.holds ≡ Some content → (root : Root) → HasRoot content root
      → LeavesEarlier root.next_blob before.holds now.holds
  -- It has the root that it had, also none, or one whose checkpoint is there, with as many bytes as the root says.
  pub checkpoint : KeepsCheckpoint 0 before.holds now.holds
  -- No blob is touched that an earlier session left below the next one without a name.
  pub strays : FromImage before.holds (λ s. KeepsStrays s.layout before.holds now.holds)

-- What became of a store that a session only opened, or couldn't open.
pub record OpensOnly (status : Status) (settings : Option Settings) (before now : Moment) : Type 0 where
  -- before a byte is taken the store is only opened, and that syncs it once
  pub opens : OpensAlone before now
  -- where the store leaves no room it holds what it held
  pub unopened : (next : ℕ) → status ≡ Spent next → now.holds ≡ before.holds
  -- where what it holds can't be opened, it holds the same afterwards, and no byte was taken or written
  pub shut : StaysShut settings before now

-- A blob is called damaged only where it is broken in what the store held, by the root and by the checkpoint there.
abbrev pub CallsBroken : Status → Option Content → Type 0
CallsBroken status holds = (content : Content) → holds ≡ Some content → (blob : ℕ) → status ≡ Damaged blob → HasBroken content blob
