-- What contracts see of an entry whose blocks are gone through, and what holds of it.
use Rattle.std.specs.Prelude.{ℕ, List, ◌<◌, ◌≤◌, ◌^◌, ◌≡◌}
use Rattle.wu_base.specs.declared.limits.TheConstants.{ADDRESSES_MAX}
use Rattle.wu_part.specs.declared.cursors.Entry.TheInside as inside
use Rattle.wu_part.specs.declared.entries.TermEntry.{TermEntry}
use Rattle.wu_part.specs.declared.reading.Head.{Head}
use Rattle.wu_part.specs.Decoding.{blocks_in}
use Rattle.wu_part.specs.Entries.{AreNextBlocks}

abbrev pub entry_left : inside.Inside → TermEntry
entry_left e = record { term = e.term.now; count = e.count; blocks = blocks_in e.count e.low e.count e.place e.bytes.now }

-- in some directory with this lowest address the bytes start with the numbers of the blocks that are left
pub record HoldsBlocksLeft (e : inside.Inside) : Type 0 where
  pub head : Head
  pub size : ℕ
  pub from : ℕ
  pub end : ℕ
  pub after : List ℕ
  pub lowest : head.low ≡ e.low
  pub above : head.low ≤ from
  pub below : head.high < ADDRESSES_MAX
  pub fits : size < 2 ^ 64
  pub blocks : AreNextBlocks head size from e.count e.bytes.now e.place (entry_left e).blocks after end
