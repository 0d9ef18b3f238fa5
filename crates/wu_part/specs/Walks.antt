-- What contracts see of a walk over a directory's entries, and what holds of it.
use Rattle.std.specs.Prelude.{List, ◌<◌}
use Rattle.wu_base.specs.declared.limits.TheConstants.{ADDRESSES_MAX}
use Rattle.wu_part.specs.declared.entries.TermEntry.{TermEntry}
use Rattle.wu_part.specs.declared.walks.Terms.TheInside as inside
use Rattle.wu_part.specs.Decoding.{entries_in}
use Rattle.wu_part.specs.Entries.{AreEntries}

abbrev pub entries_left : inside.Inside → List TermEntry
entries_left w = entries_in w.left w.head.now.low w.place w.rest.now

-- the bytes that are left spell the entries that are left
pub record IsWalk (w : inside.Inside) : Type 0 where
  pub entries : AreEntries w.head.now w.size w.left w.rest.now w.place (entries_left w)
  pub high : w.head.now.high < ADDRESSES_MAX
