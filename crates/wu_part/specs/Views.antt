-- What contracts see of a directory, and what holds of it.
use Rattle.std.specs.Prelude.{Contains, drop}
use Rattle.wu_part.specs.declared.directories.Directory.TheInside as inside
use Rattle.wu_part.specs.declared.marks.Mark.{Mark}
use Rattle.wu_part.specs.Decoding.{entries_in}
use Rattle.wu_part.specs.Directories.{PartDirectory, IsSpelled}
use Rattle.wu_part.specs.Entries.{AreEntries}
use Rattle.wu_part.specs.Marks.{AreNear, IsMark}

abbrev pub directory_of : inside.Inside → PartDirectory
directory_of d = record {
  generation = d.head.generation;
  low = d.head.low;
  high = d.head.high;
  stored = d.head.stored;
  size = d.size;
  terms = entries_in d.head.terms d.head.low d.place d.bytes;
}

-- The bytes are those of the entries, and each mark is that of the entry whose number it has.
pub record IsKept (d : inside.Inside) : Type 0 where
  pub spelled : IsSpelled (directory_of d)
  pub entries : AreEntries d.head d.size d.head.terms d.bytes d.place (directory_of d).terms
  pub marked : (mark : Mark) → Contains d.marks.items mark
      → IsMark d.head d.size d.bytes mark (drop mark.number (directory_of d).terms)
  pub near : AreNear 0 d.marks.items d.head.terms
