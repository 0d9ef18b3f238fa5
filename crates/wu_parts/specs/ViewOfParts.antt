-- What contracts see of a Parts.
use Rattle.wu_parts.specs.declared.parts.Parts.TheInside as inside
use Rattle.std.specs.Prelude.{option_map}
use Rattle.wu_parts.specs.Contents.{Contents}
use Rattle.wu_parts.specs.StoredParts.{records_of, directories_of, running_at}

abbrev pub contents_of : inside.Inside → Contents
contents_of fields = record {
  memory = fields.memory;
  parts = records_of fields.parts.items;
  directories = directories_of fields.parts.items;
  kept = fields.lists;
  flush_at = fields.flush_at;
  next_blob = fields.next_blob;
  flushes = fields.flushes;
  stale = fields.stale.items;
  job = option_map running_at fields.job;
}
