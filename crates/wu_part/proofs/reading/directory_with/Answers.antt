use Rattle.std.proofs.Common.{refl, ◌∙◌, arith}
use Rattle.wu_part.proofs.DecodingLemmas.{entries_are}
use Rattle.wu_part.proofs.DirectoryLemmas.{directory_of_entries}
use Rattle.wu_part.proofs.MarkLemmas.{behind_head}
use Rattle.wu_part.proofs.reading.directory_with.Goals as goal

pub new-requires : goal.new-requires
new-requires c = omega (arith, c.requires.start)

pub invariant_of-result : goal.invariant_of-result
invariant_of-result c =
    let k = c.requires in
    let bytes = c.new.ensures ∙ behind_head _ _ k.entries c.args.checked.start k.head k.start in
    let read = entries_are _ _ _ _ _ _ k.are.are in
    record {
      spelled = rw (bytes, read) (c.args.bytes.items, directory_of_entries _ _ _ _ _ _ k.head k.place k.are.are k.are.whole);
      entries = rw (bytes, read) k.are.are;
      marked = rw (bytes, read) k.are.marked;
      near = k.are.near;
    }

pub returns : goal.returns
returns c =
    let k = c.requires in
    let bytes = c.new.ensures ∙ behind_head _ _ k.entries c.args.checked.start k.head k.start in
    let read = entries_are _ _ _ _ _ _ k.are.are in
    (rw (bytes, read) (directory_of_entries _ _ _ _ _ _ k.head k.place k.are.are k.are.whole), refl)
