use Rattle.wu_outside.proofs.Handing.{handed_value}
use Rattle.wu_outside.proofs.Seeking.{sought_place}
use Rattle.wu_outside.proofs.disk.seek_to.Goals as goal

pub returns-clause-place : goal.returns-clause-place
returns-clause-place g c =
    let place = g.F.Seek.stream_position in
    let n = c.in_ok-note.field-0 in
    sought_place (place c.args.file.now) (place c.seek.new.self) (g.F.Seek.stream_bytes c.args.file.now) c.args.at n c.seek.result
    (handed_value c.args.failures.now.count c.note.new.self.count c.seek.result c.note.result n c.note.ensures.handed_on c.in_ok-note.was)
    c.seek.ensures.moves
