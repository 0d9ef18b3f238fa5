use Rattle.std.proofs.Common.{◌≡◌, ◌≤◌, Some, IfSome, take}
use Rattle.std.specs.Io.KnownBytes.{Consumes}
use Rattle.wu_outside.specs.declared.disk.TheConstants.{LAST_PLACE}
use Rattle.wu_outside.proofs.Seeking.{taken_there}
use Rattle.wu_outside.proofs.disk.read_at.Goals as goal

pub returns-clause-taken : goal.returns-clause-taken
returns-clause-taken g c =
    taken_there (λ x. IfSome (g.F.Seek.stream_position c.args.file.now) (λ _. g.F.Seek.stream_position x ≡ Some c.args.at))
    (λ x n. Consumes (g.F.Read.remaining x) (g.F.Read.remaining c.fill.new.file) (take n c.fill.new.buf))
    (c.args.at ≤ LAST_PLACE) c.seek_to.new.file c.fill.result c.in_ok-seek_to.ensures.place c.fill.ensures.taken
