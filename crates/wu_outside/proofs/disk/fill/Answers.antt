use Rattle.std.proofs.Common.{rules, ◌≡◌, ◌-◌, length, Ok, subst}
use Rattle.std.specs.Io.{ReadsAtMost}
use Rattle.std.specs.Io.KnownBytes.{ReadConsumes}
use Rattle.wu_outside.proofs.Handing.{handed_value}
use Rattle.wu_outside.proofs.Reading.{read_more}
use Rattle.wu_outside.proofs.disk.fill.Goals as goal

pub loop-count-preserved : goal.loop-count-preserved
loop-count-preserved g c =
    let remaining = g.F.Read.remaining in
    let from = c.loop-count.count in
    let more = c.in_ok-more.more in
    let gave : c.read.result ≡ Ok more =
    handed_value c.loop-count.failures.count c.note.new.self.count c.read.result c.note.result more c.note.ensures.handed_on c.in_ok-more.was in
    let bound = subst (λ r. ReadsAtMost r c.read.new.buf) gave c.read.ensures.bound in
    let bytes = subst (λ r. ReadConsumes (remaining c.loop-count.file) (remaining c.read.new.self) r c.read.new.buf) gave c.read.ensures.bytes in
    record {
      room = search rules;
      within = search rules;
      taken = read_more (remaining c.args.file.now) (remaining c.loop-count.file) (remaining c.read.new.self) c.loop-count.buf c.read.new.buf
          from (length c.loop-count.buf - from) more c.loop-count.invariant.within bound.0 c.loop-count.invariant.taken bytes.0;
      calm = search rules;
    }
