use Rattle.std.proofs.Common.{rules, ◌≡◌, ◌≤◌, ◌-◌, length, take, drop, Ok, IfOk, subst}
use Rattle.std.specs.Io.KnownBytes.{WriteAppends}
use Rattle.wu_outside.proofs.Handing.{handed_value}
use Rattle.wu_outside.proofs.Sending.{sent_more}
use Rattle.wu_outside.proofs.disk.write_bytes.Goals as goal

pub loop-at-preserved : goal.loop-at-preserved
loop-at-preserved g c =
    let contents = g.F.Write.contents in
    let count = c.in_ok-count.count in
    let piece = take (length c.args.bytes.now - c.loop-at.at) (drop c.loop-at.at c.args.bytes.now) in
    let took : c.write.result ≡ Ok count =
    handed_value c.loop-at.failures.count c.note.new.self.count c.write.result c.note.result count c.note.ensures.handed_on c.in_ok-count.was in
    let fits = subst (λ r. IfOk r (λ n. n ≤ length piece)) took c.write.ensures.bound in
    let bytes = subst (λ r. WriteAppends (contents c.loop-at.file) (contents c.write.new.self) r piece) took c.write.ensures.bytes in
    record {
      within = search rules;
      written = sent_more (contents c.args.file.now) (contents c.loop-at.file) (contents c.write.new.self) c.args.bytes.now
          c.loop-at.at count c.loop-at.invariant.written bytes;
      calm = search rules;
    }
