use Rattle.std.proofs.Common.{◌≡◌, ◌<◌, get_or, length, refl, sym, ◌∙◌, arith}
use Rattle.std.proofs.lemmas.Bool.Decides.{nat_tests}
use Rattle.std.proofs.lemmas.List.{length-set}
use Rattle.std.proofs.lemmas.Str.Ascii.{IsAscii-more, IsAscii-nil}
use Rattle.wu_token.proofs.WordLemmas.{lowered_more, word_of-ascii}
use Rattle.wu_token.proofs.lowered.Word.of_run.Goals as goal

pub loop-i-init : goal.loop-i-init
loop-i-init c = record { room = refl; ascii = IsAscii-nil; lowered = refl }

pub loop-i-preserved : goal.loop-i-preserved
loop-i-preserved c =
    let now = c.loop-i.invariant in
    let i = c.loop-i.i in
    let run = c.args.run.now in
    let within : i < length run = omega (arith, c.loop-i-test.true, c.min-len.ensures) in
    let room : i < length c.loop-i.room = omega (arith, c.loop-i-test.true, c.min-len.ensures, now.room) in
    let ascii : get_or run i 0 < 128 = grind (arith, nat_tests, c.is_ascii.ensures, c.if-not-is_ascii.false) in
    record {
      room = length-set c.loop-i.room i c.to_ascii_lowercase.result ∙ now.room;
      ascii = IsAscii-more run i within now.ascii ascii;
      lowered = lowered_more run c.loop-i.room i c.to_ascii_lowercase.result within room c.to_ascii_lowercase.ensures.value now.lowered;
    }

pub returns : goal.returns
returns c =
    let now = c.loop-i.invariant in
    let end : c.min-len.result ≡ c.loop-i.i = omega (arith, c.loop-i-test.false, c.loop-i.auto.i-end) in
    rw end (now.lowered ∙ word_of-ascii c.args.run.now c.loop-i.i (sym end ∙ c.min-len.ensures) now.ascii)
