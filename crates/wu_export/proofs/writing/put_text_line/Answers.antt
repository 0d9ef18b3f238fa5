use Rattle.std.proofs.Common.{ℕ, ◌<◌, ◌^◌, [], ◌∷◌, ◌++◌, arith}
use Rattle.std.specs.Prelude.{codes, decimal}
use Rattle.wu_export.specs.Exports.{text_line}
use Rattle.wu_export.proofs.WrittenCommands.{in_two, text-line}
use Rattle.wu_export.proofs.writing.put_text_line.Goals as goal

pub returns : goal.returns
returns c =
    let number : ℕ = c.args.number in
    let size : ℕ = c.args.size in
    let small : number < 2 ^ 64 = omega arith in
    let small_size : size < 2 ^ 64 = omega arith in
    in_two c.args.out.now.items c.put_word.new.out.items c.push.new.self.items
    (codes "text" ++ 9 ∷ (decimal number ++ 9 ∷ decimal size)) (10 ∷ []) (text_line number size)
    c.in_ok-put_word.ensures c.in_ok-push.ensures.items (text-line number size small small_size)
