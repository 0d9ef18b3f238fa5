use Rattle.std.proofs.Common.{◌≡◌, ℕ, false, length, [], ◌∷◌, ◌++◌, refl, sym}
use Rattle.std.specs.Prelude.{◌==◌}
use Rattle.wu_export.specs.Exports.{commands_of, text_entries, text_line}
use Rattle.wu_export.proofs.WrittenCommands.{in_two, some-text}
use Rattle.wu_export.proofs.writing.put_text.Goals as goal

pub returns : goal.returns
returns c =
    let number : ℕ = c.args.number in
    let text = c.args.text.now in
    let old = c.args.out.now.items in
    let some : (length text == 0) ≡ false = sym c.if-is_empty.ensures in
    let head = text_line number (length text) in
    let second = in_two old c.put_text_line.new.out.items c.extend_from_slice.new.self.items head text (head ++ text)
    c.in_ok-put_text_line.ensures c.in_ok-extend_from_slice.ensures.items refl in
    in_two old c.extend_from_slice.new.self.items c.push.new.self.items (head ++ text) (10 ∷ []) (commands_of (text_entries number text))
    second c.in_ok-push.ensures.items (some-text number text some)
