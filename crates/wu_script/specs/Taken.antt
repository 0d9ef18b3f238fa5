-- What a line that was taken is.
use Rattle.std.specs.Prelude.{◌≡◌, ◌≤◌}
use Rattle.wu_base.specs.declared.limits.TheConstants.{INPUT_MAX}
use Rattle.wu_script.specs.declared.items.ParsedLine.{ParsedLine}
use Rattle.wu_script.specs.declared.items.ParsedLine.TheVariants as heard
use Rattle.wu_script.specs.Commands.{Entry, LineSays, Whole, TextHead}
use Rattle.wu_script.specs.Items.{IsBeforeEnd}
use Rattle.wu_script.specs.Said.{Reading, IsReading, Said, said_by, line_of, IsSoundItem}

abbrev pub parsed_said : ParsedLine → LineSays Said
parsed_said (heard.Item item) = Whole (said_by item)
parsed_said (heard.TextHead ino len) = TextHead ino len

abbrev pub IsParsed : LineSays Entry → ParsedLine → Type 0
IsParsed says heard = (read : Reading) → IsReading read → parsed_said heard ≡ line_of read says

abbrev pub IsSoundParsed : ParsedLine → Type 0
IsSoundParsed (heard.Item item) = IsSoundItem item × IsBeforeEnd item
IsSoundParsed (heard.TextHead ino len) = (1 ≤ ino) × (len ≤ INPUT_MAX)
