use Rattle.std.proofs.Common.{refl}
use Rattle.wu_token.specs.Tokens.{file_start, file_end, line_start, line_end}
use Rattle.wu_gcl.proofs.naming.tag_bytes.Goals as goal

pub returns-in-FileStart : goal.returns-in-FileStart
unfolding file_start
returns-in-FileStart c = rw c.in-FileStart.is refl

pub returns-in-FileEnd : goal.returns-in-FileEnd
unfolding file_end
returns-in-FileEnd c = rw c.in-FileEnd.is refl

pub returns-in-LineStart : goal.returns-in-LineStart
unfolding line_start
returns-in-LineStart c = rw c.in-LineStart.is refl

pub returns-in-LineEnd : goal.returns-in-LineEnd
unfolding line_end
returns-in-LineEnd c = rw c.in-LineEnd.is refl
