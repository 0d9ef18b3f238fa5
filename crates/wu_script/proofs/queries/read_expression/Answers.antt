use Rattle.std.proofs.Common.{◌≡◌, ℕ, List, Result, Ok, Err, IfOk}
use Rattle.wu_base.specs.declared.memory.NoMemory.{NoMemory}
use Rattle.wu_gcl.specs.declared.expressions.Expr.{Expr}
use Rattle.wu_gcl.specs.declared.expressions.ExprFault.{ExprFault}
use Rattle.wu_gcl.specs.Reading.{Reads, seen}
use Rattle.wu_gcl.proofs.Uniqueness.{one_reading}
use Rattle.wu_script.specs.Said.{Reading, IsReading}
use Rattle.wu_script.proofs.queries.read_expression.Goals as goal

abbrev IsReadOf : List ℕ → Result Expr ExprFault → Type 0
IsReadOf text r = (read : Reading) → IsReading read → read text ≡ seen r

is_read : (text : List ℕ) (r : Result (Result Expr ExprFault) NoMemory) → IfOk r (λ r. Reads text (seen r)) → IfOk r (IsReadOf text)
is_read text (Ok r) reads = λ read reading. one_reading text (read text) (seen r) (reading text) reads
is_read text (Err e) reads = tt

pub returns-clause-reads : goal.returns-clause-reads
returns-clause-reads c = is_read c.args.text.now c.parse.result c.parse.ensures.reads
