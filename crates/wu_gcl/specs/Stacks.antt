-- The parser's stack and state, without where they lie in memory.
use Rattle.std.specs.Prelude.{List, map, reverse, Option, Some, None, Result}
use Rattle.wu_gcl.specs.declared.grammar.Waiting.{Waiting as HeldWaiting}
use Rattle.wu_gcl.specs.declared.grammar.Waiting.TheVariants as waits
use Rattle.wu_gcl.specs.declared.grammar.State.{State as HeldState}
use Rattle.wu_gcl.specs.declared.grammar.State.TheVariants as states
use Rattle.wu_gcl.specs.declared.expressions.Expr.{Expr}
use Rattle.wu_gcl.specs.declared.expressions.ExprFault.{ExprFault}
use Rattle.wu_gcl.specs.Lexical.{Token}
use Rattle.wu_gcl.specs.Reading.{Value, seen}
use Rattle.wu_gcl.specs.Pending.{Waiting, Paren, Left, State, operand_wanted, operand_held, stepped, ended}

abbrev pub waiting_of : HeldWaiting → Waiting
waiting_of waits.Paren = Paren
waiting_of (waits.Left left op) = Left (seen left) op

-- the innermost first
abbrev pub stack_of : List HeldWaiting → List Waiting
stack_of waiting = reverse (map waiting_of waiting)

abbrev pub state_of : List Waiting → HeldState → Option State
state_of waiting states.Wanted = operand_wanted waiting
state_of waiting (states.Held operand) = operand_held waiting (seen operand)
state_of waiting states.Refused = None

abbrev pub advanced : Token → Option State → Option State
advanced token None = None
advanced token (Some state) = stepped token state.waiting state.operand

abbrev pub ended_in : Option State → Option Value
ended_in None = None
ended_in (Some state) = ended state.waiting state.operand

abbrev pub seen_end : Option (Result Expr ExprFault) → Option Value
seen_end None = None
seen_end (Some operand) = Some (seen operand)
