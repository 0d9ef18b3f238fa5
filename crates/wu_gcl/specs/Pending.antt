-- Reading tokens from the left, with a stack of what is open.
use Rattle.std.specs.Prelude.{ℕ, Bool, ◌||◌, nat_le, nat_lt, List, [], ◌∷◌, Option, Some, None, Err, if◌then◌else◌}
use Rattle.wu_base.specs.declared.limits.TheConstants.{OPERATORS_MAX, PARENS_MAX}
use Rattle.wu_gcl.specs.declared.expressions.Op.{Op}
use Rattle.wu_gcl.specs.Lexical.{Token, Operand, Operator, Open, Close}
use Rattle.wu_gcl.specs.declared.expressions.ExprFault.TheVariants.{NotAnExpression, TooLarge}
use Rattle.wu_gcl.specs.Grammar.{precedence, operator_count, open_count}
use Rattle.wu_gcl.specs.Reading.{Value, value_of, join}

-- what waits for a closing parenthesis, or for its right operand
pub data Waiting : Type 0 where
  Paren : Waiting
  Left : (left : Value) (op : Op) → Waiting

-- What is open, the innermost first, and the operand that the last token ended, if it ended one.
pub record State : Type 0 where
  pub waiting : List Waiting
  pub operand : Option Value

-- the operand joined with what waits for it and binds at least so tightly
abbrev pub reduced : ℕ → List Waiting → Value → List Waiting × Value
reduced level [] value = ([], value)
reduced level (Paren ∷ waiting) value = (Paren ∷ waiting, value)
reduced level (Left left op ∷ waiting) value =
    if nat_le level (precedence op) then reduced level waiting (join op left value)
    else (Left left op ∷ waiting, value)

abbrev pub operand_wanted : List Waiting → Option State
operand_wanted waiting = Some record { waiting = waiting; operand = None }

abbrev pub operand_held : List Waiting → Value → Option State
operand_held waiting value = Some record { waiting = waiting; operand = Some value }

-- the operand joined with all that waits for it in its parentheses, which close
abbrev pub closed_at : List Waiting → Value → Option State
closed_at [] value = None
closed_at (Paren ∷ waiting) value = operand_held waiting value
closed_at (Left left op ∷ waiting) value = None

-- after one more token; None where no expression begins so
abbrev pub stepped : Token → List Waiting → Option Value → Option State
stepped (Operand atom) waiting None = operand_held waiting (value_of atom)
stepped (Operand atom) waiting (Some value) = None
stepped (Operator op) waiting None = None
stepped (Operator op) waiting (Some value) =
    let joined = reduced (precedence op) waiting value in operand_wanted (Left joined.1 op ∷ joined.0)
stepped Open waiting None = operand_wanted (Paren ∷ waiting)
stepped Open waiting (Some value) = None
stepped Close waiting None = None
stepped Close waiting (Some value) = let joined = reduced 0 waiting value in closed_at joined.0 joined.1

-- the operand joined with all that waits for it, where no parenthesis is open
abbrev pub ended_at : List Waiting → Value → Option Value
ended_at [] value = Some value
ended_at (_ ∷ waiting) value = None

abbrev pub ended : List Waiting → Option Value → Option Value
ended waiting None = None
ended waiting (Some value) = let joined = reduced 0 waiting value in ended_at joined.0 joined.1

-- the value of the expression that the tokens end; None where there is none
abbrev pub run : List Token → Option State → Option Value
run tokens None = None
run [] (Some state) = ended state.waiting state.operand
run (token ∷ tokens) (Some state) = run tokens (stepped token state.waiting state.operand)

abbrev pub evaluated : List Token → Option Value
evaluated tokens = run tokens (operand_wanted [])

-- more than OPERATORS_MAX operators or more than PARENS_MAX opening parentheses
abbrev pub is_large : List Token → Bool
is_large tokens = nat_lt OPERATORS_MAX (operator_count tokens) || nat_lt PARENS_MAX (open_count tokens)

abbrev pub found : Option Value → Value
found None = Err NotAnExpression
found (Some value) = value

-- what tokens say: their limits come first, then the grammar, then the operands
abbrev pub outcome : List Token → Value
outcome tokens = if is_large tokens then Err TooLarge else found (evaluated tokens)
