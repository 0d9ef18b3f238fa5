-- The grammar of region expressions: operands, parentheses and operators.
use Rattle.std.specs.Prelude.{ℕ, ◌+◌, ◌<◌, ◌≤◌, List, [], ◌∷◌, ◌++◌}
use Rattle.wu_gcl.specs.declared.expressions.Op.{Op}
use Rattle.wu_gcl.specs.declared.expressions.Op.TheVariants.{Containing, ContainedIn, NotContaining, NotContainedIn, OneOf, BothOf}
use Rattle.wu_gcl.specs.declared.expressions.Op.TheVariants.{FollowedBy}
use Rattle.wu_gcl.specs.Lexical.{Atom, Token, Operand, Operator, Open, Close}

-- an expression as it is written
pub data Syntax : Type 0 where
  Single : (atom : Atom) → Syntax
  Group : (inner : Syntax) → Syntax
  Join : (op : Op) (left right : Syntax) → Syntax

abbrev pub tokens_in : Syntax → List Token
tokens_in (Single atom) = Operand atom ∷ []
tokens_in (Group inner) = Open ∷ (tokens_in inner ++ Close ∷ [])
tokens_in (Join op left right) = tokens_in left ++ (Operator op ∷ tokens_in right)

-- the four containment operators bind least tightly
abbrev pub precedence : Op → ℕ
precedence Containing = 0
precedence ContainedIn = 0
precedence NotContaining = 0
precedence NotContainedIn = 0
precedence OneOf = 1
precedence BothOf = 2
precedence FollowedBy = 3

-- an operand and what stands in parentheses hold together most tightly
abbrev pub binding_strength : Syntax → ℕ
binding_strength (Single atom) = 4
binding_strength (Group inner) = 4
binding_strength (Join op left right) = precedence op

-- Each operator is left associative: what stands on its left may have an operator of its own level,
-- and what stands on its right only operators that bind more tightly.
abbrev pub IsGrouped : Syntax → Type 0
IsGrouped (Single atom) = Unit {0}
IsGrouped (Group inner) = IsGrouped inner
IsGrouped (Join op left right) =
    (precedence op ≤ binding_strength left) × (precedence op < binding_strength right) × IsGrouped left × IsGrouped right

-- how many operators and opening parentheses there are
abbrev pub operator_count : List Token → ℕ
operator_count [] = 0
operator_count (Operand atom ∷ tokens) = operator_count tokens
operator_count (Operator op ∷ tokens) = 1 + operator_count tokens
operator_count (Open ∷ tokens) = operator_count tokens
operator_count (Close ∷ tokens) = operator_count tokens

abbrev pub open_count : List Token → ℕ
open_count [] = 0
open_count (Operand atom ∷ tokens) = open_count tokens
open_count (Operator op ∷ tokens) = open_count tokens
open_count (Open ∷ tokens) = 1 + open_count tokens
open_count (Close ∷ tokens) = open_count tokens
