-- What bytes say as a region expression.
use Rattle.std.specs.Prelude.{◌≡◌, ◌⊎◌, ℕ, ◌<◌, ◌≤◌, ◌==◌, Bool, List, [], ◌∷◌, Option, Some, None, Result, Ok, Err, if◌then◌else◌}
use Rattle.std.specs.Cmp.Lexicographic.{pointwise}
use Rattle.std.specs.Prelude.{nat_eq}
use Rattle.wu_gcl.specs.declared.expressions.Tag.{Tag}
use Rattle.wu_gcl.specs.declared.expressions.Tag.TheVariants.{FileStart, FileEnd, LineStart, LineEnd}
use Rattle.wu_gcl.specs.declared.expressions.Op.{Op}
use Rattle.wu_gcl.specs.declared.expressions.Expr.{Expr}
use Rattle.wu_gcl.specs.declared.expressions.ExprFault.{ExprFault}
use Rattle.wu_gcl.specs.declared.expressions.ExprFault.TheVariants.{NotAnExpression, TooLarge, NoWord, BadWindow}
use Rattle.wu_base.specs.declared.limits.TheConstants.{OPERATORS_MAX, PARENS_MAX}
use Rattle.wu_fields.specs.Numbers.{number_of}
use Rattle.wu_token.specs.Words.{words_of}
use Rattle.wu_token.specs.Tokens.{file_start, file_end, line_start, line_end}
use Rattle.wu_gcl.specs.declared.expressions.TheConstants.{WINDOW_MAX}
use Rattle.wu_gcl.specs.Lexical.{Atom, Quoted, Bracketed, FileWord, LineWord, Token, AreTokens, HasNoTokens}
use Rattle.wu_gcl.specs.Grammar.{Syntax, Single, Group, Join, tokens_in, IsGrouped, operator_count, open_count}
use Rattle.wu_gcl.specs.Regions.{Region, Phrase, Mark, WholeFile, WholeLine, Window, Both, region_of}

-- a region expression, or why it is none
abbrev pub Value : Type 0
Value = Result Region ExprFault

abbrev pub tag_text : Tag → List ℕ
tag_text FileStart = file_start
tag_text FileEnd = file_end
tag_text LineStart = line_start
tag_text LineEnd = line_end

abbrev pub is_tag_text : Tag → List ℕ → Bool
is_tag_text tag bytes = pointwise nat_eq bytes (tag_text tag)

-- the tag that the bytes are exactly, if they are one
abbrev pub tag_at : List ℕ → Option Tag
tag_at bytes =
    if is_tag_text FileStart bytes then Some FileStart
    else if is_tag_text FileEnd bytes then Some FileEnd
    else if is_tag_text LineStart bytes then Some LineStart
    else if is_tag_text LineEnd bytes then Some LineEnd
    else None

abbrev pub phrase_of : List (List ℕ) → Value
phrase_of [] = Err NoWord
phrase_of (word ∷ words) = Ok (Phrase (word ∷ words))

abbrev pub quoted_value : Option Tag → List ℕ → Value
quoted_value (Some tag) bytes = Ok (Mark tag)
quoted_value None bytes = phrase_of (words_of bytes)

abbrev pub window_with : Option ℕ → Value
window_with None = Err BadWindow
window_with (Some n) = if n == 0 then Err BadWindow else Ok (Window n)

-- a window's length: a decimal number from 1 to WINDOW_MAX without a leading zero
abbrev pub window_of : List ℕ → Value
window_of digits = window_with (number_of digits WINDOW_MAX)

abbrev pub value_of : Atom → Value
value_of (Quoted bytes) = quoted_value (tag_at bytes) bytes
value_of (Bracketed digits) = window_of digits
value_of FileWord = Ok WholeFile
value_of LineWord = Ok WholeLine

-- of two faults the one that counts: a missing word comes before a bad window
abbrev pub first_fault : ExprFault → ExprFault → ExprFault
first_fault BadWindow fault = fault
first_fault fault _ = fault

abbrev pub join : Op → Value → Value → Value
join op (Ok left) (Ok right) = Ok (Both op left right)
join op (Ok left) (Err fault) = Err fault
join op (Err fault) (Ok right) = Err fault
join op (Err fault) (Err other) = Err (first_fault fault other)

-- what an expression says, or the first fault of its operands
abbrev pub meaning : Syntax → Value
meaning (Single atom) = value_of atom
meaning (Group inner) = meaning inner
meaning (Join op left right) = join op (meaning left) (meaning right)

-- at most OPERATORS_MAX operators and at most PARENS_MAX opening parentheses
pub record IsSmall (tokens : List Token) : Type 0 where
  pub operators : operator_count tokens ≤ OPERATORS_MAX
  pub groups : open_count tokens ≤ PARENS_MAX

abbrev pub IsLarge : List Token → Type 0
IsLarge tokens = (OPERATORS_MAX < operator_count tokens) ⊎ (PARENS_MAX < open_count tokens)

-- the tokens are this expression
pub record IsWritten (syntax : Syntax) (tokens : List Token) : Type 0 where
  pub spelled : tokens ≡ tokens_in syntax
  pub grouped : IsGrouped syntax

-- the text is tokens, not too many, of an expression of this value
pub record Says (text : List ℕ) (value : Value) : Type 0 where
  pub tokens : List Token
  pub lexed : AreTokens tokens text
  pub small : IsSmall tokens
  pub syntax : Syntax
  pub written : IsWritten syntax tokens
  pub meant : meaning syntax ≡ value

-- What the text is: an expression, or the first fault that applies.
abbrev pub Reads : List ℕ → Value → Type 0
Reads text (Ok region) = Says text (Ok region)
Reads text (Err NotAnExpression) =
    HasNoTokens text
    ⊎ ((tokens : List Token) × AreTokens tokens text × IsSmall tokens × ((syntax : Syntax) → IsWritten syntax tokens → ⊥))
Reads text (Err TooLarge) = (tokens : List Token) × AreTokens tokens text × IsLarge tokens
Reads text (Err NoWord) = Says text (Err NoWord)
Reads text (Err BadWindow) = Says text (Err BadWindow)

-- the bytes spell the region expression
abbrev pub Spells : List ℕ → Region → Type 0
Spells text region = Says text (Ok region)

-- what parse gave, without where it lies in memory
abbrev pub seen : Result Expr ExprFault → Value
seen (Ok expr) = Ok (region_of expr)
seen (Err fault) = Err fault
