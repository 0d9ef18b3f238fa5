-- The tokens of a region expression, and the bytes that they are.
use Rattle.std.specs.Prelude.{◌≡◌, ◌≢◌, ◌⊎◌, ℕ, ◌<◌, Bool, false, List, [], ◌∷◌, ◌++◌, length, codes}
use Rattle.std.specs.Char.{IsAsciiDigit, is_ascii_alphabetic}
use Rattle.std.specs.List.{AllByRecursion}
use Rattle.wu_gcl.specs.declared.expressions.Op.{Op}
use Rattle.wu_gcl.specs.declared.expressions.Op.TheVariants.{Containing, ContainedIn, NotContaining, NotContainedIn, OneOf, BothOf}
use Rattle.wu_gcl.specs.declared.expressions.Op.TheVariants.{FollowedBy}

-- an operand, as it is written
pub data Atom : Type 0 where
  Quoted : (bytes : List ℕ) → Atom
  Bracketed : (digits : List ℕ) → Atom
  FileWord : Atom
  LineWord : Atom

pub data Token : Type 0 where
  Operand : (atom : Atom) → Token
  Operator : (op : Op) → Token
  Open : Token
  Close : Token

abbrev pub op_text : Op → List ℕ
op_text Containing = codes ">"
op_text ContainedIn = codes "<"
op_text NotContaining = codes "/>"
op_text NotContainedIn = codes "/<"
op_text OneOf = codes "+"
op_text BothOf = codes "^"
op_text FollowedBy = codes ".."

-- between quotes, between brackets, or a word
abbrev pub atom_text : Atom → List ℕ
atom_text (Quoted bytes) = 34 ∷ (bytes ++ 34 ∷ [])
atom_text (Bracketed digits) = 91 ∷ (digits ++ 93 ∷ [])
atom_text FileWord = codes "file"
atom_text LineWord = codes "line"

abbrev pub token_text : Token → List ℕ
token_text (Operand atom) = atom_text atom
token_text (Operator op) = op_text op
token_text Open = codes "("
token_text Close = codes ")"

-- a space or a TAB
abbrev pub IsBlank : ℕ → Type 0
IsBlank b = (b ≡ 32) ⊎ (b ≡ 9)

-- no quote stands in a quoted text, and one or more digits between brackets
abbrev pub IsToken : Token → Type 0
IsToken (Operand (Quoted bytes)) = AllByRecursion (λ b. b ≢ 34) bytes
IsToken (Operand (Bracketed digits)) = (0 < length digits) × AllByRecursion IsAsciiDigit digits
IsToken (Operand FileWord) = Unit {0}
IsToken (Operand LineWord) = Unit {0}
IsToken (Operator op) = Unit {0}
IsToken Open = Unit {0}
IsToken Close = Unit {0}

abbrev pub starts_with_letter : List ℕ → Bool
starts_with_letter [] = false
starts_with_letter (b ∷ bs) = is_ascii_alphabetic b

-- a word is all the letters that stand there: no letter follows it
abbrev pub EndsBefore : Token → List ℕ → Type 0
EndsBefore (Operand (Quoted bytes)) rest = Unit {0}
EndsBefore (Operand (Bracketed digits)) rest = Unit {0}
EndsBefore (Operand FileWord) rest = starts_with_letter rest ≡ false
EndsBefore (Operand LineWord) rest = starts_with_letter rest ≡ false
EndsBefore (Operator op) rest = Unit {0}
EndsBefore Open rest = Unit {0}
EndsBefore Close rest = Unit {0}

-- the text is this token, whole, and the rest
pub record Stands (token : Token) (rest text : List ℕ) : Type 0 where
  pub spelled : text ≡ token_text token ++ rest
  pub proper : IsToken token
  pub ended : EndsBefore token rest

-- the text is these tokens, with any spaces and TABs before, between and after them
abbrev pub AreTokens : List Token → List ℕ → Type 0
AreTokens [] text = AllByRecursion IsBlank text
AreTokens (token ∷ tokens) text =
    (blanks : List ℕ) × (token_on : List ℕ) × (rest : List ℕ) × (text ≡ blanks ++ token_on) × AllByRecursion IsBlank blanks
    × Stands token rest token_on × AreTokens tokens rest

-- the text isn't a list of tokens
abbrev pub HasNoTokens : List ℕ → Type 0
HasNoTokens text = (tokens : List Token) → AreTokens tokens text → ⊥
