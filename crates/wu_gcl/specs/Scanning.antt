-- The first token of a text, found from the left.
use Rattle.std.specs.Prelude.{ℕ, ◌+◌, ◌==◌, ◌||◌, not, Bool, nat_lt, nat_eq, List, [], ◌∷◌, length, take, drop, codes, Option, Some, None}
use Rattle.std.specs.Prelude.{if◌then◌else◌}
use Rattle.std.specs.Char.{is_ascii_digit, is_ascii_alphabetic}
use Rattle.std.specs.List.{prefix_len}
use Rattle.std.specs.Cmp.Lexicographic.{pointwise}
use Rattle.wu_gcl.specs.declared.expressions.Op.TheVariants.{Containing, ContainedIn, NotContaining, NotContainedIn, OneOf, BothOf}
use Rattle.wu_gcl.specs.declared.expressions.Op.TheVariants.{FollowedBy}
use Rattle.wu_gcl.specs.Lexical.{Quoted, Bracketed, FileWord, LineWord, Token, Operand, Operator, Open, Close}
use Rattle.wu_gcl.specs.declared.lexing.Token.{Token as WrittenToken}
use Rattle.wu_gcl.specs.Views.{token_of}
use Rattle.std.specs.Borrow.{Bor}

-- a token, and what stands after it
abbrev pub FirstToken : Type 0
FirstToken = Option (Token × List ℕ)

abbrev pub token_and : Token → List ℕ → FirstToken
token_and token rest = Some (token, rest)

abbrev pub is_blank : ℕ → Bool
is_blank b = b == 32 || b == 9

abbrev pub after_blanks : List ℕ → List ℕ
after_blanks text = drop (prefix_len is_blank text) text

abbrev pub is_unquote : ℕ → Bool
is_unquote b = not (b == 34)

-- after an opening quote
abbrev pub quoted_at : List ℕ → FirstToken
quoted_at text =
    let n = prefix_len is_unquote text in
    if nat_lt n (length text) then token_and (Operand (Quoted (take n text))) (drop (n + 1) text) else None

abbrev pub closed_by : List ℕ → List ℕ → FirstToken
closed_by digits [] = None
closed_by digits (b ∷ rest) = if b == 93 then token_and (Operand (Bracketed digits)) rest else None

-- after an opening bracket
abbrev pub bracketed_at : List ℕ → FirstToken
bracketed_at text =
    let n = prefix_len is_ascii_digit text in
    if n == 0 then None else closed_by (take n text) (drop n text)

abbrev pub word_of : List ℕ → List ℕ → FirstToken
word_of letters rest =
    if pointwise nat_eq letters (codes "file") then token_and (Operand FileWord) rest
    else if pointwise nat_eq letters (codes "line") then token_and (Operand LineWord) rest
    else None

abbrev pub word_at : List ℕ → FirstToken
word_at text = let n = prefix_len is_ascii_alphabetic text in word_of (take n text) (drop n text)

-- after a slash
abbrev pub negation_at : List ℕ → FirstToken
negation_at [] = None
negation_at (b ∷ rest) =
    if b == 62 then token_and (Operator NotContaining) rest
    else if b == 60 then token_and (Operator NotContainedIn) rest
    else None

-- after a dot
abbrev pub dots_at : List ℕ → FirstToken
dots_at [] = None
dots_at (b ∷ rest) = if b == 46 then token_and (Operator FollowedBy) rest else None

-- a token of one byte, or a word
abbrev pub mark_at : ℕ → List ℕ → FirstToken
mark_at b rest =
    if b == 40 then token_and Open rest
    else if b == 41 then token_and Close rest
    else if b == 62 then token_and (Operator Containing) rest
    else if b == 60 then token_and (Operator ContainedIn) rest
    else if b == 43 then token_and (Operator OneOf) rest
    else if b == 94 then token_and (Operator BothOf) rest
    else word_at (b ∷ rest)

abbrev pub first_token : List ℕ → FirstToken
first_token [] = None
first_token (b ∷ rest) =
    if b == 34 then quoted_at rest
    else if b == 91 then bracketed_at rest
    else if b == 47 then negation_at rest
    else if b == 46 then dots_at rest
    else mark_at b rest

-- what was found, without where it lies in memory
abbrev pub seen_token : Option (WrittenToken × Bor (List ℕ)) → FirstToken
seen_token None = None
seen_token (Some found) = token_and (token_of found.0) found.1.now
