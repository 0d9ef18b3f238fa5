-- How a region expression is printed.
use Rattle.std.specs.Prelude.{ℕ, List, [], ◌∷◌, ◌++◌, codes}
use Rattle.std.specs.List.{join_with_byte}
use Rattle.std.specs.Fmt.{decimal}
use Rattle.wu_gcl.specs.Lexical.{op_text}
use Rattle.wu_gcl.specs.Regions.{Region, Phrase, Mark, WholeFile, WholeLine, Window, Both}
use Rattle.wu_gcl.specs.Reading.{tag_text}

-- bytes between quotes
abbrev pub quoted : List ℕ → List ℕ
quoted bytes = 34 ∷ (bytes ++ 34 ∷ [])

-- a word after a space
abbrev pub spaced : List ℕ → List ℕ
spaced word = 32 ∷ word

-- an operand's text, in parentheses where it has an operator
abbrev pub operand_text : Region → List ℕ → List ℕ
operand_text (Phrase words) text = text
operand_text (Mark tag) text = text
operand_text WholeFile text = text
operand_text WholeLine text = text
operand_text (Window n) text = text
operand_text (Both op left right) text = 40 ∷ (text ++ 41 ∷ [])

-- one space round each operator, and between the words of a phrase
abbrev pub printed : Region → List ℕ
printed (Phrase words) = quoted (join_with_byte 32 words)
printed (Mark tag) = quoted (tag_text tag)
printed WholeFile = codes "file"
printed WholeLine = codes "line"
printed (Window n) = 91 ∷ (decimal n ++ 93 ∷ [])
printed (Both op left right) =
    operand_text left (printed left) ++ (32 ∷ (op_text op ++ (32 ∷ operand_text right (printed right))))
