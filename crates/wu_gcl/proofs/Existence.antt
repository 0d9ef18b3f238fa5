-- Every text says something.
use Rattle.std.proofs.Common.{◌≡◌, ℕ, zero, suc, ◌<◌, ◌≤◌, List, [], ◌∷◌, ◌++◌, length, Option, Some, None, refl, arith, inl}
use Rattle.wu_gcl.specs.Lexical.{Token}
use Rattle.wu_gcl.specs.Scanning.{FirstToken, first_token, after_blanks}
use Rattle.wu_gcl.specs.Reading.{Value, Reads}
use Rattle.wu_gcl.proofs.Texts.{Progress, progress_start, progress_more, lexed_none, lexed_end, front_shorter, after_blanks-shorter}
use Rattle.wu_gcl.proofs.Outcomes.{reads_outcome}
use Rattle.wu_gcl.proofs.Uniqueness.{IsLexed, outcome_of}

-- the tokens of the text, or that it has none
abbrev Lexing : List ℕ → Type 0
Lexing text = (lexing : Option (List Token)) × IsLexed text lexing

lexing_on : (text : List ℕ) (done : List Token) (rest : List ℕ) (front : FirstToken) → first_token rest ≡ front → Progress text done rest
    → 0 < length rest →
    ((token : Token) (after : List ℕ) → first_token rest ≡ Some (token, after) → Lexing text) → Lexing text
lexing_on text done rest None is progress some next = (None, lexed_none text done rest progress.lexed progress.clear some is)
lexing_on text done rest (Some (token, after)) is progress some next = next token after is

-- each token shortens what is left
lexing_from : (bound : ℕ) (text : List ℕ) (done : List Token) (rest : List ℕ) → length rest ≤ bound → Progress text done rest → Lexing text
lexing_from bound text done [] within progress = (Some done, lexed_end text done progress.lexed)
lexing_from zero text done (b ∷ rest) within progress = absurd (omega arith)
lexing_from (suc bound) text done (b ∷ rest) within progress =
    let some : 0 < length (b ∷ rest) = omega arith in
    lexing_on text done (b ∷ rest) (first_token (b ∷ rest)) refl progress some (λ token after found.
    lexing_from bound text (done ++ token ∷ []) (after_blanks after)
    (omega (arith, within, front_shorter (b ∷ rest) token after found, after_blanks-shorter after))
    (progress_more text done (b ∷ rest) token after progress some found))

reads_lexing : (text : List ℕ) (lexing : Option (List Token)) → IsLexed text lexing → Reads text (outcome_of lexing)
reads_lexing text None none = inl none
reads_lexing text (Some tokens) lexed = reads_outcome text tokens lexed

-- every text is an expression or has a fault
pub each_text_is_read : (text : List ℕ) → (value : Value) × Reads text value
each_text_is_read text =
    let found : Lexing text = lexing_from (length (after_blanks text)) text [] (after_blanks text) (omega arith) (progress_start text) in
    (outcome_of found.0, reads_lexing text found.0 found.1)
