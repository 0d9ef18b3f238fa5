-- What is printed spells the expression that it was printed from.
use Rattle.std.proofs.Common.{◌≡◌, ◌≢◌, ℕ, ◌-◌, ◌≤◌, false, List, [], ◌∷◌, ◌++◌, append_assoc, append-nil, refl, ap, inl, arith}
use Rattle.std.specs.Prelude.{codes}
use Rattle.std.specs.List.{AllByRecursion, join_with_byte}
use Rattle.std.specs.Fmt.{decimal}
use Rattle.wu_token.specs.Tokens.{file_start, file_end, line_start, line_end}
use Rattle.wu_gcl.specs.declared.expressions.Tag.{Tag}
use Rattle.wu_gcl.specs.declared.expressions.Tag.TheVariants.{FileStart, FileEnd, LineStart, LineEnd}
use Rattle.wu_gcl.specs.declared.expressions.Op.{Op}
use Rattle.wu_gcl.specs.Lexical.{Atom, Quoted, Bracketed, FileWord, LineWord, Token, Operand, Operator, Open, Close, op_text, token_text}
use Rattle.wu_gcl.specs.Lexical.{IsToken, EndsBefore, IsBlank, AreTokens, starts_with_letter}
use Rattle.wu_gcl.specs.Grammar.{Syntax, Single, tokens_in, operator_count}
use Rattle.wu_gcl.specs.Regions.{Region, Phrase, Mark, WholeFile, WholeLine, Window, Both}
use Rattle.wu_gcl.specs.Reading.{tag_text, Spells}
use Rattle.wu_gcl.specs.Scanning.{is_unquote}
use Rattle.wu_gcl.specs.Printing.{operand_text, printed}
use Rattle.wu_gcl.proofs.FirstTokens.{run_passes, passes_unquote}
use Rattle.wu_gcl.proofs.WordLaws.{no_quote_in}
use Rattle.wu_gcl.proofs.ReadableRegions.{IsReadable, meaning_readable, tokens_are}
use Rattle.wu_gcl.proofs.PrintedSyntax.{grouped, syntax_of, both_count, meaning_counted, IsCountedSyntax, syntax_counts, syntax_grouped}
use Rattle.wu_gcl.proofs.PrintedSyntax.{IsDecimal, decimal_is, syntax_means}

IsBlank_space : IsBlank 32
IsBlank_space = inl refl

behind_space : (tokens : List Token) (text : List ℕ) → AreTokens tokens text → AreTokens tokens (32 ∷ text)
behind_space [] text are = (IsBlank_space, are)
behind_space (token ∷ tokens) text (blanks, token_on, rest, same, blank, stands, are) =
    (32 ∷ blanks, token_on, rest, ap (λ (bytes : List ℕ). 32 ∷ bytes) same, (IsBlank_space, blank), stands, are)

ends_before : (token : Token) (rest : List ℕ) → (starts_with_letter rest ≡ false) → EndsBefore token rest
ends_before (Operand (Quoted bytes)) rest ends = tt
ends_before (Operand (Bracketed digits)) rest ends = tt
ends_before (Operand FileWord) rest ends = ends
ends_before (Operand LineWord) rest ends = ends
ends_before (Operator op) rest ends = tt
ends_before Open rest ends = tt
ends_before Close rest ends = tt

-- one token more at the front
token_on : (token : Token) (tokens : List Token) (rest : List ℕ) → IsToken token → (starts_with_letter rest ≡ false) → AreTokens tokens rest
    → AreTokens (token ∷ tokens) (token_text token ++ rest)
token_on token tokens rest is ends are =
    ([], token_text token ++ rest, rest, refl, tt, record { spelled = refl; proper = is; ended = ends_before token rest ends }, are)

op_is : (op : Op) (tokens : List Token) (rest : List ℕ) → AreTokens tokens rest → AreTokens (Operator op ∷ tokens) (op_text op ++ rest)
op_is op tokens rest are = ([], op_text op ++ rest, rest, refl, tt, record { spelled = refl; proper = tt; ended = tt }, are)

-- what the tokens of the printed text are, whatever follows it but a letter
record IsSpelled (region : Region) (syntax : Syntax) (text : List ℕ) : Type 0 where
  on : (tokens : List Token) (rest : List ℕ) → (starts_with_letter rest ≡ false) → AreTokens tokens rest
      → AreTokens (tokens_in syntax ++ tokens) (text ++ rest)

grouped_spelled : (region : Region) (syntax : Syntax) (text : List ℕ) → IsSpelled region syntax text
    → IsSpelled region (grouped region syntax) (operand_text region text)
grouped_spelled (Phrase words) syntax text is = is
grouped_spelled (Mark tag) syntax text is = is
grouped_spelled WholeFile syntax text is = is
grouped_spelled WholeLine syntax text is = is
grouped_spelled (Window n) syntax text is = is
grouped_spelled (Both op left right) syntax text is = record {
  on = λ tokens rest ends are.
      rw (append_assoc (tokens_in syntax) (Close ∷ []) tokens, append_assoc text (41 ∷ []) rest) (
        [],
        40 ∷ (text ++ (41 ∷ rest)),
        text ++ (41 ∷ rest),
        refl,
        tt,
        record { spelled = refl; proper = tt; ended = tt },
        is.on (Close ∷ tokens) (41 ∷ rest) refl ([], 41 ∷ rest, rest, refl, tt, record { spelled = refl; proper = tt; ended = tt }, are),
      );
}

atom_spelled : (region : Region) (atom : Atom) → IsToken (Operand atom) → IsSpelled region (Single atom) (token_text (Operand atom))
atom_spelled region atom is = record { on = λ tokens rest ends are. token_on (Operand atom) tokens rest is ends are }

tag_is : (tag : Tag) → AllByRecursion (λ b. b ≢ 34) (tag_text tag)
unfolding file_start file_end line_start line_end
tag_is FileStart = run_passes is_unquote (λ b. b ≢ 34) passes_unquote (codes "<file>")
tag_is FileEnd = run_passes is_unquote (λ b. b ≢ 34) passes_unquote (codes "</file>")
tag_is LineStart = run_passes is_unquote (λ b. b ≢ 34) passes_unquote (codes "<line>")
tag_is LineEnd = run_passes is_unquote (λ b. b ≢ 34) passes_unquote (codes "</line>")

syntax_spelled : (region : Region) → IsReadable region → IsSpelled region (syntax_of region) (printed region)
syntax_spelled (Phrase words) is = atom_spelled (Phrase words) (Quoted (join_with_byte 32 words)) (no_quote_in words is.1)
syntax_spelled (Mark tag) is = atom_spelled (Mark tag) (Quoted (tag_text tag)) (tag_is tag)
syntax_spelled WholeFile is = atom_spelled WholeFile FileWord tt
syntax_spelled WholeLine is = atom_spelled WholeLine LineWord tt
syntax_spelled (Window n) is =
    let decimal_n : IsDecimal n (decimal n) = decimal_is n (omega (arith, is.1)) in
    atom_spelled (Window n) (Bracketed (decimal n)) (decimal_n.some, decimal_n.all)
syntax_spelled (Both op left right) is =
    let first : IsSpelled left (grouped left (syntax_of left)) (operand_text left (printed left)) = grouped_spelled left (syntax_of left)
    (printed left) (syntax_spelled left is.0) in
    let second : IsSpelled right (grouped right (syntax_of right)) (operand_text right (printed right)) = grouped_spelled right
    (syntax_of right) (printed right) (syntax_spelled right is.1) in
    record {
      on = λ tokens rest ends are.
          rw (
            append_assoc (tokens_in (grouped left (syntax_of left))) (Operator op ∷ tokens_in (grouped right (syntax_of right))) tokens,
            append_assoc (operand_text left (printed left)) (32 ∷ (op_text op ++ (32 ∷ operand_text right (printed right)))) rest,
            append_assoc (op_text op) (32 ∷ operand_text right (printed right)) rest,
          )
          (first.on (Operator op ∷ (tokens_in (grouped right (syntax_of right)) ++ tokens))
          (32 ∷ (op_text op ++ (32 ∷ (operand_text right (printed right) ++ rest)))) refl
          (behind_space (Operator op ∷ (tokens_in (grouped right (syntax_of right)) ++ tokens))
          (op_text op ++ (32 ∷ (operand_text right (printed right) ++ rest)))
          (op_is op (tokens_in (grouped right (syntax_of right)) ++ tokens) (32 ∷ (operand_text right (printed right) ++ rest))
          (behind_space (tokens_in (grouped right (syntax_of right)) ++ tokens) (operand_text right (printed right) ++ rest)
          (second.on tokens rest ends are)))));
    }

-- ---- what is printed of what a text spells spells it
pub printed_again : (region : Region) (text : List ℕ) → Spells text region → Spells (printed region) region
printed_again region text says =
    let tokens : AllByRecursion IsToken (tokens_in says.syntax) = rw says.written.spelled at (tokens_are says.tokens text says.lexed) in
    let readable : IsReadable region = rw says.meant at (meaning_readable says.syntax tokens) in
    let few : both_count region ≡ operator_count (tokens_in says.syntax) = rw says.meant at (meaning_counted says.syntax) in
    let small : operator_count (tokens_in says.syntax) ≤ 63 = rw says.written.spelled at says.small.operators in
    let counts : IsCountedSyntax (both_count region) (both_count region - 1) (syntax_of region) = syntax_counts region in
    let lexed : AreTokens (tokens_in (syntax_of region) ++ []) (printed region ++ []) = (syntax_spelled region readable).on [] [] refl tt in
    record {
      tokens = tokens_in (syntax_of region);
      lexed = rw (append-nil (tokens_in (syntax_of region)), append-nil (printed region)) at lexed;
      small = record { operators = omega (arith, counts.operators_are); groups = omega (arith, counts.opens_are) };
      syntax = syntax_of region;
      written = record { spelled = refl; grouped = syntax_grouped region };
      meant = syntax_means region readable;
    }
