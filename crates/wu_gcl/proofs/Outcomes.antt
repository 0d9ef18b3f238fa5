-- From what the tokens are worth to what the text says.
use Rattle.std.proofs.Common.{◌≡◌, ℕ, List, [], ◌∷◌, Option, Some, None, Ok, Err, refl, inl, inr, cond, true, false, Bool, arith, eqb}
use Rattle.std.specs.Prelude.{Result, IfOk}
use Rattle.wu_fields.specs.Numbers.{number_of}
use Rattle.wu_token.specs.Words.{words_of}
use Rattle.wu_gcl.specs.declared.expressions.TheConstants.{WINDOW_MAX}
use Rattle.wu_gcl.specs.declared.expressions.Op.{Op}
use Rattle.wu_gcl.specs.declared.expressions.Tag.{Tag}
use Rattle.wu_gcl.specs.declared.expressions.Expr.{Expr}
use Rattle.wu_gcl.specs.declared.expressions.ExprFault.{ExprFault}
use Rattle.wu_gcl.specs.declared.expressions.ExprFault.TheVariants.{NotAnExpression, TooLarge, NoWord, BadWindow}
use Rattle.wu_gcl.specs.Lexical.{Atom, Quoted, Bracketed, FileWord, LineWord, Token, AreTokens}
use Rattle.wu_gcl.specs.Grammar.{Syntax, Single, Group, Join, tokens_in, operator_count}
use Rattle.wu_gcl.specs.Regions.{Region, Window}
use Rattle.wu_gcl.specs.Reading.{Value, tag_at, quoted_value, phrase_of, window_with, value_of, join, meaning, IsSmall, IsLarge, Says}
use Rattle.wu_gcl.specs.Reading.{Reads, seen}
use Rattle.wu_gcl.specs.Pending.{evaluated, is_large, found, outcome}
use Rattle.std.proofs.lemmas.Bool.{cases_lt}
use Rattle.std.proofs.lemmas.Bool.Decides.{nat_tests}
use Rattle.wu_gcl.proofs.Completeness.{evaluated_in}
use Rattle.wu_gcl.proofs.Soundness.{Expresses, expressed}

-- an operand has no other fault
abbrev pub IsOperandValue : Value → Type 0
IsOperandValue (Ok region) = Unit {0}
IsOperandValue (Err NotAnExpression) = ⊥
IsOperandValue (Err TooLarge) = ⊥
IsOperandValue (Err NoWord) = Unit {0}
IsOperandValue (Err BadWindow) = Unit {0}

phrase_is : (words : List (List ℕ)) → IsOperandValue (phrase_of words)
phrase_is [] = tt
phrase_is (word ∷ words) = tt

quoted_is : (tag : Option Tag) (bytes : List ℕ) → IsOperandValue (quoted_value tag bytes)
quoted_is (Some tag) bytes = tt
quoted_is None bytes = phrase_is (words_of bytes)

cond_is : (test : Bool) (region : Region) → IsOperandValue (cond test (Err BadWindow) (Ok region))
cond_is true region = tt
cond_is false region = tt

window_is : (number : Option ℕ) → IsOperandValue (window_with number)
window_is None = tt
window_is (Some n) = cond_is (eqb n 0) (Window n)

value_is : (atom : Atom) → IsOperandValue (value_of atom)
value_is (Quoted bytes) = quoted_is (tag_at bytes) bytes
value_is (Bracketed digits) = window_is (number_of digits WINDOW_MAX)
value_is FileWord = tt
value_is LineWord = tt

join_is : (op : Op) (left right : Value) → IsOperandValue left → IsOperandValue right → IsOperandValue (join op left right)
join_is op (Ok left) (Ok right) l r = tt
join_is op (Ok left) (Err fault) l r = r
join_is op (Err fault) (Ok right) l r = l
join_is op (Err NoWord) (Err other) l r = tt
join_is op (Err BadWindow) (Err other) l r = r
join_is op (Err NotAnExpression) (Err other) l r = l
join_is op (Err TooLarge) (Err other) l r = l

meaning_is : (syntax : Syntax) → IsOperandValue (meaning syntax)
meaning_is (Single atom) = value_is atom
meaning_is (Group inner) = meaning_is inner
meaning_is (Join op left right) = join_is op (meaning left) (meaning right) (meaning_is left) (meaning_is right)

reads_said : (text : List ℕ) (value : Value) → IsOperandValue value → Says text value → Reads text value
reads_said text (Ok region) is says = says
reads_said text (Err NotAnExpression) is says = absurd is
reads_said text (Err TooLarge) is says = absurd is
reads_said text (Err NoWord) is says = says
reads_said text (Err BadWindow) is says = says

reads_found : (text : List ℕ) (tokens : List Token) (value : Value) → AreTokens tokens text → IsSmall tokens → evaluated tokens ≡ Some value
    → Reads text value
reads_found text tokens value lexed small found =
    let expresses : Expresses tokens value = expressed tokens value found in
    let is : IsOperandValue value = rw (← expresses.meant) (meaning_is expresses.syntax) in
    reads_said text value is
    (record {
      tokens = tokens;
      lexed = lexed;
      small = small;
      syntax = expresses.syntax;
      written = record { spelled = expresses.spelled; grouped = expresses.grouped };
      meant = expresses.meant;
    })

not_written : (tokens : List Token) (syntax : Syntax) → evaluated tokens ≡ None → tokens ≡ tokens_in syntax
    → evaluated (tokens_in syntax) ≡ Some (meaning syntax) → ⊥
not_written tokens syntax none spelled found =
    let again : evaluated (tokens_in syntax) ≡ None = rw (← spelled) none in
    cc

reads_none : (text : List ℕ) (tokens : List Token) → AreTokens tokens text → IsSmall tokens → evaluated tokens ≡ None
    → Reads text (Err NotAnExpression)
reads_none text tokens lexed small none =
    inr (tokens, lexed, small, λ syntax written. not_written tokens syntax none written.spelled (evaluated_in syntax written.grouped))

small : (tokens : List Token) → is_large tokens ≡ false → IsSmall tokens
small tokens is = record { operators = grind (arith, nat_tests); groups = grind (arith, nat_tests) }

large : (tokens : List Token) → is_large tokens ≡ true → IsLarge tokens
large tokens is = elim (cases_lt 63 (operator_count tokens)) [ inl many ↦ inl many | inr few ↦ inr (grind (arith, nat_tests)) ]

reads_small : (text : List ℕ) (tokens : List Token) (value : Option Value) → evaluated tokens ≡ value → AreTokens tokens text
    → IsSmall tokens → Reads text (found value)
reads_small text tokens (Some value) is lexed small = reads_found text tokens value lexed small is
reads_small text tokens None is lexed small = reads_none text tokens lexed small is

reads_by : (text : List ℕ) (tokens : List Token) (test : Bool) → is_large tokens ≡ test → AreTokens tokens text
    → Reads text (cond test (Err TooLarge) (found (evaluated tokens)))
reads_by text tokens true is lexed = (tokens, lexed, large tokens is)
reads_by text tokens false is lexed = reads_small text tokens (evaluated tokens) refl lexed (small tokens is)

-- a text says what its tokens say
pub reads_outcome : (text : List ℕ) (tokens : List Token) → AreTokens tokens text → Reads text (outcome tokens)
reads_outcome text tokens lexed = reads_by text tokens (is_large tokens) refl lexed

-- the same of a call that may lack memory
pub reads_all : {E : Type 0} (text : List ℕ) (tokens : List Token) (result : Result (Result Expr ExprFault) E) → AreTokens tokens text →
    IfOk result (λ said. seen said ≡ outcome tokens) → IfOk result (λ said. Reads text (seen said))
reads_all text tokens (Ok said) lexed is = rw is (reads_outcome text tokens lexed)
reads_all text tokens (Err error) lexed is = tt
