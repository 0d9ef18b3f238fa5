-- Each phrase that a text spells has a word, and each window a length within its bounds.
use Rattle.std.proofs.Common.{◌≡◌, ℕ, ◌<◌, ◌≤◌, Bool, true, false, cond, List, [], ◌∷◌, ◌++◌, length, Option, Some, None, Ok, Err, refl}
use Rattle.std.proofs.Common.{arith, zero, suc}
use Rattle.std.specs.Prelude.{◌&&◌, nat_le, Result, IfOk}
use Rattle.std.specs.List.{AllByRecursion}
use Rattle.std.specs.Str.Parse.{digits_value}
use Rattle.std.proofs.Math.Dec.{eqb-suc-zero}
use Rattle.std.proofs.lemmas.Bool.{leb-true, and_parts}
use Rattle.wu_fields.specs.Numbers.{number_of, is_plain_numeral}
use Rattle.wu_token.specs.Words.{words_of}
use Rattle.wu_gcl.specs.declared.expressions.Tag.{Tag}
use Rattle.wu_gcl.specs.declared.expressions.Op.{Op}
use Rattle.wu_gcl.specs.declared.expressions.TheConstants.{WINDOW_MAX}
use Rattle.wu_gcl.specs.declared.expressions.Expr.{Expr}
use Rattle.wu_gcl.specs.declared.expressions.ExprFault.{ExprFault}
use Rattle.wu_gcl.specs.Lexical.{Atom, Quoted, Bracketed, FileWord, LineWord, Token, Operand, Operator, Close, IsToken, AreTokens}
use Rattle.wu_gcl.specs.Grammar.{Syntax, Single, Group, Join, tokens_in}
use Rattle.wu_gcl.specs.Regions.{Region, Phrase, Mark, WholeFile, WholeLine, Window, Both, region_of, IsProper}
use Rattle.wu_gcl.specs.Reading.{Value, tag_at, quoted_value, phrase_of, window_with, window_of, value_of, join, meaning, Spells, Reads}
use Rattle.wu_gcl.specs.Reading.{seen}
use Rattle.wu_token.proofs.OwnWords.{IsWord, words_of_are}

abbrev pub IsReadable : Region → Type 0
IsReadable (Phrase words) = (0 < length words) × AllByRecursion IsWord words
IsReadable (Mark tag) = Unit {0}
IsReadable WholeFile = Unit {0}
IsReadable WholeLine = Unit {0}
IsReadable (Window n) = (1 ≤ n) × (n ≤ WINDOW_MAX)
IsReadable (Both op left right) = IsReadable left × IsReadable right

abbrev pub IsReadableValue : Value → Type 0
IsReadableValue (Ok region) = IsReadable region
IsReadableValue (Err fault) = Unit {0}

phrase_readable : (words : List (List ℕ)) → AllByRecursion IsWord words → IsReadableValue (phrase_of words)
phrase_readable [] are = tt
phrase_readable (word ∷ words) are = (omega arith, are)

quoted_readable : (tag : Option Tag) (bytes : List ℕ) → IsReadableValue (quoted_value tag bytes)
quoted_readable (Some tag) bytes = tt
quoted_readable None bytes = phrase_readable (words_of bytes) (words_of_are bytes)

some_readable : (n : ℕ) → n ≤ WINDOW_MAX → IsReadableValue (window_with (Some n))
some_readable zero most = tt
some_readable (suc n) most = rw (eqb-suc-zero n) (omega arith, most)

-- a number that is read is at most the greatest
window_by : (test : Bool) (n : ℕ) → (test ≡ true → n ≤ WINDOW_MAX) → IsReadableValue (window_with (cond test (Some n) None))
window_by true n most = some_readable n (most refl)
window_by false n most = tt

window_readable : (digits : List ℕ) → IsReadableValue (window_of digits)
unfolding number_of
window_readable digits =
    window_by (is_plain_numeral digits && nat_le (digits_value 10 digits) WINDOW_MAX) (digits_value 10 digits)
    (λ read. leb-true _ _ (and_parts (is_plain_numeral digits) _ read).1)

value_readable : (atom : Atom) → IsToken (Operand atom) → IsReadableValue (value_of atom)
value_readable (Quoted bytes) is = quoted_readable (tag_at bytes) bytes
value_readable (Bracketed digits) is = window_readable digits
value_readable FileWord is = tt
value_readable LineWord is = tt

join_readable : (op : Op) (left right : Value) → IsReadableValue left → IsReadableValue right → IsReadableValue (join op left right)
join_readable op (Ok left) (Ok right) l r = (l, r)
join_readable op (Ok left) (Err fault) l r = tt
join_readable op (Err fault) (Ok right) l r = tt
join_readable op (Err fault) (Err other) l r = tt

All-front : (P : Token → Type 0) (a b : List Token) → AllByRecursion P (a ++ b) → AllByRecursion P a
All-front P [] b all = tt
All-front P (x ∷ a) b all = (all.0, All-front P a b all.1)

All-after : (P : Token → Type 0) (a b : List Token) → AllByRecursion P (a ++ b) → AllByRecursion P b
All-after P [] b all = all
All-after P (x ∷ a) b all = All-after P a b all.1

pub meaning_readable : (syntax : Syntax) → AllByRecursion IsToken (tokens_in syntax) → IsReadableValue (meaning syntax)
meaning_readable (Single atom) all = value_readable atom all.0
meaning_readable (Group inner) all = meaning_readable inner (All-front IsToken (tokens_in inner) (Close ∷ []) all.1)
meaning_readable (Join op left right) all =
    join_readable op (meaning left) (meaning right)
    (meaning_readable left (All-front IsToken (tokens_in left) (Operator op ∷ tokens_in right) all))
    (meaning_readable right (All-after IsToken (tokens_in left) (Operator op ∷ tokens_in right) all).1)

pub tokens_are : (tokens : List Token) (text : List ℕ) → AreTokens tokens text → AllByRecursion IsToken tokens
tokens_are [] text are = tt
tokens_are (token ∷ tokens) text (blanks, token_on, rest, same, blank, stands, are) = (stands.proper, tokens_are tokens rest are)

readable_proper : (region : Region) → IsReadable region → IsProper region
readable_proper (Phrase words) is = is.0
readable_proper (Mark tag) is = tt
readable_proper WholeFile is = tt
readable_proper WholeLine is = tt
readable_proper (Window n) is = is.0
readable_proper (Both op left right) is = (readable_proper left is.0, readable_proper right is.1)

-- each phrase that a text spells has a word, and each window an address
pub spelled_proper : (region : Region) (text : List ℕ) → Spells text region → IsProper region
spelled_proper region text says =
    let tokens : AllByRecursion IsToken (tokens_in says.syntax) = rw says.written.spelled at (tokens_are says.tokens text says.lexed) in
    readable_proper region (rw says.meant at (meaning_readable says.syntax tokens))

-- the same of what parse gave
pub read_proper : (text : List ℕ) (result : Result Expr ExprFault) → Reads text (seen result)
    → IfOk result (λ expr. IsProper (region_of expr))
read_proper text (Ok expr) reads = spelled_proper (region_of expr) text reads
read_proper text (Err fault) reads = tt

pub all_proper : {E : Type 0} (text : List ℕ) (result : Result (Result Expr ExprFault) E) → IfOk result (λ said. Reads text (seen said)) →
    IfOk result (λ said. IfOk said (λ expr. IsProper (region_of expr)))
all_proper text (Ok said) reads = read_proper text said reads
all_proper text (Err error) reads = tt
