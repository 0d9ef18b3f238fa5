-- The syntax of what is printed: how many operators and parentheses it has, how it is grouped, and what it means.
use Rattle.std.proofs.Common.{◌≡◌, ℕ, ◌+◌, ◌-◌, ◌/◌, ◌%◌, ◌^◌, ◌<◌, ◌≤◌, Bool, true, false, cond, List, [], ◌∷◌, ◌++◌, length}
use Rattle.std.proofs.Common.{length-append, get_or, Option, Some, None, Ok, Err, refl, ◌∙◌, arith, eqb, zero, suc, le-leb}
use Rattle.std.specs.Prelude.{◌&&◌, nat_le}
use Rattle.std.specs.Char.{IsAsciiDigit, is_ascii_digit}
use Rattle.std.specs.List.{AllByRecursion, join_with_byte, list_all}
use Rattle.std.specs.Str.Parse.{digits_value}
use Rattle.std.proofs.Math.Dec.{eqb-suc-zero}
use Rattle.std.proofs.lemmas.Bool.{and_from}
use Rattle.wu_fields.specs.Numbers.{number_of, is_plain_numeral}
use Rattle.std.specs.Fmt.{decimal}
use Rattle.std.proofs.lemmas.Fmt.{decimal_by_steps, first_decimal, decimal_is_IsNumeral}
use Rattle.std.proofs.lemmas.Bool.Decides.{nat_tests}
use Rattle.wu_token.specs.Words.{words_of}
use Rattle.wu_token.specs.Tokens.{file_start, file_end, line_start, line_end}
use Rattle.wu_gcl.specs.declared.expressions.Tag.{Tag}
use Rattle.wu_gcl.specs.declared.expressions.Tag.TheVariants.{FileStart, FileEnd, LineStart, LineEnd}
use Rattle.wu_gcl.specs.declared.expressions.Op.{Op}
use Rattle.wu_gcl.specs.declared.expressions.TheConstants.{WINDOW_MAX}
use Rattle.wu_gcl.specs.declared.expressions.ExprFault.TheVariants.{BadWindow}
use Rattle.wu_gcl.specs.Lexical.{Atom, Quoted, Bracketed, FileWord, LineWord, Token, Operand, Operator, Open, Close}
use Rattle.wu_gcl.specs.Grammar.{Syntax, Single, Group, Join, tokens_in, precedence, binding_strength, IsGrouped, operator_count}
use Rattle.wu_gcl.specs.Grammar.{open_count}
use Rattle.wu_gcl.specs.Regions.{Region, Phrase, Mark, WholeFile, WholeLine, Window, Both}
use Rattle.wu_gcl.specs.Reading.{Value, tag_text, tag_at, quoted_value, phrase_of, window_with, window_of, value_of, join, meaning}
use Rattle.wu_gcl.proofs.Soundness.{precedence_below}
use Rattle.wu_gcl.proofs.WordLaws.{words_of-join, no_tag_in}
use Rattle.wu_gcl.proofs.ReadableRegions.{IsReadable}

-- ---- the syntax of what is printed
abbrev pub grouped : Region → Syntax → Syntax
grouped (Phrase words) syntax = syntax
grouped (Mark tag) syntax = syntax
grouped WholeFile syntax = syntax
grouped WholeLine syntax = syntax
grouped (Window n) syntax = syntax
grouped (Both op left right) syntax = Group syntax

abbrev pub syntax_of : Region → Syntax
syntax_of (Phrase words) = Single (Quoted (join_with_byte 32 words))
syntax_of (Mark tag) = Single (Quoted (tag_text tag))
syntax_of WholeFile = Single FileWord
syntax_of WholeLine = Single LineWord
syntax_of (Window n) = Single (Bracketed (decimal n))
syntax_of (Both op left right) = Join op (grouped left (syntax_of left)) (grouped right (syntax_of right))

-- ---- operators are counted
abbrev pub both_count : Region → ℕ
both_count (Phrase words) = 0
both_count (Mark tag) = 0
both_count WholeFile = 0
both_count WholeLine = 0
both_count (Window n) = 0
both_count (Both op left right) = 1 + both_count left + both_count right

operator_count-append : (a b : List Token) → operator_count (a ++ b) ≡ operator_count a + operator_count b
operator_count-append [] b = omega arith
operator_count-append (Operand atom ∷ a) b = operator_count-append a b
operator_count-append (Operator op ∷ a) b = omega (arith, operator_count-append a b)
operator_count-append (Open ∷ a) b = operator_count-append a b
operator_count-append (Close ∷ a) b = operator_count-append a b

open_count-append : (a b : List Token) → open_count (a ++ b) ≡ open_count a + open_count b
open_count-append [] b = omega arith
open_count-append (Operand atom ∷ a) b = open_count-append a b
open_count-append (Operator op ∷ a) b = open_count-append a b
open_count-append (Open ∷ a) b = omega (arith, open_count-append a b)
open_count-append (Close ∷ a) b = open_count-append a b

-- a value's operators are those of the tokens that say it
abbrev pub IsCounted : ℕ → Value → Type 0
IsCounted n (Ok region) = both_count region ≡ n
IsCounted n (Err fault) = Unit {0}

join_counted : (op : Op) (left right : Value) (m n : ℕ) → IsCounted m left → IsCounted n right
    → IsCounted (m + (1 + n)) (join op left right)
join_counted op (Ok left) (Ok right) m n l r = omega arith
join_counted op (Ok left) (Err fault) m n l r = tt
join_counted op (Err fault) (Ok right) m n l r = tt
join_counted op (Err fault) (Err other) m n l r = tt

phrase_counted : (words : List (List ℕ)) → IsCounted 0 (phrase_of words)
phrase_counted [] = tt
phrase_counted (word ∷ words) = refl

quoted_counted : (tag : Option Tag) (bytes : List ℕ) → IsCounted 0 (quoted_value tag bytes)
quoted_counted (Some tag) bytes = refl
quoted_counted None bytes = phrase_counted (words_of bytes)

window_counted_by : (test : Bool) (n : ℕ) → IsCounted 0 (cond test (Err BadWindow) (Ok (Window n)))
window_counted_by true n = tt
window_counted_by false n = refl

window_counted : (number : Option ℕ) → IsCounted 0 (window_with number)
window_counted None = tt
window_counted (Some n) = window_counted_by (eqb n 0) n

value_counted : (atom : Atom) → IsCounted 0 (value_of atom)
value_counted (Quoted bytes) = quoted_counted (tag_at bytes) bytes
value_counted (Bracketed digits) = window_counted (number_of digits WINDOW_MAX)
value_counted FileWord = refl
value_counted LineWord = refl

pub meaning_counted : (syntax : Syntax) → IsCounted (operator_count (tokens_in syntax)) (meaning syntax)
meaning_counted (Single atom) = value_counted atom
meaning_counted (Group inner) =
    let same : operator_count (tokens_in inner ++ Close ∷ [])
    ≡ operator_count (tokens_in inner) = operator_count-append (tokens_in inner) (Close ∷ []) ∙ omega arith in
    rw same (meaning_counted inner)
meaning_counted (Join op left right) =
    rw operator_count-append
    (join_counted op (meaning left) (meaning right) (operator_count (tokens_in left)) (operator_count (tokens_in right))
    (meaning_counted left) (meaning_counted right))

-- how many operators and parentheses the printed text has
pub record IsCountedSyntax (operators opens : ℕ) (syntax : Syntax) : Type 0 where
  pub operators_are : operator_count (tokens_in syntax) ≡ operators
  pub opens_are : open_count (tokens_in syntax) ≤ opens

grouped_counts : (region : Region) (syntax : Syntax) → IsCountedSyntax (both_count region) (both_count region - 1) syntax
    → IsCountedSyntax (both_count region) (both_count region) (grouped region syntax)
grouped_counts (Phrase words) syntax is = record { operators_are = is.operators_are; opens_are = omega (arith, is.opens_are) }
grouped_counts (Mark tag) syntax is = record { operators_are = is.operators_are; opens_are = omega (arith, is.opens_are) }
grouped_counts WholeFile syntax is = record { operators_are = is.operators_are; opens_are = omega (arith, is.opens_are) }
grouped_counts WholeLine syntax is = record { operators_are = is.operators_are; opens_are = omega (arith, is.opens_are) }
grouped_counts (Window n) syntax is = record { operators_are = is.operators_are; opens_are = omega (arith, is.opens_are) }
grouped_counts (Both op left right) syntax is = record {
  operators_are = omega (arith, operator_count-append (tokens_in syntax) (Close ∷ []), is.operators_are);
  opens_are = omega (arith, open_count-append (tokens_in syntax) (Close ∷ []), is.opens_are);
}

pub syntax_counts : (region : Region) → IsCountedSyntax (both_count region) (both_count region - 1) (syntax_of region)
syntax_counts (Phrase words) = record { operators_are = refl; opens_are = omega arith }
syntax_counts (Mark tag) = record { operators_are = refl; opens_are = omega arith }
syntax_counts WholeFile = record { operators_are = refl; opens_are = omega arith }
syntax_counts WholeLine = record { operators_are = refl; opens_are = omega arith }
syntax_counts (Window n) = record { operators_are = refl; opens_are = omega arith }
syntax_counts (Both op left right) =
    let first : IsCountedSyntax (both_count left) (both_count left) (grouped left (syntax_of left)) = grouped_counts left (syntax_of left)
    (syntax_counts left) in
    let second : IsCountedSyntax (both_count right) (both_count right) (grouped right (syntax_of right)) = grouped_counts right
    (syntax_of right) (syntax_counts right) in
    record {
      operators_are = omega (
        arith,
        operator_count-append (tokens_in (grouped left (syntax_of left)))
            (Operator op ∷ tokens_in (grouped right (syntax_of right))),
        first.operators_are,
        second.operators_are,
      );
      opens_are = omega (
        arith,
        open_count-append (tokens_in (grouped left (syntax_of left)))
            (Operator op ∷ tokens_in (grouped right (syntax_of right))),
        first.opens_are,
        second.opens_are,
      );
    }

-- ---- parentheses stand round each operand that has an operator
grouped_tight : (region : Region) → binding_strength (grouped region (syntax_of region)) ≡ 4
grouped_tight (Phrase words) = refl
grouped_tight (Mark tag) = refl
grouped_tight WholeFile = refl
grouped_tight WholeLine = refl
grouped_tight (Window n) = refl
grouped_tight (Both op left right) = refl

grouped_is : (region : Region) (syntax : Syntax) → IsGrouped syntax → IsGrouped (grouped region syntax)
grouped_is (Phrase words) syntax is = is
grouped_is (Mark tag) syntax is = is
grouped_is WholeFile syntax is = is
grouped_is WholeLine syntax is = is
grouped_is (Window n) syntax is = is
grouped_is (Both op left right) syntax is = is

pub syntax_grouped : (region : Region) → IsGrouped (syntax_of region)
syntax_grouped (Phrase words) = tt
syntax_grouped (Mark tag) = tt
syntax_grouped WholeFile = tt
syntax_grouped WholeLine = tt
syntax_grouped (Window n) = tt
syntax_grouped (Both op left right) =
    let low : precedence op < 4 = precedence_below op in (
      rw (grouped_tight left) (omega arith),
      rw (grouped_tight right) low,
      grouped_is left (syntax_of left)
          (syntax_grouped left),
      grouped_is right (syntax_of right) (syntax_grouped right),
    )

-- ---- it means the same
pub record IsDecimal (n : ℕ) (digits : List ℕ) : Type 0 where
  pub some : 0 < length digits
  pub all : AllByRecursion IsAsciiDigit digits

digit_push : (digits : List ℕ) (digit : ℕ) → AllByRecursion IsAsciiDigit digits → IsAsciiDigit digit
    → AllByRecursion IsAsciiDigit (digits ++ digit ∷ [])
digit_push [] digit all is = (is, tt)
digit_push (first ∷ digits) digit all is = (all.0, digit_push digits digit all.1 is)

decimal_one : (n : ℕ) → n < 10 → IsDecimal n ((48 + n) ∷ [])
decimal_one n less = record { some = omega arith; all = ((omega arith, omega arith), tt) }

decimal_more : (n : ℕ) (digits : List ℕ) → 10 ≤ n → IsDecimal (n / 10) digits → IsDecimal n (digits ++ ((48 + n % 10) ∷ []))
decimal_more n digits more is = record {
  some = rw length-append (omega arith);
  all = digit_push digits (48 + n % 10) is.all (omega arith, omega arith);
}

pub decimal_is : (n : ℕ) → n < 2 ^ 64 → IsDecimal n (decimal n)
decimal_is = decimal_by_steps IsDecimal decimal_one decimal_more

digit_true : (digit : ℕ) → IsAsciiDigit digit → is_ascii_digit digit ≡ true
digit_true digit is = and_from _ _ (le-leb 48 digit is.0) (le-leb digit 57 is.1)

digits_true : (digits : List ℕ) → AllByRecursion IsAsciiDigit digits → list_all is_ascii_digit digits ≡ true
digits_true [] all = refl
digits_true (digit ∷ digits) all = and_from _ _ (digit_true digit all.0) (digits_true digits all.1)

plain : (digits : List ℕ) → AllByRecursion IsAsciiDigit digits → 48 < get_or digits 0 0 → is_plain_numeral digits ≡ true
plain [] all first = absurd (omega arith)
plain (digit ∷ digits) all first =
    let other : (eqb digit 48) ≡ false = grind (arith, nat_tests) in
    and_from _ _ (digits_true (digit ∷ digits) all) (rw other refl)

window_read : (test : Bool) (n m : ℕ) → test ≡ true → n ≡ m → 1 ≤ m → window_with (cond test (Some n) None) ≡ Ok (Window m)
window_read test n zero is same some = absurd (omega arith)
window_read test n (suc m) is same some = rw (is, same, eqb-suc-zero m) refl

window_again : (n : ℕ) (digits : List ℕ) → digits_value 10 digits ≡ n → AllByRecursion IsAsciiDigit digits → 48 < get_or digits 0 0
    → 1 ≤ n → n ≤ WINDOW_MAX → window_of digits ≡ Ok (Window n)
unfolding number_of
window_again n digits value all first some most =
    window_read (is_plain_numeral digits && nat_le (digits_value 10 digits) WINDOW_MAX) (digits_value 10 digits) n
    (and_from _ _ (plain digits all first) (le-leb _ _ (omega (arith, value, most)))) value some

grouped_means : (region : Region) (syntax : Syntax) → meaning (grouped region syntax) ≡ meaning syntax
grouped_means (Phrase words) syntax = refl
grouped_means (Mark tag) syntax = refl
grouped_means WholeFile syntax = refl
grouped_means WholeLine syntax = refl
grouped_means (Window n) syntax = refl
grouped_means (Both op left right) syntax = refl

tag_means : (tag : Tag) → value_of (Quoted (tag_text tag)) ≡ Ok (Mark tag)
unfolding file_start file_end line_start line_end
tag_means FileStart = refl
tag_means FileEnd = refl
tag_means LineStart = refl
tag_means LineEnd = refl

pub syntax_means : (region : Region) → IsReadable region → meaning (syntax_of region) ≡ Ok region
syntax_means (Phrase []) is = absurd (omega (arith, is.0))
syntax_means (Phrase (word ∷ words)) is = rw (no_tag_in word words is.1, words_of-join word words is.1) refl
syntax_means (Mark tag) is = tag_means tag
syntax_means WholeFile is = refl
syntax_means WholeLine is = refl
syntax_means (Window n) is =
    let fits : n < 2 ^ 64 = omega (arith, is.1) in
    let decimal_n : IsDecimal n (decimal n) = decimal_is n fits in
    window_again n (decimal n) (decimal_is_IsNumeral n fits).1 decimal_n.all (first_decimal n is.0 fits) is.0 is.1
syntax_means (Both op left right) is =
    let first : meaning (grouped left (syntax_of left)) ≡ Ok left = grouped_means left (syntax_of left) ∙ syntax_means left is.0 in
    let second : meaning (grouped right (syntax_of right)) ≡ Ok right = grouped_means right (syntax_of right) ∙ syntax_means right is.1 in
    rw (first, second) refl
