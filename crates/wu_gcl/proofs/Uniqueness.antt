-- A text is one list of tokens at most, and says one thing.
use Rattle.std.proofs.Common.{◌≡◌, ℕ, ◌+◌, ◌<◌, true, false, List, [], ◌∷◌, length, Option, Some, None, Ok, Err, refl, sym, ◌∙◌, ap, inl}
use Rattle.std.proofs.Common.{inr, arith, lt-ltb, length-append}
use Rattle.std.proofs.lemmas.Bool.Decides.{nat_tests}
use Rattle.wu_gcl.specs.declared.expressions.ExprFault.TheVariants.{NotAnExpression, TooLarge, NoWord, BadWindow}
use Rattle.wu_gcl.specs.Lexical.{Token, token_text, Stands, AreTokens, HasNoTokens}
use Rattle.wu_gcl.specs.Grammar.{Syntax, operator_count}
use Rattle.wu_gcl.specs.Reading.{Value, IsSmall, IsLarge, IsWritten, Says, Reads}
use Rattle.wu_gcl.specs.Scanning.{first_token}
use Rattle.wu_gcl.specs.Pending.{evaluated, is_large, found, outcome}
use Rattle.wu_gcl.proofs.FirstTokens.{stands_at_front}
use Rattle.wu_gcl.proofs.Texts.{all_blank, token_after_blanks, token_length}
use Rattle.wu_gcl.proofs.Completeness.{evaluated_in}
use Rattle.wu_gcl.proofs.Soundness.{Expresses, expressed}

-- where a token stands, not all is blank
not_blank : (token : Token) (rest token_on : List ℕ) → Stands token rest token_on → token_on ≡ [] → ⊥
not_blank token rest token_on stands none =
    let some : 0 < length (token_text token) = token_length token in
    let whole : length token_on ≡ length (token_text token) + length rest = ap length stands.spelled
    ∙ length-append (token_text token) rest in
    let zero : length token_on ≡ 0 = ap length none in
    omega arith

pub one_list : (first second : List Token) (text : List ℕ) → AreTokens first text → AreTokens second text → first ≡ second
one_list [] [] text a b = refl
one_list [] (token ∷ tokens) text a (blanks, token_on, rest, same, blank, stands, are) =
    absurd (not_blank token rest token_on stands
    (sym (token_after_blanks text blanks token_on rest token same blank stands) ∙ all_blank text a))
one_list (token ∷ tokens) [] text (blanks, token_on, rest, same, blank, stands, are) b =
    absurd (not_blank token rest token_on stands
    (sym (token_after_blanks text blanks token_on rest token same blank stands) ∙ all_blank text b))
one_list (token ∷ tokens) (other ∷ others) text (blanks, token_on, rest, same, blank, stands, are)
    (blanks', token_on', rest', same', blank', stands', are') =
    let here : token_on ≡ token_on' = sym (token_after_blanks text blanks token_on rest token same blank stands)
    ∙ token_after_blanks text blanks' token_on' rest' other same' blank' stands' in
    let fronts : ◌≡◌ {A = Option (Token × List ℕ)} (Some (token, rest)) (Some (other, rest')) =
    sym (stands_at_front token rest token_on stands) ∙ ap first_token here ∙ stands_at_front other rest' token_on' stands' in
    let pairs : ◌≡◌ {A = Token × List ℕ} (token, rest) (other, rest') = cc in
    let heads : token ≡ other = ap (λ (pair : Token × List ℕ). pair.0) pairs in
    let rests : rest ≡ rest' = ap (λ (pair : Token × List ℕ). pair.1) pairs in
    let tails : tokens ≡ others = one_list tokens others rest are (rw rests are') in
    cc

-- the tokens of a text, if it has any
abbrev pub IsLexed : List ℕ → Option (List Token) → Type 0
IsLexed text None = HasNoTokens text
IsLexed text (Some tokens) = AreTokens tokens text

one_lexing : (text : List ℕ) (first second : Option (List Token)) → IsLexed text first → IsLexed text second → first ≡ second
one_lexing text None None a b = refl
one_lexing text None (Some tokens) a b = absurd (a tokens b)
one_lexing text (Some tokens) None a b = absurd (b tokens a)
one_lexing text (Some tokens) (Some others) a b = ap (λ (list : List Token). Some list) (one_list tokens others text a b)

-- what a text says that has these tokens, or none
abbrev pub outcome_of : Option (List Token) → Value
outcome_of None = Err NotAnExpression
outcome_of (Some tokens) = outcome tokens

small_test : (tokens : List Token) → IsSmall tokens → is_large tokens ≡ false
small_test tokens small = grind (arith, nat_tests, small.operators, small.groups)

large_test : (tokens : List Token) → IsLarge tokens → is_large tokens ≡ true
large_test tokens (inl many) = rw (lt-ltb 63 (operator_count tokens) many) refl
large_test tokens (inr many) = grind (arith, nat_tests)

record Comes (text : List ℕ) (value : Value) : Type 0 where
  lexing : Option (List Token)
  lexed : IsLexed text lexing
  comes : value ≡ outcome_of lexing

said : (text : List ℕ) (value : Value) → Says text value → Comes text value
said text value says = record {
  lexing = Some says.tokens;
  lexed = says.lexed;
  comes = rw (small_test says.tokens says.small)
      (sym says.meant ∙ sym (ap found (ap evaluated says.written.spelled ∙ evaluated_in says.syntax says.written.grouped)));
}

unwritten : (tokens : List Token) (value : Option Value) → evaluated tokens ≡ value → ((syntax : Syntax) → IsWritten syntax tokens → ⊥)
    → found value ≡ Err NotAnExpression
unwritten tokens None is none = refl
unwritten tokens (Some value) is none =
    let expresses : Expresses tokens value = expressed tokens value is in
    absurd (none expresses.syntax (record { spelled = expresses.spelled; grouped = expresses.grouped }))

refused : (text : List ℕ) → Reads text (Err NotAnExpression) → Comes text (Err NotAnExpression)
refused text (inl none) = record { lexing = None; lexed = none; comes = refl }
refused text
    (inr (tokens, lexed, small, none)) = record {
      lexing = Some tokens;
      lexed = lexed;
      comes = rw (small_test tokens small)
          (sym (unwritten tokens (evaluated tokens) refl none));
    }

comes_from : (text : List ℕ) (value : Value) → Reads text value → Comes text value
comes_from text (Ok region) reads = said text (Ok region) reads
comes_from text (Err NotAnExpression) reads = refused text reads
comes_from text (Err TooLarge)
    (tokens, lexed, large) = record { lexing = Some tokens; lexed = lexed; comes = rw (large_test tokens large) refl }
comes_from text (Err NoWord) reads = said text (Err NoWord) reads
comes_from text (Err BadWindow) reads = said text (Err BadWindow) reads

-- a text says one thing
pub one_reading : (text : List ℕ) (first second : Value) → Reads text first → Reads text second → first ≡ second
one_reading text first second a b =
    let from : Comes text first = comes_from text first a in
    let into : Comes text second = comes_from text second b in
    from.comes ∙ ap outcome_of (one_lexing text from.lexing into.lexing from.lexed into.lexed) ∙ sym into.comes
