-- Texts and their tokens, one token after another.
use Rattle.std.proofs.Common.{◌≡◌, ℕ, suc, ◌+◌, ◌<◌, ◌≤◌, Bool, true, false, cond, List, [], ◌∷◌, ◌++◌, length, take, drop, append_assoc}
use Rattle.std.proofs.Common.{append-nil, length-append, Option, Some, None, refl, sym, ◌∙◌, ap, arith}
use Rattle.std.specs.List.{prefix_len, AllByRecursion}
use Rattle.std.proofs.lemmas.Bool.Decides.{nat_tests}
use Rattle.std.proofs.lemmas.List.{drop_at, take-append-drop, length-drop}
use Rattle.wu_gcl.specs.declared.expressions.Op.TheVariants.{Containing, ContainedIn, NotContaining, NotContainedIn, OneOf, BothOf}
use Rattle.wu_gcl.specs.declared.expressions.Op.TheVariants.{FollowedBy}
use Rattle.wu_gcl.specs.Lexical.{Quoted, Bracketed, FileWord, LineWord, Token, Operand, Operator, Open, Close, token_text, IsBlank, Stands}
use Rattle.wu_gcl.specs.Lexical.{AreTokens, HasNoTokens}
use Rattle.wu_gcl.specs.Scanning.{is_blank, after_blanks, first_token}
use Rattle.wu_gcl.proofs.FirstTokens.{prefix_len-run, run_passes, stands_at_front, front_stands}

blank_passes : (b : ℕ) → IsBlank b → is_blank b ≡ true
blank_passes b blank = grind (arith, nat_tests)

passes_blank : (b : ℕ) → is_blank b ≡ true → IsBlank b
passes_blank b passes = grind (arith, nat_tests)

-- a token doesn't begin with a blank
clear_at : (token : Token) (rest : List ℕ) → prefix_len is_blank (token_text token ++ rest) ≡ 0
clear_at (Operand (Quoted bytes)) rest = refl
clear_at (Operand (Bracketed digits)) rest = refl
clear_at (Operand FileWord) rest = refl
clear_at (Operand LineWord) rest = refl
clear_at (Operator Containing) rest = refl
clear_at (Operator ContainedIn) rest = refl
clear_at (Operator NotContaining) rest = refl
clear_at (Operator NotContainedIn) rest = refl
clear_at (Operator OneOf) rest = refl
clear_at (Operator BothOf) rest = refl
clear_at (Operator FollowedBy) rest = refl
clear_at Open rest = refl
clear_at Close rest = refl

-- a token has bytes
pub token_length : (token : Token) → 0 < length (token_text token)
token_length (Operand (Quoted bytes)) = omega arith
token_length (Operand (Bracketed digits)) = omega arith
token_length (Operand FileWord) = omega arith
token_length (Operand LineWord) = omega arith
token_length (Operator Containing) = omega arith
token_length (Operator ContainedIn) = omega arith
token_length (Operator NotContaining) = omega arith
token_length (Operator NotContainedIn) = omega arith
token_length (Operator OneOf) = omega arith
token_length (Operator BothOf) = omega arith
token_length (Operator FollowedBy) = omega arith
token_length Open = omega arith
token_length Close = omega arith

cleared : (b : ℕ) (text : List ℕ) (test : Bool) → is_blank b ≡ test → prefix_len is_blank (after_blanks text) ≡ 0 →
    prefix_len is_blank (drop (cond test (1 + prefix_len is_blank text) 0) (b ∷ text)) ≡ 0
cleared b text true is clear =
    let one : 1 + prefix_len is_blank text ≡ suc (prefix_len is_blank text) = omega arith in
    rw one clear
cleared b text false is clear = rw is refl

-- after all the blanks no blank stands
pub clear : (text : List ℕ) → prefix_len is_blank (after_blanks text) ≡ 0
clear [] = refl
clear (b ∷ text) = cleared b text (is_blank b) refl (clear text)

pub all_blank : (text : List ℕ) → AllByRecursion IsBlank text → after_blanks text ≡ []
all_blank text blank =
    let n : prefix_len is_blank (text ++ []) ≡ length text = prefix_len-run is_blank IsBlank blank_passes text [] blank refl in
    rw (← append-nil text, n) (drop_at text [] (length text) refl)

pub All-append : (P : ℕ → Type 0) (a b : List ℕ) → AllByRecursion P a → AllByRecursion P b → AllByRecursion P (a ++ b)
All-append P [] b first second = second
All-append P (x ∷ a) b first second = (first.0, All-append P a b first.1 second)

-- the blanks at the front of a text are no part of its tokens
pub blanks_on : (tokens : List Token) (text : List ℕ) → AreTokens tokens (after_blanks text) → AreTokens tokens text
blanks_on [] text are = rw (← take-append-drop (prefix_len is_blank text) text)
    (All-append IsBlank _ _ (run_passes is_blank IsBlank passes_blank text) are)
blanks_on (token ∷ tokens) text (blanks, token_on, rest, same, blank, stands, are) = (
  take (prefix_len is_blank text) text ++ blanks,
  token_on,
  rest,
  sym (take-append-drop (prefix_len is_blank text) text) ∙ ap (λ (after : List ℕ). take (prefix_len is_blank text) text ++ after) same
      ∙ sym (append_assoc _ blanks token_on),
  All-append IsBlank _ blanks (run_passes is_blank IsBlank passes_blank text) blank,
  stands,
  are,
)

-- where a token stands after blanks, it is what stands after all blanks
pub token_after_blanks : (text blanks token_on rest : List ℕ) (token : Token) → text ≡ blanks ++ token_on → AllByRecursion IsBlank blanks
    → Stands token rest token_on → after_blanks text ≡ token_on
token_after_blanks text blanks token_on rest token same blank stands =
    let start : prefix_len is_blank token_on ≡ 0 = rw stands.spelled (clear_at token rest) in
    let n : prefix_len is_blank (blanks ++ token_on)
    ≡ length blanks = prefix_len-run is_blank IsBlank blank_passes blanks token_on blank start in
    rw (same, n) (drop_at blanks token_on (length blanks) refl)

pub blanks_off : (tokens : List Token) (text : List ℕ) → AreTokens tokens text → AreTokens tokens (after_blanks text)
blanks_off [] text are = rw (all_blank text are) tt
blanks_off (token ∷ tokens) text (blanks, token_on, rest, same, blank, stands, are) =
    ([], token_on, rest, token_after_blanks text blanks token_on rest token same blank stands, tt, stands, are)

-- what stands at the front, and the tokens after it
pub record Starts (tokens : List Token) (text : List ℕ) : Type 0 where
  pub token : Token
  pub rest : List ℕ
  pub more : List Token
  pub split : tokens ≡ token ∷ more
  pub found : first_token text ≡ Some (token, rest)
  pub are : AreTokens more rest

starts_blank : (text : List ℕ) → prefix_len is_blank text ≡ 0 → 0 < length text → AllByRecursion IsBlank text → ⊥
starts_blank [] clear some are = omega arith
starts_blank (b ∷ text) clear some are =
    let passes : is_blank b ≡ true = blank_passes b are.0 in
    let more : 1 + prefix_len is_blank text ≡ 0 = rw passes at clear in
    omega arith

pub starts : (tokens : List Token) (text : List ℕ) → prefix_len is_blank text ≡ 0 → 0 < length text → AreTokens tokens text
    → Starts tokens text
starts [] text clear some are = absurd (starts_blank text clear some are)
starts (token ∷ tokens) text clear some (blanks, token_on, rest, same, blank, stands, are) =
    let all : after_blanks text ≡ token_on = token_after_blanks text blanks token_on rest token same blank stands in
    record {
      token = token;
      rest = rest;
      more = tokens;
      split = refl;
      found = rw (sym (ap (λ (n : ℕ). drop n text) clear) ∙ all)
          (stands_at_front token rest token_on stands);
      are = are;
    }

-- The tokens of the text are those that are done, and those of the rest.
pub record Lexed (text : List ℕ) (done : List Token) (rest : List ℕ) : Type 0 where
  pub on : (more : List Token) → AreTokens more rest → AreTokens (done ++ more) text
  pub only : (tokens : List Token) → AreTokens tokens text → (more : List Token) × (tokens ≡ done ++ more) × AreTokens more rest

pub lexed_start : (text : List ℕ) → Lexed text [] (after_blanks text)
lexed_start text = record { on = λ more are. blanks_on more text are; only = λ tokens are. (tokens, refl, blanks_off tokens text are) }

same_front : (text : List ℕ) (token : Token) (after : List ℕ) (done tokens left : List Token) (first : Token) (rest : List ℕ)
    (more : List Token) →
    first_token text ≡ Some (token, after) → first_token text ≡ Some (first, rest) → tokens ≡ done ++ left → left ≡ first ∷ more
    → AreTokens more rest →
    (others : List Token) × (tokens ≡ (done ++ token ∷ []) ++ others) × AreTokens others (after_blanks after)
same_front text token after done tokens left first rest more found again same split are =
    let options : ◌≡◌ {A = Option (Token × List ℕ)} (Some (first, rest)) (Some (token, after)) = sym again ∙ found in
    let pairs : ◌≡◌ {A = Token × List ℕ} (first, rest) (token, after) = cc in
    let firsts : first ≡ token = ap (λ (pair : Token × List ℕ). pair.0) pairs in
    let rests : rest ≡ after = ap (λ (pair : Token × List ℕ). pair.1) pairs in (
      more,
      same ∙ ap (λ (after : List Token). done ++ after) (split ∙ ap (λ (t : Token). t ∷ more) firsts)
          ∙ sym (append_assoc done (token ∷ []) more),
      blanks_off more after (rw rests at are),
    )

pub lexed_more : (text : List ℕ) (done : List Token) (rest : List ℕ) (token : Token) (after : List ℕ) → Lexed text done rest
    → prefix_len is_blank rest ≡ 0 → 0 < length rest →
    first_token rest ≡ Some (token, after) → Lexed text (done ++ token ∷ []) (after_blanks after)
lexed_more text done rest token after lexed clear some found = record {
  on = λ more are. rw append_assoc
      (lexed.on (token ∷ more) ([], rest, after, refl, tt, front_stands rest token after found, blanks_on more after are));
  only = λ tokens are.
      let left : (more : List Token) × (tokens ≡ done ++ more) × AreTokens more rest = lexed.only tokens are in
      let first : Starts left.0 rest = starts left.0 rest clear some left.2 in
      same_front rest token after done tokens left.0 first.token first.rest first.more found first.found left.1 first.split first.are;
}

pub lexed_end : (text : List ℕ) (done : List Token) → Lexed text done [] → AreTokens done text
lexed_end text done lexed = rw append-nil at (lexed.on [] tt)

pub lexed_none : (text : List ℕ) (done : List Token) (rest : List ℕ) → Lexed text done rest → prefix_len is_blank rest ≡ 0 → 0 < length rest
    → first_token rest ≡ None → HasNoTokens text
lexed_none text done rest lexed clear some none tokens are =
    let left : (more : List Token) × (tokens ≡ done ++ more) × AreTokens more rest = lexed.only tokens are in
    let first : Starts left.0 rest = starts left.0 rest clear some left.2 in
    let found : first_token rest ≡ Some (first.token, first.rest) = first.found in
    cc

pub front_shorter : (text : List ℕ) (token : Token) (rest : List ℕ) → first_token text ≡ Some (token, rest) → length rest < length text
front_shorter text token rest found =
    let stands : Stands token rest text = front_stands text token rest found in
    let some : 0 < length (token_text token) = token_length token in
    rw (stands.spelled, length-append) (omega arith)

pub after_blanks-shorter : (text : List ℕ) → length (after_blanks text) ≤ length text
after_blanks-shorter text = rw length-drop (omega arith)

-- the tokens of the text are those that are done, and those of the rest, at whose front no blank stands
pub record Progress (text : List ℕ) (done : List Token) (rest : List ℕ) : Type 0 where
  pub lexed : Lexed text done rest
  pub clear : prefix_len is_blank rest ≡ 0

pub progress_start : (text : List ℕ) → Progress text [] (after_blanks text)
progress_start text = record { lexed = lexed_start text; clear = clear text }

pub progress_more : (text : List ℕ) (done : List Token) (rest : List ℕ) (token : Token) (after : List ℕ) → Progress text done rest
    → 0 < length rest →
    first_token rest ≡ Some (token, after) → Progress text (done ++ token ∷ []) (after_blanks after)
progress_more text done rest token after progress some found =
    record { lexed = lexed_more text done rest token after progress.lexed progress.clear some found; clear = clear after }
