-- What an earlier stretch of words tells of the words from a later place on.
use Rattle.std.proofs.Common.{◌≡◌, ℕ, zero, suc, ◌+◌, ◌<◌, ◌≤◌, Bool, true, false, List, [], ◌∷◌, length, get_or, refl, sym, ◌∙◌, subst}
use Rattle.std.proofs.Common.{arith, nat_eq}
use Rattle.std.proofs.Math.Bool.{and-false}
use Rattle.std.proofs.lemmas.Bool.{false≢true}
use Rattle.std.specs.Prelude.{not}
use Rattle.std.proofs.lemmas.List.{get_or_default}
use Rattle.std.specs.Cmp.Lexicographic.{pointwise, same_text, nat_list_eq_equiv}
use Rattle.wu_gcl.specs.Extents.{words_stand, is_token_at}
use Rattle.wu_solve.specs.Prefixes.{PrefixStands}

pub token_at : (tokens : List (List ℕ)) (term : List ℕ) (place : ℕ) → place < length tokens
    → is_token_at tokens term place ≡ pointwise nat_eq (get_or tokens place []) term
token_at [] term place within = absurd (omega arith)
token_at (token ∷ tokens) term zero within = refl
token_at (token ∷ tokens) term (suc place) within = token_at tokens term place (omega arith)

-- a word that is the same as another one stands there
pub same_word : (words : List (List ℕ)) (i j : ℕ) (x y : List ℕ) → i < length words → j < length words → x ≡ get_or words i x
    → y ≡ get_or words j y → false ≡ not (pointwise nat_eq x y) → is_token_at words (get_or words i []) j ≡ true
same_word words i j x y low high is_x is_y alike =
    let first : get_or words i [] ≡ x = get_or_default words i [] x low ∙ sym is_x in
    let second : get_or words j [] ≡ y = get_or_default words j [] y high ∙ sym is_y in
    token_at words (get_or words i []) j high ∙ rw (first, second) (nat_list_eq_equiv.symm y x ∙ kept (pointwise nat_eq x y) alike)
  where
    kept : (b : Bool) → false ≡ not b → b ≡ true
    kept true is = refl
    kept false is = absurd (false≢true is)

token_is : (tokens : List (List ℕ)) (term : List ℕ) (place : ℕ) → is_token_at tokens term place ≡ true → get_or tokens place [] ≡ term
token_is [] term place is = absurd (false≢true is)
token_is (token ∷ tokens) term zero is = same_text token term (sym is)
token_is (token ∷ tokens) term (suc place) is = token_is tokens term place is

-- the rest of a stretch begins with the words that the phrase repeats there
pub carried : (stands : List ℕ → ℕ → Bool) (words : List (List ℕ)) (start count shift overlap known place : ℕ)
    → PrefixStands stands words start count → PrefixStands (is_token_at words) words shift overlap →
    known ≤ overlap → shift + known ≤ count → place ≡ start + shift → PrefixStands stands words place known
carried stands words start count shift overlap known place front again few within is k less =
    let same : get_or words (shift + k) [] ≡ get_or words k [] = token_is words (get_or words k []) (shift + k) (again k (omega arith)) in
    let there : start + (shift + k) ≡ place + k = omega arith in
    subst (λ (word : List ℕ). stands word (place + k) ≡ true) same
    (subst (λ (p : ℕ). stands (get_or words (shift + k) []) p ≡ true) there (front (shift + k) (omega arith)))

-- all the words stand
pub all_stand : (stands : List ℕ → ℕ → Bool) (words : List (List ℕ)) (place : ℕ) → PrefixStands stands words place (length words)
    → words_stand stands words place ≡ true
all_stand stands [] place front = refl
all_stand stands (word ∷ words) place front =
    let here : stands word place ≡ true = subst (λ (p : ℕ). stands word p ≡ true) (omega arith) (front 0 (omega arith)) in
    let next : (k : ℕ) → place + suc k ≡ place + 1 + k = λ k. omega arith in
    rw here (all_stand stands words (place + 1)
    (λ k less. subst (λ (p : ℕ). stands (get_or words k []) p ≡ true) (next k) (front (suc k) (omega arith))))

-- one of the words doesn't
pub one_fails : (stands : List ℕ → ℕ → Bool) (words : List (List ℕ)) (place k : ℕ) → k < length words
    → stands (get_or words k []) (place + k) ≡ false → words_stand stands words place ≡ false
one_fails stands [] place k within fails = absurd (omega arith)
one_fails stands (word ∷ words) place zero within fails =
    let here : stands word place ≡ false = subst (λ (p : ℕ). stands word p ≡ false) (omega arith) fails in
    rw here refl
one_fails stands (word ∷ words) place (suc k) within fails =
    let next : place + suc k ≡ place + 1 + k = omega arith in
    let rest : words_stand stands words (place + 1)
    ≡ false = one_fails stands words (place + 1) k (omega arith) (subst (λ (p : ℕ). stands (get_or words k []) p ≡ false) next fails) in
    rw rest (and-false (stands word place))
