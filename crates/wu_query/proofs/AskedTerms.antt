-- The terms that a question asks for, and the lists of them.
use Rattle.std.proofs.Common.{◌≡◌, ℕ, ◌≤◌, Bool, true, false, cond, ◌||◌, List, [], ◌∷◌, ◌++◌, length, take, map, refl, ap, ap₂, sym, ◌∙◌}
use Rattle.std.proofs.Common.{subst, arith, rules, append_assoc, append-nil, length-append}
use Rattle.std.specs.Prelude.{All, Option, Some, find, nat_eq, option_map, unwrap_or}
use Rattle.std.specs.List.{AllByRecursion, list_any}
use Rattle.std.specs.List.Sorted.{IsStrictlyIncreasing}
use Rattle.std.specs.Cmp.Lexicographic.{pointwise, same_text, nat_list_eq_equiv}
use Rattle.std.proofs.Math.Bool.{or-true}
use Rattle.std.proofs.lemmas.Cmp.{nat_list_cmp_total}
use Rattle.std.proofs.lemmas.Map.Lookups.{exact_bytes}
use Rattle.std.proofs.lemmas.List.{take-map}
use Rattle.std.proofs.lemmas.List.Elements.{recursion_from_All}
use Rattle.std.proofs.Math.Seq.{take-append_seam}
use Rattle.wu_base.proofs.Members.{Has-from_Contains, Contains-from_Has}
use Rattle.wu_base.proofs.SortedLists.{sorted_once_is}
use Rattle.wu_base.specs.declared.addresses.TermList.{TermList}
use Rattle.wu_gcl.specs.Regions.{Region}
use Rattle.wu_gcl.specs.Terms.{AreTerms, terms_in}
use Rattle.wu_query.specs.Asked.{terms_of, with_word, with_words}
use Rattle.wu_query.specs.Units.{IsAmong, list_at, list_in, terms_among}

-- the terms of an expression are the sorted ones
pub terms_named : (region : Region) (terms : List (List ℕ)) → AreTerms region terms → terms ≡ terms_of region
terms_named region terms are =
    sorted_once_is nat_list_cmp_total exact_bytes terms (terms_in region) are.ascending
    (λ term h. Has-from_Contains term (terms_in region) (are.none_else term (Contains-from_Has term terms h)))
    (λ term h. Has-from_Contains term terms (are.all term (Contains-from_Has term (terms_in region) h)))

-- ---- words after terms

with_word-front : (terms : List (List ℕ)) (word : List ℕ) → (rest : List (List ℕ)) × (with_word terms word ≡ terms ++ rest)
with_word-front terms word =
    elim (list_any (pointwise nat_eq word) terms) as
    (λ b. (rest : List (List ℕ)) × (cond b terms (terms ++ word ∷ []) ≡ terms ++ rest)) [
      | true ↦ ([], sym (append-nil terms))
      | false ↦ (word ∷ [], refl)
    ]

pub with_words-front : (terms words : List (List ℕ)) → (rest : List (List ℕ)) × (with_words terms words ≡ terms ++ rest)
with_words-front terms [] = ([], sym (append-nil terms))
with_words-front terms (word ∷ words) =
    let here = with_word-front terms word in
    let later = with_words-front (with_word terms word) words in (
      here.0 ++ later.0,
      later.1 ∙ ap (λ (ts : List (List ℕ)). ts ++ later.0) here.1 ∙ append_assoc terms here.0 later.0,
    )

among-front : (word : List ℕ) (xs ys : List (List ℕ)) → IsAmong xs word → IsAmong (xs ++ ys) word
among-front word [] ys is = absurd (cc)
among-front word (x ∷ xs) ys is =
    elim (pointwise nat_eq word x) as (λ b. (b || list_any (pointwise nat_eq word) xs) ≡ true
    → (b || list_any (pointwise nat_eq word) (xs ++ ys)) ≡ true) [
      | true ↦ λ h. refl
      | false ↦ λ h. among-front word xs ys h
    ] is

among-last : (word : List ℕ) (xs : List (List ℕ)) → IsAmong (xs ++ word ∷ []) word
among-last word [] = rw (nat_list_eq_equiv.refl word) refl
among-last word (x ∷ xs) = rw (among-last word xs) (or-true (pointwise nat_eq word x))

among-with : (terms : List (List ℕ)) (word : List ℕ) → IsAmong (with_word terms word) word
among-with terms word =
    elim (list_any (pointwise nat_eq word) terms) as
    (λ b. list_any (pointwise nat_eq word) terms ≡ b → IsAmong (cond b terms (terms ++ word ∷ [])) word) [
      | true ↦ λ e. e
      | false ↦ λ e. among-last word terms
    ] refl

-- each of the words is among them then
pub words_among : (terms words : List (List ℕ)) → AllByRecursion (IsAmong (with_words terms words)) words
words_among terms [] = tt
words_among terms (word ∷ words) =
    let later = with_words-front (with_word terms word) words in (
      subst (λ (ts : List (List ℕ)). IsAmong ts word) (sym later.1)
          (among-front word (with_word terms word) later.0 (among-with terms word)),
      words_among (with_word terms word) words,
    )

-- ---- the terms that are words

among_more : (term : List ℕ) (terms words : List (List ℕ)) → AllByRecursion (IsAmong terms) words
    → AllByRecursion (IsAmong (term ∷ terms)) words
among_more term terms [] are = tt
among_more term terms (word ∷ words) are =
    let here : list_any (pointwise nat_eq word) terms ≡ true = are.0 in
    (rw here (or-true (pointwise nat_eq word term)), among_more term terms words are.1)

each_among : (words : List (List ℕ)) → AllByRecursion (IsAmong words) words
each_among [] = tt
each_among (word ∷ words) =
    (rw (nat_list_eq_equiv.refl word) refl, among_more word words words (each_among words))

word_wanted : (words terms : List (List ℕ)) (word : List ℕ) → IsAmong words word → IsAmong terms word
    → IsAmong (terms_among words terms) word
word_wanted words [] word has is = is
word_wanted words (term ∷ terms) word has is =
    by (list_any (pointwise nat_eq term) words) (pointwise nat_eq word term) refl refl is (word_wanted words terms word has) where
      by : (kept here : Bool) → list_any (pointwise nat_eq term) words ≡ kept → pointwise nat_eq word term ≡ here
          → (here || list_any (pointwise nat_eq word) terms) ≡ true
          → (IsAmong terms word → IsAmong (terms_among words terms) word)
          → IsAmong (cond kept (term ∷ terms_among words terms) (terms_among words terms)) word
      by true true kept here more later = rw here refl
      by true false kept here more later =
          let rest : list_any (pointwise nat_eq word) (terms_among words terms) ≡ true = later more in
          rw rest (or-true (pointwise nat_eq word term))
      by false true kept here more later =
          let same : list_any (pointwise nat_eq term) words ≡ true =
          subst (λ (w : List ℕ). list_any (pointwise nat_eq w) words ≡ true) (same_text word term (sym here)) has in
          absurd (cc)
      by false false kept here more later = later more

-- each word that is among the terms is among those of them that are words
pub wanted_among : (terms words : List (List ℕ)) → AllByRecursion (IsAmong terms) words
    → AllByRecursion (IsAmong (terms_among words terms)) words
wanted_among terms words among = each words (each_among words) among where
  each : (ws : List (List ℕ)) → AllByRecursion (IsAmong words) ws → AllByRecursion (IsAmong terms) ws
      → AllByRecursion (IsAmong (terms_among words terms)) ws
  each [] own others = tt
  each (word ∷ ws) own others = (word_wanted words terms word own.0 others.0, each ws own.1 others.1)

-- ---- the lists of words

-- where the lists are made by a function of the term, so is a word's
pub list_in_told : (addresses : List ℕ → List ℕ) (terms : List (List ℕ)) (word : List ℕ) → IsAmong terms word
    → list_in (map (list_at addresses) terms) word ≡ list_at addresses word
list_in_told addresses [] word is = absurd (cc)
list_in_told addresses (term ∷ terms) word is =
    elim (pointwise nat_eq word term) as
    (λ b. pointwise nat_eq word term ≡ b → (b || list_any (pointwise nat_eq word) terms) ≡ true
    → made (cond b (Some (list_at addresses term))
    (find (λ (list : TermList). pointwise nat_eq word list.term) (map (list_at addresses) terms)))
    ≡ list_at addresses word) [
      | true ↦ λ e h. ap (λ (t : List ℕ). made_of (addresses t)) (sym (same_text word term (sym e)))
      | false ↦ λ e h. list_in_told addresses terms word h
    ] refl is where
      made_of : List ℕ → TermList
      made_of at' = record { term = word; at = at' }

      made : Option TermList → TermList
      made o = record { term = word; at = unwrap_or (option_map (λ (list : TermList). list.at) o) [] }

pub lists_in_told : (addresses : List ℕ → List ℕ) (terms words : List (List ℕ)) → AllByRecursion (IsAmong terms) words
    → map (list_in (map (list_at addresses) terms)) words ≡ map (list_at addresses) words
lists_in_told addresses terms [] all = refl
lists_in_told addresses terms (word ∷ words) all =
    ap₂ (λ (l : TermList) (ls : List TermList). l ∷ ls) (list_in_told addresses terms word all.0)
    (lists_in_told addresses terms words all.1)

-- ---- the first of lists

module _ (terms words : List (List ℕ)) where
  -- of those that are asked for the first ones are the terms
  pub first_asked : take (length terms) (with_words terms words) ≡ terms
  first_asked =
      let front = with_words-front terms words in ap (take (length terms)) front.1 ∙ take-append_seam terms front.0

  pub enough_asked : length terms ≤ length (with_words terms words)
  enough_asked =
      let front = with_words-front terms words in omega (arith, ap length front.1, length-append terms front.0)

terms_of_lists : (addresses : List ℕ → List ℕ) (terms : List (List ℕ)) → map (λ list. list.term) (map (list_at addresses) terms) ≡ terms
terms_of_lists addresses [] = refl
terms_of_lists addresses (term ∷ terms) = ap (λ ts. term ∷ ts) (terms_of_lists addresses terms)

-- they are made by the function of their terms
pub front_told : (addresses : List ℕ → List ℕ) (terms : List (List ℕ)) (lists : List TermList) (count : ℕ)
    → lists ≡ map (list_at addresses) terms
    → take count lists ≡ map (list_at addresses) (map (λ list. list.term) (take count lists))
front_told addresses terms lists count is =
    let front : take count lists ≡ map (list_at addresses) (take count terms) =
    ap (take count) is ∙ take-map (list_at addresses) count terms in
    front
    ∙ ap (map (list_at addresses))
    (sym (ap (map (λ (list : TermList). list.term)) front ∙ terms_of_lists addresses (take count terms)))

-- lists that are named by these words, in turn, are made by it of them
pub told_of : (addresses : List ℕ → List ℕ) (terms words : List (List ℕ)) (lists : List TermList) → lists ≡ map (list_at addresses) terms
    → map (λ list. list.term) lists ≡ words → lists ≡ map (list_at addresses) words
told_of addresses terms words lists is named =
    is
    ∙ ap (map (list_at addresses))
    (sym (terms_of_lists addresses terms) ∙ ap (map (λ (list : TermList). list.term)) (sym is) ∙ named)

-- the words' lists are made by it too
pub words_told : (addresses : List ℕ → List ℕ) (terms words : List (List ℕ)) (lists found : List TermList)
    → lists ≡ map (list_at addresses) terms → AllByRecursion (IsAmong terms) words → found ≡ map (list_in lists) words
    → found ≡ map (list_at addresses) words
words_told addresses terms words lists found is among found_is =
    found_is ∙ ap (λ (ls : List TermList). map (list_in ls) words) is ∙ lists_in_told addresses terms words among

abbrev made_by : List ℕ → List ℕ → TermList
made_by term at' = record { term = term; at = at' }

-- a word's list, by the first list of its term
pub list_is : (lists : List TermList) (word term at' : List ℕ) (first : Option TermList)
    → first ≡ find (λ list. pointwise nat_eq word list.term) lists → term ≡ word
    → at' ≡ unwrap_or (option_map (λ list. list.at) first) [] → made_by term at' ≡ list_in lists word
list_is lists word term at' first found same addresses =
    ap₂ made_by same (addresses ∙ ap (λ (o : Option TermList). unwrap_or (option_map (λ (list : TermList). list.at) o) []) found)

-- a list of a word ascends, where all lists do
pub list_in_ascends : (lists : List TermList) (word : List ℕ) → All (λ list. IsStrictlyIncreasing list.at) lists
    → IsStrictlyIncreasing (list_in lists word).at
list_in_ascends lists word up =
    by lists (recursion_from_All (λ (list : TermList). IsStrictlyIncreasing list.at) lists up) where
      none : IsStrictlyIncreasing []
      none = search rules

      by : (ls : List TermList) → AllByRecursion (λ list. IsStrictlyIncreasing list.at) ls → IsStrictlyIncreasing (list_in ls word).at
      by [] all = none
      by (list ∷ ls) all = elim (pointwise nat_eq word list.term) as
          (λ b. IsStrictlyIncreasing (unwrap_or (option_map (λ (l : TermList). l.at)
          (cond b (Some list) (find (λ (l : TermList). pointwise nat_eq word l.term) ls))) [])) [
            | true ↦ all.0
            | false ↦ by ls all.1
          ]
