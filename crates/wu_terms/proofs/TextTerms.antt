-- The words of texts, among candidates.
use Rattle.std.proofs.Common.{◌≡◌, ℕ, ◌+◌, ◌<◌, Bool, true, false, cond, nat_eq, nat_lt, List, [], ◌∷◌, map, filter}
use Rattle.std.proofs.Common.{refl, ap, sym, subst, ◌∙◌, inl, inr, ⊎_elim, arith}
use Rattle.std.specs.List.{count_by, flat_map}
use Rattle.std.specs.Cmp.Lexicographic.{pointwise, slice_cmp, same_text, nat_list_cmp_total, nat_list_eq_equiv}
use Rattle.std.specs.Ordering.{nat_cmp}
use Rattle.std.proofs.lemmas.Bool.{ltb-true, lt-ltb}
use Rattle.std.proofs.lemmas.List.Kept.{IsStrictlySortedBy-filter}
use Rattle.std.proofs.lemmas.List.Sums.{sum_by-cons}
use Rattle.std.proofs.lemmas.Map.Lookups.{exact_bytes}
use Rattle.wu_base.proofs.Members.{Has, Has-from_Contains, Contains-from_Has, Has-filter, filter_has, any_has, has_any, Has-flat_map}
use Rattle.wu_base.proofs.Members.{flat_map_has}
use Rattle.wu_base.proofs.SortedLists.{same_sorted, sorted-sorted_once, has-sorted_once, sorted_once_has}
use Rattle.wu_token.specs.Tokens.{tokens_of}
use Rattle.wu_terms.specs.Terms.{counted, has_word, is_candidate, words_with}
use Rattle.wu_terms.specs.Laws.{CandidatesGiveTheTerms, HaveTerms}

filter-map : {X Y : Type 0} (p : Y → Bool) (f : X → Y) (xs : List X) → filter p (map f xs) ≡ map f (filter (λ x. p (f x)) xs)
filter-map p f [] = refl
filter-map p f (x ∷ xs) =
    elim (p (f x)) as
    (λ b. cond b (f x ∷ filter p (map f xs)) (filter p (map f xs))
    ≡ map f (cond b (x ∷ filter (λ z. p (f z)) xs) (filter (λ z. p (f z)) xs))) [
      | true ↦ ap (λ ys. f x ∷ ys) (filter-map p f xs)
      | false ↦ filter-map p f xs
    ]

-- ---- counts over 0

count_one : (b : Bool) (later all : ℕ) → all ≡ cond b 1 0 + later → b ≡ true → 0 < all
count_one true later all e passes = omega arith
count_one false later all e passes = absurd cc

count_more : (b : Bool) (later all : ℕ) → all ≡ cond b 1 0 + later → 0 < later → 0 < all
count_more true later all e some = omega arith
count_more false later all e some = omega arith

count_none : (b : Bool) (later all : ℕ) → all ≡ cond b 1 0 + later → b ≡ false → 0 < all → 0 < later
count_none true later all e fails some = absurd cc
count_none false later all e fails some = omega arith

module _ {X : Type 0} (p : X → Bool) where
  one_more : (x : X) (xs : List X) → count_by p (x ∷ xs) ≡ cond (p x) 1 0 + count_by p xs
  one_more x xs = sum_by-cons (λ z. cond (p z) 1 0) x xs

  some_counted : (x : X) (xs : List X) → Has x xs → p x ≡ true → 0 < count_by p xs
  some_counted x [] has passes = absurd has
  some_counted x (y ∷ ys) has passes =
      ⊎_elim
      (λ (e : y ≡ x). count_one (p y) (count_by p ys) (count_by p (y ∷ ys)) (one_more y ys) (ap p e ∙ passes))
      (λ later. count_more (p y) (count_by p ys) (count_by p (y ∷ ys)) (one_more y ys) (some_counted x ys later passes))
      has

  counted_some : (xs : List X) → 0 < count_by p xs → (x : X) × (Has x xs × (p x ≡ true))
  counted_some [] some = absurd (omega arith)
  counted_some (y ∷ ys) some =
      elim (p y) as (λ b. p y ≡ b → (x : X) × (Has x (y ∷ ys) × (p x ≡ true))) [
        | true ↦ λ e. (y, (inl refl, e))
        | false ↦ λ e.
            let r = counted_some ys (count_none (p y) (count_by p ys) (count_by p (y ∷ ys)) (one_more y ys) e some) in
            (r.0, (inr r.1.0, r.1.1))
      ] refl

-- ---- words of a text

word_there : (word text : List ℕ) → has_word word text ≡ true → Has word (tokens_of text)
word_there word text has =
    let r = any_has (λ term. pointwise nat_eq term word) (tokens_of text) has in
    subst (λ term. Has term (tokens_of text)) (same_text r.0 word (sym r.1.1)) r.1.0

there_word : (word text : List ℕ) → Has word (tokens_of text) → has_word word text ≡ true
there_word word text has = has_any (λ term. pointwise nat_eq term word) word (tokens_of text) has (nat_list_eq_equiv.refl word)

-- ---- the law

module _ (prefix : List ℕ) (terms texts : List (List ℕ)) (have : HaveTerms terms texts) where
  abbrev from_terms : List (List ℕ)
  from_terms = words_with prefix terms

  abbrev from_texts : List (List ℕ)
  from_texts = words_with prefix (flat_map tokens_of texts)

  abbrev is_listed : List ℕ → Bool
  is_listed word = nat_lt 0 (count_by (has_word word) texts)

  candidate_of : (all : List (List ℕ)) (word : List ℕ) → Has word (words_with prefix all) → Has word all × (is_candidate prefix word ≡ true)
  candidate_of all word has =
      filter_has (is_candidate prefix) word all
      (sorted_once_has nat_list_cmp_total exact_bytes word (filter (is_candidate prefix) all) has)

  of_candidate : (all : List (List ℕ)) (word : List ℕ) → Has word all → is_candidate prefix word ≡ true → Has word (words_with prefix all)
  of_candidate all word has is =
      has-sorted_once nat_list_cmp_total exact_bytes word (filter (is_candidate prefix) all)
      (Has-filter (is_candidate prefix) word all has is)

  there : (word : List ℕ) → Has word (filter is_listed from_terms) → Has word from_texts
  there word has =
      let listed = filter_has is_listed word from_terms has in
      let text = counted_some (has_word word) texts (ltb-true 0 (count_by (has_word word) texts) listed.1) in
      of_candidate (flat_map tokens_of texts) word
      (Has-flat_map tokens_of word text.0 texts text.1.0 (word_there word text.0 text.1.1))
      (candidate_of terms word listed.0).1

  back : (word : List ℕ) → Has word from_texts → Has word (filter is_listed from_terms)
  back word has =
      let own = candidate_of (flat_map tokens_of texts) word has in
      let text = flat_map_has tokens_of word texts own.0 in
      let among = Has-from_Contains word terms
      (have text.0 word (Contains-from_Has text.0 texts text.1.0) (Contains-from_Has word (tokens_of text.0) text.1.1)) in
      Has-filter is_listed word from_terms (of_candidate terms word among own.1)
      (lt-ltb 0 (count_by (has_word word) texts)
      (some_counted (has_word word) text.0 texts text.1.0 (there_word word text.0 text.1.1)))

  same_words : filter is_listed from_terms ≡ from_texts
  same_words =
      same_sorted nat_list_cmp_total exact_bytes (filter is_listed from_terms) from_texts
      (IsStrictlySortedBy-filter (slice_cmp nat_cmp) is_listed from_terms
      (sorted-sorted_once nat_list_cmp_total exact_bytes (filter (is_candidate prefix) terms)))
      (sorted-sorted_once nat_list_cmp_total exact_bytes (filter (is_candidate prefix) (flat_map tokens_of texts)))
      there back

pub gives_the_terms : CandidatesGiveTheTerms
gives_the_terms prefix terms texts have =
    filter-map (λ line. nat_lt 0 line.files) (counted texts) (words_with prefix terms)
    ∙ ap (map (counted texts)) (same_words prefix terms texts have)
