-- Words in any order, as what they are a collection of.
use Rattle.std.proofs.Common.{◌≡◌, ℕ, List, [], ◌∷◌, ◌++◌, true, false, cond, filter, append-nil, ap, sym, ◌∙◌}
use Rattle.std.specs.List.{fold}
use Rattle.std.specs.BTreeSet.{insert_key}
use Rattle.std.specs.Cmp.Lexicographic.{slice_cmp, nat_list_cmp_total}
use Rattle.std.specs.Ordering.{nat_cmp}
use Rattle.std.proofs.lemmas.List.Sums.{fold-append}
use Rattle.std.proofs.lemmas.Map.Lookups.{exact_bytes}
use Rattle.wu_base.specs.SortedOnce.{sorted_once}
use Rattle.wu_base.proofs.SortedLists.{sorted_once_is, sorted-sorted_once}
use Rattle.wu_terms.specs.Terms.{is_candidate}
use Rattle.wu_terms.specs.Collections.{Collection, collected, with_terms}

abbrev once : List (List ℕ) → List (List ℕ)
once words = sorted_once (slice_cmp nat_cmp) words

once_is_once : (words : List (List ℕ)) → once (once words) ≡ once words
once_is_once words =
    sym (sorted_once_is nat_list_cmp_total exact_bytes (once words) (once words) (sorted-sorted_once nat_list_cmp_total exact_bytes words)
    (λ q has. has) (λ q has. has))

pub once_with : (words more : List (List ℕ)) → once (words ++ more) ≡ once (once words ++ more)
once_with words more =
    fold-append (insert_key (slice_cmp nat_cmp)) [] words more
    ∙ (ap (λ (ks : List (List ℕ)). fold (insert_key (slice_cmp nat_cmp)) ks more) (sym (once_is_once words))
    ∙ sym (fold-append (insert_key (slice_cmp nat_cmp)) [] (once words) more))

-- the candidates among more terms are put behind the words
pub terms_added : (prefix : List ℕ) (words new terms : List (List ℕ)) → new ≡ words ++ filter (is_candidate prefix) terms
    → collected prefix new ≡ with_terms (collected prefix words) terms
terms_added prefix words new terms is =
    ap (collected prefix) is
    ∙ ap (λ (x : List (List ℕ)). record { prefix = prefix; words = x }) (once_with words (filter (is_candidate prefix) terms))

-- the words in order, each once, are the same collection
pub in_order_now : (prefix : List ℕ) (words new : List (List ℕ)) → new ≡ once words → collected prefix new ≡ collected prefix words
in_order_now prefix words new is =
    ap (λ (x : List (List ℕ)). record { prefix = prefix; words = x }) (ap once is ∙ once_is_once words)

-- ---- as it is added to a collection

pub many_added : (old : Collection) (prefix : List ℕ) (words new terms : List (List ℕ)) → collected prefix words ≡ old
    → new ≡ words ++ filter (is_candidate prefix) terms → collected prefix new ≡ with_terms old terms
many_added old prefix words new terms e is =
    terms_added prefix words new terms is ∙ ap (λ (x : Collection). with_terms x terms) e

pub one_added : (old : Collection) (prefix : List ℕ) (words new : List (List ℕ)) (term : List ℕ) → collected prefix words ≡ old
    → is_candidate prefix term ≡ true → new ≡ words ++ term ∷ [] → collected prefix new ≡ with_terms old (term ∷ [])
one_added old prefix words new term e is put =
    many_added old prefix words new (term ∷ []) e
    (put ∙ ap (λ b. words ++ cond b (term ∷ []) []) (sym is))

pub none_added : (old : Collection) (prefix : List ℕ) (words : List (List ℕ)) (term : List ℕ) → collected prefix words ≡ old
    → is_candidate prefix term ≡ false → old ≡ with_terms old (term ∷ [])
none_added old prefix words term e fails =
    sym e ∙ many_added old prefix words words (term ∷ []) e
    (sym (append-nil words) ∙ ap (λ b. words ++ cond b (term ∷ []) []) (sym fails))
