-- A walk over the entries of a directory from the prefix on.
use Rattle.std.proofs.Common.{◌≡◌, ℕ, Bool, true, false, cond, nat_eq, not, List, [], ◌∷◌, ◌++◌, map, filter, append-nil, append_assoc}
use Rattle.std.proofs.Common.{refl, ap, sym, ◌∙◌}
use Rattle.std.specs.List.{AllByRecursion, starts_with}
use Rattle.std.specs.List.Sorted.{IsStrictlySortedBy}
use Rattle.std.specs.declared.cmp.Ordering.TheVariants.{Less}
use Rattle.std.specs.Cmp.Lexicographic.{slice_cmp}
use Rattle.std.specs.Ordering.{is_lt, nat_cmp}
use Rattle.wu_part.specs.declared.entries.TermEntry.{TermEntry}
use Rattle.wu_part.specs.Searches.{is_from}
use Rattle.wu_terms.specs.Terms.{is_candidate, is_tag}
use Rattle.wu_terms.proofs.Prefixed.{text_cmp, stops, no_candidate, before_no_candidate, tag_no_candidate, is_one}

abbrev pub terms : List TermEntry → List (List ℕ)
terms entries = map (λ (entry : TermEntry). entry.term) entries

-- the words so far, and the candidates among the entries that are left, are all candidates; these entries ascend from the prefix on
pub record IsWalk (prefix : List ℕ) (all words : List (List ℕ)) (left : List TermEntry) : Type 0 where
  pub whole : words ++ filter (is_candidate prefix) (terms left) ≡ filter (is_candidate prefix) all
  pub sorted : IsStrictlySortedBy (slice_cmp nat_cmp) (terms left)
  pub from : AllByRecursion (λ entry. is_lt (text_cmp entry.term prefix) ≡ false) left

-- ---- where it begins

all_filtered : (Q : List ℕ → Type 0) (f : TermEntry → Bool) (all : List TermEntry) → AllByRecursion Q (terms all)
    → AllByRecursion Q (terms (filter f all))
all_filtered Q f [] a = tt
all_filtered Q f (entry ∷ later) a =
    elim (f entry) as (λ b. AllByRecursion Q (terms (cond b (entry ∷ filter f later) (filter f later)))) [
      | true ↦ (a.0, all_filtered Q f later a.1)
      | false ↦ all_filtered Q f later a.1
    ]

sorted_filtered : (f : TermEntry → Bool) (all : List TermEntry) → IsStrictlySortedBy (slice_cmp nat_cmp) (terms all)
    → IsStrictlySortedBy (slice_cmp nat_cmp) (terms (filter f all))
unfolding IsStrictlySortedBy
sorted_filtered f [] s = tt
sorted_filtered f (entry ∷ later) s =
    elim (f entry) as (λ b. IsStrictlySortedBy (slice_cmp nat_cmp) (terms (cond b (entry ∷ filter f later) (filter f later)))) [
      | true ↦ (all_filtered (λ term. text_cmp entry.term term ≡ Less) f later s.0, sorted_filtered f later s.1)
      | false ↦ sorted_filtered f later s.1
    ]

each_from : (prefix : List ℕ) (all : List TermEntry)
    → AllByRecursion (λ entry. is_lt (text_cmp entry.term prefix) ≡ false) (filter (is_from prefix) all)
each_from prefix [] = tt
each_from prefix (entry ∷ later) =
    elim (is_lt (text_cmp entry.term prefix)) as
    (λ b. is_lt (text_cmp entry.term prefix) ≡ b → AllByRecursion (λ other. is_lt (text_cmp other.term prefix) ≡ false)
    (cond (not b) (entry ∷ filter (is_from prefix) later) (filter (is_from prefix) later))) [
      | true ↦ λ before. each_from prefix later
      | false ↦ λ from. (from, each_from prefix later)
    ] refl

-- no candidate stands before the prefix
same_candidates : (prefix : List ℕ) (all : List TermEntry)
    → filter (is_candidate prefix) (terms (filter (is_from prefix) all)) ≡ filter (is_candidate prefix) (terms all)
same_candidates prefix [] = refl
same_candidates prefix (entry ∷ later) =
    elim (is_lt (text_cmp entry.term prefix)) as
    (λ b. is_lt (text_cmp entry.term prefix) ≡ b
    → filter (is_candidate prefix) (terms (cond (not b) (entry ∷ filter (is_from prefix) later) (filter (is_from prefix) later)))
    ≡ filter (is_candidate prefix) (terms (entry ∷ later))) [
      | true ↦ λ before.
          same_candidates prefix later
          ∙ ap (λ b. cond b (entry.term ∷ filter (is_candidate prefix) (terms later)) (filter (is_candidate prefix) (terms later)))
          (sym (before_no_candidate prefix entry.term before))
      | false ↦ λ from.
          ap (λ (rest : List (List ℕ)). cond (is_candidate prefix entry.term) (entry.term ∷ rest) rest) (same_candidates prefix later)
    ] refl

pub walk_begins : (prefix : List ℕ) (all left : List TermEntry) (words : List (List ℕ)) → IsStrictlySortedBy (slice_cmp nat_cmp) (terms all)
    → left ≡ filter (is_from prefix) all → words ≡ [] → IsWalk prefix (terms all) words left
walk_begins prefix all left words s is none = rw (is, none) (record {
  whole = same_candidates prefix all;
  sorted = sorted_filtered (is_from prefix) all s;
  from = each_from prefix all;
})

-- ---- how it goes on

pub walk_takes : (prefix : List ℕ) (all words new : List (List ℕ)) (left : List TermEntry) (entry : TermEntry) (later : List TermEntry)
    → IsWalk prefix all words left → left ≡ entry ∷ later → starts_with nat_eq entry.term prefix ≡ true → is_tag entry.term ≡ false
    → new ≡ words ++ entry.term ∷ [] → IsWalk prefix all new later
unfolding IsStrictlySortedBy
walk_takes prefix all words new left entry later w is starts word more =
    let v : IsWalk prefix all words (entry ∷ later) = rw is at w in
    let rest : List (List ℕ) = filter (is_candidate prefix) (terms later) in
    let kept : filter (is_candidate prefix) (terms (entry ∷ later)) ≡ entry.term ∷ rest =
    ap (λ b. cond b (entry.term ∷ rest) rest) (is_one prefix entry.term starts word) in
    rw more (record {
      whole = append_assoc words (entry.term ∷ []) rest ∙ (ap (λ (x : List (List ℕ)). words ++ x) (sym kept) ∙ v.whole);
      sorted = v.sorted.1;
      from = v.from.1;
    })

pub walk_skips : (prefix : List ℕ) (all words : List (List ℕ)) (left : List TermEntry) (entry : TermEntry) (later : List TermEntry)
    → IsWalk prefix all words left → left ≡ entry ∷ later → is_tag entry.term ≡ true → IsWalk prefix all words later
unfolding IsStrictlySortedBy
walk_skips prefix all words left entry later w is tag =
    let v : IsWalk prefix all words (entry ∷ later) = rw is at w in
    let rest : List (List ℕ) = filter (is_candidate prefix) (terms later) in
    let dropped : filter (is_candidate prefix) (terms (entry ∷ later)) ≡ rest =
    ap (λ b. cond b (entry.term ∷ rest) rest) (tag_no_candidate prefix entry.term tag) in
    record {
      whole = ap (λ (x : List (List ℕ)). words ++ x) (sym dropped) ∙ v.whole;
      sorted = v.sorted.1;
      from = v.from.1;
    }

-- ---- where it ends

none_start : (prefix : List ℕ) (entry : TermEntry) (later : List TermEntry) → IsStrictlySortedBy (slice_cmp nat_cmp) (terms (entry ∷ later))
    → AllByRecursion (λ other. is_lt (text_cmp other.term prefix) ≡ false) (entry ∷ later)
    → starts_with nat_eq entry.term prefix ≡ false → filter (is_candidate prefix) (terms (entry ∷ later)) ≡ []
unfolding IsStrictlySortedBy
none_start prefix entry [] s from fails = rw (no_candidate prefix entry.term fails) refl
none_start prefix entry (second ∷ later) s from fails =
    let rest : List (List ℕ) = filter (is_candidate prefix) (terms (second ∷ later)) in
    ap (λ b. cond b (entry.term ∷ rest) rest) (no_candidate prefix entry.term fails)
    ∙ none_start prefix second later s.1 from.1 (stops prefix entry.term second.term from.0 fails s.0.0)

pub walk_stops : (prefix : List ℕ) (all words : List (List ℕ)) (left : List TermEntry) (entry : TermEntry) (later : List TermEntry)
    → IsWalk prefix all words left → left ≡ entry ∷ later → starts_with nat_eq entry.term prefix ≡ false
    → words ≡ filter (is_candidate prefix) all
walk_stops prefix all words left entry later w is fails =
    let v : IsWalk prefix all words (entry ∷ later) = rw is at w in
    sym (append-nil words) ∙ (ap (λ (x : List (List ℕ)). words ++ x) (sym (none_start prefix entry later v.sorted v.from fails)) ∙ v.whole)

pub walk_ends : (prefix : List ℕ) (all words : List (List ℕ)) (left : List TermEntry) → IsWalk prefix all words left → left ≡ []
    → words ≡ filter (is_candidate prefix) all
walk_ends prefix all words left w is =
    let v : IsWalk prefix all words [] = rw is at w in sym (append-nil words) ∙ v.whole
