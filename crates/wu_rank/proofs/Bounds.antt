-- The bounds of scores, and the units that they leave to be weighed.
use Rattle.std.proofs.Common.{◌≡◌, ℕ, ◌+◌, ◌-◌, ◌*◌, ◌/◌, ◌^◌, ◌<◌, ◌≤◌, Bool, true, false, cond, eqb, ltb, leb, ◌||◌, ◌&&◌}
use Rattle.std.proofs.Common.{Option, Some, None, List, [], ◌∷◌, ◌++◌, length, take, map, refl, sym, subst, ap, ap₂, ◌∙◌}
use Rattle.std.proofs.Common.{⊎_elim}
use Rattle.std.proofs.Common.{min, append_assoc, arith}
use Rattle.std.specs.List.{AllByRecursion, list_any, filter}
use Rattle.std.proofs.lemmas.Bool.{cases_eq, cases_lt, lt-ltb, ltb-false, or_parts, cond_both, cond-true, cond-false, eq-eqb, ne_eqb}
use Rattle.std.proofs.lemmas.List.{get_or-take, get_or_past, length-take, take_at}
use Rattle.std.proofs.lemmas.List.Sums.{sum_by-cons, sum_by-append, sum_by-le-sum_by}
use Rattle.std.proofs.Math.Nat.{add-zero}
use Rattle.wu_base.specs.declared.addresses.TermList.{TermList}
use Rattle.wu_rank.specs.declared.entries.Entry.{Entry}
use Rattle.wu_rank.specs.declared.results.Unit.{Unit as RankedUnit}
use Rattle.wu_rank.specs.declared.results.Ranked.{Ranked}
use Rattle.wu_rank.specs.Choices.{ranked_or_none}
use Rattle.wu_rank.specs.Entries.{with_entry, entries, times_in, unit_at, sparse_sum}
use Rattle.wu_rank.specs.Order.{listed}
use Rattle.wu_rank.specs.Pruning.{bound_part, bound, last_score, reaching, bound_if_listed, bounded, reaching_at}
use Rattle.wu_rank.specs.Scores.{has, count_at, holders, idf_of, length_of, total_length, part, score, holds}
use Rattle.wu_rank.proofs.Counts.{times-some, times-none}
use Rattle.wu_rank.proofs.Parts.{part-nothing, holds-append}
use Rattle.wu_rank.proofs.Sparse.{entries-agree, place_of}
use Rattle.wu_rank.proofs.Sums.{sum_of, sum-entries}
use Rattle.wu_rank.proofs.Weights.{weigh-le}

-- ---- the bounds of one word

bound-one : (units : List RankedUnit) (unit : RankedUnit) (word : TermList)
    → bound count_at units (word ∷ []) unit ≡ bound_part count_at units unit word
unfolding bound
bound-one units unit word = sum_by-cons (bound_part count_at units unit) word [] ∙ add-zero (bound_part count_at units unit word)

bound-held : (units : List RankedUnit) (unit : RankedUnit) (word : TermList) → 0 < count_at word unit
    → bound_part count_at units unit word ≡ 22 * idf_of count_at units word / 10
unfolding bound_part
bound-held units unit word h = rw (lt-ltb 0 (count_at word unit) h) refl

bound-lacked : (units : List RankedUnit) (unit : RankedUnit) (word : TermList) → count_at word unit ≡ 0
    → bound_part count_at units unit word ≡ 0
unfolding bound_part
bound-lacked units unit word e = rw e refl

listed-bound : (units : List RankedUnit) (unit : RankedUnit) (word : TermList) → 0 < count_at word unit
    → bound_if_listed count_at units (word ∷ []) unit ≡ Some (bound count_at units (word ∷ []) unit)
unfolding holds
listed-bound units unit word h = rw (lt-ltb 0 (count_at word unit) h) refl

unlisted-bound : (units : List RankedUnit) (unit : RankedUnit) (word : TermList) → count_at word unit ≡ 0
    → bound_if_listed count_at units (word ∷ []) unit ≡ None
unfolding holds
unlisted-bound units unit word e = rw e refl

abbrev replaced : ℕ → Option ℕ → Option ℕ
replaced most None = None
replaced most (Some v) = Some most

mapped_with : (most place : ℕ) (value : Option ℕ) (rest : List Entry)
    → map (bounded most) (with_entry place value rest) ≡ with_entry place (replaced most value) (map (bounded most) rest)
mapped_with most place None rest = refl
mapped_with most place (Some v) rest = refl

replaced-is : (units : List RankedUnit) (list : TermList) (most : ℕ) (u : RankedUnit) → most ≡ 22 * idf_of count_at units list / 10
    → replaced most (times_in list.at u) ≡ bound_if_listed count_at units (list ∷ []) u
replaced-is units list most u e =
    ⊎_elim
    (λ (h : 0 < count_at list u).
    ap (replaced most) (times-some list.at u (count_at list u) refl h)
    ∙ ap Some (e ∙ sym (bound-held units u list h) ∙ sym (bound-one units u list))
    ∙ sym (listed-bound units u list h))
    (λ (h : count_at list u ≤ 0).
    ap (replaced most) (times-none list.at u (omega arith)) ∙ sym (unlisted-bound units u list (omega arith)))
    (cases_lt 0 (count_at list u))

-- the bound in place of each count is what the word may add
pub bounds_are : (units : List RankedUnit) (list : TermList) (most end : ℕ) (us : List RankedUnit)
    → most ≡ 22 * idf_of count_at units list / 10
    → map (bounded most) (entries (times_in list.at) end us) ≡ entries (bound_if_listed count_at units (list ∷ [])) end us
bounds_are units list most end [] e = refl
bounds_are units list most end (u ∷ us) e =
    mapped_with most (end - length (u ∷ us)) (times_in list.at u) (entries (times_in list.at) end us)
    ∙ ap₂ (λ (o : Option ℕ) (es : List Entry). with_entry (end - length (u ∷ us)) o es) (replaced-is units list most u e)
    (bounds_are units list most end us e)

pub bounds_small : (most : ℕ) (es : List Entry) → most ≤ 2 ^ 24 → AllByRecursion (λ e. e.value ≤ 2 ^ 24) (map (bounded most) es)
bounds_small most [] l = tt
bounds_small most (e ∷ es) l = (l, bounds_small most es l)

-- the same of a vector that is written over
pub bounds_kept : (units : List RankedUnit) (list : TermList) (most kept : ℕ) (bounds rest counts : List Entry) → length bounds ≡ kept
    → bounds ≡ map (bounded most) counts → counts ≡ entries (times_in list.at) (length units) units
    → most ≡ 22 * idf_of count_at units list / 10
    → take kept (bounds ++ rest) ≡ entries (bound_if_listed count_at units (list ∷ [])) (length units) units
bounds_kept units list most kept bounds rest counts l e f m =
    take_at bounds rest kept l
    ∙ e
    ∙ ap (λ (es : List Entry). map (bounded most) es) f
    ∙ bounds_are units list most (length units) units m

pub kept_small : (most kept : ℕ) (bounds rest counts : List Entry) → length bounds ≡ kept → bounds ≡ map (bounded most) counts
    → most ≤ 2 ^ 24 → AllByRecursion (λ e. e.value ≤ 2 ^ 24) (take kept (bounds ++ rest))
kept_small most kept bounds rest counts l e m =
    subst (λ (es : List Entry). AllByRecursion (λ e. e.value ≤ 2 ^ 24) es) (sym (take_at bounds rest kept l ∙ e))
    (bounds_small most counts m)

-- ---- the bounds of some words, and of others

bound-nothing : (units : List RankedUnit) (unit : RankedUnit) (words : List TermList) → holds count_at words unit ≡ false
    → bound count_at units words unit ≡ 0
unfolding bound holds
bound-nothing units unit [] h = refl
bound-nothing units unit (word ∷ words) h =
    let parts = or_parts (ltb 0 (count_at word unit)) (list_any (λ w. has count_at w unit) words) h in
    let none : count_at word unit ≤ 0 = ltb-false 0 (count_at word unit) parts.0 in
    sum_by-cons (bound_part count_at units unit) word words
    ∙ ap₂ (λ (m n : ℕ). m + n) (bound-lacked units unit word (omega arith)) (bound-nothing units unit words parts.1)

bound-append : (units : List RankedUnit) (unit : RankedUnit) (some others : List TermList)
    → bound count_at units (some ++ others) unit ≡ bound count_at units some unit + bound count_at units others unit
unfolding bound
bound-append units unit some others = sum_by-append (bound_part count_at units unit) some others

sum_of-bounds : (units : List RankedUnit) (some others : List TermList) (unit : RankedUnit)
    → sum_of (bound_if_listed count_at units some unit) (bound_if_listed count_at units others unit)
    ≡ bound_if_listed count_at units (some ++ others) unit
sum_of-bounds units some others unit =
    by (holds count_at some unit) (holds count_at others unit) _ _ (bound-nothing units unit some) (bound-nothing units unit others)
    ∙ sym (ap₂ (λ (b : Bool) (n : ℕ). cond b (Some n) None) (holds-append unit some others) (bound-append units unit some others))
  where
    by : (b c : Bool) (m n : ℕ) → (b ≡ false → m ≡ 0) → (c ≡ false → n ≡ 0)
        → sum_of (cond b (Some m) None) (cond c (Some n) None) ≡ cond (b || c) (Some (m + n)) None
    by true true m n h k = refl
    by true false m n h k = ap Some (omega (arith, k refl))
    by false true m n h k = ap Some (omega (arith, h refl))
    by false false m n h k = refl

pub no_bounds : (units : List RankedUnit) (lists : List TermList) (end : ℕ) (us : List RankedUnit) → length lists < 1
    → [] ≡ entries (bound_if_listed count_at units lists) end us
unfolding holds
no_bounds units [] end [] l = refl
no_bounds units [] end (u ∷ us) l = no_bounds units [] end us l
no_bounds units (list ∷ lists) end us l = absurd (omega arith)

pub summed_bounds : (units : List RankedUnit) (lists some others : List TermList) (one other sum : List Entry)
    → one ≡ entries (bound_if_listed count_at units some) (length units) units
    → other ≡ entries (bound_if_listed count_at units others) (length units) units → some ++ others ≡ lists → sum ≡ sparse_sum one other
    → sum ≡ entries (bound_if_listed count_at units lists) (length units) units
summed_bounds units lists some others one other sum a b w e =
    e
    ∙ ap₂ sparse_sum a b
    ∙ sum-entries (bound_if_listed count_at units some) (bound_if_listed count_at units others) (length units) units (omega arith)
    ∙ entries-agree (λ u. sum_of (bound_if_listed count_at units some u) (bound_if_listed count_at units others u))
    (bound_if_listed count_at units (some ++ others)) (sum_of-bounds units some others) (length units) units
    ∙ ap (λ (ls : List TermList). entries (bound_if_listed count_at units ls) (length units) units) w

-- ---- a score is within its bound

part-within : (units : List RankedUnit) (unit : RankedUnit) (word : TermList)
    → part count_at units unit word ≤ 22 * idf_of count_at units word / 10
unfolding part
part-within units unit word =
    cond_both (eqb (holders count_at units word) 0) 0 _ (λ (v : ℕ). v ≤ 22 * idf_of count_at units word / 10) (λ e. omega arith)
    (λ e. weigh-le (idf_of count_at units word) (count_at word unit) (length_of unit.extent) (length units) (total_length units))

part-le : (units : List RankedUnit) (unit : RankedUnit) (word : TermList)
    → part count_at units unit word ≤ bound_part count_at units unit word
part-le units unit word =
    ⊎_elim
    (λ (h : 0 < count_at word unit). omega (arith, bound-held units unit word h, part-within units unit word))
    (λ (h : count_at word unit ≤ 0).
    let none : part count_at units unit word ≡ 0 = part-nothing units unit word (omega arith) in
    omega (arith, none))
    (cases_lt 0 (count_at word unit))

pub score-le : (units : List RankedUnit) (words : List TermList) (unit : RankedUnit)
    → score count_at units words unit ≤ bound count_at units words unit
unfolding score bound
score-le units words unit = sum_by-le-sum_by (part count_at units unit) (bound_part count_at units unit) words (part-le units unit)

-- ---- the units that are left

module _ (units : List RankedUnit) (lists : List TermList) (least : ℕ) where
  abbrev Reaches : RankedUnit → Bool
  Reaches unit = holds count_at lists unit && leb least (bound count_at units lists unit)

  one_kept : (c : Bool) (e : Entry) (u : RankedUnit) (some : List Entry) (kept : List RankedUnit) → unit_at units e.unit ≡ u
      → map (λ (x : Entry). unit_at units x.unit) some ≡ kept
      → map (λ (x : Entry). unit_at units x.unit) (cond c (e ∷ some) some) ≡ cond c (u ∷ kept) kept
  one_kept true e u some kept f r = ap₂ (λ (v : RankedUnit) (vs : List RankedUnit). v ∷ vs) f r
  one_kept false e u some kept f r = r

  one_reached : (b : Bool) (most place : ℕ) (u : RankedUnit) (rest : List Entry) (kept : List RankedUnit) → unit_at units place ≡ u
      → reaching_at units least rest ≡ kept
      → reaching_at units least (with_entry place (cond b (Some most) None) rest) ≡ cond (b && leb least most) (u ∷ kept) kept
  one_reached true most place u rest kept e r =
      one_kept (leb least most) (record { unit = place; value = most }) u (filter (λ (x : Entry). leb least x.value) rest) kept e r
  one_reached false most place u rest kept e r = r

  some_reached : (front us : List RankedUnit) → units ≡ front ++ us
      → reaching_at units least (entries (bound_if_listed count_at units lists) (length units) us) ≡ filter Reaches us
  some_reached front [] e = refl
  some_reached front (u ∷ us) e =
      let found = place_of units front us u e in
      one_reached (holds count_at lists u) (bound count_at units lists u) (length units - length (u ∷ us)) u
      (entries (bound_if_listed count_at units lists) (length units) us) (filter Reaches us) found.1
      (some_reached (front ++ u ∷ []) us (e ∙ sym (append_assoc front (u ∷ []) us)))

  pub reached_are : reaching_at units least (entries (bound_if_listed count_at units lists) (length units) units) ≡ filter Reaches units
  reached_are = some_reached [] units refl

-- the last of the first k
last_of_first : (all : List Ranked) (k : ℕ) → 0 < k
    → cond (eqb (length (take k all)) k) (ranked_or_none (take k all) (k - 1)).score 0 ≡ (ranked_or_none all (k - 1)).score
last_of_first all k l =
    let none : Ranked = record { score = 0; unit = record { extent = record { start = 0; end = 0 }; place = 0 } } in
    let as_many : length (take k all) ≡ min k (length all) = length-take k all in
    ⊎_elim
    (λ (h : length (take k all) ≡ k).
    cond-true (eqb (length (take k all)) k) _ 0 (eq-eqb _ _ h)
    ∙ ap (λ (r : Ranked). r.score) (get_or-take k all (k - 1) none (omega arith)))
    (λ (h : length (take k all) ≡ k → ⊥).
    let few : length all ≤ k - 1 = fewer (length (take k all)) (length all) k as_many h in
    cond-false (eqb (length (take k all)) k) _ 0 (ne_eqb _ _ h)
    ∙ sym (ap (λ (r : Ranked). r.score) (get_or_past all (k - 1) none few)))
    (cases_eq (length (take k all)) k)
  where
    fewer : (m n k : ℕ) → m ≡ min k n → (m ≡ k → ⊥) → n ≤ k - 1
    fewer m n k e h =
        ⊎_elim
        (λ (g : n < k). omega arith)
        (λ (g : k ≤ n). absurd (h (omega arith)))
        (cases_lt n k)

pub reaching-some : (units : List RankedUnit) (lists : List TermList) (k : ℕ) (best : List Ranked) → 0 < k
    → best ≡ take k (listed count_at units lists)
    → reaching_at units (cond (eqb (length best) k) (ranked_or_none best (k - 1)).score 0)
    (entries (bound_if_listed count_at units lists) (length units) units)
    ≡ reaching count_at units lists k
unfolding reaching last_score
reaching-some units lists k best l e =
    ap (λ (rs : List Ranked). reaching_at units (cond (eqb (length rs) k) (ranked_or_none rs (k - 1)).score 0)
    (entries (bound_if_listed count_at units lists) (length units) units)) e
    ∙ ap (λ (least : ℕ). reaching_at units least (entries (bound_if_listed count_at units lists) (length units) units))
    (last_of_first (listed count_at units lists) k l)
    ∙ reached_are units lists (ranked_or_none (listed count_at units lists) (k - 1)).score
    ∙ sym (cond-false (eqb k 0) _ _ (ne_eqb k 0 (λ z. absurd (omega arith))))

pub reaching-none : (units : List RankedUnit) (lists : List TermList) (k : ℕ) → k ≡ 0 → [] ≡ reaching count_at units lists k
unfolding reaching
reaching-none units lists k e = rw e refl
