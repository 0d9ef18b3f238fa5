-- The order in which units are given doesn't matter to a ranking.
use Rattle.std.proofs.Common.{◌≡◌, ℕ, ◌+◌, Bool, true, false, cond, List, [], ◌∷◌, map, refl, sym, ap, ap₂, ◌∙◌, eqb, ◌-◌, arith}
use Rattle.std.proofs.Common.{◌*◌, ◌/◌, ◌&&◌, leb, length}
use Rattle.std.specs.List.{sum_by, filter}
use Rattle.std.specs.List.Sorted.{IsPermutation}
use Rattle.std.proofs.lemmas.List.Sorted.{sum_by-IsPermutation, length_permutation}
use Rattle.std.proofs.lemmas.List.Sums.{sum_by-cons}
use Rattle.wu_log2.specs.Logarithm.{lg}
use Rattle.wu_rank.specs.declared.results.Unit.{Unit as RankedUnit}
use Rattle.wu_rank.specs.declared.results.Ranked.{Ranked}
use Rattle.wu_rank.specs.Bm25.{weigh}
use Rattle.wu_rank.specs.Scores.{has, holders, idf_of, length_of, total_length, part, score, holds, scored, all_listed}
use Rattle.wu_rank.specs.Order.{in_order, listed}
use Rattle.wu_rank.specs.Choices.{ranked_or_none}
use Rattle.wu_rank.specs.Pruning.{bound_part, bound, last_score, reaching}
use Rattle.wu_rank.proofs.Reached.{idf_alike, reaches, length-reaching}
use Rattle.wu_rank.proofs.Sorting.{in_order-is, Ascends-from_sorted, same_if_sums}

-- sums of equal terms
sum_alike : {X : Type 0} (f g : X → ℕ) → ((x : X) → f x ≡ g x) → (xs : List X) → sum_by f xs ≡ sum_by g xs
sum_alike f g same [] = refl
sum_alike f g same (x ∷ xs) =
    sum_by-cons f x xs ∙ ap₂ (λ (m n : ℕ). m + n) (same x) (sum_alike f g same xs) ∙ sym (sum_by-cons g x xs)

holders_same : {W : Type 0} (count : W → RankedUnit → ℕ) (units other : List RankedUnit) (word : W) → IsPermutation units other
    → holders count other word ≡ holders count units word
unfolding holders
holders_same count units other word p = sum_by-IsPermutation (λ unit. cond (has count word unit) 1 0) units other p

total_same : (units other : List RankedUnit) → IsPermutation units other → total_length other ≡ total_length units
unfolding total_length
total_same units other p = sum_by-IsPermutation (λ unit. length_of unit.extent) units other p

weighed_same : (h i n m t u f l : ℕ) → h ≡ i → n ≡ m → t ≡ u
    → cond (eqb h 0) 0 (weigh (cond (eqb h 0) 0 (lg n - lg h)) f l n t) ≡ cond (eqb i 0) 0 (weigh (cond (eqb i 0) 0 (lg m - lg i)) f l m u)
weighed_same h i n m t u f l hi nm tu = rw (hi, nm, tu) refl

part_same : {W : Type 0} (count : W → RankedUnit → ℕ) (units other : List RankedUnit) → IsPermutation units other
    → (unit : RankedUnit) (word : W) → part count other unit word ≡ part count units unit word
unfolding part idf_of
part_same count units other p unit word =
    weighed_same _ _ _ _ _ _ _ _ (holders_same count units other word p) (length_permutation units other p) (total_same units other p)

abbrev ranked_as : RankedUnit → ℕ → Ranked
ranked_as unit points = record { score = points; unit = unit }

scored_same : {W : Type 0} (count : W → RankedUnit → ℕ) (units other : List RankedUnit) (words : List W) → IsPermutation units other
    → (unit : RankedUnit) → scored count other words unit ≡ scored count units words unit
unfolding score
scored_same count units other words p unit =
    ap (ranked_as unit) (sum_alike (part count other unit) (part count units unit) (part_same count units other p unit) words)

-- a sum over what a test keeps
sum_kept_more : (f : Ranked → ℕ) (g : RankedUnit → Ranked) (unit : RankedUnit) (units : List RankedUnit) (b : Bool)
    → sum_by f (map g (cond b (unit ∷ units) units)) ≡ cond b (f (g unit)) 0 + sum_by f (map g units)
sum_kept_more f g unit units true = sum_by-cons f (g unit) (map g units)
sum_kept_more f g unit units false = omega arith

sum_kept : (f : Ranked → ℕ) (g : RankedUnit → Ranked) (p : RankedUnit → Bool) (units : List RankedUnit)
    → sum_by f (map g (filter p units)) ≡ sum_by (λ unit. cond (p unit) (f (g unit)) 0) units
sum_kept f g p [] = refl
sum_kept f g p (unit ∷ units) =
    sum_kept_more f g unit (filter p units) (p unit)
    ∙ ap (λ (n : ℕ). cond (p unit) (f (g unit)) 0 + n) (sum_kept f g p units)
    ∙ sym (sum_by-cons (λ unit. cond (p unit) (f (g unit)) 0) unit units)

sum_listed : {W : Type 0} (count : W → RankedUnit → ℕ) (units other : List RankedUnit) (words : List W) → IsPermutation units other
    → (f : Ranked → ℕ) → sum_by f (all_listed count other words) ≡ sum_by f (all_listed count units words)
unfolding all_listed
sum_listed count units other words p f =
    sum_kept f (scored count other words) (holds count words) other
    ∙ sum_by-IsPermutation (λ unit. cond (holds count words unit) (f (scored count other words unit)) 0) units other p
    ∙ sum_alike (λ unit. cond (holds count words unit) (f (scored count other words unit)) 0)
    (λ unit. cond (holds count words unit) (f (scored count units words unit)) 0)
    (λ unit. ap (λ r. cond (holds count words unit) (f r) 0) (scored_same count units other words p unit)) units
    ∙ sym (sum_kept f (scored count units words) (holds count words) units)

-- two lists over which each sum is the same have one order
in_order-same : (xs ys : List Ranked) → ((f : Ranked → ℕ) → sum_by f xs ≡ sum_by f ys) → in_order xs ≡ in_order ys
in_order-same xs ys same =
    let one = in_order-is xs in
    let other = in_order-is ys in
    same_if_sums (in_order xs) (in_order ys) (Ascends-from_sorted _ one.sorted) (Ascends-from_sorted _ other.sorted)
    (λ f. sum_by-IsPermutation f xs (in_order xs) one.same ∙ same f ∙ sym (sum_by-IsPermutation f ys (in_order ys) other.same))

pub listed-IsPermutation : {W : Type 0} (count : W → RankedUnit → ℕ) (units other : List RankedUnit) (words : List W)
    → IsPermutation units other → listed count other words ≡ listed count units words
unfolding listed
listed-IsPermutation count units other words p =
    in_order-same (all_listed count other words) (all_listed count units words) (sum_listed count units other words p)

-- ---- which of them could be among the first

bound_part_same : {W : Type 0} (count : W → RankedUnit → ℕ) (units other : List RankedUnit) → IsPermutation units other
    → (unit : RankedUnit) (word : W) → bound_part count other unit word ≡ bound_part count units unit word
unfolding bound_part idf_of
bound_part_same count units other p unit word =
    ap (λ (idf : ℕ). cond (has count word unit) (22 * idf / 10) 0)
    (idf_alike _ _ _ _ (holders_same count units other word p) (length_permutation units other p))

reaches_same : {W : Type 0} (count : W → RankedUnit → ℕ) (units other : List RankedUnit) (words : List W) (k : ℕ)
    → IsPermutation units other → (unit : RankedUnit) → reaches count other words k unit ≡ reaches count units words k unit
unfolding bound last_score
reaches_same count units other words k p unit =
    ap₂ (λ (least most : ℕ). holds count words unit && leb least most)
    (ap (λ (rs : List Ranked). (ranked_or_none rs (k - 1)).score) (listed-IsPermutation count units other words p))
    (sum_alike (bound_part count other unit) (bound_part count units unit) (bound_part_same count units other p unit) words)

pub length-reaching-IsPermutation : {W : Type 0} (count : W → RankedUnit → ℕ) (units other : List RankedUnit) (words : List W) (k : ℕ)
    → IsPermutation units other → length (reaching count other words k) ≡ length (reaching count units words k)
length-reaching-IsPermutation count units other words k p =
    length-reaching count other words k
    ∙ ap (λ (n : ℕ). cond (eqb k 0) 0 n)
    (sum_by-IsPermutation (λ unit. cond (reaches count other words k unit) 1 0) units other p
    ∙ sum_alike (λ unit. cond (reaches count other words k unit) 1 0) (λ unit. cond (reaches count units words k unit) 1 0)
    (λ unit. ap (λ (b : Bool). cond b 1 0) (reaches_same count units other words k p unit)) units)
    ∙ sym (length-reaching count units words k)
