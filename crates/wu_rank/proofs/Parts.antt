-- What a word adds to a unit's score, and the scores for some words and for others.
use Rattle.std.proofs.Common.{◌≡◌, ◌==◌, ℕ, zero, suc, ◌+◌, ◌-◌, ◌*◌, ◌^◌, ◌<◌, ◌≤◌, Bool, true, false, cond, eqb, ltb, ◌||◌, Option, Some}
use Rattle.std.proofs.Common.{None, List, [], ◌∷◌, length, get_or, take, map, ◌++◌, refl, sym, subst, ap, ap₂, ◌∙◌, inr, ⊎_elim, arith}
use Rattle.std.specs.List.{AllByRecursion, list_any, filter}
use Rattle.std.proofs.lemmas.Bool.{cases_lt, lt-ltb, ltb-false, or_parts}
use Rattle.std.proofs.lemmas.List.Sums.{get_or-le-sum_by, count_by-le-length, sum_by_more, sum_by-cons, sum_by-append}
use Rattle.std.proofs.lemmas.List.{length-map, take_at}
use Rattle.std.proofs.lemmas.List.Folds.{list_any-append}
use Rattle.std.proofs.Math.Nat.{add-zero}
use Rattle.std.proofs.Math.Dec.{eqb-suc-zero}
use Rattle.wu_base.specs.declared.addresses.TermList.{TermList}
use Rattle.wu_log2.specs.Logarithm.{lg}
use Rattle.wu_rank.specs.declared.entries.Entry.{Entry}
use Rattle.wu_rank.specs.declared.results.Unit.{Unit as RankedUnit}
use Rattle.wu_rank.specs.declared.results.Ranked.{Ranked}
use Rattle.wu_rank.specs.Bm25.{weigh}
use Rattle.wu_rank.specs.Entries.{with_entry, entries, times_in, unit_at, IsWithin, weighed, ranked_at, sparse_sum}
use Rattle.wu_rank.specs.Scores.{has, count_at, frequency, holders, idf_of, length_of, total_length, part, score, holds, scored}
use Rattle.wu_rank.specs.Scores.{score_if_listed, all_listed}
use Rattle.wu_rank.specs.Sweeps.{AscendFrom}
use Rattle.wu_rank.proofs.Counts.{frequency-le, times-some, times-none}
use Rattle.wu_rank.proofs.Sparse.{all_hold, all_mapped, all_listed_by, entries-agree}
use Rattle.wu_rank.proofs.Sums.{sum_of, sum-entries, sum-small}
use Rattle.wu_rank.proofs.Weights.{weigh-zero, weigh-lt}

pub positive-eqb : (n : ℕ) → 0 < n → (n == 0) ≡ false
positive-eqb zero h = absurd (omega arith)
positive-eqb (suc n) h = eqb-suc-zero n

-- ---- how many units hold a word

pub length-times : (list : TermList) (end : ℕ) (us : List RankedUnit)
    → length (entries (times_in list.at) end us) ≡ holders count_at us list
unfolding holders
length-times list end [] = refl
length-times list end (u ∷ us) =
    one_more (ltb 0 (frequency u.extent list.at)) (end - length (u ∷ us)) (frequency u.extent list.at) (entries (times_in list.at) end us)
    ∙ ap (λ (n : ℕ). cond (ltb 0 (frequency u.extent list.at)) 1 0 + n) (length-times list end us)
    ∙ sym (sum_by-cons (λ v. cond (has count_at list v) 1 0) u us)
  where
    one_more : (b : Bool) (place n : ℕ) (rest : List Entry)
        → length (with_entry place (cond b (Some n) None) rest) ≡ cond b 1 0 + length rest
    one_more true place n rest = omega arith
    one_more false place n rest = omega arith

pub holders-le : (list : TermList) (units : List RankedUnit) → holders count_at units list ≤ length units
unfolding holders
holders-le list units = count_by-le-length (has count_at list) units

pub idf-is : (units : List RankedUnit) (list : TermList) (held all idf : ℕ) → held ≡ holders count_at units list → all ≡ length units
    → idf ≡ cond (eqb held 0) 0 (lg all - lg held) → idf ≡ idf_of count_at units list
unfolding idf_of
idf-is units list held all idf e f g = g ∙ ap₂ (λ (h a : ℕ). cond (eqb h 0) 0 (lg a - lg h)) e f

-- ---- a word's part of a score

holders-positive : (word : TermList) (units : List RankedUnit) (i : ℕ) (d : RankedUnit) → i < length units
    → 0 < count_at word (get_or units i d) → 0 < holders count_at units word
unfolding holders
holders-positive word units i d l h =
    let one : ◌≡◌ {A = ℕ} (cond (has count_at word (get_or units i d)) 1 0) 1 = ap (λ b. cond b 1 0) (lt-ltb _ _ h) in
    let within : cond (has count_at word (get_or units i d)) 1 0 ≤ holders count_at units word =
    get_or-le-sum_by (λ u. cond (has count_at word u) 1 0) units i d l in
    omega (arith, one, within)

-- a word that the unit holds adds its weight
pub part-some : (units : List RankedUnit) (unit : RankedUnit) (word : TermList) → 0 < holders count_at units word
    → weigh (idf_of count_at units word) (count_at word unit) (length_of unit.extent) (length units) (total_length units)
    ≡ part count_at units unit word
unfolding part
part-some units unit word h = rw (positive-eqb (holders count_at units word) h) refl

-- a word that it does not hold adds nothing
pub part-nothing : (units : List RankedUnit) (unit : RankedUnit) (word : TermList) → count_at word unit ≡ 0
    → part count_at units unit word ≡ 0
unfolding part
part-nothing units unit word e =
    ⊎_elim
    (λ (h : 0 < holders count_at units word). rw (positive-eqb (holders count_at units word) h) (weigh-zero _ _ _ _ _ (inr e)))
    (λ (h : holders count_at units word ≤ 0). let none : holders count_at units word ≡ 0 = omega arith in rw none refl)
    (cases_lt 0 (holders count_at units word))

score-one : (units : List RankedUnit) (unit : RankedUnit) (word : TermList)
    → score count_at units (word ∷ []) unit ≡ part count_at units unit word
unfolding score
score-one units unit word = sum_by-cons (part count_at units unit) word [] ∙ add-zero (part count_at units unit word)

listed-one : (units : List RankedUnit) (unit : RankedUnit) (word : TermList) → 0 < count_at word unit
    → score_if_listed count_at units (word ∷ []) unit ≡ Some (part count_at units unit word)
unfolding holds
listed-one units unit word h = rw (lt-ltb 0 (count_at word unit) h) (ap Some (score-one units unit word))

unlisted-one : (units : List RankedUnit) (unit : RankedUnit) (word : TermList) → count_at word unit ≡ 0
    → score_if_listed count_at units (word ∷ []) unit ≡ None
unfolding holds
unlisted-one units unit word e = rw e refl

-- the weights in place of the counts are what the word adds
pub weights_are : (units : List RankedUnit) (list : TermList) (idf n t : ℕ) → idf ≡ idf_of count_at units list
    → (0 < length units → (n ≡ length units) × (t ≡ total_length units))
    → map (weighed units idf n t) (entries (times_in list.at) (length units) units)
    ≡ entries (score_if_listed count_at units (list ∷ [])) (length units) units
weights_are units list idf n t e s =
    all_mapped units (times_in list.at) (weighed units idf n t) (score_if_listed count_at units (list ∷ [])) (λ place l. at_place place l)
  where
    at_place : (place : ℕ) → place < length units
        → map (weighed units idf n t) (with_entry place (times_in list.at (unit_at units place)) [])
        ≡ with_entry place (score_if_listed count_at units (list ∷ []) (unit_at units place)) []
    at_place place l =
        let d : RankedUnit = record { extent = record { start = 0; end = 0 }; place = 0 } in
        let unit : RankedUnit = unit_at units place in
        let stat = s (omega arith) in
        ⊎_elim
        (λ (h : 0 < count_at list unit).
        let weight : weigh idf (count_at list unit) (length_of unit.extent) n t ≡ part count_at units unit list =
        rw (e, stat.0, stat.1) (part-some units unit list (holders-positive list units place d l h)) in
        ap (λ (o : Option ℕ). map (weighed units idf n t) (with_entry place o [])) (times-some list.at unit (count_at list unit) refl h)
        ∙ ap (λ (v : ℕ). with_entry place (Some v) []) weight
        ∙ sym (ap (λ (o : Option ℕ). with_entry place o []) (listed-one units unit list h)))
        (λ (h : count_at list unit ≤ 0).
        ap (λ (o : Option ℕ). map (weighed units idf n t) (with_entry place o [])) (times-none list.at unit (omega arith))
        ∙ sym (ap (λ (o : Option ℕ). with_entry place o []) (unlisted-one units unit list (omega arith))))
        (cases_lt 0 (count_at list unit))

-- the same of a vector that is written over
pub weights_kept : (units : List RankedUnit) (idf n t kept : ℕ) (weights rest counts : List Entry) (xs : List ℕ) → length weights ≡ kept
    → weights ≡ map (weighed units idf n t) counts → counts ≡ entries (times_in xs) (length units) units
    → take kept (weights ++ rest) ≡ map (weighed units idf n t) (entries (times_in xs) (length units) units)
weights_kept units idf n t kept weights rest counts xs l e f =
    take_at weights rest kept l ∙ e ∙ ap (λ (es : List Entry). map (weighed units idf n t) es) f

pub weights-small : (units : List RankedUnit) (idf n t : ℕ) (counts : List Entry) → idf ≤ 2 ^ 22
    → AllByRecursion (λ e. e.value ≤ 2 ^ 24) (map (weighed units idf n t) counts)
weights-small units idf n t [] l = tt
weights-small units idf n t (c ∷ cs) l =
    let w : weigh idf c.value (length_of (unit_at units c.unit).extent) n t < 2 ^ 24 = weigh-lt idf c.value _ n t l in
    (omega arith, weights-small units idf n t cs l)

-- each count is of addresses of a unit
pub counts_within : (units : List RankedUnit) (xs : List ℕ) → AscendFrom 0 xs
    → AllByRecursion (IsWithin units) (entries (times_in xs) (length units) units)
counts_within units xs a =
    all_hold units (times_in xs) (IsWithin units)
    (λ place v l s.
    let count : v ≡ frequency (unit_at units place).extent xs = counted_as (ltb 0 (frequency (unit_at units place).extent xs)) _ v s in
    (l, omega (arith, count, frequency-le (unit_at units place).extent xs a)))
  where
    counted_as : (b : Bool) (n v : ℕ) → cond b (Some n) None ≡ Some v → v ≡ n
    counted_as true n v s = cc
    counted_as false n v s = cc

-- ---- the scores for some words, and for others

score-nothing : (units : List RankedUnit) (unit : RankedUnit) (words : List TermList) → holds count_at words unit ≡ false
    → score count_at units words unit ≡ 0
unfolding score holds
score-nothing units unit [] h = refl
score-nothing units unit (word ∷ words) h =
    let parts = or_parts (ltb 0 (count_at word unit)) (list_any (λ w. has count_at w unit) words) h in
    let none : count_at word unit ≤ 0 = ltb-false 0 (count_at word unit) parts.0 in
    sum_by-cons (part count_at units unit) word words
    ∙ ap₂ (λ (m n : ℕ). m + n) (part-nothing units unit word (omega arith)) (score-nothing units unit words parts.1)

score-append : (units : List RankedUnit) (unit : RankedUnit) (some others : List TermList)
    → score count_at units (some ++ others) unit ≡ score count_at units some unit + score count_at units others unit
unfolding score
score-append units unit some others = sum_by-append (part count_at units unit) some others

pub holds-append : (unit : RankedUnit) (some others : List TermList)
    → holds count_at (some ++ others) unit ≡ (holds count_at some unit || holds count_at others unit)
unfolding holds
holds-append unit some others = list_any-append (λ word. has count_at word unit) some others

pub sum_of-scores : (units : List RankedUnit) (some others : List TermList) (unit : RankedUnit)
    → sum_of (score_if_listed count_at units some unit) (score_if_listed count_at units others unit)
    ≡ score_if_listed count_at units (some ++ others) unit
sum_of-scores units some others unit =
    by (holds count_at some unit) (holds count_at others unit) _ _ (score-nothing units unit some) (score-nothing units unit others)
    ∙ sym (ap₂ (λ (b : Bool) (n : ℕ). cond b (Some n) None) (holds-append unit some others) (score-append units unit some others))
  where
    by : (b c : Bool) (m n : ℕ) → (b ≡ false → m ≡ 0) → (c ≡ false → n ≡ 0)
        → sum_of (cond b (Some m) None) (cond c (Some n) None) ≡ cond (b || c) (Some (m + n)) None
    by true true m n h k = refl
    by true false m n h k = ap Some (omega (arith, k refl))
    by false true m n h k = ap Some (omega (arith, h refl))
    by false false m n h k = refl

pub no_words : (units : List RankedUnit) (lists : List TermList) (end : ℕ) (us : List RankedUnit) → length lists < 1
    → [] ≡ entries (score_if_listed count_at units lists) end us
unfolding holds
no_words units [] end [] l = refl
no_words units [] end (u ∷ us) l = no_words units [] end us l
no_words units (list ∷ lists) end us l = absurd (omega arith)

pub summed_scores : (units : List RankedUnit) (lists some others : List TermList) (one other sum : List Entry)
    → one ≡ entries (score_if_listed count_at units some) (length units) units
    → other ≡ entries (score_if_listed count_at units others) (length units) units → some ++ others ≡ lists → sum ≡ sparse_sum one other
    → sum ≡ entries (score_if_listed count_at units lists) (length units) units
summed_scores units lists some others one other sum a b w e =
    e
    ∙ ap₂ sparse_sum a b
    ∙ sum-entries (score_if_listed count_at units some) (score_if_listed count_at units others) (length units) units (omega arith)
    ∙ entries-agree (λ u. sum_of (score_if_listed count_at units some u) (score_if_listed count_at units others u))
    (score_if_listed count_at units (some ++ others)) (sum_of-scores units some others) (length units) units
    ∙ ap (λ (ls : List TermList). entries (score_if_listed count_at units ls) (length units) units) w

-- ---- how large scores are

pub summed_small : (i j n : ℕ) (one other sum : List Entry) → i + j ≡ n → sum ≡ sparse_sum one other
    → AllByRecursion (λ e. e.value ≤ i * 2 ^ 24) one → AllByRecursion (λ e. e.value ≤ j * 2 ^ 24) other
    → AllByRecursion (λ e. e.value ≤ n * 2 ^ 24) sum
summed_small i j n one other sum t e a b =
    let both : i * 2 ^ 24 + j * 2 ^ 24 ≡ n * 2 ^ 24 = omega (arith, t) in
    rw e
    (subst (λ (m : ℕ). AllByRecursion (λ (r : Entry). r.value ≤ m) (sparse_sum one other)) both
    (sum-small (i * 2 ^ 24) (j * 2 ^ 24) one other a b))

pub far_below : (n : ℕ) (xs : List Entry) → n ≤ 64 → AllByRecursion (λ e. e.value ≤ n * 2 ^ 24) xs
    → AllByRecursion (λ e. e.value < 2 ^ 63) xs
far_below n [] l a = tt
far_below n (x ∷ xs) l a = (omega (arith, a.0), far_below n xs l a.1)

-- ---- the listed units

pub ranked_are : (units : List RankedUnit) (lists : List TermList)
    → map (ranked_at units) (entries (score_if_listed count_at units lists) (length units) units) ≡ all_listed count_at units lists
unfolding all_listed
ranked_are units lists =
    all_listed_by units (score_if_listed count_at units lists) (ranked_at units)
    (λ us. map (scored count_at units lists) (filter (holds count_at lists) us)) refl
    (λ place rest l. by (holds count_at lists (unit_at units place)) place (unit_at units place)
    (score count_at units lists (unit_at units place)) rest refl refl)
  where
    by : (b : Bool) (place : ℕ) (unit : RankedUnit) (points : ℕ) (rest : List RankedUnit) → unit ≡ unit_at units place
        → points ≡ score count_at units lists unit
        → map (ranked_at units) (with_entry place (cond b (Some points) None) [])
        ++ map (scored count_at units lists) (filter (holds count_at lists) rest)
        ≡ map (scored count_at units lists) (cond b (unit ∷ filter (holds count_at lists) rest) (filter (holds count_at lists) rest))
    by true place unit points rest e f =
        ap₂ (λ (n : ℕ) (u : RankedUnit). let r : Ranked = record { score = n; unit = u } in
        r ∷ map (scored count_at units lists) (filter (holds count_at lists) rest)) f (sym e)
    by false place unit points rest e f = refl

pub length-listed : (units : List RankedUnit) (lists : List TermList)
    → length (entries (score_if_listed count_at units lists) (length units) units) ≡ length (all_listed count_at units lists)
length-listed units lists =
    sym (length-map (entries (score_if_listed count_at units lists) (length units) units) (ranked_at units))
    ∙ ap length (ranked_are units lists)

pub listed_within : (units : List RankedUnit) (f : RankedUnit → Option ℕ)
    → AllByRecursion (λ e. e.unit < length units) (entries f (length units) units)
listed_within units f = all_hold units f (λ e. e.unit < length units) (λ place v l s. l)

-- ---- the summed length, of the first i units

pub summed_more : (units : List RankedUnit) (i : ℕ) (d : RankedUnit) (sum length_at : ℕ) → i < length units
    → sum ≡ total_length (take i units) → length_at ≡ length_of (get_or units i d).extent
    → sum + length_at ≡ total_length (take (i + 1) units)
unfolding total_length
summed_more units i d sum length_at l e f =
    ap₂ (λ (a b : ℕ). a + b) e f ∙ sym (sum_by_more (λ unit. length_of unit.extent) units i d l)
