-- A ranking of units at other places, whose words are counted in another way, is the same ranking there.
use Rattle.std.proofs.Common.{◌≡◌, ℕ, ◌+◌, ◌-◌, ◌<◌, Bool, true, false, cond, ◌||◌, List, [], ◌∷◌, map, refl, sym, ap, ap₂, ◌∙◌, arith, eqb}
use Rattle.std.proofs.Common.{zero, suc, ◌*◌, ◌/◌, ◌&&◌, leb, length}
use Rattle.std.specs.Cmp.{nat_cmp_is}
use Rattle.std.proofs.lemmas.Cmp.{ranked}
use Rattle.std.proofs.lemmas.Map.Lookups.{exact_unsigned}
use Rattle.std.proofs.lemmas.List.{length-map}
use Rattle.std.proofs.lemmas.List.Sums.{sum_by-cons}
use Rattle.std.specs.List.{AllByRecursion, filter, sum_by}
use Rattle.std.specs.Prelude.{count_by, nat_lt}
use Rattle.std.specs.Ordering.{nat_cmp, ordering_then, is_lt, MatchOrdering}
use Rattle.std.specs.declared.cmp.Ordering.{Ordering}
use Rattle.std.specs.declared.cmp.Ordering.TheVariants.{Less, Equal, Greater}
use Rattle.wu_log2.specs.Logarithm.{lg}
use Rattle.wu_rank.specs.declared.results.Unit.{Unit as RankedUnit}
use Rattle.wu_rank.specs.declared.results.Ranked.{Ranked}
use Rattle.wu_rank.specs.Bm25.{weigh}
use Rattle.wu_rank.specs.Scores.{has, holders, idf_of, length_of, total_length, part, score, holds, scored, all_listed}
use Rattle.wu_rank.specs.Order.{compare_ranked, comes_before, in_order, listed}
use Rattle.wu_rank.specs.Choices.{ranked_or_none}
use Rattle.wu_rank.specs.Pruning.{bound_part, bound, last_score, reaching}
use Rattle.wu_rank.proofs.Reached.{idf_alike, reaches, length-reaching}
use Rattle.wu_rank.proofs.Orders.{in_order-map}

-- the unit, where the file at each place starts at some address
abbrev pub shifted : (ℕ → ℕ) → RankedUnit → RankedUnit
shifted start unit = record {
  extent = record { start = start unit.place + unit.extent.start; end = start unit.place + unit.extent.end };
  place = unit.place;
}

abbrev pub shifted_ranked : (ℕ → ℕ) → Ranked → Ranked
shifted_ranked start r = record { score = r.score; unit = shifted start r.unit }

-- each word is as often in the shifted unit as, counted in the other way, in the unit
abbrev pub Agrees : {V W : Type 0} → (V → RankedUnit → ℕ) → (W → RankedUnit → ℕ) → (ℕ → ℕ) → (W → V) → RankedUnit → Type 0
Agrees {V} {W} count other start known unit = (word : W) → count (known word) (shifted start unit) ≡ other word unit

-- ---- scores

count_by-cons : {X : Type 0} (p : X → Bool) (x : X) (xs : List X) → count_by p (x ∷ xs) ≡ cond (p x) 1 0 + count_by p xs
count_by-cons p x xs = sum_by-cons (λ y. cond (p y) 1 0) x xs

holders_same : {V W : Type 0} (count : V → RankedUnit → ℕ) (other : W → RankedUnit → ℕ) (start : ℕ → ℕ) (known : W → V)
    (units : List RankedUnit) (word : W) → AllByRecursion (Agrees count other start known) units
    → holders count (map (shifted start) units) (known word) ≡ holders other units word
unfolding holders
holders_same count other start known [] word agree = refl
holders_same count other start known (unit ∷ units) word agree =
    count_by-cons (has count (known word)) (shifted start unit) (map (shifted start) units)
    ∙ ap₂ (λ (f n : ℕ). cond (nat_lt 0 f) 1 0 + n) (agree.0 word) (holders_same count other start known units word agree.1)
    ∙ sym (count_by-cons (has other word) unit units)

pub length_same : (start : ℕ → ℕ) (unit : RankedUnit) → length_of (shifted start unit).extent ≡ length_of unit.extent
length_same start unit = omega arith

total_same : (start : ℕ → ℕ) (units : List RankedUnit) → total_length (map (shifted start) units) ≡ total_length units
unfolding total_length
total_same start [] = refl
total_same start (unit ∷ units) =
    sum_by-cons (λ (u : RankedUnit). length_of u.extent) (shifted start unit) (map (shifted start) units)
    ∙ ap₂ (λ (m n : ℕ). m + n) (length_same start unit) (total_same start units)
    ∙ sym (sum_by-cons (λ (u : RankedUnit). length_of u.extent) unit units)

weighed_same : (h n t f l i m u g k : ℕ) → h ≡ i → n ≡ m → t ≡ u → f ≡ g → l ≡ k
    → cond (eqb h 0) 0 (weigh (cond (eqb h 0) 0 (lg n - lg h)) f l n t) ≡ cond (eqb i 0) 0 (weigh (cond (eqb i 0) 0 (lg m - lg i)) g k m u)
weighed_same h n t f l i m u g k hi nm tu fg lk = rw (hi, nm, tu, fg, lk) refl

part_same : {V W : Type 0} (count : V → RankedUnit → ℕ) (other : W → RankedUnit → ℕ) (start : ℕ → ℕ) (known : W → V)
    (units : List RankedUnit) (unit : RankedUnit) (word : W) → AllByRecursion (Agrees count other start known) units
    → Agrees count other start known unit
    → part count (map (shifted start) units) (shifted start unit) (known word) ≡ part other units unit word
unfolding part idf_of
part_same count other start known units unit word all agrees =
    weighed_same _ _ _ _ _ _ _ _ _ _ (holders_same count other start known units word all) (length-map units (shifted start))
    (total_same start units) (agrees word) (length_same start unit)

-- what the words have in the one way is what they have in the other, so the sums are the same
sum_same : {V W : Type 0} (f : V → ℕ) (g : W → ℕ) (known : W → V) → ((word : W) → f (known word) ≡ g word) → (words : List W)
    → sum_by f (map known words) ≡ sum_by g words
sum_same f g known same [] = refl
sum_same f g known same (word ∷ words) =
    sum_by-cons f (known word) (map known words) ∙ ap₂ (λ (m n : ℕ). m + n) (same word) (sum_same f g known same words)
    ∙ sym (sum_by-cons g word words)

score_same : {V W : Type 0} (count : V → RankedUnit → ℕ) (other : W → RankedUnit → ℕ) (start : ℕ → ℕ) (known : W → V)
    (units : List RankedUnit) (unit : RankedUnit) (words : List W) → AllByRecursion (Agrees count other start known) units
    → Agrees count other start known unit
    → score count (map (shifted start) units) (map known words) (shifted start unit) ≡ score other units words unit
unfolding score
score_same count other start known units unit words all agrees =
    sum_same (part count (map (shifted start) units) (shifted start unit)) (part other units unit) known
    (λ word. part_same count other start known units unit word all agrees) words

holds_same : {V W : Type 0} (count : V → RankedUnit → ℕ) (other : W → RankedUnit → ℕ) (start : ℕ → ℕ) (known : W → V)
    (unit : RankedUnit) (words : List W) → Agrees count other start known unit
    → holds count (map known words) (shifted start unit) ≡ holds other words unit
unfolding holds
holds_same count other start known unit [] agrees = refl
holds_same count other start known unit (word ∷ words) agrees =
    ap₂ (λ (f : ℕ) (b : Bool). nat_lt 0 f || b) (agrees word) (holds_same count other start known unit words agrees)

listed_more : (f : RankedUnit → Ranked) (g : Ranked → Ranked) (h : RankedUnit → Ranked) (a u : RankedUnit) (us vs : List RankedUnit)
    (b c : Bool) → b ≡ c → f a ≡ g (h u) → map f us ≡ map g (map h vs)
    → map f (cond b (a ∷ us) us) ≡ map g (map h (cond c (u ∷ vs) vs))
listed_more f g h a u us vs true true is first rest = ap₂ (λ (r : Ranked) (rs : List Ranked). r ∷ rs) first rest
listed_more f g h a u us vs false false is first rest = rest
listed_more f g h a u us vs true false is first rest = cc
listed_more f g h a u us vs false true is first rest = cc

some_listed : {V W : Type 0} (count : V → RankedUnit → ℕ) (other : W → RankedUnit → ℕ) (start : ℕ → ℕ) (known : W → V)
    (units : List RankedUnit) (words : List W) (some : List RankedUnit) → AllByRecursion (Agrees count other start known) units
    → AllByRecursion (Agrees count other start known) some
    → map (scored count (map (shifted start) units) (map known words)) (filter (holds count (map known words)) (map (shifted start) some))
    ≡ map (shifted_ranked start) (map (scored other units words) (filter (holds other words) some))
some_listed count other start known units words [] all agree = refl
some_listed count other start known units words (unit ∷ some) all agree =
    let lists = map known words in
    listed_more (scored count (map (shifted start) units) lists) (shifted_ranked start) (scored other units words) (shifted start unit) unit
    (filter (holds count lists) (map (shifted start) some)) (filter (holds other words) some) (holds count lists (shifted start unit))
    (holds other words unit)
    (holds_same count other start known unit words agree.0)
    (ap (λ (n : ℕ). let r : Ranked = record { score = n; unit = shifted start unit } in r)
    (score_same count other start known units unit words all agree.0))
    (some_listed count other start known units words some all agree.1)

-- ---- the order

-- numbers counted from one start
moved_alike : (s t x y : ℕ) → s ≡ t → nat_cmp (s + x) (t + y) ≡ nat_cmp x y
moved_alike s t x y same = nat_cmp_is x y _ (go (nat_cmp (s + x) (t + y)) (ranked (s + x) (t + y) _ refl))
  where
    go : (o : Ordering) → MatchOrdering o (s + x < t + y) (s + x ≡ t + y) (t + y < s + x) → MatchOrdering o (x < y) (x ≡ y) (y < x)
    go Less moved = omega arith
    go Equal moved = omega arith
    go Greater moved = omega arith

-- units of one file stand as before, and others by their places
compare_same : (start : ℕ → ℕ) (a b : Ranked) → compare_ranked (shifted_ranked start a) (shifted_ranked start b) ≡ compare_ranked a b
unfolding compare_ranked
compare_same start a b = by (nat_cmp b.score a.score) (nat_cmp a.unit.place b.unit.place) refl where
  by : (o p : Ordering) → nat_cmp a.unit.place b.unit.place ≡ p
      → ordering_then
      (ordering_then (ordering_then o p)
      (nat_cmp (start a.unit.place + a.unit.extent.start) (start b.unit.place + b.unit.extent.start)))
      (nat_cmp (start a.unit.place + a.unit.extent.end) (start b.unit.place + b.unit.extent.end))
      ≡ ordering_then (ordering_then (ordering_then o p) (nat_cmp a.unit.extent.start b.unit.extent.start))
      (nat_cmp a.unit.extent.end b.unit.extent.end)
  by Less p is = refl
  by Greater p is = refl
  by Equal Less is = refl
  by Equal Greater is = refl
  by Equal Equal is =
      let same : start a.unit.place ≡ start b.unit.place = ap start (exact_unsigned a.unit.place b.unit.place is) in
      ap₂ ordering_then (moved_alike (start a.unit.place) (start b.unit.place) a.unit.extent.start b.unit.extent.start same)
      (moved_alike (start a.unit.place) (start b.unit.place) a.unit.extent.end b.unit.extent.end same)

before_same : (start : ℕ → ℕ) (a b : Ranked) → comes_before (shifted_ranked start a) (shifted_ranked start b) ≡ comes_before a b
unfolding comes_before
before_same start a b = ap is_lt (compare_same start a b)

pub listed_shifted : {V W : Type 0} (count : V → RankedUnit → ℕ) (other : W → RankedUnit → ℕ) (start : ℕ → ℕ) (known : W → V)
    (units : List RankedUnit) (words : List W) → AllByRecursion (Agrees count other start known) units
    → listed count (map (shifted start) units) (map known words) ≡ map (shifted_ranked start) (listed other units words)
unfolding listed all_listed
listed_shifted count other start known units words agree =
    ap in_order (some_listed count other start known units words units agree agree)
    ∙ in_order-map (shifted_ranked start) (before_same start) (map (scored other units words) (filter (holds other words) units))

-- ---- which of them could be among the first

bound_part_same : {V W : Type 0} (count : V → RankedUnit → ℕ) (other : W → RankedUnit → ℕ) (start : ℕ → ℕ) (known : W → V)
    (units : List RankedUnit) (unit : RankedUnit) (word : W) → AllByRecursion (Agrees count other start known) units
    → Agrees count other start known unit
    → bound_part count (map (shifted start) units) (shifted start unit) (known word) ≡ bound_part other units unit word
unfolding bound_part idf_of
bound_part_same count other start known units unit word all agrees =
    ap₂ (λ (f idf : ℕ). cond (nat_lt 0 f) (22 * idf / 10) 0) (agrees word)
    (idf_alike _ _ _ _ (holders_same count other start known units word all) (length-map units (shifted start)))

bound_same : {V W : Type 0} (count : V → RankedUnit → ℕ) (other : W → RankedUnit → ℕ) (start : ℕ → ℕ) (known : W → V)
    (units : List RankedUnit) (unit : RankedUnit) (words : List W) → AllByRecursion (Agrees count other start known) units
    → Agrees count other start known unit
    → bound count (map (shifted start) units) (map known words) (shifted start unit) ≡ bound other units words unit
unfolding bound
bound_same count other start known units unit words all agrees =
    sum_same (bound_part count (map (shifted start) units) (shifted start unit)) (bound_part other units unit) known
    (λ word. bound_part_same count other start known units unit word all agrees) words

score_at : (start : ℕ → ℕ) (rs : List Ranked) (i : ℕ)
    → (ranked_or_none (map (shifted_ranked start) rs) i).score ≡ (ranked_or_none rs i).score
score_at start [] i = refl
score_at start (r ∷ rs) zero = refl
score_at start (r ∷ rs) (suc i) = score_at start rs i

last_same : {V W : Type 0} (count : V → RankedUnit → ℕ) (other : W → RankedUnit → ℕ) (start : ℕ → ℕ) (known : W → V)
    (units : List RankedUnit) (words : List W) (k : ℕ) → AllByRecursion (Agrees count other start known) units
    → last_score count (map (shifted start) units) (map known words) k ≡ last_score other units words k
unfolding last_score
last_same count other start known units words k all =
    ap (λ (rs : List Ranked). (ranked_or_none rs (k - 1)).score) (listed_shifted count other start known units words all)
    ∙ score_at start (listed other units words) (k - 1)

some_reach : {V W : Type 0} (count : V → RankedUnit → ℕ) (other : W → RankedUnit → ℕ) (start : ℕ → ℕ) (known : W → V)
    (units : List RankedUnit) (words : List W) (k : ℕ) (some : List RankedUnit) → AllByRecursion (Agrees count other start known) units
    → AllByRecursion (Agrees count other start known) some
    → count_by (reaches count (map (shifted start) units) (map known words) k) (map (shifted start) some)
    ≡ count_by (reaches other units words k) some
some_reach count other start known units words k [] all agree = refl
some_reach count other start known units words k (unit ∷ some) all agree =
    let here : reaches count (map (shifted start) units) (map known words) k (shifted start unit) ≡ reaches other units words k unit =
    ap₂ (λ (b c : Bool). b && c) (holds_same count other start known unit words agree.0)
    (ap₂ leb (last_same count other start known units words k all) (bound_same count other start known units unit words all agree.0)) in
    count_by-cons (reaches count (map (shifted start) units) (map known words) k) (shifted start unit) (map (shifted start) some)
    ∙ ap₂ (λ (b : Bool) (n : ℕ). cond b 1 0 + n) here (some_reach count other start known units words k some all agree.1)
    ∙ sym (count_by-cons (reaches other units words k) unit some)

pub length-reaching-shifted : {V W : Type 0} (count : V → RankedUnit → ℕ) (other : W → RankedUnit → ℕ) (start : ℕ → ℕ) (known : W → V)
    (units : List RankedUnit) (words : List W) (k : ℕ) → AllByRecursion (Agrees count other start known) units
    → length (reaching count (map (shifted start) units) (map known words) k) ≡ length (reaching other units words k)
length-reaching-shifted count other start known units words k agree =
    length-reaching count (map (shifted start) units) (map known words) k
    ∙ ap (λ (n : ℕ). cond (eqb k 0) 0 n) (some_reach count other start known units words k units agree agree)
    ∙ sym (length-reaching other units words k)
