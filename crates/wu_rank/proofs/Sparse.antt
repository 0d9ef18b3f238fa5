-- Sparse vectors over units: what a sweep appends to one, and what each entry says.
use Rattle.std.proofs.Common.{◌≡◌, ℕ, ◌+◌, ◌-◌, ◌<◌, ◌≤◌, Option, Some, None, cond, ltb, List, [], ◌∷◌, ◌++◌, length, get_or, take, drop}
use Rattle.std.proofs.Common.{map, refl, sym, ap, ap₂, subst, ◌∙◌, append-nil, append_assoc, arith}
use Rattle.std.specs.List.{AllByRecursion}
use Rattle.std.proofs.lemmas.List.{length-append, get_or_at, take-append-drop}
use Rattle.wu_rank.specs.declared.entries.Entry.{Entry}
use Rattle.wu_rank.specs.declared.results.Unit.{Unit as RankedUnit}
use Rattle.wu_rank.specs.Scores.{frequency}
use Rattle.wu_rank.specs.Sweeps.{AscendFrom, UnitsAscend}
use Rattle.wu_rank.specs.Entries.{with_entry, entries, times_in, unit_at}
use Rattle.wu_rank.proofs.Ascending.{ascend-take, starts_from_first}
use Rattle.wu_rank.proofs.Counts.{after-none, counted, frequency-later, times-none}

-- one more entry, and then others
pub with_entry-append : (place : ℕ) (value : Option ℕ) (xs ys : List Entry)
    → xs ++ with_entry place value ys ≡ (xs ++ with_entry place value []) ++ ys
with_entry-append place None xs ys = ap (λ (l : List Entry). l ++ ys) (sym (append-nil xs))
with_entry-append place (Some v) xs ys = sym (append_assoc xs (record { unit = place; value = v } ∷ []) ys)

with_entry-prepend : (place : ℕ) (value : Option ℕ) (xs ys : List Entry)
    → with_entry place value (xs ++ ys) ≡ with_entry place value xs ++ ys
with_entry-prepend place None xs ys = refl
with_entry-prepend place (Some v) xs ys = refl

-- the units of a run, and those behind it
pub entries-append : (f : RankedUnit → Option ℕ) (end : ℕ) (us vs : List RankedUnit)
    → entries f end (us ++ vs) ≡ entries f (end - length vs) us ++ entries f end vs
entries-append f end [] vs = refl
entries-append f end (u ∷ us) vs =
    let same : end - length (u ∷ us ++ vs) ≡ end - length vs - length (u ∷ us) = omega (arith, length-append us vs) in
    ap₂ (λ (place : ℕ) (rest : List Entry). with_entry place (f u) rest) same (entries-append f end us vs)
    ∙ with_entry-prepend (end - length vs - length (u ∷ us)) (f u) (entries f (end - length vs) us) (entries f end vs)

pub entries-same : (f g : RankedUnit → Option ℕ) (end : ℕ) (us : List RankedUnit) → AllByRecursion (λ u. f u ≡ g u) us
    → entries f end us ≡ entries g end us
entries-same f g end [] a = refl
entries-same f g end (u ∷ us) a =
    ap₂ (λ (o : Option ℕ) (rest : List Entry). with_entry (end - length (u ∷ us)) o rest) a.0 (entries-same f g end us a.1)

pub entries-agree : (f g : RankedUnit → Option ℕ) → ((u : RankedUnit) → f u ≡ g u) → (end : ℕ) (us : List RankedUnit)
    → entries f end us ≡ entries g end us
entries-agree f g h end [] = refl
entries-agree f g h end (u ∷ us) =
    ap₂ (λ (o : Option ℕ) (rest : List Entry). with_entry (end - length (u ∷ us)) o rest) (h u) (entries-agree f g h end us)

-- units without a value leave no entry
entries-none : (f : RankedUnit → Option ℕ) (end : ℕ) (us vs : List RankedUnit) → AllByRecursion (λ u. f u ≡ None) us
    → entries f end vs ≡ entries f end (us ++ vs)
entries-none f end [] vs a = refl
entries-none f end (u ∷ us) vs a = rw a.0 (entries-none f end us vs a.1)

-- ---- a sweep

all_later : (first : ℕ) (u : RankedUnit) (xs : List ℕ) → u.extent.end < first → AllByRecursion (λ x. first ≤ x) xs
    → AllByRecursion (λ x. u.extent.end < x) xs
all_later first u [] l a = tt
all_later first u (x ∷ xs) l a = (omega (arith, a.0), all_later first u xs l a.1)

all_without : (first : ℕ) (xs : List ℕ) (us : List RankedUnit) → AllByRecursion (λ x. first ≤ x) xs
    → AllByRecursion (λ u. u.extent.end < first) us → AllByRecursion (λ u. times_in xs u ≡ None) us
all_without first xs [] a e = tt
all_without first xs (u ∷ us) a e =
    (times-none xs u (after-none u.extent xs (all_later first u xs e.0 a)), all_without first xs us a e.1)

-- units that end before all of the addresses hold none of them
pub skip_units : (first : ℕ) (xs : List ℕ) (n end : ℕ) (us : List RankedUnit) → AllByRecursion (λ x. first ≤ x) xs
    → AllByRecursion (λ u. u.extent.end < first) (take n us) → entries (times_in xs) end (drop n us) ≡ entries (times_in xs) end us
skip_units first xs n end us a e =
    entries-none (times_in xs) end (take n us) (drop n us) (all_without first xs (take n us) a e)
    ∙ ap (entries (times_in xs) end) (take-append-drop n us)

pub no_addresses : (xs : List ℕ) (end : ℕ) (us : List RankedUnit) → length xs < 1 → [] ≡ entries (times_in xs) end us
no_addresses [] end [] l = refl
no_addresses [] end (u ∷ us) l = rw (times-none [] u (after-none u.extent [] tt)) (no_addresses [] end us l)
no_addresses (x ∷ xs) end us l = absurd (omega arith)

times-later : (limit : ℕ) (before xs : List ℕ) (us : List RankedUnit) → AllByRecursion (λ x. x < limit) before
    → AllByRecursion (λ u. limit ≤ u.extent.start) us → AllByRecursion (λ u. times_in (before ++ xs) u ≡ times_in xs u) us
times-later limit before xs [] b s = tt
times-later limit before xs (u ∷ us) b s = (rw (frequency-later u.extent limit before xs s.0 b) refl, times-later limit before xs us b s.1)

-- without the addresses below the start of the first unit, all units hold the word as often
pub skip_addresses : (limit end : ℕ) (before xs all : List ℕ) (us : List RankedUnit) → before ++ xs ≡ all
    → AllByRecursion (λ x. x < limit) before → AllByRecursion (λ u. limit ≤ u.extent.start) us
    → entries (times_in all) end us ≡ entries (times_in xs) end us
skip_addresses limit end before xs all us e b s =
    ap (λ (l : List ℕ). entries (times_in l) end us) (sym e)
    ∙ entries-same (times_in (before ++ xs)) (times_in xs) end us (times-later limit before xs us b s)

-- one unit: the addresses before it go, those up to its end are counted, and the others are left to the later units
pub sweep_first : (left later : List RankedUnit) (d : RankedUnit) (before rest all : List ℕ) (n end place : ℕ) → 0 < length left
    → later ≡ drop 1 left → UnitsAscend left → before ++ rest ≡ all → AllByRecursion (λ x. x < (get_or left 0 d).extent.start) before
    → AscendFrom (get_or left 0 d).extent.start rest → n ≤ length rest
    → AllByRecursion (λ x. x ≤ (get_or left 0 d).extent.end) (take n rest)
    → AllByRecursion (λ x. (get_or left 0 d).extent.end < x) (drop n rest) → place ≡ end - length left
    → entries (times_in all) end left ≡ with_entry place (cond (ltb 0 n) (Some n) None) (entries (times_in rest) end later)
sweep_first [] later d before rest all n end place l m o e b a w i t p = absurd (omega arith)
sweep_first (u ∷ us) later d before rest all n end place l m o e b a w i t p =
    let times : frequency u.extent rest ≡ n = counted u.extent rest n w a i t (ascend-take n u.extent.start rest a) in
    skip_addresses u.extent.start end before rest all (u ∷ us) e b (starts_from_first (u ∷ us) d o)
    ∙ ap (λ (k : ℕ). with_entry (end - length (u ∷ us)) (cond (ltb 0 k) (Some k) None) (entries (times_in rest) end us)) times
    ∙ ap₂ (λ (k : ℕ) (vs : List RankedUnit). with_entry k (cond (ltb 0 n) (Some n) None) (entries (times_in rest) end vs)) (sym p) (sym m)

-- ---- what an entry says

pub place_of : (units front us : List RankedUnit) (u : RankedUnit) → units ≡ front ++ u ∷ us
    → (length units - length (u ∷ us) ≡ length front) × (unit_at units (length units - length (u ∷ us)) ≡ u)
place_of units front us u e =
    let total : length units ≡ length front + length (u ∷ us) = ap length e ∙ length-append front (u ∷ us) in
    let place : length units - length (u ∷ us) ≡ length front = omega (arith, total) in
    let d : RankedUnit = record { extent = record { start = 0; end = 0 }; place = 0 } in
    (place, ap₂ unit_at e place ∙ get_or_at front u us d (length front) refl)

module _ (units : List RankedUnit) (f : RankedUnit → Option ℕ) where
  all_with_entry : (P : Entry → Type 0) (place : ℕ) (value : Option ℕ) (rest : List Entry)
      → ((v : ℕ) → value ≡ Some v → P (record { unit = place; value = v })) → AllByRecursion P rest
      → AllByRecursion P (with_entry place value rest)
  all_with_entry P place None rest h a = a
  all_with_entry P place (Some v) rest h a = (h v refl, a)

  some_hold : (P : Entry → Type 0) (front us : List RankedUnit) → units ≡ front ++ us
      → ((place v : ℕ) → place < length units → f (unit_at units place) ≡ Some v → P (record { unit = place; value = v }))
      → AllByRecursion P (entries f (length units) us)
  some_hold P front [] e h = tt
  some_hold P front (u ∷ us) e h =
      let found = place_of units front us u e in
      let total : length units ≡ length front + length (u ∷ us) = ap length e ∙ length-append front (u ∷ us) in
      all_with_entry P (length units - length (u ∷ us)) (f u) (entries f (length units) us)
      (λ v s. h (length units - length (u ∷ us)) v (omega (arith, total)) (ap f found.1 ∙ s))
      (some_hold P (front ++ u ∷ []) us (e ∙ sym (append_assoc front (u ∷ []) us)) h)

  -- what holds of each unit's entry
  pub all_hold : (P : Entry → Type 0)
      → ((place v : ℕ) → place < length units → f (unit_at units place) ≡ Some v → P (record { unit = place; value = v }))
      → AllByRecursion P (entries f (length units) units)
  all_hold P h = some_hold P [] units refl h

  map_with_entry : {Y : Type 0} (h : Entry → Y) (place : ℕ) (value : Option ℕ) (rest : List Entry)
      → map h (with_entry place value rest) ≡ map h (with_entry place value []) ++ map h rest
  map_with_entry h place None rest = refl
  map_with_entry h place (Some v) rest = refl

  some_mapped : (h : Entry → Entry) (g : RankedUnit → Option ℕ) (front us : List RankedUnit) → units ≡ front ++ us
      → ((place : ℕ) → place < length units
      → map h (with_entry place (f (unit_at units place)) []) ≡ with_entry place (g (unit_at units place)) [])
      → map h (entries f (length units) us) ≡ entries g (length units) us
  some_mapped h g front [] e each = refl
  some_mapped h g front (u ∷ us) e each =
      let place : ℕ = length units - length (u ∷ us) in
      let found = place_of units front us u e in
      let total : length units ≡ length front + length (u ∷ us) = ap length e ∙ length-append front (u ∷ us) in
      let here : map h (with_entry place (f u) []) ≡ with_entry place (g u) [] =
      subst (λ (v : RankedUnit). map h (with_entry place (f v) []) ≡ with_entry place (g v) []) found.1
      (each place (omega (arith, total))) in
      map_with_entry h place (f u) (entries f (length units) us)
      ∙ ap₂ ◌++◌ here (some_mapped h g (front ++ u ∷ []) us (e ∙ sym (append_assoc front (u ∷ []) us)) each)
      ∙ sym (with_entry-prepend place (g u) [] (entries g (length units) us))

  -- a change of each entry to that of another value
  pub all_mapped : (h : Entry → Entry) (g : RankedUnit → Option ℕ)
      → ((place : ℕ) → place < length units
      → map h (with_entry place (f (unit_at units place)) []) ≡ with_entry place (g (unit_at units place)) [])
      → map h (entries f (length units) units) ≡ entries g (length units) units
  all_mapped h g each = some_mapped h g [] units refl each

  -- a value of another kind for each unit, at its entry
  some_listed : {Y : Type 0} (h : Entry → Y) (k : List RankedUnit → List Y) (front us : List RankedUnit) → units ≡ front ++ us
      → ([] ≡ k []) → ((place : ℕ) (rest : List RankedUnit) → place < length units
      → map h (with_entry place (f (unit_at units place)) []) ++ k rest ≡ k (unit_at units place ∷ rest))
      → map h (entries f (length units) us) ≡ k us
  some_listed {Y} h k front [] e none each = none
  some_listed {Y} h k front (u ∷ us) e none each =
      let place : ℕ = length units - length (u ∷ us) in
      let found = place_of units front us u e in
      let total : length units ≡ length front + length (u ∷ us) = ap length e ∙ length-append front (u ∷ us) in
      map_with_entry h place (f u) (entries f (length units) us)
      ∙ ap (λ (l : List Y). map h (with_entry place (f u) []) ++ l)
      (some_listed h k (front ++ u ∷ []) us (e ∙ sym (append_assoc front (u ∷ []) us)) none each)
      ∙ subst (λ (v : RankedUnit). map h (with_entry place (f v) []) ++ k us ≡ k (v ∷ us)) found.1 (each place us (omega (arith, total)))

  pub all_listed_by : {Y : Type 0} (h : Entry → Y) (k : List RankedUnit → List Y) → ([] ≡ k [])
      → ((place : ℕ) (rest : List RankedUnit) → place < length units
      → map h (with_entry place (f (unit_at units place)) []) ++ k rest ≡ k (unit_at units place ∷ rest))
      → map h (entries f (length units) units) ≡ k units
  all_listed_by h k none each = some_listed h k [] units refl none each
