-- The frames in which one of some addresses lies.
use Rattle.std.proofs.Common.{◌≡◌, ℕ, zero, suc, ◌+◌, ◌<◌, ◌≤◌, Bool, true, false, cond, ◌||◌, List, [], ◌∷◌, length, get_or, refl, sym, ap}
use Rattle.std.proofs.Common.{arith, leb, ltb, nat_le, leb-true, leb-false, le-leb, lt-ltb, ltb-true}
use Rattle.std.specs.Prelude.{filter}
use Rattle.std.specs.List.{list_any, AllByRecursion}
use Rattle.std.proofs.lemmas.Bool.{false_from_ne_true, and_parts, and_from, or_left}
use Rattle.std.proofs.lemmas.List.Elements.{All-from_recursion}
use Rattle.wu_base.specs.declared.addresses.Range.{Range}
use Rattle.wu_solve.specs.Frames.{is_place_of, has_one_of, EndsAfter}
use Rattle.wu_base.specs.Ranges.{AreApart}
use Rattle.std.specs.List.Sorted.{IsStrictlyIncreasing}
use Rattle.wu_solve.proofs.Numbers.{kept_from, increasing_not_below}

-- a test that all addresses fail
any_none : (p : ℕ → Bool) (xs : List ℕ) → ((k : ℕ) → k < length xs → p (get_or xs k 0) ≡ false) → list_any p xs ≡ false
any_none p [] fails = refl
any_none p (x ∷ xs) fails = rw (fails 0 (omega arith), any_none p xs (λ k within. fails (suc k) (omega arith))) refl

any_kept : (p : ℕ → Bool) (bound x : ℕ) (xs : List ℕ) (test : Bool) → nat_le bound x ≡ test → (x < bound → p x ≡ false)
    → list_any p (filter (λ a. nat_le bound a) xs) ≡ list_any p xs
    → list_any p (cond test (x ∷ filter (λ a. nat_le bound a) xs) (filter (λ a. nat_le bound a) xs)) ≡ list_any p (x ∷ xs)
any_kept p bound x xs true is fails more = ap (λ (b : Bool). p x || b) more
any_kept p bound x xs false is fails more = let low : x < bound = leb-false bound x is in rw (fails low) more

-- addresses that are passed over, where all of them fail
any_passed : (p : ℕ → Bool) (bound : ℕ) (xs : List ℕ) → ((k : ℕ) → k < length xs → get_or xs k 0 < bound → p (get_or xs k 0) ≡ false)
    → list_any p (filter (λ a. nat_le bound a) xs) ≡ list_any p xs
any_passed p bound [] fails = refl
any_passed p bound (x ∷ xs) fails =
    any_kept p bound x xs (nat_le bound x) refl (fails 0 (omega arith)) (any_passed p bound xs (λ k within. fails (suc k) (omega arith)))

outside_low : (f : Range) (a : ℕ) → a < f.start → is_place_of f a ≡ false
outside_low f a low = false_from_ne_true _ (λ is.
    let c = and_parts (leb f.start a) (ltb a (f.start + f.len)) is in let first = leb-true f.start a c.0 in omega arith)

outside_high : (f : Range) (a : ℕ) → f.start + f.len ≤ a → is_place_of f a ≡ false
outside_high f a high = false_from_ne_true _ (λ is.
    let c = and_parts (leb f.start a) (ltb a (f.start + f.len)) is in let last = ltb-true a (f.start + f.len) c.1 in omega arith)

abbrev AllFrom : ℕ → List ℕ → Type 0
AllFrom bound xs = (k : ℕ) → k < length xs → bound ≤ get_or xs k 0

-- none from the frame's end on
pub none_behind : (f : Range) (xs : List ℕ) → AllFrom (f.start + f.len) xs → has_one_of xs f ≡ false
none_behind f xs from = any_none (is_place_of f) xs (λ k within. outside_high f (get_or xs k 0) (from k within))

-- those before the frame don't count
pub none_before : (f : Range) (bound : ℕ) (xs : List ℕ) → bound ≤ f.start → has_one_of (filter (λ a. nat_le bound a) xs) f ≡ has_one_of xs f
none_before f bound xs low = any_passed (is_place_of f) bound xs (λ k within less. outside_low f (get_or xs k 0) (omega arith))

fewer_frames : (f : Range) (frames : List Range) (place p : ℕ) → EndsAfter (f ∷ frames) place (suc p) → EndsAfter frames place p
fewer_frames f frames place p ends = record {
  within = omega (arith, ends.within);
  before = λ k d less. ends.before (suc k) d (omega arith);
  after = λ k d low high. ends.after (suc k) d (omega arith) (omega arith);
}

later_alike : (bound : ℕ) (xs : List ℕ) (frames : List Range) → AllByRecursion (λ next. bound ≤ next.start) frames
    → filter (has_one_of xs) frames ≡ filter (has_one_of (filter (λ a. nat_le bound a) xs)) frames
later_alike bound xs [] low = refl
later_alike bound xs (f ∷ frames) low =
    rw (none_before f bound xs low.0) (both_kept f (has_one_of xs f) (later_alike bound xs frames low.1))
  where
    both_kept : {ys zs : List Range} (f : Range) (b : Bool) → ys ≡ zs → cond b (f ∷ ys) ys ≡ cond b (f ∷ zs) zs
    both_kept f true same = ap (λ (l : List Range). f ∷ l) same
    both_kept f false same = same

-- the addresses are none, or none lies in a frame any more
pub none_met : (xs : List ℕ) (frames : List Range) (bound : ℕ) → AllFrom bound xs
    → ((k : ℕ) (d : Range) → k < length frames → (get_or frames k d).start + (get_or frames k d).len ≤ bound)
    → filter (has_one_of xs) frames ≡ []
none_met xs [] bound from ends = refl
none_met xs (f ∷ frames) bound from ends =
    let last : f.start + f.len ≤ bound = ends 0 f (omega arith) in
    let none : has_one_of xs f ≡ false = none_behind f xs (λ k within. let low = from k within in omega (arith, low)) in
    rw none (none_met xs frames bound from (λ k d within. ends (suc k) d (omega arith)))

-- the first frame that ends behind the first address has it, and the others have the addresses behind the frame
pub met_next : (x : ℕ) (xs : List ℕ) (frames : List Range) (place : ℕ) (d : Range) → AreApart frames → EndsAfter frames x place
    → AllFrom x (x ∷ xs) → place < length frames → (get_or frames place d).start ≤ x
    → filter (has_one_of (x ∷ xs)) frames ≡ get_or frames place d
    ∷ filter (has_one_of (filter (λ a. nat_le ((get_or frames place d).start + (get_or frames place d).len) a) (x ∷ xs))) frames
met_next x xs [] place d apart ends from within low = absurd (omega arith)
met_next x xs (f ∷ frames) zero d apart ends from within low =
    let last : x < f.start + f.len = ends.after 0 d (omega arith) (omega arith) in
    let bound = f.start + f.len in
    let has : has_one_of (x ∷ xs) f ≡ true =
    or_left (is_place_of f x) _ (and_from (leb f.start x) _ (le-leb f.start x low) (lt-ltb x (f.start + f.len) last)) in
    let none : has_one_of (filter (λ a. nat_le (f.start + f.len) a) (x ∷ xs)) f ≡ false =
    none_behind f (filter (λ a. nat_le (f.start + f.len) a) (x ∷ xs)) (kept_from (f.start + f.len) (x ∷ xs)) in
    rw (has, none) (ap (λ (l : List Range). f ∷ l) (later_alike (f.start + f.len) (x ∷ xs) frames apart.0))
met_next x xs (f ∷ frames) (suc p) d apart ends from within low =
    let g = get_or frames p d in
    let last : f.start + f.len ≤ x = ends.before 0 d (omega arith) in
    let here : has_one_of (x ∷ xs) f ≡ false =
    none_behind f (x ∷ xs) (λ k inside. let least = from k inside in omega (arith, least)) in
    let behind : x < g.start + g.len = ends.after (suc p) d (omega arith) (omega arith) in
    let there : has_one_of (filter (λ a. nat_le (g.start + g.len) a) (x ∷ xs)) f ≡ false =
    none_behind f (filter (λ a. nat_le (g.start + g.len) a) (x ∷ xs))
    (λ k inside. let least = kept_from (g.start + g.len) (x ∷ xs) k inside in omega (arith, least)) in
    rw (here, there) (met_next x xs frames p d apart.1 (fewer_frames f frames x p ends) from (omega arith) low)

-- the first frame that ends behind the first address starts behind it too: the addresses before the frame lie in none
pub met_gap : (x : ℕ) (xs : List ℕ) (frames : List Range) (place : ℕ) (d : Range) → AreApart frames → EndsAfter frames x place
    → AllFrom x (x ∷ xs) → place < length frames
    → filter (has_one_of (filter (λ a. nat_le (get_or frames place d).start a) (x ∷ xs))) frames ≡ filter (has_one_of (x ∷ xs)) frames
met_gap x xs [] place d apart ends from within = absurd (omega arith)
met_gap x xs (f ∷ frames) zero d apart ends from within =
    let here = none_before f f.start (x ∷ xs) (omega arith) in
    let low : AllByRecursion (λ next. f.start ≤ next.start) frames = lower frames apart.0 in
    rw here (both_kept (has_one_of (x ∷ xs) f) (sym (later_alike f.start (x ∷ xs) frames low)))
  where
    lower : (gs : List Range) → AllByRecursion (λ next. f.start + f.len ≤ next.start) gs → AllByRecursion (λ next. f.start ≤ next.start) gs
    lower [] all = tt
    lower (g ∷ gs) all = (omega (arith, all.0), lower gs all.1)

    both_kept : {ys zs : List Range} (b : Bool) → ys ≡ zs → cond b (f ∷ ys) ys ≡ cond b (f ∷ zs) zs
    both_kept true same = ap (λ (l : List Range). f ∷ l) same
    both_kept false same = same
met_gap x xs (f ∷ frames) (suc p) d apart ends from within =
    let g = get_or frames p d in
    let last : f.start + f.len ≤ x = ends.before 0 d (omega arith) in
    let next : f.start + f.len ≤ g.start = All-from_recursion (λ next. f.start + f.len ≤ next.start) frames apart.0 p d (omega arith) in
    let here : has_one_of (x ∷ xs) f ≡ false =
    none_behind f (x ∷ xs) (λ k inside. let least = from k inside in omega (arith, least)) in
    let there : has_one_of (filter (λ a. nat_le g.start a) (x ∷ xs)) f ≡ false =
    none_behind f (filter (λ a. nat_le g.start a) (x ∷ xs))
    (λ k inside. let least = kept_from g.start (x ∷ xs) k inside in omega (arith, least)) in
    rw (here, there) (met_gap x xs frames p d apart.1 (fewer_frames f frames x p ends) from (omega arith))

-- ---- the same of what is left of ascending addresses

pub all_from_first : (rest : List ℕ) → IsStrictlyIncreasing rest → AllFrom (get_or rest 0 0) rest
all_from_first rest up k within = increasing_not_below rest up 0 k (omega arith) within

pub met_here : (rest : List ℕ) (frames : List Range) (place : ℕ) (d : Range) → AreApart frames → IsStrictlyIncreasing rest → 0 < length rest
    → EndsAfter frames (get_or rest 0 0) place → place < length frames → (get_or frames place d).start ≤ get_or rest 0 0
    → filter (has_one_of rest) frames ≡ get_or frames place d
    ∷ filter (has_one_of (filter (λ a. nat_le ((get_or frames place d).start + (get_or frames place d).len) a) rest)) frames
met_here [] frames place d apart up some ends within low = absurd (omega arith)
met_here (x ∷ xs) frames place d apart up some ends within low =
    met_next x xs frames place d apart ends (all_from_first (x ∷ xs) up) within low

pub met_later : (rest : List ℕ) (frames : List Range) (place : ℕ) (d : Range) → AreApart frames → IsStrictlyIncreasing rest
    → 0 < length rest
    → EndsAfter frames (get_or rest 0 0) place → place < length frames
    → filter (has_one_of (filter (λ a. nat_le (get_or frames place d).start a) rest)) frames ≡ filter (has_one_of rest) frames
met_later [] frames place d apart up some ends within = absurd (omega arith)
met_later (x ∷ xs) frames place d apart up some ends within =
    met_gap x xs frames place d apart ends (all_from_first (x ∷ xs) up) within

pub met_no_more : (rest : List ℕ) (frames : List Range) (place : ℕ) → IsStrictlyIncreasing rest
    → EndsAfter frames (get_or rest 0 0) place → length frames ≤ place → filter (has_one_of rest) frames ≡ []
met_no_more rest frames place up ends over =
    none_met rest frames (get_or rest 0 0) (all_from_first rest up) (λ k d within. ends.before k d (omega arith))

pub met_by_none : (rest : List ℕ) (frames : List Range) → length rest ≡ 0 → filter (has_one_of rest) frames ≡ []
met_by_none [] [] none = refl
met_by_none [] (f ∷ frames) none = met_by_none [] frames none
met_by_none (x ∷ xs) frames none = absurd (omega arith)
