-- What the checks of a batch find out: a batch in which nothing is wrong fits.
use Rattle.std.proofs.Common.{◌≡◌, ◌≢◌, ℕ, suc, ◌+◌, ◌-◌, ◌<◌, ◌≤◌, List, [], ◌∷◌, map, length, get_or, drop, drop-cons, refl, sym, ap, ◌∙◌, subst, Bool, true, false, cond}
use Rattle.std.proofs.Common.{◌&&◌, ◌||◌, ◌==◌, not, eqb, nat_eq, nat_lt, arith, IsPermutation, IsSorted, nat_cmp, inl, inr}
use Rattle.std.proofs.Common.{true≢false, zero-le, le_antisymm, ltb-false, Option, None, Some, is_some, Result, Ok, Err, IfOk, IfNone, IfSome, ◌⊎◌}
use Rattle.std.specs.Ordering.{is_eq}
use Rattle.std.specs.Cmp.{nat_eq_equiv}
use Rattle.std.specs.List.{AllByRecursion, IsDistinct, list_all, list_any}
use Rattle.std.proofs.lemmas.Bool.{eqb-true, eqb-false, eq-eqb, ne_eqb, false≢true}
use Rattle.std.proofs.lemmas.List.Sorted.{IsNonDecreasingBy-from_sort, IsPermutation-sym, sum_by-IsPermutation}
use Rattle.std.proofs.lemmas.List.Sums.{sum_by_more, sum_by_more_le}
use Rattle.std.proofs.lemmas.Map.Keys.{IsDistinct-IsPermutation, IsDistinct-from_apart, IsDistinct-head, IsDistinct-tail}
use Rattle.wu_access.specs.declared.UserRec.{UserRec}
use Rattle.wu_base.proofs.MapEntries.{number_itself}
use Rattle.wu_tree.proofs.ParentPaths.{other_number}
use Rattle.wu_tree.specs.declared.events.Kind.{Kind}
use Rattle.wu_tree.specs.declared.events.Kind.TheVariants.{Directory}
use Rattle.wu_tree.specs.FileSystems.{is_kind_file, is_name}
use Rattle.wu_mirror.specs.declared.batches.TheConstants.{CLOSED}
use Rattle.wu_mirror.specs.declared.batches.Batch.{Batch}
use Rattle.wu_mirror.specs.declared.batches.Change.{Change}
use Rattle.wu_mirror.specs.declared.batches.Place.{Place}
use Rattle.wu_mirror.specs.declared.checks.Fault.{Fault}
use Rattle.wu_mirror.specs.declared.checks.Fault.TheVariants.{Reserved, Root, ManyNames, Unnamed, Text, Name, Order}
use Rattle.wu_mirror.specs.declared.checks.Misfit.{Misfit}
use Rattle.wu_mirror.specs.Misfits.{Fits, IsPlace, IsSound}
use Rattle.wu_mirror.specs.Acceptance.{AreInOrder, IsAbove, stands_at}
use Rattle.wu_mirror.specs.Faults.{at_fault, fault_of, fault_of_names, fault_of_root, first_below, first_fault, has_many_names, is_below, is_kept_directory, is_named, is_place}
use Rattle.wu_mirror.specs.Faults.{IsTwice, may_have_text}
use Rattle.wu_mirror.specs.Moments.{AreApart, is_told}
use Rattle.wu_mirror.specs.Plans.{is_empty}

-- ---- tests
both : (a b : Bool) → (a && b) ≡ true → (a ≡ true) × (b ≡ true)
both true b h = (refl, h)
both false b h = absurd (false≢true h)

neither : (a b : Bool) → (a || b) ≡ false → (a ≡ false) × (b ≡ false)
neither false b h = (refl, h)
neither true b h = absurd (true≢false h)

not_it : (a : Bool) → not a ≡ true → a ≡ false
not_it false h = refl
not_it true h = absurd (false≢true h)

it_is : (a : Bool) → not a ≡ false → a ≡ true
it_is true h = refl
it_is false h = absurd (true≢false h)

none_past : {X : Type 0} (b : Bool) (x : X) (o : Option X) → cond b (Some x) o ≡ None → (b ≡ false) × (o ≡ None)
none_past false x o h = (refl, h)
none_past true x o h = absurd (true≢false (ap is_some h))

none_by : {X : Type 0} (b : Bool) (x : X) → cond b None (Some x) ≡ None → b ≡ true
none_by true x h = refl
none_by false x h = absurd (true≢false (ap is_some h))

-- ---- numbers
-- sorted numbers of which none is the next one's are distinct
pub distinct_if : (xs : List ℕ) → ((k d : ℕ) → k + 1 < length xs → eqb (get_or xs k d) (get_or xs (k + 1) d) ≡ false) → IsSorted nat_cmp xs
    → IsDistinct nat_eq xs
distinct_if xs differ sorted =
    let rises = IsNonDecreasingBy-from_sort (λ (x : ℕ). x) xs sorted in
    IsDistinct-from_apart nat_eq xs (λ i j d l m.
    let within : i + 1 < length xs = omega (arith, l, m) in
    let up : get_or xs i d ≤ get_or xs (i + 1) d = rises i (i + 1) d (omega arith) within in
    let far : get_or xs (i + 1) d ≤ get_or xs j d = rises (i + 1) j d (omega (arith, l)) m in
    ne_eqb (get_or xs i d) (get_or xs j d) (λ e. eqb-false (get_or xs i d) (get_or xs (i + 1) d) (differ i d within)
    (le_antisymm up (subst (λ (x : ℕ). get_or xs (i + 1) d ≤ x) (sym e) far))))

pub distinct_before : (xs ys : List ℕ) → IsPermutation xs ys → IsDistinct nat_eq ys → IsDistinct nat_eq xs
distinct_before xs ys p d = IsDistinct-IsPermutation nat_eq (λ x y. nat_eq_equiv.symm x y) ys xs (IsPermutation-sym xs ys p) d

pub doubled_before : (xs ys : List ℕ) → IsPermutation xs ys → IsSorted nat_cmp ys → (o : Option ℕ)
    → IfNone o (IsSorted nat_cmp ys → IsDistinct nat_eq ys)
    → IfNone o (IsDistinct nat_eq xs)
doubled_before xs ys p s None h = distinct_before xs ys p (h s)
doubled_before xs ys p s (Some n) h = tt

each_apart : (n : ℕ) (changes : List Change) → AllByRecursion (λ y. nat_eq n y ≡ false) (map (λ change. change.ino) changes)
    → AllByRecursion (λ other. other.ino ≢ n) changes
each_apart n [] a = tt
each_apart n (other ∷ changes) a = (λ e. eqb-false n other.ino a.0 (sym e), each_apart n changes a.1)

pub apart_if : (changes : List Change) → IsDistinct nat_eq (map (λ change. change.ino) changes) → AreApart changes
apart_if [] d = tt
apart_if (change ∷ changes) d = (
  each_apart change.ino changes (IsDistinct-head nat_eq change.ino (map (λ change. change.ino) changes) d),
  apart_if changes (IsDistinct-tail nat_eq change.ino (map (λ change. change.ino) changes) d),
)

-- ---- one change
place_if : (place : Place) → is_place place ≡ true → IsPlace place
place_if place h =
    let a = both (not (place.parent == CLOSED)) (not (place.parent == 0) && is_name place.name) h in
    let b = both (not (place.parent == 0)) (is_name place.name) a.1 in (
      eqb-false place.parent CLOSED (not_it (place.parent == CLOSED) a.0),
      eqb-false place.parent 0 (not_it (place.parent == 0) b.0),
      b.1,
    )

places_if : (places : List Place) → list_all is_place places ≡ true → AllByRecursion IsPlace places
places_if [] h = tt
places_if (place ∷ places) h =
    let a = both (is_place place) (list_all is_place places) h in
    (place_if place a.0, places_if places a.1)

short_if : {X : Type 0} (xs : List X) → is_empty xs ≡ true → length xs ≤ 1
short_if [] h = zero-le
short_if (x ∷ xs) h = absurd (false≢true h)

few_names : (kind : Kind) (going coming : ℕ) → has_many_names kind going coming ≡ false → kind ≡ Directory → (going ≤ 1) × (coming ≤ 1)
few_names kind going coming h e =
    let d : has_many_names Directory going coming ≡ false = subst (λ (k : Kind). has_many_names k going coming ≡ false) e h in
    let n = neither (nat_lt 1 going) (nat_lt 1 coming) d in
    (ltb-false 1 going n.0, ltb-false 1 coming n.1)

-- what is asked of the names of the root, and of any other node
names_if : (change : Change)
    → cond (change.ino == 1) (fault_of_root change) (fault_of_names change.kind change.fate (length change.going) (length change.coming)) ≡ None
    → (change.kind ≡ Directory → (length change.going ≤ 1) × (length change.coming ≤ 1))
    × (change.ino ≢ 1 → is_named change.kind change.fate (length change.going) (length change.coming) ≡ true)
names_if change h =
    let names = fault_of_names change.kind change.fate (length change.going) (length change.coming) in
    elim (change.ino == 1) as (λ b. (change.ino == 1) ≡ b → cond b (fault_of_root change) names ≡ None
    → (change.kind ≡ Directory → (length change.going ≤ 1) × (length change.coming ≤ 1))
    × (change.ino ≢ 1 → is_named change.kind change.fate (length change.going) (length change.coming) ≡ true)) [
      | true ↦ λ e r.
          let a = none_by (is_kept_directory change.kind change.fate && (is_empty change.going && is_empty change.coming)) Root r in
          let b = both (is_kept_directory change.kind change.fate) (is_empty change.going && is_empty change.coming) a in
          let c = both (is_empty change.going) (is_empty change.coming) b.1 in (
            (λ k. (short_if change.going c.0, short_if change.coming c.1)),
            λ n. absurd (n (eqb-true change.ino 1 e)),
          )
      | false ↦ λ e n.
          let a = none_past (has_many_names change.kind (length change.going) (length change.coming)) ManyNames
          (cond (is_named change.kind change.fate (length change.going) (length change.coming)) None (Some Unnamed)) n in (
            (λ k. few_names change.kind (length change.going) (length change.coming) a.0 k),
            λ r. none_by (is_named change.kind change.fate (length change.going) (length change.coming)) Unnamed a.1,
          )
    ] refl h

pub sound_if : (change : Change) → fault_of change ≡ None → IsSound change
sound_if change h =
    let last = cond (change.ino == 1) (fault_of_root change)
    (fault_of_names change.kind change.fate (length change.going) (length change.coming)) in
    let third = cond (not (list_all is_place change.going) || not (list_all is_place change.coming)) (Some Name) last in
    let second = cond (change.has_new_text && not (may_have_text change.kind change.fate)) (Some Text) third in
    let a = none_past (change.ino == 0 || change.ino == CLOSED) Reserved second h in
    let b = none_past (change.has_new_text && not (may_have_text change.kind change.fate)) Text third a.1 in
    let c = none_past (not (list_all is_place change.going) || not (list_all is_place change.coming)) Name last b.1 in
    let n = neither (change.ino == 0) (change.ino == CLOSED) a.0 in
    let p = neither (not (list_all is_place change.going)) (not (list_all is_place change.coming)) c.0 in
    record {
      number = eqb-false change.ino 0 n.0;
      apart = eqb-false change.ino CLOSED n.1;
      going = places_if change.going (it_is (list_all is_place change.going) p.0);
      coming = places_if change.coming (it_is (list_all is_place change.coming) p.1);
      once = λ k. ((names_if change c.1).0 k).0;
      come_once = λ k. ((names_if change c.1).0 k).1;
      named = (names_if change c.1).1;
    }

-- ---- the batch
root_if : (users : List UserRec) (told : Bool) → (is_empty users || told) ≡ true → (told ≡ true) ⊎ (users ≡ [])
root_if [] told h = inr refl
root_if (user ∷ users) told h = inl h

each_sound : (changes : List Change) → AllByRecursion (λ change. fault_of change ≡ None) changes → AllByRecursion IsSound changes
each_sound [] a = tt
each_sound (change ∷ changes) a = (sound_if change a.0, each_sound changes a.1)

pub fits_if : (batch : Batch) → AllByRecursion (λ change. fault_of change ≡ None) batch.changes
    → IsDistinct nat_eq (map (λ user. user.uid) batch.users) → (is_empty batch.users || is_told batch.changes 1) ≡ true
    → AreApart batch.changes → AreInOrder batch.changes
    → Fits batch
fits_if batch all users root apart order = record {
  changes = each_sound batch.changes all;
  apart = apart;
  order = order;
  root = root_if batch.users (is_told batch.changes 1) root;
  users = users;
}

pub none_unless : {T : Type 0} (o : Option T) → ((x : T) → o ≡ Some x → ⊥) → o ≡ None
none_unless None n = refl
none_unless (Some x) n = absurd (n x refl)

pub if_none : {P T : Type 0} (o : Option T) → ((x : T) → o ≡ Some x → ⊥) → IfNone o P → P
if_none None n p = p
if_none (Some x) n p = absurd (n x refl)

-- what holds in any case is so where nothing is found
pub in_any : {P T E : Type 0} → P → (r : Result (Option T) E) → IfOk r (λ found. IfNone found P)
in_any p (Ok None) = p
in_any p (Ok (Some x)) = tt
in_any p (Err e) = tt

-- ---- what is found
-- no change has a fault where none is the first
pub sound_all : (changes : List Change) → first_fault changes ≡ None → AllByRecursion (λ change. fault_of change ≡ None) changes
sound_all [] h = tt
sound_all (change ∷ changes) h =
    elim (fault_of change) as (λ o. at_fault change.ino o (first_fault changes) ≡ None
    → (o ≡ None) × AllByRecursion (λ change. fault_of change ≡ None) changes) [
      | None ↦ λ g. (refl, sound_all changes g)
      | Some fault ↦ λ g. absurd cc
    ] h

-- a number that follows itself is there twice
pub twice_if : (xs : List ℕ) (k number : ℕ) → k + 1 < length xs → get_or xs k 0 ≡ number → get_or xs (k + 1) 0 ≡ number → IsTwice number xs
twice_if xs k number within e g =
    let f = λ (x : ℕ). cond {A = ℕ} (x == number) 1 0 in
    let one : f (get_or xs k 0) ≡ 1 = ap f e ∙ ap (λ b. cond {A = ℕ} b 1 0) (eq-eqb number number refl) in
    let two : f (get_or xs (k + 1) 0) ≡ 1 = ap f g ∙ ap (λ b. cond {A = ℕ} b 1 0) (eq-eqb number number refl) in
    let more = sum_by_more f xs k 0 (omega arith) in
    let all = sum_by_more_le f xs (k + 1) 0 within in
    omega (arith, one, two, more, all)

pub twice_before : (xs ys : List ℕ) → IsPermutation xs ys → (number : ℕ) → IsTwice number ys → IsTwice number xs
twice_before xs ys p number h = omega (arith, sum_by-IsPermutation (λ (x : ℕ). cond {A = ℕ} (x == number) 1 0) xs ys p)

pub twice_found : (xs ys : List ℕ) → IsPermutation xs ys → (found : Option ℕ) → IfSome found (λ number. IsTwice number ys)
    → IfSome found (λ number. IsTwice number xs)
twice_found xs ys p None h = tt
twice_found xs ys p (Some number) h = twice_before xs ys p number h

-- what is found of the order is told of several changes
pub order_or : {E : Type 0} (P : Misfit → Type 0) (changes : List Change) (r : Result (Option Misfit) E) → IfOk r (λ found. found ≡ first_below changes)
    → IfOk r (λ found. IfSome found (λ misfit. P misfit ⊎ (first_below changes ≡ Some misfit)))
order_or P changes (Ok None) h = tt
order_or P changes (Ok (Some misfit)) h = inr (sym h)
order_or P changes (Err e) h = tt

-- ---- the order
none_any : {X : Type 0} (p : X → Bool) (xs : List X) → list_any p xs ≡ false → AllByRecursion (λ x. p x ≡ false) xs
none_any p [] h = tt
none_any p (x ∷ xs) h = let n = neither (p x) (list_any p xs) h in (n.0, none_any p xs n.1)

above_if : (changes : List Change) (change : Change) → is_below (λ ino. is_told changes ino) change ≡ false → IsAbove changes change
above_if changes change h k =
    none_any (λ (place : Place). is_told changes place.parent) (stands_at change.fate change.going change.coming)
    (subst (λ (x : Kind). (not (is_kind_file x) && list_any (λ (place : Place). is_told changes place.parent)
    (stands_at change.fate change.going change.coming)) ≡ false) k h)

pub order_if : (changes : List Change) → first_below changes ≡ None → AreInOrder changes
order_if [] h = tt
order_if (change ∷ changes) h =
    let n = none_past (is_below (λ ino. is_told (change ∷ changes) ino) change) (record { number = change.ino; fault = Order }) (first_below changes) h in
    (above_if (change ∷ changes) change n.0, order_if changes n.1)

-- a step of the walk from the last change to the first
pub one_before : (changes : List Change) (back : ℕ) (change : Change) → back < length changes
    → change ≡ get_or changes (length changes - 1 - back) change
    → drop (length changes - (back + 1)) changes ≡ change ∷ drop (length changes - back) changes
one_before changes back change within e =
    let place : ℕ = length changes - (back + 1) in
    let here : length changes - 1 - back ≡ place = omega arith in
    let next : length changes - back ≡ suc place = omega arith in
    drop-cons changes place change (omega arith)
    ∙ ap (λ (x : Change). x ∷ drop (suc place) changes) (sym (e ∙ ap (λ k. get_or changes k change) here))
    ∙ ap (λ k. change ∷ drop k changes) (sym next)

-- two tests that a number is there
same_test : (a b : ℕ) (t : Bool) → cond (is_eq (nat_cmp a b)) true t ≡ ((a == b) || t)
same_test a b t =
    elim (a == b) as (λ v. (a == b) ≡ v → cond (is_eq (nat_cmp a b)) true t ≡ (v || t)) [
      | true ↦ λ e. ap (λ x. cond x true t) (subst (λ y. is_eq (nat_cmp a y) ≡ true) (eqb-true a b e) (number_itself a))
      | false ↦ λ e. ap (λ x. cond x true t) (other_number a b (eqb-false a b e))
    ] refl

any_same : (f g : ℕ → Bool) → ((q : ℕ) → f q ≡ g q) → (places : List Place)
    → list_any (λ place. f place.parent) places ≡ list_any (λ place. g place.parent) places
any_same f g e [] = refl
any_same f g e (place ∷ places) =
    ap (λ b. b || list_any (λ (p : Place). f p.parent) places) (e place.parent) ∙ ap (λ b. g place.parent || b) (any_same f g e places)

misfit_is : (misfit : Misfit) (number : ℕ) (fault : Fault) → misfit.number ≡ number → misfit.fault ≡ fault
    → misfit ≡ record { number = number; fault = fault }
misfit_is misfit number fault e g =
    ap (λ (n : ℕ). let m : Misfit = record { number = n; fault = misfit.fault } in m) e
    ∙ ap (λ (f : Fault). let m : Misfit = record { number = number; fault = f } in m) g

pub step_back : (changes : List Change) (back : ℕ) (change : Change) → back < length changes
    → change ≡ get_or changes (length changes - 1 - back) change
    → (old new : ℕ → Bool) (found next : Option Misfit) (misfit : Misfit) (is_out : Bool)
    → ((q : ℕ) → new q ≡ cond (is_eq (nat_cmp change.ino q)) true (old q))
    → ((q : ℕ) → old q ≡ is_told (drop (length changes - back) changes) q)
    → found ≡ first_below (drop (length changes - back) changes)
    → is_out ≡ is_below new change → misfit.number ≡ change.ino → misfit.fault ≡ Order
    → next ≡ cond is_out (Some misfit) found
    → ((q : ℕ) → new q ≡ is_told (drop (length changes - (back + 1)) changes) q)
    × (next ≡ first_below (drop (length changes - (back + 1)) changes))
step_back changes back change within e old new found next misfit is_out n k f b number fault last =
    let rest : List Change = drop (length changes - back) changes in
    let whole : drop (length changes - (back + 1)) changes ≡ change ∷ rest = one_before changes back change within e in
    let known : (q : ℕ) → new q ≡ is_told (change ∷ rest) q =
    (λ (q : ℕ). n q ∙ ap (λ t. cond (is_eq (nat_cmp change.ino q)) true t) (k q) ∙ same_test change.ino q (is_told rest q)) in
    let out : is_out ≡ is_below (λ ino. is_told (change ∷ rest) ino) change =
    b ∙ ap (λ t. not (is_kind_file change.kind) && t)
    (any_same new (λ ino. is_told (change ∷ rest) ino) known (stands_at change.fate change.going change.coming)) in (
      (λ q. known q ∙ ap (λ (l : List Change). is_told l q) (sym whole)),
      last
          ∙ ap (λ t. cond t (Some misfit) found) out
          ∙ ap (λ (m : Misfit). cond (is_below (λ ino. is_told (change ∷ rest) ino) change) (Some m) found) (misfit_is misfit change.ino Order number fault)
          ∙ ap (λ (o : Option Misfit). cond (is_below (λ ino. is_told (change ∷ rest) ino) change)
          (Some (record { number = change.ino; fault = Order })) o) f
          ∙ ap first_below (sym whole),
    )

pub order_unless : {E : Type 0} (changes : List Change) (r : Result (Option Misfit) E) → IfOk r (λ found. found ≡ first_below changes)
    → IfOk r (λ found. IfNone found (AreInOrder changes))
order_unless changes (Ok None) h = order_if changes (sym h)
order_unless changes (Ok (Some misfit)) h = tt
order_unless changes (Err e) h = tt
