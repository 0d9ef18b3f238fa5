-- Lemmas on the parts in which the ranges lie.
use Rattle.std.proofs.Common.{◌≡◌, ℕ, zero, suc, ◌+◌, ◌-◌, ◌<◌, ◌≤◌, Bool, true, false, cond, List, [], ◌∷◌, length, get_or, set, take}
use Rattle.std.proofs.Common.{refl, ap, sym, subst, ◌∙◌, ◌⊎◌, inl, inr, ⊎_elim, arith}
use Rattle.std.specs.Prelude.{◌||◌, map}
use Rattle.std.specs.List.{AllByRecursion, list_any}
use Rattle.std.specs.List.Sorted.{IsNonDecreasingBy}
use Rattle.std.proofs.lemmas.Bool.{and_parts, leb-true, cases_lt, false_from_ne_true, false≢true, or_right}
use Rattle.std.proofs.lemmas.List.{take_all, take_more, length-set, get_or-set_other}
use Rattle.std.proofs.lemmas.Grind.{get_or-set_at}
use Rattle.std.proofs.lemmas.List.Sums.{sum_by_more, sum_by_more_le}
use Rattle.wu_base.specs.declared.addresses.Range.{Range}
use Rattle.wu_base.specs.declared.addresses.PartRec.{PartRec}
use Rattle.wu_base.proofs.EachLemmas.{each-push}
use Rattle.wu_image.specs.declared.records.FileRec.{FileRec}
use Rattle.wu_image.specs.LayoutRules.{SpansAscend, lies_in, live_in}
use Rattle.wu_image.specs.Checks.{RangesLieInParts}
use Rattle.wu_image.proofs.RuleLemmas.{all_at, all_has_at}

-- ---- spans

low_from : (from : ℕ) (parts : List PartRec) (next k : ℕ) (d : PartRec) → SpansAscend from parts next → k < length parts
    → (from ≤ (get_or parts k d).low) × ((get_or parts k d).low ≤ (get_or parts k d).high)
low_from from [] next k d s l = absurd (omega arith)
low_from from (part ∷ parts) next zero d s l = (s.0, s.1)
low_from from (part ∷ parts) next (suc k) d s l =
    let later = low_from (part.high + 1) parts next k d s.2 (omega arith) in
    let begin = s.0 in
    let span = s.1 in
    (omega (arith, later.0), later.1)

spans_apart : (from : ℕ) (parts : List PartRec) (next i j : ℕ) (d : PartRec) → SpansAscend from parts next → i < j → j < length parts
    → (get_or parts i d).high < (get_or parts j d).low
spans_apart from [] next i j d s l m = absurd (omega arith)
spans_apart from (part ∷ parts) next i zero d s l m = absurd (omega arith)
spans_apart from (part ∷ parts) next zero (suc j) d s l m =
    let later = low_from (part.high + 1) parts next j d s.2 (omega arith) in omega (arith, later.0)
spans_apart from (part ∷ parts) next (suc i) (suc j) d s l m = spans_apart (part.high + 1) parts next i j d s.2 (omega arith) (omega arith)

pub spans_rise : (parts : List PartRec) (next : ℕ) → SpansAscend 0 parts next → IsNonDecreasingBy (λ part. part.high) parts
spans_rise parts next s i j d up inside =
    ⊎_elim
    (λ (less : i < j). omega (arith, spans_apart 0 parts next i j d s less inside, (low_from 0 parts next j d s inside).1))
    (λ (same : j ≤ i). let is : i ≡ j = omega arith in
    subst (λ (k : ℕ). (get_or parts i d).high ≤ (get_or parts k d).high) is (omega arith))
    (cases_lt i j)

lies : (range : Range) (part : PartRec) → lies_in range part ≡ true → (part.low ≤ range.start) × (range.start + range.len ≤ part.high + 1)
lies range part t = let p = and_parts _ _ t in (leb-true _ _ p.0, leb-true _ _ p.1)

-- a range lies in one part at most
only_home : (parts : List PartRec) (next i j : ℕ) (d : PartRec) (range : Range) → SpansAscend 0 parts next → 0 < range.len
    → i < length parts → j < length parts → lies_in range (get_or parts i d) ≡ true → lies_in range (get_or parts j d) ≡ true → i ≡ j
only_home parts next i j d range s some l m a b =
    let x = lies range (get_or parts i d) a in
    let y = lies range (get_or parts j d) b in
    ⊎_elim
    (λ (less : i < j). absurd (omega (arith, x.0, x.1, y.0, y.1, spans_apart 0 parts next i j d s less m)))
    (λ (more : j ≤ i).
    ⊎_elim
    (λ (less : j < i). absurd (omega (arith, x.0, x.1, y.0, y.1, spans_apart 0 parts next j i d s less l)))
    (λ (same : i ≤ j). omega arith)
    (cases_lt j i))
    (cases_lt i j)

none_passes : {X : Type 0} (p : X → Bool) (xs : List X) → AllByRecursion (λ x. p x ≡ false) xs → list_any p xs ≡ false
none_passes p [] a = refl
none_passes p (x ∷ xs) a = ap (λ (b : Bool). b || list_any p xs) a.0 ∙ none_passes p xs a.1

-- the parts before the place end before the range, and the parts after it begin after it
pub no_home : (parts : List PartRec) (next place : ℕ) (d : PartRec) (range : Range) → SpansAscend 0 parts next → 0 < range.len
    → ((k : ℕ) → k < length parts → k < place → (get_or parts k d).high < range.start)
    → ((k : ℕ) → k < length parts → place ≤ k → range.start ≤ (get_or parts k d).high)
    → (place < length parts → lies_in range (get_or parts place d) ≡ false) → list_any (λ part. lies_in range part) parts ≡ false
no_home parts next place d range s some before after here =
    none_passes (λ (part : PartRec). lies_in range part) parts
    (all_at (λ (part : PartRec). lies_in range part ≡ false) parts d
    (λ k l. ⊎_elim
    (λ (less : k < place). false_from_ne_true (lies_in range (get_or parts k d))
    (λ t. let x = lies range (get_or parts k d) t in let high = before k l less in omega (arith, x.1)))
    (λ (more : place ≤ k).
    ⊎_elim
    (λ (less : place < k). false_from_ne_true (lies_in range (get_or parts k d))
    (λ t.
    let x = lies range (get_or parts k d) t in
    let high = after place (omega arith) (omega arith) in
    omega (arith, x.0, spans_apart 0 parts next place k d s less l)))
    (λ (same : k ≤ place).
    let is : place ≡ k = omega arith in
    subst (λ (n : ℕ). lies_in range (get_or parts n d) ≡ false) is (here (omega arith)))
    (cases_lt place k))
    (cases_lt k place)))

-- ---- the room that is left in the parts

pub record RoomLeft (files : List FileRec) (parts : List PartRec) (asked : ℕ) (room : List ℕ) : Type 0 where
  pub long : length room ≡ length parts
  pub homes : AllByRecursion (λ file. list_any (λ part. lies_in file.range part) parts ≡ true) (take asked files)
  pub sums : (k : ℕ) (d : PartRec) → k < length parts
      → get_or room k 0 + live_in (get_or parts k d) (take asked files) ≡ (get_or parts k d).stored

same_or_not : (a b : ℕ) → (a ≡ b) ⊎ (a ≡ b → ⊥)
same_or_not a b =
    ⊎_elim
    (λ (l : a < b). inr (λ e. omega arith))
    (λ (m : b ≤ a). ⊎_elim (λ (l : b < a). inr (λ e. omega arith)) (λ (s : a ≤ b). inl (omega arith)) (cases_lt b a))
    (cases_lt a b)

-- within the list the default doesn't matter
pub get_or_any : {X : Type 0} (xs : List X) (k : ℕ) (d e : X) → k < length xs → get_or xs k d ≡ get_or xs k e
get_or_any [] k d e l = absurd (omega arith)
get_or_any (x ∷ xs) zero d e l = refl
get_or_any (x ∷ xs) (suc k) d e l = get_or_any xs k d e (omega arith)

any_at : {X : Type 0} (p : X → Bool) (xs : List X) (k : ℕ) (d : X) → k < length xs → p (get_or xs k d) ≡ true → list_any p xs ≡ true
any_at p [] k d l t = absurd (omega arith)
any_at p (x ∷ xs) zero d l t = ap (λ (b : Bool). b || list_any p xs) t
any_at p (x ∷ xs) (suc k) d l t = or_right (p x) (list_any p xs) (any_at p xs k d (omega arith) t)

pub no_file_asked : (files : List FileRec) (parts : List PartRec) (room : List ℕ) → length room ≡ length parts
    → ((k : ℕ) (d : PartRec) → k < length parts → get_or room k 0 ≡ (get_or parts k d).stored) → RoomLeft files parts 0 room
no_file_asked files parts room long same = record { long = long; homes = tt; sums = λ k d l. omega (arith, same k d l) }

-- what the part has of a file that lies in it, and of one that doesn't
in_part : (range : Range) (part : PartRec) → lies_in range part ≡ true → cond {A = ℕ} (lies_in range part) range.len 0 ≡ range.len
in_part range part t = ap (λ (b : Bool). cond {A = ℕ} b range.len 0) t

not_in_part : (range : Range) (part : PartRec) → lies_in range part ≡ false → cond {A = ℕ} (lies_in range part) range.len 0 ≡ 0
not_in_part range part t = ap (λ (b : Bool). cond {A = ℕ} b range.len 0) t

pub one_file_asked : (files : List FileRec) (parts : List PartRec) (asked next place : ℕ) (file e : FileRec) (d : PartRec)
    (room new : List ℕ)
    → RoomLeft files parts asked room → SpansAscend 0 parts next → asked < length files → file ≡ get_or files asked e
    → 0 < file.range.len → place < length parts → lies_in file.range (get_or parts place d) ≡ true
    → file.range.len ≤ get_or room place 0 → new ≡ set room place (get_or room place 0 - file.range.len)
    → RoomLeft files parts (asked + 1) new
one_file_asked files parts asked next place file e d room new r s more is some inside t enough w = record {
  long = ap length w ∙ length-set room place _ ∙ r.long;
  homes = subst (λ (l : List FileRec). AllByRecursion (λ f. list_any (λ p. lies_in f.range p) parts ≡ true) l)
      (sym (take_more files asked e more))
      (each-push (λ (f : FileRec). list_any (λ p. lies_in f.range p) parts ≡ true) (take asked files) (get_or files asked e) r.homes
      (subst (λ (f : FileRec). list_any (λ p. lies_in f.range p) parts ≡ true) is
      (any_at (λ (p : PartRec). lies_in file.range p) parts place d inside t)));
  sums = λ k x l. sum_at k x l;
}
  where
    sum_at : (k : ℕ) (x : PartRec) → k < length parts
        → get_or new k 0 + live_in (get_or parts k x) (take (asked + 1) files) ≡ (get_or parts k x).stored
    sum_at k x l =
        let f : FileRec → ℕ = λ f. cond (lies_in f.range (get_or parts k x)) f.range.len 0 in
        let before = r.sums k x l in
        let step : live_in (get_or parts k x) (take (asked + 1) files) ≡ live_in (get_or parts k x) (take asked files) + f file =
        sum_by_more f files asked e more ∙ ap (λ (g : FileRec). live_in (get_or parts k x) (take asked files) + f g) (sym is) in
        ⊎_elim
        (λ (same : k ≡ place).
        let here : get_or new k 0 ≡ get_or room k 0 - file.range.len =
        ap (λ (z : List ℕ). get_or z k 0) w
        ∙ get_or-set_at room place k _ 0 same (omega (arith, r.long))
        ∙ ap (λ (n : ℕ). get_or room n 0 - file.range.len) (sym same) in
        let room_here : file.range.len ≤ get_or room k 0 = subst (λ (n : ℕ). file.range.len ≤ get_or room n 0) (sym same) enough in
        let its : f file ≡ file.range.len =
        in_part file.range (get_or parts k x)
        (subst (λ (p : PartRec). lies_in file.range p ≡ true)
        (ap (λ (n : ℕ). get_or parts n d) (sym same) ∙ get_or_any parts k d x l) t) in
        omega arith)
        (λ (other : k ≡ place → ⊥).
        let here : get_or new k 0 ≡ get_or room k 0 =
        ap (λ (z : List ℕ). get_or z k 0) w ∙ get_or-set_other room place k _ 0 other in
        let its : f file ≡ 0 =
        not_in_part file.range (get_or parts k x)
        (false_from_ne_true (lies_in file.range (get_or parts k x))
        (λ u. other (only_home parts next k place x file.range s some l inside u
        (subst (λ (p : PartRec). lies_in file.range p ≡ true) (get_or_any parts place d x inside) t)))) in
        omega arith)
        (same_or_not k place)

-- the part has less room than the range is long
pub too_long : (files : List FileRec) (parts : List PartRec) (asked place : ℕ) (file e : FileRec) (d : PartRec) (room : List ℕ)
    → RoomLeft files parts asked room → asked < length files → file ≡ get_or files asked e → place < length parts
    → lies_in file.range (get_or parts place d) ≡ true → get_or room place 0 < file.range.len → RangesLieInParts files parts → ⊥
too_long files parts asked place file e d room r more is inside t short h =
    let f : FileRec → ℕ = λ f. cond (lies_in f.range (get_or parts place d)) f.range.len 0 in
    let before = r.sums place d inside in
    let its = in_part file.range (get_or parts place d) t in
    let all = sum_by_more_le f files asked e more in
    let same : f (get_or files asked e) ≡ f file = ap f (sym is) in
    let most = all_has_at (λ (p : PartRec). live_in p files ≤ p.stored) parts place d h.stored inside in
    omega arith

-- no part has the range
pub homeless : (files : List FileRec) (parts : List PartRec) (asked : ℕ) (file e : FileRec) → asked < length files
    → file ≡ get_or files asked e → list_any (λ part. lies_in file.range part) parts ≡ false → RangesLieInParts files parts → ⊥
homeless files parts asked file e more is none h =
    let its = all_has_at (λ (f : FileRec). list_any (λ p. lies_in f.range p) parts ≡ true) files asked e h.homes more in
    let mine = subst (λ (f : FileRec). list_any (λ p. lies_in f.range p) parts ≡ true) (sym is) its in
    false≢true (sym none ∙ mine)

pub all_files_asked : (files : List FileRec) (parts : List PartRec) (asked : ℕ) (room : List ℕ) → RoomLeft files parts asked room
    → length files ≤ asked → RangesLieInParts files parts
all_files_asked files [] asked room r long = record {
  homes = subst (λ (l : List FileRec). AllByRecursion (λ f. list_any (λ p. lies_in f.range p) [] ≡ true) l) (take_all asked files long)
      r.homes;
  stored = tt;
}
all_files_asked files (part ∷ parts) asked room r long = record {
  homes = subst (λ (l : List FileRec). AllByRecursion (λ f. list_any (λ p. lies_in f.range p) (part ∷ parts) ≡ true) l)
      (take_all asked files long) r.homes;
  stored = all_at (λ (p : PartRec). live_in p files ≤ p.stored) (part ∷ parts) part
      (λ k l.
      let sum = r.sums k part l in
      let whole : live_in (get_or (part ∷ parts) k part) (take asked files) ≡ live_in (get_or (part ∷ parts) k part) files =
      ap (λ (l : List FileRec). live_in (get_or (part ∷ parts) k part) l) (take_all asked files long) in
      omega arith);
}

-- at first each part has room for all that it has stored
pub stored_at : (files : List FileRec) (parts : List PartRec) (room : List ℕ) → room ≡ map (λ part. part.stored) parts
    → RoomLeft files parts 0 room
stored_at files parts room e =
    no_file_asked files parts room (ap (λ (l : List ℕ). length l) e ∙ long_of parts)
    (λ k d l. ap (λ (r : List ℕ). get_or r k 0) e ∙ stored_of k parts d l)
  where
    long_of : (ps : List PartRec) → length (map (λ part. part.stored) ps) ≡ length ps
    long_of [] = refl
    long_of (p ∷ ps) = omega (arith, long_of ps)

    stored_of : (k : ℕ) (ps : List PartRec) (d : PartRec) → k < length ps
        → get_or (map (λ part. part.stored) ps) k 0 ≡ (get_or ps k d).stored
    stored_of k [] d l = absurd (omega arith)
    stored_of zero (p ∷ ps) d l = refl
    stored_of (suc k) (p ∷ ps) d l = stored_of k ps d (omega arith)
