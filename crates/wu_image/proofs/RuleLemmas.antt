-- Lemmas on the rules of the layout: what is asked of its texts and parts is what the rules say.
use Rattle.std.proofs.Common.{◌≡◌, ℕ, zero, suc, ◌+◌, ◌-◌, ◌*◌, ◌%◌, ◌^◌, ◌<◌, ◌≤◌, Bool, true, false, eqb, List, [], ◌∷◌, length, get_or}
use Rattle.std.proofs.Common.{refl, ap, sym, subst, ⊎_elim, arith}
use Rattle.std.specs.Prelude.{MatchBool, map, sum_by}
use Rattle.std.specs.List.{AllByRecursion, IsDistinct}
use Rattle.std.proofs.lemmas.List.Sums.{sum_by-cons}
use Rattle.wu_base.specs.declared.addresses.Range.{Range}
use Rattle.wu_base.specs.declared.addresses.PartRec.{PartRec}
use Rattle.wu_base.specs.declared.limits.TheConstants.{GENERATION_MAX}
use Rattle.wu_base.proofs.Members.{Has}
use Rattle.wu_image.specs.declared.records.FileRec.{FileRec}
use Rattle.wu_image.specs.LayoutRules.{AreLayoutRules, IsPart, IsText, NeverRise, SpansAscend, named_blobs}
use Rattle.wu_image.specs.Checks.{AreApart, ArePartsFrom, RangesLieInParts, IsNextPart}

-- ---- lists

pub all_at : {X : Type 0} (P : X → Type 0) (xs : List X) (d : X) → ((k : ℕ) → k < length xs → P (get_or xs k d)) → AllByRecursion P xs
all_at P [] d h = tt
all_at P (x ∷ xs) d h = (h 0 (omega arith), all_at P xs d (λ k l. h (suc k) (omega arith)))

pub all_has_at : {X : Type 0} (P : X → Type 0) (xs : List X) (k : ℕ) (d : X) → AllByRecursion P xs → k < length xs → P (get_or xs k d)
all_has_at P [] k d a l = absurd (omega arith)
all_has_at P (x ∷ xs) zero d a l = a.0
all_has_at P (x ∷ xs) (suc k) d a l = all_has_at P xs k d a.1 (omega arith)

pub sum_of_map : {X Y : Type 0} (f : Y → ℕ) (g : X → Y) (xs : List X) → sum_by f (map g xs) ≡ sum_by (λ x. f (g x)) xs
sum_of_map f g [] = refl
sum_of_map {X} f g (x ∷ xs) =
    omega (arith, sum_by-cons f (g x) (map g xs), sum_by-cons (λ (y : X). f (g y)) x xs, sum_of_map f g xs)

pub sum_has : {X : Type 0} (f : X → ℕ) (x : X) (xs : List X) → Has x xs → f x ≤ sum_by f xs
sum_has f x [] h = absurd h
sum_has f x (y ∷ ys) h =
    ⊎_elim
    (λ (e : y ≡ x). omega (arith, sum_by-cons f y ys, ap f e))
    (λ (i : Has x ys). omega (arith, sum_by-cons f y ys, sum_has f x ys i))
    h

-- ---- parts

spans_within : (from : ℕ) (parts : List PartRec) (next : ℕ) → SpansAscend from parts next → from ≤ next
spans_within from [] next s = s
spans_within from (part ∷ parts) next s =
    let later = spans_within (part.high + 1) parts next s.2 in
    let begin = s.0 in
    let span = s.1 in
    omega arith

pub record PartRules (from limit flushes next : ℕ) (parts : List PartRec) : Type 0 where
  pub spans : SpansAscend from parts next
  pub generations : NeverRise limit parts
  pub hold : AllByRecursion IsPart parts
  pub flushed : sum_by (λ part. 2 ^ part.generation) parts ≤ flushes

pub rules_of_parts : (from limit flushes next : ℕ) (parts : List PartRec) → from ≤ next → ArePartsFrom from limit flushes next parts
    → PartRules from limit flushes next parts
rules_of_parts from limit flushes next [] l a = record { spans = l; generations = tt; hold = tt; flushed = omega arith }
rules_of_parts from limit flushes next (part ∷ parts) l a =
    let one = a.0 in
    let end = one.end in
    let enough = one.flushed in
    let more = rules_of_parts (part.high + 1) part.generation (flushes - 2 ^ part.generation) next parts (omega arith) a.1 in
    let rest = more.flushed in
    let sum = sum_by-cons (λ (p : PartRec). 2 ^ p.generation) part parts in
    record {
      spans = (one.begin, one.span, more.spans);
      generations = (one.generation, more.generations);
      hold = (one.holds, more.hold);
      flushed = omega arith;
    }

pub parts_of_rules : (from limit flushes next : ℕ) (parts : List PartRec) → PartRules from limit flushes next parts
    → ArePartsFrom from limit flushes next parts
parts_of_rules from limit flushes next [] r = tt
parts_of_rules from limit flushes next (part ∷ parts) r =
    let within = spans_within (part.high + 1) parts next r.spans.2 in
    let flushed = r.flushed in
    let sum = sum_by-cons (λ (p : PartRec). 2 ^ p.generation) part parts in (
      record {
        begin = r.spans.0;
        span = r.spans.1;
        end = omega arith;
        generation = r.generations.0;
        flushed = omega arith;
        holds = r.hold.0;
      },
      parts_of_rules (part.high + 1) part.generation (flushes - 2 ^ part.generation) next parts (record {
        spans = r.spans.2;
        generations = r.generations.1;
        hold = r.hold.1;
        flushed = omega arith;
      }),
    )

-- the parts that are left to be asked
pub record PartsLeft (parts rest : List PartRec) (from limit left flushes next : ℕ) : Type 0 where
  pub small : limit ≤ GENERATION_MAX
  pub on : ArePartsFrom from limit left next rest → ArePartsFrom 0 GENERATION_MAX flushes next parts
  pub back : ArePartsFrom 0 GENERATION_MAX flushes next parts → ArePartsFrom from limit left next rest

pub all_parts_left : (parts : List PartRec) (flushes next : ℕ) → PartsLeft parts parts 0 GENERATION_MAX flushes flushes next
all_parts_left parts flushes next = record { small = omega arith; on = λ a. a; back = λ a. a }

pub one_part_less : (parts rest later : List PartRec) (part : PartRec) (from limit left new_from new_limit fewer flushes next : ℕ)
    → PartsLeft parts rest from limit left flushes next → rest ≡ part ∷ later → IsNextPart from limit left next part
    → new_from ≡ part.high + 1 → new_limit ≡ part.generation → fewer ≡ left - 2 ^ part.generation
    → PartsLeft parts later new_from new_limit fewer flushes next
one_part_less parts rest later part from limit left new_from new_limit fewer flushes next l e p f g h =
    let generation = p.generation in
    let small = l.small in
    rw (f, g, h) (record {
      small = omega arith;
      on = λ a. l.on (rw e (p, a));
      back = λ a. let b : ArePartsFrom from limit left next (part ∷ later) =
          subst (λ r. ArePartsFrom from limit left next r) e (l.back a) in b.1;
    })

-- the flushes that are left after a part, where its flushes are a shift
pub fewer_left : (left power : ℕ) → power ≤ left → left < 2 ^ 64 → left - 1 * power % 2 ^ 64 ≡ left - power
fewer_left left power enough small = omega arith

pub no_next_part : (parts rest later : List PartRec) (part : PartRec) (from limit left flushes next : ℕ)
    → PartsLeft parts rest from limit left flushes next → rest ≡ part ∷ later → (IsNextPart from limit left next part → ⊥)
    → ArePartsFrom 0 GENERATION_MAX flushes next parts → ⊥
no_next_part parts rest later part from limit left flushes next l e none a =
    let b : ArePartsFrom from limit left next (part ∷ later) = subst (λ r. ArePartsFrom from limit left next r) e (l.back a) in none b.0

pub no_part_left : (parts rest : List PartRec) (from limit left flushes next : ℕ) → PartsLeft parts rest from limit left flushes next
    → rest ≡ [] → ArePartsFrom 0 GENERATION_MAX flushes next parts
no_part_left parts rest from limit left flushes next l e = l.on (subst (λ r. ArePartsFrom from limit left next r) (sym e) tt)

-- ---- all of them

-- what are_apart needs of texts
pub texts_end : (next : ℕ) (files : List FileRec) → next < 2 ^ 64 → AllByRecursion (IsText next) files
    → AllByRecursion (λ file. (0 < file.range.len) × (file.range.start + file.range.len < 2 ^ 64)) files
texts_end next [] small a = tt
texts_end next (file ∷ files) small a =
    let some = a.0.some in
    let within = a.0.within in
    ((omega arith, omega arith), texts_end next files small a.1)

pub texts_filled : (next : ℕ) (files : List FileRec) → AllByRecursion (IsText next) files
    → AllByRecursion (λ file. 0 < file.range.len) files
texts_filled next [] a = tt
texts_filled next (file ∷ files) a = let some = a.0.some in (omega arith, texts_filled next files a.1)

pub parts_of_layout : (next next_blob flushes : ℕ) (files : List FileRec) (parts : List PartRec)
    → AreLayoutRules next next_blob flushes files parts → ArePartsFrom 0 GENERATION_MAX flushes next parts
parts_of_layout next next_blob flushes files parts r =
    parts_of_rules 0 GENERATION_MAX flushes next parts
    (record { spans = r.spans; generations = r.generations; hold = r.parts_hold; flushed = r.flushed })

pub homes_of_layout : (next next_blob flushes : ℕ) (files : List FileRec) (parts : List PartRec)
    → AreLayoutRules next next_blob flushes files parts → RangesLieInParts files parts
homes_of_layout next next_blob flushes files parts r = record { homes = r.homes; stored = r.stored }

pub layout_of_checks : (next next_blob flushes : ℕ) (files : List FileRec) (parts : List PartRec)
    → ArePartsFrom 0 GENERATION_MAX flushes next parts → flushes < 2 ^ 62 → AllByRecursion (IsText next) files → AreApart files
    → RangesLieInParts files parts → IsDistinct eqb (named_blobs files parts)
    → AllByRecursion (λ blob. (0 < blob) × (blob < next_blob)) (named_blobs files parts)
    → AreLayoutRules next next_blob flushes files parts
layout_of_checks next next_blob flushes files parts a few texts apart homes distinct drawn =
    let r = rules_of_parts 0 GENERATION_MAX flushes next parts (omega arith) a in record {
      texts = texts;
      apart = apart;
      spans = r.spans;
      generations = r.generations;
      parts_hold = r.hold;
      homes = homes.homes;
      stored = homes.stored;
      distinct = distinct;
      drawn = drawn;
      flushed = r.flushed;
      few = few;
    }

-- what remains to be asked decides
pub decided : {R D W : Type 0} (b : Bool) → MatchBool b (D × W) (D → W → ⊥) → (D → W → R) → (R → D × W) → MatchBool b R (R → ⊥)
decided true m on back = on m.0 m.1
decided false m on back = λ r. let p = back r in m p.0 p.1

-- defaults of places in lists
abbrev pub no_range : Range
no_range = record { start = 0; len = 0 }

abbrev pub no_file : FileRec
no_file = record { ino = 0; len = 0; blob = 0; range = record { start = 0; len = 0 } }

abbrev pub no_part : PartRec
no_part = record { blob = 0; size = 0; generation = 0; low = 0; high = 0; stored = 0 }
