-- Lemmas on a part's lists and its directory.
use Rattle.std.proofs.Common.{◌≡◌, ℕ, zero, suc, ◌+◌, ◌-◌, ◌^◌, ◌<◌, ◌≤◌, ⊎_elim, List, [], ◌∷◌, ◌++◌, length, get_or, map, take, drop, eqb}
use Rattle.std.proofs.Common.{refl, ap, sym, subst, ◌∙◌, Bool, true, false, ◌||◌, ◌==◌, append_assoc, length-append, arith}
use Rattle.std.proofs.Math.Seq.{take-append_seam, drop-append_seam}
use Rattle.std.specs.Prelude.{Some, None, slice_get}
use Rattle.std.specs.List.{AllByRecursion, AllZip, IsDistinct, flat_map, list_any, sum_by, last_or}
use Rattle.std.specs.List.Sorted.{IsStrictlyIncreasing, IsStrictlySortedBy}
use Rattle.std.specs.Cmp.Lexicographic.{slice_cmp}
use Rattle.std.specs.Ordering.{nat_cmp}
use Rattle.std.proofs.lemmas.Bool.{cases_lt, eq-eqb, eqb-true}
use Rattle.std.proofs.lemmas.List.{length-map}
use Rattle.std.proofs.lemmas.List.Concat.{length-flat_map}
use Rattle.std.proofs.lemmas.List.Folds.{list_any-append}
use Rattle.std.proofs.lemmas.List.Sums.{sum_by-cons}
use Rattle.std.proofs.lemmas.Map.Steps.{length-le_from_distinct_below}
use Rattle.wu_base.specs.declared.addresses.TermList.{TermList}
use Rattle.wu_base.specs.declared.limits.TheConstants.{ADDRESSES_MAX, GENERATION_MAX}
use Rattle.wu_vbyte.specs.declared.blocks.TheConstants.{BLOCK_LEN}
use Rattle.wu_part.specs.declared.entries.BlockEntry.{BlockEntry}
use Rattle.wu_part.specs.declared.entries.TermEntry.{TermEntry}
use Rattle.wu_part.specs.declared.headers.TheConstants.{HEADER_LEN}
use Rattle.wu_part.specs.Headers.{SpellsHeader}
use Rattle.wu_part.specs.Directories.{PartDirectory, StandFrom, StartsWithNumbers, SpellsEntries, all_blocks}
use Rattle.wu_part.specs.Parts.{HoldsBlock, HoldBlocks, HoldsList, SpellsPart, IsList}
use Rattle.wu_part.specs.Writing.{AppendsNumbers, AppendsLists, first_of, last_of}
use Rattle.wu_part.proofs.ReadingLemmas.{numbers_longer}
use Rattle.wu_part.proofs.WritingLemmas.{never_falls, cut_of, increasing_dropped, from_to}

-- ---- no more addresses than there is room for

all_joined : (P : ℕ → Type 0) (xs ys : List ℕ) → AllByRecursion P xs → AllByRecursion P ys → AllByRecursion P (xs ++ ys)
all_joined P [] ys a b = b
all_joined P (x ∷ xs) ys a b = (a.0, all_joined P xs ys a.1 b)

all_at : (P : ℕ → Type 0) (xs : List ℕ) → ((k : ℕ) → k < length xs → P (get_or xs k 0)) → AllByRecursion P xs
all_at P [] each = tt
all_at P (x ∷ xs) each = (each 0 (omega arith), all_at P xs (λ k inside. each (suc k) (omega arith)))

-- every address is within these bounds
abbrev pub AreWithin : ℕ → ℕ → List ℕ → Type 0
AreWithin low high addresses = AllByRecursion (λ address. (low ≤ address) × (address ≤ high)) addresses

pub list_within : (low high : ℕ) (addresses : List ℕ) → IsStrictlyIncreasing addresses → low ≤ first_of addresses → last_of addresses ≤ high
    → AreWithin low high addresses
list_within low high addresses s begin end =
    all_at (λ address. (low ≤ address) × (address ≤ high)) addresses (λ k inside.
    let after = never_falls addresses s 0 k (omega arith) inside in
    let before = never_falls addresses s k (length addresses - 1) (omega arith) (omega arith) in
    (omega arith, omega arith))

pub lists_within : (low high : ℕ) (lists : List TermList) → AllByRecursion IsList lists
    → AllByRecursion (λ list. low ≤ first_of list.at) lists → AllByRecursion (λ list. last_of list.at ≤ high) lists
    → AreWithin low high (flat_map (λ list. list.at) lists)
lists_within low high [] are begin end = tt
lists_within low high (list ∷ lists) are begin end =
    all_joined (λ address. (low ≤ address) × (address ≤ high)) list.at (flat_map (λ l. l.at) lists)
    (list_within low high list.at are.0.ascending begin.0 end.0) (lists_within low high lists are.1 begin.1 end.1)

lowered_apart : (low x : ℕ) (xs : List ℕ) → low ≤ x → AllByRecursion (λ a. (low ≤ a) × (a ≤ a)) xs
    → AllByRecursion (λ y. eqb x y ≡ false) xs
    → AllByRecursion (λ y. eqb (x - low) y ≡ false) (map (λ a. a - low) xs)
lowered_apart low x [] l all apart = tt
lowered_apart low x (y ∷ xs) l all apart = (
  not_equal (x - low) (y - low) (λ same. let e : x ≡ y = (let from = all.0.0 in omega arith) in differs x y apart.0 e),
  lowered_apart low x xs l all.1 apart.1,
)
  where
    differs : (a b : ℕ) → eqb a b ≡ false → a ≡ b → ⊥
    differs a b f e = let t : eqb a b ≡ true = eq-eqb a b e in cc

    not_equal : (a b : ℕ) → (a ≡ b → ⊥) → eqb a b ≡ false
    not_equal a b f = elim (eqb a b) as (λ v. eqb a b ≡ v → v ≡ false) [ true ↦ λ p. absurd (f (eqb-true a b p)) | false ↦ λ p. refl ] refl

lowered_distinct : (low high : ℕ) (xs : List ℕ) → AreWithin low high xs → IsDistinct eqb xs → IsDistinct eqb (map (λ a. a - low) xs)
unfolding IsDistinct
lowered_distinct low high [] within d = tt
lowered_distinct low high (x ∷ xs) within d =
    (lowered_apart low x xs within.0.0 (from low high xs within.1) d.0, lowered_distinct low high xs within.1 d.1)
  where
    from : (low high : ℕ) (xs : List ℕ) → AreWithin low high xs → AllByRecursion (λ a. (low ≤ a) × (a ≤ a)) xs
    from low high [] w = tt
    from low high (y ∷ ys) w = ((w.0.0, omega arith), from low high ys w.1)

lowered_below : (low high : ℕ) (xs : List ℕ) → AreWithin low high xs → (q : ℕ) → list_any (eqb q) (map (λ a. a - low) xs) ≡ true
    → q < high - low + 1
lowered_below low high [] within q any = absurd cc
lowered_below low high (x ∷ xs) within q any =
    elim (eqb q (x - low)) as (λ v. eqb q (x - low) ≡ v → (v || list_any (eqb q) (map (λ a. a - low) xs)) ≡ true → q < high - low + 1) [
      | true ↦ λ p t. let same = eqb-true q (x - low) p in let least = within.0.0 in let most = within.0.1 in omega arith
      | false ↦ λ p t. lowered_below low high xs within.1 q t
    ] refl any

-- addresses that differ are no more than the bounds have between them
pub few_within : (low high : ℕ) (xs : List ℕ) → AreWithin low high xs → IsDistinct eqb xs → length xs ≤ high - low + 1
few_within low high xs within d =
    let few = length-le_from_distinct_below (map (λ a. a - low) xs) (high - low + 1) (lowered_distinct low high xs within d)
    (lowered_below low high xs within) in
    omega (arith, length-map xs (λ (a : ℕ). a - low))

pub stored_within : (low high : ℕ) (lists : List TermList) → AllByRecursion IsList lists → IsDistinct eqb (flat_map (λ list. list.at) lists)
    → AllByRecursion (λ list. low ≤ first_of list.at) lists → AllByRecursion (λ list. last_of list.at ≤ high) lists
    → sum_by (λ list. length list.at) lists ≤ high - low + 1
stored_within low high lists are d begin end =
    let few = few_within low high (flat_map (λ list. list.at) lists) (lists_within low high lists are begin end) d in
    omega (arith, length-flat_map (λ (list : TermList). list.at) lists)

-- ---- what the entries of lists have in common with them

module _ (low : ℕ) (blob : List ℕ) where
  abbrev AreHeld : List TermEntry → List TermList → Type 0
  AreHeld terms lists = AllZip (HoldsList low blob) terms lists

  pub held_number : (terms : List TermEntry) (lists : List TermList) → AreHeld terms lists → length terms ≡ length lists
  held_number [] [] h = refl
  held_number [] (list ∷ lists) h = absurd h
  held_number (entry ∷ terms) [] h = absurd h
  held_number (entry ∷ terms) (list ∷ lists) h = let more = held_number terms lists h.1 in omega arith

  pub held_terms : (terms : List TermEntry) (lists : List TermList) → AreHeld terms lists
      → map (λ entry. entry.term) terms ≡ map (λ list. list.term) lists
  held_terms [] [] h = refl
  held_terms [] (list ∷ lists) h = absurd h
  held_terms (entry ∷ terms) [] h = absurd h
  held_terms (entry ∷ terms) (list ∷ lists) h =
      ap (λ (x : List ℕ). x ∷ map (λ e. e.term) terms) h.0.term ∙ ap (λ (x : List (List ℕ)). list.term ∷ x) (held_terms terms lists h.1)

  pub held_sum : (terms : List TermEntry) (lists : List TermList) → AreHeld terms lists
      → sum_by (λ entry. entry.count) terms ≡ sum_by (λ list. length list.at) lists
  held_sum [] [] h = refl
  held_sum [] (list ∷ lists) h = absurd h
  held_sum (entry ∷ terms) [] h = absurd h
  held_sum (entry ∷ terms) (list ∷ lists) h =
      let count = h.0.count in
      let more = held_sum terms lists h.1 in
      omega (arith, sum_by-cons (λ (e : TermEntry). e.count) entry terms, sum_by-cons (λ (l : TermList). length l.at) list lists)

  first_is : (x a : ℕ) (addresses : List ℕ) → slice_get (x ∷ addresses) 0 ≡ Some a → x ≡ a
  first_is x a addresses e = cc

  begins_with : (block : BlockEntry) (x : ℕ) (addresses : List ℕ) → HoldsBlock low blob block (take BLOCK_LEN (x ∷ addresses))
      → x ≡ block.first
  begins_with block x addresses h = first_is x block.first (take 127 addresses) h.span.begin

  pub some_begins : (blocks : List BlockEntry) (addresses : List ℕ) (value : ℕ) → HoldBlocks low blob blocks addresses
      → 0 < length addresses
      → (first_of addresses == value) ≡ true → list_any (λ block. block.first == value) blocks ≡ true
  some_begins [] addresses value h some e = absurd (let none = ap length h in omega arith)
  some_begins (block ∷ later) [] value h some e = absurd (omega arith)
  some_begins (block ∷ later) (x ∷ addresses) value h some e =
      let same = begins_with block x addresses h.0 in
      let here : (block.first == value) ≡ true = subst (λ n. (n == value) ≡ true) same e in
      ap (λ b. b || list_any (λ (block : BlockEntry). block.first == value) later) here

  last_is : (a b : ℕ) (addresses : List ℕ) → last_or None addresses ≡ Some a → last_or None addresses ≡ Some b → a ≡ b
  last_is a b addresses p q = some_same a b (sym p ∙ q)
    where
      some_same : (a b : ℕ) → Some a ≡ Some b → a ≡ b
      some_same a b e = cc

  pub some_ends : (blocks : List BlockEntry) (addresses : List ℕ) (value : ℕ) → HoldBlocks low blob blocks addresses → 0 < length addresses
      → IsStrictlyIncreasing addresses → (last_of addresses == value) ≡ true → list_any (λ block. block.last == value) blocks ≡ true
  some_ends [] addresses value h some s e = absurd (let none = ap length h in omega arith)
  some_ends (block ∷ later) addresses value h some s e =
      let cut = cut_of addresses some s in
      let chunk_some : 0 < length (take BLOCK_LEN addresses) = omega (arith, cut.count) in
      let mine = from_to (take BLOCK_LEN addresses) chunk_some in
      let last = last_is block.last (last_of (take BLOCK_LEN addresses)) (take BLOCK_LEN addresses) h.0.span.end mine.end in
      ⊎_elim
      (λ (more : 0 < length (drop BLOCK_LEN addresses)).
      let there : list_any (λ (b : BlockEntry). b.last == value) later ≡ true =
      some_ends later (drop BLOCK_LEN addresses) value h.1 more (increasing_dropped addresses BLOCK_LEN s)
      (subst (λ n. (n == value) ≡ true) (sym (cut.end more)) e) in
      ap (λ b. (block.last == value) || b) there ∙ or_true (block.last == value))
      (λ (none : length (drop BLOCK_LEN addresses) ≤ 0).
      let here : (block.last == value) ≡ true =
      subst (λ n. (n == value) ≡ true) (sym (last ∙ cut.last (omega arith))) e in
      ap (λ b. b || list_any (λ (b : BlockEntry). b.last == value) later) here)
      (cases_lt 0 (length (drop BLOCK_LEN addresses)))
    where
      or_true : (b : Bool) → (b || true) ≡ true
      or_true true = refl
      or_true false = refl

  -- where a test of a list tells of some block of its entry
  pub held_any : (test : BlockEntry → Bool) (of_list : TermList → Bool) (terms : List TermEntry) (lists : List TermList)
      → AreHeld terms lists → AllByRecursion IsList lists
      → ((entry : TermEntry) (list : TermList) → HoldsList low blob entry list → IsList list → of_list list ≡ true
      → list_any test entry.blocks ≡ true)
      → list_any of_list lists ≡ true → list_any test (all_blocks terms) ≡ true
  held_any test of_list [] [] h are tells any = absurd cc
  held_any test of_list [] (list ∷ lists) h are tells any = absurd h
  held_any test of_list (entry ∷ terms) [] h are tells any = absurd h
  held_any test of_list (entry ∷ terms) (list ∷ lists) h are tells any =
      list_any-append test entry.blocks (all_blocks terms)
      ∙ (elim (of_list list) as (λ v. of_list list ≡ v → (v || list_any of_list lists) ≡ true
      → (list_any test entry.blocks || list_any test (all_blocks terms)) ≡ true) [
        | true ↦ λ p t. ap (λ b. b || list_any test (all_blocks terms)) (tells entry list h.0 are.0 p)
        | false ↦ λ p t. ap (λ b. list_any test entry.blocks || b) (held_any test of_list terms lists h.1 are.1 tells t)
            ∙ or_true (list_any test entry.blocks)
      ] refl any)
    where
      or_true : (b : Bool) → (b || true) ≡ true
      or_true true = refl
      or_true false = refl

-- ---- the part of the lists

some_stored : (lists : List TermList) → 0 < length lists → AllByRecursion IsList lists → 0 < sum_by (λ list. length list.at) lists
some_stored [] some are = absurd (omega arith)
some_stored (list ∷ lists) some are = let count = are.0.count in omega (arith, sum_by-cons (λ (l : TermList). length l.at) list lists)

-- the highest address of the lists is below the limit, and not below the lowest
pub high_below : (low high : ℕ) (lists : List TermList) → AllByRecursion IsList lists
    → AllByRecursion (λ list. low ≤ first_of list.at) lists
    → list_any (λ list. last_of list.at == high) lists ≡ true → (low ≤ high) × (high < ADDRESSES_MAX)
high_below low high [] are begin any = absurd cc
high_below low high (list ∷ lists) are begin any =
    elim (last_of list.at == high) as (λ v. (last_of list.at == high) ≡ v → (v || list_any (λ l. last_of l.at == high) lists) ≡ true
    → (low ≤ high) × (high < ADDRESSES_MAX)) [
      | true ↦ λ p t.
          let same : last_of list.at ≡ high = eqb-true (last_of list.at) high p in
          let up = never_falls list.at are.0.ascending 0 (length list.at - 1) (omega arith) (let some = are.0.count in omega arith) in
          let least = begin.0 in
          let small = below_at list.at (length list.at - 1) are.0.below (let some = are.0.count in omega arith) in
          (omega arith, omega arith)
      | false ↦ λ p t. high_below low high lists are.1 begin.1 t
    ] refl any
  where
    below_at : (xs : List ℕ) (k : ℕ) → AllByRecursion (λ a. a < ADDRESSES_MAX) xs → k < length xs → get_or xs k 0 < ADDRESSES_MAX
    below_at [] k all inside = absurd (omega arith)
    below_at (x ∷ xs) zero all inside = all.0
    below_at (x ∷ xs) (suc k) all inside = below_at xs k all.1 (omega arith)

header_length : (n : ℕ) (header : List ℕ) → SpellsHeader n header → length header ≡ HEADER_LEN
header_length n header h = ap length h.spelled

pub part_of_lists : (lists : List TermList) (generation low high : ℕ) (header head entries blocks blob : List ℕ)
    → 0 < length lists → AllByRecursion IsList lists → IsStrictlySortedBy (slice_cmp nat_cmp) (map (λ list. list.term) lists)
    → IsDistinct eqb (flat_map (λ list. list.at) lists) → generation ≤ GENERATION_MAX
    → AllByRecursion (λ list. low ≤ first_of list.at) lists → list_any (λ list. first_of list.at == low) lists ≡ true
    → AllByRecursion (λ list. last_of list.at ≤ high) lists → list_any (λ list. last_of list.at == high) lists ≡ true
    → ((front : List ℕ) → AppendsLists low lists [] entries [] blocks front)
    → AppendsNumbers [] (generation ∷ low ∷ (high - low) ∷ sum_by (λ list. length list.at) lists ∷ length lists ∷ []) head
    → SpellsHeader (length head + length entries) header → blob ≡ header ++ (head ++ (entries ++ blocks))
    → (directory : PartDirectory) × (directory.generation ≡ generation) × SpellsPart directory lists blob
part_of_lists lists generation low high header head entries blocks blob some are ascending distinct young least first most last written
    numbers
    spelled whole =
    let front = header ++ (head ++ entries) in
    let a = written front in
    let code = head ++ entries in
    let long : length code ≡ length head + length entries = length-append head entries in
    let apart : blob ≡ header ++ (code ++ blocks) = whole ∙ ap (λ x. header ++ x) (sym (append_assoc head entries blocks)) in
    let in_front : blob ≡ front ++ blocks = apart ∙ sym (append_assoc header code blocks) in
    let held : AllZip (HoldsList low blob) a.terms lists = subst (λ x. AllZip (HoldsList low x) a.terms lists) (sym in_front) a.held in
    let bounds = high_below low high lists are least last in
    let count : length lists ≡ length a.terms = sym (held_number low blob a.terms lists held) in
    let sum = held_sum low blob a.terms lists held in
    let head_long = header_length _ header spelled in
    let size : length blob ≡ length front + length blocks = ap length in_front ∙ length-append front blocks in
    let before : length front ≡ HEADER_LEN + length code = length-append header code ∙ ap (λ x. x + length code) head_long in
    let directory : PartDirectory = record {
      generation = generation;
      low = low;
      high = high;
      stored = sum_by (λ (list : TermList). length list.at) lists;
      size = length blob;
      terms = a.terms;
    } in
    let code_is : code ≡ numbers.0 ++ entries = ap (λ x. x ++ entries) numbers.2 in (
      directory,
      refl,
      record {
        own = record {
          size = refl;
          header = header;
          code = code;
          blocks = blocks;
          whole = apart;
          header_spelled = subst (λ n. SpellsHeader n header) (sym long) spelled;
          code_spelled = record {
            holds = record {
              generation = young;
              span = bounds.0;
              below = bounds.1;
              some = some_stored lists some are;
              room = stored_within low high lists are distinct least most;
              sum = sum;
              ascending = subst (λ (x : List (List ℕ)). IsStrictlySortedBy (slice_cmp nat_cmp) x)
                  (sym (held_terms low blob a.terms lists held)) ascending;
              entries = a.hold high most;
              begin = held_any low blob (λ block. block.first == low) (λ list. first_of list.at == low) a.terms lists held are
                  (λ entry list h is e. some_begins low blob entry.blocks list.at low h.blocks is.count e) first;
              end = held_any low blob (λ block. block.last == high) (λ list. last_of list.at == high) a.terms lists held are
                  (λ entry list h is e. some_ends low blob entry.blocks list.at high h.blocks is.count is.ascending e) last;
              places = subst (λ n. StandFrom n (length blob) (all_blocks a.terms)) (omega arith)
                  (subst (λ n. StandFrom (length front + length {A = ℕ} []) n (all_blocks a.terms)) (sym size) a.places);
            };
            entries = entries;
            numbers = subst (λ (n : ℕ). StartsWithNumbers code
                (generation ∷ low ∷ (high - low) ∷ sum_by (λ (list : TermList). length list.at) lists ∷ n ∷ []) entries) count
                (subst (λ (x : List ℕ). StartsWithNumbers x
                (generation ∷ low ∷ (high - low) ∷ sum_by (λ (list : TermList). length list.at) lists ∷ length lists ∷ []) entries)
                (sym code_is)
                (numbers_longer numbers.0 [] entries
                (generation ∷ low ∷ (high - low) ∷ sum_by (λ (list : TermList). length list.at) lists ∷ length lists ∷ []) numbers.1));
            terms = subst (λ (x : List ℕ). SpellsEntries low a.terms x) (sym a.written) a.spelled;
          };
        };
        lists_held = held;
        distinct = distinct;
      },
    )

-- the addresses of all lists are few enough for 64 bits
pub stored_fits : (lists : List TermList) → AllByRecursion IsList lists → IsDistinct eqb (flat_map (λ list. list.at) lists)
    → sum_by (λ list. length list.at) lists < 2 ^ 64
stored_fits lists are d =
    let few = few_within 0 (ADDRESSES_MAX - 1) (flat_map (λ list. list.at) lists) (all_lists lists are) d in
    omega (arith, length-flat_map (λ (list : TermList). list.at) lists)
  where
    all_small : (xs : List ℕ) → AllByRecursion (λ a. a < ADDRESSES_MAX) xs → AreWithin 0 (ADDRESSES_MAX - 1) xs
    all_small [] a = tt
    all_small (x ∷ xs) a = ((omega arith, (let small = a.0 in omega arith)), all_small xs a.1)

    all_lists : (lists : List TermList) → AllByRecursion IsList lists → AreWithin 0 (ADDRESSES_MAX - 1) (flat_map (λ list. list.at) lists)
    all_lists [] are = tt
    all_lists (list ∷ lists) are =
        all_joined (λ a. (0 ≤ a) × (a ≤ ADDRESSES_MAX - 1)) list.at (flat_map (λ l. l.at) lists) (all_small list.at are.0.below)
        (all_lists lists are.1)

pub blob_turned : (blocks b1 b2 b3 b4 header head entries h e : List ℕ) (count : ℕ) → count ≡ length blocks → b1 ≡ blocks ++ header
    → b2 ≡ b1 ++ h → h ≡ head → b3 ≡ b2 ++ e → e ≡ entries → b4 ≡ drop count b3 ++ take count b3
    → b4 ≡ header ++ (head ++ (entries ++ blocks))
blob_turned blocks b1 b2 b3 b4 header head entries h e count long p1 p2 ph p3 pe p4 =
    let front = header ++ (head ++ entries) in
    let all : b3 ≡ blocks ++ front =
    p3 ∙ (ap (λ x. b2 ++ x) pe ∙ (ap (λ x. x ++ entries) (p2 ∙ (ap (λ x. b1 ++ x) ph ∙ ap (λ x. x ++ head) p1))
    ∙ (append_assoc (blocks ++ header) head entries ∙ append_assoc blocks header (head ++ entries)))) in
    let later : drop count b3 ≡ front = ap (λ n. drop n b3) long ∙ (ap (λ x. drop (length blocks) x) all ∙ drop-append_seam blocks front) in
    let first : take count b3 ≡ blocks =
    ap (λ n. take n b3) long ∙ (ap (λ x. take (length blocks) x) all ∙ take-append_seam blocks front) in
    p4 ∙ (ap (λ x. x ++ take count b3) later ∙ (ap (λ x. front ++ x) first
    ∙ (append_assoc header (head ++ entries) blocks ∙ ap (λ x. header ++ x) (append_assoc head entries blocks))))
