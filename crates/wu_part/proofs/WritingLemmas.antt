-- Lemmas on what is written of a part.
use Rattle.std.proofs.Common.{◌≡◌, ℕ, zero, suc, ◌+◌, ◌-◌, ◌<◌, ◌≤◌, ⊎_elim, List, [], ◌∷◌, ◌++◌, length, min, get_or, take, drop}
use Rattle.std.proofs.Common.{refl, ap, sym, subst, ◌∙◌, append_assoc, append-nil, length-append, length-drop, arith}
use Rattle.std.specs.Prelude.{Some, slice_range, true, false, ◌==◌}
use Rattle.std.specs.List.{flat_map, last_or}
use Rattle.std.specs.List.Sorted.{IsStrictlyIncreasing}
use Rattle.std.proofs.Math.Seq.{drop-append_seam, take-append_seam}
use Rattle.std.proofs.lemmas.Bool.{cases_lt, eqb-true}
use Rattle.std.proofs.lemmas.List.{length-take, get_or-take, get_or-drop, drop-append-le, take-append-le, take_all, at_drop_all}
use Rattle.wu_vbyte.specs.declared.blocks.TheConstants.{BLOCK_LEN}
use Rattle.wu_vbyte.specs.Numbers.{StartsWithNumber, AppendsNumber}
use Rattle.wu_vbyte.specs.Blocks.{AppendsBlock, AreFromTo}
use Rattle.wu_vbyte.proofs.BlockLemmas.{starts_longer}
use Rattle.wu_base.specs.declared.addresses.TermList.{TermList}
use Rattle.wu_part.specs.declared.entries.BlockEntry.{BlockEntry}
use Rattle.wu_part.specs.declared.entries.TermEntry.{TermEntry}
use Rattle.wu_part.specs.Directories.{IsBlock, StandFrom, all_blocks}
use Rattle.wu_part.specs.Directories.{StartsWithEntry, block_numbers}
use Rattle.wu_part.specs.Parts.{HoldBlocks, IsList}
use Rattle.wu_part.specs.Writing.{AppendsNumbers, AppendsBlocks, AppendsList, AppendsLists, first_of, last_of}
use Rattle.wu_part.proofs.ReadingLemmas.{numbers_join, numbers_longer, stand_within, stand_join}

-- ---- numbers

pub no_numbers : (old : List ℕ) → AppendsNumbers old [] old
no_numbers old = ([], refl, sym (append-nil old))

pub number_first : (old mid new : List ℕ) (n : ℕ) (ns : List ℕ) → AppendsNumber old n mid → AppendsNumbers mid ns new
    → AppendsNumbers old (n ∷ ns) new
number_first old mid new n ns a b =
    (a.0 ++ b.0, (b.0, (a.0, a.1, refl), b.1), b.2 ∙ (ap (λ x. x ++ b.0) a.2 ∙ append_assoc old a.0 b.0))

pub three_numbers_appended : (old a b new : List ℕ) (x y z other : ℕ) → AppendsNumber old x a → AppendsNumber a y b
    → AppendsNumber b other new
    → other ≡ z → AppendsNumbers old (x ∷ y ∷ z ∷ []) new
three_numbers_appended old a b new x y z other p q r e =
    number_first old a new x (y ∷ z ∷ []) p
    (number_first a b new y (z ∷ []) q (number_first b new new z [] (subst (λ n. AppendsNumber b n new) e r) (no_numbers new)))

pub five_numbers_appended : (old a b c d new : List ℕ) (v w x y z v2 y2 : ℕ) → AppendsNumber old v2 a → AppendsNumber a w b
    → AppendsNumber b x c → AppendsNumber c y2 d → AppendsNumber d z new → v2 ≡ v → y2 ≡ y → AppendsNumbers old (v ∷ w ∷ x ∷ y ∷ z ∷ []) new
five_numbers_appended old a b c d new v w x y z v2 y2 p q r s t e f =
    number_first old a new v (w ∷ x ∷ y ∷ z ∷ []) (subst (λ n. AppendsNumber old n a) e p)
    (number_first a b new w (x ∷ y ∷ z ∷ []) q
    (three_numbers_appended b c d new x y z z r (subst (λ n. AppendsNumber c n d) f s) t refl))

-- ---- ascending addresses

pub rises : (addresses : List ℕ) → IsStrictlyIncreasing addresses → (k : ℕ) → k < length addresses
    → get_or addresses 0 0 + k ≤ get_or addresses k 0
rises addresses s zero inside = omega arith
rises addresses s (suc k) inside =
    let before = rises addresses s k (omega arith) in
    let next = s k (omega arith) in
    let e : k + 1 ≡ suc k = omega arith in
    let step : get_or addresses k 0 < get_or addresses (suc k) 0 = subst (λ x. get_or addresses k 0 < get_or addresses x 0) e next in
    omega arith

-- no address is above a later one
pub never_falls : (addresses : List ℕ) → IsStrictlyIncreasing addresses → (i j : ℕ) → i ≤ j → j < length addresses
    → get_or addresses i 0 ≤ get_or addresses j 0
never_falls addresses s i zero low inside = let e : i ≡ 0 = omega arith in rw e (omega arith)
never_falls addresses s i (suc j) low inside =
    let next = s j (omega arith) in
    let e : j + 1 ≡ suc j = omega arith in
    let step : get_or addresses j 0 < get_or addresses (suc j) 0 = subst (λ x. get_or addresses j 0 < get_or addresses x 0) e next in
    ⊎_elim
    (λ (less : i < suc j). let before = never_falls addresses s i j (omega arith) (omega arith) in omega arith)
    (λ (same : suc j ≤ i). let is : i ≡ suc j = omega arith in rw is (omega arith))
    (cases_lt i (suc j))

pub first_below_last : (addresses : List ℕ) → 0 < length addresses → IsStrictlyIncreasing addresses
    → first_of addresses + (length addresses - 1) ≤ last_of addresses
first_below_last addresses some s = rises addresses s (length addresses - 1) (omega arith)

last_is : (x : ℕ) (later : List ℕ) → last_or (Some x) later ≡ Some (last_of (x ∷ later))
last_is x [] = refl
last_is x (y ∷ later) =
    let e : length (x ∷ y ∷ later) - 1 ≡ suc (length (y ∷ later) - 1) = omega arith in
    last_is y later ∙ sym (ap (λ k. Some (get_or (x ∷ y ∷ later) k 0)) e)

-- addresses go from the first to the last
pub from_to : (addresses : List ℕ) → 0 < length addresses → AreFromTo (length addresses) (first_of addresses) (last_of addresses) addresses
from_to [] some = absurd (omega arith)
from_to (x ∷ later) some = record { number = refl; begin = refl; end = last_is x later }

-- ---- where a block's bytes are

pub bytes_between : (front code back : List ℕ) (place end : ℕ) → place ≡ length front → end ≡ place + length code
    → slice_range (front ++ (code ++ back)) place end ≡ code
bytes_between front code back place end e f =
    let long : end - place ≡ length code = omega arith in
    rw (long, e, drop-append_seam front (code ++ back)) (take-append_seam code back)

-- the same of more bytes
bytes_of_more : (blob more : List ℕ) (place end : ℕ) → end ≤ length blob → slice_range (blob ++ more) place end ≡ slice_range blob place end
bytes_of_more blob more place end within =
    ⊎_elim
    (λ (s : place < end).
    let long : end - place ≤ length (drop place blob) = omega (arith, length-drop place blob) in
    rw (drop-append-le place blob more (omega arith)) (take-append-le (end - place) (drop place blob) more long))
    (λ (s : end ≤ place). let none : end - place ≡ 0 = omega arith in rw none refl)
    (cases_lt place end)

pub holds_more : (low : ℕ) (blob more : List ℕ) (place end : ℕ) (blocks : List BlockEntry) (addresses : List ℕ)
    → StandFrom place end blocks → end ≤ length blob → HoldBlocks low blob blocks addresses → HoldBlocks low (blob ++ more) blocks addresses
holds_more low blob more place end [] addresses s within h = h
holds_more low blob more place end (block ∷ later) addresses s within h =
    let after = stand_within (place + block.len) end later s.1 in
    let begin = s.0 in
    let same = bytes_of_more blob more block.at (block.at + block.len) (omega arith) in (
      record { spelled = rw same h.0.spelled; span = h.0.span },
      holds_more low blob more (place + block.len) end later (drop BLOCK_LEN addresses) s.1 within h.1,
    )

-- ---- the blocks of a list

-- a list's first block, of the addresses that it takes
block_holds : (addresses : List ℕ) (from high : ℕ) (place len : ℕ) → 0 < length addresses → IsStrictlyIncreasing addresses
    → from ≤ first_of addresses → last_of addresses ≤ high → (count : ℕ) → count ≡ length addresses
    → IsBlock from high count (record { first = first_of addresses; last = last_of addresses; at = place; len = len })
block_holds addresses from high place len some s begin end count e =
    let span = first_below_last addresses some s in
    record {
      begin = begin;
      end = end;
      room = omega arith;
      single = λ one. let n : length addresses - 1 ≡ 0 = omega arith in ap (λ x. get_or addresses x 0) n;
    }

-- the addresses of the first block, and those after it
pub record IsCut (addresses chunk later : List ℕ) : Type 0 where
  pub first : first_of chunk ≡ first_of addresses
  pub count : length chunk ≡ min (length addresses) BLOCK_LEN
  pub left : length later ≡ length addresses - BLOCK_LEN
  pub last : length later ≡ 0 → last_of chunk ≡ last_of addresses
  pub next : 0 < length later → last_of chunk < first_of later
  pub end : 0 < length later → last_of later ≡ last_of addresses

pub cut_of : (addresses : List ℕ) → 0 < length addresses → IsStrictlyIncreasing addresses
    → IsCut addresses (take BLOCK_LEN addresses) (drop BLOCK_LEN addresses)
cut_of addresses some s =
    let chunk_long : length (take BLOCK_LEN addresses) ≡ min BLOCK_LEN (length addresses) = length-take BLOCK_LEN addresses in
    let later_long : length (drop BLOCK_LEN addresses) ≡ length addresses - BLOCK_LEN = length-drop BLOCK_LEN addresses in
    record {
      first = get_or-take BLOCK_LEN addresses 0 0 (omega arith);
      count = omega arith;
      left = later_long;
      last = λ none.
          let n : length (take BLOCK_LEN addresses) - 1 ≡ length addresses - 1 = omega arith in
          ap (λ x. get_or (take BLOCK_LEN addresses) x 0) n ∙ get_or-take BLOCK_LEN addresses (length addresses - 1) 0 (omega arith);
      next = λ more.
          let n : length (take BLOCK_LEN addresses) - 1 ≡ 127 = omega arith in
          let last : last_of (take BLOCK_LEN addresses) ≡ get_or addresses 127 0 =
          ap (λ x. get_or (take BLOCK_LEN addresses) x 0) n ∙ get_or-take BLOCK_LEN addresses 127 0 (omega arith) in
          let first : first_of (drop BLOCK_LEN addresses) ≡ get_or addresses 128 0 = get_or-drop BLOCK_LEN addresses 0 0 in
          let up : get_or addresses 127 0 < get_or addresses 128 0 = s 127 (omega arith) in
          rw (last, first) up;
      end = λ more.
          let n : BLOCK_LEN + (length (drop BLOCK_LEN addresses) - 1) ≡ length addresses - 1 = omega arith in
          get_or-drop BLOCK_LEN addresses (length (drop BLOCK_LEN addresses) - 1) 0 ∙ ap (λ x. get_or addresses x 0) n;
    }

pub blocks_none : (low : ℕ) (old before front : List ℕ) → AppendsBlocks low [] old old before before front
blocks_none low old before front = record {
  blocks = [];
  numbers = no_numbers old;
  more = [];
  grown = sym (append-nil before);
  places = refl;
  held = refl;
  cover = λ from high begin end. refl;
}

-- a block, and then those of the later addresses
pub blocks_first : (low : ℕ) (addresses old mid new before middle after front : List ℕ) → 0 < length addresses
    → IsStrictlyIncreasing addresses → IsStrictlyIncreasing (take BLOCK_LEN addresses)
    → AppendsBlock before low (take BLOCK_LEN addresses) middle
    → AppendsNumbers old
    ((first_of (take BLOCK_LEN addresses) - low) ∷ (last_of (take BLOCK_LEN addresses) - first_of (take BLOCK_LEN addresses))
    ∷ (length middle - length before) ∷ []) mid
    → AppendsBlocks low (drop BLOCK_LEN addresses) mid new middle after front
    → AppendsBlocks low addresses old new before after front
blocks_first low addresses old mid new before middle after front some s chunk_s b n a =
    let chunk = take BLOCK_LEN addresses in
    let later = drop BLOCK_LEN addresses in
    let cut = cut_of addresses some s in
    let chunk_some : 0 < length chunk = omega (arith, cut.count) in
    let long : length middle ≡ length before + length b.0 = ap length b.2 ∙ length-append before b.0 in
    let block : BlockEntry = record {
      first = first_of chunk;
      last = last_of chunk;
      at = length front + length before;
      len = length middle - length before;
    } in
    let whole : front ++ after ≡ (front ++ before) ++ (b.0 ++ a.more) =
    ap (λ x. front ++ x) (a.grown ∙ (ap (λ x. x ++ a.more) b.2 ∙ append_assoc before b.0 a.more))
    ∙ sym (append_assoc front before (b.0 ++ a.more)) in
    let bytes : slice_range (front ++ after) block.at (block.at + block.len) ≡ b.0 =
    ap (λ x. slice_range x block.at (block.at + block.len)) whole
    ∙ bytes_between (front ++ before) b.0 a.more block.at (block.at + block.len) (sym (length-append front before)) (omega arith) in
    record {
      blocks = block ∷ a.blocks;
      numbers = (
        n.0 ++ a.numbers.0,
        numbers_join (n.0 ++ a.numbers.0) a.numbers.0 [] (block_numbers low block) (flat_map (block_numbers low) a.blocks)
            (numbers_longer n.0 [] a.numbers.0 (block_numbers low block) n.1) a.numbers.1,
        a.numbers.2 ∙ (ap (λ x. x ++ a.numbers.0) n.2 ∙ append_assoc old n.0 a.numbers.0),
      );
      more = b.0 ++ a.more;
      grown = a.grown ∙ (ap (λ x. x ++ a.more) b.2 ∙ append_assoc before b.0 a.more);
      places = (refl, subst (λ x. StandFrom x (length front + length after) a.blocks) (omega arith) a.places);
      held = (record { spelled = rw bytes b.1; span = from_to chunk chunk_some }, a.held);
      cover = λ from high begin end.
          let first = begin some in
          let last = end some in (
            some,
            block_holds chunk from high block.at block.len chunk_some chunk_s (omega (arith, cut.first)) (last_within last)
                (min (length addresses) BLOCK_LEN) (sym cut.count),
            rw (sym cut.left) (a.cover (last_of chunk + 1) high (λ more. omega (arith, cut.next more)) (λ more. rw (cut.end more) last)),
          );
    }
  where
    last_within : {high : ℕ} → last_of addresses ≤ high → last_of (take BLOCK_LEN addresses) ≤ high
    last_within last =
        let cut = cut_of addresses some s in
        let place : length (take BLOCK_LEN addresses) - 1 ≤ length addresses - 1 = omega (arith, cut.count) in
        let same = get_or-take BLOCK_LEN addresses (length (take BLOCK_LEN addresses) - 1) 0 (omega (arith, cut.count)) in
        let up = never_falls addresses s (length (take BLOCK_LEN addresses) - 1) (length addresses - 1) place (omega arith) in
        omega arith

taken_up_to : (addresses : List ℕ) (n m : ℕ) → m ≡ min (length addresses) n
    → (take m addresses ≡ take n addresses) × (drop m addresses ≡ drop n addresses)
taken_up_to addresses n m e =
    ⊎_elim
    (λ (s : n < length addresses). let is : m ≡ n = omega arith in (ap (λ x. take x addresses) is, ap (λ x. drop x addresses) is))
    (λ (s : length addresses ≤ n). (
      take_all m addresses (omega arith) ∙ sym (take_all n addresses s),
      at_drop_all (λ left. left) addresses m (omega arith) ∙ sym (at_drop_all (λ left. left) addresses n s),
    ))
    (cases_lt n (length addresses))

pub increasing_dropped : (addresses : List ℕ) (n : ℕ) → IsStrictlyIncreasing addresses → IsStrictlyIncreasing (drop n addresses)
increasing_dropped addresses n s k inside =
    let long = length-drop n addresses in
    let e : n + (k + 1) ≡ n + k + 1 = omega arith in
    let up = s (n + k) (omega arith) in
    rw (get_or-drop n addresses k 0, get_or-drop n addresses (k + 1) 0, e) up

increasing_taken : (addresses : List ℕ) (n : ℕ) → IsStrictlyIncreasing addresses → IsStrictlyIncreasing (take n addresses)
increasing_taken addresses n s k inside =
    let long = length-take n addresses in
    let up = s k (omega arith) in
    rw (get_or-take n addresses k 0 (omega arith), get_or-take n addresses (k + 1) 0 (omega arith)) up

-- the addresses that are left, and what is to be appended of them
pub record LeftToAppend (low : ℕ) (addresses rest old now before middle : List ℕ) : Type 0 where
  pub ascending : IsStrictlyIncreasing rest
  pub begin : 0 < length rest → low ≤ first_of rest
  pub whole : (front new after : List ℕ) → AppendsBlocks low rest now new middle after front
      → AppendsBlocks low addresses old new before after front

pub all_left : (low : ℕ) (addresses old before : List ℕ) → IsStrictlyIncreasing addresses
    → (0 < length addresses → low ≤ first_of addresses)
    → LeftToAppend low addresses addresses old old before before
all_left low addresses old before s l = record { ascending = s; begin = l; whole = λ front new after a. a }

pub chunk_appended : (low : ℕ) (addresses rest old now mid before middle further chunk later : List ℕ) (n : ℕ)
    → LeftToAppend low addresses rest old now before middle → 0 < length rest
    → n ≡ min (length rest) BLOCK_LEN → chunk ≡ take n rest → later ≡ drop n rest
    → AppendsBlock middle low chunk further
    → AppendsNumbers now ((first_of chunk - low) ∷ (last_of chunk - first_of chunk) ∷ (length further - length middle) ∷ []) mid
    → LeftToAppend low addresses later old mid before further
chunk_appended low addresses rest old now mid before middle further chunk later n t some e p q b m =
    let is = taken_up_to rest BLOCK_LEN n e in
    let block = subst (λ x. AppendsBlock middle low x further) (p ∙ is.0) b in
    let numbers = subst (λ x. AppendsNumbers now ((first_of x - low) ∷ (last_of x - first_of x) ∷
    (length further - length middle) ∷ []) mid)
    (p ∙ is.0) m in
    subst (λ x. LeftToAppend low addresses x old mid before further) (sym (q ∙ is.1)) (record {
      ascending = increasing_dropped rest BLOCK_LEN t.ascending;
      begin = λ more.
          let long = length-drop BLOCK_LEN rest in
          let first : first_of (drop BLOCK_LEN rest) ≡ get_or rest 128 0 = get_or-drop BLOCK_LEN rest 0 0 in
          let up = never_falls rest t.ascending 0 128 (omega arith) (omega arith) in
          omega (arith, t.begin some);
      whole = λ front new after a.
          t.whole front new after
          (blocks_first low rest now mid new middle further after front some t.ascending (increasing_taken rest BLOCK_LEN t.ascending)
          block numbers a);
    })

pub none_left : (low : ℕ) (addresses rest old now before middle : List ℕ) → LeftToAppend low addresses rest old now before middle
    → rest ≡ []
    → (front : List ℕ) → AppendsBlocks low addresses old now before middle front
none_left low addresses rest old now before middle t none front =
    t.whole front now middle (subst (λ x. AppendsBlocks low x now now middle middle front) (sym none) (blocks_none low now middle front))

pub told_empty : (xs : List ℕ) → true ≡ (length xs == 0) → xs ≡ []
told_empty [] e = refl
told_empty (x ∷ xs) e = let none : length (x ∷ xs) ≡ 0 = eqb-true (length (x ∷ xs)) 0 (sym e) in absurd (omega arith)

pub told_some : (xs : List ℕ) → false ≡ (length xs == 0) → 0 < length xs
told_some [] e = absurd cc
told_some (x ∷ xs) e = omega arith

-- ---- the entry of a term

pub list_appended : (low : ℕ) (list : TermList) (old a b c new before after front : List ℕ) → IsList list
    → AppendsNumber old (length list.term) a → b ≡ a ++ list.term → AppendsNumber b (length list.at) c
    → AppendsBlocks low list.at c new before after front → low ≤ first_of list.at
    → AppendsList low list old new before after front
list_appended low list old a b c new before after front is p e q m within =
    let entry : TermEntry = record { term = list.term; count = length list.at; blocks = m.blocks } in
    let left = q.0 ++ m.numbers.0 in
    record {
      entry = entry;
      code = p.0 ++ (list.term ++ left);
      written =
          m.numbers.2 ∙ (ap (λ x. x ++ m.numbers.0) (q.2 ∙ (ap (λ x. x ++ q.0) (e ∙ ap (λ x. x ++ list.term) p.2)))
          ∙ (append_assoc ((old ++ p.0) ++ list.term) q.0 m.numbers.0
          ∙ (append_assoc (old ++ p.0) list.term left ∙ append_assoc old p.0 (list.term ++ left))));
      spelled = (left, (p.0, p.1, refl), (m.numbers.0, (q.0, q.1, refl), m.numbers.1));
      more = m.more;
      grown = m.grown;
      places = m.places;
      held = record { term = refl; count = refl; blocks = m.held };
      holds = λ high last. record {
        some = is.some;
        short = is.short;
        count = is.count;
        cut = m.cover low high (λ more. within) (λ more. last);
      };
    }

-- ---- the entries of several terms

pub entry_longer : (low : ℕ) (bytes : List ℕ) (entry : TermEntry) (rest more : List ℕ) → StartsWithEntry low bytes entry rest
    → StartsWithEntry low (bytes ++ more) entry (rest ++ more)
entry_longer low bytes entry rest more s = (
  s.0 ++ more,
  subst (λ x. StartsWithNumber (bytes ++ more) (length entry.term) x) (append_assoc entry.term s.0 more)
      (starts_longer bytes (length entry.term) (entry.term ++ s.0) more s.1),
  numbers_longer s.0 rest more (entry.count ∷ flat_map (block_numbers low) entry.blocks) s.2,
)

pub lists_none : (low : ℕ) (old before front : List ℕ) → AppendsLists low [] old old before before front
lists_none low old before front = record {
  terms = [];
  code = [];
  written = sym (append-nil old);
  spelled = refl;
  more = [];
  grown = sym (append-nil before);
  places = refl;
  held = tt;
  hold = λ high all. tt;
}

pub lists_first : (low : ℕ) (list : TermList) (lists : List TermList) (old mid new before middle after front : List ℕ)
    → AppendsList low list old mid before middle front → AppendsLists low lists mid new middle after front
    → AppendsLists low (list ∷ lists) old new before after front
lists_first low list lists old mid new before middle after front a m = record {
  terms = a.entry ∷ m.terms;
  code = a.code ++ m.code;
  written = m.written ∙ (ap (λ x. x ++ m.code) a.written ∙ append_assoc old a.code m.code);
  spelled = (m.code, entry_longer low a.code a.entry [] m.code a.spelled, m.spelled);
  more = a.more ++ m.more;
  grown = m.grown ∙ (ap (λ x. x ++ m.more) a.grown ∙ append_assoc before a.more m.more);
  places = stand_join (length front + length before) (length front + length middle) (length front + length after) a.entry.blocks
      (all_blocks m.terms) a.places m.places;
  held = (
    record {
      term = a.held.term;
      count = a.held.count;
      blocks = subst (λ x. HoldBlocks low x a.entry.blocks list.at) (append_assoc front middle m.more ∙ sym (ap (λ x. front ++ x) m.grown))
          (holds_more low (front ++ middle) m.more (length front + length before)
          (length front + length middle) a.entry.blocks list.at a.places
          (omega (arith, length-append front middle)) a.held.blocks);
    },
    m.held,
  );
  hold = λ high all. (a.holds high all.0, m.hold high all.1);
}
