-- Lemmas on spelled blocks.
use Rattle.std.proofs.Common.{◌≡◌, ℕ, suc, ◌+◌, ◌-◌, ◌<◌, ◌≤◌, List, [], ◌∷◌, ◌++◌, length, get_or, drop, Option, Some, None, refl}
use Rattle.std.proofs.Common.{ap, sym, Bool, true, false, MatchBool}
use Rattle.std.proofs.Common.{◌∙◌, append_assoc, append-nil, length-append, ◌⊎◌, ⊎_elim, arith}
use Rattle.std.specs.Prelude.{slice_get}
use Rattle.std.specs.List.{last_or}
use Rattle.std.specs.List.Sorted.{IsStrictlyIncreasing}
use Rattle.std.proofs.lemmas.List.{drop_more, at_drop_all}
use Rattle.wu_vbyte.specs.Numbers.{StartsWithNumber, AppendsNumber}
use Rattle.wu_vbyte.specs.Blocks.{SpellsGaps, SpellsBlock, SpellsAfterFirst, AppendsBlock, AreFromTo}
use Rattle.wu_vbyte.proofs.NumberLemmas.{one_number, has_spelling, starts_not_empty, code_longer, code_of_value}

pub match_weaker : {P Q R S : Type 0} → (b : Bool) → (P → R) → (Q → S) → MatchBool b P Q → MatchBool b R S
match_weaker true one other h = one h
match_weaker false one other h = other h

-- ---- what starts with a number

pub starts_longer : (bytes : List ℕ) (n : ℕ) (rest more : List ℕ) → StartsWithNumber bytes n rest
    → StartsWithNumber (bytes ++ more) n (rest ++ more)
starts_longer bytes n rest more s = (s.0, s.1, rw s.2 (append_assoc s.0 rest more))

pub starts_length : (bytes : List ℕ) (n : ℕ) (rest : List ℕ) → StartsWithNumber bytes n rest → length rest + 1 ≤ length bytes
starts_length bytes n rest s = let longer = code_longer n s.0 s.1 in rw s.2 (omega (arith, length-append s.0 rest))

-- ---- one spelling for each block, one block for each spelling

pub gaps_code : (before : ℕ) (later code other : List ℕ) → SpellsGaps before later code → SpellsGaps before later other → code ≡ other
gaps_code before [] code other s t = s ∙ sym t
gaps_code before (a ∷ later) code other s t =
    let one = code_of_value s.2.0 t.2.0 s.2.1.form t.2.1.form (s.2.1.value ∙ sym t.2.1.value) in
    s.2.2 ∙ (ap (λ front. front ++ s.1) one ∙ (ap (λ rest. t.2.0 ++ rest) (gaps_code a later s.1 t.1 s.3 t.3) ∙ sym t.2.2))

pub block_code : (low : ℕ) (addresses code other : List ℕ) → SpellsBlock low addresses code → SpellsBlock low addresses other → code ≡ other
block_code low [] code other s t = absurd s
block_code low (a ∷ later) code other s t =
    let one = code_of_value s.2.0 t.2.0 s.2.1.form t.2.1.form (s.2.1.value ∙ sym t.2.1.value) in
    s.2.2 ∙ (ap (λ front. front ++ s.1) one ∙ (ap (λ rest. t.2.0 ++ rest) (gaps_code a later s.1 t.1 s.3 t.3) ∙ sym t.2.2))

first_same : (a b : ℕ) (later others : List ℕ) → a ≡ b → later ≡ others → a ∷ later ≡ b ∷ others
first_same a b later others e h = ap (λ address. address ∷ later) e ∙ ap (λ (rest : List ℕ). b ∷ rest) h

pub gaps_same : (before : ℕ) (later others code : List ℕ) → SpellsGaps before later code → SpellsGaps before others code → later ≡ others
gaps_same before [] [] code s t = refl
gaps_same before [] (b ∷ others) code s t = absurd (starts_not_empty (b - before) t.1 (rw s at t.2))
gaps_same before (a ∷ later) [] code s t = absurd (starts_not_empty (a - before) s.1 (rw t at s.2))
gaps_same before (a ∷ later) (b ∷ others) code s t =
    let one = one_number code (a - before) (b - before) s.1 t.1 s.2 t.2 in
    let distance = one.0 in
    let above = s.0 in
    let over = t.0 in
    let same : a ≡ b = omega arith in
    first_same a b later others same
    (gaps_same b later others t.1 (rw same at (rw one.1 at s.3)) t.3)

pub block_same : (low : ℕ) (addresses others code : List ℕ) → SpellsBlock low addresses code → SpellsBlock low others code
    → addresses ≡ others
block_same low [] others code s t = absurd s
block_same low (a ∷ later) [] code s t = absurd t
block_same low (a ∷ later) (b ∷ others) code s t =
    let one = one_number code (a - low) (b - low) s.1 t.1 s.2 t.2 in
    let distance = one.0 in
    let above = s.0 in
    let over = t.0 in
    let same : a ≡ b = omega arith in
    first_same a b later others same
    (gaps_same b later others t.1 (rw same at (rw one.1 at s.3)) t.3)

pub gaps_apart : (before : ℕ) (later others code other rest left : List ℕ) → SpellsGaps before later code → SpellsGaps before others other
    → length later ≡ length others → code ++ rest ≡ other ++ left → (later ≡ others) × (rest ≡ left)
gaps_apart before [] [] code other rest left s t l e = (refl, rw (s, t) at e)
gaps_apart before [] (b ∷ others) code other rest left s t l e = absurd (omega arith)
gaps_apart before (a ∷ later) [] code other rest left s t l e = absurd (omega arith)
gaps_apart before (a ∷ later) (b ∷ others) code other rest left s t l e =
    let longer = starts_longer other (b - before) t.1 left t.2 in
    let one = one_number (code ++ rest) (a - before) (b - before) (s.1 ++ rest) (t.1 ++ left)
    (starts_longer code (a - before) s.1 rest s.2) (rw (sym e) at longer) in
    let distance = one.0 in
    let above = s.0 in
    let over = t.0 in
    let same : a ≡ b = omega arith in
    let more = gaps_apart b later others s.1 t.1 rest left (rw same at s.3) t.3 (omega arith) one.1 in
    (first_same a b later others same more.0, more.1)

pub block_apart : (low : ℕ) (addresses others code other rest left : List ℕ) → SpellsBlock low addresses code → SpellsBlock low others other
    → length addresses ≡ length others → code ++ rest ≡ other ++ left → (addresses ≡ others) × (rest ≡ left)
block_apart low [] others code other rest left s t l e = absurd s
block_apart low (a ∷ later) [] code other rest left s t l e = absurd t
block_apart low (a ∷ later) (b ∷ others) code other rest left s t l e =
    let longer = starts_longer other (b - low) t.1 left t.2 in
    let one = one_number (code ++ rest) (a - low) (b - low) (s.1 ++ rest) (t.1 ++ left)
    (starts_longer code (a - low) s.1 rest s.2) (rw (sym e) at longer) in
    let distance = one.0 in
    let above = s.0 in
    let over = t.0 in
    let same : a ≡ b = omega arith in
    let more = gaps_apart b later others s.1 t.1 rest left (rw same at s.3) t.3 (omega arith) one.1 in
    (first_same a b later others same more.0, more.1)

increasing_later : (a : ℕ) (later : List ℕ) → IsStrictlyIncreasing (a ∷ later) → IsStrictlyIncreasing later
increasing_later a later h k inside =
    let next : suc k + 1 ≡ suc (k + 1) = omega arith in
    let rises = h (suc k) (omega arith) in
    rw next at rises

pub has_gaps : (before : ℕ) (later : List ℕ) → IsStrictlyIncreasing (before ∷ later) → (code : List ℕ) × SpellsGaps before later code
has_gaps before [] h = ([], refl)
has_gaps before (a ∷ later) h =
    let more = has_gaps a later (increasing_later before (a ∷ later) h) in
    let front = has_spelling (a - before) (a - before) (omega arith) in
    (front.0 ++ more.0, (h 0 (omega arith), more.0, (front.0, front.1, refl), more.1))

pub has_block : (low : ℕ) (addresses : List ℕ) → 0 < length addresses → low ≤ get_or addresses 0 0 → IsStrictlyIncreasing addresses
    → (code : List ℕ) × SpellsBlock low addresses code
has_block low [] some from h = absurd (omega arith)
has_block low (a ∷ later) some from h =
    let more = has_gaps a later h in
    let front = has_spelling (a - low) (a - low) (omega arith) in
    (front.0 ++ more.0, (from, more.0, (front.0, front.1, refl), more.1))

-- ---- writing

-- where the later addresses' spelling completes the block's
pub record Completes (old : List ℕ) (low : ℕ) (addresses out : List ℕ) (before : ℕ) (later : List ℕ) : Type 0 where
  pub block : (code : List ℕ) → SpellsGaps before later code → AppendsBlock old low addresses (out ++ code)
  pub begun : (more : List ℕ) × (out ≡ old ++ more)

pub completes_first : (old : List ℕ) (low : ℕ) (addresses out : List ℕ) (d : ℕ) → 0 < length addresses → low ≤ get_or addresses 0 0
    → d ≡ get_or addresses 0 0 - low → AppendsNumber old d out → Completes old low addresses out (get_or addresses 0 0) (drop 1 addresses)
completes_first old low [] out d some from e s = absurd (omega arith)
completes_first old low (a ∷ later) out d some from e s = record {
  block = λ code g. (s.0 ++ code, (from, code, (s.0, rw e at s.1, refl), g), rw s.2 (append_assoc old s.0 code));
  begun = (s.0, s.2);
}

pub completes_next : (old : List ℕ) (low : ℕ) (addresses out new : List ℕ) (before a d : ℕ) (later : List ℕ)
    → Completes old low addresses out before (a ∷ later) → before < a → d ≡ a - before → AppendsNumber out d new
    → Completes old low addresses new a later
completes_next old low addresses out new before a d later c above e s = record {
  block = λ code g.
      rw (s.2, append_assoc out s.0 code) (c.block (s.0 ++ code) (above, code, (s.0, rw e at s.1, refl), g));
  begun = (c.begun.0 ++ s.0, rw (s.2, c.begun.1) (append_assoc old c.begun.0 s.0));
}

pub completes_all : (old : List ℕ) (low : ℕ) (addresses out : List ℕ) (before : ℕ) → Completes old low addresses out before []
    → AppendsBlock old low addresses out
completes_all old low addresses out before c = rw (append-nil out) at (c.block [] refl)

pub completes_step : (old : List ℕ) (low : ℕ) (addresses out new : List ℕ) (place : ℕ)
    → Completes old low addresses out (get_or addresses (place - 1) 0) (drop place addresses) → 1 ≤ place → place < length addresses
    → IsStrictlyIncreasing addresses
    → AppendsNumber out (get_or addresses place 0 - get_or addresses (place - 1) 0) new
    → Completes old low addresses new (get_or addresses (place + 1 - 1) 0) (drop (place + 1) addresses)
completes_step old low addresses out new place c some inside h s =
    let this : place - 1 + 1 ≡ place = omega arith in
    let next : place + 1 - 1 ≡ place = omega arith in
    let rises = h (place - 1) (omega arith) in
    rw next (completes_next old low addresses out new (get_or addresses (place - 1) 0) (get_or addresses place 0) _
    (drop (place + 1) addresses)
    (rw (drop_more addresses place 0 inside) at c) (rw this at rises) refl s)

pub completes_end : (old : List ℕ) (low : ℕ) (addresses out : List ℕ) (before place : ℕ)
    → Completes old low addresses out before (drop place addresses) → length addresses ≤ place → AppendsBlock old low addresses out
completes_end old low addresses out before place c over =
    completes_all old low addresses out before (rw (at_drop_all (λ left. left) addresses place over) at c)

-- ---- reading

pub gaps_length : (before : ℕ) (later bytes : List ℕ) → SpellsGaps before later bytes → length later ≤ length bytes
gaps_length before [] bytes s = omega arith
gaps_length before (a ∷ later) bytes s = omega (arith, gaps_length a later s.1 s.3, starts_length bytes (a - before) s.1 s.2)

-- each address takes a byte at least
pub block_length : (low : ℕ) (addresses bytes : List ℕ) → SpellsBlock low addresses bytes → length addresses ≤ length bytes
block_length low [] bytes s = absurd s
block_length low (a ∷ later) bytes s = omega (arith, gaps_length a later s.1 s.3, starts_length bytes (a - low) s.1 s.2)

pub block_some : (low : ℕ) (addresses bytes : List ℕ) → SpellsBlock low addresses bytes → 0 < length addresses
block_some low [] bytes s = absurd s
block_some low (a ∷ later) bytes s = omega arith

some_same : (a b : ℕ) → Some a ≡ Some b → a ≡ b
some_same a b e = cc

gaps_within : (before last : ℕ) (later bytes : List ℕ) → SpellsGaps before later bytes → last_or (Some before) later ≡ Some last
    → before ≤ last
gaps_within before last [] bytes s e = let same = some_same before last e in omega arith
gaps_within before last (a ∷ later) bytes s e = let more = gaps_within a last later s.1 s.3 e in omega (arith, s.0)

-- the first number is that of the first address, which is at most the last
pub block_first : (low count first last : ℕ) (addresses bytes : List ℕ) → SpellsBlock low addresses bytes
    → AreFromTo count first last addresses
    → (low ≤ first) × (first ≤ last) × (rest : List ℕ) × StartsWithNumber bytes (first - low) rest
block_first low count first last [] bytes s a = absurd s
block_first low count first last (address ∷ later) bytes s a =
    let same : address ≡ first = some_same address first a.begin in
    let within = gaps_within address last later s.1 s.3 a.end in
    (rw same at s.0, rw same at within, s.1, rw same at s.2)

-- the first address's number, and then the later ones
pub block_of_later : (low first : ℕ) (addresses bytes rest : List ℕ) → low ≤ first → StartsWithNumber bytes (first - low) rest
    → SpellsAfterFirst first addresses rest → SpellsBlock low addresses bytes
block_of_later low first [] bytes rest from s t = absurd t
block_of_later low first (address ∷ later) bytes rest from s t =
    let same = t.0 in
    (rw same from, rest, rw same s, rw same t.1)

pub later_of_block : (low count first last : ℕ) (addresses bytes rest : List ℕ) → StartsWithNumber bytes (first - low) rest
    → SpellsBlock low addresses bytes → AreFromTo count first last addresses → SpellsAfterFirst first addresses rest
later_of_block low count first last [] bytes rest s b f = absurd b
later_of_block low count first last (address ∷ later) bytes rest s b f =
    let same : address ≡ first = some_same address first f.begin in
    let one = one_number bytes (first - low) (first - low) b.1 rest (rw same at b.2) s in
    (same, rw (same, one.1) at b.3)

pub later_within : (count first last : ℕ) (all bytes : List ℕ) → SpellsAfterFirst first all bytes → AreFromTo count first last all
    → first ≤ last
later_within count first last [] bytes b f = absurd b
later_within count first last (address ∷ later) bytes b f =
    let more = gaps_within address last later bytes (rw (sym b.0) at b.1) f.end in rw b.0 at more

pub later_counted : (count first last : ℕ) (all bytes : List ℕ) → SpellsAfterFirst first all bytes → AreFromTo count first last all
    → 0 < count
later_counted count first last [] bytes b f = absurd b
later_counted count first last (address ∷ later) bytes b f = omega (arith, f.number)

-- the addresses that were taken, of which the last is before, and the bytes that are left for the later ones
pub record Taken (first last : ℕ) (bytes rest taken : List ℕ) (before : ℕ) : Type 0 where
  pub within : before ≤ last
  pub begin : slice_get taken 0 ≡ Some first
  pub end : last_or None taken ≡ Some before
  pub on : (later : List ℕ) → SpellsGaps before later rest → SpellsAfterFirst first (taken ++ later) bytes
  pub back : (all : List ℕ) → SpellsAfterFirst first all bytes
      → (later : List ℕ) × (all ≡ taken ++ later) × SpellsGaps before later rest

pub taken_first : (first last : ℕ) (bytes : List ℕ) → first ≤ last → Taken first last bytes bytes (first ∷ []) first
taken_first first last bytes within = record {
  within = within;
  begin = refl;
  end = refl;
  on = λ later g. (refl, g);
  back = first_back;
}
  where
    first_back : (all : List ℕ) → SpellsAfterFirst first all bytes → (later : List ℕ) × (all ≡ first ∷ later) × SpellsGaps first later bytes
    first_back [] t = absurd t
    first_back (address ∷ later) t = (later, ap (λ x. x ∷ later) t.0, t.1)

last_after : (o : Option ℕ) (xs ys : List ℕ) → last_or o (xs ++ ys) ≡ last_or (last_or o xs) ys
last_after o [] ys = refl
last_after o (x ∷ xs) ys = last_after (Some x) xs ys

begin_more : (first : ℕ) (taken more : List ℕ) → slice_get taken 0 ≡ Some first → slice_get (taken ++ more) 0 ≡ Some first
begin_more first [] more e = cc
begin_more first (x ∷ taken) more e = e

pub taken_next : (first last : ℕ) (bytes rest left taken new : List ℕ) (before a : ℕ)
    → Taken first last bytes rest taken before
    → before < a → a ≤ last → StartsWithNumber rest (a - before) left → new ≡ taken ++ a ∷ [] → Taken first last bytes left new a
taken_next first last bytes rest left taken new before a t above within s e = rw e (record {
  within = within;
  begin = begin_more first taken (a ∷ []) t.begin;
  end = last_after None taken (a ∷ []);
  on = λ later g. rw (append_assoc taken (a ∷ []) later) (t.on (a ∷ later) (above, left, s, g));
  back = λ all b. let h = t.back all b in next_back all h.0 h.1 h.2;
})
  where
    next_back : (all later : List ℕ) → all ≡ taken ++ later → SpellsGaps before later rest
        → (more : List ℕ) × (all ≡ (taken ++ a ∷ []) ++ more) × SpellsGaps a more left
    next_back all [] is g = absurd (starts_not_empty (a - before) left (rw g at s))
    next_back all (b ∷ more) is g =
        let one = one_number rest (b - before) (a - before) g.1 left g.2 s in
        let distance = one.0 in
        let over = g.0 in
        let same : b ≡ a = omega arith in
        (more, is ∙ (ap (λ x. taken ++ x ∷ more) same ∙ sym (append_assoc taken (a ∷ []) more)), rw (same, one.1) at g.3)

-- all addresses are taken, and all bytes
pub taken_all : (count first limit last : ℕ) (bytes taken : List ℕ) (before : ℕ) → Taken first limit bytes [] taken before
    → length taken ≡ count → before ≡ last → SpellsAfterFirst first taken bytes × AreFromTo count first last taken
taken_all count first limit last bytes taken before t number same =
    (rw (append-nil taken) at (t.on [] refl), record { number = number; begin = t.begin; end = t.end ∙ ap Some same })

-- as many addresses are taken as the block has: they are its addresses
pub taken_whole : (count first limit last : ℕ) (bytes rest taken all : List ℕ) (before : ℕ) → Taken first limit bytes rest taken before
    → length taken ≡ count → SpellsAfterFirst first all bytes → AreFromTo count first last all → taken ≡ all
taken_whole count first limit last bytes rest taken all before t number b f = let h = t.back all b in whole h.0 h.1
  where
    whole : (later : List ℕ) → all ≡ taken ++ later → taken ≡ all
    whole [] is = sym (is ∙ append-nil taken)
    whole (a ∷ later) is =
        let longer : length all ≡ length taken + length (a ∷ later) = rw is (length-append taken (a ∷ later)) in
        absurd (omega (arith, f.number))

-- all bytes are taken: so are the block's addresses
pub taken_end : (first limit : ℕ) (bytes taken all : List ℕ) (before : ℕ) → Taken first limit bytes [] taken before
    → SpellsAfterFirst first all bytes → taken ≡ all
taken_end first limit bytes taken all before t b = let h = t.back all b in whole h.0 h.1 h.2
  where
    whole : (later : List ℕ) → all ≡ taken ++ later → SpellsGaps before later [] → taken ≡ all
    whole [] is g = sym (is ∙ append-nil taken)
    whole (a ∷ later) is g = absurd (starts_not_empty (a - before) g.1 g.2)

-- all addresses are taken, and either bytes are left or the last address is another one
pub taken_not_all : (count first last : ℕ) (bytes rest taken : List ℕ) (before : ℕ) → Taken first last bytes rest taken before
    → length taken ≡ count → (rest ≡ [] → before ≡ last → ⊥) → (all : List ℕ) → SpellsAfterFirst first all bytes
    → AreFromTo count first last all → ⊥
taken_not_all count first last bytes rest taken before t number other all b f = let h = t.back all b in none h.0 h.1 h.2
  where
    none : (later : List ℕ) → all ≡ taken ++ later → SpellsGaps before later rest → ⊥
    none [] is g =
        let whole : all ≡ taken = is ∙ append-nil taken in
        other g (some_same before last (sym t.end ∙ (ap (last_or None) (sym whole) ∙ f.end)))
    none (a ∷ later) is g =
        let longer : length all ≡ length taken + length (a ∷ later) = rw is (length-append taken (a ∷ later)) in
        absurd (omega (arith, f.number))

-- no bytes are left, and the addresses that were taken are others
pub taken_other : (count first limit last : ℕ) (bytes taken : List ℕ) (before : ℕ) → Taken first limit bytes [] taken before
    → (length taken ≡ count → before ≡ last → ⊥) → (all : List ℕ) → SpellsAfterFirst first all bytes → AreFromTo count first last all → ⊥
taken_other count first limit last bytes taken before t other all b f = let h = t.back all b in none h.0 h.1 h.2
  where
    none : (later : List ℕ) → all ≡ taken ++ later → SpellsGaps before later [] → ⊥
    none [] is g =
        let whole : all ≡ taken = is ∙ append-nil taken in
        other (sym (ap length whole) ∙ f.number) (some_same before last (sym t.end ∙ (ap (last_or None) (sym whole) ∙ f.end)))
    none (a ∷ later) is g = absurd (starts_not_empty (a - before) g.1 g.2)

-- more addresses are to be taken, and no number of one is next
pub taken_no_next : (count first last : ℕ) (bytes rest taken : List ℕ) (before : ℕ) → Taken first last bytes rest taken before
    → length taken < count → ((a : ℕ) (left : List ℕ) → before < a → a ≤ last → StartsWithNumber rest (a - before) left → ⊥)
    → (all : List ℕ) → SpellsAfterFirst first all bytes → AreFromTo count first last all → ⊥
taken_no_next count first last bytes rest taken before t number none all b f = let h = t.back all b in no_later h.0 h.1 h.2
  where
    no_later : (later : List ℕ) → all ≡ taken ++ later → SpellsGaps before later rest → ⊥
    no_later [] is g =
        let whole : length all ≡ length taken = ap length (is ∙ append-nil taken) in
        absurd (omega (arith, f.number))
    no_later (a ∷ later) is g =
        let end : last_or (Some a) later ≡ Some last = sym (last_after None taken (a ∷ later)) ∙ (ap (last_or None) (sym is) ∙ f.end) in
        none a g.1 g.0 (gaps_within a last later g.1 g.3 end) g.2

-- too few bytes for so many addresses
pub not_enough : (low count first last : ℕ) (bytes all : List ℕ) → (count ≡ 0) ⊎ (length bytes < count) → SpellsBlock low all bytes
    → AreFromTo count first last all → ⊥
not_enough low count first last bytes all h b f =
    let some = block_some low all bytes b in
    let longer = block_length low all bytes b in
    let number = f.number in
    ⊎_elim (λ (s : count ≡ 0). absurd (omega arith)) (λ (s : length bytes < count). absurd (omega arith)) h
