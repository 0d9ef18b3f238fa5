-- Lemmas on blocks of short numbers.
use Rattle.std.proofs.Common.{◌≡◌, ℕ, nat_eq, Bool, true, false, MatchBool, ◌+◌, ◌-◌, ◌*◌, ◌%◌, ◌<◌, ◌≤◌, ◌⊎◌, ⊎_elim, inl, inr, List, [], ◌∷◌}
use Rattle.std.proofs.Common.{◌++◌, length, set, take, drop}
use Rattle.std.proofs.Common.{refl, ap, sym, ◌∙◌, ◌^◌, arith, append_assoc, length-append}
use Rattle.std.proofs.lemmas.Bool.{cases_lt, eqb-false, eqb-true}
use Rattle.std.proofs.lemmas.List.{at_drop_all, take-append-drop, take-set, take_more_set}
use Rattle.wu_vbyte.specs.Blocks.{SpellsGaps, SpellsAfterFirst, AreFromTo, AreShort, AreSingle, HasEnd, HasPart, HaveEach}
use Rattle.wu_vbyte.proofs.NumberLemmas.{last_starts, more_starts, starts_not_empty, starts_with_last, starts_with_more}
use Rattle.wu_vbyte.proofs.BlockLemmas.{Taken, taken_next, taken_all, taken_end, taken_other, starts_length, gaps_length}

-- what was taken, and the sum after the byte before, which is part of a number that goes on where its top bit is set
abbrev pub Summed : ℕ → ℕ → List ℕ → List ℕ → List ℕ → ℕ → ℕ → Type 0
Summed first last bytes left taken byte total =
    ((byte < 128) × Taken first last bytes left taken total)
    ⊎ ((128 ≤ byte) × (byte < 256) × (sum : ℕ) × (total ≡ sum + byte % 128) × Taken first last bytes (byte ∷ left) taken sum)

pub summed_last : (first last : ℕ) (bytes left taken : List ℕ) (before byte total more : ℕ)
    → Summed first last bytes (byte ∷ left) taken before total → 0 < byte → byte < 128
    → (before < 128 → more ≡ byte % 128) → (128 ≤ before → more ≡ byte % 128 * 128) → total + more ≤ last
    → Summed first last bytes left (taken ++ (total + more) ∷ []) byte (total + more)
summed_last first last bytes left taken before byte total more (inl s) some small one two within =
    let gap : total + more - total ≡ byte = omega (arith, one s.0) in
    inl (
      small,
      taken_next _ _ _ _ left _ _ _ (total + more) s.1 (omega (arith, one s.0)) within
          (rw gap (last_starts byte left small)) refl,
    )
summed_last first last bytes left taken before byte total more (inr (large, top, sum, e, t)) some small one two within =
    let two = two large in
    let gap : total + more - sum ≡ before % 128 + 128 * byte = omega arith in
    inl (
      small,
      taken_next _ _ _ _ left _ _ _ (total + more) t (omega arith) within
          (rw gap (more_starts before byte (byte ∷ left) left large top some (last_starts byte left small))) refl,
    )

pub summed_more : (first last : ℕ) (bytes left taken : List ℕ) (before byte total more : ℕ)
    → Summed first last bytes (byte ∷ left) taken before total → 128 ≤ byte → byte < 256 → (before < 128) ⊎ (byte < 128)
    → (before < 128 → more ≡ byte % 128) → Summed first last bytes left taken byte (total + more)
summed_more first last bytes left taken before byte total more (inl s) large top short one =
    inr (large, top, total, ap (λ m. total + m) (one s.0), s.1)
summed_more first last bytes left taken before byte total more (inr s) large top short one =
    let over = s.0 in
    absurd (⊎_elim (λ (h : before < 128). omega arith) (λ (h : byte < 128). omega arith) short)

pub summed_next : (first last : ℕ) (bytes left items : List ℕ) (taken before byte total more ended : ℕ)
    → Summed first last bytes (byte ∷ left) (take taken items) before total → AreShort before (byte ∷ left) → byte < 256
    → (before < 128 → more ≡ byte % 128) → (128 ≤ before → more ≡ byte % 128 * 128) → total + more ≤ last
    → (byte < 128 → ended ≡ 1) → (128 ≤ byte → ended ≡ 0) → taken < length items
    → Summed first last bytes left (take (taken + ended) (set items taken (total + more))) byte (total + more)
summed_next first last bytes left items taken before byte total more ended s short top one two within last_byte more_bytes room =
    ⊎_elim
    (λ (h : byte < 128). rw (last_byte h, take_more_set items taken (total + more) room)
    (summed_last first last bytes left _ before byte total more s short.0 h one two within))
    (λ (h : 128 ≤ byte).
    let none = more_bytes h in
    let same : taken + ended ≡ taken = omega arith in
    rw (same, take-set items taken (total + more))
    (summed_more first last bytes left _ before byte total more s h top short.1 one))
    (cases_lt byte 128)

half_number : (sum byte : ℕ) (later : List ℕ) → 128 ≤ byte → SpellsGaps sum later (byte ∷ []) → ⊥
half_number sum byte [] large g = absurd cc
half_number sum byte (a ∷ later) large g =
    let more = starts_with_more byte (a - sum) [] g.1 large g.2 in
    starts_not_empty more.0 g.1 more.3

-- after all bytes, what was taken is the whole block
pub summed_whole : (first limit : ℕ) (bytes items all : List ℕ) (place taken byte total : ℕ)
    → Summed first limit bytes (drop place bytes) (take taken items) byte total → length bytes ≤ place → SpellsAfterFirst first all bytes
    → take taken items ≡ all
summed_whole first limit bytes items all place taken byte total (inl s) over b =
    taken_end first limit bytes (take taken items) all total (rw (at_drop_all (λ left. left) bytes place over) at s.1) b
summed_whole first limit bytes items all place taken byte total (inr (large, top, sum, e, t)) over b =
    let end = rw (at_drop_all (λ left. left) bytes place over) at t in
    let h = end.back all b in
    absurd (half_number sum byte h.0 large h.2)

-- so many addresses were taken, which aren't kept
abbrev pub Counted : ℕ → ℕ → List ℕ → List ℕ → ℕ → ℕ → ℕ → Type 0
Counted first last bytes left taken byte total = (shown : List ℕ) × (length shown ≡ taken) × Summed first last bytes left shown byte total

pub counted_next : (first last : ℕ) (bytes left : List ℕ) (taken before byte total more ended : ℕ)
    → Counted first last bytes (byte ∷ left) taken before total → AreShort before (byte ∷ left) → byte < 256
    → (before < 128 → more ≡ byte % 128) → (128 ≤ before → more ≡ byte % 128 * 128) → total + more ≤ last
    → (byte < 128 → ended ≡ 1) → (128 ≤ byte → ended ≡ 0) → Counted first last bytes left (taken + ended) byte (total + more)
counted_next first last bytes left taken before byte total more ended (shown, number, s) short top one two within last_byte more_bytes =
    ⊎_elim
    (λ (h : byte < 128). (
      shown ++ (total + more) ∷ [],
      omega (arith, last_byte h, number, length-append shown ((total + more) ∷ [])),
      summed_last first last bytes left shown before byte total more s short.0 h one two within,
    ))
    (λ (h : 128 ≤ byte). (
      shown,
      omega (arith, more_bytes h, number),
      summed_more first last bytes left shown before byte total more s h top short.1 one,
    ))
    (cases_lt byte 128)

pub counted_as : (first last : ℕ) (bytes left : List ℕ) (taken number byte total sum : ℕ) → taken ≡ number → total ≡ sum
    → Counted first last bytes left taken byte total → Counted first last bytes left number byte sum
counted_as first last bytes left taken number byte total sum is same c = rw (is, same) at c

pub counted_all : (count first limit last : ℕ) (bytes : List ℕ) (taken byte total : ℕ) → Counted first limit bytes [] taken byte total
    → byte < 128 → taken ≡ count → total ≡ last
    → (found : List ℕ) × SpellsAfterFirst first found bytes × AreFromTo count first last found
counted_all count first limit last bytes taken byte total (shown, number, inl s) small same end =
    let all = taken_all count first limit last bytes shown total s.1 (number ∙ same) end in (shown, all.0, all.1)
counted_all count first limit last bytes taken byte total (shown, number, inr s) small same end = let large = s.0 in absurd (omega arith)

pub counted_other : (count first limit last : ℕ) (bytes : List ℕ) (taken byte total : ℕ) → Counted first limit bytes [] taken byte total
    → (byte < 128 → taken ≡ count → total ≡ last → ⊥)
    → (all : List ℕ) → SpellsAfterFirst first all bytes → AreFromTo count first last all → ⊥
counted_other count first limit last bytes taken byte total (shown, number, inl s) other all b f =
    taken_other count first limit last bytes shown total s.1 (λ is end. other s.0 (sym number ∙ is) end) all b f
counted_other count first limit last bytes taken byte total (shown, number, inr (large, top, sum, e, t)) other all b f =
    let h = t.back all b in half_number sum byte h.0 large h.2

-- as many numbers as bytes: each byte is one
gaps_single : (before start : ℕ) (later bytes : List ℕ) → SpellsGaps start later bytes → length later ≡ length bytes → AreShort before bytes
    → AreSingle bytes
gaps_single before start later [] s number short = tt
gaps_single before start [] (byte ∷ left) s number short = absurd (omega arith)
gaps_single before start (a ∷ later) (byte ∷ left) s number short =
    ⊎_elim
    (λ (small : byte < 128).
    let one = starts_with_last byte (a - start) left s.1 small s.2 in
    (short.0, small, gaps_single byte a later left (rw one.1 s.3) (omega arith) short.2))
    (λ (large : 128 ≤ byte).
    let more = starts_with_more byte (a - start) left s.1 large s.2 in
    absurd (omega (arith, starts_length left more.0 s.1 more.3, gaps_length a later s.1 s.3)))
    (cases_lt byte 128)

pub block_single : (count first last : ℕ) (all bytes : List ℕ) → SpellsAfterFirst first all bytes → AreFromTo count first last all
    → length bytes + 1 ≡ count → AreShort 0 bytes → AreSingle bytes
block_single count first last [] bytes b f number short = absurd b
block_single count first last (address ∷ later) bytes b f number short =
    gaps_single 0 first later bytes b.1 (omega (arith, f.number)) short

-- so many faults were found in the bytes that were looked at: what is said of all bytes, and of those that are left
pub record Passed (faults : ℕ) (All Rest : Type 0) : Type 0 where
  pub none : faults ≡ 0 → Rest → All
  pub some : 0 < faults → All → ⊥
  pub back : All → Rest

pub passed_first : (All : Type 0) → Passed 0 All All
passed_first All = record { none = λ e all. all; some = λ over all. absurd (omega arith); back = λ all. all }

pub passed_next : (faults fault : ℕ) (All Some Small Later : Type 0) → Passed faults All (Some × Small × Later)
    → (fault ≡ 0 → Some × Small) → (0 < fault → Some → Small → ⊥) → Passed (faults + fault) All Later
passed_next faults fault All Some Small Later p none some = record {
  none = λ e later. let h = none (omega arith) in p.none (omega arith) (h.0, h.1, later);
  some = λ over all.
      ⊎_elim
      (λ (h : faults < 1). some (omega arith) (p.back all).0 (p.back all).1)
      (λ (h : 1 ≤ faults). p.some (omega arith) all)
      (cases_lt faults 1);
  back = λ all. (p.back all).2;
}

pub passed_all : (faults : ℕ) (All Rest : Type 0) → Passed faults All Rest → Rest → MatchBool (nat_eq faults 0) All (All → ⊥)
passed_all faults All Rest p rest = told (nat_eq faults 0) refl
  where
    told : (b : Bool) → nat_eq faults 0 ≡ b → MatchBool b All (All → ⊥)
    told true e = p.none (eqb-true faults 0 e) rest
    told false e = let other = eqb-false faults 0 e in p.some (⊎_elim (λ (h : faults < 1). absurd (other (omega arith))) (λ h. h) (cases_lt faults 1))

-- a byte that is a number
pub single_next : (first last : ℕ) (bytes left items : List ℕ) (place byte total more : ℕ)
    → Taken first last bytes (byte ∷ left) (take place items) total → 0 < byte → byte < 128 → more ≡ byte → total + more ≤ last
    → place < length items → Taken first last bytes left (take (place + 1) (set items place (total + more))) (total + more)
single_next first last bytes left items place byte total more t some small e within room =
    let gap : total + more - total ≡ byte = omega arith in
    rw (take_more_set items place (total + more) room)
    (taken_next _ _ _ _ left _ _ _ (total + more) t (omega arith) within (rw gap (last_starts byte left small)) refl)

-- ---- what each byte adds, and how many numbers end there

-- the items of the bytes before, with any items of those that are left, are items of all bytes
abbrev pub BeginEach : (ℕ → ℕ → ℕ → Type 0) → List ℕ → List ℕ → ℕ → List ℕ → Type 0
BeginEach Has bytes items before left = (more : List ℕ) → HaveEach Has before left more → HaveEach Has 0 bytes (items ++ more)

pub begin_next : (Has : ℕ → ℕ → ℕ → Type 0) (bytes left items : List ℕ) (place before byte item : ℕ)
    → BeginEach Has bytes (take place items) before (byte ∷ left) → Has before byte item → place < length items
    → BeginEach Has bytes (take (place + 1) (set items place item)) byte left
begin_next Has bytes left items place before byte item begin has room more have =
    rw (take_more_set items place item room, append_assoc (take place items) (item ∷ []) more) (begin (item ∷ more) (has, have))

pub begun_all : (Has : ℕ → ℕ → ℕ → Type 0) (bytes items : List ℕ) (place before : ℕ) → length bytes ≤ place
    → BeginEach Has bytes (take place items) before (drop place bytes) → HaveEach Has 0 bytes items
begun_all Has bytes items place before over begin =
    let begin = rw (at_drop_all (λ left. left) bytes place over) at begin in
    rw (take-append-drop place items) at (begin (drop place items) tt)

-- what was taken after the first bytes, where `before` is the last of them
pub record Adds (first : ℕ) (bytes left parts ends taken : List ℕ) (total : ℕ) : Type 0 where
  pub before : ℕ
  pub short : AreShort before left
  pub have_parts : HaveEach HasPart before left parts
  pub have_ends : HaveEach HasEnd before left ends
  pub summed : Summed first (2 ^ 64) bytes left taken before total

pub adds_next : (first : ℕ) (bytes left parts ends items : List ℕ) (taken byte part end total more ended : ℕ)
    → Adds first bytes (byte ∷ left) (part ∷ parts) (end ∷ ends) (take taken items) total → more ≡ part → ended ≡ end % 2 → byte < 256
    → total + more ≤ 2 ^ 64 → taken < length items
    → Adds first bytes left parts ends (take (taken + ended) (set items taken (total + more))) (total + more)
adds_next first bytes left parts ends items taken byte part end total more ended a same is top within room =
    let part = a.have_parts.0 in
    let ends = a.have_ends.0 in
    record {
      before = byte;
      short = a.short.2;
      have_parts = a.have_parts.1;
      have_ends = a.have_ends.1;
      summed = summed_next _ _ _ _ _ _ _ _ _ _ _ a.summed a.short top (λ h. same ∙ part.small h) (λ h. same ∙ part.large h) within
          (λ h. omega (arith, ends.one h)) (λ h. omega (arith, ends.none h)) room;
    }
