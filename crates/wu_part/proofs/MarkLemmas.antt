-- Lemmas on the marks that are put while a directory's entries are read.
use Rattle.std.proofs.Common.{◌≡◌, ℕ, Bool, zero, suc, ◌+◌, ◌-◌, ◌<◌, ◌≤◌, ◌⊎◌, inl, inr, ⊎_elim, List, [], ◌∷◌, ◌++◌, length, drop, get_or}
use Rattle.std.proofs.Common.{refl, ap, sym, subst, ◌∙◌, append_assoc, length-append, cond, nat_le, ◌||◌, Contains, Option, None, Some}
use Rattle.std.proofs.Common.{true, false, arith}
use Rattle.std.proofs.lemmas.Bool.{leb-false, lt-leb}
use Rattle.std.proofs.Math.Seq.{drop-append_seam, drop-length}
use Rattle.std.proofs.lemmas.List.{drop-append-le, get_or_default}
use Rattle.std.proofs.lemmas.Option.{get_or_from_slice_get, unwrap_or-slice_get}
use Rattle.std.specs.Prelude.{slice_get, unwrap_or}
use Rattle.std.proofs.lemmas.List.Elements.{Contains-append_cases}
use Rattle.std.specs.List.{flat_map}
use Rattle.wu_part.specs.declared.entries.TermEntry.{TermEntry}
use Rattle.wu_part.specs.declared.marks.Mark.{Mark}
use Rattle.wu_part.specs.declared.reading.Head.{Head}
use Rattle.wu_part.specs.declared.reading.Reached.{Reached}
use Rattle.wu_part.specs.Directories.{StartsWithNumbers, block_numbers}
use Rattle.wu_part.specs.Entries.{StartsWithHead, IsNextEntry, HasFirstEntry, PassesEntry}
use Rattle.wu_part.specs.Marks.{mark_of, AreNear, IsMark, HasEntries, is_far, last_from, with_mark}
use Rattle.wu_part.proofs.EntryReadingLemmas.{TakenEntries, entries_none_taken, entries_taken, entries_all_taken}
use Rattle.wu_part.proofs.WholeLemmas.{TakenWhole, nothing_taken, one_more_taken, all_is_whole}

-- ---- what is left of the bytes

-- the bytes end with the rest
abbrev pub EndsWith : List ℕ → List ℕ → Type 0
EndsWith bytes rest = (front : List ℕ) × (bytes ≡ front ++ rest)

ends_with_more : (bytes rest after : List ℕ) → EndsWith bytes rest → EndsWith rest after → EndsWith bytes after
ends_with_more bytes rest after e f =
    (e.0 ++ f.0, e.1 ∙ (ap (λ x. e.0 ++ x) f.1 ∙ sym (append_assoc e.0 f.0 after)))

pub ends_with_all : (bytes : List ℕ) → EndsWith bytes bytes
ends_with_all bytes = ([], refl)

numbers_end : (bytes ns rest : List ℕ) → StartsWithNumbers bytes ns rest → EndsWith bytes rest
numbers_end bytes [] rest s = ([], s)
numbers_end bytes (n ∷ ns) rest s = ends_with_more bytes s.0 rest (s.1.0, s.1.2) (numbers_end s.0 ns rest s.2)

-- the bytes after an entry
pub entry_end : (head : Head) (size : ℕ) (bytes rest : List ℕ) (place : ℕ) (entry : TermEntry) (after : List ℕ) (end : ℕ)
    → EndsWith bytes rest → IsNextEntry head size rest place entry after end → EndsWith bytes after
entry_end head size bytes rest place entry after end e is =
    let s = is.spelled in
    let term : EndsWith rest s.0 = (s.1.0 ++ entry.term, s.1.2 ∙ sym (append_assoc s.1.0 entry.term s.0)) in
    let numbers = numbers_end s.0 (entry.count ∷ flat_map (block_numbers head.low) entry.blocks) after s.2 in
    ends_with_more bytes s.0 after (ends_with_more bytes rest s.0 e term) numbers

pub end_within : (bytes rest : List ℕ) → EndsWith bytes rest → length rest ≤ length bytes
end_within bytes rest e = rw e.1 (omega (arith, length-append e.0 rest))

pub end_at : (bytes rest : List ℕ) (offset : ℕ) → EndsWith bytes rest → offset ≡ length bytes - length rest → drop offset bytes ≡ rest
end_at bytes rest offset e is =
    let all : length bytes ≡ length e.0 + length rest = ap length e.1 ∙ length-append e.0 rest in
    let long : offset ≡ length e.0 = omega arith in
    ap (λ n. drop n bytes) long ∙ (ap (λ x. drop (length e.0) x) e.1 ∙ drop-append_seam e.0 rest)

-- the bytes of a directory's entries come behind its head
pub behind_head : (bytes : List ℕ) (head : Head) (entries : List ℕ) (offset : ℕ) → StartsWithHead bytes head entries
    → offset ≡ length bytes - length entries → drop offset bytes ≡ entries
behind_head bytes head entries offset h is =
    end_at bytes entries offset
    (numbers_end bytes (head.generation ∷ head.low ∷ (head.high - head.low) ∷ head.stored ∷ head.terms ∷ []) entries h.numbers) is

-- ---- marks that are put while entries are taken

-- entries were taken, and those from the mark on were taken since
pub record TakenSince (head : Head) (size : ℕ) (bytes : List ℕ) (taken : List TermEntry) (left : ℕ) (rest : List ℕ) (end : ℕ) (mark : Mark)
    : Type 0 where
  pub inside : mark.offset ≤ length bytes
  pub below : mark.number ≤ length taken
  pub number : mark.number ≤ head.terms
  pub entries : TakenEntries head size (head.terms - mark.number) (drop mark.offset bytes) mark.place (drop mark.number taken) left rest end

abbrev pub AreMarked : Head → ℕ → List ℕ → List TermEntry → ℕ → List ℕ → ℕ → List Mark → Type 0
AreMarked head size bytes taken left rest end marks =
    (mark : Mark) → Contains marks mark → TakenSince head size bytes taken left rest end mark

pub none_marked : (head : Head) (size : ℕ) (bytes : List ℕ) (taken : List TermEntry) (left : ℕ) (rest : List ℕ) (end : ℕ)
    → AreMarked head size bytes taken left rest end []
none_marked head size bytes taken left rest end mark has = absurd (omega (arith, has.1))

near_grow : (start : Mark) (marks : List Mark) (number more : ℕ) → AreNear start.number marks number → number ≤ more
    → more ≤ (last_from start marks).number + 8 → AreNear start.number marks more
near_grow start [] number more a up near = (omega (arith, a.0), near)
near_grow start (mark ∷ later) number more a up near = (a.0, a.1, near_grow mark later number more a.2 up near)

near_put : (start : Mark) (marks : List Mark) (mark : Mark) → AreNear start.number marks mark.number
    → AreNear start.number (marks ++ mark ∷ []) (mark.number + 1)
near_put start [] mark a = (a.0, a.1, (omega arith, omega arith))
near_put start (next ∷ later) mark a = (a.0, a.1, near_put next later mark a.2)

near_more : (marks : List Mark) (number offset place : ℕ) → AreNear 0 marks number
    → AreNear 0 (with_mark marks number offset place) (number + 1)
near_more marks number offset place a =
    let last = last_from (mark_of 0 0 0) marks in
    let put = near_put (mark_of 0 0 0) marks (mark_of number offset place) a in
    elim (nat_le 8 (number - last.number))
    as (λ far. nat_le 8 (number - last.number) ≡ far
    → AreNear 0 (cond (far || nat_le 512 (offset - last.offset)) (marks ++ mark_of number offset place ∷ []) marks) (number + 1)) [
      | true ↦ λ e. put
      | false ↦ λ e.
          elim (nat_le 512 (offset - last.offset))
          as (λ far. AreNear 0 (cond far (marks ++ mark_of number offset place ∷ []) marks) (number + 1)) [
            | true ↦ put
            | false ↦ near_grow (mark_of 0 0 0) marks number (number + 1) a (omega arith)
                (omega (arith, leb-false 8 (number - last.number) e))
          ]
    ] refl

last_moved : (start mark : Mark) (later : List Mark)
    → get_or later (length later - 1) mark ≡ get_or (mark ∷ later) (length (mark ∷ later) - 1) start
last_moved start mark [] = refl
last_moved start mark (next ∷ later) =
    let before : length (next ∷ later) - 1 ≡ length later = omega arith in
    let place : length (mark ∷ next ∷ later) - 1 ≡ suc (length later) = omega arith in
    rw (before, place) (get_or_default (next ∷ later) (length later) mark start (omega arith))

-- the last mark, as it is read
last_is : (start : Mark) (marks : List Mark) → last_from start marks ≡ get_or marks (length marks - 1) start
last_is start [] = refl
last_is start (mark ∷ later) = last_is mark later ∙ last_moved start mark later

pub last_read : (start : Mark) (marks : List Mark) (last : Mark) → Some last ≡ slice_get marks (length marks - 1)
    → last_from start marks ≡ last
last_read start marks last e = last_is start marks ∙ get_or_from_slice_get marks (length marks - 1) last start (sym e)

pub none_read : (start : Mark) (marks : List Mark) → None ≡ slice_get marks (length marks - 1) → last_from start marks ≡ start
none_read start marks e =
    last_is start marks
    ∙ (sym (unwrap_or-slice_get marks (length marks - 1) start) ∙ ap (λ (o : Option Mark). unwrap_or o start) (sym e))

pub near_next : (start : Mark) (marks : List Mark) (number place : ℕ) (d : Mark) → AreNear start.number marks number → place < length marks
    → (get_or marks place d).number ≤ (get_or (start ∷ marks) place d).number + 8
near_next start [] number place d a inside = absurd (omega arith)
near_next start (mark ∷ later) number zero d a inside = a.1
near_next start (mark ∷ later) number (suc place) d a inside = near_next mark later number place d a.2 (omega arith)

pub near_end : (start : Mark) (marks : List Mark) (number : ℕ) (d : Mark) → AreNear start.number marks number
    → number ≤ (get_or (start ∷ marks) (length marks) d).number + 8
near_end start [] number d a = a.1
near_end start (mark ∷ later) number d a = near_end mark later number d a.2

-- a mark is put where the next entry begins, or not
pub mark_put : (head : Head) (size : ℕ) (bytes : List ℕ) (taken : List TermEntry) (left : ℕ) (rest : List ℕ) (end : ℕ)
    (marks : List Mark) (number offset : ℕ) → end ≤ size → EndsWith bytes rest → offset ≡ length bytes - length rest
    → length taken ≡ number → number + left ≡ head.terms → AreMarked head size bytes taken left rest end marks
    → AreMarked head size bytes taken left rest end (with_mark marks number offset end)
mark_put head size bytes taken left rest end marks number offset within e at_offset long sum m =
    elim (is_far marks number offset)
    as (λ b. AreMarked head size bytes taken left rest end (cond b (marks ++ mark_of number offset end ∷ []) marks)) [
      | true ↦ λ mark has.
          ⊎_elim (λ before. m mark before) (λ own. subst (λ x. TakenSince head size bytes taken left rest end x) (only mark own) here)
          (Contains-append_cases marks (mark_of number offset end ∷ []) mark has)
      | false ↦ m
    ]
  where
    only : (mark : Mark) → Contains (mark_of number offset end ∷ []) mark → mark_of number offset end ≡ mark
    only mark has =
        let first : has.0 ≡ 0 = omega (arith, has.1) in
        ap (λ k. get_or (mark_of number offset end ∷ []) k mark) (sym first) ∙ has.2

    here : TakenSince head size bytes taken left rest end (mark_of number offset end)
    here =
        let none : drop number taken ≡ [] = ap (λ n. drop n taken) (sym long) ∙ drop-length taken in
        record {
          inside = omega (arith, end_within bytes rest e);
          below = omega arith;
          number = omega arith;
          entries = rw (end_at bytes rest offset e at_offset, none)
              (entries_none_taken head size (head.terms - number) left rest end within (omega arith));
        }

pub marks_kept : (head : Head) (size : ℕ) (bytes : List ℕ) (taken : List TermEntry) (left fewer : ℕ) (rest after : List ℕ) (end stop : ℕ)
    (entry : TermEntry) (marks : List Mark) → 0 < left → IsNextEntry head size rest end entry after stop → fewer ≡ left - 1
    → AreMarked head size bytes taken left rest end marks → AreMarked head size bytes (taken ++ entry ∷ []) fewer after stop marks
marks_kept head size bytes taken left fewer rest after end stop entry marks some is f m mark has =
    let t = m mark has in
    let long = length-append taken (entry ∷ []) in
    let below = t.below in
    record {
      inside = t.inside;
      below = omega arith;
      number = t.number;
      entries = entries_taken head size (head.terms - mark.number) (drop mark.offset bytes) mark.place (drop mark.number taken)
          (drop mark.number (taken ++ entry ∷ [])) left fewer rest after end stop entry t.entries some is
          (drop-append-le mark.number taken (entry ∷ []) t.below) f;
    }

pub marks_stand : (head : Head) (size : ℕ) (bytes : List ℕ) (taken : List TermEntry) (left : ℕ) (rest : List ℕ) (end : ℕ)
    (marks : List Mark) → left ≡ 0 → rest ≡ [] → end ≡ size → AreMarked head size bytes taken left rest end marks
    → (mark : Mark) → Contains marks mark → IsMark head size bytes mark (drop mark.number taken)
marks_stand head size bytes taken left rest end marks none empty full m mark has =
    let t = m mark has in
    record {
      inside = t.inside;
      number = t.number;
      entries = entries_all_taken head size (head.terms - mark.number) (drop mark.offset bytes) mark.place (drop mark.number taken)
          left rest end t.entries none empty full;
    }

-- ---- the entries of a directory, as they are read

-- nothing was read, or the first entry was
abbrev pub HasBegun : Head → ℕ → List ℕ → ℕ → ℕ → List ℕ → ℕ → Type 0
HasBegun head size bytes place number rest end =
    ((number ≡ 0) × (rest ≡ bytes) × (end ≡ place)) ⊎ HasFirstEntry head size bytes place

first_read : (head : Head) (size : ℕ) (bytes rest after : List ℕ) (place number end stop : ℕ) (entry : TermEntry)
    → HasBegun head size bytes place number rest end → number < head.terms → IsNextEntry head size rest end entry after stop
    → HasFirstEntry head size bytes place
first_read head size bytes rest after place number end stop entry (inl (none, same, start)) more next = record {
  some = omega arith;
  entry = entry;
  rest = after;
  end = stop;
  is = rw (same, start) at next;
}
first_read head size bytes rest after place number end stop entry (inr has) more next = has

-- no mark stands where the first entry begins
not_far : (marks : List Mark) (number offset : ℕ) → number ≡ 0 → offset ≡ 0 → is_far marks number offset ≡ false
not_far marks number offset first start =
    let last = last_from (mark_of 0 0 0) marks in
    ap (λ (b : Bool). b || nat_le 512 (offset - last.offset)) (lt-leb 8 (number - last.number) (omega arith))
    ∙ lt-leb 512 (offset - last.offset) (omega arith)

begun_far : (head : Head) (size : ℕ) (bytes rest : List ℕ) (place number end offset : ℕ) (marks : List Mark)
    → HasBegun head size bytes place number rest end → offset ≡ length bytes - length rest → is_far marks number offset ≡ true
    → HasFirstEntry head size bytes place
begun_far head size bytes rest place number end offset marks (inl (none, same, start)) at_offset far =
    let long = ap length same in
    let wrong : false ≡ true = sym (not_far marks number offset none (omega arith)) ∙ far in
    absurd cc
begun_far head size bytes rest place number end offset marks (inr has) at_offset far = has

-- so many entries were read, and marks put
pub record ReadEntries (head : Head) (size : ℕ) (bytes : List ℕ) (place : ℕ) (marks : List Mark) (number : ℕ) (reached : Reached)
    : Type 0 where
  pub taken : List TermEntry
  pub long : length taken ≡ number
  pub few : number ≤ head.terms
  pub ends : EndsWith bytes reached.rest.now
  pub first : HasBegun head size bytes place number reached.rest.now reached.place
  pub whole : TakenWhole head size bytes place taken (head.terms - number) reached.rest.now reached.place reached.term.now reached.left
      reached.begun reached.ended
  pub marked : AreMarked head size bytes taken (head.terms - number) reached.rest.now reached.place marks
  pub near : AreNear 0 marks number

pub nothing_read : (head : Head) (size : ℕ) (bytes : List ℕ) (place : ℕ) (reached : Reached) → place ≤ size → reached.rest.now ≡ bytes
    → reached.place ≡ place → reached.term.now ≡ [] → reached.left ≡ head.stored → reached.begun ≡ false → reached.ended ≡ false
    → ReadEntries head size bytes place [] 0 reached
nothing_read head size bytes place reached within rest at_place term left first last =
    let all : head.terms - 0 ≡ head.terms = omega arith in
    record {
      taken = [];
      long = refl;
      few = omega arith;
      ends = rw rest (ends_with_all bytes);
      first = inl (refl, rest, at_place);
      whole = rw (rest, at_place, term, left, first, last) (nothing_taken head size bytes place (head.terms - 0) within all);
      marked = none_marked head size bytes [] (head.terms - 0) reached.rest.now reached.place;
      near = (omega arith, omega arith);
    }

-- an entry more was read, where a mark was put or not
pub entry_more : (head : Head) (size : ℕ) (bytes : List ℕ) (place : ℕ) (marks new : List Mark) (number offset more : ℕ)
    (reached next : Reached) → ReadEntries head size bytes place marks number reached → number < head.terms → more ≡ number + 1
    → offset ≡ length bytes - length reached.rest.now
    → new ≡ with_mark marks number offset reached.place → PassesEntry head size reached next
    → ReadEntries head size bytes place new more next
entry_more head size bytes place marks new number offset more reached next r some one at_offset put p =
    let few = r.few in
    let long = r.long in
    let fewer : head.terms - more ≡ head.terms - number - 1 = omega arith in
    rw put (record {
      taken = r.taken ++ p.entry ∷ [];
      long = omega (arith, length-append r.taken (p.entry ∷ []));
      few = omega arith;
      ends = entry_end head size bytes reached.rest.now reached.place p.entry next.rest.now next.place r.ends p.is;
      first = inr (first_read head size bytes reached.rest.now next.rest.now place number reached.place next.place p.entry r.first some
          p.is);
      whole = one_more_taken head size bytes place r.taken (head.terms - number) (head.terms - more) reached.rest.now next.rest.now
          reached.place next.place reached.term.now reached.left next.left reached.begun reached.ended next.begun next.ended p.entry
          next.term.now r.whole (omega arith) p.is fewer p.ascending p.last p.counted p.begins p.ends;
      marked = marks_kept head size bytes r.taken (head.terms - number) (head.terms - more) reached.rest.now next.rest.now reached.place
          next.place p.entry (with_mark marks number offset reached.place) (omega arith) p.is fewer
          (mark_put head size bytes r.taken (head.terms - number) reached.rest.now reached.place marks number offset
          r.whole.entries.within r.ends at_offset r.long (omega arith) r.marked);
      near = rw one (near_more marks number offset reached.place r.near);
    })

-- where a mark is put, the first entry was read
pub first_before : (head : Head) (size : ℕ) (bytes : List ℕ) (place : ℕ) (marks : List Mark) (number offset : ℕ) (reached : Reached)
    → ReadEntries head size bytes place marks number reached → offset ≡ length bytes - length reached.rest.now
    → is_far marks number offset ≡ true → HasFirstEntry head size bytes place
first_before head size bytes place marks number offset reached r at_offset far =
    begun_far head size bytes reached.rest.now place number reached.place offset marks r.first at_offset far

pub all_read : (head : Head) (size : ℕ) (bytes : List ℕ) (place : ℕ) (marks : List Mark) (number : ℕ) (reached : Reached)
    → ReadEntries head size bytes place marks number reached → head.terms ≤ number → reached.rest.now ≡ [] → reached.place ≡ size
    → reached.left ≡ 0 → reached.begun ≡ true → reached.ended ≡ true → HasEntries head size bytes place marks
all_read head size bytes place marks number reached r over empty full none first last =
    let left : head.terms - number ≡ 0 = omega arith in
    record {
      terms = r.taken;
      are = entries_all_taken head size head.terms bytes place r.taken (head.terms - number) reached.rest.now reached.place r.whole.entries
          left empty full;
      whole = all_is_whole head size bytes place r.taken (head.terms - number) reached.rest.now reached.place reached.term.now reached.left
          reached.begun reached.ended r.whole none first last;
      marked = marks_stand head size bytes r.taken (head.terms - number) reached.rest.now reached.place marks left empty full r.marked;
      near = let all : number ≡ head.terms = omega (arith, r.few) in rw all at r.near;
    }
