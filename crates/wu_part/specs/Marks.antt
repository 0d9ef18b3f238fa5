-- Marks in the bytes of a directory's entries.
use Rattle.std.specs.Prelude.{ℕ, Bool, List, [], ◌∷◌, ◌++◌, ◌+◌, ◌-◌, ◌<◌, ◌≤◌, ◌≡◌, ◌⊎◌, ◌||◌, Contains, cond, drop, get_or, length}
use Rattle.std.specs.Prelude.{nat_le}
use Rattle.std.specs.declared.cmp.Ordering.TheVariants.{Less, Greater}
use Rattle.std.specs.Cmp.Lexicographic.{slice_cmp}
use Rattle.std.specs.Ordering.{nat_cmp}
use Rattle.wu_base.specs.declared.limits.TheConstants.{WORD_MAX}
use Rattle.wu_vbyte.specs.Numbers.{StartsWithNumber}
use Rattle.wu_part.specs.declared.entries.TermEntry.{TermEntry}
use Rattle.wu_part.specs.declared.headers.TheConstants.{HEADER_LEN}
use Rattle.wu_part.specs.declared.marks.Mark.{Mark}
use Rattle.wu_part.specs.declared.marks.TheConstants.{TERMS_BETWEEN, BYTES_BETWEEN}
use Rattle.wu_part.specs.declared.reading.Checked.{Checked}
use Rattle.wu_part.specs.declared.reading.Head.{Head}
use Rattle.wu_part.specs.Decoding.{entries_in}
use Rattle.wu_part.specs.Entries.{AreEntries, IsWhole, StartsWithHead}

abbrev pub mark_of : ℕ → ℕ → ℕ → Mark
mark_of number offset place = record { number = number; offset = offset; place = place }

abbrev pub last_from : Mark → List Mark → Mark
last_from mark [] = mark
last_from mark (next ∷ later) = last_from next later

-- the last mark, or else the beginning, is so many terms or bytes away
abbrev pub is_far : List Mark → ℕ → ℕ → Bool
is_far marks number offset =
    nat_le TERMS_BETWEEN (number - (last_from (mark_of 0 0 0) marks).number)
    || nat_le BYTES_BETWEEN (offset - (last_from (mark_of 0 0 0) marks).offset)

-- the marks, with this one at the end where the last one is far away
abbrev pub with_mark : List Mark → ℕ → ℕ → ℕ → List Mark
with_mark marks number offset place = cond (is_far marks number offset) (marks ++ mark_of number offset place ∷ []) marks

-- the numbers ascend to that of the terms, and from each to the next it is no more than TERMS_BETWEEN
abbrev pub AreNear : ℕ → List Mark → ℕ → Type 0
AreNear before [] terms = (before ≤ terms) × (terms ≤ before + TERMS_BETWEEN)
AreNear before (mark ∷ later) terms =
    (before ≤ mark.number) × (mark.number ≤ before + TERMS_BETWEEN) × AreNear mark.number later terms

-- from the mark on the bytes spell these entries, the last ones of the directory
pub record IsMark (head : Head) (size : ℕ) (bytes : List ℕ) (mark : Mark) (terms : List TermEntry) : Type 0 where
  pub inside : mark.offset ≤ length bytes
  pub number : mark.number ≤ head.terms
  pub entries : AreEntries head size (head.terms - mark.number) (drop mark.offset bytes) mark.place terms

-- the entries from the mark on
abbrev pub entries_from : Head → List ℕ → Mark → List TermEntry
entries_from head bytes mark = entries_in (head.terms - mark.number) head.low mark.place (drop mark.offset bytes)

-- the bytes start with a term that isn't after this one
pub record IsAtMost (bytes term : List ℕ) : Type 0 where
  pub first : List ℕ
  pub left : List ℕ
  pub some : 0 < length first
  pub few : length first ≤ WORD_MAX
  pub starts : StartsWithNumber bytes (length first) (first ++ left)
  pub most : slice_cmp nat_cmp first term ≡ Greater → ⊥

-- the entry's term stands after this one
abbrev pub IsAfter : List ℕ → TermEntry → Type 0
IsAfter term entry = slice_cmp nat_cmp term entry.term ≡ Less

-- the mark before the place, which passes; or the start, where the place is the first one
abbrev pub StandsBefore : (Mark → Type 0) → List Mark → Mark → Mark → ℕ → Type 0
StandsBefore Passes marks start mark place =
    ((place ≡ 0) × (mark ≡ start)) ⊎ ((0 < place) × (place ≤ length marks) × (mark ≡ get_or marks (place - 1) mark) × Passes mark)

-- no mark at the place passes
abbrev pub NoneAt : (Mark → Type 0) → List Mark → ℕ → Type 0
NoneAt Passes marks place = (place ≡ length marks) ⊎ ((mark : Mark) × (mark ≡ get_or marks place mark) × (Passes mark → ⊥))

-- a mark that passes, or else the start, and the next mark doesn't pass
pub record IsLast (Passes : Mark → Type 0) (marks : List Mark) (start mark : Mark) : Type 0 where
  pub place : ℕ
  pub before : StandsBefore Passes marks start mark place
  pub after : NoneAt Passes marks place

-- the bytes spell the entries of a directory with this head, and the marks are marks in them
pub record HasEntries (head : Head) (size : ℕ) (bytes : List ℕ) (place : ℕ) (marks : List Mark) : Type 0 where
  pub terms : List TermEntry
  pub are : AreEntries head size head.terms bytes place terms
  pub whole : IsWhole head terms
  pub marked : (mark : Mark) → Contains marks mark → IsMark head size bytes mark (drop mark.number terms)
  pub near : AreNear 0 marks head.terms

-- the bytes are a directory's: where its entries begin in them, where the first of their blocks does in the part, and marks
pub record IsChecked (size : ℕ) (bytes : List ℕ) (checked : Checked) : Type 0 where
  pub entries : List ℕ
  pub head : StartsWithHead bytes checked.head entries
  pub start : checked.start ≡ length bytes - length entries
  pub place : checked.place ≡ HEADER_LEN + length bytes
  pub are : HasEntries checked.head size entries checked.place checked.marks.items
