-- Lemmas on the items of a script: how they follow one another, and which are whole.
use Rattle.std.proofs.Common.{◌≡◌, ℕ, zero, suc, ◌<◌, ◌≤◌, Bool, true, false, eqb, List, [], ◌∷◌, ◌++◌, length, drop, Option, Some, None}
use Rattle.std.proofs.Common.{Result, Ok}
use Rattle.std.proofs.Common.{Err, IfOk, refl, ap, sym, ◌∙◌, subst, append_assoc, append-nil, length-append, arith}
use Rattle.std.specs.Prelude.{nat_lt, if◌then◌else◌}
use Rattle.std.specs.Io.KnownBytes.{IsAtEnd, prepend_known}
use Rattle.std.proofs.lemmas.Bool.{lt-ltb, le-ltb, ltb-false}
use Rattle.std.proofs.lemmas.List.{take-append-le, drop-append-le, length-drop}
use Rattle.wu_script.specs.declared.types.Item.{Item}
use Rattle.wu_script.specs.declared.types.Item.TheVariants as items
use Rattle.wu_script.specs.declared.ends.ReadEnd.{ReadEnd}
use Rattle.wu_script.specs.Holding.{Held}
use Rattle.wu_script.specs.Commands.{Entry, LineSays, Whole, TextHead, line_says}
use Rattle.wu_script.specs.Said.{IsReadAs}
use Rattle.wu_script.specs.Items.{First, line_at, after_line, has_feed, text_at, entry_at, first_of, items_within, items_of, whole_within}
use Rattle.wu_script.specs.Items.{whole_items_of, IsOneItem, IsItem, TakesItem, IsFirstItem, IsNext}

-- a line that is closed stays, whatever follows
pub line_more : (bytes more : List ℕ) → has_feed bytes ≡ true
    → (line_at (bytes ++ more) ≡ line_at bytes) × (after_line (bytes ++ more) ≡ after_line bytes ++ more)
    × (has_feed (bytes ++ more) ≡ true)
line_more [] more feed = cc (feed)
line_more (byte ∷ bytes) more feed = by_case (eqb byte 10) refl (λ below. line_more bytes more below)
  where
    by_case : (here : Bool) → eqb byte 10 ≡ here
        → (has_feed bytes ≡ true
        → (line_at (bytes ++ more) ≡ line_at bytes) × (after_line (bytes ++ more) ≡ after_line bytes ++ more)
        × (has_feed (bytes ++ more) ≡ true))
        → (line_at (byte ∷ (bytes ++ more)) ≡ line_at (byte ∷ bytes))
        × (after_line (byte ∷ (bytes ++ more)) ≡ after_line (byte ∷ bytes) ++ more) × (has_feed (byte ∷ (bytes ++ more)) ≡ true)
    by_case true is below = (rw is refl, rw is refl, rw is refl)
    by_case false is below =
        let tail = below (rw is at feed) in
        (rw (is, tail.0) refl, rw (is, tail.1) refl, rw (is, tail.2) refl)

-- what a first item is when more bytes follow it
abbrev more_after : First → List ℕ → First
more_after first more = record { entry = first.entry; rest = first.rest ++ more; closed = true }

pub text_more : (ino len : ℕ) (rest more : List ℕ) → (text_at ino len rest).closed ≡ true
    → text_at ino len (rest ++ more) ≡ more_after (text_at ino len rest) more
text_more ino len rest more closed = by_case (nat_lt (length rest) len) refl
  where
    by_case : (short : Bool) → nat_lt (length rest) len ≡ short → text_at ino len (rest ++ more) ≡ more_after (text_at ino len rest) more
    by_case true is = cc (rw is at closed)
    by_case false is =
        let within : len ≤ length rest = ltb-false (length rest) len is in
        let enough : nat_lt (length (rest ++ more)) len ≡ false = le-ltb _ _ (omega (arith, length-append rest more)) in
        let line = line_more (drop len rest) more (rw is at closed) in
        rw (enough, is, take-append-le len rest more within, drop-append-le len rest more within, line.0, line.1, line.2) refl

pub text_at-nothing : (ino len : ℕ) → (text_at ino len []).closed ≡ false
text_at-nothing ino zero = refl
text_at-nothing ino (suc len) = rw (lt-ltb 0 (suc len) (omega arith)) refl

entry_more : (says : LineSays Entry) (rest more : List ℕ) → (entry_at says rest true).closed ≡ true
    → entry_at says (rest ++ more) true ≡ more_after (entry_at says rest true) more
entry_more (TextHead ino len) rest more closed = text_more ino len rest more closed
entry_more (Whole entry) rest more closed = refl

pub after_last : (bytes : List ℕ) → has_feed bytes ≡ false → after_line bytes ≡ []
after_last [] none = refl
after_last (byte ∷ bytes) none = by_case (eqb byte 10) refl (λ below. after_last bytes below)
  where
    by_case : (here : Bool) → eqb byte 10 ≡ here → (has_feed bytes ≡ false → after_line bytes ≡ []) → after_line (byte ∷ bytes) ≡ []
    by_case true is below = cc (rw is at none)
    by_case false is below = rw is (below (rw is at none))

pub entry_unclosed : (says : LineSays Entry) → (entry_at says [] false).closed ≡ false
entry_unclosed (TextHead ino len) = text_at-nothing ino len
entry_unclosed (Whole entry) = refl

-- an item whose closing LF was given stays, whatever follows
pub first_more : (bytes more : List ℕ) → (first_of bytes).closed ≡ true → first_of (bytes ++ more) ≡ more_after (first_of bytes) more
unfolding first_of
first_more bytes more closed = by_case (has_feed bytes) refl
  where
    by_case : (feed : Bool) → has_feed bytes ≡ feed
        → entry_at (line_says (line_at (bytes ++ more))) (after_line (bytes ++ more)) (has_feed (bytes ++ more))
        ≡ more_after (entry_at (line_says (line_at bytes)) (after_line bytes) (has_feed bytes)) more
    by_case true is =
        let line = line_more bytes more is in
        rw (line.0, line.1, line.2, is) (entry_more (line_says (line_at bytes)) (after_line bytes) more (rw is at closed))
    by_case false is =
        let none = rw (is, after_last bytes is) at closed in
        let unclosed = entry_unclosed (line_says (line_at bytes)) in
        cc (none, unclosed)

-- the known bytes after a use
known_used : (old new given used xs ys : List ℕ) → xs ≡ given ++ ys → old ++ given ≡ used ++ new → old ++ xs ≡ used ++ (new ++ ys)
known_used old new given used xs ys consumed joined = ap (λ bs. old ++ bs) consumed ∙ sym (append_assoc old given ys)
    ∙ ap (λ bs. bs ++ ys) joined ∙ append_assoc used new ys

length_used : (used more : List ℕ) → 0 < length used → 0 < length (used ++ more)
length_used used more some = omega (arith, length-append used more)

next_one : (last_read : ℕ) (new : Held) (item : Item) (bytes used ys : List ℕ) → bytes ≡ used ++ (new.bytes ++ ys)
    → (new.ended ≡ true → ys ≡ []) → IsOneItem last_read new item used
    → (0 < length bytes) × IsReadAs item (first_of bytes).entry × ((new.bytes ++ ys) ≡ (first_of bytes).rest)
next_one last_read new item bytes used ys known at_end is = by_case (first_of used).closed refl
  where
    by_case : (closed : Bool) → (first_of used).closed ≡ closed
        → (0 < length bytes) × IsReadAs item (first_of bytes).entry × ((new.bytes ++ ys) ≡ (first_of bytes).rest)
    by_case true closed =
        let first = ap first_of known ∙ first_more used (new.bytes ++ ys) closed in (
          subst (λ (bs : List ℕ). 0 < length bs) (sym known) (length_used used (new.bytes ++ ys) is.some),
          subst (λ (f : First). IsReadAs item f.entry) (sym first) is.entry,
          sym (ap (λ (f : First). f.rest) first ∙ ap (λ rest. rest ++ (new.bytes ++ ys)) is.all),
        )
    by_case false unclosed =
        let last = is.last.end unclosed in
        let none : new.bytes ++ ys ≡ [] = ap (λ bs. bs ++ ys) last.0 ∙ at_end last.1 in
        let whole : bytes ≡ used = known ∙ ap (λ bs. used ++ bs) none ∙ append-nil used in (
          subst (λ (bs : List ℕ). 0 < length bs) (sym whole) is.some,
          subst (λ (bs : List ℕ). IsReadAs item (first_of bs).entry) (sym whole) is.entry,
          none ∙ sym (ap (λ bs. (first_of bs).rest) whole ∙ is.all),
        )

next_known : (last_read : ℕ) (new : Held) (item : Item) (bytes used ys : List ℕ) → bytes ≡ used ++ (new.bytes ++ ys)
    → (new.ended ≡ true → ys ≡ []) → IsItem last_read new item used → IsFirstItem bytes (new.bytes ++ ys) item
next_known last_read new items.End bytes used ys known at_end is =
    let none : new.bytes ++ ys ≡ [] = ap (λ bs. bs ++ ys) is.1 ∙ at_end is.2 in
    (known ∙ ap (λ bs. bs ++ (new.bytes ++ ys)) is.0 ∙ none, none)
next_known last_read new item bytes used ys known at_end is = next_one last_read new item bytes used ys known at_end is

-- over a source that tells what it has left the item taken is the first
next_taken : (left left' : Option (List ℕ)) (last_read : ℕ) (old new : Held) (item : Item) → TakesItem left left' last_read old new item
    → (old.ended ≡ true → IsAtEnd left) → IsNext (prepend_known old.bytes left) (prepend_known new.bytes left') item
next_taken None left' last_read old new item taken before = tt
next_taken (Some xs) None last_read old new item taken before = taken.1.consumed
next_taken (Some xs) (Some ys) last_read old new item taken before =
    let uses = taken.1 in
    next_known last_read new item (old.bytes ++ xs) taken.0 ys
    (known_used old.bytes new.bytes uses.given taken.0 xs ys uses.consumed uses.joined) (uses.at_end before) taken.2

pub next_ok : (left left' : Option (List ℕ)) (last_read : ℕ) (old new : Held) (r : Result Item ReadEnd)
    → IfOk r (TakesItem left left' last_read old new) → (old.ended ≡ true → IsAtEnd left)
    → IfOk r (IsNext (prepend_known old.bytes left) (prepend_known new.bytes left'))
next_ok left left' last_read old new (Ok item) taken before = next_taken left left' last_read old new item taken before
next_ok left left' last_read old new (Err end) taken before = tt

-- ---- the list of the items

pub after_shorter : (byte : ℕ) (bytes : List ℕ) → length (after_line (byte ∷ bytes)) ≤ length bytes
after_shorter byte [] = by_case (eqb byte 10) refl
  where
    by_case : (here : Bool) → eqb byte 10 ≡ here → length (after_line (byte ∷ [])) ≤ 0
    by_case true is = rw is (omega arith)
    by_case false is = rw is (omega arith)
after_shorter byte (next ∷ bytes) = by_case (eqb byte 10) refl (after_shorter next bytes)
  where
    by_case : (here : Bool) → eqb byte 10 ≡ here → length (after_line (next ∷ bytes)) ≤ length bytes
        → length (after_line (byte ∷ next ∷ bytes)) ≤ length (next ∷ bytes)
    by_case true is below = rw is (omega arith)
    by_case false is below = rw is (omega arith)

pub after_short : (bytes : List ℕ) → length (after_line bytes) ≤ length bytes
after_short [] = omega arith
after_short (byte ∷ bytes) = omega (arith, after_shorter byte bytes)

text_short : (ino len : ℕ) (bytes : List ℕ) → length (text_at ino len bytes).rest ≤ length bytes
text_short ino len bytes = by_case (nat_lt (length bytes) len) refl
  where
    by_case : (short : Bool) → nat_lt (length bytes) len ≡ short → length (text_at ino len bytes).rest ≤ length bytes
    by_case true is = rw is (omega arith)
    by_case false is = rw is (omega (arith, after_short (drop len bytes), length-drop len bytes))

entry_short : (says : LineSays Entry) (rest : List ℕ) (closed : Bool) → length (entry_at says rest closed).rest ≤ length rest
entry_short (TextHead ino len) rest closed = text_short ino len rest
entry_short (Whole entry) rest closed = omega arith

-- an item takes a byte or more
first_short : (byte : ℕ) (bytes : List ℕ) → length (first_of (byte ∷ bytes)).rest ≤ length bytes
unfolding first_of
first_short byte bytes = omega (
  arith,
  entry_short (line_says (line_at (byte ∷ bytes))) (after_line (byte ∷ bytes))
      (has_feed (byte ∷ bytes)),
  after_shorter byte bytes,
)

items_enough : (n m : ℕ) (bytes : List ℕ) → length bytes ≤ n → length bytes ≤ m → items_within n bytes ≡ items_within m bytes
items_enough zero zero bytes less few = refl
items_enough zero (suc m) [] less few = refl
items_enough zero (suc m) (byte ∷ bytes) less few = absurd (omega arith)
items_enough (suc n) zero [] less few = refl
items_enough (suc n) zero (byte ∷ bytes) less few = absurd (omega arith)
items_enough (suc n) (suc m) [] less few = refl
items_enough (suc n) (suc m) (byte ∷ bytes) less few = ap (λ entries. (first_of (byte ∷ bytes)).entry ∷ entries)
    (items_enough n m (first_of (byte ∷ bytes)).rest (omega (arith, first_short byte bytes)) (omega (arith, first_short byte bytes)))

-- of no bytes there is no item
pub items_of-none : items_of [] ≡ []
unfolding items_of
items_of-none = refl

-- the items are the first and those of the rest
pub items_of-some : (bytes : List ℕ) → 0 < length bytes → items_of bytes ≡ (first_of bytes).entry ∷ items_of (first_of bytes).rest
unfolding items_of
items_of-some [] some = absurd (omega arith)
items_of-some (byte ∷ bytes) some = ap (λ entries. (first_of (byte ∷ bytes)).entry ∷ entries)
    (items_enough (length bytes) (length (first_of (byte ∷ bytes)).rest) (first_of (byte ∷ bytes)).rest (first_short byte bytes)
    (omega arith))

-- ---- the whole items

whole_enough : (n m : ℕ) (bytes : List ℕ) → length bytes ≤ n → length bytes ≤ m → whole_within n bytes ≡ whole_within m bytes
whole_enough zero zero bytes less few = refl
whole_enough zero (suc m) [] less few = refl
whole_enough zero (suc m) (byte ∷ bytes) less few = absurd (omega arith)
whole_enough (suc n) zero [] less few = refl
whole_enough (suc n) zero (byte ∷ bytes) less few = absurd (omega arith)
whole_enough (suc n) (suc m) [] less few = refl
whole_enough (suc n) (suc m) (byte ∷ bytes) less few = ap
    (λ entries. if (first_of (byte ∷ bytes)).closed then (first_of (byte ∷ bytes)).entry ∷ entries else [])
    (whole_enough n m (first_of (byte ∷ bytes)).rest (omega (arith, first_short byte bytes)) (omega (arith, first_short byte bytes)))

nothing_closed : (first_of []).closed ≡ false
unfolding first_of
nothing_closed = entry_unclosed (line_says [])

-- of no bytes there is no whole item
pub whole_items_of-none : whole_items_of [] ≡ []
unfolding whole_items_of
whole_items_of-none = refl

-- the whole items are the first and those of the rest
pub whole_items_of-closed : (bytes : List ℕ) → (first_of bytes).closed ≡ true
    → whole_items_of bytes ≡ (first_of bytes).entry ∷ whole_items_of (first_of bytes).rest
unfolding whole_items_of
whole_items_of-closed [] closed = cc (nothing_closed, closed)
whole_items_of-closed (byte ∷ bytes) closed = rw closed
    (ap (λ entries. (first_of (byte ∷ bytes)).entry ∷ entries)
    (whole_enough (length bytes) (length (first_of (byte ∷ bytes)).rest) (first_of (byte ∷ bytes)).rest (first_short byte bytes)
    (omega arith)))

-- both lists of items begin with the first where it is closed
abbrev pub StartsWithFirst : (List ℕ → List Entry) → Type 0
StartsWithFirst all = (bytes : List ℕ) → (first_of bytes).closed ≡ true → all bytes ≡ (first_of bytes).entry ∷ all (first_of bytes).rest

pub items_of-closed : StartsWithFirst items_of
items_of-closed [] closed = cc (nothing_closed, closed)
items_of-closed (byte ∷ bytes) closed = items_of-some (byte ∷ bytes) (omega arith)

prefix_within : (all : List ℕ → List Entry) → StartsWithFirst all → (n : ℕ) (bytes more : List ℕ) → length bytes ≤ n
    → (rest : List Entry) × (all (bytes ++ more) ≡ whole_within n bytes ++ rest)
prefix_within all starts zero [] more within = (all more, refl)
prefix_within all starts zero (byte ∷ bytes) more within = absurd (omega arith)
prefix_within all starts (suc n) [] more within = (all more, refl)
prefix_within all starts (suc n) (byte ∷ bytes) more within = by_case (first_of (byte ∷ bytes)).closed refl
    (prefix_within all starts n (first_of (byte ∷ bytes)).rest more (omega (arith, first_short byte bytes)))
  where
    by_case : (closed : Bool) → (first_of (byte ∷ bytes)).closed ≡ closed
        → (rest : List Entry) × (all ((first_of (byte ∷ bytes)).rest ++ more) ≡ whole_within n (first_of (byte ∷ bytes)).rest ++ rest)
        → (rest : List Entry)
        × (all (byte ∷ bytes ++ more)
        ≡ (if (first_of (byte ∷ bytes)).closed then (first_of (byte ∷ bytes)).entry ∷ whole_within n (first_of (byte ∷ bytes)).rest else [])
        ++ rest)
    by_case true is below =
        let first = first_more (byte ∷ bytes) more is in (
          below.0,
          starts (byte ∷ bytes ++ more) (ap (λ (f : First). f.closed) first) ∙ ap (λ (f : First). f.entry ∷ all f.rest) first
              ∙ ap (λ entries. (first_of (byte ∷ bytes)).entry ∷ entries) below.1 ∙ rw is refl,
        )
    by_case false is below = (all (byte ∷ bytes ++ more), rw is refl)

-- the whole items are the first of the items, whatever follows
pub whole_items_prefix : (bytes more : List ℕ) → (rest : List Entry) × (items_of (bytes ++ more) ≡ whole_items_of bytes ++ rest)
unfolding whole_items_of
whole_items_prefix bytes more = prefix_within items_of items_of-closed (length bytes) bytes more (omega arith)

whole_within-is : (bytes : List ℕ) → whole_within (length bytes) bytes ≡ whole_items_of bytes
unfolding whole_items_of
whole_within-is bytes = refl

-- and of the whole items
pub whole_items_more : (bytes more : List ℕ) → (rest : List Entry) × (whole_items_of (bytes ++ more) ≡ whole_items_of bytes ++ rest)
whole_items_more bytes more =
    let prefix = prefix_within whole_items_of whole_items_of-closed (length bytes) bytes more (omega arith) in
    (prefix.0, prefix.1 ∙ ap (λ entries. entries ++ prefix.0) (whole_within-is bytes))
