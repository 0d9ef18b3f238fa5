-- Lemmas on bytes in which the first item isn't closed.
use Rattle.std.proofs.Common.{◌≡◌, ℕ, ◌<◌, ◌≤◌, Bool, true, false, eqb, List, [], ◌∷◌, ◌++◌, length, take, drop, Option, Result, Ok, Err}
use Rattle.std.proofs.Common.{IfErr, refl}
use Rattle.std.proofs.Common.{ap, sym, ◌∙◌, subst, length-append, arith}
use Rattle.std.specs.Prelude.{nat_lt}
use Rattle.std.proofs.Math.Seq.{drop-append_seam}
use Rattle.std.proofs.lemmas.Bool.{ltb-true, ltb-false, or_parts}
use Rattle.std.proofs.lemmas.List.{length-take, take-append-le, drop-append-le, take-append-drop, take_all, drop_all}
use Rattle.std.proofs.lemmas.List.Folds.{list_any-append}
use Rattle.wu_script.specs.Holding.{Held, Uses, EndsAt, EndsEarly}
use Rattle.wu_script.specs.Taking.{closing, IsOneLine}
use Rattle.wu_script.specs.Commands.{TextHead, line_says}
use Rattle.wu_script.specs.Items.{First, line_at, has_feed, text_at, entry_at, first_of, whole_items_of, HasNoWholeItem, EndsBeforeItem}
use Rattle.wu_script.specs.declared.ends.ReadEnd.{ReadEnd}
use Rattle.wu_script.proofs.EarlyEndLemmas.{EndsEarly-also}
use Rattle.wu_script.proofs.ItemLemmas.{first_of-line, headed}
use Rattle.wu_script.proofs.ItemListLemmas.{after_last, entry_unclosed, text_at-nothing, first_more}

-- the first bytes of a line is one
pub one_line-take : (n : ℕ) (bytes : List ℕ) → IsOneLine bytes → IsOneLine (take n bytes)
one_line-take n bytes one =
    (or_parts _ _
    (sym (list_any-append (λ byte. eqb byte 10) (take n bytes) (drop n bytes)) ∙ ap has_feed (take-append-drop n bytes) ∙ one)).0

-- an LF stays, whatever follows
pub feed_more : (bytes more : List ℕ) → has_feed bytes ≡ true → has_feed (bytes ++ more) ≡ true
feed_more bytes more feed = list_any-append (λ byte. eqb byte 10) bytes more ∙ rw feed refl

-- without an LF no item is closed
pub line_open : (bytes : List ℕ) → IsOneLine bytes → (first_of bytes).closed ≡ false
unfolding first_of
line_open bytes one = rw (one, after_last bytes one) (entry_unclosed (line_says (line_at bytes)))

-- so a closed item has one
pub closed_feed : (bytes : List ℕ) → (first_of bytes).closed ≡ true → has_feed bytes ≡ true
closed_feed bytes closed = by_case (has_feed bytes) refl
  where
    by_case : (feed : Bool) → has_feed bytes ≡ feed → feed ≡ true
    by_case true is = refl
    by_case false is = cc (line_open bytes is, closed)

-- a text is open where no LF stands after its body
pub text_open : (ino len : ℕ) (bytes : List ℕ) → IsOneLine (drop len bytes) → (text_at ino len bytes).closed ≡ false
text_open ino len bytes one = by_case (nat_lt (length bytes) len) refl
  where
    by_case : (short : Bool) → nat_lt (length bytes) len ≡ short → (text_at ino len bytes).closed ≡ false
    by_case true is = rw is refl
    by_case false is = rw is one

-- also where no more bytes stand there than the body has
pub text_open-start : (ino len : ℕ) (bytes : List ℕ) → length bytes ≤ len → (text_at ino len bytes).closed ≡ false
text_open-start ino len bytes within = text_open ino len bytes (subst IsOneLine (sym (drop_all len bytes within)) refl)

pub text_open-body : (ino len n : ℕ) (body : List ℕ) → length body ≡ len → (text_at ino len (take n body)).closed ≡ false
text_open-body ino len n body size = text_open-start ino len (take n body) (omega (arith, length-take n body, size))

pub text_open-line : (ino len : ℕ) (body line : List ℕ) → length body ≡ len → IsOneLine line
    → (text_at ino len (body ++ line)).closed ≡ false
text_open-line ino len body line size one = text_open ino len (body ++ line)
    (subst IsOneLine (sym (ap (λ n. drop n (body ++ line)) (sym size) ∙ drop-append_seam body line)) one)

-- the body of a closed text stands there whole, and an LF after it
pub closed_body : (ino len : ℕ) (bytes : List ℕ) → (text_at ino len bytes).closed ≡ true
    → (len ≤ length bytes) × (has_feed (drop len bytes) ≡ true)
closed_body ino len bytes closed = by_case (nat_lt (length bytes) len) refl
  where
    by_case : (short : Bool) → nat_lt (length bytes) len ≡ short → (len ≤ length bytes) × (has_feed (drop len bytes) ≡ true)
    by_case true is = cc (rw is at closed)
    by_case false is = (ltb-false (length bytes) len is, rw is at closed)

-- where a closed text was held, the LF after it is held after its body was taken
pub tail_held : (left left' : Option (List ℕ)) (old new : Held) (ino len : ℕ) (body : List ℕ) → Uses left left' old new body
    → length body ≡ len → (text_at ino len old.bytes).closed ≡ true → has_feed new.bytes ≡ true
tail_held left left' old new ino len body uses size closed =
    let parts = closed_body ino len old.bytes closed in
    let rest : drop len old.bytes ++ uses.given ≡ new.bytes = sym (drop-append-le len old.bytes uses.given parts.0)
    ∙ ap (drop len) uses.joined ∙ ap (λ n. drop n (body ++ new.bytes)) (sym size) ∙ drop-append_seam body new.bytes in
    subst (λ (bs : List ℕ). has_feed bs ≡ true) rest (feed_more (drop len old.bytes) uses.given parts.1)

-- the first bytes of a text's line, and the line with bytes in which its body is open
pub head_open : (ino len n : ℕ) (line : List ℕ) (closed : Bool) → IsOneLine line → line_says line ≡ TextHead ino len
    → (first_of (take n (line ++ closing closed))).closed ≡ false
head_open ino len n line closed one is = by_case (nat_lt (length line) n) refl
  where
    whole : (first_of (line ++ closing closed)).closed ≡ false
    whole = ap (λ (f : First). f.closed) (first_of-line line closed one ∙ ap (λ m. entry_at m [] closed) is) ∙ text_at-nothing ino len

    enough : (c : Bool) → length line < n → length (line ++ closing c) ≤ n
    enough true more = omega (arith, length-append line (10 ∷ []), more)
    enough false more = omega (arith, length-append line [], more)

    by_case : (over : Bool) → nat_lt (length line) n ≡ over → (first_of (take n (line ++ closing closed))).closed ≡ false
    by_case true is = subst (λ (bs : List ℕ). (first_of bs).closed ≡ false)
        (sym (take_all n (line ++ closing closed) (enough closed (ltb-true (length line) n is)))) whole
    by_case false is = subst (λ (bs : List ℕ). (first_of bs).closed ≡ false)
        (sym (take-append-le n line (closing closed) (ltb-false (length line) n is))) (line_open (take n line) (one_line-take n line one))

pub headed_open : (ino len : ℕ) (line bytes : List ℕ) (closed : Bool) → IsOneLine line → line_says line ≡ TextHead ino len
    → (closed ≡ false → bytes ≡ []) → (text_at ino len bytes).closed ≡ false → (first_of (line ++ closing closed ++ bytes)).closed ≡ false
headed_open ino len line bytes closed one is none short = ap (λ (f : First). f.closed) (headed line bytes closed ino len one is none)
    ∙ short

-- where a closed item was held, its body is held closed after the line was taken
pub body_held : (left left' : Option (List ℕ)) (old new : Held) (ino len : ℕ) (line : List ℕ) (closed : Bool)
    → Uses left left' old new (line ++ closing closed) → IsOneLine line → line_says line ≡ TextHead ino len
    → (closed ≡ false → new.bytes ≡ []) → (first_of old.bytes).closed ≡ true → (text_at ino len new.bytes).closed ≡ true
body_held left left' old new ino len line closed uses one is none held =
    sym (ap (λ (f : First). f.closed)
    (sym (first_more old.bytes uses.given held) ∙ ap first_of uses.joined ∙ headed line new.bytes closed ino len one is none))

-- no whole item lies in bytes whose first isn't closed
pub open_none : (bytes : List ℕ) → (first_of bytes).closed ≡ false → HasNoWholeItem bytes
unfolding whole_items_of
open_none [] unclosed = refl
open_none (byte ∷ bytes) unclosed = rw unclosed refl

-- so where reading ended before the first was closed, it ended before one was whole
pub early_before_item : (left left' : Option (List ℕ)) (last_read : ℕ) (old : Held) {T : Type 0} (r : Result T ReadEnd)
    → IfErr r (EndsEarly (λ bytes. (first_of bytes).closed ≡ false) left left' last_read old)
    → IfErr r (EndsBeforeItem left left' last_read old)
early_before_item left left' last_read old (Ok value) early = tt
early_before_item left left' last_read old (Err end) early =
    EndsEarly-also HasNoWholeItem (λ bytes. (first_of bytes).closed ≡ false) left left' last_read old end open_none early

-- an LF that was taken, and what is held after it, came with the source's last read
pub closing_recent : (closed : Bool) (last_read : ℕ) (new : Held) → EndsAt closed last_read new
    → length (closing closed ++ new.bytes) ≤ last_read
closing_recent true last_read new last = omega (arith, last.feed refl)
closing_recent false last_read new last = omega (arith, ap length (last.end refl).0)
