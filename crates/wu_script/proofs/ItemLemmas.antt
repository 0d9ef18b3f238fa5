-- Lemmas on the first item of bytes.
use Rattle.std.proofs.Common.{not, ◌≡◌, ℕ, ◌<◌, ◌≤◌, Bool, true, false, eqb, List, [], ◌∷◌, ◌++◌, length, refl, ap, sym, ◌∙◌, subst}
use Rattle.std.proofs.Common.{append_assoc}
use Rattle.std.proofs.Common.{append-nil, length-append, MatchBool, arith}
use Rattle.std.proofs.Math.Seq.{take-append_seam, drop-append_seam}
use Rattle.std.specs.Prelude.{nat_lt}
use Rattle.std.proofs.lemmas.Bool.{lt-ltb, le-ltb, or_parts}
use Rattle.wu_base.specs.declared.limits.TheConstants.{LINE_MAX, TEXT_MAX}
use Rattle.wu_gcl.proofs.Existence.{each_text_is_read}
use Rattle.wu_tree.specs.declared.events.Event.TheVariants.{Text}
use Rattle.wu_script.specs.declared.types.Why.TheVariants.{LongLine, Truncated, TooLong, BadBody}
use Rattle.wu_script.specs.declared.types.Item.{Item}
use Rattle.wu_script.specs.declared.types.Item.TheVariants as items
use Rattle.wu_script.specs.declared.items.ParsedLine.{ParsedLine}
use Rattle.wu_script.specs.declared.items.ParsedLine.TheVariants as heard
use Rattle.wu_script.specs.Holding.{Held, EndsAt}
use Rattle.wu_script.specs.Taking.{IsOneLine, Kept, closing}
use Rattle.wu_script.specs.Taken.{IsParsed}
use Rattle.wu_script.proofs.LineLemmas.{kept_whole}
use Rattle.wu_script.specs.Commands.{Entry, Blank, Refusing, LineSays, Whole, TextHead, line_says}
use Rattle.wu_script.specs.Said.{Reading, IsReading, Said, Happens, SaysNothing, IsReadAs}
use Rattle.wu_script.specs.Items.{First, line_at, after_line, has_feed, body_entry, text_at, entry_at, first_of, IsBeforeEnd, IsOneItem}
use Rattle.wu_script.specs.Items.{IsOneBody, IsItem}

-- a line and what follows it
pub line_at-closed : (text rest : List ℕ) → IsOneLine text
    → (line_at (text ++ 10 ∷ rest) ≡ text) × (after_line (text ++ 10 ∷ rest) ≡ rest) × (has_feed (text ++ 10 ∷ rest) ≡ true)
line_at-closed [] rest one = (refl, refl, refl)
line_at-closed (byte ∷ text) rest one =
    let parts = or_parts (eqb byte 10) _ one in
    let tail = line_at-closed text rest parts.1 in
    (rw (parts.0, tail.0) refl, rw (parts.0, tail.1) refl, rw (parts.0, tail.2) refl)

pub line_at-last : (text : List ℕ) → IsOneLine text → (line_at text ≡ text) × (after_line text ≡ [])
line_at-last [] one = (refl, refl)
line_at-last (byte ∷ text) one =
    let parts = or_parts (eqb byte 10) _ one in
    let tail = line_at-last text parts.1 in
    (rw (parts.0, tail.0) refl, rw (parts.0, tail.1) refl)

pub line_used : (text : List ℕ) (closed : Bool) → IsOneLine text
    → (line_at (text ++ closing closed) ≡ text) × (after_line (text ++ closing closed) ≡ []) × (has_feed (text ++ closing closed) ≡ closed)
line_used text true one = line_at-closed text [] one
line_used text false one =
    let last = line_at-last text one in
    let same = append-nil text in
    (ap line_at same ∙ last.0, ap after_line same ∙ last.1, ap has_feed same ∙ one)

-- ---- what a line was read as

-- a reading of each text
abbrev a_reading : Reading
a_reading text = (each_text_is_read text).0

a_reading-is : IsReading a_reading
a_reading-is text = (each_text_is_read text).1

abbrev said_in : LineSays Said → Said
said_in (Whole said) = said
said_in (TextHead ino len) = SaysNothing

abbrev head_in : LineSays Said → LineSays Entry
head_in (Whole said) = Whole Blank
head_in (TextHead ino len) = TextHead ino len

-- a line that was read as an item says one
pub whole_line : (says : LineSays Entry) (item : Item) → IsParsed says (heard.Item item)
    → (entry : Entry) × (says ≡ Whole entry) × IsReadAs item entry
whole_line (Whole entry) item is = (entry, refl, λ read reading. ap said_in (is read reading))
whole_line (TextHead ino len) item is = absurd (cc (is a_reading a_reading-is))

-- and one that was read as the first line of a text is one
head_line : (says : LineSays Entry) (ino len : ℕ) → IsParsed says (heard.TextHead ino len) → says ≡ TextHead ino len
head_line (Whole entry) ino len is = absurd (cc (is a_reading a_reading-is))
head_line (TextHead i n) ino len is = ap head_in (sym (is a_reading a_reading-is))

-- what was read of the line's own bytes
pub parsed_as : (h is : ParsedLine) (line text : List ℕ) → IsParsed (line_says line) h → h ≡ is → line ≡ text → IsParsed (line_says text) is
parsed_as h is line text says e same = subst (λ t. IsParsed (line_says t) is) same (subst (IsParsed (line_says line)) e says)

-- a line that was kept whole and read as the first line of a text is one
pub head_says : (limit : ℕ) (text kept : List ℕ) (whole : Bool) (read : ParsedLine) (ino len : ℕ)
    → Kept limit text whole kept → not whole ≡ false → IsParsed (line_says kept) read → read ≡ heard.TextHead ino len
    → line_says text ≡ TextHead ino len
head_says limit text kept whole read ino len is no_cut says e =
    head_line (line_says text) ino len
    (parsed_as read (heard.TextHead ino len) kept text says e (kept_whole limit text kept whole is no_cut))

-- a line of more bytes than a line may have
pub line_says-long : (text : List ℕ) → LINE_MAX < length text → line_says text ≡ Whole (Refusing LongLine)
unfolding line_says
line_says-long text long = rw (lt-ltb LINE_MAX (length text) long) refl

-- ---- items that were taken

line_some : (text : List ℕ) (closed : Bool) → (closed ≡ false → 0 < length text) → 0 < length (text ++ closing closed)
line_some text true some = omega (arith, length-append text (10 ∷ []))
line_some text false some = omega (arith, length-append text [], some refl)

pub first_of-line : (text : List ℕ) (closed : Bool) → IsOneLine text
    → first_of (text ++ closing closed) ≡ entry_at (line_says text) [] closed
unfolding first_of
first_of-line text closed one =
    let parts = line_used text closed one in
    rw (parts.0, parts.1, parts.2) refl

-- an item that is one line
pub line_item : (last_read : ℕ) (new : Held) (item : Item) (text : List ℕ) (closed : Bool) (entry : Entry)
    → IsOneLine text → EndsAt closed last_read new → (closed ≡ false → 0 < length text)
    → line_says text ≡ Whole entry → IsReadAs item entry → IsOneItem last_read new item (text ++ closing closed)
line_item last_read new item text closed entry one last some says is =
    let first = first_of-line text closed one ∙ ap (λ s. entry_at s [] closed) says in
    record {
      some = line_some text closed some;
      entry = subst (λ (f : First). IsReadAs item f.entry) (sym first) is;
      all = ap (λ (f : First). f.rest) first;
      last = subst (λ (f : First). EndsAt f.closed last_read new) (sym first) last;
    }

-- one item isn't the end
pub item_before_end : (last_read : ℕ) (new : Held) (item : Item) (used : List ℕ)
    → IsBeforeEnd item → IsOneItem last_read new item used → IsItem last_read new item used
item_before_end last_read new items.End used more is = absurd more
item_before_end last_read new _ used more is = is

-- a line that was read as an item
pub heard_item : (last_read : ℕ) (new : Held) (item : Item) (text : List ℕ) (closed : Bool)
    → IsOneLine text → EndsAt closed last_read new → (closed ≡ false → 0 < length text)
    → IsParsed (line_says text) (heard.Item item) → IsBeforeEnd item → IsItem last_read new item (text ++ closing closed)
heard_item last_read new item text closed one last some is more =
    let whole = whole_line (line_says text) item is in
    item_before_end last_read new item (text ++ closing closed) more
    (line_item last_read new item text closed whole.0 one last some whole.1 whole.2)

-- a line that is too long
pub long_item : (last_read : ℕ) (new : Held) (text : List ℕ) (closed : Bool)
    → IsOneLine text → EndsAt closed last_read new → LINE_MAX < length text
    → IsOneItem last_read new (items.Refused LongLine) (text ++ closing closed)
long_item last_read new text closed one last long =
    line_item last_read new (items.Refused LongLine) text closed (Refusing LongLine) one last (λ unclosed. omega arith)
    (line_says-long text long) (λ read reading. refl)

-- a line with another item after it
pub first_of-closed : (text rest : List ℕ) → IsOneLine text → first_of (text ++ 10 ∷ [] ++ rest) ≡ entry_at (line_says text) rest true
unfolding first_of
first_of-closed text rest one =
    let parts = line_at-closed text rest one in
    rw (append_assoc text (10 ∷ []) rest, parts.0, parts.1, parts.2) refl

-- the bytes of a text that was taken whole
text_at-whole : (ino len : ℕ) (body tail : List ℕ) (closed : Bool) → length body ≡ len → IsOneLine tail
    → text_at ino len (body ++ (tail ++ closing closed)) ≡ record { entry = body_entry ino len body tail; rest = []; closed = closed }
text_at-whole ino len body tail closed size one =
    let parts = line_used tail closed one in
    let enough : nat_lt (length (body ++ (tail ++ closing closed))) len
    ≡ false = le-ltb _ _ (omega (arith, length-append body (tail ++ closing closed), size)) in
    rw (
      enough,
      ← size,
      take-append_seam body (tail ++ closing closed),
      drop-append_seam body
          (tail ++ closing closed),
      parts.0,
      parts.1,
      parts.2,
    ) refl

-- and of one that was not
pub text_at-short : (ino len : ℕ) (body : List ℕ) → length body < len
    → text_at ino len body ≡ record { entry = Refusing Truncated; rest = []; closed = false }
text_at-short ino len body short = rw (lt-ltb (length body) len short) refl

-- what a text that was given whole was read as: it was kept where it isn't too long, and no bytes stand after it where it is alone
pub record IsTextItem (ino len : ℕ) (bytes tail held line : List ℕ) (kept alone : Bool) (item : Item) : Type 0 where
  pub fits : MatchBool kept (len ≤ TEXT_MAX) (TEXT_MAX < len)
  pub same : kept ≡ true → held ≡ bytes
  pub rest : Kept 0 tail alone line
  pub long : kept ≡ false → item ≡ items.Refused TooLong
  pub bad : kept ≡ true → alone ≡ false → item ≡ items.Refused BadBody
  pub text : kept ≡ true → alone ≡ true → item ≡ items.Text ino held

body_item : (ino len : ℕ) (bytes tail held line : List ℕ) (kept alone : Bool) (item : Item)
    → IsTextItem ino len bytes tail held line kept alone item → IsReadAs item (body_entry ino len bytes tail)
body_item ino len bytes [] held line false alone item is = rw (is.long refl, lt-ltb TEXT_MAX len is.fits) (λ read reading. refl)
body_item ino len bytes (byte ∷ tail) held line false alone item is = rw (is.long refl, lt-ltb TEXT_MAX len is.fits) (λ read reading. refl)
body_item ino len bytes [] held line true false item is = absurd (omega (arith, is.rest.0))
body_item ino len bytes (byte ∷ tail) held line true false item is = rw (is.bad refl refl, le-ltb TEXT_MAX len is.fits)
    (λ read reading. refl)
body_item ino len bytes [] held line true true item is =
    rw (is.text refl refl, le-ltb TEXT_MAX len is.fits) (λ read reading. ap (λ bs. Happens (Text ino) bs) (is.same refl))
body_item ino len bytes (byte ∷ tail) held line true true item is = absurd (omega (arith, is.rest.0))

-- a text after its line: whole
pub taken_body : (last_read : ℕ) (new : Held) (ino len : ℕ) (item : Item) (bytes tail held line : List ℕ) (closed kept alone : Bool)
    → length bytes ≡ len → IsOneLine tail → EndsAt closed last_read new
    → IsTextItem ino len bytes tail held line kept alone item → IsOneBody last_read new ino len item (bytes ++ (tail ++ closing closed))
taken_body last_read new ino len item bytes tail held line closed kept alone size one last is =
    let first = text_at-whole ino len bytes tail closed size one in
    record {
      entry = subst (λ (f : First). IsReadAs item f.entry) (sym first) (body_item ino len bytes tail held line kept alone item is);
      all = ap (λ (f : First). f.rest) first;
      last = subst (λ (f : First). EndsAt f.closed last_read new) (sym first) last;
    }

-- and cut off by the end of the input
pub truncated_body : (last_read : ℕ) (new : Held) (ino len : ℕ) (bytes : List ℕ) → length bytes < len
    → (new.bytes ≡ []) × (new.ended ≡ true)
    → IsOneBody last_read new ino len (items.Refused Truncated) bytes
truncated_body last_read new ino len bytes short last =
    let first = text_at-short ino len bytes short in
    record {
      entry = subst (λ (f : First). IsReadAs (items.Refused Truncated) f.entry) (sym first) (λ read reading. refl);
      all = ap (λ (f : First). f.rest) first;
      last = subst (λ (f : First). EndsAt f.closed last_read new) (sym first)
          (record { feed = λ closed. cc (closed); end = λ unclosed. last });
    }

pub headed : (text used : List ℕ) (closed : Bool) (ino len : ℕ) → IsOneLine text → line_says text ≡ TextHead ino len
    → (closed ≡ false → used ≡ [])
    → first_of (text ++ closing closed ++ used) ≡ text_at ino len used
headed text used true ino len one is none = first_of-closed text used one ∙ ap (λ s. entry_at s used true) is
headed text used false ino len one is none =
    let empty = none refl in
    ap (λ xs. first_of (text ++ [] ++ xs)) empty ∙ ap first_of (append-nil (text ++ [])) ∙ first_of-line text false one
    ∙ ap (λ s. entry_at s [] false) is ∙ ap (text_at ino len) (sym empty)

-- the line of a text, and what was read after it
pub head_item : (last_read : ℕ) (new : Held) (item : Item) (ino len : ℕ) (text used : List ℕ) (closed : Bool)
    → IsOneLine text → line_says text ≡ TextHead ino len → (closed ≡ false → used ≡ []) → (closed ≡ false → 0 < length text)
    → IsOneBody last_read new ino len item used → IsOneItem last_read new item (text ++ closing closed ++ used)
head_item last_read new item ino len text used closed one is none some body =
    let first = headed text used closed ino len one is none in
    record {
      some = omega (arith, line_some text closed some, length-append (text ++ closing closed) used);
      entry = subst (λ (f : First). IsReadAs item f.entry) (sym first) body.entry;
      all = ap (λ (f : First). f.rest) first ∙ body.all;
      last = subst (λ (f : First). EndsAt f.closed last_read new) (sym first) body.last;
    }
