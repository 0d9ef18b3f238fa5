-- The items of a script: what its lines say, and the bodies that follow some of them.
use Rattle.std.specs.Prelude.{◌≡◌, ℕ, zero, suc, ◌<◌, ◌==◌, nat_lt, Bool, true, false, List, [], ◌∷◌, length, take, drop, Option, Some}
use Rattle.std.specs.Prelude.{None, if◌then◌else◌}
use Rattle.std.specs.List.{list_any}
use Rattle.wu_base.specs.declared.limits.TheConstants.{TEXT_MAX}
use Rattle.wu_tree.specs.declared.events.Event.TheVariants.{Text}
use Rattle.wu_script.specs.declared.types.Why.TheVariants.{Truncated, TooLong, BadBody}
use Rattle.wu_script.specs.declared.types.Item.{Item}
use Rattle.wu_script.specs.declared.types.Item.TheVariants as items
use Rattle.wu_script.specs.declared.ends.ReadEnd.{ReadEnd}
use Rattle.wu_script.specs.Commands.{Entry, Happening, Refusing, LineSays, Whole, TextHead, line_says}
use Rattle.wu_script.specs.Said.{IsReadAs}
use Rattle.wu_script.specs.Holding.{Held, Uses, EndsAt, EndsEarly}

-- the first item of some bytes, what is after it, and whether its closing LF lies in the bytes
pub record First : Type 0 where
  pub entry : Entry
  pub rest : List ℕ
  pub closed : Bool

-- the line at the front, up to the first LF or the end
abbrev pub line_at : List ℕ → List ℕ
line_at [] = []
line_at (byte ∷ bytes) = if byte == 10 then [] else byte ∷ line_at bytes

-- what is after that LF
abbrev pub after_line : List ℕ → List ℕ
after_line [] = []
after_line (byte ∷ bytes) = if byte == 10 then bytes else after_line bytes

-- whether there is one
abbrev pub has_feed : List ℕ → Bool
has_feed bytes = list_any (λ byte. byte == 10) bytes

-- a body that was given whole, and the bytes between it and the next LF or the end of the input
abbrev pub body_entry : ℕ → ℕ → List ℕ → List ℕ → Entry
body_entry ino len body [] = if nat_lt TEXT_MAX len then Refusing TooLong else Happening (Text ino) body
body_entry ino len body (byte ∷ bytes) = if nat_lt TEXT_MAX len then Refusing TooLong else Refusing BadBody

-- a text whose line said this: its body takes so many bytes, and then the rest of a line
abbrev pub text_at : ℕ → ℕ → List ℕ → First
text_at ino len bytes =
    if nat_lt (length bytes) len then record { entry = Refusing Truncated; rest = []; closed = false }
    else record {
      entry = body_entry ino len (take len bytes) (line_at (drop len bytes));
      rest = after_line (drop len bytes);
      closed = has_feed (drop len bytes);
    }

abbrev pub entry_at : LineSays Entry → List ℕ → Bool → First
entry_at (Whole entry) rest closed = record { entry = entry; rest = rest; closed = closed }
entry_at (TextHead ino len) rest closed = text_at ino len rest

-- the first item of bytes, of which there is one or more
unfoldable pub first_of : List ℕ → First
first_of bytes = entry_at (line_says (line_at bytes)) (after_line bytes) (has_feed bytes)

-- at most so many items
abbrev pub items_within : ℕ → List ℕ → List Entry
items_within zero bytes = []
items_within (suc n) [] = []
items_within (suc n) (byte ∷ bytes) = (first_of (byte ∷ bytes)).entry ∷ items_within n (first_of (byte ∷ bytes)).rest

-- the items of a whole input; each takes a byte or more
unfoldable pub items_of : List ℕ → List Entry
items_of bytes = items_within (length bytes) bytes

-- the same of an input that may go on: the items whose closing LF lies in the bytes
abbrev pub whole_within : ℕ → List ℕ → List Entry
whole_within zero bytes = []
whole_within (suc n) [] = []
whole_within (suc n) (byte ∷ bytes) =
    if (first_of (byte ∷ bytes)).closed
    then (first_of (byte ∷ bytes)).entry ∷ whole_within n (first_of (byte ∷ bytes)).rest
    else []

unfoldable pub whole_items_of : List ℕ → List Entry
whole_items_of bytes = whole_within (length bytes) bytes

-- ---- what was made of an item

-- the item isn't the end of the script
abbrev pub IsBeforeEnd : Item → Type 0
IsBeforeEnd items.End = ⊥
IsBeforeEnd _ = Unit {0}

-- these bytes are exactly one item, as the item was read
pub record IsOneItem (last_read : ℕ) (new : Held) (item : Item) (used : List ℕ) : Type 0 where
  pub some : 0 < length used
  pub entry : IsReadAs item (first_of used).entry
  pub all : (first_of used).rest ≡ []
  pub last : EndsAt (first_of used).closed last_read new

-- the same of the bytes after the line of a text
pub record IsOneBody (last_read : ℕ) (new : Held) (ino len : ℕ) (item : Item) (used : List ℕ) : Type 0 where
  pub entry : IsReadAs item (text_at ino len used).entry
  pub all : (text_at ino len used).rest ≡ []
  pub last : EndsAt (text_at ino len used).closed last_read new

abbrev pub IsItem : ℕ → Held → Item → List ℕ → Type 0
IsItem last_read new items.End used = (used ≡ []) × (new.bytes ≡ []) × (new.ended ≡ true)
IsItem last_read new item used = IsOneItem last_read new item used

-- an item was taken from what was held and given; the number is how many bytes the source's last read gave
abbrev pub TakesItem : Option (List ℕ) → Option (List ℕ) → ℕ → Held → Held → Item → Type 0
TakesItem left left' last_read old new item = (used : List ℕ) × Uses left left' old new used × IsItem last_read new item used

abbrev pub TakesBody : Option (List ℕ) → Option (List ℕ) → ℕ → Held → Held → ℕ → ℕ → Item → Type 0
TakesBody left left' last_read old new ino len item =
    (used : List ℕ) × Uses left left' old new used × IsOneBody last_read new ino len item used

-- the item is the first of these bytes, and the rest is what is after it; of no bytes it is the end
abbrev pub IsFirstItem : List ℕ → List ℕ → Item → Type 0
IsFirstItem bytes rest items.End = (bytes ≡ []) × (rest ≡ [])
IsFirstItem bytes rest item = (0 < length bytes) × IsReadAs item (first_of bytes).entry × (rest ≡ (first_of bytes).rest)

-- the same of bytes that are known
abbrev pub IsNext : Option (List ℕ) → Option (List ℕ) → Item → Type 0
IsNext None after item = Unit {0}
IsNext (Some bytes) None item = ⊥
IsNext (Some bytes) (Some rest) item = IsFirstItem bytes rest item

-- ---- where no item was made

-- no item is whole in the bytes
abbrev pub HasNoWholeItem : List ℕ → Type 0
HasNoWholeItem bytes = whole_items_of bytes ≡ []

-- reading ended before an item was whole; the first two arguments are what the source had left and has left
abbrev pub EndsBeforeItem : Option (List ℕ) → Option (List ℕ) → ℕ → Held → ReadEnd → Type 0
EndsBeforeItem left left' last_read old end = EndsEarly HasNoWholeItem left left' last_read old end
