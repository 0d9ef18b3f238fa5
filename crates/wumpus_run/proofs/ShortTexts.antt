-- No text that a script gives is longer than a text may be.
use Rattle.std.proofs.Common.{◌≡◌, ℕ, zero, suc, ◌≤◌, Bool, true, false, List, [], ◌∷◌, length, take, drop, map, refl, ap, subst, arith}
use Rattle.std.specs.Prelude.{◌==◌, nat_lt, if◌then◌else◌}
use Rattle.std.specs.List.{AllByRecursion}
use Rattle.std.proofs.lemmas.Bool.{ltb-false}
use Rattle.std.proofs.lemmas.List.{length-take-le}
use Rattle.wu_base.specs.declared.limits.TheConstants.{LINE_MAX, TEXT_MAX}
use Rattle.wu_tree.specs.declared.events.Event.TheVariants.{Text}
use Rattle.wu_script.specs.declared.types.Why.TheVariants.{Truncated, TooLong, BadBody}
use Rattle.wu_script.specs.Commands.{Entry, Happening, Refusing, LineSays, Whole, TextHead, line_says}
use Rattle.wu_script.specs.Said.{Reading, Said, said_of, text_given}
use Rattle.wu_script.specs.Items.{First, line_at, after_line, has_feed, body_entry, text_at, entry_at, first_of, items_within, items_of}
use Rattle.wu_script.proofs.TokenLemmas.{first_uses}

-- the text that it gives is no longer than a text may be
abbrev pub IsShort : Said → Type 0
IsShort said = length (text_given said) ≤ TEXT_MAX

-- the first line of a line is the line
line_at-again : (bytes : List ℕ) → line_at (line_at bytes) ≡ line_at bytes
line_at-again [] = refl
line_at-again (byte ∷ bytes) = by_feed (byte == 10) refl (line_at-again bytes)
  where
    by_feed : (feed : Bool) → (byte == 10) ≡ feed → line_at (line_at bytes) ≡ line_at bytes
        → line_at (if feed then [] else byte ∷ line_at bytes) ≡ (if feed then [] else byte ∷ line_at bytes)
    by_feed true is again = refl
    by_feed false is again = rw is (ap (λ xs. byte ∷ xs) again)

module _ (read : Reading) where
  abbrev EntryIsShort : Entry → Type 0
  EntryIsShort entry = IsShort (said_of read entry)

  -- ---- a line

  abbrev LineIsShort : LineSays Entry → Type 0
  LineIsShort (Whole entry) = EntryIsShort entry
  LineIsShort (TextHead ino len) = Unit {0}

  entry_says : (says : LineSays Entry) (rest : List ℕ) (closed : Bool) (most : ℕ)
      → length (text_given (said_of read (entry_at says rest closed).entry)) ≤ most → most ≤ TEXT_MAX → LineIsShort says
  entry_says (Whole entry) rest closed most few within = omega arith
  entry_says (TextHead ino len) rest closed most few within = tt

  -- a text that stands in a line of at most LINE_MAX bytes
  within_line : (line : List ℕ) → line_at line ≡ line → length line ≤ LINE_MAX → LineIsShort (line_says line)
  unfolding first_of line_says
  within_line [] one few = omega arith
  within_line (byte ∷ bytes) one few =
      let uses = first_uses read (byte ∷ bytes) (omega arith) in
      subst (λ l. LineIsShort (line_says l)) one
      (entry_says (line_says (line_at (byte ∷ bytes))) (after_line (byte ∷ bytes)) (has_feed (byte ∷ bytes)) (length (byte ∷ bytes))
      (omega (arith, uses)) (omega (arith, few)))

  long_line : (line : List ℕ) → nat_lt LINE_MAX (length line) ≡ true → LineIsShort (line_says line)
  unfolding line_says
  long_line line long = rw long (omega arith)

  line_short : (line : List ℕ) → line_at line ≡ line → LineIsShort (line_says line)
  line_short line one = by_long (nat_lt LINE_MAX (length line)) refl
    where
      by_long : (long : Bool) → nat_lt LINE_MAX (length line) ≡ long → LineIsShort (line_says line)
      by_long true is = long_line line is
      by_long false is = within_line line one (ltb-false LINE_MAX (length line) is)

  -- ---- a body

  body_short : (ino len : ℕ) (body tail : List ℕ) → length body ≤ len → EntryIsShort (body_entry ino len body tail)
  body_short ino len body [] few = by_long (nat_lt TEXT_MAX len) refl
    where
      by_long : (long : Bool) → nat_lt TEXT_MAX len ≡ long → EntryIsShort (if long then Refusing TooLong else Happening (Text ino) body)
      by_long true is = omega arith
      by_long false is = omega (arith, ltb-false TEXT_MAX len is)
  body_short ino len body (byte ∷ tail) few = by_long (nat_lt TEXT_MAX len)
    where
      by_long : (long : Bool) → EntryIsShort (if long then Refusing TooLong else Refusing BadBody)
      by_long true = omega arith
      by_long false = omega arith

  text_short : (ino len : ℕ) (bytes : List ℕ) → EntryIsShort (text_at ino len bytes).entry
  text_short ino len bytes = by_case (nat_lt (length bytes) len) refl
    where
      short : First
      short = record { entry = Refusing Truncated; rest = []; closed = false }

      long : First
      long = record {
        entry = body_entry ino len (take len bytes) (line_at (drop len bytes));
        rest = after_line (drop len bytes);
        closed = has_feed (drop len bytes);
      }

      by_case : (b : Bool) → nat_lt (length bytes) len ≡ b → EntryIsShort (if b then short else long).entry
      by_case true is = omega arith
      by_case false is =
          body_short ino len (take len bytes) (line_at (drop len bytes))
          (omega (arith, length-take-le len bytes (ltb-false (length bytes) len is)))

  -- ---- items

  entry_short : (says : LineSays Entry) (rest : List ℕ) (closed : Bool) → LineIsShort says → EntryIsShort (entry_at says rest closed).entry
  entry_short (Whole entry) rest closed short = short
  entry_short (TextHead ino len) rest closed short = text_short ino len rest

  first_short : (bytes : List ℕ) → EntryIsShort (first_of bytes).entry
  unfolding first_of
  first_short bytes =
      entry_short (line_says (line_at bytes)) (after_line bytes) (has_feed bytes) (line_short (line_at bytes) (line_at-again bytes))

  within_short : (n : ℕ) (bytes : List ℕ) → AllByRecursion IsShort (map (said_of read) (items_within n bytes))
  within_short zero bytes = tt
  within_short (suc n) [] = tt
  within_short (suc n) (byte ∷ bytes) = (first_short (byte ∷ bytes), within_short n (first_of (byte ∷ bytes)).rest)

  pub script_short : (bytes : List ℕ) → AllByRecursion IsShort (map (said_of read) (items_of bytes))
  unfolding items_of
  script_short bytes = within_short (length bytes) bytes
