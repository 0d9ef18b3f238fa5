-- A session, item by item.
use Rattle.std.proofs.Common.{◌≡◌, ℕ, ◌+◌, ◌<◌, List, [], ◌∷◌, ◌++◌, length, Option, None, Some, refl, sym, ap, ◌∙◌, subst, arith}
use Rattle.std.proofs.Common.{append_assoc, append-nil, length-append, IfSome}
use Rattle.std.specs.Io.KnownBytes.{Appends, Consumes, prepend_known}
use Rattle.std.proofs.KnownBytes.{Appends-trans, Appends-nil, Consumes-trans}
use Rattle.wu_outside.specs.Content.{Content}
use Rattle.wu_outside.specs.Gains.{GainsPrefix}
use Rattle.wu_script.specs.declared.types.Item.{Item}
use Rattle.wu_script.specs.declared.types.Item.TheVariants as items
use Rattle.wu_script.specs.Commands.{Entry}
use Rattle.wu_script.specs.Holding.{Held}
use Rattle.wu_script.specs.Said.{said_of, said_by, IsReadAs, IsReading}
use Rattle.wu_script.specs.Items.{first_of, items_of, IsBeforeEnd, IsItem, IsOneItem, TakesItem, IsFirstItem, IsNext}
use Rattle.wu_script.proofs.ItemListLemmas.{items_of-none, items_of-some}
use Rattle.wu_options.specs.declared.command_lines.Settings.{Settings}
use Rattle.wu_query.specs.States.{State}
use Rattle.wumpus_run.specs.Replies.{Rules, AreRules, after, said_bytes, output_of, state_after}

-- a prefix of the output was gained, and the rest is still to come
pub record HasSent (before now : Option (List ℕ)) (output rest : List ℕ) : Type 0 where
  pub front : List ℕ
  pub whole : output ≡ front ++ rest
  pub gained : Appends before now front

-- what was sent is a prefix of the output
pub HasSent-prefix : (before now : Option (List ℕ)) (output rest : List ℕ) → HasSent before now output rest → GainsPrefix before now output
HasSent-prefix before now output rest sent = (sent.front, rest, sent.whole, sent.gained)

-- what was sent, and a prefix of the next piece, is a prefix of the output
pub HasSent-part : (before between now : Option (List ℕ)) (output piece rest : List ℕ) → HasSent before between output (piece ++ rest)
    → GainsPrefix between now piece → GainsPrefix before now output
HasSent-part before between now output piece rest sent part =
    let split : output ≡ (sent.front ++ part.0) ++ (part.1 ++ rest) =
    sent.whole ∙ ap (λ xs. sent.front ++ (xs ++ rest)) part.2 ∙ ap (λ xs. sent.front ++ xs) (append_assoc part.0 part.1 rest)
    ∙ sym (append_assoc sent.front part.0 (part.1 ++ rest)) in
    (sent.front ++ part.0, part.1 ++ rest, split, Appends-trans before between now sent.front part.0 sent.gained part.3)

-- an item that isn't the end is the first of some bytes
pub first_item : (bytes rest : List ℕ) (item : Item) → IsBeforeEnd item → IsFirstItem bytes rest item
    → (0 < length bytes) × IsReadAs item (first_of bytes).entry × (rest ≡ (first_of bytes).rest)
first_item bytes rest (items.Command command) other is = is
first_item bytes rest (items.Text ino body) other is = is
first_item bytes rest (items.Refused why) other is = is
first_item bytes rest items.Blank other is = is
first_item bytes rest items.End other is = absurd other

-- and exactly one of the bytes that it used
pub one_item : (last_read : ℕ) (new : Held) (item : Item) (used : List ℕ) → IsBeforeEnd item → IsItem last_read new item used
    → IsOneItem last_read new item used
one_item last_read new (items.Command command) used other is = is
one_item last_read new (items.Text ino body) used other is = is
one_item last_read new (items.Refused why) used other is = is
one_item last_read new items.Blank used other is = is
one_item last_read new items.End used other is = absurd other

-- what was appended to no bytes
pub appended : (out before reply : List ℕ) → out ≡ before ++ reply → before ≡ [] → out ≡ reply
appended out before reply is none = is ∙ ap (λ bs. bs ++ reply) none

-- ---- items one after the other

-- the output for items and more is that for them, and then that for the others from the state that they leave
pub output-append : (rules : Rules) (s : State) (entries more : List Entry)
    → output_of rules s (entries ++ more) ≡ output_of rules s entries ++ output_of rules (state_after rules s entries) more
output-append rules s [] more = refl
output-append rules s (entry ∷ entries) more =
    let said = said_of rules.read entry in
    let next = after rules.flush_at s said in
    ap (λ bs. said_bytes s said ++ bs) (output-append rules next entries more)
    ∙ sym (append_assoc (said_bytes s said) (output_of rules next entries) (output_of rules (state_after rules next entries) more))

pub state-append : (rules : Rules) (s : State) (entries more : List Entry)
    → state_after rules s (entries ++ more) ≡ state_after rules (state_after rules s entries) more
state-append rules s [] more = refl
state-append rules s (entry ∷ entries) more = state-append rules (after rules.flush_at s (said_of rules.read entry)) entries more

-- ---- what was answered

module _ (told : Settings) (start : State) where
  -- the items that were answered, and those of the bytes that are left, are the items of the input; the answered ones left the state
  pub record HasAnsweredItems (rules : Rules) (before now : Option (List ℕ)) (input left : List ℕ) (s : State) : Type 0 where
    pub answered : List Entry
    pub split : items_of input ≡ answered ++ items_of left
    pub gained : Appends before now (output_of rules start answered)
    pub state : s ≡ state_after rules start answered

  -- the same where the source tells its bytes
  abbrev pub IsOnTheWay : Rules → Option (List ℕ) → Option (List ℕ) → Option (List ℕ) → Option (List ℕ) → State → Type 0
  IsOnTheWay rules before now None left s = Unit {0}
  IsOnTheWay rules before now (Some input) None s = ⊥
  IsOnTheWay rules before now (Some input) (Some left) s = HasAnsweredItems rules before now input left s

  -- the same, whatever reads the texts of expressions
  abbrev pub HasAnswered : Option Content → Option (List ℕ) → Option (List ℕ) → Option (List ℕ) → Option (List ℕ) → State → Type 0
  HasAnswered holds before now input left s = (rules : Rules) → AreRules holds told rules → IsOnTheWay rules before now input left s

  at_start : (rules : Rules) (before input : Option (List ℕ)) → IsOnTheWay rules before before input (prepend_known [] input) start
  at_start rules before None = tt
  at_start rules before (Some input) = record { answered = []; split = refl; gained = Appends-nil before; state = refl }

  -- at the start nothing was sent
  pub HasAnswered-none : (holds : Option Content) (before input : Option (List ℕ))
      → HasAnswered holds before before input (prepend_known [] input) start
  HasAnswered-none holds before input = λ rules are. at_start rules before input

  -- ---- a turn

  unfoldable pub one-more : (rules : Rules) → IsReading rules.read → (before between now : Option (List ℕ)) (input left rest : List ℕ)
      (s : State) (item : Item) → IsBeforeEnd item → IsFirstItem left rest item → HasAnsweredItems rules before between input left s
      → Appends between now (said_bytes s (said_by item))
      → HasAnsweredItems rules before now input rest (after rules.flush_at s (said_by item))
  one-more rules are before between now input left rest s item other next sent wrote =
      let first = first_item left rest item other next in
      let entry = (first_of left).entry in
      let says : said_by item ≡ said_of rules.read entry = first.1 rules.read are in
      let so_far = sent.answered in
      let t = state_after rules start so_far in
      let follows : items_of left ≡ entry ∷ items_of rest =
      items_of-some left first.0 ∙ ap (λ bs. entry ∷ items_of bs) (sym first.2) in
      let reply : output_of rules t (entry ∷ []) ≡ said_bytes s (said_by item) =
      append-nil (said_bytes t (said_of rules.read entry)) ∙ ap (said_bytes t) (sym says)
      ∙ ap (λ u. said_bytes u (said_by item)) (sym sent.state) in
      let output : output_of rules start (so_far ++ entry ∷ []) ≡ output_of rules start so_far ++ said_bytes s (said_by item) =
      output-append rules start so_far (entry ∷ []) ∙ ap (λ bs. output_of rules start so_far ++ bs) reply in
      record {
        answered = so_far ++ entry ∷ [];
        split = sent.split ∙ ap (λ es. so_far ++ es) follows ∙ sym (append_assoc so_far (entry ∷ []) (items_of rest));
        gained = subst (Appends before now) (sym output)
            (Appends-trans before between now (output_of rules start so_far) (said_bytes s (said_by item)) sent.gained wrote);
        state = ap (λ u. after rules.flush_at u (said_by item)) sent.state ∙ ap (after rules.flush_at t) says
            ∙ sym (state-append rules start so_far (entry ∷ []));
      }

  turn : (rules : Rules) → IsReading rules.read → (before between now input left rest : Option (List ℕ)) (s : State) (item : Item)
      → IsBeforeEnd item → IsNext left rest item
      → IsOnTheWay rules before between input left s → Appends between now (said_bytes s (said_by item))
      → IsOnTheWay rules before now input rest (after rules.flush_at s (said_by item))
  turn rules are before between now None left rest s item other next sent gained = tt
  turn rules are before between now (Some input) None rest s item other next sent gained = absurd sent
  turn rules are before between now (Some input) (Some left) None s item other next sent gained = absurd next
  turn rules are before between now (Some input) (Some left) (Some rest) s item other next sent gained =
      one-more rules are before between now input left rest s item other next sent gained

  -- a turn of the loop: an item was read, and what answers it was written
  pub HasAnswered-turn : (holds : Option Content) (before between now input left rest : Option (List ℕ)) (s : State) (item : Item)
      (reply written : List ℕ) → IsBeforeEnd item → IsNext left rest item
      → HasAnswered holds before between input left s → reply ≡ said_bytes s (said_by item)
      → written ≡ reply → Appends between now written → HasAnswered holds before now input rest (after told.flush_at s (said_by item))
  HasAnswered-turn holds before between now input left rest s item reply written other next sent replies same gained =
      λ rules are.
      subst (λ n. IsOnTheWay rules before now input rest (after n s (said_by item))) are.1
      (turn rules are.0 before between now input left rest s item other next (sent rules are)
      (subst (Appends between now) (same ∙ replies) gained))

  -- ---- what was sent is a prefix of the output

  sent_so_far : (rules : Rules) (before now : Option (List ℕ)) (input left : List ℕ) (s : State)
      → HasAnsweredItems rules before now input left s
      → HasSent before now (output_of rules start (items_of input)) (output_of rules s (items_of left))
  sent_so_far rules before now input left s sent = record {
    front = output_of rules start sent.answered;
    whole = ap (output_of rules start) sent.split ∙ output-append rules start sent.answered (items_of left)
        ∙ ap (λ u. output_of rules start sent.answered ++ output_of rules u (items_of left)) (sym sent.state);
    gained = sent.gained;
  }

  -- what was sent so far is a prefix of the output
  abbrev pub IsPrefix : Option Content → Option (List ℕ) → Option (List ℕ) → Option (List ℕ) → Type 0
  IsPrefix holds before now input = IfSome input
      (λ bytes. (rules : Rules) → AreRules holds told rules → GainsPrefix before now (output_of rules start (items_of bytes)))

  pub IsPrefix-sent : (holds : Option Content) (before now input left : Option (List ℕ)) (s : State)
      → HasAnswered holds before now input left s
      → IsPrefix holds before now input
  IsPrefix-sent holds before now None left s sent = tt
  IsPrefix-sent holds before now (Some input) None s sent = λ rules are. absurd (sent rules are)
  IsPrefix-sent holds before now (Some input) (Some left) s sent = λ rules are.
      HasSent-prefix before now (output_of rules start (items_of input)) (output_of rules s (items_of left))
      (sent_so_far rules before now input left s (sent rules are))

  -- the output for some bytes is what answers the first item, and the output for what comes after it
  output-first : (rules : Rules) → IsReading rules.read → (s : State) (bytes rest : List ℕ) (item : Item) → IsBeforeEnd item
      → IsFirstItem bytes rest item
      → output_of rules s (items_of bytes)
      ≡ said_bytes s (said_by item) ++ output_of rules (after rules.flush_at s (said_by item)) (items_of rest)
  output-first rules are s bytes rest item other is =
      let first = first_item bytes rest item other is in
      let says : said_by item ≡ said_of rules.read (first_of bytes).entry = first.1 rules.read are in
      ap (output_of rules s) (items_of-some bytes first.0)
      ∙ ap (λ said. said_bytes s said ++ output_of rules (after rules.flush_at s said) (items_of (first_of bytes).rest)) (sym says)
      ∙ ap (λ bs. said_bytes s (said_by item) ++ output_of rules (after rules.flush_at s (said_by item)) (items_of bs)) (sym first.2)

  part : (rules : Rules) → IsReading rules.read
      → (before between now : Option (List ℕ)) (input : List ℕ) (left rest : Option (List ℕ)) (s : State) (item : Item) → IsBeforeEnd item
      → IsNext left rest item
      → IsOnTheWay rules before between (Some input) left s → GainsPrefix between now (said_bytes s (said_by item))
      → GainsPrefix before now (output_of rules start (items_of input))
  part rules are before between now input None rest s item other next sent gained = absurd sent
  part rules are before between now input (Some left) None s item other next sent gained = absurd next
  part rules are before between now input (Some left) (Some rest) s item other next sent gained =
      HasSent-part before between now (output_of rules start (items_of input)) (said_bytes s (said_by item))
      (output_of rules (after rules.flush_at s (said_by item)) (items_of rest))
      (subst (HasSent before between (output_of rules start (items_of input)))
      (output-first rules are s left rest item other next) (sent_so_far rules before between input left s sent)) gained

  -- a turn that a fault ended: a prefix of what answers the item was written
  pub IsPrefix-part : (holds : Option Content) (before between now input left rest : Option (List ℕ)) (s : State) (item : Item)
      (reply written : List ℕ) → IsBeforeEnd item → IsNext left rest item
      → HasAnswered holds before between input left s → reply ≡ said_bytes s (said_by item) → written ≡ reply
      → GainsPrefix between now written → IsPrefix holds before now input
  IsPrefix-part holds before between now None left rest s item reply written other next sent replies same gained = tt
  IsPrefix-part holds before between now (Some input) left rest s item reply written other next sent replies same gained = λ rules are.
      part rules are.0 before between now input left rest s item other next (sent rules are)
      (subst (GainsPrefix between now) (same ∙ replies) gained)

  -- ---- the end of the script

  -- where no byte is left, the items of the input were answered
  pub all_answered : (rules : Rules) (before now : Option (List ℕ)) (input left : List ℕ) (s : State) → left ≡ []
      → (sent : HasAnsweredItems rules before now input left s) → sent.answered ≡ items_of input
  all_answered rules before now input left s none sent =
      sym (sent.split ∙ ap (λ bs. sent.answered ++ items_of bs) none ∙ ap (λ es. sent.answered ++ es) items_of-none
      ∙ append-nil sent.answered)

-- so many bytes were given, and so many more may be
abbrev pub HasTaken : Option (List ℕ) → Option (List ℕ) → ℕ → ℕ → Type 0
HasTaken before left spare most = (given : List ℕ) × Consumes before left given × (spare + length given ≡ most)

-- an item more was taken
pub HasTaken-more : (before between left : Option (List ℕ)) (last_read : ℕ) (old new : Held) (item : Item) (most : ℕ)
    → HasTaken before between old.spare most → TakesItem between left last_read old new item → HasTaken before left new.spare most
HasTaken-more before between left last_read old new item most taken more =
    let uses = more.1 in (
      taken.0 ++ uses.given,
      Consumes-trans before between left taken.0 uses.given taken.1 uses.consumed,
      omega
          (arith, length-append taken.0 uses.given, taken.2, uses.counted),
    )

-- each item but the end takes a byte or more of what is held and may be given
pub takes_one : (left left' : Option (List ℕ)) (last_read : ℕ) (old new : Held) (item : Item) → IsBeforeEnd item
    → TakesItem left left' last_read old new item → length new.bytes + new.spare < length old.bytes + old.spare
takes_one left left' last_read old new item other taken =
    let uses = taken.1 in
    omega (
      arith,
      (one_item last_read new item taken.0 other taken.2).some,
      ap length uses.joined,
      length-append old.bytes uses.given,
      length-append taken.0 new.bytes,
      uses.counted,
    )
