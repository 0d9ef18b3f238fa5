-- The addresses and the blobs that a session takes: from less than SPENT_AT and BLOBS_SPENT_AT on, at most three addresses and WORK_MAX
-- blobs for each byte of its input.
use Rattle.std.proofs.Common.{◌≡◌, ℕ, ◌+◌, ◌*◌, ◌<◌, ◌≤◌, ◌^◌, false, Option, List, [], length, refl, ap, arith, length-append}
use Rattle.wu_base.specs.declared.limits.TheConstants.{INPUT_MAX, ADDRESSES_MAX, BLOBS_SPENT_AT, SPENT_AT, WORK_MAX}
use Rattle.wu_gcl.proofs.Existence.{each_text_is_read}
use Rattle.wu_tree.specs.declared.events.Event.{Event}
use Rattle.wu_tree.specs.declared.events.Event.TheVariants as events
use Rattle.wu_script.specs.declared.types.Command.TheVariants as commands
use Rattle.wu_script.specs.declared.types.Item.{Item}
use Rattle.wu_script.specs.declared.types.Item.TheVariants as items
use Rattle.wu_script.specs.Commands.{Work}
use Rattle.wu_script.specs.Holding.{Held}
use Rattle.wu_script.specs.Items.{first_of, IsBeforeEnd, IsItem, TakesItem}
use Rattle.wu_script.specs.Said.{Said, Operates, Reading, IsReading, IsSoundItem, said_by, said_of, event_tokens, tokens_given}
use Rattle.wu_script.proofs.TokenLemmas.{first_tokens}
use Rattle.wu_engine.specs.Stands.{taken_by}
use Rattle.wumpus_run.specs.Raised.{flushes_by}
use Rattle.wumpus_run.specs.Session.{drawn_by}
use Rattle.wumpus_run.proofs.SessionLemmas.{one_item, takes_one}

-- an event takes an address for each token of the text that it gives
pub tokens_taken : (event : Event) (text : List ℕ) → taken_by event text ≡ event_tokens event text
tokens_taken (events.Create ino parent name perm) text = refl
tokens_taken (events.Text ino) text = refl
tokens_taken _ text = refl

-- ---- an item

abbrev a_reading : Reading
a_reading text = (each_text_is_read text).0

a_reading-is : IsReading a_reading
a_reading-is text = (each_text_is_read text).1

few_tokens : (last_read : ℕ) (new : Held) (item : Item) (used : List ℕ) → IsBeforeEnd item → IsItem last_read new item used
    → tokens_given (said_by item) ≤ 3 * length used
few_tokens last_read new item used other is =
    let one = one_item last_read new item used other is in
    let says : said_by item ≡ said_of a_reading (first_of used).entry = one.entry a_reading a_reading-is in
    omega (arith, ap tokens_given says, first_tokens a_reading used one.some, ap length one.all)

-- the addresses before this one, and three for each byte that is held or may still be given, are no more than SPENT_AT and three for each
-- byte that the input may have
abbrev pub HasRoom : ℕ → Held → ℕ → Type 0
HasRoom next held most = next + 3 * (length held.bytes + held.spare) ≤ SPENT_AT + 3 * most

-- at the start there is room for the whole input
pub HasRoom-none : (next most : ℕ) → next < SPENT_AT → HasRoom next (record { bytes = []; spare = most; ended = false }) most
HasRoom-none next most unspent = omega (arith, unspent)

-- an item's text has room
pub HasRoom-item : (left left' : Option (List ℕ)) (last_read : ℕ) (old new : Held) (item : Item) (next most : ℕ) → IsBeforeEnd item
    → TakesItem left left' last_read old new item → HasRoom next old most → HasRoom (next + tokens_given (said_by item)) new most
HasRoom-item left left' last_read old new item next most other taken room =
    let uses = taken.1 in
    omega (
      arith,
      few_tokens last_read new item taken.0 other taken.2,
      ap length uses.joined,
      length-append old.bytes uses.given,
      length-append taken.0 new.bytes,
      uses.counted,
      room,
    )

-- and its addresses are ones that there are
pub HasRoom-few : (next most : ℕ) (held : Held) → HasRoom next held most → most ≤ INPUT_MAX → next ≤ ADDRESSES_MAX
HasRoom-few next most held room within = omega arith

pub HasRoom-fewer : (next taken most : ℕ) (held : Held) → HasRoom taken held most → next ≤ taken → HasRoom next held most
HasRoom-fewer next taken most held room fewer = omega arith

-- ---- numbers that items raise: that of the next blob, and how many flushes are counted

-- the number, and WORK_MAX for each byte that is held or may still be given, are no more than BLOBS_SPENT_AT and WORK_MAX for each byte of
-- the input
abbrev pub StaysLow : ℕ → Held → ℕ → Type 0
StaysLow number held most = number + WORK_MAX * (length held.bytes + held.spare) ≤ BLOBS_SPENT_AT + WORK_MAX * most

-- at the start it is below BLOBS_SPENT_AT
pub StaysLow-none : (number most : ℕ) → number < BLOBS_SPENT_AT
    → StaysLow number (record { bytes = []; spare = most; ended = false }) most
StaysLow-none number most few = omega (arith, few)

-- an item may raise it by WORK_MAX
pub StaysLow-item : (left left' : Option (List ℕ)) (last_read : ℕ) (old new : Held) (item : Item) (number raised most : ℕ)
    → IsBeforeEnd item → TakesItem left left' last_read old new item → StaysLow number old most → raised ≤ number + WORK_MAX
    → StaysLow raised new most
StaysLow-item left left' last_read old new item number raised most other taken low few =
    omega (arith, takes_one left left' last_read old new item other taken, low, few)

-- a sound item draws no more blobs than that
pub few_drawn : (item : Item) → IsSoundItem item → drawn_by (said_by item) ≤ WORK_MAX
few_drawn (items.Command (commands.Work units)) sound = sound.1
few_drawn _ sound = omega arith

-- at most two flushes are counted for what an item says
pub few_flushes : (said : Said) → flushes_by said ≤ 2
few_flushes (Operates (Work units)) = omega arith
few_flushes _ = omega arith

-- and what is WORK_MAX higher is still a number that there is
pub StaysLow-few : (number most : ℕ) (held : Held) → StaysLow number held most → most ≤ INPUT_MAX → number + WORK_MAX < 2 ^ 63
StaysLow-few number most held low within = omega arith
