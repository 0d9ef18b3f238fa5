-- The replies to the bytes that were used were sent.
use Rattle.std.proofs.Common.{◌≡◌, ℕ, ◌+◌, Bool, true, false, List, [], ◌∷◌, ◌++◌, length, Option, refl, sym, ap, ◌∙◌, subst, ◌⊎◌, inl, inr}
use Rattle.std.proofs.Common.{arith, append_assoc, append-nil, length-append}
use Rattle.std.specs.Io.KnownBytes.{Appends, Consumes}
use Rattle.std.proofs.KnownBytes.{Appends-trans, Appends-nil, Consumes-nil, Consumes-trans}
use Rattle.wu_outside.specs.Content.{Content}
use Rattle.wu_script.specs.declared.types.Item.{Item}
use Rattle.wu_script.specs.Holding.{Held, Uses}
use Rattle.wu_script.specs.Said.{said_of, said_by, IsReading}
use Rattle.wu_script.specs.Commands.{Entry}
use Rattle.wu_script.specs.Items.{First, first_of, items_of, whole_items_of, IsBeforeEnd, IsOneItem, TakesItem}
use Rattle.wu_script.proofs.ItemListLemmas.{StartsWithFirst, first_more, items_of-closed, items_of-none, items_of-some}
use Rattle.wu_script.proofs.ItemListLemmas.{whole_items_of-closed}
use Rattle.wu_script.proofs.UnclosedLemmas.{open_none}
use Rattle.wu_options.specs.declared.command_lines.Settings.{Settings}
use Rattle.wu_query.specs.States.{State}
use Rattle.wumpus_run.specs.Replies.{Rules, AreRules, after, said_bytes, output_of}
use Rattle.wumpus_run.proofs.SessionLemmas.{one_item}

-- the output for the whole items of bytes
abbrev pub whole_output : Rules → State → List ℕ → List ℕ
whole_output rules s bytes = output_of rules s (whole_items_of bytes)

-- ---- an item

-- bytes that begin with a closed item are answered by its reply, and from the state that it leaves
pub closed-first : (items_in : List ℕ → List Entry) → StartsWithFirst items_in → (rules : Rules) → IsReading rules.read → (s : State)
    (last_read : ℕ) (new : Held) (item : Item) (used more : List ℕ) → IsOneItem last_read new item used → (first_of used).closed ≡ true
    → output_of rules s (items_in (used ++ more))
    ≡ said_bytes s (said_by item) ++ output_of rules (after rules.flush_at s (said_by item)) (items_in more)
closed-first items_in starts rules are s last_read new item used more one closed =
    let first = first_more used more closed in
    let says : said_by item ≡ said_of rules.read (first_of used).entry = one.entry rules.read are in
    ap (output_of rules s)
    (starts (used ++ more) (ap (λ (f : First). f.closed) first)
    ∙ ap (λ (f : First). f.entry ∷ items_in f.rest) first)
    ∙ ap (λ said. said_bytes s said ++ output_of rules (after rules.flush_at s said) (items_in ((first_of used).rest ++ more))) (sym says)
    ∙ ap (λ bs. said_bytes s (said_by item) ++ output_of rules (after rules.flush_at s (said_by item)) (items_in (bs ++ more))) one.all

-- the bytes of one item are answered by its reply
pub one_reply : (rules : Rules) → IsReading rules.read → (s : State) (last_read : ℕ) (new : Held) (item : Item) (used : List ℕ)
    → IsOneItem last_read new item used → output_of rules s (items_of used) ≡ said_bytes s (said_by item)
one_reply rules are s last_read new item used one =
    let entry = (first_of used).entry in
    let says : said_by item ≡ said_of rules.read entry = one.entry rules.read are in
    ap (output_of rules s)
    (items_of-some used one.some ∙ ap (λ bs. entry ∷ items_of bs) one.all ∙ ap (λ es. entry ∷ es) items_of-none)
    ∙ append-nil (said_bytes s (said_of rules.read entry)) ∙ ap (said_bytes s) (sym says)

-- after the source's end nothing is taken
pub none_left : (left left' : Option (List ℕ)) (last_read : ℕ) (old new : Held) (item : Item) (used : List ℕ) → Uses left left' old new used
    → IsOneItem last_read new item used → old.ended ≡ true → old.bytes ≡ [] → ⊥
none_left left left' last_read old new item used uses one ended none =
    omega (
      arith,
      one.some,
      ap length uses.joined,
      length-append old.bytes uses.given,
      length-append used new.bytes,
      ap length none,
      ap length (uses.over ended).0,
    )

pub joined_more : (given more used held piece behind : List ℕ) → given ≡ used ++ held → held ++ more ≡ piece ++ behind
    → given ++ more ≡ used ++ (piece ++ behind)
joined_more given more used held piece behind joined next = ap (λ bs. bs ++ more) joined ∙ append_assoc used held more
    ∙ ap (λ bs. used ++ bs) next

-- ---- the items so far

module _ (start : State) where
  -- the used bytes are closed items, and all that answers them was sent; what follows is answered from the state that they left
  pub record HasSentUsed (rules : Rules) (before now : Option (List ℕ)) (given held : List ℕ) (s : State) : Type 0 where
    pub used : List ℕ
    pub sent : List ℕ
    pub joined : given ≡ used ++ held
    pub gained : Appends before now sent
    pub whole : (more : List ℕ) → whole_output rules start (used ++ more) ≡ sent ++ whole_output rules s more
    pub all : (more : List ℕ) → output_of rules start (items_of (used ++ more)) ≡ sent ++ output_of rules s (items_of more)

  -- the input ended within the last item, which was answered too
  pub record HasSentLast (rules : Rules) (before now : Option (List ℕ)) (given : List ℕ) (held : Held) : Type 0 where
    pub sent : List ℕ
    pub last : List ℕ
    pub ended : held.ended ≡ true
    pub none : held.bytes ≡ []
    pub gained : Appends before now (sent ++ last)
    pub whole : whole_output rules start given ≡ sent
    pub all : output_of rules start (items_of given) ≡ sent ++ last

  sent_turn : (rules : Rules) → IsReading rules.read
      → (left left' before between now : Option (List ℕ)) (given piece : List ℕ) (last_read : ℕ) (old new : Held) (s : State) (item : Item)
      → (uses : Uses left left' old new piece) → IsOneItem last_read new item piece → Appends between now (said_bytes s (said_by item))
      → HasSentUsed rules before between given old.bytes s
      → HasSentUsed rules before now (given ++ uses.given) new.bytes (after rules.flush_at s (said_by item))
      ⊎ HasSentLast rules before now (given ++ uses.given) new
  sent_turn rules are left left' before between now given piece last_read old new s item uses one gained sent = by_case
      (first_of piece).closed refl
    where
      onward : (items_in : List ℕ → List Entry) → StartsWithFirst items_in → (first_of piece).closed ≡ true
          → ((more : List ℕ)
          → output_of rules start (items_in (sent.used ++ more)) ≡ sent.sent ++ output_of rules s (items_in more)) → (more : List ℕ)
          → output_of rules start (items_in ((sent.used ++ piece) ++ more))
          ≡ (sent.sent ++ said_bytes s (said_by item)) ++ output_of rules (after rules.flush_at s (said_by item)) (items_in more)
      onward items_in starts closed so_far more =
          ap (λ bs. output_of rules start (items_in bs)) (append_assoc sent.used piece more)
          ∙ so_far (piece ++ more)
          ∙ ap (λ bs. sent.sent ++ bs) (closed-first items_in starts rules are s last_read new item piece more one closed)
          ∙ sym (append_assoc sent.sent (said_bytes s (said_by item))
          (output_of rules (after rules.flush_at s (said_by item)) (items_in more)))

      by_case : (closed : Bool) → (first_of piece).closed ≡ closed
          → HasSentUsed rules before now (given ++ uses.given) new.bytes (after rules.flush_at s (said_by item))
          ⊎ HasSentLast rules before now (given ++ uses.given) new
      by_case true closed = inl (record {
        used = sent.used ++ piece;
        sent = sent.sent ++ said_bytes s (said_by item);
        joined = joined_more given uses.given sent.used old.bytes piece new.bytes sent.joined uses.joined
            ∙ sym (append_assoc sent.used piece new.bytes);
        gained = Appends-trans before between now sent.sent (said_bytes s (said_by item)) sent.gained gained;
        whole = onward whole_items_of whole_items_of-closed closed sent.whole;
        all = onward items_of items_of-closed closed sent.all;
      })
      by_case false unclosed =
          let last = one.last.end unclosed in
          let all : given ++ uses.given ≡ sent.used ++ piece =
          joined_more given uses.given sent.used old.bytes piece new.bytes sent.joined uses.joined
          ∙ ap (λ bs. sent.used ++ (piece ++ bs)) last.0 ∙ ap (λ bs. sent.used ++ bs) (append-nil piece) in
          inr (record {
            sent = sent.sent;
            last = said_bytes s (said_by item);
            ended = last.1;
            none = last.0;
            gained = Appends-trans before between now sent.sent (said_bytes s (said_by item)) sent.gained gained;
            whole = ap (whole_output rules start) all ∙ sent.whole piece
                ∙ ap (λ es. sent.sent ++ output_of rules s es) (open_none piece unclosed) ∙ append-nil sent.sent;
            all = ap (λ bs. output_of rules start (items_of bs)) all ∙ sent.all piece
                ∙ ap (λ bs. sent.sent ++ bs) (one_reply rules are s last_read new item piece one);
          })

module _ (told : Settings) (start : State) where
  -- the source gave some bytes, and each item that was made of them is answered
  pub record HasReplied (holds : Option Content) (before left gained now : Option (List ℕ)) (held : Held) (s : State) (most : ℕ)
      : Type 0 where
    pub given : List ℕ
    pub consumed : Consumes before left given
    pub counted : held.spare + length given ≡ most
    pub replied : (rules : Rules) → AreRules holds told rules
        → HasSentUsed start rules gained now given held.bytes s ⊎ HasSentLast start rules gained now given held

  -- at the start nothing was given
  pub HasReplied-none : (holds : Option Content) (before gained : Option (List ℕ)) (most : ℕ)
      → HasReplied holds before before gained gained (record { bytes = []; spare = most; ended = false }) start most
  HasReplied-none holds before gained most = record {
    given = [];
    consumed = Consumes-nil before;
    counted = omega arith;
    replied = λ rules are. inl (record {
      used = [];
      sent = [];
      joined = refl;
      gained = Appends-nil gained;
      whole = λ more. refl;
      all = λ more. refl;
    });
  }

  -- a turn of the loop: an item was read, and what answers it was written
  pub HasReplied-turn : (holds : Option Content) (before between left gained mid now : Option (List ℕ)) (last_read : ℕ) (old new : Held)
      (s : State) (item : Item) (reply written : List ℕ) (most : ℕ) → IsBeforeEnd item → TakesItem between left last_read old new item
      → HasReplied holds before between gained mid old s most → reply ≡ said_bytes s (said_by item)
      → written ≡ reply → Appends mid now written
      → HasReplied holds before left gained now new (after told.flush_at s (said_by item)) most
  HasReplied-turn holds before between left gained mid now last_read old new s item reply written most other taken replied replies same
      sent =
      let uses = taken.1 in
      let one = one_item last_read new item taken.0 other taken.2 in
      record {
        given = replied.given ++ uses.given;
        consumed = Consumes-trans before between left replied.given uses.given replied.consumed uses.consumed;
        counted = omega (arith, length-append replied.given uses.given, replied.counted, uses.counted);
        replied = λ rules are.
            subst (λ n. HasSentUsed start rules gained now (replied.given ++ uses.given) new.bytes (after n s (said_by item))
            ⊎ HasSentLast start rules gained now (replied.given ++ uses.given) new) are.1
            (turn_case rules are.0 uses one (subst (Appends mid now) (same ∙ replies) sent) (replied.replied rules are));
      }
    where
      turn_case : (rules : Rules) → IsReading rules.read → (uses : Uses between left old new taken.0) → IsOneItem last_read new item taken.0
          → Appends mid now (said_bytes s (said_by item))
          → HasSentUsed start rules gained mid replied.given old.bytes s ⊎ HasSentLast start rules gained mid replied.given old
          → HasSentUsed start rules gained now (replied.given ++ uses.given) new.bytes (after rules.flush_at s (said_by item))
          ⊎ HasSentLast start rules gained now (replied.given ++ uses.given) new
      turn_case rules are uses one wrote (inl so_far) =
          sent_turn start rules are between left gained mid now replied.given taken.0 last_read old new s item uses one wrote so_far
      turn_case rules are uses one wrote (inr ended) = absurd
          (none_left between left last_read old new item taken.0 uses one ended.ended ended.none)
