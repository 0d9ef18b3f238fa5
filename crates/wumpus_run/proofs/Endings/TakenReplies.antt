-- What was sent answers items of the bytes that were taken.
use Rattle.std.proofs.Common.{◌≡◌, ℕ, Bool, true, false, List, [], ◌++◌, Option, None, Some, refl, sym, ap, ◌∙◌, ◌⊎◌, inl, inr}
use Rattle.std.proofs.Common.{append_assoc, append-nil}
use Rattle.std.specs.Io.KnownBytes.{Consumes}
use Rattle.std.proofs.KnownBytes.{Appends-nil, Appends-trans, Consumes-nil, Consumes-trans}
use Rattle.wu_outside.specs.Gains.{GainsPrefix}
use Rattle.wu_script.specs.declared.types.Item.{Item}
use Rattle.wu_script.specs.Holding.{Held}
use Rattle.wu_script.specs.Items.{first_of, items_of, IsBeforeEnd, IsOneItem, TakesItem}
use Rattle.wu_script.specs.Said.{IsReading, said_by}
use Rattle.wu_script.proofs.ItemListLemmas.{items_of-closed}
use Rattle.wu_options.specs.declared.command_lines.Settings.{Settings}
use Rattle.wu_query.specs.States.{State}
use Rattle.wumpus_run.specs.Replies.{Rules, after, output_of, said_bytes}
use Rattle.wumpus_run.specs.Session.{AnswersTaken, Moment}
use Rattle.wumpus_run.proofs.SessionLemmas.{one_item}
use Rattle.wumpus_run.proofs.Endings.SentReplies.{HasReplied, HasSentLast, HasSentUsed, closed-first, joined_more, none_left, one_reply}

-- one item, and what is held after it, is answered by its reply first
reply_first : (rules : Rules) → IsReading rules.read → (s : State) (last_read : ℕ) (new : Held) (item : Item) (used : List ℕ)
    → IsOneItem last_read new item used
    → (rest : List ℕ) × (output_of rules s (items_of (used ++ new.bytes)) ≡ said_bytes s (said_by item) ++ rest)
reply_first rules are s last_read new item used one = by_case (first_of used).closed refl
  where
    by_case : (closed : Bool) → (first_of used).closed ≡ closed
        → (rest : List ℕ) × (output_of rules s (items_of (used ++ new.bytes)) ≡ said_bytes s (said_by item) ++ rest)
    by_case true closed = (
      output_of rules (after rules.flush_at s (said_by item)) (items_of new.bytes),
      closed-first items_of items_of-closed rules are s last_read new item used new.bytes one closed,
    )
    by_case false unclosed = (
      [],
      ap (λ bs. output_of rules s (items_of bs)) (ap (λ bs. used ++ bs) (one.last.end unclosed).0 ∙ append-nil used)
          ∙ one_reply rules are s last_read new item used one
          ∙ sym (append-nil (said_bytes s (said_by item))),
    )

module _ (told : Settings) (start : State) where
  -- no reply was written to what came after
  pub AnswersTaken-so_far : (before now : Moment) (between : Option (List ℕ)) (old : Held) (s : State) (more : List ℕ)
      → HasReplied told start before.holds before.left between before.gained now.gained old s told.max_input
      → Consumes between now.left more → (old.ended ≡ true → more ≡ [])
      → AnswersTaken start (Some told) before now
  AnswersTaken-so_far before now between old s more replied consumed over = (
    replied.given ++ more,
    Consumes-trans before.left between now.left replied.given more replied.consumed consumed,
    λ rules are. by_case rules (replied.replied rules are),
  )
    where
      by_case : (rules : Rules)
          → HasSentUsed start rules before.gained now.gained replied.given old.bytes s
          ⊎ HasSentLast start rules before.gained now.gained replied.given old
          → GainsPrefix before.gained now.gained (output_of rules start (items_of (replied.given ++ more)))
      by_case rules (inl sent) =
          let all = ap (λ bs. bs ++ more) sent.joined ∙ append_assoc sent.used old.bytes more in (
            sent.sent,
            output_of rules s (items_of (old.bytes ++ more)),
            ap (λ bs. output_of rules start (items_of bs)) all ∙ sent.all (old.bytes ++ more),
            sent.gained,
          )
      by_case rules (inr sent) =
          let all = ap (λ bs. replied.given ++ bs) (over sent.ended) ∙ append-nil replied.given in (
            sent.sent ++ sent.last,
            [],
            ap (λ bs. output_of rules start (items_of bs)) all ∙ sent.all ∙ sym (append-nil (sent.sent ++ sent.last)),
            sent.gained,
          )

  -- a reply wasn't written whole
  pub AnswersTaken-part : (before now : Moment) (between mid : Option (List ℕ)) (old new : Held) (s : State) (item : Item)
      (reply written : List ℕ) → IsBeforeEnd item → TakesItem between now.left now.last_read old new item
      → HasReplied told start before.holds before.left between before.gained mid old s told.max_input
      → reply ≡ said_bytes s (said_by item) → written ≡ reply → GainsPrefix mid now.gained written
      → AnswersTaken start (Some told) before now
  AnswersTaken-part before now between mid old new s item reply written other taken replied replies same part = (
    replied.given ++ taken.1.given,
    Consumes-trans before.left between now.left replied.given taken.1.given replied.consumed taken.1.consumed,
    λ rules are. by_case rules are.0 (replied.replied rules are),
  )
    where
      used : List ℕ
      used = taken.0

      one : IsOneItem now.last_read new item used
      one = one_item now.last_read new item used other taken.2

      by_case : (rules : Rules) → IsReading rules.read
          → HasSentUsed start rules before.gained mid replied.given old.bytes s
          ⊎ HasSentLast start rules before.gained mid replied.given old
          → GainsPrefix before.gained now.gained (output_of rules start (items_of (replied.given ++ taken.1.given)))
      by_case rules are (inl sent) =
          let all = joined_more replied.given taken.1.given sent.used old.bytes used new.bytes sent.joined taken.1.joined in
          let first = reply_first rules are s now.last_read new item used one in
          let halves = ap (λ bs. bs ++ first.0) (sym (same ∙ replies) ∙ part.2) ∙ append_assoc part.0 part.1 first.0 in (
            sent.sent ++ part.0,
            part.1 ++ first.0,
            ap (λ bs. output_of rules start (items_of bs)) all ∙ sent.all (used ++ new.bytes)
                ∙ ap (λ bs. sent.sent ++ bs) (first.1 ∙ halves)
                ∙ sym (append_assoc sent.sent part.0 (part.1 ++ first.0)),
            Appends-trans before.gained mid now.gained sent.sent part.0 sent.gained part.3,
          )
      by_case rules are (inr sent) = absurd
          (none_left between now.left now.last_read old new item used taken.1 one sent.ended sent.none)

  -- nothing was taken
  pub AnswersTaken-none : (before : Moment) → AnswersTaken start (Some told) before before
  AnswersTaken-none before = (
    [],
    Consumes-nil before.left,
    λ rules are. ([], output_of rules start (items_of []), refl, Appends-nil before.gained),
  )

-- nothing was taken, whatever the arguments ask for
pub AnswersTaken-untouched : (start : State) (settings : Option Settings) (before : Moment) → AnswersTaken start settings before before
AnswersTaken-untouched start None before = tt
AnswersTaken-untouched start (Some told) before = AnswersTaken-none told start before
