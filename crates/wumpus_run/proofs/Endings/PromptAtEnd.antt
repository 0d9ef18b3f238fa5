-- A session that ends held no reply back: the items of the bytes that were used are answered.
use Rattle.std.proofs.Common.{◌≡◌, ℕ, ◌+◌, ◌-◌, List, [], ◌++◌, length, take, take_all, Option, None, Some, refl, sym, ap, ◌∙◌, subst, ◌⊎◌}
use Rattle.std.proofs.Common.{inl, inr, arith, append_assoc, append-nil, length-append}
use Rattle.std.proofs.Math.Seq.{take-append-add}
use Rattle.std.specs.Io.KnownBytes.{Appends}
use Rattle.std.proofs.KnownBytes.{Appends-trans, Appends-nil, Consumes-nil, Consumes-trans}
use Rattle.wu_script.specs.declared.ends.ReadEnd.{ReadEnd}
use Rattle.wu_script.specs.declared.ends.ReadEnd.TheVariants as ends
use Rattle.wu_script.specs.declared.types.Item.{Item}
use Rattle.wu_script.specs.declared.types.Item.TheVariants as items
use Rattle.wu_base.specs.declared.limits.TheConstants.{READ_MAX}
use Rattle.wu_script.specs.Holding.{GivesAtMost, Held, asked_at_once, but_last, settled}
use Rattle.wu_script.specs.Items.{whole_items_of, IsBeforeEnd, IsOneItem, TakesItem, EndsBeforeItem}
use Rattle.wu_script.proofs.ItemListLemmas.{whole_items_of-none}
use Rattle.wu_script.proofs.ReadLemmas.{GivesAtMost-more, GivesAtMost-none}
use Rattle.wu_options.specs.declared.command_lines.Settings.{Settings}
use Rattle.wu_query.specs.States.{State}
use Rattle.wumpus_run.specs.Replies.{Rules, output_of}
use Rattle.wumpus_run.specs.Ended.{status_of}
use Rattle.wumpus_run.specs.Session.{Moment, AnswersWholeItems, AnswersAllButOneRead, HoldsNothingBack}
use Rattle.wumpus_run.specs.Taking.{GainsAtLeast}
use Rattle.wumpus_run.proofs.SessionLemmas.{one_item}
use Rattle.wumpus_run.proofs.Endings.PartialItems.{none_but_last}
use Rattle.wumpus_run.proofs.Endings.SentReplies.{whole_output, none_left, joined_more, HasSentUsed, HasSentLast, HasReplied}
use Rattle.wumpus_run.proofs.Endings.WholeOutputs.{whole-take, sent_exactly, sent_at_least}

-- the bytes given up to the limit, where reading stopped for another cause than memory
taken_whole : (given more used : List ℕ) (last_read : ℕ) (old : Held) (most : ℕ) (end : ReadEnd) (left left' : Option (List ℕ))
    → (end ≡ ends.NoMemory → ⊥) → given ≡ used ++ old.bytes → old.spare + length given ≡ most
    → (stops : EndsBeforeItem left left' last_read old end)
    → take most (given ++ stops.given) ≡ used ++ settled end last_read old stops.given
taken_whole given more used last_read old most ends.ReadFault left left' other joined counted stops =
    take_all most (given ++ stops.given) (omega (arith, length-append given stops.given, counted, stops.counted))
    ∙ ap (λ bs. bs ++ stops.given) joined ∙ append_assoc used old.bytes stops.given
taken_whole given more used last_read old most ends.InputTooLong left left' other joined counted stops =
    let most_is : most ≡ length given + old.spare = omega (arith, counted) in
    ap (λ n. take n (given ++ stops.given)) most_is ∙ take-append-add given stops.given old.spare
    ∙ ap (λ bs. bs ++ take old.spare stops.given) joined ∙ append_assoc used old.bytes (take old.spare stops.given)
taken_whole given more used last_read old most ends.NoMemory left left' other joined counted stops = absurd (other refl)

-- at least so much was sent, and then more
more_sent : (old between now : Option (List ℕ)) (sent piece output rest : List ℕ) → sent ≡ output ++ rest → Appends old between sent
    → Appends between now piece
    → GainsAtLeast old now output
more_sent old between now sent piece output rest is gained wrote = (
  rest ++ piece,
  subst (Appends old now) (ap (λ bs. bs ++ piece) is ∙ append_assoc output rest piece)
      (Appends-trans old between now sent piece gained wrote),
)

-- the source had given its end, and nothing was left over
ended_early : (between left : Option (List ℕ)) (last_read : ℕ) (old new : Held) → TakesItem between left last_read old new items.End
    → EndsBeforeItem between left last_read old ends.NoMemory
ended_early between left last_read old new taken =
    let uses = taken.1 in
    let none : old.bytes ++ uses.given ≡ [] = uses.joined ∙ ap (λ bs. bs ++ new.bytes) taken.2.0 ∙ taken.2.1 in
    record {
      given = uses.given;
      consumed = uses.consumed;
      counted = omega (arith, uses.counted);
      alone = λ e. cc (e);
      over = λ e. ((uses.over e).0, refl);
      short = ap (λ bs. whole_items_of (but_last last_read bs)) none ∙ ap whole_items_of (take_all (0 - last_read) [] (omega arith))
          ∙ whole_items_of-none;
    }

-- the last read gave at most READ_MAX bytes, or none gave any
abbrev pub IsBrief : Moment → Moment → Type 0
IsBrief before now = GivesAtMost READ_MAX before.left now.left before.last_read now.last_read

pub IsBrief-then : (spare : ℕ) (before between now : Moment) → IsBrief before between
    → GivesAtMost (asked_at_once spare) between.left now.left between.last_read now.last_read → IsBrief before now
IsBrief-then spare before between now so_far more =
    GivesAtMost-more READ_MAX (asked_at_once spare) before.left between.left now.left before.last_read between.last_read now.last_read
    (omega arith) so_far more

module _ (told : Settings) (start : State) where
  -- the source failed, or gave a byte too many
  AnswersWholeItems-stopped : (end : ReadEnd) (before now : Moment) (between : Option (List ℕ)) (old : Held) (s : State)
      → (end ≡ ends.NoMemory → ⊥)
      → HasReplied told start before.holds before.left between before.gained now.gained old s told.max_input
      → EndsBeforeItem between now.left now.last_read old end
      → AnswersWholeItems start (Some told) before now
  AnswersWholeItems-stopped end before now between old s other replied stops = (
    replied.given ++ stops.given,
    Consumes-trans before.left between now.left replied.given stops.given replied.consumed stops.consumed,
    λ rules are. by_case rules (replied.replied rules are),
  )
    where
      by_case : (rules : Rules)
          → HasSentUsed start rules before.gained now.gained replied.given old.bytes s
          ⊎ HasSentLast start rules before.gained now.gained replied.given old
          → Appends before.gained now.gained (whole_output rules start (take told.max_input (replied.given ++ stops.given)))
      by_case rules (inl sent) =
          let all = taken_whole replied.given [] sent.used now.last_read old told.max_input end between now.left other sent.joined
          replied.counted stops in
          subst (Appends before.gained now.gained)
          (sym (ap (whole_output rules start) all
          ∙ sent_exactly start rules before.gained now.gained replied.given old.bytes
          (settled end now.last_read old stops.given) s sent stops.short)) sent.gained
      by_case rules (inr sent) = absurd (other (stops.over sent.ended).1)

  -- there was no memory to read an item
  AnswersAllButOneRead-stopped : (before now : Moment) (between : Option (List ℕ)) (old : Held) (s : State) → IsBrief before now
      → HasReplied told start before.holds before.left between before.gained now.gained old s told.max_input
      → EndsBeforeItem between now.left now.last_read old ends.NoMemory
      → AnswersAllButOneRead start (Some told) before now
  AnswersAllButOneRead-stopped before now between old s brief replied stops = (
    replied.given ++ stops.given,
    Consumes-trans before.left between now.left replied.given stops.given replied.consumed stops.consumed,
    brief,
    λ rules are. by_case rules (replied.replied rules are),
  )
    where
      last : ℕ
      last = now.last_read

      by_case : (rules : Rules)
          → HasSentUsed start rules before.gained now.gained replied.given old.bytes s
          ⊎ HasSentLast start rules before.gained now.gained replied.given old
          → GainsAtLeast before.gained now.gained (whole_output rules start (but_last last (replied.given ++ stops.given)))
      by_case rules (inl sent) =
          let all = ap (λ bs. bs ++ stops.given) sent.joined ∙ append_assoc sent.used old.bytes stops.given in
          let prefix = sent_at_least start rules last before.gained now.gained replied.given old.bytes s (replied.given ++ stops.given)
          (old.bytes ++ stops.given) sent all
          stops.short in
          (prefix.0, subst (Appends before.gained now.gained) prefix.1 sent.gained)
      by_case rules (inr sent) =
          let all = ap (λ bs. replied.given ++ bs) (stops.over sent.ended).0 ∙ append-nil replied.given in
          let n = length (replied.given ++ stops.given) - last in
          let prefix = whole-take rules start n replied.given in
          let is : sent.sent ≡ whole_output rules start (but_last last (replied.given ++ stops.given)) ++ prefix.0 =
          sym sent.whole ∙ prefix.1 ∙ ap (λ bs. whole_output rules start (take n bs) ++ prefix.0) (sym all) in (
            prefix.0 ++ sent.last,
            subst (Appends before.gained now.gained)
                (ap (λ bs. bs ++ sent.last) is
                ∙ append_assoc
                (whole_output rules start (but_last last (replied.given ++ stops.given))) prefix.0 sent.last) sent.gained,
          )

  -- an item was taken, and a prefix of its reply at most was written
  pub AnswersAllButOneRead-taken : (before now : Moment) (between mid : Option (List ℕ)) (old new : Held) (s : State) (item : Item)
      (piece : List ℕ)
      → IsBeforeEnd item → TakesItem between now.left now.last_read old new item → IsBrief before now
      → HasReplied told start before.holds before.left between before.gained mid old s told.max_input → Appends mid now.gained piece
      → AnswersAllButOneRead start (Some told) before now
  AnswersAllButOneRead-taken before now between mid old new s item piece other taken brief replied wrote = (
    replied.given ++ taken.1.given,
    Consumes-trans before.left between now.left replied.given taken.1.given replied.consumed taken.1.consumed,
    brief,
    λ rules are. by_case rules (replied.replied rules are),
  )
    where
      used : List ℕ
      used = taken.0

      last : ℕ
      last = now.last_read

      one : IsOneItem last new item used
      one = one_item last new item used other taken.2

      by_case : (rules : Rules)
          → HasSentUsed start rules before.gained mid replied.given old.bytes s
          ⊎ HasSentLast start rules before.gained mid replied.given old
          → GainsAtLeast before.gained now.gained (whole_output rules start (but_last last (replied.given ++ taken.1.given)))
      by_case rules (inl sent) =
          let all = joined_more replied.given taken.1.given sent.used old.bytes used new.bytes sent.joined taken.1.joined in
          let prefix = sent_at_least start rules last before.gained mid replied.given old.bytes s (replied.given ++ taken.1.given)
          (used ++ new.bytes) sent all
          (none_but_last last new item used one) in
          more_sent before.gained mid now.gained sent.sent piece
          (whole_output rules start (but_last last (replied.given ++ taken.1.given))) prefix.0 prefix.1
          sent.gained wrote
      by_case rules (inr sent) = absurd (none_left between now.left last old new item used taken.1 one sent.ended sent.none)

  -- the script has ended
  pub AnswersAllButOneRead-ended : (before now : Moment) (between : Option (List ℕ)) (old new : Held) (s : State)
      → TakesItem between now.left now.last_read old new items.End → IsBrief before now
      → HasReplied told start before.holds before.left between before.gained now.gained old s told.max_input
      → AnswersAllButOneRead start (Some told) before now
  AnswersAllButOneRead-ended before now between old new s taken brief replied =
      AnswersAllButOneRead-stopped before now between old s brief replied (ended_early between now.left now.last_read old new taken)

  -- nothing was given
  pub AnswersAllButOneRead-none : (before : Moment) → AnswersAllButOneRead start (Some told) before before
  AnswersAllButOneRead-none before = (
    [],
    Consumes-nil before.left,
    GivesAtMost-none READ_MAX before.left before.last_read,
    λ rules are.
        ([], subst (Appends before.gained before.gained) (sym (none rules)) (Appends-nil before.gained)),
  )
    where
      none : (rules : Rules) → whole_output rules start (but_last before.last_read []) ++ [] ≡ []
      none rules = ap (λ bs. whole_output rules start bs ++ []) (take_all (0 - before.last_read) [] (omega arith))
          ∙ ap (λ es. output_of rules start es ++ []) whole_items_of-none

  -- reading stopped
  pub HoldsNothingBack-stopped : (end : ReadEnd) (before now : Moment) (between : Option (List ℕ)) (old : Held) (s : State)
      → IsBrief before now
      → HasReplied told start before.holds before.left between before.gained now.gained old s told.max_input
      → EndsBeforeItem between now.left now.last_read old end
      → HoldsNothingBack start (status_of end) (Some told) before now
  HoldsNothingBack-stopped ends.ReadFault before now between old s brief replied stops =
      AnswersWholeItems-stopped ends.ReadFault before now between old s (λ e. (cc)) replied stops
  HoldsNothingBack-stopped ends.InputTooLong before now between old s brief replied stops =
      AnswersWholeItems-stopped ends.InputTooLong before now between old s (λ e. (cc)) replied stops
  HoldsNothingBack-stopped ends.NoMemory before now between old s brief replied stops =
      AnswersAllButOneRead-stopped before now between old s brief replied stops

-- nothing was given, whatever the arguments ask for
pub AnswersAllButOneRead-untouched : (start : State) (settings : Option Settings) (before : Moment)
    → AnswersAllButOneRead start settings before before
AnswersAllButOneRead-untouched start None before = tt
AnswersAllButOneRead-untouched start (Some told) before = AnswersAllButOneRead-none told start before
