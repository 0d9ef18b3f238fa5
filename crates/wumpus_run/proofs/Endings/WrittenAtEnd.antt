-- What a session wrote, however it ended.
use Rattle.std.proofs.Common.{◌≡◌, ℕ, List, [], Option, None, Some, IfSome, refl, sym, ap, ◌∙◌, subst, ⊎_elim}
use Rattle.std.specs.Io.KnownBytes.{Appends, prepend_known}
use Rattle.std.proofs.KnownBytes.{Appends-nil}
use Rattle.wu_base.specs.declared.troubles.Trouble.{Trouble}
use Rattle.wu_base.specs.declared.troubles.Trouble.TheVariants as troubles
use Rattle.wu_outside.specs.Content.{Content}
use Rattle.wu_outside.specs.Crash.{Moments}
use Rattle.wu_outside.specs.declared.ranges.ReadRange.{ReadRange}
use Rattle.wu_outside.specs.Gains.{GainsPrefix}
use Rattle.wu_outside.specs.declared.traits.Fault.{Fault}
use Rattle.wu_outside.specs.declared.traits.Fault.TheVariants.{Failed}
use Rattle.wu_outside.specs.declared.traits.Fault.TheVariants as faults
use Rattle.wu_script.specs.declared.ends.ReadEnd.{ReadEnd}
use Rattle.wu_script.specs.declared.types.Item.{Item}
use Rattle.wu_script.specs.declared.types.Item.TheVariants as items
use Rattle.wu_script.specs.Said.{said_by}
use Rattle.wu_script.specs.Holding.{Held}
use Rattle.wu_script.specs.Items.{items_of, IsBeforeEnd, IsNext, EndsBeforeItem, TakesItem}
use Rattle.wu_options.specs.declared.command_lines.Settings.{Settings}
use Rattle.wumpus_run.specs.declared.statuses.Status.{Status}
use Rattle.wu_query.specs.States.{State}
use Rattle.wu_engine.specs.declared.faults.BeginFault.{BeginFault}
use Rattle.wu_engine.specs.declared.faults.BeginFault.TheVariants as opening
use Rattle.wumpus_run.specs.Replies.{AreRules, Rules, output_of, said_bytes, state_after}
use Rattle.wumpus_run.specs.Ended.{Ends, status_of, status_of_fault, status_of_opening, status_of_trouble}
use Rattle.wumpus_run.specs.Session.{Moment, AnswersAll, AnswersAllButOneRead, AnswersPrefix, HoldsNothingBack}
use Rattle.wumpus_run.proofs.SessionLemmas.{IsOnTheWay, HasAnswered, IsPrefix-part, IsPrefix-sent, all_answered}
use Rattle.wumpus_run.proofs.Endings.EndStatuses.{IsSaving}
use Rattle.wumpus_run.proofs.Endings.SentReplies.{HasReplied}
use Rattle.wumpus_run.proofs.Endings.PromptAtEnd.{AnswersAllButOneRead-taken, AnswersAllButOneRead-ended, AnswersAllButOneRead-none}
use Rattle.wumpus_run.proofs.Endings.PromptAtEnd.{HoldsNothingBack-stopped, IsBrief}
use Rattle.wumpus_run.proofs.Endings.TakenReplies.{AnswersTaken-none, AnswersTaken-part, AnswersTaken-so_far}

module _ (told : Settings) (start : State) where
  -- nothing was sent
  pub AnswersPrefix-none : (before : Moment) → AnswersPrefix start (Some told) before before
  AnswersPrefix-none before = by_case before.left
    where
      by_case : (left : Option (List ℕ)) → AnswersPrefix start (Some told) (record before { left = left }) before
      by_case None = tt
      by_case (Some input) = λ rules are. ([], output_of rules start (items_of input), refl, Appends-nil before.gained)

  -- the store couldn't be opened: nothing but the store was touched
  pub Ends-unopened : (fault : BeginFault) (before : Moment) (holds : Option Content) (reads : Option (List ReadRange))
      (moments : Option Moments) (faults : ℕ)
      → Ends start (status_of_opening fault) (Some told) before
      (record before { holds = holds; reads = reads; moments = moments; store_faults = faults })
  Ends-unopened opening.NoMemory before holds reads moments faults = record {
    prefix = AnswersPrefix-none before;
    only_taken = AnswersTaken-none told start before;
    prompt = AnswersAllButOneRead-none told start before;
  }
  Ends-unopened opening.StoreFault before holds reads moments faults = record {
    prefix = AnswersPrefix-none before;
    only_taken = AnswersTaken-none told start before;
    prompt = AnswersAllButOneRead-none told start before;
  }
  Ends-unopened (opening.Damaged blob) before holds reads moments faults = record {
    prefix = AnswersPrefix-none before;
    only_taken = AnswersTaken-none told start before;
    prompt = AnswersAllButOneRead-none told start before;
  }
  Ends-unopened (opening.Spent next) before holds reads moments faults = record {
    prefix = AnswersPrefix-none before;
    only_taken = AnswersTaken-none told start before;
    prompt = (refl, refl);
  }

  -- reading stopped
  pub Ends-stopped : (end : ReadEnd) (before now : Moment) (between : Option (List ℕ)) (old : Held) (s : State)
      → HasAnswered told start before.holds before.gained now.gained before.left (prepend_known old.bytes between) s
      → HasReplied told start before.holds before.left between before.gained now.gained old s told.max_input
      → EndsBeforeItem between now.left now.last_read old end → IsBrief before now → Ends start (status_of end) (Some told) before now
  Ends-stopped end before now between old s answered replied stops brief = record {
    prefix = IsPrefix-sent told start before.holds before.gained now.gained before.left (prepend_known old.bytes between) s answered;
    only_taken = AnswersTaken-so_far told start before now between old s stops.given replied stops.consumed (λ ended. (stops.over ended).0);
    prompt = HoldsNothingBack-stopped told start end before now between old s brief replied stops;
  }

  fault_prompt : (fault : Fault) (before now : Moment) → AnswersAllButOneRead start (Some told) before now
      → HoldsNothingBack start (status_of_fault fault) (Some told) before now
  fault_prompt Failed before now prompt = prompt
  fault_prompt faults.NoMemory before now prompt = prompt

  -- a reply wasn't written whole
  pub Ends-unwritten : (fault : Fault) (before now : Moment) (between mid : Option (List ℕ)) (old new : Held) (s : State) (item : Item)
      (reply written : List ℕ) → IsBeforeEnd item → TakesItem between now.left now.last_read old new item
      → IsNext (prepend_known old.bytes between) (prepend_known new.bytes now.left) item
      → HasAnswered told start before.holds before.gained mid before.left (prepend_known old.bytes between) s
      → HasReplied told start before.holds before.left between before.gained mid old s told.max_input
      → reply ≡ said_bytes s (said_by item) → written ≡ reply → GainsPrefix mid now.gained written → IsBrief before now
      → Ends start (status_of_fault fault) (Some told) before now
  Ends-unwritten fault before now between mid old new s item reply written other taken next answered replied replies same part
      brief = record {
        prefix = IsPrefix-part told start before.holds before.gained mid now.gained before.left (prepend_known old.bytes between)
            (prepend_known new.bytes now.left) s item reply written other next answered replies same part;
        only_taken = AnswersTaken-part told start before now between mid old new s item reply written other taken replied replies same part;
        prompt = fault_prompt fault before now
            (AnswersAllButOneRead-taken told start before now between mid old new s item part.0 other taken brief replied part.3);
      }

  trouble_prompt : (trouble : Trouble) (before now : Moment) → AnswersAllButOneRead start (Some told) before now
      → HoldsNothingBack start (status_of_trouble trouble) (Some told) before now
  trouble_prompt troubles.NoMemory before now prompt = prompt
  trouble_prompt troubles.StoreFault before now prompt = prompt
  trouble_prompt (troubles.Damaged blob) before now prompt = prompt

  -- an item wasn't answered
  pub Ends-unanswered : (trouble : Trouble) (before now : Moment) (between : Option (List ℕ)) (old new : Held) (s : State) (item : Item)
      → IsBeforeEnd item → TakesItem between now.left now.last_read old new item
      → HasAnswered told start before.holds before.gained now.gained before.left (prepend_known old.bytes between) s
      → HasReplied told start before.holds before.left between before.gained now.gained old s told.max_input → IsBrief before now
      → Ends start (status_of_trouble trouble) (Some told) before now
  Ends-unanswered trouble before now between old new s item other taken answered replied brief =
      let known = prepend_known old.bytes between in
      record {
        prefix = IsPrefix-sent told start before.holds before.gained now.gained before.left known s answered;
        only_taken = AnswersTaken-so_far told start before now between old s taken.1.given replied taken.1.consumed
            (λ ended. (taken.1.over ended).0);
        prompt = trouble_prompt trouble before now
            (AnswersAllButOneRead-taken told start before now between now.gained old new s item [] other taken brief replied
            (Appends-nil now.gained));
      }

  abbrev HoldsBackNoneAt : Moment → Moment → Status → Type 0
  HoldsBackNoneAt before now status = HoldsNothingBack start status (Some told) before now

  save_prompt : (status : Status) (before now : Moment) → IsSaving status → AnswersAllButOneRead start (Some told) before now
      → HoldsNothingBack start status (Some told) before now
  save_prompt status before now ends prompt =
      ⊎_elim (λ done. subst (HoldsBackNoneAt before now) (sym done) tt)
      (λ rest. ⊎_elim (λ memory. subst (HoldsBackNoneAt before now) (sym memory) prompt)
      (λ store. subst (HoldsBackNoneAt before now) (sym store) prompt) rest) ends

  -- the state that the items left was saved, or couldn't be
  pub Ends-saved : (status : Status) (before now : Moment) (between : Option (List ℕ)) (old new : Held) (s : State) → IsSaving status
      → TakesItem between now.left now.last_read old new items.End
      → HasAnswered told start before.holds before.gained now.gained before.left (prepend_known old.bytes between) s
      → HasReplied told start before.holds before.left between before.gained now.gained old s told.max_input → IsBrief before now
      → Ends start status (Some told) before now
  Ends-saved status before now between old new s ends taken answered replied brief =
      let known = prepend_known old.bytes between in
      record {
        prefix = IsPrefix-sent told start before.holds before.gained now.gained before.left known s answered;
        only_taken = AnswersTaken-so_far told start before now between old s taken.1.given replied taken.1.consumed
            (λ ended. (taken.1.over ended).0);
        prompt = save_prompt status before now ends
            (AnswersAllButOneRead-ended told start before now between old new s taken brief replied);
      }

  -- ---- the end of the script

  answered_if : (rules : Rules) (gained now : Option (List ℕ)) (input : List ℕ) (known rest : Option (List ℕ)) (s : State)
      → IsNext known rest items.End → IsOnTheWay told start rules gained now (Some input) known s
      → Appends gained now (output_of rules start (items_of input)) × (s ≡ state_after rules start (items_of input))
  answered_if rules gained now input None rest s next sent = absurd sent
  answered_if rules gained now input (Some bytes) None s next sent = absurd next
  answered_if rules gained now input (Some bytes) (Some rest) s next sent =
      let all = all_answered told start rules gained now input bytes s next.0 sent in (
        subst (λ es. Appends gained now (output_of rules start es)) all sent.gained,
        sent.state ∙ ap (state_after rules start) all,
      )

  -- everything was answered
  pub AnswersAll-end : (before now : Moment) (s : State) (known rest : Option (List ℕ))
      → HasAnswered told start before.holds before.gained now.gained before.left known s → IsNext known rest items.End
      → AnswersAll start (Some told) before now
  AnswersAll-end before now s known rest answered next = by_case before.left answered
    where
      by_case : (left : Option (List ℕ)) → HasAnswered told start before.holds before.gained now.gained left known s
          → AnswersAll start (Some told) (record before { left = left }) now
      by_case None answered = tt
      by_case (Some input) answered = λ rules are.
          (answered_if rules before.gained now.gained input known rest s next (answered rules are)).0

  -- and what is so of the state at its end is so of the one that the items leave
  pub so_at_end : (IsSo : State → Type 0) (before : Moment) (s : State) (known rest gained : Option (List ℕ))
      → HasAnswered told start before.holds before.gained gained before.left known s → IsNext known rest items.End → IsSo s
      → IfSome before.left (λ input. (rules : Rules) → AreRules before.holds told rules → IsSo (state_after rules start (items_of input)))
  so_at_end IsSo before s known rest gained answered next is = by_case before.left answered
    where
      by_case : (left : Option (List ℕ)) → HasAnswered told start before.holds before.gained gained left known s
          → IfSome left (λ input. (rules : Rules) → AreRules before.holds told rules → IsSo (state_after rules start (items_of input)))
      by_case None answered = tt
      by_case (Some input) answered = λ rules are.
          subst IsSo (answered_if rules before.gained gained input known rest s next (answered rules are)).1 is
