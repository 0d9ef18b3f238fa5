-- After a run that was done the next one goes on as that one would have.
use Rattle.std.proofs.Common.{◌≡◌, ◌⊎◌, ℕ, true, false, cond, List, [], ◌∷◌, map, Option, refl, sym, ◌∙◌, subst, inl, ⊎_elim}
use Rattle.wu_outside.specs.Content.{Content}
use Rattle.wu_outside.specs.Crash.{LeftNow}
use Rattle.wu_outside.specs.Surviving.{LeavesNow}
use Rattle.wu_outside.specs.Crash.{Moments}
use Rattle.wu_script.specs.Commands.{Entry}
use Rattle.wu_script.specs.Items.{items_of}
use Rattle.wu_script.specs.Said.{IsReading, Reading, said_of}
use Rattle.wu_query.specs.States.{State}
use Rattle.wu_query.specs.View.{view_of}
use Rattle.wu_engine.specs.Crashes.{IsImageOf}
use Rattle.wu_engine.specs.Opening.{HoldsImage}
use Rattle.wumpus_run.specs.declared.statuses.Status.TheVariants.{Done}
use Rattle.wumpus_run.specs.Crashes.{left_to_next}
use Rattle.wumpus_run.specs.Replies.{Rules, after, state_after}
use Rattle.wumpus_run.proofs.OneImages.{one_state}
use Rattle.wumpus_run.proofs.ViewLemmas.{HaveSameFiles, after_alike, last_alike, view_alike}
use Rattle.wu_secrecy.specs.Histories.{rules_with}
use Rattle.wu_secrecy.specs.Lives.{GoesOn, IsRun, Restarts, Run}
use Rattle.wu_secrecy.specs.Restarted.{IsAsIfGoneOn, state_left}
use Rattle.wu_secrecy.specs.Turns.{asked_by, asked_in, hers, is_asked_by, turn_of, turns_of}
use Rattle.wu_secrecy.proofs.LivesAsSessions.{course-taken}
use Rattle.wu_secrecy.proofs.Noninterference.{session-alike}

abbrev rules_at : Reading → ℕ → Rules
rules_at read flush_at = record { read = read; flush_at = flush_at }

-- from states with the same files her queries meet the same views
asked-alike : (read : Reading) (one other : ℕ) (s t : State) (entries : List Entry) (uid : ℕ) → HaveSameFiles s t
    → asked_by uid (turns_of (rules_at read one) s entries) ≡ asked_by uid (turns_of (rules_at read other) t entries)
asked-alike read one other s t [] uid same = refl
asked-alike read one other s t (entry ∷ entries) uid same =
    let said = said_of read entry in
    let first = turns_of (rules_at read one) (after one s said) entries in
    let second = turns_of (rules_at read other) (after other t said) entries in
    let rest : asked_by uid first ≡ asked_by uid second =
    asked-alike read one other (after one s said) (after other t said) entries uid (after_alike one other s t said same) in
    let view : view_of s uid ≡ view_of t uid = view_alike s t uid same in
    elim (is_asked_by uid entry) as
    (λ b. map (asked_in uid) (cond b (turn_of read s entry ∷ hers uid first) (hers uid first))
    ≡ map (asked_in uid) (cond b (turn_of read t entry ∷ hers uid second) (hers uid second))) [
      | true ↦ λ i. record { query = entry; view = view i } ∷ rest i
      | false ↦ rest
    ]

module _ (read : Reading) (are : IsReading read) (run : Run) (is : IsRun run) (done : run.status ≡ Done) (s : State)
    (image : HoldsImage run.before.holds s) where
  -- what the items left, as it is opened again
  abbrev end : State
  end = left_to_next (state_left read run s)

  done-image : (content : Content) → LeftNow run.new content → IsImageOf end content
  done-image content left =
      let took = course-taken read are s run.told run.status run.before run.now run.input is.given image (is.course s image) in
      subst (λ (m : Option Moments). LeavesNow m (IsImageOf end)) is.new (took.1.durable done) content left

  -- the next run goes on from that
  next-state : (next : Run) → GoesOn run next ⊎ Restarts run next → (t : State) → HoldsImage next.before.holds t → t ≡ end
  next-state next how t its =
      ⊎_elim
      (λ (g : GoesOn run next).
      let held = run.new.now.held in
      one_state held end t (done-image held (inl refl)) (subst (λ (o : Option Content). HoldsImage o t) (g.holds ∙ is.alike) its))
      (λ (r : Restarts run next).
      one_state r.content end t (done-image r.content r.left) (subst (λ (o : Option Content). HoldsImage o t) r.holds its)) how

  pub as_if_gone_on : (next : Run) → GoesOn run next ⊎ Restarts run next → (t : State) → HoldsImage next.before.holds t → (uid : ℕ)
      → IsAsIfGoneOn read run s next t uid
  as_if_gone_on next how t its uid =
      let entries = items_of next.input in
      let left = state_left read run s in
      let same : HaveSameFiles t left =
      subst (λ (u : State). HaveSameFiles u left) (sym (next-state next how t its)) (refl, refl) in
      let asked = asked-alike read next.told.flush_at run.told.flush_at t left entries uid same in
      record {
        asked = asked;
        told = session-alike (rules_with read next.told) (rules_with read run.told) t left entries entries uid refl asked;
        view = view_alike (state_after (rules_with read next.told) t entries) (state_after (rules_with read run.told) left entries) uid
            (last_alike next.told.flush_at run.told.flush_at t left (map (said_of read) entries) same);
      }
