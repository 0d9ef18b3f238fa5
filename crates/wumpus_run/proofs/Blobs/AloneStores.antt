-- Which replies leave the store alone.
use Rattle.std.proofs.Common.{◌≡◌, true, false, List, ℕ, Option, Some, Result, Ok, Err, refl, sym, ap, ◌∙◌}
use Rattle.std.specs.Prelude.{IfOk}
use Rattle.wu_base.specs.declared.troubles.Trouble.{Trouble}
use Rattle.wu_parts.specs.Contents.{Contents}
use Rattle.wu_tree.specs.declared.events.Event.{Event}
use Rattle.wu_script.specs.declared.types.Reply.{Reply}
use Rattle.wu_script.specs.declared.types.Item.{Item}
use Rattle.wu_script.specs.Said.{Happens, Said, said_by}
use Rattle.wu_engine.specs.Stands.{leaves_store}
use Rattle.wu_engine.specs.declared.verdicts.Verdict.{Verdict}
use Rattle.wu_engine.specs.declared.verdicts.Verdict.TheVariants.{Made, Refused}
use Rattle.wumpus_run.specs.Raised.{leaves_alone}
use Rattle.wumpus_run.specs.Replies.{verdict_reply}

-- of an event those do whose verdict does
pub alone_by_verdict : (verdict : Verdict) (event : Event) (text : List ℕ) (contents : Contents)
    → leaves_alone (Happens event text) (Some (verdict_reply verdict)) contents ≡ leaves_store verdict event text contents
alone_by_verdict Made event text contents = refl
alone_by_verdict (Refused refusal) event text contents = refl

module _ (P : Type 0) (item : Item) (contents : Contents) where
  -- it was left alone
  pub alone_anyway : (r : Result (Option Reply) Trouble) → P → IfOk r (λ reply. leaves_alone (said_by item) reply contents ≡ true → P)
  alone_anyway (Ok reply) so = λ alone. so
  alone_anyway (Err trouble) so = tt

  -- no reply to it does
  pub alone_never : (r : Result (Option Reply) Trouble) (is : Item) → item ≡ is
      → ((reply : Option Reply) → leaves_alone (said_by is) reply contents ≡ false)
      → IfOk r (λ reply. leaves_alone (said_by item) reply contents ≡ true → P)
  alone_never (Ok reply) is same never = λ alone.
      absurd (cc (alone, ap (λ (i : Item). leaves_alone (said_by i) reply contents) same, never reply))
  alone_never (Err trouble) is same never = tt

  -- it is an event
  pub alone_after_event : (Q : Type 0) (r : Result (Option Reply) Trouble) (event : Event) (text : List ℕ)
      → said_by item ≡ Happens event text → IfOk r (λ reply. leaves_alone (Happens event text) reply contents ≡ true → P × Q)
      → IfOk r (λ reply. leaves_alone (said_by item) reply contents ≡ true → P)
  alone_after_event Q (Ok reply) event text same untouched = λ alone.
      (untouched (ap (λ (said : Said). leaves_alone said reply contents) (sym same) ∙ alone)).0
  alone_after_event Q (Err trouble) event text same untouched = tt
