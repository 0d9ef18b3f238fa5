-- The three laws in one.
use Rattle.std.proofs.Common.{◌≡◌, List, [], ◌∷◌, ◌++◌, ap, sym, ◌∙◌, subst, append_assoc}
use Rattle.std.proofs.lemmas.List.{append-nil}
use Rattle.std.specs.List.{AllByRecursion}
use Rattle.wu_access.specs.Access.{IsDecidedByCases}
use Rattle.wu_tree.specs.declared.events.Event.{Event}
use Rattle.wu_tree.specs.FileSystems.{FileSystem}
use Rattle.wu_tree.specs.Steps.{next}
use Rattle.wu_mirror.specs.declared.batches.Batch.{Batch}
use Rattle.wu_mirror.specs.Acceptance.{AreAccepted, Always, HasRoom, IsCarriedOut, IsTextIn, NamesOnce, after_all}
use Rattle.wu_mirror.specs.Misfits.{Fits}
use Rattle.wu_mirror.specs.Moments.{AgreesOutside, AtEach, AtLast, FindsNoMore, FindsNoNewText, IsText, LeadsTo, TellsAllNames}
use Rattle.wu_mirror.specs.Plans.{head_of, placed_in, removed_in, tail_of, taken_in}
use Rattle.wu_mirror.proofs.Accepting.{each_accepted}
use Rattle.wu_mirror.proofs.OutItems.{IsOrdered}
use Rattle.wu_mirror.proofs.Whole.{leaves_what_it_tells, shows_no_more}

-- where events are accepted, what holds as long as they are
always : (Holds End Other : FileSystem → Type 0) (events rest : List Event) (fs : FileSystem) → AtEach Holds End fs events
    → AreAccepted fs (events ++ rest)
    → ((m : FileSystem) → End m → AreAccepted m rest → Other m)
    → Always Holds Other fs events
always Holds End Other [] rest fs a ok k = k fs a ok
always Holds End Other (event ∷ events) rest fs a ok k = (a.0, always Holds End Other events rest (next fs event) (a.1 ok.0 ok.1) ok.2 k)

last : (End : FileSystem → Type 0) (events : List Event) (fs : FileSystem) → AtLast End fs events → AreAccepted fs events → End (after_all fs events)
last End [] fs a ok = a
last End (event ∷ events) fs a ok = last End events (next fs event) (a ok.0 ok.1) ok.2

are_texts : (after : FileSystem) (texts : List Event) → AllByRecursion (IsTextIn after) texts → AllByRecursion IsText texts
are_texts after [] a = tt
are_texts after (text ∷ texts) a = ((a.0.0, a.0.1), are_texts after texts a.1)

in_parts : (a b c d e : List Event) → a ++ b ++ c ++ d ++ e ≡ (a ++ b) ++ ((c ++ d) ++ e)
in_parts a b c d e = ap (λ (x : List Event). x ++ e) (append_assoc (a ++ b) c d) ∙ append_assoc (a ++ b) (c ++ d) e

pub carried_out : (law : IsDecidedByCases) (batch : Batch) (before after : FileSystem) → LeadsTo batch before after → TellsAllNames batch before after
    → Fits batch → AllByRecursion NamesOnce batch.changes → HasRoom batch before after → (texts : List Event) → AllByRecursion (IsTextIn after) texts
    → IsCarriedOut batch texts before after
carried_out law batch before after l w f once r texts are =
    let o : IsOrdered batch = record { order = f.order; once = once } in
    let ok : AreAccepted before (head_of batch ++ texts ++ tail_of batch) = each_accepted batch before after l w f o r texts are in
    let given : AllByRecursion IsText texts = are_texts after texts are in
    let parts : AreAccepted before ((taken_in batch ++ removed_in batch) ++ ((placed_in batch ++ texts) ++ tail_of batch)) =
    subst (λ (events : List Event). AreAccepted before events)
    (in_parts (taken_in batch) (removed_in batch) (placed_in batch) texts (tail_of batch)) ok in
    record {
      accepted = ok;
      shows = λ uid u.
          always (λ fs. FindsNoMore uid fs before) _ _ (taken_in batch ++ removed_in batch) ((placed_in batch ++ texts) ++ tail_of batch) before
          (shows_no_more law batch before after l uid u texts given) parts
          (λ middle a ok.
          always (λ fs. FindsNoMore uid fs after × FindsNoNewText batch.changes uid fs) _ _ (placed_in batch ++ texts) (tail_of batch) middle a ok
          (λ texted b ok.
          always (λ fs. FindsNoMore uid fs after) (λ fs. FindsNoMore uid fs after) (λ fs. FindsNoMore uid fs after) (tail_of batch) [] texted b
          (subst (λ (events : List Event). AreAccepted texted events) (sym (append-nil (tail_of batch))) ok) (λ fs c ok. c)));
      leaves = last (λ fs. AgreesOutside fs after) (head_of batch ++ texts ++ tail_of batch) before
          (leaves_what_it_tells law batch before after l w texts given) ok;
    }
