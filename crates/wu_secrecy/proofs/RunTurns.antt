-- What a run answered, by what it read.
use Rattle.std.proofs.Common.{◌≡◌, Option, None, Some, refl}
use Rattle.std.specs.Prelude.{IfSome}
use Rattle.wu_options.specs.declared.command_lines.Settings.{Settings}
use Rattle.wu_query.specs.States.{State}
use Rattle.wumpus_run.specs.declared.statuses.Status.{Status}
use Rattle.wumpus_run.specs.Courses.{TakesCourse}
use Rattle.wumpus_run.specs.Session.{Moment}
use Rattle.wu_secrecy.specs.Histories.{HasCourse, session_from}
use Rattle.wu_secrecy.proofs.LivesAsSessions.{course-reached, some-told}

if-some-then : {X : Type 0} (P Q : X → Type 0) (o : Option X) → ((x : X) → o ≡ Some x → P x → Q x) → IfSome o P → IfSome o Q
if-some-then P Q None f h = tt
if-some-then P Q (Some x) f h = f x refl h

-- a session that took a course has one
pub has-course : (start : State) (status : Status) (settings : Option Settings) (before now : Moment)
    → TakesCourse start status settings before now → HasCourse (session_from start settings status before now)
has-course start status None before now takes = tt
has-course start status (Some told) before now takes =
    if-some-then _ _ before.left
    (λ input e given.
    if-some-then _ _ before.holds
    (λ content holds course read are.
    course-reached read start told status before now input e
    (course (record { read = read; flush_at = told.flush_at }) (are, refl, some-told before.holds content holds)).came)
    given)
    takes
