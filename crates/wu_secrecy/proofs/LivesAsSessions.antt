-- A life is a history of sessions, each from a state that was saved by the one before.
use Rattle.std.proofs.Common.{◌≡◌, ◌⊎◌, ℕ, List, [], ◌∷◌, ◌++◌, Option, None, Some, refl, sym, ◌∙◌, subst, inl, inr, ⊎_elim}
use Rattle.std.proofs.Common.{append_assoc}
use Rattle.std.specs.Option.{option_to_list}
use Rattle.std.specs.Prelude.{IfSome, IsSome, option_map}
use Rattle.std.specs.List.{AllByRecursion}
use Rattle.wu_outside.specs.Content.{Content}
use Rattle.wu_outside.specs.Crash.{MixesChanges, LeftNow, Moments, starts_with}
use Rattle.wu_outside.specs.Surviving.{AddsMoments, IsLeft, LeavesNow, LeavesOnly}
use Rattle.wu_layout.specs.Invariants.{SomeOf}
use Rattle.wu_outside.proofs.Survival.{same_content}
use Rattle.wu_script.specs.Commands.{Entry}
use Rattle.wu_script.specs.Items.{items_of}
use Rattle.wu_script.specs.Said.{IsReading, Reading}
use Rattle.wu_options.specs.declared.command_lines.Settings.{Settings}
use Rattle.wu_query.specs.States.{State}
use Rattle.wu_engine.specs.Crashes.{IsImageOf, IsImageOfEither}
use Rattle.wu_engine.specs.Opening.{HoldsImage}
use Rattle.wumpus_run.specs.declared.statuses.Status.{Status}
use Rattle.wumpus_run.specs.declared.statuses.Status.TheVariants.{Done, Usage, ReadFault, WriteFault, NoMemory, InputTooLong, StoreFault}
use Rattle.wumpus_run.specs.declared.statuses.Status.TheVariants.{Damaged, Spent}
use Rattle.wumpus_run.specs.Courses.{Course as Taken, Opened, Reaches, TakesCourse, Unopened, acknowledged_items, unacknowledged_items}
use Rattle.wumpus_run.specs.Crashes.{IsImageOfOne, IsLeftOrSaved, last_save, left_to_next, next_save, saves_of, saves_so_far}
use Rattle.wumpus_run.specs.Replies.{AreRules, Rules, state_after}
use Rattle.wumpus_run.specs.Session.{Moment}
use Rattle.wumpus_run.proofs.Courses.SavesOfItems.{so_far_of_all}
use Rattle.wu_secrecy.specs.Turns.{turn_of, turns_of}
use Rattle.wu_secrecy.specs.Histories.{AreCoursesOf, Course, IsCourseOf, rules_with, session_from}
use Rattle.wu_secrecy.specs.Lives.{AreInTurn, AreStarts, GoesOn, IsLife, History, IsRun, MayBeFound, Restarts, Run, Started}
use Rattle.wu_secrecy.specs.Lives.{SurvivesStop, sessions_of}

-- ---- options

told-some : {X : Type 0} (P : X → Type 0) (o : Option X) (x : X) → o ≡ Some x → IfSome o P → P x
told-some {X = X} P o x e h = subst (λ (v : Option X). IfSome v P) e h

pub some-told : (holds : Option Content) (content : Content) → holds ≡ Some content → IsSome holds
some-told holds content e = subst (λ (o : Option Content). IsSome o) (sym e) refl

by-status : {X : Type 0} (status : Status) → (status ≡ Done → X) → ((status ≡ Done → ⊥) → X) → X
by-status Done f g = f refl
by-status Usage f g = g (λ e. cc)
by-status ReadFault f g = g (λ e. cc)
by-status WriteFault f g = g (λ e. cc)
by-status NoMemory f g = g (λ e. cc)
by-status InputTooLong f g = g (λ e. cc)
by-status StoreFault f g = g (λ e. cc)
by-status (Damaged blob) f g = g (λ e. cc)
by-status (Spent next) f g = g (λ e. cc)

-- ---- a session and its course

-- how far it came is its course
pub course-reached : (read : Reading) (start : State) (told : Settings) (status : Status) (before now : Moment) (input : List ℕ)
    → before.left ≡ Some input
    → Reaches (rules_with read told) start (items_of input) status before.gained now.gained
    → (course : Course) × IsCourseOf read (session_from start (Some told) status before now) course
course-reached read start told status before now input given came =
    let rules : Rules = rules_with read told in (
      record {
        answered = turns_of rules start came.answered;
        under_way = option_map (turn_of read (state_after rules start came.answered)) came.under_way;
        part = came.part;
      },
      record {
        told = told;
        asked_for = refl;
        input = input;
        given = given;
        came = came;
        answered = refl;
        under_way = refl;
        part = refl;
      },
    )

-- the course that a run took from a state of which its store held an image
pub course-taken : (read : Reading) → IsReading read → (start : State) (told : Settings) (status : Status) (before now : Moment)
    (input : List ℕ) → before.left ≡ Some input → HoldsImage before.holds start → TakesCourse start status (Some told) before now
    → (content : Content) × Taken content (rules_with read told) start (items_of input) status before now
course-taken read are start told status before now input given image takes =
    by-content before.holds refl image
    (told-some
    (λ (bytes : List ℕ). IfSome before.holds (λ content. (rules : Rules) → AreRules before.holds told rules
    → Taken content rules start (items_of bytes) status before now))
    before.left input given takes)
  where
    by-content : (holds : Option Content) → before.holds ≡ holds → HoldsImage holds start
        → IfSome holds (λ content. (rules : Rules) → AreRules before.holds told rules
        → Taken content rules start (items_of input) status before now)
        → (content : Content) × Taken content (rules_with read told) start (items_of input) status before now
    by-content None e image is = absurd image
    by-content (Some content) e image is = (content, is (rules_with read told) (are, refl, some-told before.holds content e))

pub course-of : (read : Reading) → IsReading read → (start : State) (told : Settings) (status : Status) (before now : Moment)
    (input : List ℕ) → before.left ≡ Some input → HoldsImage before.holds start → TakesCourse start status (Some told) before now
    → (course : Course) × IsCourseOf read (session_from start (Some told) status before now) course
course-of read are start told status before now input given image takes =
    course-reached read start told status before now input given
    (course-taken read are start told status before now input given image takes).1.came

-- ---- what a crash leaves after a run

-- after a crash a store holds that content alone
begun-anew : (content left : Content) → LeftNow (starts_with content) left → left ≡ content
begun-anew content left h =
    ⊎_elim (λ e. e) (λ (p : MixesChanges (starts_with content).now left). same_content left content p.blobs p.root) h

module _ (read : Reading) (are : IsReading read) (first : State) where
  -- an image of a state that may be found
  abbrev IsFound : List Started → Content → Type 0
  IsFound earlier content = (s : State) × MayBeFound read first earlier s × IsImageOf s content

  module _ (run : Run) (is : IsRun run) (earlier : List Started) (s : State) (image : HoldsImage run.before.holds s)
      (old : LeavesNow (Some run.old) (IsFound earlier)) where
    abbrev rules : Rules
    rules = rules_with read run.told

    abbrev started : Started
    started = (run, s)

    took : (content : Content) × Taken content rules s (items_of run.input) run.status run.before run.now
    took = course-taken read are s run.told run.status run.before run.now run.input is.given image (is.course s image)

    left-done : run.status ≡ Done → LeavesNow (Some run.new) (IsFound (started ∷ earlier))
    left-done done content left = (
      left_to_next (state_after rules s (items_of run.input)),
      inl (inl (done, refl)),
      subst (λ (m : Option Moments). LeavesNow m (IsImageOf (left_to_next (state_after rules s (items_of run.input))))) is.new
          (took.1.durable done) content left,
    )

    left-undone : (run.status ≡ Done → ⊥) → LeavesNow (Some run.new) (IsFound (started ∷ earlier))
    left-undone undone content left =
        let came = took.1.came in
        let told = acknowledged_items came.answered came.under_way came.missing in
        let untold = unacknowledged_items came.under_way came.later came.missing in
        ⊎_elim
        (λ (o : Opened took.0 rules s told untold took.1.opening run.now.moments).
        ⊎_elim
        (λ i. (last_save rules s told, inl (inr (undone, record { came = came; is = inl refl })), i))
        (λ i. (next_save rules (state_after rules s told) untold, inl (inr (undone, record { came = came; is = inr refl })), i))
        (subst (λ (m : Option Moments). LeavesNow m (IsImageOfEither (last_save rules s told)
        (next_save rules (state_after rules s told) untold))) is.new o.leaves content left))
        (λ (u : Unopened took.0 run.status run.before run.now came.answered came.under_way took.1.opening).
        let before = subst (λ (m : Option Moments). LeavesNow m (IsLeft run.before.moments)) is.new u.leaves content left in
        let found = old content (subst (λ (m : Option Moments). IsLeft m content) is.old before) in
        (found.0, inr (u.stopped, found.1), found.2))
        took.1.opened

    left-after : LeavesNow (Some run.new) (IsFound (started ∷ earlier))
    left-after = by-status run.status left-done left-undone

    -- what the next run finds
    pub found-next : (next : Run) → GoesOn run next ⊎ Restarts run next
        → ((t : State) × HoldsImage next.before.holds t × MayBeFound read first (started ∷ earlier) t)
        × LeavesNow (Some next.old) (IsFound (started ∷ earlier))
    found-next next how =
        ⊎_elim
        (λ (g : GoesOn run next).
        let found = left-after run.new.now.held (inl refl) in
        let holds : Some run.new.now.held ≡ next.before.holds = sym is.alike ∙ sym g.holds in (
          (found.0, subst (λ (o : Option Content). HoldsImage o found.0) holds found.2, found.1),
          subst (λ (m : Moments). LeavesNow (Some m) (IsFound (started ∷ earlier))) (sym g.moments) left-after,
        ))
        (λ (r : Restarts run next).
        let found = left-after r.content r.left in (
          (found.0, subst (λ (o : Option Content). HoldsImage o found.0) (sym r.holds) found.2, found.1),
          subst (λ (m : Moments). LeavesNow (Some m) (IsFound (started ∷ earlier))) (sym r.moments)
              (λ content left. subst (IsFound (started ∷ earlier)) (sym (begun-anew r.content content left)) found),
        )) how

  -- ---- a crash while a run goes on

  one-of : (content : Content) (saves : List State) → IsImageOfOne saves content
      → (s : State) × SomeOf (λ saved. s ≡ saved) saves × IsImageOf s content
  one-of content [] h = absurd h
  one-of content (save ∷ saves) h =
      ⊎_elim (λ i. (save, inl refl, i)) (λ later. let r = one-of content saves later in (r.0, inr r.1, r.2)) h

  pub survives-stop : (earlier : List Started) (run : Run) (s : State) → IsRun run → HoldsImage run.before.holds s
      → SurvivesStop read first earlier (run, s)
  survives-stop earlier run s is image old =
      let rules : Rules = rules_with read run.told in
      let took = course-taken read are s run.told run.status run.before run.now run.input is.given image (is.course s image) in
      let came = took.1.came in
      let reached = came.answered ++ option_to_list came.under_way in
      let saves = saves_so_far rules s reached came.later in
      let adds : AddsMoments run.old run.new (IsLeftOrSaved (Some run.old) saves) =
      subst (λ (m : Option Moments). LeavesOnly (Some run.old) m (IsLeftOrSaved (Some run.old) saves)) is.new
      (subst (λ (m : Option Moments). LeavesOnly m run.now.moments (IsLeftOrSaved m saves)) is.old took.1.crash) in
      let all : reached ++ came.later ≡ items_of run.input =
      append_assoc came.answered (option_to_list came.under_way) came.later ∙ sym came.all in
      record {
        added = adds.added;
        before = adds.before;
        leaves = λ k d h content left.
            ⊎_elim (λ l. let found = old content l in (found.0, inl found.1, found.2))
            (λ o. let saved = one-of content (saves_of rules s (items_of run.input))
            (subst (λ (es : List Entry). IsImageOfOne (saves_of rules s es) content) all
            (so_far_of_all (λ (saved : State). IsImageOf saved content) rules s reached came.later o)) in
            (saved.0, inr saved.1, saved.2))
            (adds.leaves k d h content left);
      }

  -- ---- a life

  -- the states from which its runs went on, and their courses
  abbrev Lives : List Started → List Run → Type 0
  Lives earlier runs = (starts : List State) × AreStarts read first earlier runs starts
      × ((courses : List Course) × AreCoursesOf read (sessions_of runs starts) courses)

  lives-on : (earlier : List Started) (run : Run) (later : List Run) → AllByRecursion IsRun (run ∷ later) → AreInTurn run later
      → (s : State) → HoldsImage run.before.holds s → MayBeFound read first earlier s → LeavesNow (Some run.old) (IsFound earlier)
      → Lives earlier (run ∷ later)
  lives-on earlier run [] are_runs in_turn s image found old =
      let course = course-of read are s run.told run.status run.before run.now run.input are_runs.0.given image
      (are_runs.0.course s image) in
      (s ∷ [], (image, found, tt), (course.0 ∷ [], (course.1, tt)))
  lives-on earlier run (next ∷ later) are_runs in_turn s image found old =
      let course = course-of read are s run.told run.status run.before run.now run.input are_runs.0.given image
      (are_runs.0.course s image) in
      let found_next = found-next run are_runs.0 earlier s image old next in_turn.0 in
      let rest = lives-on ((run, s) ∷ earlier) next later are_runs.1 in_turn.1 found_next.0.0 found_next.0.1 found_next.0.2 found_next.1 in
      (s ∷ rest.0, (image, found, rest.1), (course.0 ∷ rest.2.0, (course.1, rest.2.1)))

  pub life-history : (runs : List Run) → IsLife first runs → History read first runs
  life-history [] life = record { starts = []; from = tt; courses = []; took = tt }
  life-history (run ∷ later) life =
      let lives = lives-on [] run later life.2 life.1 first life.0.image refl
      (λ content left. (first, refl, life.0.alone content left)) in
      record { starts = lives.0; from = lives.1; courses = lives.2.0; took = lives.2.1 }
