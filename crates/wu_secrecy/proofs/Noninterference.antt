-- Two machines tell a user alike whatever else they do, where they show her alike.
use Rattle.std.proofs.Common.{◌≡◌, ℕ, List, [], ◌∷◌, ◌++◌, map, take, Option, None, Some, IfSome, refl, ap, sym, ◌∙◌, subst}
use Rattle.std.specs.Prelude.{slice_get, option_map}
use Rattle.std.specs.Io.KnownBytes.{Appends}
use Rattle.std.proofs.lemmas.List.{take-map}
use Rattle.std.proofs.lemmas.Option.{slice_get-map}
use Rattle.std.proofs.Common.{append-nil}
use Rattle.std.specs.Option.{option_to_list}
use Rattle.wu_script.specs.Commands.{Entry}
use Rattle.wu_script.specs.Said.{Reading, said_of}
use Rattle.wu_query.specs.States.{State}
use Rattle.wumpus_run.specs.Replies.{Rules, output_of, said_bytes, state_after}
use Rattle.wu_secrecy.specs.Turns.{Turn, asked_by, asked_in, output_in, told_to, turn_of, turns_of}
use Rattle.wu_secrecy.specs.Answers.{answer_to}
use Rattle.wu_secrecy.specs.Histories.{AreCoursesOf, BeginsAlike, Course, IsCourseOf, IsPartOf, Sends, Session, TellAlike, rules_with}
use Rattle.wu_secrecy.specs.Histories.{turns_in}
use Rattle.wu_secrecy.proofs.TurnLemmas.{AreWhole, output_of-turns, reply-hers, told-answers, whole-append, whole-turns}

-- ---- one machine and another

-- where all replies are whole, the same questions over equal views are told the same
pub told-alike : (read : Reading) (uid : ℕ) (one other : List Turn) → AreWhole read one → AreWhole read other → TellAlike uid one other
told-alike read uid one other whole others n same =
    ap (take n) (told-answers read uid one whole)
    ∙ take-map (answer_to read) n (asked_by uid one)
    ∙ ap (map (answer_to read)) same
    ∙ sym (take-map (answer_to read) n (asked_by uid other))
    ∙ sym (ap (take n) (told-answers read uid other others))

-- ---- a session's course

module _ (read : Reading) (session : Session) (course : Course) (is : IsCourseOf read session course) where
  pub course-whole : AreWhole read course.answered
  course-whole =
      subst (AreWhole read) (sym is.answered) (whole-turns (rules_with read is.told) session.start is.came.answered)

  -- the sink gained the replies and the part
  pub course-sends : Sends session course
  course-sends =
      let rules : Rules = rules_with read is.told in
      let bytes : output_in course.answered ++ course.part ≡ output_of rules session.start is.came.answered ++ is.came.part = λ i.
      (ap output_in is.answered ∙ output_of-turns rules session.start is.came.answered) i ++ is.part i in
      subst (Appends session.before.gained session.now.gained) (sym bytes) is.came.gained

  -- the reply of the turn under way begins with the part that was sent
  part-under_way : (o : Option Entry) (turn : Turn) (s : State) → option_map (turn_of read s) o ≡ Some turn
      → (part missing : List ℕ) → output_of (rules_with read is.told) s (option_to_list o) ≡ part ++ missing
      → AreWhole read (turn ∷ []) × IsPartOf part turn.reply
  part-under_way None turn s e part missing whole = absurd (cc)
  part-under_way (Some entry) turn s e part missing whole =
      let same : turn_of read s entry ≡ turn = same-turn (turn_of read s entry) turn e in
      subst (λ (t : Turn). AreWhole read (t ∷ []) × IsPartOf part t.reply) same
      ((refl, tt), (missing, sym (append-nil (said_bytes s (said_of read entry))) ∙ whole))
    where
      same-turn : (a b : Turn) → Some a ≡ Some b → a ≡ b
      same-turn a b h = cc

  under_way : (turn : Turn) → course.under_way ≡ Some turn → AreWhole read (turn ∷ []) × IsPartOf course.part turn.reply
  under_way turn e =
      subst (λ (part : List ℕ). AreWhole read (turn ∷ []) × IsPartOf part turn.reply) (sym is.part)
      (part-under_way is.came.under_way turn (state_after (rules_with read is.told) session.start is.came.answered)
      (sym is.under_way ∙ e) is.came.part is.came.missing is.came.reply)

  pub course-begins : (turn : Turn) → course.under_way ≡ Some turn → IsPartOf course.part turn.reply
  course-begins turn e = (under_way turn e).1

  -- as do the replies to the same query over an equal view
  pub begins-alike : (uid : ℕ) (other : List Turn) → AreWhole read other → BeginsAlike uid course other
  begins-alike uid other whole turn e its place same =
      let begun = under_way turn e in
      let reply : turn.reply ≡ answer_to read (asked_in uid turn) =
      begun.0.0 ∙ reply-hers read uid turn.state turn.entry its in
      let told : slice_get (told_to uid other) place ≡ Some (answer_to read (asked_in uid turn)) =
      ap (λ (replies : List (List ℕ)). slice_get replies place) (told-answers read uid other whole)
      ∙ slice_get-map (answer_to read) (asked_by uid other) place
      ∙ ap (option_map (answer_to read)) same in
      subst (λ (o : Option (List ℕ)). IfSome o (IsPartOf course.part)) (sym told) (begun.1.0, sym reply ∙ begun.1.1)

pub courses-whole : (read : Reading) (sessions : List Session) (courses : List Course) → AreCoursesOf read sessions courses
    → AreWhole read (turns_in courses)
courses-whole read [] [] are = tt
courses-whole read [] (course ∷ courses) are = absurd are
courses-whole read (session ∷ sessions) [] are = absurd are
courses-whole read (session ∷ sessions) (course ∷ courses) are =
    whole-append read course.answered (turns_in courses) (course-whole read session course are.0)
    (courses-whole read sessions courses are.1)

-- ---- two machines

module _ (read : Reading) (ones others : List Session) (one other : List Course) (are : AreCoursesOf read ones one)
    (are_others : AreCoursesOf read others other) (uid : ℕ) where
  pub machines-alike : TellAlike uid (turns_in one) (turns_in other)
  machines-alike =
      told-alike read uid (turns_in one) (turns_in other) (courses-whole read ones one are) (courses-whole read others other are_others)

pub cut-alike : (read : Reading) (session : Session) (course : Course) (others : List Session) (other : List Course)
    → IsCourseOf read session course → AreCoursesOf read others other → (uid : ℕ) → BeginsAlike uid course (turns_in other)
cut-alike read session course others other is are uid =
    begins-alike read session course is uid (turns_in other) (courses-whole read others other are)

-- ---- a session

pub session-told : (rules : Rules) (s : State) (entries : List Entry) (uid : ℕ)
    → told_to uid (turns_of rules s entries) ≡ map (answer_to rules.read) (asked_by uid (turns_of rules s entries))
session-told rules s entries uid = told-answers rules.read uid (turns_of rules s entries) (whole-turns rules s entries)

pub session-alike : (one other : Rules) (s t : State) (entries others : List Entry) (uid : ℕ) → one.read ≡ other.read
    → asked_by uid (turns_of one s entries) ≡ asked_by uid (turns_of other t others)
    → told_to uid (turns_of one s entries) ≡ told_to uid (turns_of other t others)
session-alike one other s t entries others uid same asked =
    session-told one s entries uid
    ∙ (λ i. map (answer_to (same i)) (asked i))
    ∙ sym (session-told other t others uid)

-- ---- a history

pub history-told : (read : Reading) (sessions : List Session) (courses : List Course) → AreCoursesOf read sessions courses → (uid : ℕ)
    → told_to uid (turns_in courses) ≡ map (answer_to read) (asked_by uid (turns_in courses))
history-told read sessions courses are uid = told-answers read uid (turns_in courses) (courses-whole read sessions courses are)
