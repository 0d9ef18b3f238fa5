use Rattle.std.proofs.Common.{refl}
use Rattle.std.proofs.lemmas.Result.{on_ok_weaker}
use Rattle.wu_ask.specs.Questions.{question_of}
use Rattle.wu_frames.proofs.Keeping.{right-found}
use Rattle.wu_query.proofs.AnswerLemmas.{if_ok}
use Rattle.wu_query.proofs.QueryReads.{cause_of_memory, reads_for}
use Rattle.wu_query.proofs.ReadCauses.{if_err, query_cause}
use Rattle.wu_query.proofs.Searching.{can_be_read, can_be_searched, sound_prepared}
use Rattle.wu_query.proofs.querying.answered.Goals as goal

pub answer-requires-clause-fit : goal.answer-requires-clause-fit
answer-requires-clause-fit g c =
    can_be_searched c.args.tree.now c.args.space.now c.args.parts.now c.args.files.now.entries c.args.kept.now c.keeps_the_rules.ensures
    c.requires.sound c.args.query.now.uid c.in-Some.frames.now
    (right-found c.args.tree.now c.args.space.now.ranges c.args.query.now.uid c.prepare.new.self c.in-Some.frames.now
    c.prepare.ensures.right
    c.in-Some.ensures)

pub answer-requires-clause-records : goal.answer-requires-clause-records
answer-requires-clause-records g c =
    can_be_read c.args.tree.now c.args.space.now c.args.parts.now c.args.files.now.entries c.args.kept.now c.keeps_the_rules.ensures
    c.requires.sound

pub returns-clause-answer : goal.returns-clause-answer
returns-clause-answer g c =
    let hers = right-found c.args.tree.now c.args.space.now.ranges c.args.query.now.uid c.prepare.new.self c.in-Some.frames.now
    c.prepare.ensures.right c.in-Some.ensures in
    if_ok c.answer.result c.answer.ensures.answer
    (λ answered known. λ s tree index tells texts.
    known s c.args.query.now.uid (record { index = index; hers = rw tree at hers }) tells texts)

pub returns-clause-reads : goal.returns-clause-reads
returns-clause-reads g c =
    let hers = right-found c.args.tree.now c.args.space.now.ranges c.args.query.now.uid c.prepare.new.self c.in-Some.frames.now
    c.prepare.ensures.right c.in-Some.ensures in
    on_ok_weaker c.answer.result
    (reads_for c.args.tree.now c.args.space.now.ranges c.args.query.now.uid (question_of c.args.query.now.ask) c.args.parts.now
    c.answer.new.parts.kept c.args.files.now.entries (g.D.Store.holds c.args.store.now) (g.D.Store.reads c.args.store.now)
    (g.D.Store.reads c.answer.new.store) c.in-Some.frames.now hers)
    c.answer.ensures.reads

pub returns-clause-permitted : goal.returns-clause-permitted
returns-clause-permitted g c = λ s tree index tells texts.
    let uid = c.args.query.now.uid in
    let live = c.args.space.now.ranges in
    c.answer.ensures.permitted s uid
    (record {
      index = index;
      hers = rw tree
          at (right-found c.args.tree.now live uid c.prepare.new.self c.in-Some.frames.now c.prepare.ensures.right c.in-Some.ensures);
    }) tells texts

pub returns-clause-sound : goal.returns-clause-sound
returns-clause-sound g c =
    sound_prepared c.args.tree.now c.args.space.now c.args.parts.now c.answer.new.parts c.args.files.now.entries c.args.kept.now
    c.prepare.new.self c.answer.ensures.others c.prepare.ensures.right c.requires.sound

pub returns-in_err-prepare-clause-sound : goal.returns-in_err-prepare-clause-sound
returns-in_err-prepare-clause-sound g c =
    sound_prepared c.args.tree.now c.args.space.now c.args.parts.now c.args.parts.now c.args.files.now.entries c.args.kept.now
    c.prepare.new.self refl c.prepare.ensures.right c.requires.sound

pub returns-clause-cause : goal.returns-clause-cause
returns-clause-cause g c =
    let frames = c.in-Some.frames.now in
    let hers = right-found c.args.tree.now c.args.space.now.ranges c.args.query.now.uid c.prepare.new.self frames
    c.prepare.ensures.right c.in-Some.ensures in
    if_err c.answer.result c.answer.ensures.cause
    (λ trouble cause. query_cause cause (λ read blob needed. record { frames = frames; hers = hers; needed = needed }))

pub returns-in_err-prepare-clause-cause : goal.returns-in_err-prepare-clause-cause
returns-in_err-prepare-clause-cause g c = cause_of_memory c.from_residual.result _ _ _ refl c.from_residual.ensures.1
