use Rattle.std.proofs.Common.{Some, Err, ap, ⊎_elim}
use Rattle.wu_base.specs.declared.troubles.Trouble.TheVariants.{Damaged}
use Rattle.wu_ask.specs.Questions.{question_of}
use Rattle.wu_ask.specs.declared.Answered.{Answered}
use Rattle.wu_script.specs.declared.types.Reply.TheVariants as replies
use Rattle.wu_query.proofs.DamagedTexts.{damaged_in}
use Rattle.wumpus_run.proofs.Blobs.SoundBlobs.{same_trouble, undamaged}
use Rattle.wumpus_run.proofs.answering.reply_to_query.Goals as goal

pub returns-in_err-answered-clause-damaged : goal.returns-in_err-answered-clause-damaged
returns-in_err-answered-clause-damaged g c = λ s stands blob e.
    let trouble = c.in_err-answered.field-0.0 in
    let engine = c.args.engine.now in
    let holds = g.D.Store.holds c.args.store.now in
    ⊎_elim (λ had. cc (had, c.requires.goes_on))
    (λ found. undamaged engine holds s blob stands
    (damaged_in holds blob engine.files.entries engine.tree engine.space.ranges c.args.query.now.uid
    (question_of c.args.query.now.ask) engine.parts found.1))
    (c.in_err-answered.ensures.damaged.damaged blob
    (ap Err (same_trouble c.from_residual.result trouble (Damaged blob) c.from_residual.ensures.1 e)))

pub returns-in_err-answered-clause-broken : goal.returns-in_err-answered-clause-broken
returns-in_err-answered-clause-broken g c = λ start goes blob e.
    c.in_err-answered.ensures.damaged.broken start goes blob
    (ap Err (same_trouble c.from_residual.result c.in_err-answered.field-0.0 (Damaged blob) c.from_residual.ensures.1 e))

pub returns-clause-reply : goal.returns-clause-reply
returns-clause-reply g c = λ s stands.
    let answer = c.in_ok-answered.ensures.answer s stands in
    (ap (λ (answered : Answered). Some (replies.Answered answered)) answer.0, answer.1)

pub returns-clause-permitted : goal.returns-clause-permitted
returns-clause-permitted g c = c.in_ok-answered.ensures.reads.permitted

pub returns-in_err-answered-clause-permitted : goal.returns-in_err-answered-clause-permitted
returns-in_err-answered-clause-permitted g c = c.in_err-answered.ensures.reads.permitted

pub returns-clause-reads : goal.returns-clause-reads
returns-clause-reads g c = c.in_ok-answered.ensures.reads.done
