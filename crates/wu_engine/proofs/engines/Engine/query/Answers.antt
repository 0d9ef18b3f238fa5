use Rattle.std.proofs.Common.{inl, inr, refl}
use Rattle.wu_ask.specs.Questions.{question_of}
use Rattle.wu_query.proofs.DamagedTexts.{damaged_in}
use Rattle.wu_engine.proofs.BrokenBlobs.{found_is_broken}
use Rattle.wu_engine.proofs.CallEnds.{ends_again, ends_answered, ends_failed, had_ended}
use Rattle.wu_engine.proofs.QueryStands.{goes_asked, postings_told, ranges_told, reads_of_engine, stands_on, texts_kept}
use Rattle.wu_engine.proofs.engines.Engine.query.Goals as goal

pub returns-in-Ok-clause-answer : goal.returns-in-Ok-clause-answer
returns-in-Ok-clause-answer g c = λ s stands.
    let old = c.args.self.now in
    let holds = g.D.Store.holds c.args.store.now in (
      c.in-Ok.ensures.answer s stands.index.tree (ranges_told old holds s stands) (postings_told old holds s stands)
          (texts_kept old holds s stands),
      stands_on old holds s stands _ (g.D.Store.holds c.answered.new.store) c.args.query.now.uid (question_of c.args.query.now.ask) _ _ _
          refl c.answered.ensures.store.holds refl refl refl refl c.answered.ensures.others c.in-Ok.ensures.reads,
    )

pub returns-in-Ok-clause-same : goal.returns-in-Ok-clause-same
returns-in-Ok-clause-same g c =
    record { tree = refl; files = refl; space = refl; checkpoint = refl; parts = c.answered.ensures.others }

pub returns-in-Err-clause-same : goal.returns-in-Err-clause-same
returns-in-Err-clause-same g c =
    let same = c.end_with.ensures.same in
    record {
      tree = same.tree;
      files = same.files;
      space = same.space;
      checkpoint = same.checkpoint;
      parts = rw same.parts c.answered.ensures.others;
    }

pub returns-in-Ok-clause-reads : goal.returns-in-Ok-clause-reads
returns-in-Ok-clause-reads g c =
    let old = c.args.self.now in
    let holds = g.D.Store.holds c.args.store.now in
    record {
      done = reads_of_engine old holds c.args.query.now.uid (question_of c.args.query.now.ask) c.answered.new.parts.kept
          (g.D.Store.reads c.args.store.now) (g.D.Store.reads c.answered.new.store) c.in-Ok.ensures.reads;
      permitted = λ s stands.
          c.answered.ensures.permitted s stands.index.tree (ranges_told old holds s stands) (postings_told old holds s stands)
          (texts_kept old holds s stands);
    }

pub returns-in-Err-clause-reads : goal.returns-in-Err-clause-reads
returns-in-Err-clause-reads g c =
    let old = c.args.self.now in
    let holds = g.D.Store.holds c.args.store.now in
    record {
      done = tt;
      permitted = λ s stands.
          c.answered.ensures.permitted s stands.index.tree (ranges_told old holds s stands) (postings_told old holds s stands)
          (texts_kept old holds s stands);
    }

pub returns-in-Some-clause-reads : goal.returns-in-Some-clause-reads
returns-in-Some-clause-reads g c = record { done = tt; permitted = λ s stands. had_ended c.in-Some.is stands.goes_on }

pub returns-in-Ok-clause-store : goal.returns-in-Ok-clause-store
returns-in-Ok-clause-store g c =
    let store = c.answered.ensures.store in
    record { holds = store.holds; moments = store.moments; calm = c.in-Ok.ensures.store.calm }

pub returns-in-Err-clause-store : goal.returns-in-Err-clause-store
returns-in-Err-clause-store g c =
    let store = c.answered.ensures.store in record { holds = store.holds; moments = store.moments; calm = tt }

pub returns-in-Some-clause-damaged : goal.returns-in-Some-clause-damaged
returns-in-Some-clause-damaged g c = record {
  damaged = λ blob e. inl (cc (c.in-Some.is, e));
  broken = λ start goes blob e. had_ended c.in-Some.is goes.goes_on;
}

pub returns-in-Err-clause-damaged : goal.returns-in-Err-clause-damaged
returns-in-Err-clause-damaged g c =
    let old = c.args.self.now in
    let holds = g.D.Store.holds c.args.store.now in
    let cause = c.in-Err.ensures.cause in
    rw c.end_with.ensures.trouble (record {
      damaged = λ blob e. inr (cause.damaged blob (cc e));
      broken = λ start goes blob e.
          found_is_broken start holds old.files.entries old.parts old.checkpoint blob goes.sound
          (damaged_in holds blob old.files.entries old.tree old.space.ranges c.args.query.now.uid (question_of c.args.query.now.ask)
          old.parts (cause.damaged blob (cc e)).1);
    })

-- ---- how it comes out

pub returns-in-Ok-clause-ends : goal.returns-in-Ok-clause-ends
returns-in-Ok-clause-ends g c =
    ends_answered c.in_default.is refl c.in-Ok.ensures.store.calm (λ start.
    goes_asked c.args.self.now _ start _ _ refl refl refl refl c.answered.ensures.others c.answered.ensures.store.holds)

pub returns-in-Err-clause-ends : goal.returns-in-Err-clause-ends
returns-in-Err-clause-ends g c =
    let cause = c.in-Err.ensures.cause in
    rw c.end_with.ensures.trouble
    (ends_failed c.in-Err.trouble c.in_default.is c.end_with.ensures.ended cause.kept cause.store_fault cause.calm)

pub returns-in-Some-clause-ends : goal.returns-in-Some-clause-ends
returns-in-Some-clause-ends g c = ends_again c.in-Some.trouble c.in-Some.is
