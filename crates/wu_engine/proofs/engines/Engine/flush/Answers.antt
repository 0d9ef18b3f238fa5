use Rattle.std.proofs.Common.{ℕ, ◌+◌, inr, map, refl, arith}
use Rattle.wu_base.specs.declared.addresses.Range.{Range}
use Rattle.wu_layout.specs.Postings.{live_of}
use Rattle.wu_engine.proofs.AddedBlobs.{draws_named, flushed_draws}
use Rattle.wu_engine.proofs.CallEnds.{ends_again, ends_answered, ends_failed, leads_answered, none_read, none_read_again}
use Rattle.wu_engine.proofs.CallEnds.{none_drawn, none_read_failed}
use Rattle.wu_engine.proofs.DrawnNumbers.{draws_failed, draws_flushed}
use Rattle.wu_engine.proofs.GoingEvents.{flush_sound, goes_with, has_none}
use Rattle.wu_engine.proofs.LeftImages.{put_left}
use Rattle.wu_engine.proofs.NamedBlobs.{flush_names}
use Rattle.wu_engine.proofs.OtherBlobs.{others_put}
use Rattle.wu_engine.proofs.StandLemmas.{flushed_on}
use Rattle.wu_engine.proofs.engines.Engine.flush.Goals as goal

pub returns-in-Ok-clause-step : goal.returns-in-Ok-clause-step
returns-in-Ok-clause-step g c =
    let old = c.args.self.now in
    let holds = g.D.Store.holds in
    let moments = g.D.Store.moments in
    leads_answered
    (λ s stands. flushed_on old _ s refl (holds c.args.store.now, moments c.args.store.now)
    (holds c.flush.new.store, moments c.flush.new.store) stands refl refl refl refl c.in-Ok.ensures.flushed)
    (λ s stands now. draws_named s.layout _ _ _ (holds c.args.store.now) (holds c.flush.new.store) stands.index.next_blob
    now.index.next_blob (flush_names s stands.index.is_state)
    (flushed_draws old.tree old.space old.parts old.files.entries s stands.index _ (holds c.args.store.now, moments c.args.store.now)
    (holds c.flush.new.store, moments c.flush.new.store) c.in-Ok.ensures.flushed))

pub returns-in-Ok-clause-ends : goal.returns-in-Ok-clause-ends
returns-in-Ok-clause-ends g c =
    let old = c.args.self.now in
    let holds = g.D.Store.holds in
    let moments = g.D.Store.moments in
    ends_answered c.in_default.is refl c.in-Ok.ensures.calm (λ start goes.
    goes_with refl (has_none old.space.next old.parts c.flush.new.self c.in-Ok.ensures.changes)
    (flush_sound start old.files.entries old.checkpoint (live_of (map (λ (file : ℕ × Range). file.1) old.space.ranges) goes.postings)
    old.parts c.flush.new.self (holds c.args.store.now, moments c.args.store.now) (holds c.flush.new.store, moments c.flush.new.store)
    (c.in-Ok.ensures.flushed goes.low goes.high goes.postings goes.memory) goes.sound))

pub returns-in-Err-clause-ends : goal.returns-in-Err-clause-ends
returns-in-Err-clause-ends g c =
    let cause = c.in-Err.ensures.cause in
    rw c.end_with.ensures.trouble
    (ends_failed c.in-Err.trouble c.in_default.is c.end_with.ensures.ended cause.counted cause.store_fault cause.calm)

pub returns-in-Some-clause-ends : goal.returns-in-Some-clause-ends
returns-in-Some-clause-ends g c = ends_again c.in-Some.trouble c.in-Some.is

pub returns-in-Ok-clause-reads : goal.returns-in-Ok-clause-reads
returns-in-Ok-clause-reads g c = none_read c.flush.ensures.unread

pub returns-in-Err-clause-reads : goal.returns-in-Err-clause-reads
returns-in-Err-clause-reads g c =
    rw c.end_with.ensures.trouble (none_read_failed c.in-Err.trouble c.flush.ensures.unread c.in-Err.ensures.cause.undamaged)

pub returns-in-Some-clause-reads : goal.returns-in-Some-clause-reads
returns-in-Some-clause-reads g c = none_read_again c.in-Some.trouble c.in-Some.is

pub returns-in-Ok-clause-drawn : goal.returns-in-Ok-clause-drawn
returns-in-Ok-clause-drawn g c =
    let next = c.args.self.now.parts.next_blob in
    record {
      numbers = draws_flushed c.args.self.now.parts c.flush.new.self (inr c.in-Ok.ensures.changes);
      checkpoint = refl;
      elsewhere = others_put next (next + 1) next _ _ (omega arith) (omega arith) c.flush.ensures.elsewhere;
      survives = λ s last stands saved. put_left stands saved c.flush.ensures.tried;
    }

pub returns-in-Err-clause-drawn : goal.returns-in-Err-clause-drawn
returns-in-Err-clause-drawn g c =
    let next = c.args.self.now.parts.next_blob in
    record {
      numbers = rw c.end_with.ensures.same.parts
          (draws_failed c.args.self.now.parts c.flush.new.self c.in-Err.ensures.unchanged c.in-Err.ensures.drawn);
      checkpoint = c.end_with.ensures.same.checkpoint;
      elsewhere = others_put next (next + 1) next _ _ (omega arith) (omega arith) c.flush.ensures.elsewhere;
      survives = λ s last stands saved. put_left stands saved c.flush.ensures.tried;
    }

pub returns-in-Some-clause-drawn : goal.returns-in-Some-clause-drawn
returns-in-Some-clause-drawn g c = none_drawn 1 refl refl refl refl
