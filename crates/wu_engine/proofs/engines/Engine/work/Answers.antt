use Rattle.std.proofs.Common.{◌+◌, ◌-◌, inl, inr, refl, ap, sym, subst, arith}
use Rattle.wu_parts.specs.Contents.{Contents}
use Rattle.wu_parts.specs.Memory.{HasPostings, Memory}
use Rattle.wu_engine.proofs.AddedBlobs.{draws_named, units_draw}
use Rattle.wu_engine.proofs.BrokenBlobs.{worked_is_broken}
use Rattle.wu_engine.proofs.CallEnds.{ends_again, ends_answered, ends_failed, had_ended, none_drawn, steps_answered}
use Rattle.wu_engine.proofs.DrawnNumbers.{draws_worked}
use Rattle.wu_engine.proofs.GoingUnits.{units_sound}
use Rattle.wu_engine.proofs.LeftImages.{no_puts, puts_drawn, puts_left}
use Rattle.wu_engine.proofs.NamedBlobs.{work_names}
use Rattle.wu_engine.proofs.WorkedStates.{others_drawn, parts_told, worked_on}
use Rattle.wu_engine.proofs.WorkReads.{stop_permitted, work_permitted}
use Rattle.wu_engine.proofs.engines.Engine.work.Goals as goal

pub returns-in-Ok-clause-step : goal.returns-in-Ok-clause-step
returns-in-Ok-clause-step g c =
    let old = c.args.self.now in
    let n = c.args.n in
    let holds = g.D.Store.holds in
    let moments = g.D.Store.moments in
    let before = holds c.args.store.now in
    let after = holds c.work.new.store in
    let work = c.in-Ok.ensures.units in
    let others =
    others_drawn old.parts.next_blob c.work.new.self.next_blob n before after c.work.ensures.changes.drawn.1 c.work.ensures.elsewhere in
    steps_answered
    (λ s stands.
    let told = parts_told old before s stands in
    let layout = c.in-Ok.ensures.layout _ _ s.layout stands.index.is_state.layout stands.index.live told in (
      layout.0,
      worked_on old _ s n refl refl refl refl refl c.in-Ok.ensures.changes before after stands others layout.1,
    ))
    (λ s stands now. draws_named s.layout _ _ _ before after stands.index.next_blob now.index.next_blob
    (work_names n s stands.index.is_state)
    (units_draw old.space.ranges work.units old.parts _ (before, moments c.args.store.now) (after, moments c.work.new.store)
    work.read work.done))

pub returns-in-Ok-clause-ends : goal.returns-in-Ok-clause-ends
returns-in-Ok-clause-ends g c =
    let old = c.args.self.now in
    let holds = g.D.Store.holds in
    let moments = g.D.Store.moments in
    let work = c.in-Ok.ensures.units in
    ends_answered c.in_default.is refl c.in-Ok.ensures.calm (λ start goes. record {
      goes_on = refl;
      low = goes.low;
      high = goes.high;
      below = goes.below;
      postings = goes.postings;
      memory =
          subst (λ (m : Memory). HasPostings goes.low goes.high m goes.postings)
          (sym (ap (λ (parts : Contents). parts.memory) c.in-Ok.ensures.changes.others)) goes.memory;
      sound =
          units_sound start old.files.entries old.checkpoint old.space.ranges work.units old.parts _
          (holds c.args.store.now, moments c.args.store.now) (holds c.work.new.store, moments c.work.new.store) work.read work.done
          goes.sound;
    })

pub returns-in-Err-clause-ends : goal.returns-in-Err-clause-ends
returns-in-Err-clause-ends g c =
    let cause = c.in-Err.ensures.stops in
    rw c.end_with.ensures.trouble
    (ends_failed c.in-Err.trouble c.in_default.is c.end_with.ensures.ended cause.counted cause.store_fault cause.calm)

pub returns-in-Some-clause-ends : goal.returns-in-Some-clause-ends
returns-in-Some-clause-ends g c = ends_again c.in-Some.trouble c.in-Some.is

-- ---- what is read, and what is called damaged

pub returns-in-Ok-clause-reads : goal.returns-in-Ok-clause-reads
returns-in-Ok-clause-reads g c =
    let holds = g.D.Store.holds in
    let moments = g.D.Store.moments in
    record {
      done = c.in-Ok.ensures.units;
      stops = λ on. tt;
      permitted = λ s stands.
          work_permitted c.args.self.now s c.args.n (holds c.args.store.now, moments c.args.store.now) stands
          (g.D.Store.reads c.args.store.now) (g.D.Store.reads c.work.new.store) _
          (holds c.work.new.store, moments c.work.new.store) c.in-Ok.ensures.units;
    }

pub returns-in-Err-clause-reads : goal.returns-in-Err-clause-reads
returns-in-Err-clause-reads g c = record {
  done = tt;
  stops = λ on. rw c.end_with.ensures.trouble c.in-Err.ensures.stops;
  permitted = λ s stands.
      stop_permitted c.args.self.now s c.args.n (g.D.Store.holds c.args.store.now, g.D.Store.moments c.args.store.now) stands
      (g.D.Store.reads c.args.store.now) (g.D.Store.reads c.work.new.store) (g.D.Store.faults c.args.store.now)
      (g.D.Store.faults c.work.new.store) c.in-Err.trouble c.in-Err.ensures.stops;
}

pub returns-in-Some-clause-reads : goal.returns-in-Some-clause-reads
returns-in-Some-clause-reads g c = record {
  done = tt;
  stops = λ on. had_ended c.in-Some.is on;
  permitted = λ s stands. had_ended c.in-Some.is stands.goes_on;
}

pub returns-in-Some-clause-damaged : goal.returns-in-Some-clause-damaged
returns-in-Some-clause-damaged g c = record {
  damaged = λ blob e. inl (cc (c.in-Some.is, e));
  broken = λ start goes blob e. had_ended c.in-Some.is goes.goes_on;
  undamaged = λ s stands blob e. had_ended c.in-Some.is stands.goes_on;
}

pub returns-in-Err-clause-damaged : goal.returns-in-Err-clause-damaged
returns-in-Err-clause-damaged g c =
    let old = c.args.self.now in
    let holds = g.D.Store.holds c.args.store.now in
    let stops = c.in-Err.ensures.stops in
    rw c.end_with.ensures.trouble (record {
      damaged = λ blob e. inr (stops.damaged blob (cc e));
      broken = λ start goes blob e.
          worked_is_broken start holds old.files.entries old.parts old.checkpoint blob goes.sound (stops.damaged blob (cc e));
      undamaged = λ s stands blob e.
          c.in-Err.ensures.undamaged _ _ s.layout stands.index.is_state.layout (parts_told old holds s stands) blob (cc e);
    })

-- ---- the blobs that are drawn

pub returns-in-Ok-clause-drawn : goal.returns-in-Ok-clause-drawn
returns-in-Ok-clause-drawn g c =
    let next = c.args.self.now.parts.next_blob in
    let later = c.work.new.self.next_blob in
    record {
      numbers = draws_worked c.args.n c.args.self.now.parts c.work.new.self c.work.ensures.changes;
      checkpoint = refl;
      elsewhere = others_drawn next later c.args.n (g.D.Store.holds c.args.store.now) (g.D.Store.holds c.work.new.store)
          c.work.ensures.changes.drawn.1 c.work.ensures.elsewhere;
      survives = λ s last stands saved. puts_left stands saved later (later - next) _ c.work.ensures.tried;
    }

pub returns-in-Err-clause-drawn : goal.returns-in-Err-clause-drawn
returns-in-Err-clause-drawn g c =
    let next = c.args.self.now.parts.next_blob in
    let later = c.work.new.self.next_blob in
    record {
      numbers = rw c.end_with.ensures.same.parts
          (draws_worked c.args.n c.args.self.now.parts c.work.new.self c.work.ensures.changes);
      checkpoint = c.end_with.ensures.same.checkpoint;
      elsewhere = others_drawn next later c.args.n (g.D.Store.holds c.args.store.now) (g.D.Store.holds c.work.new.store)
          c.work.ensures.changes.drawn.1 c.work.ensures.elsewhere;
      survives = λ s last stands saved. puts_left stands saved later (later - next) _ c.work.ensures.tried;
    }

pub returns-in-Some-clause-drawn : goal.returns-in-Some-clause-drawn
returns-in-Some-clause-drawn g c = none_drawn c.args.n refl refl refl refl

pub returns-in-Err-clause-counted : goal.returns-in-Err-clause-counted
returns-in-Err-clause-counted g c = rw c.end_with.ensures.same.parts (ap (λ (p : Contents). p.flushes) c.work.ensures.changes.others)

pub returns-in-Ok-clause-tried : goal.returns-in-Ok-clause-tried
returns-in-Ok-clause-tried g c =
    puts_drawn c.args.self.now.parts.next_blob c.work.new.self.next_blob c.args.n (g.D.Store.moments c.args.store.now)
    (g.D.Store.moments c.work.new.store) c.work.ensures.changes.drawn.0 c.work.ensures.changes.drawn.1 c.work.ensures.tried

pub returns-in-Err-clause-tried : goal.returns-in-Err-clause-tried
returns-in-Err-clause-tried g c =
    puts_drawn c.args.self.now.parts.next_blob c.work.new.self.next_blob c.args.n (g.D.Store.moments c.args.store.now)
    (g.D.Store.moments c.work.new.store) c.work.ensures.changes.drawn.0 c.work.ensures.changes.drawn.1 c.work.ensures.tried

pub returns-in-Some-clause-tried : goal.returns-in-Some-clause-tried
returns-in-Some-clause-tried g c =
    let next = c.args.self.now.parts.next_blob in
    no_puts next (next + c.args.n) c.args.n (g.D.Store.moments c.args.store.now) (omega arith)
