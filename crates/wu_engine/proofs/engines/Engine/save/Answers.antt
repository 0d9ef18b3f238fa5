use Rattle.std.proofs.Common.{◌+◌, refl}
use Rattle.wu_parts.specs.Flushing.{Told}
use Rattle.wu_engine.specs.Saving.{removed_by_save}
use Rattle.wu_engine.proofs.CallEnds.{ends_again, ends_answered, ends_failed, leads_answered, none_read, none_read_again}
use Rattle.wu_engine.proofs.CallEnds.{had_ended, none_read_failed}
use Rattle.wu_engine.proofs.DrawnNumbers.{draws_none}
use Rattle.wu_engine.proofs.EarlierBlobs.{saved_earlier, stopped_earlier}
use Rattle.wu_engine.proofs.GoingEvents.{goes_with}
use Rattle.wu_engine.proofs.GoingSaves.{none_in_memory, save_sound}
use Rattle.wu_engine.proofs.NewCheckpoints.{saved_checkpoint, stopped_checkpoint}
use Rattle.wu_engine.proofs.SavedContents.{named_same}
use Rattle.wu_engine.proofs.SavedCrashes.{saved_durable, saved_left, stopped_left}
use Rattle.wu_engine.proofs.SavedEngines.{gone_saved, image_on, named_on, saved_on, sound_saved}
use Rattle.wu_engine.proofs.engines.Engine.save.Given.{Over}
use Rattle.wu_engine.proofs.engines.Engine.save.Goals as goal

pub save-requires-clause-some : goal.save-requires-clause-some
save-requires-clause-some g c = (c.args.self.now.sound c.in_default.is).blobs

pub invariant_of-self : goal.invariant_of-self
invariant_of-self g c =
    let old = c.args.self.now in
    let holds = g.D.Store.holds in
    let moments = g.D.Store.moments in
    record {
      sound = λ _.
          sound_saved old.tree old.space old.files.entries old.checkpoint c.in-Ok.checkpoint old.parts c.save.new.parts
          (holds c.args.store.now, moments c.args.store.now) (holds c.save.new.store, moments c.save.new.store) c.in-Ok.ensures.saved
          old.frames (old.sound c.in_default.is);
    }

-- what the store told before the save, and after it
abbrev before : (g : Over) → goal.After-self-1 g → Told
before g c = (g.D.Store.holds c.args.store.now, g.D.Store.moments c.args.store.now)

abbrev after : (g : Over) → goal.After-self-1 g → Told
after g c = (g.D.Store.holds c.save.new.store, g.D.Store.moments c.save.new.store)

pub returns-in-Ok-clause-step : goal.returns-in-Ok-clause-step
returns-in-Ok-clause-step g c =
    let old = c.args.self.now in
    leads_answered
    (λ s stands. saved_on old _ s (before g c) (after g c) stands (old.sound c.in_default.is).few c.in-Ok.ensures.saved
    refl refl refl refl)
    (λ s stands now. named_on old c.in-Ok.checkpoint c.save.new.parts s (before g c) (after g c) stands
    (old.sound c.in_default.is).few c.in-Ok.ensures.saved)

pub returns-in-Ok-clause-saved : goal.returns-in-Ok-clause-saved
returns-in-Ok-clause-saved g c =
    let old = c.args.self.now in
    let few = (old.sound c.in_default.is).few in
    let alike = g.met.D.Store.told_alike c.args.store.now in
    let checkpoint = c.in-Ok.checkpoint in
    let parts = c.save.new.parts in
    let saved = c.in-Ok.ensures.saved in
    record {
      image = λ s stands. image_on old checkpoint parts s (before g c) (after g c) stands few saved;
      survives = λ s last stands of_last.
          saved_left old checkpoint parts s (before g c) (after g c) stands alike few saved last of_last;
      durable = λ s stands. saved_durable old checkpoint parts s (before g c) (after g c) stands alike few saved;
    }

pub returns-in-Err-clause-saved : goal.returns-in-Err-clause-saved
returns-in-Err-clause-saved g c =
    let old = c.args.self.now in
    let holds = g.D.Store.holds in
    let moments = g.D.Store.moments in
    record {
      image = λ s stands. tt;
      survives = λ s last stands saved.
          stopped_left old s (holds c.args.store.now, moments c.args.store.now) stands (g.met.D.Store.told_alike c.args.store.now) last
          saved (old.sound c.in_default.is).few (holds c.save.new.store, moments c.save.new.store) c.in-Err.ensures.stops;
      durable = λ s stands. tt;
    }

pub returns-in-Some-clause-saved : goal.returns-in-Some-clause-saved
returns-in-Some-clause-saved g c = record {
  image = λ s stands. tt;
  survives = λ s last stands saved. had_ended c.in-Some.is stands.goes_on;
  durable = λ s stands. tt;
}

pub returns-in-Ok-clause-order : goal.returns-in-Ok-clause-order
returns-in-Ok-clause-order g c = c.in-Ok.ensures.saved

pub returns-in-Ok-clause-blobs : goal.returns-in-Ok-clause-blobs
returns-in-Ok-clause-blobs g c =
    let old = c.args.self.now in
    record {
      elsewhere = c.save.ensures.elsewhere;
      removed = gone_saved old.tree old.space old.files.entries old.checkpoint c.in-Ok.checkpoint old.parts c.save.new.parts
          (before g c) (after g c) c.in-Ok.ensures.saved;
    }

pub returns-in-Err-clause-blobs : goal.returns-in-Err-clause-blobs
returns-in-Err-clause-blobs g c = record { elsewhere = c.save.ensures.elsewhere; removed = tt }

pub returns-in-Some-clause-blobs : goal.returns-in-Some-clause-blobs
returns-in-Some-clause-blobs g c =
    let old = c.args.self.now in
    let next = old.parts.next_blob in
    record {
      elsewhere = named_same next (next + 2) (removed_by_save old.parts old.checkpoint) (g.D.Store.holds c.args.store.now);
      removed = tt;
    }

pub returns-in-Ok-clause-earlier : goal.returns-in-Ok-clause-earlier
returns-in-Ok-clause-earlier g c =
    let old = c.args.self.now in
    record {
      earlier = λ start goes.
          saved_earlier old.tree old.space old.files.entries old.checkpoint old.parts (before g c) goes.low goes.high goes.postings
          goes.memory c.in-Ok.checkpoint c.save.new.parts (after g c) c.in-Ok.ensures.saved;
      checkpoint = λ start goes.
          saved_checkpoint old.tree old.space old.files.entries old.checkpoint old.parts (before g c) goes.low goes.high goes.postings
          goes.memory start goes.sound c.in-Ok.checkpoint c.save.new.parts (after g c) c.in-Ok.ensures.saved;
    }

pub returns-in-Err-clause-earlier : goal.returns-in-Err-clause-earlier
returns-in-Err-clause-earlier g c =
    let old = c.args.self.now in
    let holds = g.D.Store.holds in
    let moments = g.D.Store.moments in
    record {
      earlier = λ start goes.
          stopped_earlier old.tree old.space old.files.entries old.checkpoint old.parts
          (holds c.args.store.now, moments c.args.store.now) goes.low goes.high goes.postings goes.memory
          (holds c.save.new.store, moments c.save.new.store) c.in-Err.ensures.stops;
      checkpoint = λ start goes.
          stopped_checkpoint old.tree old.space old.files.entries old.checkpoint old.parts
          (holds c.args.store.now, moments c.args.store.now) goes.low goes.high goes.postings goes.memory start goes.sound
          (holds c.save.new.store, moments c.save.new.store) c.in-Err.ensures.stops;
    }

pub returns-in-Some-clause-earlier : goal.returns-in-Some-clause-earlier
returns-in-Some-clause-earlier g c = record {
  earlier = λ start goes. had_ended c.in-Some.is goes.goes_on;
  checkpoint = λ start goes. had_ended c.in-Some.is goes.goes_on;
}

pub returns-in-Ok-clause-numbers : goal.returns-in-Ok-clause-numbers
returns-in-Ok-clause-numbers g c = c.save.ensures.numbers

pub returns-in-Err-clause-numbers : goal.returns-in-Err-clause-numbers
returns-in-Err-clause-numbers g c = rw c.end_with.ensures.same.parts c.save.ensures.numbers

pub returns-in-Some-clause-numbers : goal.returns-in-Some-clause-numbers
returns-in-Some-clause-numbers g c = draws_none 2 c.args.self.now.parts

-- ---- how it comes out, and what is read

pub returns-in-Ok-clause-ends : goal.returns-in-Ok-clause-ends
returns-in-Ok-clause-ends g c =
    let old = c.args.self.now in
    let parts = c.save.new.parts in
    let saved = c.in-Ok.ensures.saved in
    ends_answered c.in_default.is refl c.in-Ok.ensures.calm (λ start goes.
    goes_with refl
    (none_in_memory old.tree old.space old.files.entries old.checkpoint c.in-Ok.checkpoint old.parts parts (before g c) (after g c) saved)
    (save_sound old.tree old.space old.files.entries old.checkpoint c.in-Ok.checkpoint old.parts parts (before g c) (after g c) saved
    start goes.low goes.high goes.postings goes.memory goes.sound))

pub returns-in-Err-clause-ends : goal.returns-in-Err-clause-ends
returns-in-Err-clause-ends g c =
    let cause = c.in-Err.ensures.cause in
    rw c.end_with.ensures.trouble
    (ends_failed c.in-Err.trouble c.in_default.is c.end_with.ensures.ended cause.counted cause.store_fault cause.calm)

pub returns-in-Some-clause-ends : goal.returns-in-Some-clause-ends
returns-in-Some-clause-ends g c = ends_again c.in-Some.trouble c.in-Some.is

pub returns-in-Ok-clause-reads : goal.returns-in-Ok-clause-reads
returns-in-Ok-clause-reads g c = none_read c.save.ensures.reads

pub returns-in-Err-clause-reads : goal.returns-in-Err-clause-reads
returns-in-Err-clause-reads g c =
    rw c.end_with.ensures.trouble (none_read_failed c.in-Err.trouble c.save.ensures.reads c.in-Err.ensures.cause.undamaged)

pub returns-in-Some-clause-reads : goal.returns-in-Some-clause-reads
returns-in-Some-clause-reads g c = none_read_again c.in-Some.trouble c.in-Some.is
