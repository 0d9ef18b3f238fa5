use Rattle.std.proofs.Common.{[], ◌+◌, ap, refl, arith}
use Rattle.wu_base.specs.declared.troubles.Trouble.TheVariants.{NoMemory}
use Rattle.wu_parts.specs.Flushing.{Told}
use Rattle.wu_query.proofs.Searching.{sound_prepared}
use Rattle.wu_engine.specs.Indexing.{Catalog}
use Rattle.wu_engine.specs.Renewing.{Touches, touched_of}
use Rattle.wu_engine.specs.States.{after_event}
use Rattle.wu_engine.proofs.AddedBlobs.{draws_named, event_draws, none_added}
use Rattle.wu_engine.proofs.CallEnds.{ends_again, ends_answered, ends_failed, ends_passed, none_read, none_read_again}
use Rattle.wu_engine.proofs.CallEnds.{none_drawn, none_read_failed, none_read_passed, steps_answered}
use Rattle.wu_engine.proofs.FileChanges.{changes}
use Rattle.wu_engine.proofs.GoingEvents.{HasSome, goes_followed, goes_with, has_followed}
use Rattle.wu_engine.proofs.KeptFrames.{touches}
use Rattle.wu_engine.proofs.LeftImages.{no_puts, puts_left}
use Rattle.wu_engine.proofs.LeftStores.{left_alone}
use Rattle.wu_engine.proofs.NamedBlobs.{event_names}
use Rattle.wu_engine.proofs.SoundLemmas.{indexable, length-terms_after, sound_followed}
use Rattle.wu_engine.proofs.StandLemmas.{accepted, refused}
use Rattle.wu_engine.proofs.engines.Engine.update.Goals as goal

pub follow-followed-requires-clause-indexable : goal.follow-followed-requires-clause-indexable
follow-followed-requires-clause-indexable g c =
    let old = c.args.self.now in
    let event = c.args.event.now in
    let text = c.args.body.now in
    let effect = c.in-Ok.effect in
    let step = rw c.in-Ok.is at c.in_ok-effect.ensures.step in
    let taken = length-terms_after old.tree event text c.apply.new.self effect step in
    indexable old.tree c.apply.new.self effect (c.effects_tell_files.ensures event c.apply.new.self effect step)
    (changes old.tree event c.apply.new.self effect step).1 old.space old.parts old.files.entries old.frames (old.sound c.in_default.is)
    c.keeps_the_rules-2.ensures.by_number text c.requires.short (omega (arith, taken))

pub invariant_of-self-in-Ok-followed : goal.invariant_of-self-in-Ok-followed
invariant_of-self-in-Ok-followed g c =
    let old = c.args.self.now in
    let event = c.args.event.now in
    let text = c.args.body.now in
    let effect = c.in-Ok.effect in
    let tree = c.apply.new.self in
    let space = c.follow-followed.new.space in
    let files = c.follow-followed.new.files.entries in
    let parts = c.follow-followed.new.parts in
    let before : Told = (g.D.Store.holds c.args.store.now, g.D.Store.moments c.args.store.now) in
    let after : Told = (g.D.Store.holds c.follow-followed.new.store, g.D.Store.moments c.follow-followed.new.store) in
    let step = rw c.in-Ok.is at c.in_ok-effect.ensures.step in
    let taken = length-terms_after old.tree event text tree effect step in
    let done = c.in-Ok-followed.ensures.done in
    let sound = old.sound c.in_default.is in
    let rules = c.keeps_the_rules-2.ensures in
    let touched : Touches old.tree old.space tree space c.in_ok-touched.touched =
    rw c.in_ok-touched.ensures
    (touches old.tree old.space text c.keeps_the_rules.ensures rules event tree effect step
    (c.effects_tell_files.ensures event tree effect step) (changes old.tree event tree effect step).1 space
    (ap (λ (k : Catalog). k.space) done.catalog)) in
    record {
      sound = λ _.
          sound_prepared tree space parts parts files [] c.renew_frames.new.frames refl
          (c.renew_frames.ensures.right old.tree old.space touched sound.frames)
          (sound_followed effect text old.space space old.files.entries files old.parts parts before after done old.tree tree
          (c.effects_tell_files.ensures event tree effect step) (changes old.tree event tree effect step).1
          old.frames sound rules.by_number c.requires.short (omega (arith, taken)));
    }

pub returns-in-Ok-followed-clause-step : goal.returns-in-Ok-followed-clause-step
returns-in-Ok-followed-clause-step g c =
    let old = c.args.self.now in
    let event = c.args.event.now in
    let text = c.args.body.now in
    let effect = c.in-Ok.effect in
    let before : Told = (g.D.Store.holds c.args.store.now, g.D.Store.moments c.args.store.now) in
    let after : Told = (g.D.Store.holds c.follow-followed.new.store, g.D.Store.moments c.follow-followed.new.store) in
    let done = c.in-Ok-followed.ensures.done in
    let step = rw c.in-Ok.is at c.in_ok-effect.ensures.step in
    steps_answered
    (λ s stands. accepted old _ s event text refl refl before after stands effect step c.requires.event c.requires.short
    (c.effects_tell_files.ensures event c.apply.new.self effect step) (changes old.tree event c.apply.new.self effect step).1 done)
    (λ s stands now. draws_named s.layout _ _ _ before.0 after.0 stands.index.next_blob now.index.next_blob
    (event_names old.parts.flush_at s event text stands.index.is_state)
    (event_draws old.tree old.space old.parts old.files.entries s stands.index effect text c.follow-followed.new.space
    c.follow-followed.new.files.entries c.follow-followed.new.parts before after done))

pub returns-in-Err-clause-step : goal.returns-in-Err-clause-step
returns-in-Err-clause-step g c =
    let step = rw c.in-Err.is at c.in_ok-effect.ensures.step in
    let holds = g.D.Store.holds c.args.store.now in
    steps_answered
    (λ s stands. refused _ _ s c.args.event.now c.args.body.now refl refl holds stands c.in-Err.refusal step.0 step.1 refl refl refl)
    (λ s stands now.
    none_added (after_event c.args.self.now.parts.flush_at s c.args.event.now c.args.body.now).layout holds)

pub returns-in-Ok-followed-clause-untouched : goal.returns-in-Ok-followed-clause-untouched
returns-in-Ok-followed-clause-untouched g c = λ leaves.
    let old = c.args.self.now in
    let effect = c.in-Ok.effect in
    let step = rw c.in-Ok.is at c.in_ok-effect.ensures.step in
    let left = left_alone old.tree c.args.event.now c.args.body.now c.apply.new.self effect step old.parts leaves in
    c.in-Ok-followed.ensures.untouched left.0 left.1

pub returns-in-Ok-followed-clause-frames : goal.returns-in-Ok-followed-clause-frames
returns-in-Ok-followed-clause-frames g c =
    let old = c.args.self.now in
    let event = c.args.event.now in
    let tree = c.apply.new.self in
    let space = c.follow-followed.new.space in
    let step = rw c.in-Ok.is at c.in_ok-effect.ensures.step in
    let is = c.in_ok-touched.ensures in
    let touched : Touches old.tree old.space tree space (touched_of old.tree old.space.ranges event) =
    touches old.tree old.space c.args.body.now c.keeps_the_rules.ensures c.keeps_the_rules-2.ensures event tree c.in-Ok.effect step
    (c.effects_tell_files.ensures event tree c.in-Ok.effect step) (changes old.tree event tree c.in-Ok.effect step).1 space
    (ap (λ (k : Catalog). k.space) c.in-Ok-followed.ensures.done.catalog) in
    (rw is at c.renew_frames.ensures.left) old.tree old.space touched (old.sound c.in_default.is).frames

-- ---- how it comes out

pub returns-in-Ok-followed-clause-ends : goal.returns-in-Ok-followed-clause-ends
returns-in-Ok-followed-clause-ends g c =
    let old = c.args.self.now in
    let effect = c.in-Ok.effect in
    let text = c.args.body.now in
    let space = c.follow-followed.new.space in
    let files = c.follow-followed.new.files.entries in
    let parts = c.follow-followed.new.parts in
    let before : Told = (g.D.Store.holds c.args.store.now, g.D.Store.moments c.args.store.now) in
    let after : Told = (g.D.Store.holds c.follow-followed.new.store, g.D.Store.moments c.follow-followed.new.store) in
    let step = rw c.in-Ok.is at c.in_ok-effect.ensures.step in
    let taken = length-terms_after old.tree c.args.event.now text c.apply.new.self effect step in
    let done = c.in-Ok-followed.ensures.done in
    let sound = old.sound c.in_default.is in
    let sorted = c.keeps_the_rules-2.ensures.by_number in
    let indexed =
    indexable old.tree c.apply.new.self effect (c.effects_tell_files.ensures c.args.event.now c.apply.new.self effect step)
    (changes old.tree c.args.event.now c.apply.new.self effect step).1 old.space old.parts old.files.entries old.frames sound sorted text
    c.requires.short (omega (arith, taken)) in
    ends_answered c.in_default.is refl c.in-Ok-followed.ensures.calm (λ start goes.
    let some : HasSome old.space.next old.parts.memory =
    record { low = goes.low; high = goes.high; below = goes.below; postings = goes.postings; has = goes.memory } in
    goes_with refl
    (has_followed start old.checkpoint effect text old.space space old.files.entries files old.parts parts before after done some)
    (goes_followed start old.checkpoint effect text old.space space old.files.entries files old.parts parts before after done sound.ranges
    sorted indexed.made some goes.sound))

pub returns-in-Err-clause-ends : goal.returns-in-Err-clause-ends
returns-in-Err-clause-ends g c =
    ends_answered c.in_default.is refl refl (λ start goes. record {
      goes_on = refl;
      low = goes.low;
      high = goes.high;
      below = goes.below;
      postings = goes.postings;
      memory = goes.memory;
      sound = goes.sound;
    })

pub returns-in-Err-followed-clause-ends : goal.returns-in-Err-followed-clause-ends
returns-in-Err-followed-clause-ends g c =
    let cause = c.in-Err-followed.ensures.cause in
    rw c.end_with.ensures.trouble
    (ends_failed c.in-Err-followed.trouble c.in_default.is c.end_with.ensures.ended cause.counted cause.store_fault cause.calm)

pub returns-in_err-touched-clause-ends : goal.returns-in_err-touched-clause-ends
returns-in_err-touched-clause-ends g c =
    ends_passed c.from_residual.result NoMemory c.from_residual.ensures.1 (λ e. cc e) c.in_default.is refl refl

pub returns-in_err-effect-clause-ends : goal.returns-in_err-effect-clause-ends
returns-in_err-effect-clause-ends g c =
    ends_passed c.from_residual-in_err-effect.result NoMemory c.from_residual-in_err-effect.ensures.1 (λ e. cc e) c.in_default.is refl refl

pub returns-in-Some-clause-ends : goal.returns-in-Some-clause-ends
returns-in-Some-clause-ends g c = ends_again c.in-Some.trouble c.in-Some.is

-- ---- what is read

pub returns-in-Ok-followed-clause-reads : goal.returns-in-Ok-followed-clause-reads
returns-in-Ok-followed-clause-reads g c = none_read c.follow-followed.ensures.reads

pub returns-in-Err-clause-reads : goal.returns-in-Err-clause-reads
returns-in-Err-clause-reads g c = none_read refl

pub returns-in-Err-followed-clause-reads : goal.returns-in-Err-followed-clause-reads
returns-in-Err-followed-clause-reads g c =
    rw c.end_with.ensures.trouble
    (none_read_failed c.in-Err-followed.trouble c.follow-followed.ensures.reads c.in-Err-followed.ensures.cause.undamaged)

pub returns-in_err-touched-clause-reads : goal.returns-in_err-touched-clause-reads
returns-in_err-touched-clause-reads g c =
    none_read_passed c.from_residual.result NoMemory c.from_residual.ensures.1 refl (λ blob e. cc e)

pub returns-in_err-effect-clause-reads : goal.returns-in_err-effect-clause-reads
returns-in_err-effect-clause-reads g c =
    none_read_passed c.from_residual-in_err-effect.result NoMemory c.from_residual-in_err-effect.ensures.1 refl (λ blob e. cc e)

pub returns-in-Some-clause-reads : goal.returns-in-Some-clause-reads
returns-in-Some-clause-reads g c = none_read_again c.in-Some.trouble c.in-Some.is

-- ---- the blobs that are drawn

pub returns-in_err-touched-clause-tried : goal.returns-in_err-touched-clause-tried
returns-in_err-touched-clause-tried g c =
    let next = c.args.self.now.parts.next_blob in no_puts next (next + 2) 2 (g.D.Store.moments c.args.store.now) (omega arith)

pub returns-in_err-effect-clause-tried : goal.returns-in_err-effect-clause-tried
returns-in_err-effect-clause-tried g c =
    let next = c.args.self.now.parts.next_blob in no_puts next (next + 2) 2 (g.D.Store.moments c.args.store.now) (omega arith)

pub returns-in-Err-clause-tried : goal.returns-in-Err-clause-tried
returns-in-Err-clause-tried g c =
    let next = c.args.self.now.parts.next_blob in no_puts next (next + 2) 2 (g.D.Store.moments c.args.store.now) (omega arith)

pub returns-in-Some-clause-tried : goal.returns-in-Some-clause-tried
returns-in-Some-clause-tried g c =
    let next = c.args.self.now.parts.next_blob in no_puts next (next + 2) 2 (g.D.Store.moments c.args.store.now) (omega arith)

pub returns-in_err-touched-clause-drawn : goal.returns-in_err-touched-clause-drawn
returns-in_err-touched-clause-drawn g c = none_drawn 2 refl refl refl refl

pub returns-in_err-effect-clause-drawn : goal.returns-in_err-effect-clause-drawn
returns-in_err-effect-clause-drawn g c = none_drawn 2 refl refl refl refl

pub returns-in-Err-clause-drawn : goal.returns-in-Err-clause-drawn
returns-in-Err-clause-drawn g c = none_drawn 2 refl refl refl refl

pub returns-in-Some-clause-drawn : goal.returns-in-Some-clause-drawn
returns-in-Some-clause-drawn g c = none_drawn 2 refl refl refl refl

pub returns-in-Ok-followed-clause-drawn : goal.returns-in-Ok-followed-clause-drawn
returns-in-Ok-followed-clause-drawn g c =
    let followed = c.follow-followed.ensures in
    record {
      numbers = followed.numbers;
      checkpoint = refl;
      elsewhere = followed.elsewhere;
      survives = λ s last stands saved.
          puts_left stands saved (c.args.self.now.parts.next_blob + 2) 2 _ c.follow-followed.ensures.tried;
    }

pub returns-in-Err-followed-clause-drawn : goal.returns-in-Err-followed-clause-drawn
returns-in-Err-followed-clause-drawn g c =
    let followed = c.follow-followed.ensures in
    record {
      numbers = rw c.end_with.ensures.same.parts followed.numbers;
      checkpoint = c.end_with.ensures.same.checkpoint;
      elsewhere = followed.elsewhere;
      survives = λ s last stands saved.
          puts_left stands saved (c.args.self.now.parts.next_blob + 2) 2 _ c.follow-followed.ensures.tried;
    }

-- ---- the addresses

pub returns-in-Ok-followed-clause-addresses : goal.returns-in-Ok-followed-clause-addresses
returns-in-Ok-followed-clause-addresses g c =
    let step = rw c.in-Ok.is at c.in_ok-effect.ensures.step in
    let terms = length-terms_after c.args.self.now.tree c.args.event.now c.args.body.now c.apply.new.self c.in-Ok.effect step in
    record {
      given = c.follow-followed.ensures.given;
      taken = omega (arith, c.follow-followed.ensures.taken, terms);
    }

pub returns-in-Err-followed-clause-addresses : goal.returns-in-Err-followed-clause-addresses
returns-in-Err-followed-clause-addresses g c =
    let step = rw c.in-Ok.is at c.in_ok-effect.ensures.step in
    let terms = length-terms_after c.args.self.now.tree c.args.event.now c.args.body.now c.apply.new.self c.in-Ok.effect step in
    rw c.end_with.ensures.same.space (record {
      given = c.follow-followed.ensures.given;
      taken = omega (arith, c.follow-followed.ensures.taken, terms);
    })

pub returns-in_err-touched-clause-addresses : goal.returns-in_err-touched-clause-addresses
returns-in_err-touched-clause-addresses g c = record { given = omega arith; taken = omega arith }

pub returns-in_err-effect-clause-addresses : goal.returns-in_err-effect-clause-addresses
returns-in_err-effect-clause-addresses g c = record { given = omega arith; taken = omega arith }

pub returns-in-Err-clause-addresses : goal.returns-in-Err-clause-addresses
returns-in-Err-clause-addresses g c = record { given = omega arith; taken = omega arith }

pub returns-in-Some-clause-addresses : goal.returns-in-Some-clause-addresses
returns-in-Some-clause-addresses g c = record { given = omega arith; taken = omega arith }
