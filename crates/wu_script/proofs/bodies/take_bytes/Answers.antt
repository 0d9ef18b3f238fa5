use Rattle.std.proofs.Common.{◌++◌, ◌<◌, ◌≤◌, max, [], refl, Ok, length, take, ap, ◌∙◌, append_assoc, append-nil, length-append, sym, arith}
use Rattle.std.proofs.lemmas.List.{length-take}
use Rattle.wu_script.specs.Holding.{Held, GivesAtMost, asked_at_once}
use Rattle.wu_script.specs.declared.ends.ReadEnd.TheVariants.{NoMemory}
use Rattle.wu_script.proofs.InputLemmas.{Uses-none, Uses-filled, part_taken, part_follows}
use Rattle.wu_script.proofs.EarlyEndLemmas.{UsesShort, EndsEarly-filling, EndsEarly-filled, IsCounted-after, cause_of}
use Rattle.wu_script.proofs.ReadLemmas.{GivesAtMost-none, GivesAtMost-then, asked_then}
use Rattle.wu_script.proofs.bodies.take_bytes.Given as given
use Rattle.wu_script.proofs.bodies.take_bytes.Goals as goal
use Rattle.wu_script.proofs.bodies.take_bytes.Goals.{After-fill}

pub returns-in-Ok-false-clause-taken : goal.returns-in-Ok-false-clause-taken
returns-in-Ok-false-clause-taken g c =
    let bytes = c.parts.invariant.so_far.0 in
    let uses = Uses-filled (g.I.Source.left c.args.source.now) (g.I.Source.left c.parts.source)
    (g.I.Source.left c.fill.new.source) c.args.input.now c.parts.input c.fill.new.self bytes c.parts.invariant.so_far.1 c.in-Ok-false.ensures.given in
    let none = c.in-Ok-false.ensures.none (ap Ok c.in-Ok-false.field-0-test) in (
      bytes,
      record { uses = uses; whole = λ e. cc (e); short = λ e. (omega (arith, c.parts.invariant.so_far.2), none.0, none.1) },
      c.parts.invariant.so_far.3,
    )

pub parts-init : goal.parts-init
parts-init g c = record {
  so_far = (
    [],
    Uses-none (g.I.Source.left c.args.source.now) c.args.input.now,
    omega arith,
    λ kept. sym
        (append-nil c.args.body.now.items),
  );
  follows = c.requires;
  brief =
      GivesAtMost-none (asked_at_once c.args.input.now.spare) (g.I.Source.left c.args.source.now) (g.I.Source.last_read c.args.source.now);
  asked = omega arith;
  unkept = λ e. refl;
  steady = refl;
  still = λ all. (refl, all);
}

-- a filling after the parts so far asks for no more
filled : (g : given.Over) (c : After-fill g)
    → GivesAtMost (asked_at_once c.parts.input.spare) (g.I.Source.left c.parts.source) (g.I.Source.left c.fill.new.source)
    (g.I.Source.last_read c.parts.source) (g.I.Source.last_read c.fill.new.source)
    → GivesAtMost (asked_at_once c.args.input.now.spare) (g.I.Source.left c.args.source.now) (g.I.Source.left c.fill.new.source)
    (g.I.Source.last_read c.args.source.now) (g.I.Source.last_read c.fill.new.source)
filled g c few =
    let left = g.I.Source.left in
    let last_read = g.I.Source.last_read in
    GivesAtMost-then c.args.input.now.spare c.parts.input.spare (left c.args.source.now) (left c.parts.source) (left c.fill.new.source)
    (last_read c.args.source.now) (last_read c.parts.source) (last_read c.fill.new.source)
    (omega (arith, c.parts.invariant.so_far.1.counted)) c.parts.invariant.brief few

asked : (g : given.Over) (c : After-fill g)
    → g.I.Source.most_asked c.fill.new.source ≤ max (g.I.Source.most_asked c.parts.source) (asked_at_once c.parts.input.spare)
    → g.I.Source.most_asked c.fill.new.source ≤ max (g.I.Source.most_asked c.args.source.now) (asked_at_once c.args.input.now.spare)
asked g c = asked_then c.args.input.now.spare c.parts.input.spare (g.I.Source.most_asked c.args.source.now)
    (g.I.Source.most_asked c.parts.source) (g.I.Source.most_asked c.fill.new.source)
    (omega (arith, c.parts.invariant.so_far.1.counted)) c.parts.invariant.asked

pub parts-preserved : goal.parts-preserved
parts-preserved g c =
    let bytes = c.parts.invariant.so_far.0 in
    let n = c.in_ok-part.part in
    let held = c.fill.new.self.bytes in
    let uses = part_taken (g.I.Source.left c.args.source.now) (g.I.Source.left c.parts.source)
    (g.I.Source.left c.fill.new.source) c.args.input.now c.parts.input c.fill.new.self c.take_part.new.input bytes n c.parts.invariant.so_far.1
    c.in-Ok-true.ensures.given c.in_ok-part.ensures.rest in
    record {
      so_far = (
        bytes ++ take n held,
        uses,
        omega (arith, length-append bytes (take n held), length-take n held, c.in_ok-part.ensures.count, c.parts.invariant.so_far.2),
        λ kept. c.in_ok-part.ensures.kept kept ∙ ap (λ xs. xs ++ take n held) (c.parts.invariant.so_far.3 kept)
            ∙ append_assoc c.args.body.now.items bytes (take n held),
      );
      follows = part_follows (g.I.Source.ended c.fill.new.source)
          (g.I.Source.last_read c.fill.new.source) n c.fill.new.self c.take_part.new.input c.in-Ok-true.ensures.follows c.in_ok-part.ensures.rest;
      brief = filled g (goal.at.parts-preserved g c).After-fill c.in-Ok-true.ensures.brief;
      asked = asked g (goal.at.parts-preserved g c).After-fill c.in-Ok-true.ensures.asked;
      unkept = λ e. c.take_part.ensures.unkept e ∙ c.parts.invariant.unkept e;
      steady = c.in-Ok-true.ensures.cause ∙ c.parts.invariant.steady;
      still = λ all.
          let still = c.parts.invariant.still all in
          let filled = c.in-Ok-true.ensures.still (omega (arith, still.1)) in
          let same = ap (λ (h : Held). length h.bytes) filled.1 in
          (filled.2 ∙ still.0, omega (arith, c.in_ok-part.ensures.count, still.1, same));
    }

-- the parts so far are fewer bytes than are to be taken
short : (g : given.Over) (c : After-fill g) → UsesShort (λ bs. length bs < c.args.count) (g.I.Source.left c.args.source.now)
    (g.I.Source.left c.parts.source) c.args.input.now c.parts.input c.parts.invariant.so_far.0
short g c = record {
  uses = c.parts.invariant.so_far.1;
  front = λ n. omega (arith, length-take n c.parts.invariant.so_far.0, c.parts.invariant.so_far.2);
}

pub returns-in-Err-clause-early : goal.returns-in-Err-clause-early
returns-in-Err-clause-early g c =
    let left = g.I.Source.left in
    EndsEarly-filling (λ bs. length bs < c.args.count) (left c.args.source.now) (left c.parts.source) (left c.fill.new.source)
    (g.I.Source.last_read c.fill.new.source) c.args.input.now c.parts.input c.in-Err.end c.parts.invariant.so_far.0
    (short g (goal.at.returns-in-Err-clause-early g c).After-fill) c.in-Err.ensures.early

pub returns-in_err-part-clause-early : goal.returns-in_err-part-clause-early
returns-in_err-part-clause-early g c =
    let left = g.I.Source.left in
    EndsEarly-filled (λ bs. length bs < c.args.count) (left c.args.source.now) (left c.parts.source) (left c.fill.new.source)
    (g.I.Source.last_read c.fill.new.source) c.args.input.now c.parts.input c.fill.new.self c.parts.invariant.so_far.0
    (short g (goal.at.returns-in_err-part-clause-early g c).After-fill) c.in-Ok-true.ensures.given c.in-Ok-true.ensures.follows.recent
    c.from_residual.result c.from_residual.ensures.1

pub returns-in-Ok-false-clause-cause : goal.returns-in-Ok-false-clause-cause
returns-in-Ok-false-clause-cause g c = c.in-Ok-false.ensures.cause ∙ c.parts.invariant.steady

pub returns-in-Err-clause-cause : goal.returns-in-Err-clause-cause
returns-in-Err-clause-cause g c =
    let faults = g.I.Source.faults in
    IsCounted-after c.in-Err.end (faults c.args.source.now) (faults c.parts.source)
    (faults c.fill.new.source) c.parts.invariant.steady c.in-Err.ensures.cause

pub returns-in_err-part-clause-cause : goal.returns-in_err-part-clause-cause
returns-in_err-part-clause-cause g c =
    let faults = g.I.Source.faults in
    cause_of NoMemory (faults c.args.source.now) (faults c.fill.new.source)
    (faults c.fill.new.source) c.from_residual.result c.from_residual.ensures.1
    (c.in-Ok-true.ensures.cause ∙ c.parts.invariant.steady) refl

pub returns-clause-cause : goal.returns-clause-cause
returns-clause-cause g c = c.parts.invariant.steady

pub returns-clause-follows : goal.returns-clause-follows
returns-clause-follows g c = c.parts.invariant.follows

pub returns-in-Ok-false-clause-brief : goal.returns-in-Ok-false-clause-brief
returns-in-Ok-false-clause-brief g c = filled g (goal.at.returns-in-Ok-false-clause-brief g c).After-fill c.in-Ok-false.ensures.brief

pub returns-in-Err-clause-brief : goal.returns-in-Err-clause-brief
returns-in-Err-clause-brief g c = filled g (goal.at.returns-in-Err-clause-brief g c).After-fill c.in-Err.ensures.brief

pub returns-in_err-part-clause-brief : goal.returns-in_err-part-clause-brief
returns-in_err-part-clause-brief g c = filled g (goal.at.returns-in_err-part-clause-brief g c).After-fill c.in-Ok-true.ensures.brief

pub returns-clause-brief : goal.returns-clause-brief
returns-clause-brief g c = c.parts.invariant.brief

pub returns-in-Ok-false-clause-asked : goal.returns-in-Ok-false-clause-asked
returns-in-Ok-false-clause-asked g c = asked g (goal.at.returns-in-Ok-false-clause-asked g c).After-fill c.in-Ok-false.ensures.asked

pub returns-in-Err-clause-asked : goal.returns-in-Err-clause-asked
returns-in-Err-clause-asked g c = asked g (goal.at.returns-in-Err-clause-asked g c).After-fill c.in-Err.ensures.asked

pub returns-in_err-part-clause-asked : goal.returns-in_err-part-clause-asked
returns-in_err-part-clause-asked g c = asked g (goal.at.returns-in_err-part-clause-asked g c).After-fill c.in-Ok-true.ensures.asked

pub returns-clause-asked : goal.returns-clause-asked
returns-clause-asked g c = c.parts.invariant.asked
