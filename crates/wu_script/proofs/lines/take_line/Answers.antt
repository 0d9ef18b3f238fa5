use Rattle.std.proofs.Common.{◌++◌, ◌≤◌, max, refl, ◌∙◌, arith}
use Rattle.wu_script.specs.Holding.{GivesAtMost, asked_at_once}
use Rattle.wu_script.specs.Taking.{IsOneLine}
use Rattle.wu_script.specs.declared.ends.ReadEnd.TheVariants.{NoMemory}
use Rattle.wu_script.proofs.EarlyEndLemmas.{UsesShort, EndsEarly-filling, EndsEarly-filled, IsCounted-after, cause_of}
use Rattle.wu_script.proofs.ReadLemmas.{GivesAtMost-then, asked_then}
use Rattle.wu_script.proofs.UnclosedLemmas.{one_line-take}
use Rattle.wu_script.proofs.LineLemmas.{one_line, piece_taken, piece_follows, piece_ends, piece_open, feed_held, no_feed_held}
use Rattle.wu_script.proofs.lines.take_line.Given as given
use Rattle.wu_script.proofs.lines.take_line.Goals as goal
use Rattle.wu_script.proofs.lines.take_line.Goals.{After-fill}

pub returns-in_err-piece-clause-still : goal.returns-in_err-piece-clause-still
returns-in_err-piece-clause-still g c = λ feed.
    let still = c.pieces.invariant.still feed in
    (c.in-Ok-true.ensures.still (feed_held c.pieces.input c.args.input.now still.0 feed)).2 ∙ still.1

pub returns-then-piece-clause-taken : goal.returns-then-piece-clause-taken
returns-then-piece-clause-taken g c =
    let text = c.pieces.invariant.so_far.0 in
    let piece = c.in_ok-piece.ensures.taken.0 in
    let taken = c.in_ok-piece.ensures.taken.1 in
    let uses = piece_taken (g.I.Source.left c.args.source.now) (g.I.Source.left c.pieces.source)
    (g.I.Source.left c.fill.new.source) c.args.input.now c.pieces.input c.fill.new.self c.take_piece.new.input text piece c.in_ok-piece.piece.closed
    c.pieces.invariant.so_far.1 c.in-Ok-true.ensures.given taken in (
      text ++ piece,
      record {
        uses = uses;
        one = one_line text piece c.pieces.invariant.so_far.2 taken.one;
        last = piece_ends
            (g.I.Source.ended c.fill.new.source)
            (g.I.Source.last_read c.fill.new.source) c.fill.new.self c.take_piece.new.input c.in_ok-piece.piece.closed piece c.in-Ok-true.ensures.follows taken c.if-piece.true;
      },
      c.in_ok-piece.ensures.taken.2 text c.pieces.invariant.so_far.3,
    )

pub returns-then-piece-clause-still : goal.returns-then-piece-clause-still
returns-then-piece-clause-still g c = λ feed.
    let still = c.pieces.invariant.still feed in
    (c.in-Ok-true.ensures.still (feed_held c.pieces.input c.args.input.now still.0 feed)).2 ∙ still.1

-- a filling after the pieces so far asks for no more
filled : (g : given.Over) (c : After-fill g)
    → GivesAtMost (asked_at_once c.pieces.input.spare) (g.I.Source.left c.pieces.source) (g.I.Source.left c.fill.new.source)
    (g.I.Source.last_read c.pieces.source) (g.I.Source.last_read c.fill.new.source)
    → GivesAtMost (asked_at_once c.args.input.now.spare) (g.I.Source.left c.args.source.now) (g.I.Source.left c.fill.new.source)
    (g.I.Source.last_read c.args.source.now) (g.I.Source.last_read c.fill.new.source)
filled g c few =
    let left = g.I.Source.left in
    let last_read = g.I.Source.last_read in
    GivesAtMost-then c.args.input.now.spare c.pieces.input.spare (left c.args.source.now) (left c.pieces.source) (left c.fill.new.source)
    (last_read c.args.source.now) (last_read c.pieces.source) (last_read c.fill.new.source)
    (omega (arith, c.pieces.invariant.so_far.1.counted)) c.pieces.invariant.brief few

asked : (g : given.Over) (c : After-fill g)
    → g.I.Source.most_asked c.fill.new.source ≤ max (g.I.Source.most_asked c.pieces.source) (asked_at_once c.pieces.input.spare)
    → g.I.Source.most_asked c.fill.new.source ≤ max (g.I.Source.most_asked c.args.source.now) (asked_at_once c.args.input.now.spare)
asked g c = asked_then c.args.input.now.spare c.pieces.input.spare (g.I.Source.most_asked c.args.source.now)
    (g.I.Source.most_asked c.pieces.source) (g.I.Source.most_asked c.fill.new.source)
    (omega (arith, c.pieces.invariant.so_far.1.counted)) c.pieces.invariant.asked

pub pieces-preserved : goal.pieces-preserved
pieces-preserved g c =
    let text = c.pieces.invariant.so_far.0 in
    let piece = c.in_ok-piece.ensures.taken.0 in
    let taken = c.in_ok-piece.ensures.taken.1 in
    let uses = piece_taken (g.I.Source.left c.args.source.now) (g.I.Source.left c.pieces.source)
    (g.I.Source.left c.fill.new.source) c.args.input.now c.pieces.input c.fill.new.self c.take_piece.new.input text piece c.in_ok-piece.piece.closed
    c.pieces.invariant.so_far.1 c.in-Ok-true.ensures.given taken in
    record {
      so_far = (
        text
            ++ piece,
        piece_open (g.I.Source.left c.args.source.now)
            (g.I.Source.left c.fill.new.source) c.args.input.now c.take_piece.new.input
            (text
            ++ piece) c.in_ok-piece.piece.closed c.if-piece.false uses,
        one_line text piece c.pieces.invariant.so_far.2 taken.one,
        c.in_ok-piece.ensures.taken.2 text c.pieces.invariant.so_far.3,
      );
      follows = piece_follows (g.I.Source.ended c.fill.new.source)
          (g.I.Source.last_read c.fill.new.source) c.fill.new.self c.take_piece.new.input c.in_ok-piece.piece.closed piece c.in-Ok-true.ensures.follows taken;
      brief = filled g (goal.at.pieces-preserved g c).After-fill c.in-Ok-true.ensures.brief;
      asked = asked g (goal.at.pieces-preserved g c).After-fill c.in-Ok-true.ensures.asked;
      steady = c.in-Ok-true.ensures.cause ∙ c.pieces.invariant.steady;
      still = λ feed.
          let still = c.pieces.invariant.still feed in
          let filled = c.in-Ok-true.ensures.still (feed_held c.pieces.input c.args.input.now still.0 feed) in
          absurd (no_feed_held c.fill.new.self c.pieces.input c.args.input.now c.take_piece.new.input c.in_ok-piece.piece.closed piece filled.1 still.0 taken c.if-piece.false feed);
    }

pub returns-in-Err-clause-still : goal.returns-in-Err-clause-still
returns-in-Err-clause-still g c = λ feed.
    let still = c.pieces.invariant.still feed in
    (c.in-Err.ensures.still (feed_held c.pieces.input c.args.input.now still.0 feed)).2 ∙ still.1

-- the pieces so far are one line
short : (g : given.Over) (c : After-fill g) → UsesShort IsOneLine (g.I.Source.left c.args.source.now)
    (g.I.Source.left c.pieces.source) c.args.input.now c.pieces.input c.pieces.invariant.so_far.0
short g c = record {
  uses = c.pieces.invariant.so_far.1;
  front = λ n. one_line-take n c.pieces.invariant.so_far.0 c.pieces.invariant.so_far.2;
}

pub returns-in-Err-clause-early : goal.returns-in-Err-clause-early
returns-in-Err-clause-early g c =
    let left = g.I.Source.left in
    EndsEarly-filling IsOneLine (left c.args.source.now) (left c.pieces.source) (left c.fill.new.source)
    (g.I.Source.last_read c.fill.new.source) c.args.input.now c.pieces.input c.in-Err.end c.pieces.invariant.so_far.0
    (short g (goal.at.returns-in-Err-clause-early g c).After-fill) c.in-Err.ensures.early

pub returns-in_err-piece-clause-early : goal.returns-in_err-piece-clause-early
returns-in_err-piece-clause-early g c =
    let left = g.I.Source.left in
    EndsEarly-filled IsOneLine (left c.args.source.now) (left c.pieces.source) (left c.fill.new.source)
    (g.I.Source.last_read c.fill.new.source) c.args.input.now c.pieces.input c.fill.new.self c.pieces.invariant.so_far.0
    (short g (goal.at.returns-in_err-piece-clause-early g c).After-fill) c.in-Ok-true.ensures.given c.in-Ok-true.ensures.follows.recent
    c.from_residual.result c.from_residual.ensures.1

pub returns-in-Ok-false-clause-cause : goal.returns-in-Ok-false-clause-cause
returns-in-Ok-false-clause-cause g c = c.in-Ok-false.ensures.cause ∙ c.pieces.invariant.steady

pub returns-in-Err-clause-cause : goal.returns-in-Err-clause-cause
returns-in-Err-clause-cause g c =
    let faults = g.I.Source.faults in
    IsCounted-after c.in-Err.end (faults c.args.source.now) (faults c.pieces.source)
    (faults c.fill.new.source) c.pieces.invariant.steady c.in-Err.ensures.cause

pub returns-in_err-piece-clause-cause : goal.returns-in_err-piece-clause-cause
returns-in_err-piece-clause-cause g c =
    let faults = g.I.Source.faults in
    cause_of NoMemory (faults c.args.source.now) (faults c.fill.new.source)
    (faults c.fill.new.source) c.from_residual.result c.from_residual.ensures.1
    (c.in-Ok-true.ensures.cause ∙ c.pieces.invariant.steady) refl

pub returns-then-piece-clause-cause : goal.returns-then-piece-clause-cause
returns-then-piece-clause-cause g c = c.in-Ok-true.ensures.cause ∙ c.pieces.invariant.steady

pub returns-then-piece-clause-follows : goal.returns-then-piece-clause-follows
returns-then-piece-clause-follows g c =
    piece_follows (g.I.Source.ended c.fill.new.source)
    (g.I.Source.last_read c.fill.new.source) c.fill.new.self c.take_piece.new.input c.in_ok-piece.piece.closed c.in_ok-piece.ensures.taken.0
    c.in-Ok-true.ensures.follows c.in_ok-piece.ensures.taken.1

pub returns-in-Ok-false-clause-brief : goal.returns-in-Ok-false-clause-brief
returns-in-Ok-false-clause-brief g c = filled g (goal.at.returns-in-Ok-false-clause-brief g c).After-fill c.in-Ok-false.ensures.brief

pub returns-in-Err-clause-brief : goal.returns-in-Err-clause-brief
returns-in-Err-clause-brief g c = filled g (goal.at.returns-in-Err-clause-brief g c).After-fill c.in-Err.ensures.brief

pub returns-in_err-piece-clause-brief : goal.returns-in_err-piece-clause-brief
returns-in_err-piece-clause-brief g c = filled g (goal.at.returns-in_err-piece-clause-brief g c).After-fill c.in-Ok-true.ensures.brief

pub returns-then-piece-clause-brief : goal.returns-then-piece-clause-brief
returns-then-piece-clause-brief g c = filled g (goal.at.returns-then-piece-clause-brief g c).After-fill c.in-Ok-true.ensures.brief

pub returns-then-piece-clause-few : goal.returns-then-piece-clause-few
returns-then-piece-clause-few g c = c.in_ok-piece.ensures.few c.if-piece.true

pub returns-in-Ok-false-clause-asked : goal.returns-in-Ok-false-clause-asked
returns-in-Ok-false-clause-asked g c = asked g (goal.at.returns-in-Ok-false-clause-asked g c).After-fill c.in-Ok-false.ensures.asked

pub returns-in-Err-clause-asked : goal.returns-in-Err-clause-asked
returns-in-Err-clause-asked g c = asked g (goal.at.returns-in-Err-clause-asked g c).After-fill c.in-Err.ensures.asked

pub returns-in_err-piece-clause-asked : goal.returns-in_err-piece-clause-asked
returns-in_err-piece-clause-asked g c = asked g (goal.at.returns-in_err-piece-clause-asked g c).After-fill c.in-Ok-true.ensures.asked

pub returns-then-piece-clause-asked : goal.returns-then-piece-clause-asked
returns-then-piece-clause-asked g c = asked g (goal.at.returns-then-piece-clause-asked g c).After-fill c.in-Ok-true.ensures.asked
