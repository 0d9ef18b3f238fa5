use Rattle.std.proofs.Common.{◌-◌, refl, arith}
use Rattle.std.proofs.lemmas.Bool.{false≢true}
use Rattle.wu_base.specs.declared.addresses.Range.{Range}
use Rattle.wu_solve.proofs.FramePlaces.{apart_at, apart_from_neighbours}
use Rattle.wu_region_rows.proofs.corpus.are_apart.Goals as goal

pub returns-then-frames-i : goal.returns-then-frames-i
returns-then-frames-i c = (
  λ is. absurd (false≢true is),
  λ apart.
      let d : Range = record { start = 0; len = 0 } in
      let i = c.loop-i.i in
      let far = apart_at c.args.frames.now apart (i - 1) i d (omega arith) (omega arith) in
      absurd (omega (arith, far, c.if-frames-i.true)),
)

pub returns : goal.returns
returns c = (
  λ is. apart_from_neighbours c.args.frames.now
      (λ k d within. c.loop-i.invariant k d (omega (arith, c.loop-i-test.false, within))),
  λ apart. refl,
)
