use Rattle.std.proofs.Common.{◌≡◌, ◌∙◌, ℕ, ◌+◌, ◌<◌, ◌≤◌, Bool, true, false, cond, length, get_or, refl, ap, arith, nat_lt}
use mir.Val.{bool_byte}
use Rattle.std.proofs.lemmas.List.Sums.{sum_by_more}
use Rattle.wu_base.specs.declared.addresses.Range.{Range}
use Rattle.wu_solve.specs.FirstExtents.{from_start}
use Rattle.wu_solve.proofs.FrameCounts.{has_hits, passed_frame, fewer_behind, counted_left, no_more_left}
use Rattle.wu_solve.proofs.counting.frames_of.Goals as goal

byte_of : (b : Bool) → bool_byte b ≡ cond b 1 0
byte_of true = refl
byte_of false = refl

pub loop-frame-preserved : goal.loop-frame-preserved
loop-frame-preserved c =
    let e : Range = record { start = 0; len = 0 } in
    let i = c.loop-frame.frame-index in
    let frames = c.args.frames.now in
    let f = get_or frames i e in
    let rest = c.loop-frame.rest.now in
    let behind = c.starting_from-behind.result.now in
    let within : i < length frames = c.loop-frame-test.true in
    let apart = c.requires.apart in
    let inv = c.loop-frame.invariant in
    let is : behind ≡ from_start (f.start + f.len) rest =
    c.starting_from-behind.ensures ∙ ap (λ (n : ℕ). from_start n rest) c.end_of.ensures in
    let counted : c.from-files.result ≡ cond (nat_lt (length behind) (length rest)) 1 0 =
    c.from-files.ensures ∙ byte_of (nat_lt (length behind) (length rest)) in
    let less = no_more_left (λ y. nat_lt y.start (f.start + f.len)) rest in
    let long = ap length is in
    let fewer : length behind ≤ length rest = omega (arith, less, long) in
    let left = counted_left (length behind) (length rest) fewer in record {
      few = omega (arith, inv.few, counted, left);
      left = λ region lists all. is ∙ passed_frame region lists frames i e apart within rest (inv.left region lists all);
      files = λ region lists all.
          let one : c.from-files.result ≡ cond (has_hits region lists f) 1 0 =
          counted ∙ ap (λ (b : Bool). cond b 1 0)
          (fewer_behind region lists frames i e apart within rest (inv.left region lists all) behind is) in
          let more = sum_by_more (λ g. cond (has_hits region lists g) 1 0) frames i e within in
          omega (arith, inv.files region lists all, one, more);
    }
