use Rattle.std.proofs.Common.{◌≡◌, ◌*◌, ◌%◌, ◌^◌, ◌<◌, ℕ, refl, sym, arith}
use Rattle.wu_log2.proofs.Digits.{IsPlace, lg-at, lg-lt, lg-below, lg-within, first_mantissa, square-lt, digits_so_far, all_digits}
use Rattle.wu_log2.proofs.Digits.{turn_one, turn_zero}
use Rattle.wu_log2.proofs.lg.Goals as goal
use Rattle.wu_log2.proofs.lg.Goals.{then-square, else-square}

pub fraction-init : goal.fraction-init
fraction-init c =
    let place : ℕ = c.ilog2-place.result in
    let p : IsPlace c.args.n place = record { reached = omega arith; last = omega arith } in
    let e : c.from.result * 2 ^ 31 % 2 ^ 128 ≡ c.args.n * 2 ^ 31 = omega arith in
    rw e (record { so_far = sym (lg-at c.args.n place (omega arith) p); ranged = first_mantissa c.args.n place p })

pub overflow_mul-square : goal.overflow_mul-square
overflow_mul-square c = omega (arith, square-lt c.fraction.mantissa c.fraction.invariant.ranged)

pub overflow_mul-digits : goal.overflow_mul-digits
overflow_mul-digits c = omega (arith, digits_so_far _ _ _ c.args.n (omega arith) c.fraction.invariant c.requires (omega arith))

pub overflow_add-digits : goal.overflow_add-digits
overflow_add-digits c = omega (arith, digits_so_far _ _ _ c.args.n (omega arith) c.fraction.invariant c.requires (omega arith))

pub overflow_mul-digits-else-square : goal.overflow_mul-digits-else-square
overflow_mul-digits-else-square c =
    omega (arith, digits_so_far _ _ _ c.args.n (omega arith) c.fraction.invariant c.requires (omega arith))

pub fraction-preserved : goal.fraction-preserved
fraction-preserved c =
    elim c.if-square.branch [
      | then-square w ↦ turn_one _ _ _ _ _ _ (omega arith) c.fraction.invariant (omega arith) w.digits-is w.mantissa-is
      | else-square w ↦ turn_zero _ _ _ _ _ _ (omega arith) c.fraction.invariant (omega arith) (omega arith) w.mantissa-is
    ]

pub returns : goal.returns
returns c =
    let fits : c.args.n < 2 ^ 64 = omega arith in
    rw (all_digits _ _ _ c.args.n (omega arith) c.fraction.invariant)
    (record {
      value = refl;
      small = lg-lt c.args.n c.requires fits;
      at_least = lg-below c.args.n c.requires fits;
      within = lg-within c.args.n c.requires fits;
    })
