use Rattle.wu_log2.specs.Logarithm.{lg}
use Rattle.wu_log2.proofs.Digits.{Turned}
use Rattle.wu_log2.proofs.lg.Given as goal

abbrev pub invariant-fraction : goal.invariant-fraction
invariant-fraction l = Turned l.counter l.digits l.mantissa (lg l.fn.n)
