use Rattle.std.proofs.Common.{◌≡◌, ℕ, ◌^◌, ◌<◌, List, length, Result, Ok, Err, IfOk, Vec, Global, sym, subst}
use Rattle.wu_base.specs.declared.memory.NoMemory.{NoMemory}
use Rattle.wu_demo.specs.Script.{demo_script}
use Rattle.wu_demo.proofs.LengthLemmas.{script-short}
use Rattle.wu_demo.proofs.script.make_script.Goals as goal

is_short : (number : ℕ) (made : Result (Vec ℕ Global) NoMemory) → IfOk made (λ script. script.items ≡ demo_script number)
    → IfOk made (λ script. length script.items < 2 ^ 22)
is_short number (Ok script) is = subst (λ (bytes : List ℕ). length bytes < 2 ^ 22) (sym is) (script-short number)
is_short number (Err error) is = tt

pub returns-clause-short : goal.returns-clause-short
returns-clause-short c = is_short c.args.number c.write_script.result c.write_script.ensures
