use Rattle.std.proofs.Common.{◌≡◌, ◌+◌, ◌-◌, ◌≤◌, ◌<◌, length, get_or, arith}
use Rattle.std.proofs.lemmas.Grind.{common_steps}
use Rattle.wu_solve.proofs.Carrying.{carried}
use Rattle.wu_solve.proofs.overlaps.known_words.Goals as goal

pub returns-in-Some-clause-stand : goal.returns-in-Some-clause-stand
returns-in-Some-clause-stand c = λ stands words again front.
    let shift = c.args.place - c.args.stretch.start in
    let within : shift < length c.args.overlaps.now = grind (arith, common_steps) in
    let told : c.in-Some.overlap.now ≡ get_or c.args.overlaps.now shift 0 = grind (arith, common_steps) in
    let few : c.min.result ≤ get_or c.args.overlaps.now shift 0 = omega (arith, told) in
    let inside : shift + c.min.result ≤ c.args.stretch.count = omega arith in
    let there : c.args.place ≡ c.args.stretch.start + shift = omega arith in
    carried stands words c.args.stretch.start c.args.stretch.count shift
    (get_or c.args.overlaps.now shift 0) c.min.result c.args.place front (again shift within) few inside there
