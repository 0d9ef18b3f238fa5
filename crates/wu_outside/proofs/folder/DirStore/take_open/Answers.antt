use Rattle.std.proofs.Common.{rules, arith, ◌≡◌, ◌==◌, Some, position}
use Rattle.std.proofs.lemmas.Grind.{common_steps}
use Rattle.std.proofs.lemmas.List.Quantifiers.{position-Some}
use Rattle.wu_outside.proofs.folder.DirStore.take_open.Goals as goal

pub returns-in-Some-clause-blob : goal.returns-in-Some-clause-blob
returns-in-Some-clause-blob g c =
    let kept = c.as_slice.result.now in
    let place = c.in-Some.place in
    let found : position (λ one. one.blob == c.args.blob) kept ≡ Some place = search rules in
    let its = (position-Some (λ one. one.blob == c.args.blob) kept place c.remove.result found).1 in
    grind (arith, common_steps)
