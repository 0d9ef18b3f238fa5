use Rattle.std.proofs.Common.{◌≡◌, ℕ, List, length, take, ap, ◌∙◌, rules}
use Rattle.std.proofs.lemmas.List.{take_at}
use Rattle.wu_lists.proofs.frames.put_within.Goals as goal

pub returns-in-Err-clause-err : goal.returns-in-Err-clause-err
returns-in-Err-clause-err c =
    let found : List ℕ = c.args.found.now.items in
    let front = c.in-Err.ensures.front in
    let long : length found ≡ c.len-before.result = search rules in
    c.truncate.ensures.items ∙ ap (take c.len-before.result) front.1 ∙ take_at found front.0 c.len-before.result long
