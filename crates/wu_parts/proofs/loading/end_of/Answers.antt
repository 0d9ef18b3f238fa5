use Rattle.std.proofs.Common.{sym, arith}
use Rattle.wu_parts.proofs.LoadedParts.{end_of_last}
use Rattle.wu_parts.proofs.loading.end_of.Goals as goal

pub overflow_add-result : goal.overflow_add-result
overflow_add-result c =
    omega (arith, end_of_last c.args.records.now c.in-Some.last.now c.in-Some.ensures.value, c.requires)

pub returns-in-Some : goal.returns-in-Some
returns-in-Some c = sym (end_of_last c.args.records.now c.in-Some.last.now c.in-Some.ensures.value)
