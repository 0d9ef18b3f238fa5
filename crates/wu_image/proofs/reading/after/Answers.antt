use Rattle.wu_image.proofs.MarkLemmas.{found_behind, none_behind}
use Rattle.wu_image.proofs.reading.after.Goals as goal

pub returns-clause-found : goal.returns-clause-found
returns-clause-found c = found_behind (λ x. x.now) c.args.bytes.now c.args.mark.now c.strip_prefix.result c.strip_prefix.ensures.cases

pub returns-clause-none : goal.returns-clause-none
returns-clause-none c = none_behind (λ x. x.now) c.args.bytes.now c.args.mark.now c.strip_prefix.result c.strip_prefix.ensures.cases
