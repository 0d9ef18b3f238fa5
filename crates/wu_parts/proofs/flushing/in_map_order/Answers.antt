use Rattle.wu_parts.proofs.SortedTerms.{distinct_terms}
use Rattle.wu_parts.proofs.flushing.in_map_order.Goals as goal

pub returns-clause-distinct : goal.returns-clause-distinct
returns-clause-distinct c = distinct_terms c.args.chains.now.entries c.iter-term-items.ensures.unique
