use Rattle.std.proofs.Common.{rules}
use Rattle.std.proofs.lemmas.Fn.{always_returns_same}
use Rattle.wu_parts.specs.LeadingBytes.{Numbered}
use Rattle.wu_parts.proofs.LeadingLemmas.{behind_permuted, behind_sorted}
use Rattle.wu_parts.proofs.flushing.by_term.Goals as goal

pub returns-clause-entries : goal.returns-clause-entries
returns-clause-entries c =
    behind_permuted c.in_ok-entries.entries.items c.sort_unstable_by_key.new.self.items c.args.chains.now.entries
    c.in_ok-entries.ensures.entries c.sort_unstable_by_key.ensures.permutation

pub returns-clause-ascending : goal.returns-clause-ascending
returns-clause-ascending c =
    behind_sorted c.in_ok-entries.entries.items c.sort_unstable_by_key.new.self.items c.args.chains.now.entries
    c.in_ok-entries.ensures.entries c.sort_unstable_by_key.ensures.permutation c.in_ok-entries.ensures.numbers
    c.in_ok-entries.ensures.distinct
    (c.sort_unstable_by_key.ensures.sorted (λ (e : Numbered). (e.0, e.1.0))
    (always_returns_same _ _ _ (λ a r q k. search rules)))
