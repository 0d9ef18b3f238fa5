use Rattle.std.proofs.Common.{◌∙◌}
use Rattle.std.proofs.lemmas.Map.Lookups.{exact_bytes}
use Rattle.wu_terms.proofs.Collected.{in_order_now}
use Rattle.wu_terms.proofs.candidates.Candidates.settle.Goals as goal

pub sorted_once-requires : goal.sorted_once-requires
sorted_once-requires c = record { exact = exact_bytes }

pub returns-then-len-self : goal.returns-then-len-self
returns-then-len-self c =
    let is = rw c.replace-words.ensures.value at c.sorted_once.ensures.items in
    in_order_now c.self.inside.prefix c.self.inside.words.items c.sorted_once.result.items is ∙ c.self.view_is
