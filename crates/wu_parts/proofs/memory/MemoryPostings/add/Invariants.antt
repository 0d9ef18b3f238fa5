use Rattle.std.proofs.Common.{◌≡◌, take, map}
use Rattle.wu_parts.specs.Lists.{with_terms}
use Rattle.wu_parts.proofs.memory.MemoryPostings.add.Given as goal

abbrev pub invariant-loop-token : goal.invariant-loop-token
invariant-loop-token l =
    l.self ≡ with_terms (record l.fn.self { end = l.start }) l.start (map (λ token. token.term) (take l.token-index l.tokens))
