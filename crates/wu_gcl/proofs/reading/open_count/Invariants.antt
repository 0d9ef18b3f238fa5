use Rattle.std.proofs.Common.{◌≡◌, ◌+◌, ◌≤◌, map, drop}
use Rattle.wu_gcl.specs.Grammar.{open_count}
use Rattle.wu_gcl.specs.Views.{token_of}
use Rattle.wu_gcl.proofs.reading.open_count.Given as goal

abbrev pub invariant-loop-token : goal.invariant-loop-token
invariant-loop-token l = record {
  within : l.count ≤ l.token-index;
  total : l.count + open_count (map token_of (drop l.token-index l.tokens)) ≡ open_count (map token_of l.tokens);
}
