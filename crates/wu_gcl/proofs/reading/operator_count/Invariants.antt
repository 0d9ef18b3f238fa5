use Rattle.std.proofs.Common.{◌≡◌, ◌+◌, ◌≤◌, map, drop}
use Rattle.wu_gcl.specs.Grammar.{operator_count}
use Rattle.wu_gcl.specs.Views.{token_of}
use Rattle.wu_gcl.proofs.reading.operator_count.Given as goal

abbrev pub invariant-loop-token : goal.invariant-loop-token
invariant-loop-token l = record {
  within : l.count ≤ l.token-index;
  total : l.count + operator_count (map token_of (drop l.token-index l.tokens)) ≡ operator_count (map token_of l.tokens);
}
