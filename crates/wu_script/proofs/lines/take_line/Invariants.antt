use Rattle.std.proofs.Common.{◌≡◌, ◌+◌, ◌≤◌, ◌==◌, max, ℕ, true, List, length}
use Rattle.std.specs.List.{list_any}
use Rattle.wu_script.specs.Holding.{Uses, Follows, GivesAtMost, asked_at_once}
use Rattle.wu_script.specs.Taking.{Kept, IsOneLine}
use Rattle.wu_script.proofs.lines.take_line.Given as goal

-- the pieces so far make the first bytes of a line, all used; where an LF was held at first, nothing was used yet
abbrev pub invariant-pieces : goal.invariant-pieces
invariant-pieces g l = record {
  so_far : (text : List ℕ) × Uses (g.I.Source.left l.fn.source) (g.I.Source.left l.source) l.fn.input l.input text × IsOneLine text
      × Kept l.limit text l.whole l.line.items;
  follows : Follows (g.I.Source.ended l.source) (g.I.Source.last_read l.source) l.input;
  brief : GivesAtMost (asked_at_once l.fn.input.spare) (g.I.Source.left l.fn.source) (g.I.Source.left l.source)
      (g.I.Source.last_read l.fn.source) (g.I.Source.last_read l.source);
  asked : g.I.Source.most_asked l.source ≤ max (g.I.Source.most_asked l.fn.source) (asked_at_once l.fn.input.spare);
  steady : g.I.Source.faults l.source ≡ g.I.Source.faults l.fn.source;
  still : list_any (λ byte. byte == 10) l.fn.input.bytes ≡ true → (l.input ≡ l.fn.input) × (l.source ≡ l.fn.source);
}

abbrev pub decreases-pieces : goal.decreases-pieces
decreases-pieces g l = l.input.spare + length l.input.bytes
