use Rattle.std.proofs.Common.{◌≡◌, ◌+◌, ◌≤◌, ◌++◌, max, ℕ, false, true, List, length}
use Rattle.wu_script.specs.Holding.{Uses, Follows, GivesAtMost, asked_at_once}
use Rattle.wu_script.proofs.bodies.take_bytes.Given as goal

-- so many bytes were used, and kept where they are to be, and otherwise none; where all of them were held at first, the source wasn't asked
abbrev pub invariant-parts : goal.invariant-parts
invariant-parts g l = record {
  so_far : (bytes : List ℕ) × Uses (g.I.Source.left l.fn.source) (g.I.Source.left l.source) l.fn.input l.input bytes
      × (length bytes + l.missing ≡ l.count) × (l.kept ≡ true → l.body.items ≡ l.fn.body.items ++ bytes);
  follows : Follows (g.I.Source.ended l.source) (g.I.Source.last_read l.source) l.input;
  brief : GivesAtMost (asked_at_once l.fn.input.spare) (g.I.Source.left l.fn.source) (g.I.Source.left l.source)
      (g.I.Source.last_read l.fn.source) (g.I.Source.last_read l.source);
  asked : g.I.Source.most_asked l.source ≤ max (g.I.Source.most_asked l.fn.source) (asked_at_once l.fn.input.spare);
  unkept : l.kept ≡ false → l.body ≡ l.fn.body;
  steady : g.I.Source.faults l.source ≡ g.I.Source.faults l.fn.source;
  still : l.count ≤ length l.fn.input.bytes → (l.source ≡ l.fn.source) × (l.missing ≤ length l.input.bytes);
}

abbrev pub decreases-parts : goal.decreases-parts
decreases-parts g l = l.missing
