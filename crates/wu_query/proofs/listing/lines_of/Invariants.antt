use Rattle.std.proofs.Common.{◌≡◌, map, take}
use Rattle.wu_query.specs.Answer.{line_of}
use Rattle.wu_query.specs.States.{Texts}
use Rattle.wu_query.specs.Units.{in_its_file}
use Rattle.wu_query.specs.View.{shown_of}
use Rattle.wu_query.proofs.listing.lines_of.Given as goal

-- the units so far have their lines
abbrev pub invariant-loop-i : goal.invariant-loop-i
invariant-loop-i l = (texts : Texts)
    → l.lines.items ≡ map (λ ranked. line_of (map (shown_of texts) l.view) (in_its_file l.space.ranges l.view ranked)) (take l.i l.top)
