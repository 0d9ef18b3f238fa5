use Rattle.std.proofs.Common.{◌≡◌, ◌++◌, ◌∷◌, [], map, take}
use Rattle.wu_query.specs.Answer.{found_line}
use Rattle.wu_query.proofs.finding.put_snippets.Given as goal

-- the extents so far were put
abbrev pub invariant-loop-i : goal.invariant-loop-i
invariant-loop-i l = l.shown.items ≡ l.fn.shown.items ++ map (found_line (record { paths = l.path ∷ []; text = l.text })) (take l.i l.extents)
