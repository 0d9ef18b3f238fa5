use Rattle.std.proofs.Common.{◌≡◌, map, take}
use Rattle.wu_query.specs.Near.{cut_to}
use Rattle.wu_query.specs.States.{State}
use Rattle.wu_query.specs.Searched.{TellsPostings}
use Rattle.wu_query.specs.Units.{found_in, list_at}
use Rattle.wu_query.proofs.FetchedLists.{AskedInTurn}
use Rattle.wu_query.proofs.near.gathered_of.Given as goal

-- the terms so far have their addresses, and were asked for in turn
abbrev pub invariant-loop-term : goal.invariant-loop-term
invariant-loop-term g l = record {
  lists : (s : State) → TellsPostings l.fn.parts (g.D.Store.holds l.fn.store) s
      → map (cut_to l.frames.ranges) l.gathered.items ≡ map (list_at (found_in l.frames.ranges s)) (take l.term-index l.terms);
  named : map (λ one. one.term) l.gathered.items ≡ take l.term-index l.terms;
  asked : AskedInTurn g.D.Store l.frames.ranges (take l.term-index l.terms) l.fn.parts l.parts l.fn.store l.store;
}
