use Rattle.std.proofs.Common.{◌≡◌, map, take}
use Rattle.std.specs.Prelude.{All}
use Rattle.std.specs.List.Sorted.{IsStrictlyIncreasing}
use Rattle.wu_query.specs.States.{State}
use Rattle.wu_query.specs.Searched.{TellsPostings}
use Rattle.wu_query.specs.Units.{found_in, list_at, terms_among}
use Rattle.wu_query.proofs.FetchedLists.{AskedInTurn}
use Rattle.wu_query.proofs.fetching.lists_of_words.Given as goal

-- those of the terms so far that are words have their lists, and all of them were asked for in turn
abbrev pub invariant-loop-term : goal.invariant-loop-term
invariant-loop-term g l = record {
  lists : (s : State) → TellsPostings l.fn.parts (g.D.Store.holds l.fn.store) s
      → l.lists.items ≡ map (list_at (found_in l.frames.ranges s)) (terms_among l.words (take l.term-index l.terms));
  ascending : All (λ list. IsStrictlyIncreasing list.at) l.lists.items;
  asked : AskedInTurn g.D.Store l.frames.ranges (take l.term-index l.terms) l.fn.parts l.parts l.fn.store l.store;
}
