use Rattle.std.proofs.Common.{◌≡◌, take}
use Rattle.wu_query.specs.States.{State}
use Rattle.wu_query.specs.Searched.{TellsPostings}
use Rattle.wu_query.specs.TermLines.{words_found}
use Rattle.wu_query.proofs.FetchedLists.{AskedInTurn}
use Rattle.wu_query.proofs.terms.words_found.Given as goal

-- those of the words so far that a frame has were found, and all of them were asked for in turn
abbrev pub invariant-loop-word : goal.invariant-loop-word
invariant-loop-word g l = record {
  found : (s : State) → TellsPostings l.fn.parts (g.D.Store.holds l.fn.store) s
      → l.found.items ≡ words_found l.frames.ranges s (take l.word-index l.words);
  asked : AskedInTurn g.D.Store l.frames.ranges (take l.word-index l.words) l.fn.parts l.parts l.fn.store l.store;
}
