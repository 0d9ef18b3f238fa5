use Rattle.std.proofs.Common.{drop}
use Rattle.wu_snip.proofs.SnippetLemmas.{Walked}
use Rattle.wu_snip.proofs.snips.snippets.Given as goal

abbrev pub invariant-loop-extent : goal.invariant-loop-extent
invariant-loop-extent l = Walked l.text l.extents (drop l.extent-index l.extents) l.snips.items l.line l.lines
