use Rattle.std.proofs.Common.{◌≡◌, sym, subst, All, rules}
use Rattle.wu_token.specs.Words.{IsTerm, words_of}
use Rattle.wu_token.proofs.PlacesLemmas.{words-runs_at}
use Rattle.wu_token.proofs.LengthLemmas.{IsTerm-words_of}
use Rattle.wu_token.proofs.terms.words.Goals as goal

pub loop-run-init : goal.loop-run-init
loop-run-init c =
    rw (c.new-words.ensures.items, c.into_iter-run-iterator.ensures.into_iter_gives, c.runs-run-items.ensures.runs) (words-runs_at _)

pub returns-clause-lengths : goal.returns-clause-lengths
returns-clause-lengths c =
    let all : c.loop-run.words.items ≡ words_of c.args.bytes.now = search rules in
    subst (All IsTerm) (sym all) (IsTerm-words_of c.args.bytes.now)
