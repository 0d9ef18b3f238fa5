use Rattle.std.proofs.Common.{◌+◌, ◌<◌, ◌∙◌, ◌∷◌, ℕ, List, drop, length, ap, sym, rules}
use Rattle.std.proofs.lemmas.List.{drop_more}
use Rattle.wu_query.specs.Asked.{with_words}
use Rattle.wu_query.proofs.ranking.with_words.Goals as goal

pub loop-word-preserved : goal.loop-word-preserved
loop-word-preserved c =
    let words = c.args.words.now in
    let i = c.loop-word.word-index in
    let within : i < length words = search rules in
    ap (λ (ts : List (List ℕ)). with_words ts (drop (i + 1) words)) c.in_ok-put_word.ensures
    ∙ sym (ap (with_words c.loop-word.asked.items) (drop_more words i c.word-item.result within
    ∙ ap (λ (t : List ℕ). t ∷ drop (i + 1) words) (sym c.word-item.is)))
    ∙ c.loop-word.invariant
