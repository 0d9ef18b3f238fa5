use Rattle.std.proofs.Common.{◌≡◌, ◌+◌, length, ◌∷◌, ◌++◌, [], ◌∙◌, refl, sym, subst, ap, ap₂, map, All, append-nil, append_assoc}
use Rattle.std.proofs.lemmas.List.Elements.{All-tail}
use Rattle.wu_token.specs.Tokens.{line_start, line_end}
use Rattle.wu_token.specs.Places.{runs_at, tag_at, word_at, line_tokens_at}
use Rattle.wu_token.specs.Pieces.{piece_of, end_of, EndsBy}
use Rattle.wu_token.proofs.terms.push_line.Goals as goal

pub loop-run-init : goal.loop-run-init
unfolding line_start
loop-run-init c =
    let runs = c.runs-run-items.ensures in
    rw (c.into_iter-run-iterator.ensures.into_iter_gives, runs.runs, c.in_ok-push.ensures.items, c.in_ok-tag.ensures, append_assoc)
    (refl, subst (All (EndsBy (end_of c.args.line))) runs.runs runs.within)

pub loop-run-preserved : goal.loop-run-preserved
loop-run-preserved c =
    let steps = c.in-Some.ensures.steps in
    let run = word_at (piece_of c.in-Some.run') in
    let more = map word_at c.next.new.self in
    let within = subst (All (EndsBy (end_of c.args.line))) steps c.loop-run.invariant.1 in (
      ap (λ tokens. tokens ++ more)
          (c.in_ok-push-2.ensures.items ∙ ap (λ token. c.loop-run.tokens.items ++ token ∷ []) c.in_ok-word.ensures)
          ∙ append_assoc c.loop-run.tokens.items (run ∷ []) more
          ∙ ap (λ runs. c.loop-run.tokens.items ++ map word_at runs) (sym steps)
          ∙ c.loop-run.invariant.0,
      All-tail (EndsBy (end_of c.args.line)) _ _ within,
    )

pub returns : goal.returns
unfolding line_tokens_at line_end
returns c =
    let line = c.args.line in
    let first = tag_at line_start line.start ∷ map word_at (runs_at (piece_of line)) in
    let before : c.loop-run.tokens.items ≡ c.args.tokens.now.items ++ first =
    sym (append-nil _)
    ∙ ap (λ runs. c.loop-run.tokens.items ++ map word_at runs) (sym c.in-None.ensures.steps.0) ∙ c.loop-run.invariant.0 in
    c.in_ok-push-3.ensures.items
    ∙ ap₂ (λ tokens token. tokens ++ token ∷ []) before (c.in_ok-tag-2.ensures ∙ ap (tag_at line_end) c.end.ensures)
    ∙ append_assoc c.args.tokens.now.items first (tag_at line_end (line.start + length line.bytes.now) ∷ [])
