use Rattle.std.proofs.Common.{◌≡◌, ◌∷◌, ◌++◌, [], ◌∙◌, refl, sym, ap, ap₂, subst, map, All, append-nil, append_assoc, arith, length}
use Rattle.std.specs.List.{flat_map}
use Rattle.std.proofs.lemmas.List.Elements.{All-tail}
use Rattle.wu_token.specs.Pieces.{EndsBy, piece_of}
use Rattle.wu_token.specs.Words.{IsTerm}
use Rattle.wu_token.specs.Tokens.{file_start, file_end, lines_of}
use Rattle.wu_token.specs.Places.{placed, tag_at, line_tokens_at, placed_tokens_of}
use Rattle.wu_token.proofs.PlacesLemmas.{term-placed_tokens_of}
use Rattle.wu_token.proofs.LengthLemmas.{length-tokens_of, length-placed_tokens_of, HasTerm-placed_tokens_of}
use Rattle.wu_token.proofs.terms.tokens.Goals as goal
use Rattle.wu_token.proofs.terms.tokens.Goals.{In_ok-push-2}

pub loop-line-init : goal.loop-line-init
unfolding file_start
loop-line-init c =
    let lines = c.of_text-line-items.ensures in
    let given = c.into_iter-line-iterator.ensures.into_iter_gives in
    rw (given, lines.lines, c.in_ok-push.ensures.items, c.in_ok-tag.ensures, c.new-tokens.ensures.items)
    (refl, subst (All (EndsBy (length c.args.text.now))) lines.lines lines.within)

pub loop-line-preserved : goal.loop-line-preserved
loop-line-preserved c =
    let steps = c.in-Some.ensures.steps in
    let line = line_tokens_at (piece_of c.in-Some.line) in
    let more = flat_map line_tokens_at c.next.new.self in
    let within = subst (All (EndsBy (length c.args.text.now))) steps c.loop-line.invariant.1 in (
      ap (λ tokens. tokens ++ more) c.in_ok-push_line.ensures
          ∙ append_assoc c.loop-line.tokens.items line more
          ∙ ap (λ lines. c.loop-line.tokens.items ++ flat_map line_tokens_at lines) (sym steps)
          ∙ c.loop-line.invariant.0,
      All-tail (EndsBy (length c.args.text.now)) _ _ within,
    )

all_tokens : (c : In_ok-push-2) → c.push-2.new.self.items ≡ placed_tokens_of c.args.text.now
unfolding placed_tokens_of file_end
all_tokens c =
    let lines = flat_map line_tokens_at (placed 0 (lines_of c.args.text.now)) in
    let before : c.loop-line.tokens.items ≡ tag_at file_start 0 ∷ lines =
    sym (append-nil _)
    ∙ ap (λ lines. c.loop-line.tokens.items ++ flat_map line_tokens_at lines) (sym c.in-None.ensures.steps.0) ∙ c.loop-line.invariant.0 in
    c.in_ok-push-2.ensures.items ∙ ap₂ (λ tokens token. tokens ++ token ∷ []) before c.in_ok-tag-2.ensures

pub returns-clause-tokens : goal.returns-clause-tokens
returns-clause-tokens c = all_tokens c

pub returns-clause-terms : goal.returns-clause-terms
returns-clause-terms c = ap (map (λ token. token.term)) (all_tokens c) ∙ term-placed_tokens_of c.args.text.now

pub returns-clause-lengths : goal.returns-clause-lengths
returns-clause-lengths c =
    subst (All (λ token. IsTerm token.term)) (sym (all_tokens c)) (HasTerm-placed_tokens_of c.args.text.now)

pub returns-clause-bound : goal.returns-clause-bound
returns-clause-bound c =
    omega (arith, ap length (all_tokens c), length-placed_tokens_of c.args.text.now, length-tokens_of c.args.text.now, c.push-2.new.self.ok.0)
