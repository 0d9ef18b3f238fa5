use Rattle.std.proofs.Common.{◌≡◌, ◌∙◌, ◌+◌, length, ap, subst, All, arith, rules, length-append}
use Rattle.std.specs.List.{flat_map}
use Rattle.std.proofs.lemmas.List.Elements.{All-tail}
use Rattle.wu_token.specs.Tokens.{tokens_of}
use Rattle.wu_token.specs.Places.{line_tokens_at}
use Rattle.wu_token.specs.Pieces.{EndsBy, piece_of}
use Rattle.wu_token.proofs.LengthLemmas.{length-text, length-tokens_of}
use Rattle.wu_token.proofs.terms.token_count.Goals as goal

pub loop-line-init : goal.loop-line-init
loop-line-init c =
    let lines = c.of_text-line-items.ensures in
    rw (c.into_iter-line-iterator.ensures.into_iter_gives)
    (ap (λ lines. 2 + length (flat_map line_tokens_at lines)) lines.lines ∙ length-text c.args.text.now, lines.within)

pub loop-line-preserved : goal.loop-line-preserved
loop-line-preserved c =
    let steps = c.in-Some.ensures.steps in
    let left = ap (λ lines. length (flat_map line_tokens_at lines)) steps in
    let line = length-append (line_tokens_at (piece_of c.in-Some.line)) (flat_map line_tokens_at c.next.new.self) in
    let within = subst (All (EndsBy (length c.args.text.now))) steps c.loop-line.invariant.1 in (
      omega (arith, left, line, c.loop-line.invariant.0, c.line_token_count-count.ensures),
      All-tail (EndsBy (length c.args.text.now)) _ _ within,
    )

pub overflow_add-count : goal.overflow_add-count
overflow_add-count c =
    let text = c.args.text.now in
    let left = ap (λ lines. length (flat_map line_tokens_at lines)) c.in-Some.ensures.steps in
    let line = length-append (line_tokens_at (piece_of c.in-Some.line)) (flat_map line_tokens_at c.next.new.self) in
    omega (arith, left, line, length-tokens_of text)

pub returns-clause-bound : goal.returns-clause-bound
returns-clause-bound c =
    let all : c.loop-line.count ≡ length (tokens_of c.args.text.now) = search rules in
    omega (arith, length-tokens_of c.args.text.now)
