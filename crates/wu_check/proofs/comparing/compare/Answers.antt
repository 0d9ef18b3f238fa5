use Rattle.std.proofs.Common.{◌≡◌, ℕ, true, List, [], ◌∷◌, ◌++◌, length, length-append, ap, sym, ◌∙◌, arith, append_assoc}
use Rattle.std.specs.List.{flat_map}
use Rattle.wu_token.specs.Tokens.{file_start, file_end, lines_of, tokens_of}
use Rattle.wu_token.specs.Places.{Piece, placed}
use Rattle.wu_token.specs.Pieces.{line_terms, piece_of}
use Rattle.wu_token.proofs.LengthLemmas.{length-tokens_of}
use Rattle.wu_token.proofs.PlacesLemmas.{tokens_of-pieces}
use Rattle.wu_check.specs.declared.comparing.Compared.{Compared}
use Rattle.wu_check.specs.Comparing.{compared_with}
use Rattle.wu_check.proofs.ComparedTokens.{compared-append}
use Rattle.wu_check.proofs.comparing.compare.Goals as goal

pub loop-line-init : goal.loop-line-init
unfolding file_start
loop-line-init c =
    let terms = c.args.terms.now in
    let numbers = c.args.numbers.now in
    let text : List ℕ = c.args.text.now in
    let none : Compared = record { count = 0; same = true } in
    let lines : c.into_iter-line-iterator.result ≡ placed 0 (lines_of text) =
    c.into_iter-line-iterator.ensures.into_iter_gives ∙ c.of_text-line-items.ensures.lines in
    let first : c.add.new.self ≡ compared_with terms numbers none (file_start ∷ []) = c.add.ensures in
    record {
      made =
          ap (λ (m : Compared). compared_with terms numbers m (flat_map line_terms c.into_iter-line-iterator.result ++ file_end ∷ [])) first
          ∙ sym (compared-append terms numbers none (file_start ∷ []) (flat_map line_terms c.into_iter-line-iterator.result ++ file_end ∷ []))
          ∙ ap (λ (ls : List Piece). compared_with terms numbers none (file_start ∷ (flat_map line_terms ls ++ file_end ∷ []))) lines
          ∙ ap (compared_with terms numbers none) (sym (tokens_of-pieces text));
      count = omega (
        arith,
        ap (λ (m : Compared). m.count) first,
        ap (λ (ls : List Piece). length (flat_map line_terms ls)) lines,
        ap length (tokens_of-pieces text),
        length-append (flat_map line_terms (placed 0 (lines_of text))) (file_end ∷ []),
      );
    }

pub loop-line-preserved : goal.loop-line-preserved
loop-line-preserved c =
    let terms = c.args.terms.now in
    let numbers = c.args.numbers.now in
    let compared : Compared = c.loop-line.compared in
    let line : List (List ℕ) = line_terms (piece_of c.in-Some.line) in
    let more : List (List ℕ) = flat_map line_terms c.next.new.self in
    let steps : c.loop-line.line-iterator ≡ piece_of c.in-Some.line ∷ c.next.new.self = c.in-Some.ensures.steps in
    let add : c.add_line.new.self ≡ compared_with terms numbers compared line = c.add_line.ensures in
    record {
      made =
          ap (λ (m : Compared). compared_with terms numbers m (more ++ file_end ∷ [])) add
          ∙ sym (compared-append terms numbers compared line (more ++ file_end ∷ []))
          ∙ ap (compared_with terms numbers compared) (sym (append_assoc line more (file_end ∷ [])))
          ∙ ap (λ (ls : List Piece). compared_with terms numbers compared (flat_map line_terms ls ++ file_end ∷ [])) (sym steps)
          ∙ c.loop-line.invariant.made;
      count = omega (
        arith,
        ap (λ (ls : List Piece). length (flat_map line_terms ls)) steps,
        length-append line more,
        ap (λ (m : Compared). m.count) add,
        c.loop-line.invariant.count,
      );
    }

pub add_line-requires : goal.add_line-requires
add_line-requires c =
    let line : List (List ℕ) = line_terms (piece_of c.in-Some.line) in
    let more : List (List ℕ) = flat_map line_terms c.next.new.self in
    let steps : c.loop-line.line-iterator ≡ piece_of c.in-Some.line ∷ c.next.new.self = c.in-Some.ensures.steps in
    omega (
      arith,
      ap (λ (ls : List Piece). length (flat_map line_terms ls)) steps,
      length-append line more,
      c.loop-line.invariant.count,
      length-tokens_of c.args.text.now,
      c.requires,
    )

pub add-requires-2 : goal.add-requires-2
add-requires-2 c = omega (arith, c.loop-line.invariant.count, length-tokens_of c.args.text.now, c.requires)

pub returns-clause-same : goal.returns-clause-same
unfolding file_end
returns-clause-same c =
    let terms = c.args.terms.now in
    let numbers = c.args.numbers.now in
    let compared : Compared = c.loop-line.compared in
    let last : c.add-2.new.self ≡ compared_with terms numbers compared (file_end ∷ []) = c.add-2.ensures in
    let all : c.add-2.new.self ≡ compared_with terms numbers (record { count = 0; same = true }) (tokens_of c.args.text.now) =
    last
    ∙ ap (λ (ls : List Piece). compared_with terms numbers compared (flat_map line_terms ls ++ file_end ∷ []))
    (sym c.in-None.ensures.steps.0)
    ∙ c.loop-line.invariant.made in
    ap (λ (m : Compared). m.same) all
