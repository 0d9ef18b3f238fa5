use Rattle.std.proofs.Common.{◌≡◌, ℕ, List, [], ◌∷◌, ◌++◌, length, length-append, map, ap, sym, ◌∙◌, arith}
use Rattle.wu_token.specs.Words.{word_of}
use Rattle.wu_token.specs.Tokens.{line_start, line_end}
use Rattle.wu_token.specs.Places.{Piece, runs_at}
use Rattle.wu_token.specs.Pieces.{piece_of}
use Rattle.wu_check.specs.declared.comparing.Compared.{Compared}
use Rattle.wu_check.specs.Comparing.{compared_with}
use Rattle.wu_check.proofs.ComparedTokens.{compared-append}
use Rattle.wu_check.proofs.comparing.Compared.add_line.Goals as goal

abbrev words : List Piece → List (List ℕ)
words runs = map (λ run. word_of run.bytes) runs

pub loop-run-init : goal.loop-run-init
unfolding line_start
loop-run-init c =
    let terms = c.args.terms.now in
    let numbers = c.args.numbers.now in
    let old : Compared = c.args.self.now in
    let runs : c.into_iter-run-iterator.result ≡ runs_at (piece_of c.args.line) =
    c.into_iter-run-iterator.ensures.into_iter_gives ∙ c.runs-run-items.ensures.runs in
    let first : c.add.new.self ≡ compared_with terms numbers old (line_start ∷ []) = c.add.ensures in
    record {
      made =
          ap (λ (m : Compared). compared_with terms numbers m (words c.into_iter-run-iterator.result ++ line_end ∷ [])) first
          ∙ sym (compared-append terms numbers old (line_start ∷ []) (words c.into_iter-run-iterator.result ++ line_end ∷ []))
          ∙ ap (λ (rs : List Piece). compared_with terms numbers old (line_start ∷ (words rs ++ line_end ∷ []))) runs;
      count = omega (
        arith,
        ap (λ (m : Compared). m.count) first,
        ap (λ (rs : List Piece). length (words rs)) runs,
        length-append (words (runs_at (piece_of c.args.line))) (line_end ∷ []),
        c.requires,
      );
    }

pub loop-run-preserved : goal.loop-run-preserved
loop-run-preserved c =
    let terms = c.args.terms.now in
    let numbers = c.args.numbers.now in
    let compared : Compared = c.loop-run.self in
    let steps : c.loop-run.run-iterator ≡ piece_of c.in-Some.run' ∷ c.next.new.self = c.in-Some.ensures.steps in
    let word : List ℕ = word_of c.in-Some.run'.bytes.now in
    let add : c.add-in-loop-run.new.self ≡ compared_with terms numbers compared (word ∷ []) =
    c.add-in-loop-run.ensures ∙ ap (λ w. compared_with terms numbers compared (w ∷ [])) (c.as_slice.ensures ∙ c.of_run.ensures) in
    record {
      made =
          ap (λ (m : Compared). compared_with terms numbers m (words c.next.new.self ++ line_end ∷ [])) add
          ∙ sym (compared-append terms numbers compared (word ∷ []) (words c.next.new.self ++ line_end ∷ []))
          ∙ ap (λ (rs : List Piece). compared_with terms numbers compared (words rs ++ line_end ∷ [])) (sym steps)
          ∙ c.loop-run.invariant.made;
      count = omega (
        arith,
        ap (λ (m : Compared). m.count) add,
        ap (λ (rs : List Piece). length (words rs)) steps,
        c.loop-run.invariant.count,
      );
    }

pub returns : goal.returns
unfolding line_end
returns c =
    let terms = c.args.terms.now in
    let numbers = c.args.numbers.now in
    let compared : Compared = c.loop-run.self in
    let last : c.add-2.new.self ≡ compared_with terms numbers compared (line_end ∷ []) = c.add-2.ensures in
    last
    ∙ ap (λ (rs : List Piece). compared_with terms numbers compared (words rs ++ line_end ∷ [])) (sym c.in-None.ensures.steps.0)
    ∙ c.loop-run.invariant.made
