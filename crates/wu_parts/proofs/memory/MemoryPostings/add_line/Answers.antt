use Rattle.std.proofs.Common.{◌≡◌, ℕ, ◌+◌, List, [], ◌∷◌, ◌++◌, length, length-append, map, ap, sym, subst, ◌∙◌, All, arith}
use Rattle.std.proofs.lemmas.List.Elements.{All-tail}
use Rattle.wu_token.specs.Words.{IsTerm, word_of}
use Rattle.wu_token.specs.Tokens.{line_start, line_end}
use Rattle.wu_token.specs.Places.{Piece, runs_at}
use Rattle.wu_token.specs.Pieces.{piece_of}
use Rattle.wu_token.proofs.PlacesLemmas.{words-runs_at}
use Rattle.wu_token.proofs.LengthLemmas.{IsTerm-words_of}
use Rattle.wu_parts.specs.Memory.{Memory}
use Rattle.wu_parts.specs.Lists.{with_posting, with_terms}
use Rattle.wu_parts.proofs.memory.MemoryPostings.add_line.Goals as goal

abbrev words : List Piece → List (List ℕ)
words runs = map (λ run. word_of run.bytes) runs

pub loop-run-init : goal.loop-run-init
unfolding line_start
loop-run-init c =
    let old : Memory = c.args.self.now in
    let runs : c.into_iter-run-iterator.result ≡ runs_at (piece_of c.args.line) =
    c.into_iter-run-iterator.ensures.into_iter_gives ∙ c.runs-run-items.ensures.runs in
    let first : c.push.new.self ≡ with_posting old old.end line_start = c.in_ok-push.ensures.ok in
    record {
      made =
          ap (λ (m : Memory). with_terms m m.end (words c.into_iter-run-iterator.result ++ line_end ∷ [])) first
          ∙ ap (λ (rs : List Piece). with_terms (with_posting old old.end line_start) (old.end + 1) (words rs ++ line_end ∷ [])) runs;
      count = omega (
        arith,
        ap (λ (m : Memory). m.end) first,
        ap (λ (rs : List Piece). length (words rs)) runs,
        length-append (words (runs_at (piece_of c.args.line))) (line_end ∷ []),
      );
      terms = subst (All IsTerm) (sym (ap words runs ∙ words-runs_at (piece_of c.args.line))) (IsTerm-words_of c.args.line.bytes.now);
      low = ap (λ (m : Memory). m.low) first;
    }

pub loop-run-preserved : goal.loop-run-preserved
loop-run-preserved c =
    let memory : Memory = c.loop-run.self in
    let steps : c.loop-run.run-iterator ≡ piece_of c.in-Some.run' ∷ c.next.new.self = c.in-Some.ensures.steps in
    let word : List ℕ = word_of c.in-Some.run'.bytes.now in
    let push : c.push-in-loop-run.new.self ≡ with_posting memory memory.end word =
    c.in_ok-push-2.ensures.ok ∙ ap (with_posting memory memory.end) (c.as_slice.ensures ∙ c.of_run.ensures) in
    record {
      made =
          ap (λ (m : Memory). with_terms m m.end (words c.next.new.self ++ line_end ∷ [])) push
          ∙ ap (λ (rs : List Piece). with_terms memory memory.end (words rs ++ line_end ∷ [])) (sym steps)
          ∙ c.loop-run.invariant.made;
      count = omega (
        arith,
        ap (λ (m : Memory). m.end) push,
        ap (λ (rs : List Piece). length (words rs)) steps,
        c.loop-run.invariant.count,
      );
      terms = All-tail IsTerm _ _ (subst (λ (rs : List Piece). All IsTerm (words rs)) steps c.loop-run.invariant.terms);
      low = ap (λ (m : Memory). m.low) push ∙ c.loop-run.invariant.low;
    }

pub returns-clause-terms : goal.returns-clause-terms
unfolding line_end
returns-clause-terms c =
    let memory : Memory = c.loop-run.self in
    let last : c.push-2.new.self ≡ with_posting memory memory.end line_end = c.in_ok-push-3.ensures.ok in
    last
    ∙ ap (λ (rs : List Piece). with_terms memory memory.end (words rs ++ line_end ∷ [])) (sym c.in-None.ensures.steps.0)
    ∙ c.loop-run.invariant.made
