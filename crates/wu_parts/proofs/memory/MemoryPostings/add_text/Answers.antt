use Rattle.std.proofs.Common.{◌≡◌, ℕ, ◌+◌, List, [], ◌∷◌, ◌++◌, length, length-append, ap, ap₂, sym, ◌∙◌, refl, arith, append_assoc}
use Rattle.std.specs.List.{flat_map}
use Rattle.wu_token.specs.Tokens.{file_start, file_end, lines_of}
use Rattle.wu_token.specs.Places.{Piece, placed}
use Rattle.wu_token.specs.Pieces.{line_terms, piece_of}
use Rattle.wu_token.proofs.PlacesLemmas.{tokens_of-pieces}
use Rattle.wu_parts.specs.Memory.{Memory}
use Rattle.wu_parts.specs.Lists.{with_posting, with_terms}
use Rattle.wu_parts.proofs.Putting.{end_of_some, with_terms-append}
use Rattle.wu_parts.proofs.memory.MemoryPostings.add_text.Goals as goal

pub push-requires-clause-bounded : goal.push-requires-clause-bounded
push-requires-clause-bounded c =
    omega (
      arith,
      ap (λ (m : Memory). m.end) c.in_ok-pass_to.ensures.ok,
      ap length (tokens_of-pieces c.args.text.now),
      c.requires.bounded,
    )

pub loop-line-init : goal.loop-line-init
unfolding file_start
loop-line-init c =
    let text : List ℕ = c.args.text.now in
    let old : Memory = c.args.self.now in
    let passed : c.pass_to.new.self ≡ record old { end = c.args.start } = c.in_ok-pass_to.ensures.ok in
    let lines : c.into_iter-line-iterator.result ≡ placed 0 (lines_of text) =
    c.into_iter-line-iterator.ensures.into_iter_gives ∙ c.of_text-line-items.ensures.lines in
    let first : c.push.new.self ≡ with_posting old c.args.start file_start =
    c.in_ok-push.ensures.ok ∙ ap (λ (m : Memory). with_posting m m.end file_start) passed in
    record {
      made =
          ap (λ (m : Memory). with_terms m m.end (flat_map line_terms c.into_iter-line-iterator.result ++ file_end ∷ [])) first
          ∙ ap
          (λ (ls : List Piece). with_terms (with_posting old c.args.start file_start) (c.args.start + 1)
          (flat_map line_terms ls ++ file_end ∷ []))
          lines
          ∙ ap (with_terms old c.args.start) (sym (tokens_of-pieces text));
      count = omega (
        arith,
        ap (λ (m : Memory). m.end) first,
        ap (λ (ls : List Piece). length (flat_map line_terms ls)) lines,
        ap length (tokens_of-pieces text),
        length-append (flat_map line_terms (placed 0 (lines_of text))) (file_end ∷ []),
      );
      low = ap (λ (m : Memory). m.low) first;
    }

pub loop-line-preserved : goal.loop-line-preserved
loop-line-preserved c =
    let memory : Memory = c.loop-line.self in
    let terms : List (List ℕ) = line_terms (piece_of c.in-Some.line) in
    let more : List (List ℕ) = flat_map line_terms c.next.new.self in
    let steps : c.loop-line.line-iterator ≡ piece_of c.in-Some.line ∷ c.next.new.self = c.in-Some.ensures.steps in
    let line : c.add_line.new.self ≡ with_terms memory memory.end terms = c.in_ok-add_line.ensures.terms in
    let end : c.add_line.new.self.end ≡ memory.end + length terms =
    ap (λ (m : Memory). m.end) line ∙ end_of_some terms memory memory.end refl in
    record {
      made =
          ap₂ (λ (m : Memory) (n : ℕ). with_terms m n (more ++ file_end ∷ [])) line end
          ∙ sym (with_terms-append terms (more ++ file_end ∷ []) memory memory.end)
          ∙ ap (with_terms memory memory.end) (sym (append_assoc terms more (file_end ∷ [])))
          ∙ ap (λ (ls : List Piece). with_terms memory memory.end (flat_map line_terms ls ++ file_end ∷ [])) (sym steps)
          ∙ c.loop-line.invariant.made;
      count = omega (
        arith,
        ap (λ (ls : List Piece). length (flat_map line_terms ls)) steps,
        length-append terms more,
        end,
        c.loop-line.invariant.count,
      );
      low = c.add_line.ensures.low ∙ c.loop-line.invariant.low;
    }

pub returns-clause-terms : goal.returns-clause-terms
unfolding file_end
returns-clause-terms c =
    let memory : Memory = c.loop-line.self in
    let last : c.push-2.new.self ≡ with_posting memory memory.end file_end = c.in_ok-push-2.ensures.ok in
    last
    ∙ ap (λ (ls : List Piece). with_terms memory memory.end (flat_map line_terms ls ++ file_end ∷ []))
    (sym c.in-None.ensures.steps.0)
    ∙ c.loop-line.invariant.made
