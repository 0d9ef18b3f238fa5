use Rattle.std.proofs.Common.{◌≡◌, ℕ, ◌≤◌, List, ◌++◌, length, drop, ap, ap₂, sym, ◌∙◌, subst, arith}
use Rattle.std.proofs.Common.{length-take-le}
use Rattle.std.proofs.lemmas.List.{take-append-drop}
use Rattle.wu_part.specs.Headers.{SpellsHeader}
use Rattle.wu_check.proofs.directories.code_in.Goals as goal

pub returns-in-Some-clause-found : goal.returns-in-Some-clause-found
returns-in-Some-clause-found c =
    let bytes = c.args.bytes.now in
    let header : List ℕ = c.split_at.result.0.now in
    let rest : List ℕ = c.split_at.result.1.now in
    let n : ℕ = c.in-Some.length in
    let within : n ≤ length rest = omega (arith, c.if-length-rest.true) in
    let whole : bytes ≡ header ++ rest =
    sym (take-append-drop 16 bytes) ∙ ap₂ (λ (xs : List ℕ) (ys : List ℕ). xs ++ ys) (sym c.split_at.ensures.front) (sym c.split_at.ensures.back) in (
      header,
      drop n rest,
      whole ∙ ap (λ xs. header ++ xs) (sym (take-append-drop n rest)),
      subst (λ k. SpellsHeader k header) (sym (length-take-le n rest within)) c.in-Some.ensures.found,
    )
