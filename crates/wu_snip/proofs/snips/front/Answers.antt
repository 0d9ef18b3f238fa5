use Rattle.std.proofs.Common.{◌≡◌, ap, take, length, inl, inr, ◌∙◌, sym, arith}
use Rattle.std.proofs.lemmas.List.{take_all}
use Rattle.std.proofs.lemmas.Bool.{cases_lt}
use Rattle.wu_base.specs.declared.limits.TheConstants.{SNIPPET_MAX}
use Rattle.wu_snip.proofs.snips.front.Goals as goal

pub returns : goal.returns
returns c =
    let line = c.args.line.now in
    elim (cases_lt (length line) SNIPPET_MAX) [
      | inl short ↦
          let least : c.min.result ≡ length line = omega (arith, c.min.ensures) in
          ap (λ n. take n line) least ∙ take_all (length line) line (omega arith) ∙ sym (take_all SNIPPET_MAX line (omega arith))
      | inr long ↦
          let most : c.min.result ≡ SNIPPET_MAX = omega (arith, c.min.ensures) in
          ap (λ n. take n line) most
    ]
