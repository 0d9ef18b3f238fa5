use Rattle.std.proofs.Common.{◌≡◌, ◌∙◌, List, ℕ, length, ap, arith, rules}
use Rattle.std.specs.Prelude.{None, Option}
use Rattle.std.proofs.lemmas.List.{length-map}
use Rattle.wu_part.specs.declared.entries.TermEntry.{TermEntry}
use Rattle.wu_job.specs.Sources.{merged, terms_of, terms_of_other}
use Rattle.wu_job.specs.declared.sources.Source.{Source}
use Rattle.wu_job.proofs.Counting.{merged_alone}
use Rattle.wu_job.proofs.Walking.{some_merged}
use Rattle.wu_job.proofs.sources.count_terms.Goals as goal

pub returns-in-None-clause-count : goal.returns-in-None-clause-count
returns-in-None-clause-count c =
    let terms = terms_of c.args.left.now in
    let none : c.args.right.now ≡ None = search rules in
    let alone : merged terms (terms_of_other c.args.right.now) ≡ terms =
    ap (λ (o : Option Source). merged terms (terms_of_other o)) none ∙ merged_alone terms c.are_whole.ensures.whole.terms.ascending in
    omega (
      arith,
      c.term_count.ensures,
      ap (λ (ts : List (List ℕ)). length ts) alone,
      length-map c.args.left.now.directory.terms (λ (e : TermEntry). e.term),
    )

pub returns-in-None-clause-some : goal.returns-in-None-clause-some
returns-in-None-clause-some c =
    omega (
      arith,
      c.term_count.ensures,
      c.are_whole.ensures.some,
      length-map c.args.left.now.directory.terms (λ (e : TermEntry). e.term),
    )

pub returns-in-Some-clause-some : goal.returns-in-Some-clause-some
returns-in-Some-clause-some c =
    let all = rw (c.terms.ensures, c.terms-in-Some.ensures) at c.count_merged.ensures in
    omega (
      arith,
      all,
      some_merged (terms_of c.args.left.now) (terms_of c.in-Some.right) c.are_whole.ensures.some,
    )
