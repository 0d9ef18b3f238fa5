-- Lines that compare equal are equal.
use Rattle.std.proofs.Common.{◌≡◌, ℕ, List, ap₂, refl, sym}
use Rattle.std.specs.declared.cmp.Ordering.{Ordering}
use Rattle.std.specs.declared.cmp.Ordering.TheVariants.{Less, Equal, Greater}
use Rattle.std.specs.Cmp.Lexicographic.{slice_cmp}
use Rattle.std.specs.Ordering.{nat_cmp, ordering_then}
use Rattle.std.proofs.lemmas.Cmp.{ranked}
use Rattle.std.proofs.lemmas.Map.Lookups.{exact_bytes}
use Rattle.wu_terms.specs.declared.listing.TermFiles.{TermFiles}
use Rattle.wu_terms.specs.Terms.{compare_by_files}

pub exact_lines : (x y : TermFiles) → compare_by_files x y ≡ Equal → x ≡ y
exact_lines x y equal = by_files (nat_cmp y.files x.files) refl equal
  where
    by_files : (order : Ordering) → order ≡ nat_cmp y.files x.files → ordering_then order (slice_cmp nat_cmp x.word y.word) ≡ Equal → x ≡ y
    by_files Less e both = absurd cc
    by_files Equal e both =
        let files : y.files ≡ x.files = ranked y.files x.files Equal e in
        let word : x.word ≡ y.word = exact_bytes x.word y.word both in
        let made : ℕ → List ℕ → TermFiles = λ n w. record { files = n; word = w } in
        ap₂ made (sym files) word
    by_files Greater e both = absurd cc
