-- Lemmas on how many addresses parts have of a term.
use Rattle.std.proofs.Common.{◌≡◌, ℕ, ◌+◌, ◌<◌, List, [], ◌∷◌, length, get_or, take, ap, ◌∙◌, arith}
use Rattle.std.specs.Prelude.{sum_by}
use Rattle.std.proofs.lemmas.List.{map-append, take_more}
use Rattle.std.proofs.lemmas.List.Sums.{sum_by-append}
use Rattle.wu_lists.specs.Blocks.{count_in, entry_of}
use Rattle.wu_part.specs.Directories.{PartDirectory}
use Rattle.wu_parts.specs.Contents.{counted_of}
use Rattle.wu_parts.specs.StoredParts.{directories_of}
use Rattle.wu_parts.specs.declared.writing.StoredPart.{StoredPart}

pub counted_next : (term : List ℕ) (parts : List StoredPart) (i : ℕ) (part : StoredPart) → i < length parts → part ≡ get_or parts i part
    → counted_of term (directories_of (take (i + 1) parts))
    ≡ counted_of term (directories_of (take i parts)) + count_in (entry_of part.directory.terms term)
counted_next term parts i part within is =
    let Count : PartDirectory → ℕ = λ directory. count_in (entry_of directory.terms term) in
    let next : counted_of term (directories_of (take (i + 1) parts))
    ≡ counted_of term (directories_of (take i parts)) + sum_by Count ((get_or parts i part).directory ∷ []) =
    ap (λ (ps : List StoredPart). counted_of term (directories_of ps)) (take_more parts i part within)
    ∙ ap (counted_of term) (map-append (λ (p : StoredPart). p.directory) (take i parts) (get_or parts i part ∷ []))
    ∙ sum_by-append Count (directories_of (take i parts)) ((get_or parts i part).directory ∷ []) in
    let own : count_in (entry_of part.directory.terms term) ≡ count_in (entry_of (get_or parts i part).directory.terms term) =
    ap (λ (p : StoredPart). count_in (entry_of p.directory.terms term)) is in
    omega (arith, next, own)
