-- Lemmas on entries whose terms ascend.
use Rattle.std.proofs.Common.{◌≡◌, ℕ, ◌<◌, List, [], ◌∷◌, length, get_or, map, refl, sym, ap, ◌∙◌, Bool, ◌||◌, arith}
use Rattle.std.proofs.lemmas.List.{length-map}
use Rattle.std.specs.declared.cmp.Ordering.{Ordering}
use Rattle.std.specs.declared.cmp.Ordering.TheVariants.{Less, Equal}
use Rattle.std.specs.Ordering.{nat_cmp, is_eq}
use Rattle.std.specs.Cmp.Lexicographic.{slice_cmp, texts_ties, same_text}
use Rattle.std.specs.List.{list_any}
use Rattle.std.specs.List.Sorted.{IsStrictlySortedBy}
use Rattle.std.proofs.lemmas.List.{get_or-map}
use Rattle.std.proofs.lemmas.List.Folds.{list_any-append}
use Rattle.std.proofs.lemmas.Map.Keys.{Less-from_sorted}
use Rattle.wu_part.specs.declared.entries.BlockEntry.{BlockEntry}
use Rattle.wu_part.specs.declared.entries.TermEntry.{TermEntry}
use Rattle.wu_part.specs.Directories.{all_blocks}

abbrev text_cmp : List ℕ → List ℕ → Ordering
text_cmp a b = slice_cmp nat_cmp a b

abbrev pub terms : List TermEntry → List (List ℕ)
terms entries = map (λ (entry : TermEntry). entry.term) entries

term_at : (entries : List TermEntry) (k : ℕ) (d : TermEntry) → k < length entries → get_or (terms entries) k [] ≡ (get_or entries k d).term
term_at entries k d within = get_or-map (λ (entry : TermEntry). entry.term) entries k d [] within

pub ascends : (entries : List TermEntry) (i j : ℕ) (d : TermEntry) → IsStrictlySortedBy (slice_cmp nat_cmp) (terms entries) → i < j
    → j < length entries → text_cmp (get_or entries i d).term (get_or entries j d).term ≡ Less
ascends entries i j d s less within =
    let long : length (terms entries) ≡ length entries = length-map entries (λ (entry : TermEntry). entry.term) in
    let first = term_at entries i d (omega arith) in
    let second = term_at entries j d within in
    rw (sym first, sym second) (Less-from_sorted (slice_cmp nat_cmp) (terms entries) i j [] s less (omega arith))

pub same_term : (a b : List ℕ) → text_cmp a b ≡ Equal → a ≡ b
same_term a b equal = same_text a b (sym (texts_ties a b ∙ ap is_eq equal))

-- ---- blocks of the entries

pub any_block : (test : BlockEntry → Bool) (entries : List TermEntry)
    → list_any test (all_blocks entries) ≡ list_any (λ entry. list_any test entry.blocks) entries
any_block test [] = refl
any_block test (entry ∷ later) =
    list_any-append test entry.blocks (all_blocks later) ∙ ap (λ b. list_any test entry.blocks || b) (any_block test later)
