-- The candidates of a prefix, as more terms are added.
use Rattle.std.proofs.Common.{◌≡◌, ℕ, ◌+◌, ◌<◌, List, [], ◌∷◌, ◌++◌, length, map, filter, take, get_or, refl, ap, sym, ◌∙◌, append-nil}
use Rattle.std.proofs.Common.{append_assoc, Vec, Global}
use Rattle.std.specs.Cmp.Lexicographic.{slice_cmp}
use Rattle.std.specs.List.{flat_map}
use Rattle.std.specs.Map.{keys_of}
use Rattle.std.specs.Ordering.{nat_cmp}
use Rattle.std.proofs.lemmas.List.{take_more}
use Rattle.std.proofs.lemmas.List.Concat.{flat_map-append}
use Rattle.std.proofs.lemmas.List.Elements.{filter-append}
use Rattle.std.proofs.lemmas.List.{map-append}
use Rattle.wu_base.specs.SortedOnce.{sorted_once}
use Rattle.wu_terms.specs.Collections.{Collection, with_terms}
use Rattle.wu_terms.specs.Terms.{is_candidate}
use Rattle.wu_terms.proofs.Collected.{once_with}
use Rattle.wu_parts.specs.Candidates.{GainsCandidates, candidates_of, terms_listed}
use Rattle.wu_parts.specs.Chains.{all_moved, lists_of}
use Rattle.wu_parts.specs.StoredParts.{directories_of}
use Rattle.wu_parts.specs.declared.addressing.Addressing.{Addressing}
use Rattle.wu_parts.specs.declared.chains.Chain.{Chain}
use Rattle.wu_parts.specs.declared.writing.StoredPart.{StoredPart}

more_terms : (prefix : List ℕ) (terms more : List (List ℕ))
    → with_terms (candidates_of prefix terms) more ≡ candidates_of prefix (terms ++ more)
more_terms prefix terms more =
    ap (λ (words : List (List ℕ)). record { prefix = prefix; words = words })
    (sym (ap (sorted_once (slice_cmp nat_cmp)) (filter-append (is_candidate prefix) terms more)
    ∙ once_with (filter (is_candidate prefix) terms) (filter (is_candidate prefix) more)))

-- nothing was added yet
pub gains_none : (words : Collection) → GainsCandidates [] words words
gains_none words prefix terms is = is ∙ ap (candidates_of prefix) (sym (append-nil terms))

-- more terms were added, after others
pub gains_more : (done more all : List (List ℕ)) (old words new : Collection) → GainsCandidates done old words → new ≡ with_terms words more
    → all ≡ done ++ more → GainsCandidates all old new
gains_more done more all old words new before added whole prefix terms is =
    added ∙ ap (λ (c : Collection). with_terms c more) (before prefix terms is) ∙ more_terms prefix (terms ++ done) more
    ∙ ap (candidates_of prefix) (append_assoc terms done more ∙ ap (λ (ts : List (List ℕ)). terms ++ ts) (sym whole))

-- ---- the directories of parts

abbrev pub listed_in : List StoredPart → List (List ℕ)
listed_in parts = flat_map terms_listed (directories_of parts)

pub next_listed : (parts : List StoredPart) (i : ℕ) (part : StoredPart) → i < length parts → part ≡ get_or parts i part
    → listed_in (take (i + 1) parts) ≡ listed_in (take i parts) ++ terms_listed part.directory
next_listed parts i part within is =
    ap listed_in (take_more parts i part within)
    ∙ ap (flat_map terms_listed) (map-append (λ (p : StoredPart). p.directory) (take i parts) (get_or parts i part ∷ []))
    ∙ flat_map-append terms_listed (directories_of (take i parts)) ((get_or parts i part).directory ∷ [])
    ∙ ap (λ (ts : List (List ℕ)). listed_in (take i parts) ++ ts)
    (append-nil (terms_listed (get_or parts i part).directory) ∙ ap (λ (p : StoredPart). terms_listed p.directory) (sym is))

-- ---- the terms in memory

abbrev pub names_of : List (Vec ℕ Global × Chain) → List (List ℕ)
names_of entries = map (λ entry. entry.0.items) entries

pub names_are_keys : (addressing : Addressing) (links : List ℕ) (entries : List (Vec ℕ Global × Chain))
    → keys_of (all_moved addressing (lists_of links entries)) ≡ names_of entries
names_are_keys addressing links [] = refl
names_are_keys addressing links (entry ∷ entries) =
    ap (λ (ts : List (List ℕ)). entry.0.items ∷ ts) (names_are_keys addressing links entries)

-- those of some of the terms were added, and others are left
pub record IsAdding (old words : Collection) (all left : List (List ℕ)) : Type 0 where
  pub done : List (List ℕ)
  pub gained : GainsCandidates done old words
  pub whole : done ++ left ≡ all

pub adding_begins : (words : Collection) (all left : List (List ℕ)) → left ≡ all → IsAdding words words all left
adding_begins words all left is = record { done = []; gained = gains_none words; whole = is }

pub adding_goes_on : (old words new : Collection) (all left later : List (List ℕ)) (term : List ℕ) → IsAdding old words all left
    → left ≡ term ∷ later → new ≡ with_terms words (term ∷ []) → IsAdding old new all later
adding_goes_on old words new all left later term before is added = record {
  done = before.done ++ term ∷ [];
  gained = gains_more before.done (term ∷ []) (before.done ++ term ∷ []) old words new before.gained added refl;
  whole = append_assoc before.done (term ∷ []) later ∙ ap (λ (ts : List (List ℕ)). before.done ++ ts) (sym is) ∙ before.whole;
}

pub adding_ends : (old words : Collection) (all left : List (List ℕ)) → IsAdding old words all left → left ≡ []
    → GainsCandidates all old words
adding_ends old words all left before none prefix terms is =
    before.gained prefix terms is
    ∙ ap (λ (ts : List (List ℕ)). candidates_of prefix (terms ++ ts))
    (sym (append-nil before.done) ∙ ap (λ (ts : List (List ℕ)). before.done ++ ts) (sym none) ∙ before.whole)
