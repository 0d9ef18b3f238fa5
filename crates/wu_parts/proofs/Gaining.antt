-- What a Parts gains, where its memory gains terms, and what callers need of it.
use Rattle.std.proofs.Common.{◌≡◌, ℕ, ◌+◌, ◌≤◌, ◌==◌, Bool, false, cond, List, [], ◌∷◌, ◌++◌, length, refl, ap, sym, subst, ◌∙◌, arith}
use Rattle.std.proofs.lemmas.Bool.{ne_eqb}
use Rattle.wu_layout.specs.Postings.{Posting, addresses_of, placed_from}
use Rattle.wu_layout.proofs.TermLemmas.{addresses_of-append}
use Rattle.wu_parts.specs.Memory.{Memory, held, Gains}
use Rattle.wu_parts.specs.Contents.{Contents, GainsTerms}
use Rattle.wu_parts.specs.Lists.{with_terms}
use Rattle.wu_parts.proofs.Putting.{gains-with_terms}

pub gained : (old fields : Contents) (memory : Memory) (start : ℕ) (terms : List (List ℕ)) → fields ≡ old
    → memory ≡ with_terms fields.memory start terms
    → GainsTerms start terms old (record fields { memory = memory })
gained old fields memory start terms e h =
    subst (λ (o : Contents). GainsTerms start terms o (record fields { memory = memory })) e
    (record {
      memory = subst (Gains start terms fields.memory) (sym h) (gains-with_terms terms fields.memory start);
      others = refl;
    })

-- the addresses that are taken end with those of the terms
pub end_within : (start : ℕ) (terms : List (List ℕ)) (old new : Memory) → Gains start terms old new → old.end ≤ start
    → new.end ≤ start + length terms
end_within start [] old new g l = omega (arith, g.end)
end_within start (term ∷ terms) old new g l =
    let some : (length (term ∷ terms) == 0) ≡ false = ne_eqb (length (term ∷ terms)) 0 (λ e. omega arith) in
    let end : new.end ≡ start + length (term ∷ terms) =
    g.end ∙ ap (λ (b : Bool). cond {A = ℕ} b old.end (start + length (term ∷ terms))) some in
    omega arith

-- where memory had these postings, it has them and those of the terms
pub holds_more : (start : ℕ) (terms : List (List ℕ)) (old new : Memory) (postings : List Posting) → Gains start terms old new
    → ((term : List ℕ) → held old term ≡ addresses_of term postings)
    → (term : List ℕ) → held new term ≡ addresses_of term (postings ++ placed_from start terms)
holds_more start terms old new postings g h term =
    g.addresses term
    ∙ ap (λ (l : List ℕ). l ++ addresses_of term (placed_from start terms)) (h term)
    ∙ sym (addresses_of-append term postings (placed_from start terms))
