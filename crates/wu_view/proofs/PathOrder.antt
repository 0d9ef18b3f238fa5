-- The order of paths that begin with different entries of one directory.
use Rattle.std.proofs.Common.{◌≡◌, ℕ, List, [], ◌∷◌, ◌++◌, refl, sym, ◌∙◌, subst, inl, inr, ⊎_elim}
use Rattle.std.specs.Prelude.{◌⊎◌}
use Rattle.std.specs.declared.cmp.Ordering.{Ordering}
use Rattle.std.specs.declared.cmp.Ordering.TheVariants.{Less, Equal, Greater}
use Rattle.std.specs.Ordering.{nat_cmp, ordering_then}
use Rattle.std.specs.Cmp.{nat_cmp_total}
use Rattle.std.specs.Cmp.Lexicographic.{slice_cmp}
use Rattle.std.proofs.lemmas.Cmp.{tied_itself}
use Rattle.std.proofs.lemmas.Map.Lookups.{exact_unsigned}
use Rattle.wu_view.specs.Views.{path_cmp}
use Rattle.wu_view.proofs.LeastPaths.{Slashless}

-- ---- names

-- a slash stands at the end alone, or nowhere
abbrev pub EndsOnce : List ℕ → Type 0
EndsOnce name = (Slashless name) ⊎ ((base : List ℕ) × (Slashless base × (name ≡ base ++ 47 ∷ [])))

cons_end : (b : ℕ) (name : List ℕ) → EndsOnce (b ∷ name) → b ≡ 47 → name ≡ []
cons_end b name h e =
    ⊎_elim
    (λ s. absurd (s.0 e))
    (λ s. end_of s.0 s.1.0 s.1.1)
    h
  where
    end_of : (base : List ℕ) → Slashless base → b ∷ name ≡ base ++ 47 ∷ [] → name ≡ []
    end_of [] s q = cc
    end_of (x ∷ base) s q = let i : b ≡ x = cc in absurd (s.0 (sym i ∙ e))

tail_ends : (b : ℕ) (name : List ℕ) → EndsOnce (b ∷ name) → (name ≡ []) ⊎ EndsOnce name
tail_ends b name h =
    ⊎_elim
    (λ s. inr (inl s.1))
    (λ s. end_of s.0 s.1.0 s.1.1)
    h
  where
    end_of : (base : List ℕ) → Slashless base → b ∷ name ≡ base ++ 47 ∷ [] → (name ≡ []) ⊎ EndsOnce name
    end_of [] s q = inl cc
    end_of (x ∷ base) s q = let i : name ≡ base ++ 47 ∷ [] = cc in inr (inr (base, (s.1, i)))

-- ---- paths that go on behind two names

-- behind a directory's name, which comes before another name, and behind that one, whatever follows
pub directory_first : (base other : List ℕ) → EndsOnce other → path_cmp (base ++ 47 ∷ []) other ≡ Less
    → (p q : List ℕ) → path_cmp ((base ++ 47 ∷ []) ++ p) (other ++ q) ≡ Less
directory_first [] [] o h p q = absurd cc
directory_first [] (y ∷ ys) o h p q =
    elim (nat_cmp 47 y) as
    (λ r. nat_cmp 47 y ≡ r → ordering_then r (slice_cmp nat_cmp [] ys) ≡ Less → ordering_then r (slice_cmp nat_cmp p (ys ++ q)) ≡ Less) [
      | Less ↦ λ e g. refl
      | Equal ↦ λ e g.
          let i : 47 ≡ y = exact_unsigned 47 y e in
          let n : ys ≡ [] = cons_end y ys o (sym i) in
          let f : slice_cmp nat_cmp [] [] ≡ Less = subst (λ (l : List ℕ). slice_cmp nat_cmp [] l ≡ Less) n g in
          absurd cc
      | Greater ↦ λ e g. absurd cc
    ] refl h
directory_first (x ∷ xs) [] o h p q = absurd cc
directory_first (x ∷ xs) (y ∷ ys) o h p q =
    elim (nat_cmp x y) as
    (λ r. ordering_then r (slice_cmp nat_cmp (xs ++ 47 ∷ []) ys) ≡ Less
    → ordering_then r (slice_cmp nat_cmp ((xs ++ 47 ∷ []) ++ p) (ys ++ q)) ≡ Less) [
      | Less ↦ λ g. refl
      | Equal ↦ λ g.
          ⊎_elim
          (λ n.
          let f : slice_cmp nat_cmp (xs ++ 47 ∷ []) [] ≡ Less =
          subst (λ (l : List ℕ). slice_cmp nat_cmp (xs ++ 47 ∷ []) l ≡ Less) n g in
          absurd (never_before xs f))
          (λ i. directory_first xs ys i g p q)
          (tail_ends y ys o)
      | Greater ↦ λ g. absurd cc
    ] h
  where
    never_before : (zs : List ℕ) → slice_cmp nat_cmp (zs ++ 47 ∷ []) [] ≡ Less → ⊥
    never_before [] f = cc
    never_before (z ∷ zs) f = cc

-- a name that comes before another one, and what follows that
pub file_first : (name other q : List ℕ) → path_cmp name other ≡ Less → path_cmp name (other ++ q) ≡ Less
file_first [] [] q h = absurd cc
file_first [] (y ∷ ys) q h = refl
file_first (x ∷ xs) [] q h = absurd cc
file_first (x ∷ xs) (y ∷ ys) q h =
    elim (nat_cmp x y) as
    (λ r. ordering_then r (slice_cmp nat_cmp xs ys) ≡ Less → ordering_then r (slice_cmp nat_cmp xs (ys ++ q)) ≡ Less) [
      | Less ↦ λ g. refl
      | Equal ↦ λ g. file_first xs ys q g
      | Greater ↦ λ g. absurd cc
    ] h

-- behind the same path
pub same_front : (p a b : List ℕ) → path_cmp a b ≡ Less → path_cmp (p ++ a) (p ++ b) ≡ Less
same_front [] a b h = h
same_front (x ∷ p) a b h =
    let e : nat_cmp x x ≡ Equal = tied_itself nat_cmp_total x in
    subst (λ (r : Ordering). ordering_then r (slice_cmp nat_cmp (p ++ a) (p ++ b)) ≡ Less) (sym e) (same_front p a b h)
