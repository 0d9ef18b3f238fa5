-- Extents at places counted from a start, and the same at addresses.
use Rattle.std.proofs.Common.{◌≡◌, ℕ, ◌+◌, ◌<◌, ◌≤◌, Bool, true, false, cond, List, [], ◌∷◌, map, refl, sym, ap, ap₂, ◌∙◌, subst, inl, inr}
use Rattle.std.proofs.Common.{arith, leb, leb-true, le-leb}
use Rattle.std.specs.Prelude.{filter}
use Rattle.std.specs.Cmp.{both_ways}
use Rattle.std.specs.List.{list_any}
use Rattle.wu_base.specs.declared.addresses.Extent.{Extent}
use Rattle.wu_gcl.specs.Extents.{holds}
use Rattle.wu_solve.specs.Listing.{Has}
use Rattle.wu_solve.specs.Merging.{cover, span, IsOneOf, IsCover, IsSpan, AreInnermost}
use Rattle.wu_solve.specs.Solving.{moved}
use Rattle.wu_solve.proofs.Sets.{same_ends}
use Rattle.wu_solve.proofs.Results.{from_moved, moved_ascend}

pub moved_has : (s : ℕ) (xs : List Extent) (x : Extent) → Has xs x → Has (map (moved s) xs) (moved s x)
moved_has s [] x has = absurd has
moved_has s (y ∷ ys) x (inl here) = inl (ap (moved s) here)
moved_has s (y ∷ ys) x (inr more) = inr (moved_has s ys x more)

-- one holds the other where it does after the move

same_order : (s a b : ℕ) → leb (s + a) (s + b) ≡ leb a b
same_order s a b = both_ways (leb (s + a) (s + b)) (leb a b)
    (λ is. let le : s + a ≤ s + b = leb-true (s + a) (s + b) is in le-leb a b (omega arith))
    (λ is. let le : a ≤ b = leb-true a b is in le-leb (s + a) (s + b) (omega arith))

pub holds_moved : (s : ℕ) (x y : Extent) → holds (moved s x) (moved s y) ≡ holds x y
holds_moved s x y = rw (same_order s x.start y.start, same_order s y.end x.end) refl

kept_moved : (s : ℕ) (x : Extent) (ys zs : List Extent) (test : Bool) → ys ≡ map (moved s) zs
    → cond test (moved s x ∷ ys) ys ≡ map (moved s) (cond test (x ∷ zs) zs)
kept_moved s x ys zs true same = ap (λ (l : List Extent). moved s x ∷ l) same
kept_moved s x ys zs false same = same

-- what is kept of moved extents, where the test is the same before the move
pub filter_moved : (s : ℕ) (p q : Extent → Bool) (xs : List Extent) → ((x : Extent) → p (moved s x) ≡ q x)
    → filter p (map (moved s) xs) ≡ map (moved s) (filter q xs)
filter_moved s p q [] same = refl
filter_moved s p q (x ∷ xs) same =
    rw (same x) (kept_moved s x (filter p (map (moved s) xs)) (filter q xs) (q x) (filter_moved s p q xs same))

pub any_moved : (s : ℕ) (p q : Extent → Bool) (xs : List Extent) → ((x : Extent) → p (moved s x) ≡ q x)
    → list_any p (map (moved s) xs) ≡ list_any q xs
any_moved s p q [] same = refl
any_moved s p q (x ∷ xs) same = rw (same x, any_moved s p q xs same) refl

-- the candidates of moved lists are the moved candidates

moved_inner : (s : ℕ) (IsCandidate IsMoved : Extent → Type 0) (xs : List Extent) → AreInnermost IsCandidate xs
    → ((x : Extent) → IsCandidate x → IsMoved (moved s x))
    → ((y : Extent) → IsMoved y → (x : Extent) × IsCandidate x × (moved s x ≡ y)) → AreInnermost IsMoved (map (moved s) xs)
moved_inner s IsCandidate IsMoved xs inner to back = record {
  ascending = moved_ascend s xs inner.ascending;
  sound = λ y has. let m = from_moved s xs y has in subst IsMoved m.2 (to m.0 (inner.sound m.0 m.1));
  dense = λ y candidate.
      let b = back y candidate in
      let d = inner.dense b.0 b.1 in
      (moved s d.0, moved_has s xs d.0 d.1, subst (λ (e : Extent). holds e (moved s d.0) ≡ true) b.2 (holds_moved s b.0 d.0 ∙ d.2));
}

cover_moved : (s : ℕ) (y z : Extent) → cover (moved s y) (moved s z) ≡ moved s (cover y z)
cover_moved s y z = same_ends (cover (moved s y) (moved s z)) (moved s (cover y z)) (omega arith) (omega arith)

span_moved : (s : ℕ) (y z : Extent) → span (moved s y) (moved s z) ≡ moved s (span y z)
span_moved s y z = same_ends (span (moved s y) (moved s z)) (moved s (span y z)) refl refl

module _ (s : ℕ) (ys zs xs : List Extent) where
  pub unions_moved : AreInnermost (IsOneOf ys zs) xs → AreInnermost (IsOneOf (map (moved s) ys) (map (moved s) zs)) (map (moved s) xs)
  unions_moved inner = moved_inner s (IsOneOf ys zs) (IsOneOf (map (moved s) ys) (map (moved s) zs)) xs inner to back
    where
      to : (x : Extent) → IsOneOf ys zs x → IsOneOf (map (moved s) ys) (map (moved s) zs) (moved s x)
      to x (inl has) = inl (moved_has s ys x has)
      to x (inr has) = inr (moved_has s zs x has)

      back : (y : Extent) → IsOneOf (map (moved s) ys) (map (moved s) zs) y → (x : Extent) × IsOneOf ys zs x × (moved s x ≡ y)
      back y (inl has) = let m = from_moved s ys y has in (m.0, inl m.1, m.2)
      back y (inr has) = let m = from_moved s zs y has in (m.0, inr m.1, m.2)

  pub covers_moved : AreInnermost (IsCover ys zs) xs → AreInnermost (IsCover (map (moved s) ys) (map (moved s) zs)) (map (moved s) xs)
  covers_moved inner =
      moved_inner s (IsCover ys zs) (IsCover (map (moved s) ys) (map (moved s) zs)) xs inner
      (λ x c.
      (moved s c.0, moved s c.1, moved_has s ys c.0 c.2, moved_has s zs c.1 c.3, cover_moved s c.0 c.1 ∙ ap (moved s) c.4))
      (λ x c.
      let m = from_moved s ys c.0 c.2 in
      let n = from_moved s zs c.1 c.3 in
      (cover m.0 n.0, (m.0, n.0, m.1, n.1, refl), sym (cover_moved s m.0 n.0) ∙ ap₂ cover m.2 n.2 ∙ c.4))

  pub spans_moved : AreInnermost (IsSpan ys zs) xs → AreInnermost (IsSpan (map (moved s) ys) (map (moved s) zs)) (map (moved s) xs)
  spans_moved inner =
      moved_inner s (IsSpan ys zs) (IsSpan (map (moved s) ys) (map (moved s) zs)) xs inner
      (λ x c.
      let later : c.0.end < c.1.start = c.4 in (
        moved s c.0,
        moved s c.1,
        moved_has s ys c.0 c.2,
        moved_has s zs c.1 c.3,
        omega arith,
        span_moved s c.0 c.1 ∙ ap (moved s) c.5,
      ))
      (λ x c.
      let m = from_moved s ys c.0 c.2 in
      let n = from_moved s zs c.1 c.3 in
      let later : c.0.end < c.1.start = c.4 in
      let ends : s + m.0.end ≡ c.0.end = ap (λ (e : Extent). e.end) m.2 in
      let starts : s + n.0.start ≡ c.1.start = ap (λ (e : Extent). e.start) n.2 in
      (span m.0 n.0, (m.0, n.0, m.1, n.1, omega arith, refl), sym (span_moved s m.0 n.0) ∙ ap₂ span m.2 n.2 ∙ c.5))
