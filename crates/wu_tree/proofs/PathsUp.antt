-- The ways up from a node to the root.
use Rattle.std.proofs.Common.{◌≡◌, ◌≢◌, ℕ, ◌+◌, ◌≤◌, List, [], ◌∷◌, refl, ap, sym, ◌∙◌, subst, Bool, true, false, cond, arith, zero, suc}
use Rattle.std.proofs.Common.{◌-◌, length, ◌||◌}
use Rattle.std.specs.Prelude.{None, Some, ◌==◌}
use Rattle.std.specs.List.{AllByRecursion}
use borrow.Author.Tests.{eq-eqb, eqb-true, eqb-false, ne_eqb}
use Rattle.wu_tree.specs.FileSystems.{Link, parent_of, ancestors, above}
use Rattle.wu_tree.specs.Paths.{through, steps_to}
use Rattle.wu_tree.proofs.ParentPaths.{has_root, parent_found}

-- two climbs to the root are the same
pub same_climb : (links : List Link) (m k q : ℕ) → has_root (ancestors links m q) ≡ true → has_root (ancestors links k q) ≡ true
    → ancestors links m q ≡ ancestors links k q
unfolding ancestors
same_climb links zero k q a b = absurd cc
same_climb links (suc m) zero q a b = absurd cc
same_climb links (suc m) (suc k) q a b =
    elim (q == 1) as
    (λ v. (v || has_root (cond v [] (above (ancestors links m) (parent_of links q)))) ≡ true
    → (v || has_root (cond v [] (above (ancestors links k) (parent_of links q)))) ≡ true
    → q ∷ cond v [] (above (ancestors links m) (parent_of links q)) ≡ q ∷ cond v [] (above (ancestors links k) (parent_of links q))) [
      | true ↦ λ x y. refl
      | false ↦ λ x y. ap (λ (l : List ℕ). q ∷ l)
          (elim (parent_of links q) as
          (λ o. has_root (above (ancestors links m) o) ≡ true → has_root (above (ancestors links k) o) ≡ true
          → above (ancestors links m) o ≡ above (ancestors links k) o) [
            | None ↦ λ x y. refl
            | Some parent ↦ λ x y. same_climb links m k parent x y
          ] x y)
    ] a b

-- a climb that k steps are enough for
pub stable : (links : List Link) (m k q : ℕ) → has_root (ancestors links m q) ≡ true → length (ancestors links m q) ≤ k
    → has_root (ancestors links k q) ≡ true
unfolding ancestors
stable links zero k q a b = absurd cc
stable links (suc m) zero q a b = absurd (omega arith)
stable links (suc m) (suc k) q a b =
    elim (q == 1) as
    (λ v. (v || has_root (cond v [] (above (ancestors links m) (parent_of links q)))) ≡ true
    → length (cond v [] (above (ancestors links m) (parent_of links q))) ≤ k
    → (v || has_root (cond v [] (above (ancestors links k) (parent_of links q)))) ≡ true) [
      | true ↦ λ x y. refl
      | false ↦ λ x y.
          elim (parent_of links q) as
          (λ o. has_root (above (ancestors links m) o) ≡ true → length (above (ancestors links m) o) ≤ k
          → has_root (above (ancestors links k) o) ≡ true) [
            | None ↦ λ x y. absurd cc
            | Some parent ↦ λ x y. stable links m k parent x y
          ] x y
    ] a (omega arith)

-- no way up goes through a node without links below it, but its own
pub never_through : (links : List Link) (c : ℕ) → AllByRecursion (λ l. l.0.0 ≢ c) links → (m q : ℕ) → q ≢ c
    → through c (ancestors links m q) ≡ false
unfolding ancestors
never_through links c a zero q h = refl
never_through links c a (suc m) q h =
    rw (ne_eqb q c h)
    (elim (q == 1) as (λ v. through c (cond v [] (above (ancestors links m) (parent_of links q))) ≡ false) [
      | true ↦ refl
      | false ↦
          elim (parent_of links q) as (λ o. parent_of links q ≡ o → through c (above (ancestors links m) o) ≡ false) [
            | None ↦ λ p. refl
            | Some parent ↦ λ p. never_through links c a m parent (parent_found (λ l. l.0.0 ≢ c) links q parent a p).1
          ] refl
    ])

pub apart_first : (a b : Bool) → (a || b) ≡ false → (a ≡ false) × (b ≡ false)
apart_first true b h = absurd cc
apart_first false b h = (refl, h)

first_or : (a b : Bool) → (a || b) ≡ true → a ≡ false → b ≡ true
first_or true b h e = absurd cc
first_or false b h e = h

-- the step from a node to its parent
pub step_up : (links : List Link) (c m q : ℕ) → (q == c) ≡ false → has_root (ancestors links (suc m) q) ≡ true
    → through c (ancestors links (suc m) q) ≡ true
    → (p : ℕ) × (parent_of links q ≡ Some p) × (q ≢ 1) × (has_root (ancestors links m p) ≡ true) × (through c (ancestors links m p) ≡ true)
    × (ancestors links (suc m) q ≡ q ∷ ancestors links m p)
unfolding ancestors
step_up links c m q d a b =
    elim (q == 1) as
    (λ v. (q == 1) ≡ v → (v || has_root (cond v [] (above (ancestors links m) (parent_of links q)))) ≡ true
    → ((q == c) || through c (cond v [] (above (ancestors links m) (parent_of links q)))) ≡ true
    → (p : ℕ) × (parent_of links q ≡ Some p) × (q ≢ 1) × (has_root (ancestors links m p) ≡ true) × (through c (ancestors links m p) ≡ true)
    × (q ∷ cond v [] (above (ancestors links m) (parent_of links q)) ≡ q ∷ ancestors links m p)) [
      | true ↦ λ e x y. absurd (let f : false ≡ true = first_or (q == c) false y d in cc)
      | false ↦ λ e x y.
          elim (parent_of links q) as (λ o. has_root (above (ancestors links m) o) ≡ true → through c (above (ancestors links m) o) ≡ true
          → (p : ℕ) × (o ≡ Some p) × (q ≢ 1) × (has_root (ancestors links m p) ≡ true) × (through c (ancestors links m p) ≡ true)
          × (q ∷ above (ancestors links m) o ≡ q ∷ ancestors links m p)) [
            | None ↦ λ f g. absurd cc
            | Some p ↦ λ f g. (p, refl, eqb-false q 1 e, f, g, refl)
          ] x (first_or (q == c) _ y d)
    ] refl a b

pub no_climb : (links : List Link) (q : ℕ) → has_root (ancestors links zero q) ≡ true → ⊥
unfolding ancestors
no_climb links q h = cc

pub no_steps : (links : List Link) (c m q : ℕ) → (q == c) ≡ true → steps_to c (ancestors links (suc m) q) ≡ 0
unfolding ancestors
no_steps links c m q h = rw h refl

-- how many steps a way up takes to c, and how many from there
pub steps_and_rest : (links : List Link) (c m k q : ℕ) → has_root (ancestors links m q) ≡ true → through c (ancestors links m q) ≡ true
    → has_root (ancestors links k c) ≡ true
    → steps_to c (ancestors links m q) + length (ancestors links k c) ≡ length (ancestors links m q)
steps_and_rest links c zero k q a b r = absurd (no_climb links q a)
steps_and_rest links c (suc m) k q a b r =
    elim (q == c) as
    (λ v. (q == c) ≡ v → steps_to c (ancestors links (suc m) q) + length (ancestors links k c) ≡ length (ancestors links (suc m) q)) [
      | true ↦ λ p.
          let e : q ≡ c = eqb-true q c p in
          let s : ancestors links k c
          ≡ ancestors links (suc m) q = same_climb links k (suc m) c r (subst (λ x. has_root (ancestors links (suc m) x) ≡ true) e a)
          ∙ ap (λ x. ancestors links (suc m) x) (sym e) in
          let z : steps_to c (ancestors links (suc m) q) ≡ 0 = no_steps links c m q p in
          omega (arith, ap length s)
      | false ↦ λ p.
          let u = step_up links c m q p a b in
          let z : steps_to c (ancestors links (suc m) q) ≡ suc (steps_to c (ancestors links m u.0)) = ap (steps_to c) u.5 ∙ rw p refl in
          omega (arith, ap length u.5, steps_and_rest links c m k u.0 u.3 u.4 r)
    ] refl

pub one_up : (links : List Link) (k q p : ℕ) → q ≢ 1 → parent_of links q ≡ Some p → has_root (ancestors links k p) ≡ true
    → has_root (ancestors links (suc k) q) ≡ true
unfolding ancestors
one_up links k q p h e r = rw (ne_eqb q 1 h, e) r

one_more_up : (links : List Link) (m d p : ℕ) → d ≢ 1 → parent_of links d ≡ Some p → ancestors links (suc m) d ≡ d ∷ ancestors links m p
unfolding ancestors
one_more_up links m d p h e = rw (ne_eqb d 1 h, e) refl

-- ---- a walk up to a directory
pub walk_on : (links : List Link) (to m d parent : ℕ) → has_root (ancestors links m d) ≡ true → d ≢ 1 → parent_of links d ≡ Some parent
    → d ≢ to
    → (through to (ancestors links m d) ≡ through to (ancestors links (m - 1) parent))
    × (steps_to to (ancestors links m d) ≡ 1 + steps_to to (ancestors links (m - 1) parent))
walk_on links to zero d parent h r p n = absurd (no_climb links d h)
walk_on links to (suc m) d parent h r p n =
    let e : m ≡ suc m - 1 = omega arith in
    let a : ancestors links (suc m) d ≡ d ∷ ancestors links m parent = one_more_up links m d parent r p in
    subst (λ (k : ℕ). (through to (ancestors links (suc m) d) ≡ through to (ancestors links k parent))
    × (steps_to to (ancestors links (suc m) d) ≡ 1 + steps_to to (ancestors links k parent))) e
    (ap (through to) a ∙ rw (ne_eqb d to n) refl, ap (steps_to to) a ∙ rw (ne_eqb d to n) (omega arith))

pub walk_met : (links : List Link) (m d : ℕ) → has_root (ancestors links m d) ≡ true
    → (through d (ancestors links m d) ≡ true) × (steps_to d (ancestors links m d) ≡ 0)
unfolding ancestors
walk_met links zero d h = absurd cc
walk_met links (suc m) d h = rw (eq-eqb d d refl) (refl, refl)

pub walk_past_root : (links : List Link) (to m : ℕ) → 1 ≢ to → through to (ancestors links m 1) ≡ false
unfolding ancestors
walk_past_root links to zero n = refl
walk_past_root links to (suc m) n = rw (ne_eqb 1 to n) refl

pub walk_stops : (links : List Link) (to m d : ℕ) → d ≢ to → parent_of links d ≡ None → through to (ancestors links m d) ≡ false
unfolding ancestors
walk_stops links to zero d n p = refl
walk_stops links to (suc m) d n p = rw (ne_eqb d to n, p)
    (elim (d == 1) as (λ b. through to (cond b [] (above (ancestors links m) None)) ≡ false) [ true ↦ refl | false ↦ refl ])

-- a way up has no more nodes than steps were tried
pub short : (links : List Link) (m q : ℕ) → length (ancestors links m q) ≤ m
unfolding ancestors
short links zero q = omega arith
short links (suc m) q =
    elim (q == 1) as (λ b. length (q ∷ cond b [] (above (ancestors links m) (parent_of links q))) ≤ suc m) [
      | true ↦ omega arith
      | false ↦ elim (parent_of links q) as
          (λ o. length (q ∷ above (ancestors links m) o) ≤ suc m) [ None ↦ omega arith | Some parent ↦ omega (arith, short links m parent) ]
    ]
