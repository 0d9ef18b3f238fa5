-- The files of a view as they are seen: by their numbers, and in which order.
use Rattle.std.proofs.Common.{◌≡◌, ℕ, ◌+◌, ◌<◌, ◌≤◌, List, [], ◌∷◌, length, refl, ap, sym}
use Rattle.std.proofs.Common.{◌∙◌, subst, arith, inl, inr, ⊎_elim}
use Rattle.std.specs.Prelude.{map}
use Rattle.std.specs.List.{AllByRecursion}
use Rattle.std.specs.List.Sorted.{IsStrictlySortedBy}
use Rattle.std.specs.Cmp.Lexicographic.{slice_cmp}
use Rattle.std.specs.Ordering.{nat_cmp, ordering_then}
use Rattle.std.specs.declared.cmp.Ordering.{Ordering}
use Rattle.std.specs.declared.cmp.Ordering.TheVariants.{Less}
use Rattle.wu_base.proofs.Members.{Has, Has-append_cases, Has-append_left, Has-append_right, Has-map}
use Rattle.wu_view.specs.declared.Seen.{Seen}
use Rattle.wu_view.specs.Views.{first_of, path_cmp, seen_cmp}
use Rattle.wu_export.specs.declared.Shown.{Shown}
use Rattle.wu_export.specs.Rebuilding.{seen_from}
use Rattle.wu_export.proofs.ExportedPaths.{pair_has, pairs_from, pairs_of}

-- ---- files by their numbers

pub seen_number : (number : ℕ) (view : List Shown) (seen : Seen) → Has seen (seen_from number view)
    → (number ≤ seen.ino) × (seen.ino < number + length view)
seen_number number [] seen h = absurd h
seen_number number (shown ∷ view) seen h =
    ⊎_elim
    (λ (e : record { paths = shown.paths; ino = number } ≡ seen).
    let same : number ≡ seen.ino = ap (λ (s : Seen). s.ino) e in (omega (arith, same), omega (arith, same)))
    (λ (i : Has seen (seen_from (number + 1) view)).
    let r = seen_number (number + 1) view seen i in (omega (arith, r.0), omega (arith, r.1)))
    h

-- the pairs are the paths of those that are seen
pub seen_pair : (number : ℕ) (view : List Shown) (seen : Seen) (path : List ℕ) → Has seen (seen_from number view) → Has path seen.paths
    → Has (path, seen.ino) (pairs_from number view)
seen_pair number [] seen path h g = absurd h
seen_pair number (shown ∷ view) seen path h g =
    ⊎_elim
    (λ (e : record { paths = shown.paths; ino = number } ≡ seen).
    let there : Has path shown.paths = subst (λ (s : Seen). Has path s.paths) (sym e) g in
    let pair : Has (path, number) (pairs_of number shown.paths) = Has-map (λ (p : List ℕ). (p, number)) path shown.paths there in
    subst (λ (k : ℕ). Has (path, k) (pairs_from number (shown ∷ view))) (ap (λ (s : Seen). s.ino) e)
    (Has-append_left (path, number) (pairs_of number shown.paths) (pairs_from (number + 1) view) pair))
    (λ (i : Has seen (seen_from (number + 1) view)).
    Has-append_right (path, seen.ino) (pairs_of number shown.paths) (pairs_from (number + 1) view)
    (seen_pair (number + 1) view seen path i g))
    h

pub pair_seen : (number : ℕ) (view : List Shown) (path : List ℕ) (ino : ℕ) → Has (path, ino) (pairs_from number view)
    → (seen : Seen) × Has seen (seen_from number view) × (seen.ino ≡ ino) × Has path seen.paths
pair_seen number [] path ino h = absurd h
pair_seen number (shown ∷ view) path ino h =
    ⊎_elim
    (λ (l : Has (path, ino) (pairs_of number shown.paths)).
    let r = pair_has number shown.paths (path, ino) l in
    (record { paths = shown.paths; ino = number }, inl refl, r.1, r.0))
    (λ (i : Has (path, ino) (pairs_from (number + 1) view)).
    let r = pair_seen (number + 1) view path ino i in (r.0, inr r.1, r.2, r.3))
    (Has-append_cases (path, ino) (pairs_of number shown.paths) (pairs_from (number + 1) view) h)

-- no two have the same number
pub seen_once : (number : ℕ) (view : List Shown) (one other : Seen) → Has one (seen_from number view) → Has other (seen_from number view)
    → one.ino ≡ other.ino → one ≡ other
seen_once number [] one other h g e = absurd h
seen_once number (shown ∷ view) one other h g e =
    ⊎_elim
    (λ (a : record { paths = shown.paths; ino = number } ≡ one).
    let first : number ≡ one.ino = ap (λ (s : Seen). s.ino) a in
    ⊎_elim
    (λ (b : record { paths = shown.paths; ino = number } ≡ other). sym a ∙ b)
    (λ (j : Has other (seen_from (number + 1) view)).
    let r = (seen_number (number + 1) view other j).0 in absurd (omega (arith, r, first, e)))
    g)
    (λ (i : Has one (seen_from (number + 1) view)).
    ⊎_elim
    (λ (b : record { paths = shown.paths; ino = number } ≡ other).
    let first : number ≡ other.ino = ap (λ (s : Seen). s.ino) b in
    let r = (seen_number (number + 1) view one i).0 in absurd (omega (arith, r, first, e)))
    (λ (j : Has other (seen_from (number + 1) view)). seen_once (number + 1) view one other i j e)
    g)
    h

-- a fact of each file's paths
pub seen_all : (P : List (List ℕ) → Type 0) (number : ℕ) (view : List Shown) → AllByRecursion (λ (shown : Shown). P shown.paths) view
    → (seen : Seen) → Has seen (seen_from number view) → P seen.paths
seen_all P number [] a seen h = absurd h
seen_all P number (shown ∷ view) a seen h =
    ⊎_elim
    (λ (e : record { paths = shown.paths; ino = number } ≡ seen). subst (λ (s : Seen). P s.paths) e a.0)
    (λ (i : Has seen (seen_from (number + 1) view)). seen_all P (number + 1) view a.1 seen i)
    h

-- ---- their order

by_first : (ps qs : List (List ℕ)) (o : Ordering) → 1 ≤ length ps → 1 ≤ length qs → path_cmp (first_of ps) (first_of qs) ≡ Less
    → ordering_then (slice_cmp path_cmp ps qs) o ≡ Less
by_first [] qs o a b h = absurd (omega arith)
by_first (p ∷ ps) [] o a b h = absurd (omega arith)
by_first (p ∷ ps) (q ∷ qs) o a b h = ap (λ (r : Ordering). ordering_then (ordering_then r (slice_cmp path_cmp ps qs)) o) h

abbrev first_path : Shown → List ℕ
first_path shown = first_of shown.paths

all_later : (first : Shown) (n number : ℕ) (view : List Shown) → 1 ≤ length first.paths
    → AllByRecursion (λ (shown : Shown). 1 ≤ length shown.paths) view
    → AllByRecursion (λ (p : List ℕ). path_cmp (first_path first) p ≡ Less) (map first_path view)
    → AllByRecursion (λ (s : Seen). seen_cmp (record { paths = first.paths; ino = n }) s ≡ Less) (seen_from number view)
all_later first n number [] some a h = tt
all_later first n number (shown ∷ view) some a h =
    (by_first first.paths shown.paths (nat_cmp n number) some a.0 h.0, all_later first n (number + 1) view some a.1 h.1)

pub seen_ascend : (number : ℕ) (view : List Shown) → AllByRecursion (λ (shown : Shown). 1 ≤ length shown.paths) view
    → IsStrictlySortedBy path_cmp (map first_path view) → IsStrictlySortedBy seen_cmp (seen_from number view)
unfolding IsStrictlySortedBy
seen_ascend number [] a s = tt
seen_ascend number (shown ∷ view) a s = (all_later shown number (number + 1) view a.0 a.1 s.0, seen_ascend (number + 1) view a.1 s.1)
