-- Links by directory: those of the first directory, and the others.
use Rattle.std.proofs.Common.{◌≡◌, ℕ, zero, suc, ◌<◌, ◌≤◌, List, [], ◌∷◌, ◌++◌, length, get_or, take, drop, refl, ap, sym, ◌∙◌, subst, Bool}
use Rattle.std.proofs.Common.{true, false, cond, append_assoc, append-nil, length-take, arith}
use Rattle.std.specs.Prelude.{map, nat_lt, nat_le, ◌==◌}
use Rattle.std.specs.declared.cmp.Ordering.{Ordering}
use Rattle.std.specs.declared.cmp.Ordering.TheVariants.{Less, Equal, Greater}
use Rattle.std.specs.Ordering.{nat_cmp, ordering_then}
use Rattle.std.specs.Cmp.{nat_cmp_total, IsTotalOrder}
use Rattle.std.specs.Cmp.Lexicographic.{slice_cmp}
use Rattle.std.specs.List.{AllByRecursion, AllWithin}
use Rattle.std.specs.List.Sorted.{IsStrictlySortedBy, IsNonDecreasingBy, IsPartitionPoint}
use Rattle.std.specs.Map.{keys_of}
use Rattle.std.specs.BTreeMap.{BTreeMap}
use Rattle.std.proofs.lemmas.Cmp.{tied_itself}
use Rattle.std.proofs.lemmas.List.{map-append, take-append-drop}
use borrow.Author.Tests.{ltb-true, lt-ltb, leb-true, leb-false, eqb-true}
use Rattle.wu_base.proofs.EachLemmas.{each_left}
use Rattle.wu_tree.specs.declared.events.LinkRec.{LinkRec}
use Rattle.wu_tree.specs.FileSystems.{Link, Place, place_cmp}
use Rattle.wu_tree.specs.Lists.{IsFirstRun, link_of, named_child}
use Rattle.wu_tree.specs.Nested.{links_at, links_in}

-- ---- parts of what is in order
module _ {K : Type 0} (c : K → K → Ordering) where
  pub sorted_front : (xs ys : List K) → IsStrictlySortedBy c (xs ++ ys) → IsStrictlySortedBy c xs
  unfolding IsStrictlySortedBy
  sorted_front [] ys s = tt
  sorted_front (x ∷ xs) ys s = (each_left (λ y. c x y ≡ Less) xs ys s.0, sorted_front xs ys s.1)

  pub sorted_back : (xs ys : List K) → IsStrictlySortedBy c (xs ++ ys) → IsStrictlySortedBy c ys
  unfolding IsStrictlySortedBy
  sorted_back [] ys s = s
  sorted_back (x ∷ xs) ys s = sorted_back xs ys s.1

  -- one key more at the end, above the last
  pub sorted_further : IsTotalOrder c → (ks : List K) (k q : K) → IsStrictlySortedBy c (ks ++ k ∷ []) → c k q ≡ Less
      → IsStrictlySortedBy c ((ks ++ k ∷ []) ++ q ∷ [])
  unfolding IsStrictlySortedBy
  sorted_further o [] k q s h = ((h, tt), (tt, tt))
  sorted_further o (x ∷ ks) k q s h = (below_all x ks s.0, sorted_further o ks k q s.1 h)
    where
      below_all : (x : K) (ks : List K) → AllByRecursion (λ y. c x y ≡ Less) (ks ++ k ∷ [])
          → AllByRecursion (λ y. c x y ≡ Less) ((ks ++ k ∷ []) ++ q ∷ [])
      below_all x [] a = (a.0, (o.trans x k q a.0 h, tt))
      below_all x (y ∷ ks) a = (a.0, below_all x ks a.1)

  -- keys that are compared by what f reads of them
  pub sorted_by : {B : Type 0} (f : B → K) (ks : List B) → IsStrictlySortedBy c (map f ks) → IsStrictlySortedBy (λ x y. c (f x) (f y)) ks
  unfolding IsStrictlySortedBy
  sorted_by f [] s = tt
  sorted_by f (k ∷ ks) s = (each k ks s.0, sorted_by f ks s.1)
    where
      each : (k : _) (ks : List _) → AllByRecursion (λ y. c (f k) y ≡ Less) (map f ks) → AllByRecursion (λ y. c (f k) (f y) ≡ Less) ks
      each k [] a = tt
      each k (y ∷ ks) a = (a.0, each k ks a.1)

-- ---- the parents of links in order don't fall
less_is_below : (a b : ℕ) (r : Ordering) → ordering_then (nat_cmp a b) r ≡ Less → a ≤ b
less_is_below a b r h =
    elim (nat_lt a b) as (λ t. nat_lt a b ≡ t → ordering_then (cond t Less (cond (a == b) Equal Greater)) r ≡ Less → a ≤ b) [
      | true ↦ λ p q. omega (arith, ltb-true a b p)
      | false ↦ λ p q. elim (a == b) as (λ t. (a == b) ≡ t → ordering_then (cond t Equal Greater) r ≡ Less → a ≤ b) [
        | true ↦ λ e f. omega (arith, eqb-true a b e)
        | false ↦ λ e f. absurd cc
      ] refl q
    ] refl h

pub rising : (links : List LinkRec) → IsStrictlySortedBy place_cmp (keys_of (map link_of links))
    → IsNonDecreasingBy (λ (l : LinkRec). l.parent) links
unfolding IsStrictlySortedBy
rising [] s i j d h l = absurd (omega arith)
rising (x ∷ links) s zero zero d h l = omega arith
rising (x ∷ links) s zero (suc j) d h l = first links j d (omega arith) s.0
  where
    first : (links : List LinkRec) (j : ℕ) (d : LinkRec) → j < length links
        → AllByRecursion (λ p. place_cmp (x.parent, x.name) p ≡ Less) (keys_of (map link_of links)) → x.parent ≤ (get_or links j d).parent
    first [] j d l a = absurd (omega arith)
    first (y ∷ links) zero d l a = less_is_below x.parent y.parent (slice_cmp nat_cmp x.name y.name) a.0
    first (y ∷ links) (suc j) d l a = first links j d (omega arith) a.1
rising (x ∷ links) s (suc i) zero d h l = absurd (omega arith)
rising (x ∷ links) s (suc i) (suc j) d h l = rising links s.1 i j d (omega arith) (omega arith)

-- ---- the links of the first directory
module _ {X : Type 0} (P : X → Type 0) where
  front_all : (xs : List X) (n : ℕ) → n ≤ length xs → AllWithin P xs 0 n → AllByRecursion P (take n xs)
  front_all xs zero l a = tt
  front_all [] (suc n) l a = absurd (omega arith)
  front_all (x ∷ xs) (suc n) l a = (
    a zero x (omega arith) (omega arith),
    front_all xs n (omega arith)
        (λ k d i h. a (suc k) d (omega arith) (omega arith)),
  )

  back_all : (xs : List X) (n : ℕ) → AllWithin P xs n (length xs) → AllByRecursion P (drop n xs)
  back_all [] zero a = tt
  back_all [] (suc n) a = tt
  back_all (x ∷ xs) zero a = (a zero x (omega arith) (omega arith), back_all xs zero (λ k d i h. a (suc k) d (omega arith) (omega arith)))
  back_all (x ∷ xs) (suc n) a = back_all xs n (λ k d i h. a (suc k) d (omega arith) (omega arith))

module _ (links : List LinkRec) (first : LinkRec) (n : ℕ) (s : IsStrictlySortedBy place_cmp (keys_of (map link_of links)))
    (there : 0 < length links) (is : (d : LinkRec) → get_or links 0 d ≡ first) (l : n ≤ length links)
    (p : IsPartitionPoint (λ (k : LinkRec). nat_le k.parent first.parent ≡ true)
    (λ (k : LinkRec). nat_le k.parent first.parent ≡ false) links n) where
  lowest : (k : ℕ) (d : LinkRec) → k < length links → first.parent ≤ (get_or links k d).parent
  lowest k d h = subst (λ (f : LinkRec). f.parent ≤ (get_or links k d).parent) (is d) (rising links s 0 k d (omega arith) h)

  some : (k : ℕ) → AllWithin (λ (j : LinkRec). nat_le j.parent first.parent ≡ false) links k (length links) → 0 < k
  some zero a =
      let h : first.parent < first.parent = omega (
        arith,
        leb-false first.parent first.parent
            (subst (λ (f : LinkRec). nat_le f.parent first.parent ≡ false) (is first) (a 0 first (omega arith) there)),
      ) in absurd (omega arith)
  some (suc k) a = omega arith

  pub first_run : IsFirstRun links first.parent (take n links) (drop n links)
  first_run = record {
    all = sym (take-append-drop n links);
    some = omega (arith, length-take n links, some n p.1);
    here = front_all (λ k. k.parent ≡ first.parent) links n l
        (λ k d i h. omega (arith, leb-true (get_or links k d).parent first.parent (p.0 k d i h), lowest k d (omega arith)));
    later = back_all (λ k. first.parent < k.parent) links n
        (λ k d i h. omega (arith, leb-false (get_or links k d).parent first.parent (p.1 k d i h)));
  }

-- ---- what is kept of them
same_directory : (a b : ℕ) (r : Ordering) → a ≡ b → ordering_then (nat_cmp a b) r ≡ Less → r ≡ Less
same_directory a b r e h =
    let t : nat_cmp a b ≡ Equal = subst (λ (x : ℕ). nat_cmp a x ≡ Equal) e (tied_itself nat_cmp_total a) in
    ap (λ (o : Ordering). ordering_then o r) (sym t) ∙ h

pub names_ascend : (directory : ℕ) (links : List LinkRec) → AllByRecursion (λ l. l.parent ≡ directory) links
    → IsStrictlySortedBy place_cmp (keys_of (map link_of links)) → IsStrictlySortedBy (slice_cmp nat_cmp) (map (λ l. l.name) links)
unfolding IsStrictlySortedBy
names_ascend directory [] a s = tt
names_ascend directory (l ∷ links) a s = (each links a.1 s.0, names_ascend directory links a.1 s.1)
  where
    each : (links : List LinkRec) → AllByRecursion (λ l. l.parent ≡ directory) links
        → AllByRecursion (λ p. place_cmp (l.parent, l.name) p ≡ Less) (keys_of (map link_of links))
        → AllByRecursion (λ n. slice_cmp nat_cmp l.name n ≡ Less) (map (λ l. l.name) links)
    each [] b h = tt
    each (m ∷ links) b h = (same_directory l.parent m.parent (slice_cmp nat_cmp l.name m.name) (a.0 ∙ sym b.0) h.0, each links b.1 h.1)

module _ {K : Type 0} (bytes : K → List ℕ) where
  at_named : (d : ℕ) (es : List (K × ℕ))
      → links_at bytes d es ≡ map (λ (e : List ℕ × ℕ). ((d, e.0), e.1)) (map (λ (e : K × ℕ). (bytes e.0, e.1)) es)
  at_named d [] = refl
  at_named d (e ∷ es) = ap (λ (l : List Link). ((d, bytes e.0), e.1) ∷ l) (at_named d es)

  named_at : (d : ℕ) (links : List LinkRec) → AllByRecursion (λ l. l.parent ≡ d) links
      → map (λ (e : List ℕ × ℕ). ((d, e.0), e.1)) (map named_child links) ≡ map link_of links
  named_at d [] a = refl
  named_at d (l ∷ links) a =
      ap (λ (q : ℕ). ((q, l.name), l.child) ∷ map (λ (e : List ℕ × ℕ). ((d, e.0), e.1)) (map named_child links)) (sym a.0)
      ∙ ap (λ (r : List Link). link_of l ∷ r) (named_at d links a.1)

  links_in-push : (ds : List (ℕ × BTreeMap K ℕ)) (d : ℕ) (m : BTreeMap K ℕ)
      → links_in bytes (ds ++ (d, m) ∷ []) ≡ links_in bytes ds ++ links_at bytes d m.entries
  links_in-push [] d m = append-nil (links_at bytes d m.entries)
  links_in-push (e ∷ ds) d m =
      ap (λ (l : List Link). links_at bytes e.0 e.1.entries ++ l) (links_in-push ds d m)
      ∙ sym (append_assoc (links_at bytes e.0 e.1.entries) (links_in bytes ds) (links_at bytes d m.entries))

  -- directories with all the links but the rest, which stand in later ones
  pub record AreKept (links : List LinkRec) (ds : List (ℕ × BTreeMap K ℕ)) (rest : List LinkRec) : Type 0 where
    pub all : links_in bytes ds ++ map link_of rest ≡ map link_of links
    pub in_order : IsStrictlySortedBy place_cmp (keys_of (map link_of rest))
    pub directories : IsStrictlySortedBy nat_cmp (keys_of ds)
    pub above : AllByRecursion (λ l. IsStrictlySortedBy nat_cmp (keys_of ds ++ l.parent ∷ [])) rest

  pub none_kept : (links : List LinkRec) → IsStrictlySortedBy place_cmp (keys_of (map link_of links)) → AreKept links [] links
  unfolding IsStrictlySortedBy
  none_kept links s = record { all = refl; in_order = s; directories = tt; above = each links }
    where
      each : (links : List LinkRec) → AllByRecursion (λ l. IsStrictlySortedBy nat_cmp ([] ++ l.parent ∷ [])) links
      each [] = tt
      each (l ∷ links) = ((tt, tt), each links)

  module _ (links : List LinkRec) (ds : List (ℕ × BTreeMap K ℕ)) (rest these others : List LinkRec) (d : ℕ)
      (k : AreKept links ds rest) (r : IsFirstRun rest d these others) where
    abbrev keys : List LinkRec → List Place
    keys ls = keys_of (map link_of ls)

    parted : keys rest ≡ keys these ++ keys others
    parted = ap keys r.all ∙ ap keys_of (map-append link_of these others)
        ∙ map-append (λ (l : Link). l.0) (map link_of these) (map link_of others)

    these_in_order : IsStrictlySortedBy place_cmp (keys these)
    these_in_order = sorted_front place_cmp (keys these) (keys others)
        (subst (λ (ps : List Place). IsStrictlySortedBy place_cmp ps) parted k.in_order)

    pub these_ascend : IsStrictlySortedBy (slice_cmp nat_cmp) (map (λ (l : LinkRec). l.name) these)
    these_ascend = names_ascend d these r.here these_in_order

    directory_above : IsStrictlySortedBy nat_cmp (keys_of ds ++ d ∷ [])
    directory_above = next these r.some r.here
        (each_left (λ (l : LinkRec). IsStrictlySortedBy nat_cmp (keys_of ds ++ l.parent ∷ [])) these others
        (subst (λ (ls : List LinkRec). AllByRecursion (λ l. IsStrictlySortedBy nat_cmp (keys_of ds ++ l.parent ∷ [])) ls) r.all k.above))
      where
        next : (ls : List LinkRec) → 0 < length ls → AllByRecursion (λ l. l.parent ≡ d) ls
            → AllByRecursion (λ l. IsStrictlySortedBy nat_cmp (keys_of ds ++ l.parent ∷ [])) ls
            → IsStrictlySortedBy nat_cmp (keys_of ds ++ d ∷ [])
        next [] n h a = absurd (omega arith)
        next (l ∷ ls) n h a = subst (λ (q : ℕ). IsStrictlySortedBy nat_cmp (keys_of ds ++ q ∷ [])) h.0 a.0

    module _ (m : BTreeMap K ℕ) where
      pushed : keys_of (ds ++ (d, m) ∷ []) ≡ keys_of ds ++ d ∷ []
      pushed = map-append (λ (e : ℕ × BTreeMap K ℕ). e.0) ds ((d, m) ∷ [])

      others_above : (ls : List LinkRec) → AllByRecursion (λ l. d < l.parent) ls
          → AllByRecursion (λ l. IsStrictlySortedBy nat_cmp (keys_of (ds ++ (d, m) ∷ []) ++ l.parent ∷ [])) ls
      others_above [] a = tt
      others_above (l ∷ ls) a = (
        subst (λ (ks : List ℕ). IsStrictlySortedBy nat_cmp (ks ++ l.parent ∷ [])) (sym pushed)
            (sorted_further nat_cmp nat_cmp_total (keys_of ds) d l.parent directory_above (below d l.parent a.0)),
        others_above ls a.1,
      )
        where
          below : (a b : ℕ) → a < b → nat_cmp a b ≡ Less
          below a b h = ap (λ (t : Bool). cond t Less (cond (a == b) Equal Greater)) (lt-ltb a b h)

      pub kept_more : map (λ (e : K × ℕ). (bytes e.0, e.1)) m.entries ≡ map named_child these → AreKept links (ds ++ (d, m) ∷ []) others
      kept_more h = record {
        all = ap (λ (l : List Link). l ++ map link_of others)
            (links_in-push ds d m
            ∙ ap (λ (l : List Link). links_in bytes ds ++ l)
            (at_named d m.entries ∙ ap (λ (l : List (List ℕ × ℕ)). map (λ (e : List ℕ × ℕ). ((d, e.0), e.1)) l) h
            ∙ named_at d these r.here))
            ∙ append_assoc (links_in bytes ds) (map link_of these) (map link_of others)
            ∙ ap (λ (l : List Link). links_in bytes ds ++ l) (sym (map-append link_of these others) ∙ ap (map link_of) (sym r.all))
            ∙ k.all;
        in_order = sorted_back place_cmp (keys these) (keys others)
            (subst (λ (ps : List Place). IsStrictlySortedBy place_cmp ps) parted k.in_order);
        directories = subst (λ (ks : List ℕ). IsStrictlySortedBy nat_cmp ks) (sym pushed) directory_above;
        above = others_above others r.later;
      }
