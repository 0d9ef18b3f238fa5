-- Looking up, putting and taking out a link, in the maps of names and in the list of the links.
use Rattle.std.proofs.Common.{◌≡◌, ℕ, List, [], ◌∷◌, ◌++◌, refl, ap, sym, ◌∙◌, subst, Bool, true, false, cond, not, arith, length, eqb}
use Rattle.std.specs.Prelude.{◌↔◌, None, Some, map}
use Rattle.std.specs.declared.cmp.Ordering.{Ordering}
use Rattle.std.specs.declared.cmp.Ordering.TheVariants.{Less, Equal, Greater}
use Rattle.std.specs.Ordering.{nat_cmp, is_eq, ordering_then, match_ordering}
use Rattle.std.specs.Cmp.{nat_cmp_total, eq_by_cmp_equiv}
use Rattle.std.specs.Cmp.Lexicographic.{slice_cmp}
use Rattle.std.specs.List.{AllByRecursion}
use Rattle.std.specs.List.Sorted.{IsStrictlySortedBy}
use Rattle.std.specs.Map.{keys_of, lookup, remove_entry, set_value}
use Rattle.std.specs.BTreeMap.{BTreeMap, is_at, insert_entry}
use Rattle.std.proofs.lemmas.Map.{NonePasses, lookup-none, none_passes_from_lookup}
use Rattle.std.proofs.lemmas.Map.Entries.{none_past_head, none_below_head}
use Rattle.std.proofs.lemmas.Map.Keys.{sorted_head, sorted_tail, IsDistinct-from_sorted}
use Rattle.std.proofs.lemmas.Map.Lookups.{exact_unsigned}
use borrow.Author.Tests.{eqb-true, eq-eqb, ne_eqb}
use Rattle.wu_tree.specs.FileSystems.{Place, Link, place_cmp, has_entries, entries_of}
use Rattle.wu_tree.specs.Nested.{links_at, links_in}

-- the test of a place
abbrev pub at_place : ℕ → List ℕ → Place → Bool
at_place d n = is_at (place_cmp (d, n))

then_no : (r s : Ordering) → is_eq r ≡ false → is_eq (ordering_then r s) ≡ false
then_no Less s h = refl
then_no Equal s h = absurd cc
then_no Greater s h = refl

is_equal : (r : Ordering) → is_eq r ≡ true → r ≡ Equal
is_equal Less h = absurd cc
is_equal Equal h = refl
is_equal Greater h = absurd cc

none_is_not_some : {T : Type 0} (x : T) → None ≡ Some x → ⊥
none_is_not_some x h = cc

-- the numbers that a test tells apart
apart : (d e : ℕ) → is_eq (nat_cmp d e) ≡ false → eqb e d ≡ false
apart d e h =
    elim (eqb e d) as (λ b. eqb e d ≡ b → b ≡ false) [
      | true ↦ λ p. absurd
          (let q : e ≡ d = eqb-true e d p in let r : is_eq (nat_cmp d d)
          ≡ true = (eq_by_cmp_equiv nat_cmp_total).refl d in let t : is_eq (nat_cmp d d)
          ≡ false = subst (λ x. is_eq (nat_cmp d x) ≡ false) q h in cc)
      | false ↦ λ p. refl
    ] refl

module _ {K : Type 0} (bytes : K → List ℕ) where
  abbrev pub at_name : List ℕ → K → Bool
  at_name n k = is_eq (slice_cmp nat_cmp n (bytes k))

  abbrev Maps : Type 0
  Maps = List (ℕ × BTreeMap K ℕ)

  -- no later map is that of a directory
  past : (d : ℕ) (e : ℕ × BTreeMap K ℕ) (ds : Maps) → IsStrictlySortedBy nat_cmp (keys_of (e ∷ ds)) → is_eq (nat_cmp d e.0) ≡ true
      → NonePasses (is_at (nat_cmp d)) ds
  past d e ds s h = none_past_head (eq_by_cmp_equiv nat_cmp_total) d e ds (IsDistinct-from_sorted nat_cmp _ s) h

  -- ---- looking up
  lookup_here : (d e : ℕ) (n : List ℕ) → nat_cmp d e ≡ Equal → (es : List (K × ℕ)) (rest : List Link)
      → lookup (at_place d n) rest ≡ None → lookup (at_place d n) (links_at bytes e es ++ rest) ≡ lookup (at_name n) es
  lookup_here d e n h [] rest r = r
  lookup_here d e n h (x ∷ es) rest r = rw h (ap (cond (at_name n x.0) (Some x.1)) (lookup_here d e n h es rest r))

  lookup_skip : (d e : ℕ) (n : List ℕ) → is_eq (nat_cmp d e) ≡ false → (es : List (K × ℕ)) (rest : List Link)
      → lookup (at_place d n) (links_at bytes e es ++ rest) ≡ lookup (at_place d n) rest
  lookup_skip d e n h [] rest = refl
  lookup_skip d e n h (x ∷ es) rest = rw (then_no (nat_cmp d e) (slice_cmp nat_cmp n (bytes x.0)) h) (lookup_skip d e n h es rest)

  lookup_no : (d : ℕ) (n : List ℕ) (ds : Maps) → NonePasses (is_at (nat_cmp d)) ds → lookup (at_place d n) (links_in bytes ds) ≡ None
  lookup_no d n [] h = refl
  lookup_no d n (e ∷ ds) h = lookup_skip d e.0 n h.0 e.1.entries (links_in bytes ds) ∙ lookup_no d n ds h.1

  pub lookup_none : (d : ℕ) (n : List ℕ) (ds : Maps) → lookup (is_at (nat_cmp d)) ds ≡ None
      → lookup (at_place d n) (links_in bytes ds) ≡ None
  lookup_none d n ds h = lookup_no d n ds (none_passes_from_lookup _ ds h)

  pub lookup_some : (d : ℕ) (n : List ℕ) (ds : Maps) (m : BTreeMap K ℕ) → IsStrictlySortedBy nat_cmp (keys_of ds)
      → lookup (is_at (nat_cmp d)) ds ≡ Some m → lookup (at_place d n) (links_in bytes ds) ≡ lookup (at_name n) m.entries
  lookup_some d n [] m s h = absurd cc
  lookup_some d n (e ∷ ds) m s h =
      elim (is_eq (nat_cmp d e.0)) as (λ b. is_eq (nat_cmp d e.0) ≡ b → cond b (Some e.1) (lookup (is_at (nat_cmp d)) ds) ≡ Some m
      → lookup (at_place d n) (links_in bytes (e ∷ ds)) ≡ lookup (at_name n) m.entries) [
        | true ↦ λ p q.
            let same : e.1 ≡ m = cc in
            lookup_here d e.0 n (is_equal _ p) e.1.entries _ (lookup_no d n ds (past d e ds s p))
            ∙ ap (λ (v : BTreeMap K ℕ). lookup (at_name n) v.entries) same
        | false ↦ λ p q. lookup_skip d e.0 n p e.1.entries _ ∙ lookup_some d n ds m (sorted_tail nat_cmp _ _ s) q
      ] refl h

  -- ---- whether a directory has entries
  any_skip : (d e : ℕ) → is_eq (nat_cmp d e) ≡ false → (es : List (K × ℕ)) (rest : List Link)
      → has_entries (links_at bytes e es ++ rest) d ≡ has_entries rest d
  any_skip d e h [] rest = refl
  any_skip d e h (x ∷ es) rest = rw (apart d e h) (any_skip d e h es rest)

  any_no : (d : ℕ) (ds : Maps) → NonePasses (is_at (nat_cmp d)) ds → has_entries (links_in bytes ds) d ≡ false
  any_no d [] h = refl
  any_no d (e ∷ ds) h = any_skip d e.0 h.0 e.1.entries (links_in bytes ds) ∙ any_no d ds h.1

  pub any_none : (d : ℕ) (ds : Maps) → lookup (is_at (nat_cmp d)) ds ≡ None → has_entries (links_in bytes ds) d ≡ false
  any_none d ds h = any_no d ds (none_passes_from_lookup _ ds h)

  any_here : (d e : ℕ) → nat_cmp d e ≡ Equal → (es : List (K × ℕ)) (rest : List Link)
      → has_entries rest d ≡ false → has_entries (links_at bytes e es ++ rest) d ≡ not (eqb (length es) 0)
  any_here d e h [] rest r = r
  any_here d e h (x ∷ es) rest r =
      let same : e ≡ d = sym (exact_unsigned d e h) in rw (eq-eqb e d same) (sym (ap not (ne_eqb (length (x ∷ es)) 0 (λ q. omega arith))))

  pub any_some : (d : ℕ) (ds : Maps) (m : BTreeMap K ℕ) → IsStrictlySortedBy nat_cmp (keys_of ds)
      → lookup (is_at (nat_cmp d)) ds ≡ Some m → has_entries (links_in bytes ds) d ≡ not (eqb (length m.entries) 0)
  any_some d [] m s h = absurd cc
  any_some d (e ∷ ds) m s h =
      elim (is_eq (nat_cmp d e.0)) as (λ b. is_eq (nat_cmp d e.0) ≡ b → cond b (Some e.1) (lookup (is_at (nat_cmp d)) ds) ≡ Some m
      → has_entries (links_in bytes (e ∷ ds)) d ≡ not (eqb (length m.entries) 0)) [
        | true ↦ λ p q.
            let same : e.1 ≡ m = cc in
            any_here d e.0 (is_equal _ p) e.1.entries _ (any_no d ds (past d e ds s p))
            ∙ ap (λ (v : BTreeMap K ℕ). not (eqb (length v.entries) 0)) same
        | false ↦ λ p q. any_skip d e.0 p e.1.entries _ ∙ any_some d ds m (sorted_tail nat_cmp _ _ s) q
      ] refl h

  -- ---- the entries of a directory
  abbrev pub named_in : List (K × ℕ) → List (List ℕ × ℕ)
  named_in es = map (λ e. (bytes e.0, e.1)) es

  entries_skip : (d e : ℕ) → is_eq (nat_cmp d e) ≡ false → (es : List (K × ℕ)) (rest : List Link)
      → entries_of (links_at bytes e es ++ rest) d ≡ entries_of rest d
  entries_skip d e h [] rest = refl
  entries_skip d e h (x ∷ es) rest = rw (apart d e h) (entries_skip d e h es rest)

  entries_no : (d : ℕ) (ds : Maps) → NonePasses (is_at (nat_cmp d)) ds → entries_of (links_in bytes ds) d ≡ []
  entries_no d [] h = refl
  entries_no d (e ∷ ds) h = entries_skip d e.0 h.0 e.1.entries (links_in bytes ds) ∙ entries_no d ds h.1

  pub entries_none : (d : ℕ) (ds : Maps) → lookup (is_at (nat_cmp d)) ds ≡ None → entries_of (links_in bytes ds) d ≡ []
  entries_none d ds h = entries_no d ds (none_passes_from_lookup _ ds h)

  entries_here : (d e : ℕ) → nat_cmp d e ≡ Equal → (es : List (K × ℕ)) (rest : List Link)
      → entries_of rest d ≡ [] → entries_of (links_at bytes e es ++ rest) d ≡ named_in es
  entries_here d e h [] rest r = r
  entries_here d e h (x ∷ es) rest r =
      let same : e
      ≡ d = sym (exact_unsigned d e h) in rw (eq-eqb e d same)
      (ap (λ (v : List (List ℕ × ℕ)). (bytes x.0, x.1) ∷ v) (entries_here d e h es rest r))

  pub entries_some : (d : ℕ) (ds : Maps) (m : BTreeMap K ℕ) → IsStrictlySortedBy nat_cmp (keys_of ds)
      → lookup (is_at (nat_cmp d)) ds ≡ Some m → entries_of (links_in bytes ds) d ≡ named_in m.entries
  entries_some d [] m s h = absurd cc
  entries_some d (e ∷ ds) m s h =
      elim (is_eq (nat_cmp d e.0)) as (λ b. is_eq (nat_cmp d e.0) ≡ b → cond b (Some e.1) (lookup (is_at (nat_cmp d)) ds) ≡ Some m
      → entries_of (links_in bytes (e ∷ ds)) d ≡ named_in m.entries) [
        | true ↦ λ p q.
            let same : e.1 ≡ m = cc in
            entries_here d e.0 (is_equal _ p) e.1.entries _ (entries_no d ds (past d e ds s p))
            ∙ ap (λ (v : BTreeMap K ℕ). named_in v.entries) same
        | false ↦ λ p q. entries_skip d e.0 p e.1.entries _ ∙ entries_some d ds m (sorted_tail nat_cmp _ _ s) q
      ] refl h

  -- ---- taking out
  remove_skip : (d e : ℕ) (n : List ℕ) → is_eq (nat_cmp d e) ≡ false → (es : List (K × ℕ)) (rest : List Link)
      → remove_entry (at_place d n) (links_at bytes e es ++ rest) ≡ links_at bytes e es ++ remove_entry (at_place d n) rest
  remove_skip d e n h [] rest = refl
  remove_skip d e n h (x ∷ es) rest =
      rw (then_no (nat_cmp d e) (slice_cmp nat_cmp n (bytes x.0)) h)
      (ap (λ (v : List Link). ((e, bytes x.0), x.1) ∷ v) (remove_skip d e n h es rest))

  remove_no : (d : ℕ) (n : List ℕ) (ds : Maps) → NonePasses (is_at (nat_cmp d)) ds
      → remove_entry (at_place d n) (links_in bytes ds) ≡ links_in bytes ds
  remove_no d n [] h = refl
  remove_no d n (e ∷ ds) h = remove_skip d e.0 n h.0 e.1.entries (links_in bytes ds)
      ∙ ap (λ (v : List Link). links_at bytes e.0 e.1.entries ++ v) (remove_no d n ds h.1)

  pub remove_none : (d : ℕ) (n : List ℕ) (ds : Maps) → lookup (is_at (nat_cmp d)) ds ≡ None
      → links_in bytes ds ≡ remove_entry (at_place d n) (links_in bytes ds)
  remove_none d n ds h = sym (remove_no d n ds (none_passes_from_lookup _ ds h))

  remove_here : (d e : ℕ) (n : List ℕ) → nat_cmp d e ≡ Equal → (es : List (K × ℕ)) (rest : List Link)
      → remove_entry (at_place d n) rest ≡ rest
      → remove_entry (at_place d n) (links_at bytes e es ++ rest) ≡ links_at bytes e (remove_entry (at_name n) es) ++ rest
  remove_here d e n h [] rest r = r
  remove_here d e n h (x ∷ es) rest r =
      elim (at_name n x.0) as
      (λ b. at_name n x.0 ≡ b
      → remove_entry (at_place d n) (links_at bytes e (x ∷ es) ++ rest) ≡ links_at bytes e (cond b es (x ∷ remove_entry (at_name n) es))
      ++ rest) [
        | true ↦ λ p. rw (h, p) refl
        | false ↦ λ p. rw (h, p) (ap (λ (v : List Link). ((e, bytes x.0), x.1) ∷ v) (remove_here d e n h es rest r))
      ] refl

  pub remove_some : (d : ℕ) (n : List ℕ) (ds : Maps) (m m' : BTreeMap K ℕ) → IsStrictlySortedBy nat_cmp (keys_of ds)
      → lookup (is_at (nat_cmp d)) ds ≡ Some m → m'.entries ≡ remove_entry (at_name n) m.entries
      → links_in bytes (set_value (is_at (nat_cmp d)) ds m') ≡ remove_entry (at_place d n) (links_in bytes ds)
  remove_some d n [] m m' s h k = absurd cc
  remove_some d n (e ∷ ds) m m' s h k =
      elim (is_eq (nat_cmp d e.0)) as (λ b. is_eq (nat_cmp d e.0) ≡ b → cond b (Some e.1) (lookup (is_at (nat_cmp d)) ds) ≡ Some m
      → links_in bytes (cond b ((e.0, m') ∷ ds) (e ∷ set_value (is_at (nat_cmp d)) ds m'))
      ≡ remove_entry (at_place d n) (links_in bytes (e ∷ ds))) [
        | true ↦ λ p q.
            let same : m ≡ e.1 = cc in
            let t : m'.entries ≡ remove_entry (at_name n) e.1.entries = k
            ∙ ap (λ (v : BTreeMap K ℕ). remove_entry (at_name n) v.entries) same in
            ap (λ (v : List (K × ℕ)). links_at bytes e.0 v ++ links_in bytes ds) t
            ∙ sym (remove_here d e.0 n (is_equal _ p) e.1.entries _ (remove_no d n ds (past d e ds s p)))
        | false ↦ λ p q. ap (λ (v : List Link). links_at bytes e.0 e.1.entries ++ v)
            (remove_some d n ds m m' (sorted_tail nat_cmp _ _ s) q k) ∙ sym (remove_skip d e.0 n p e.1.entries _)
      ] refl h

  -- ---- a directory whose links stay as they are
  pub same_links : (d : ℕ) (ds : Maps) (m m' : BTreeMap K ℕ) → lookup (is_at (nat_cmp d)) ds ≡ Some m → m'.entries ≡ m.entries
      → links_in bytes (set_value (is_at (nat_cmp d)) ds m') ≡ links_in bytes ds
  same_links d [] m m' h k = refl
  same_links d (e ∷ ds) m m' h k =
      elim (is_eq (nat_cmp d e.0)) as (λ b. cond b (Some e.1) (lookup (is_at (nat_cmp d)) ds) ≡ Some m
      → links_in bytes (cond b ((e.0, m') ∷ ds) (e ∷ set_value (is_at (nat_cmp d)) ds m')) ≡ links_in bytes (e ∷ ds)) [
        | true ↦ λ q.
            let same : m ≡ e.1 = cc in
            let t : m'.entries ≡ e.1.entries = k ∙ ap (λ (v : BTreeMap K ℕ). v.entries) same in
            ap (λ (v : List (K × ℕ)). links_at bytes e.0 v ++ links_in bytes ds) t
        | false ↦ λ q. ap (λ (v : List Link). links_at bytes e.0 e.1.entries ++ v) (same_links d ds m m' q k)
      ] h

  none_at : (d e : ℕ) → nat_cmp d e ≡ Equal → (es : List (K × ℕ)) (rest : List Link) → has_entries (links_at bytes e es ++ rest) d ≡ false
      → es ≡ []
  none_at d e h [] rest r = refl
  none_at d e h (x ∷ es) rest r = let same : e ≡ d = sym (exact_unsigned d e h) in let t : eqb e d
      ≡ true = eq-eqb e d same in absurd (let f : true ≡ false = rw t at r in cc)

  pub drop_empty : (d : ℕ) (ds : Maps) → has_entries (links_in bytes ds) d ≡ false
      → links_in bytes (remove_entry (is_at (nat_cmp d)) ds) ≡ links_in bytes ds
  drop_empty d [] h = refl
  drop_empty d (e ∷ ds) h =
      elim (is_eq (nat_cmp d e.0)) as
      (λ b. is_eq (nat_cmp d e.0) ≡ b
      → links_in bytes (cond b ds (e ∷ remove_entry (is_at (nat_cmp d)) ds)) ≡ links_in bytes (e ∷ ds)) [
        | true ↦ λ p. ap (λ (v : List (K × ℕ)). links_at bytes e.0 v ++ links_in bytes ds)
            (sym (none_at d e.0 (is_equal _ p) e.1.entries _ h))
        | false ↦ λ p. ap (λ (v : List Link). links_at bytes e.0 e.1.entries ++ v)
            (drop_empty d ds (sym (any_skip d e.0 p e.1.entries _) ∙ h))
      ] refl

  -- ---- putting, where k is the name as it is kept, and the kept names are in the order of their bytes
  module _ (kept : K → K → Ordering) (in_order : (x y : K) → kept x y ≡ slice_cmp nat_cmp (bytes x) (bytes y)) where
    put_before : (d e : ℕ) (n : List ℕ) (c : ℕ) → nat_cmp d e ≡ Greater → (es : List (K × ℕ)) (rest : List Link)
        → insert_entry place_cmp (links_at bytes e es ++ rest) (d, n) c ≡ links_at bytes e es ++ insert_entry place_cmp rest (d, n) c
    put_before d e n c h [] rest = refl
    put_before d e n c h (x ∷ es) rest = rw h (ap (λ (v : List Link). ((e, bytes x.0), x.1) ∷ v) (put_before d e n c h es rest))

    put_here : (d e : ℕ) (k : K) (c : ℕ) → nat_cmp d e ≡ Equal → (es : List (K × ℕ)) (rest : List Link)
        → insert_entry place_cmp rest (d, bytes k) c ≡ ((d, bytes k), c) ∷ rest
        → insert_entry place_cmp (links_at bytes e es ++ rest) (d, bytes k) c ≡ links_at bytes e (insert_entry kept es k c) ++ rest
    put_here d e k c h [] rest r = r ∙ ap (λ (v : ℕ). ((v, bytes k), c) ∷ rest) (exact_unsigned d e h)
    put_here d e k c h (x ∷ es) rest r =
        elim (slice_cmp nat_cmp (bytes k) (bytes x.0)) as (λ o. slice_cmp nat_cmp (bytes k) (bytes x.0) ≡ o
        → insert_entry place_cmp (links_at bytes e (x ∷ es) ++ rest) (d, bytes k) c
        ≡ links_at bytes e (match_ordering o ((k, c) ∷ x ∷ es) ((x.0, c) ∷ es) (x ∷ insert_entry kept es k c)) ++ rest) [
          | Less ↦ λ p. rw (h, p)
              (ap (λ (v : ℕ). ((v, bytes k), c) ∷ ((e, bytes x.0), x.1) ∷ links_at bytes e es ++ rest) (exact_unsigned d e h))
          | Equal ↦ λ p. rw (h, p) refl
          | Greater ↦ λ p. rw (h, p) (ap (λ (v : List Link). ((e, bytes x.0), x.1) ∷ v) (put_here d e k c h es rest r))
        ] refl ∙ ap
        (λ (o : Ordering). links_at bytes e (match_ordering o ((k, c) ∷ x ∷ es) ((x.0, c) ∷ es) (x ∷ insert_entry kept es k c)) ++ rest)
        (sym (in_order k x.0))

    put_first_at : (d : ℕ) (n : List ℕ) (c e : ℕ) → nat_cmp d e ≡ Less → (es : List (K × ℕ)) (rest : List Link)
        → insert_entry place_cmp rest (d, n) c ≡ ((d, n), c) ∷ rest
        → insert_entry place_cmp (links_at bytes e es ++ rest) (d, n) c ≡ ((d, n), c) ∷ links_at bytes e es ++ rest
    put_first_at d n c e h [] rest r = r
    put_first_at d n c e h (x ∷ es) rest r = rw h refl

    put_first : (d : ℕ) (n : List ℕ) (c : ℕ) (ds : Maps) → AllByRecursion (λ y. nat_cmp d y ≡ Less) (keys_of ds)
        → insert_entry place_cmp (links_in bytes ds) (d, n) c ≡ ((d, n), c) ∷ links_in bytes ds
    put_first d n c [] h = refl
    put_first d n c (e ∷ ds) h = put_first_at d n c e.0 h.0 e.1.entries (links_in bytes ds) (put_first d n c ds h.1)

    -- the keys past one that is at d are above d
    above_equal : (d : ℕ) (e : ℕ × BTreeMap K ℕ) (ds : Maps) → IsStrictlySortedBy nat_cmp (keys_of (e ∷ ds)) → nat_cmp d e.0 ≡ Equal
        → AllByRecursion (λ y. nat_cmp d y ≡ Less) (keys_of ds)
    above_equal d e ds s h = subst (λ x. AllByRecursion (λ y. nat_cmp x y ≡ Less) (keys_of ds)) (sym (exact_unsigned d e.0 h))
        (sorted_head nat_cmp _ _ s)

    above_all : (d e : ℕ) (ks : List ℕ) → nat_cmp d e ≡ Less → AllByRecursion (λ y. nat_cmp e y ≡ Less) ks
        → AllByRecursion (λ y. nat_cmp d y ≡ Less) ks
    above_all d e [] h a = a
    above_all d e (k ∷ ks) h a = (nat_cmp_total.trans d e k h a.0, above_all d e ks h a.1)

    above_less : (d : ℕ) (e : ℕ × BTreeMap K ℕ) (ds : Maps) → IsStrictlySortedBy nat_cmp (keys_of (e ∷ ds)) → nat_cmp d e.0 ≡ Less
        → AllByRecursion (λ y. nat_cmp d y ≡ Less) (keys_of ds)
    above_less d e ds s h = above_all d e.0 (keys_of ds) h (sorted_head nat_cmp _ _ s)

    pub put_some : (d : ℕ) (k : K) (c : ℕ) (ds : Maps) (m m' : BTreeMap K ℕ) → IsStrictlySortedBy nat_cmp (keys_of ds)
        → lookup (is_at (nat_cmp d)) ds ≡ Some m → m'.entries ≡ insert_entry kept m.entries k c
        → links_in bytes (set_value (is_at (nat_cmp d)) ds m') ≡ insert_entry place_cmp (links_in bytes ds) (d, bytes k) c
    put_some d k c [] m m' s h t = absurd cc
    put_some d k c (e ∷ ds) m m' s h t =
        elim (nat_cmp d e.0) as (λ o. nat_cmp d e.0 ≡ o → cond (is_eq o) (Some e.1) (lookup (is_at (nat_cmp d)) ds) ≡ Some m
        → links_in bytes (cond (is_eq o) ((e.0, m') ∷ ds) (e ∷ set_value (is_at (nat_cmp d)) ds m'))
        ≡ insert_entry place_cmp (links_in bytes (e ∷ ds)) (d, bytes k) c) [
          | Less ↦ λ p q. let n : lookup (is_at (nat_cmp d)) ds
              ≡ None = lookup-none (is_at (nat_cmp d)) ds (none_below_head nat_cmp_total d e ds s p).1 in absurd
              (none_is_not_some m (sym n ∙ q))
          | Equal ↦ λ p q.
              let same : m ≡ e.1 = cc in
              let u : m'.entries ≡ insert_entry kept e.1.entries k c = t
              ∙ ap (λ (v : BTreeMap K ℕ). insert_entry kept v.entries k c) same in
              ap (λ (v : List (K × ℕ)). links_at bytes e.0 v ++ links_in bytes ds) u
              ∙ sym (put_here d e.0 k c p e.1.entries _ (put_first d (bytes k) c ds (above_equal d e ds s p)))
          | Greater ↦ λ p q. ap (λ (v : List Link). links_at bytes e.0 e.1.entries ++ v)
              (put_some d k c ds m m' (sorted_tail nat_cmp _ _ s) q t) ∙ sym (put_before d e.0 (bytes k) c p e.1.entries _)
        ] refl h

    pub put_new : (d : ℕ) (k : K) (c : ℕ) (ds : Maps) (m : BTreeMap K ℕ) → IsStrictlySortedBy nat_cmp (keys_of ds)
        → has_entries (links_in bytes ds) d ≡ false → m.entries ≡ (k, c) ∷ []
        → links_in bytes (insert_entry nat_cmp ds d m) ≡ insert_entry place_cmp (links_in bytes ds) (d, bytes k) c
    put_new d k c [] m s h t = ap (λ (v : List (K × ℕ)). links_at bytes d v ++ []) t
    put_new d k c (e ∷ ds) m s h t =
        elim (nat_cmp d e.0) as (λ o. nat_cmp d e.0 ≡ o
        → links_in bytes (match_ordering o ((d, m) ∷ e ∷ ds) ((e.0, m) ∷ ds) (e ∷ insert_entry nat_cmp ds d m))
        ≡ insert_entry place_cmp (links_in bytes (e ∷ ds)) (d, bytes k) c) [
          | Less ↦ λ p. ap (λ (v : List (K × ℕ)). links_at bytes d v ++ links_in bytes (e ∷ ds)) t
              ∙ sym (put_first d (bytes k) c (e ∷ ds) (p, above_less d e ds s p))
          | Equal ↦ λ p.
              let gone : e.1.entries ≡ [] = none_at d e.0 p e.1.entries _ h in
              ap (λ (v : List (K × ℕ)). links_at bytes e.0 v ++ links_in bytes ds) t
              ∙ ap (λ (v : ℕ). ((v, bytes k), c) ∷ links_in bytes ds) (sym (exact_unsigned d e.0 p))
              ∙ sym (put_first d (bytes k) c ds (above_equal d e ds s p))
              ∙ ap (λ (v : List (K × ℕ)). insert_entry place_cmp (links_at bytes e.0 v ++ links_in bytes ds) (d, bytes k) c) (sym gone)
          | Greater ↦ λ p. ap (λ (v : List Link). links_at bytes e.0 e.1.entries ++ v)
              (put_new d k c ds m (sorted_tail nat_cmp _ _ s) (sym (any_skip d e.0 (ap is_eq p) e.1.entries _) ∙ h) t)
              ∙ sym (put_before d e.0 (bytes k) c p e.1.entries _)
        ] refl

-- what `is_empty` answers
pub not_empty : (b : Bool) (n : ℕ) → (b ≡ true) ↔ (n ≡ 0) → not b ≡ not (eqb n 0)
not_empty true n h = ap not (sym (eq-eqb n 0 (h.0 refl)))
not_empty false n h = ap not (sym (ne_eqb n 0 (λ e. let f : false ≡ true = h.1 e in cc)))
