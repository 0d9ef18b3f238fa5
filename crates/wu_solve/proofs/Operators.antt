-- What is made of two lists lists what is made of their sets.
use Rattle.std.proofs.Common.{◌≡◌, ℕ, Bool, true, false, cond, not, ◌&&◌, List, [], ◌∷◌, sym, ap, ◌∙◌, subst, inl, inr, arith}
use Rattle.std.specs.Cmp.{both_ways}
use Rattle.std.proofs.lemmas.Bool.{and_parts, and_from, true_from_ne_false, false_from_ne_true, not_from_false, false≢true}
use Rattle.std.specs.Prelude.{filter}
use Rattle.std.specs.List.{list_any, AllByRecursion}
use Rattle.wu_base.specs.declared.addresses.Extent.{Extent}
use Rattle.wu_gcl.specs.Extents.{holds, same_extent, some_extent, containing, contained_in, not_containing, not_contained_in, innermost}
use Rattle.wu_solve.specs.Listing.{IsBefore, IsAscending, Has, IsExtentIn, Lists}
use Rattle.wu_solve.specs.Merging.{holding, held}
use Rattle.wu_solve.proofs.Sets.{Holds, holds_means, holds_from, same_means, same_from, same_ends, found, finds, all_has, all_from}
use Rattle.wu_solve.proofs.Sets.{from_filter, to_filter}
use Rattle.wu_solve.proofs.Order.{some_found, some_from}

kept_ascending : (p : Extent → Bool) (x : Extent) (xs : List Extent) (test : Bool) → AllByRecursion (IsBefore x) xs
    → IsAscending (filter p xs) → IsAscending (cond test (x ∷ filter p xs) (filter p xs))
kept_ascending p x xs true all up =
    (all_from (IsBefore x) (filter p xs) (λ y has. all_has (IsBefore x) xs y all (from_filter p xs y has).0), up)
kept_ascending p x xs false all up = up

pub filter_ascending : (p : Extent → Bool) (xs : List Extent) → IsAscending xs → IsAscending (filter p xs)
filter_ascending p [] up = tt
filter_ascending p (x ∷ xs) up = kept_ascending p x xs (p x) up.0 (filter_ascending p xs up.1)

pub filter_lists : (n : ℕ) (set p : Extent → Bool) (xs : List Extent) → Lists n set xs → Lists n (λ x. set x && p x) (filter p xs)
filter_lists n set p xs lists = record {
  ascending = filter_ascending p xs lists.ascending;
  sound = λ x has. let f = from_filter p xs x has in let s = lists.sound x f.0 in (s.0, and_from (set x) (p x) s.1 f.1);
  complete = λ x is passes. let b = and_parts (set x) (p x) passes in to_filter p xs x (lists.complete x is b.0) b.1;
}

pub same_lists : (n : ℕ) (set other : Extent → Bool) (xs : List Extent) → ((x : Extent) → set x ≡ other x) → Lists n set xs
    → Lists n other xs
same_lists n set other xs same lists = record {
  ascending = lists.ascending;
  sound = λ x has. let s = lists.sound x has in (s.0, sym (same x) ∙ s.1);
  complete = λ x is passes. lists.complete x is (same x ∙ passes);
}

-- some extent of the set passes: one of its list
pub some_listed : (n : ℕ) (set q : Extent → Bool) (xs : List Extent) → Lists n set xs → list_any q xs ≡ some_extent n (λ y. q y && set y)
some_listed n set q xs lists = both_ways _ _
    (λ is. let f = found q xs is in let s = lists.sound f.0 f.1 in some_from n (λ y. q y && set y) f.0 s.0
    (and_from (q f.0) (set f.0) f.2 s.1))
    (λ is. let f = some_found n (λ y. q y && set y) is in let b = and_parts (q f.0) (set f.0) f.2 in finds q xs f.0
    (lists.complete f.0 f.1 b.1) b.0)

pub containing_listed : (n : ℕ) (left right : Extent → Bool) (ys zs : List Extent) → Lists n left ys → Lists n right zs
    → Lists n (containing n left right) (holding true ys zs)
unfolding containing
containing_listed n left right ys zs ly lz =
    same_lists n _ (containing n left right) _ (λ x. ap (λ (b : Bool). left x && b) (some_listed n right (λ y. holds x y) zs lz))
    (filter_lists n left (λ x. list_any (λ y. holds x y) zs) ys ly)

pub not_containing_listed : (n : ℕ) (left right : Extent → Bool) (ys zs : List Extent) → Lists n left ys → Lists n right zs
    → Lists n (not_containing n left right) (holding false ys zs)
unfolding not_containing
not_containing_listed n left right ys zs ly lz =
    same_lists n _ (not_containing n left right) _ (λ x. ap (λ (b : Bool). left x && not b) (some_listed n right (λ y. holds x y) zs lz))
    (filter_lists n left (λ x. not (list_any (λ y. holds x y) zs)) ys ly)

pub contained_in_listed : (n : ℕ) (left right : Extent → Bool) (ys zs : List Extent) → Lists n left ys → Lists n right zs
    → Lists n (contained_in n left right) (held true ys zs)
unfolding contained_in
contained_in_listed n left right ys zs ly lz =
    same_lists n _ (contained_in n left right) _ (λ x. ap (λ (b : Bool). left x && b) (some_listed n right (λ y. holds y x) zs lz))
    (filter_lists n left (λ x. list_any (λ y. holds y x) zs) ys ly)

pub not_contained_in_listed : (n : ℕ) (left right : Extent → Bool) (ys zs : List Extent) → Lists n left ys → Lists n right zs
    → Lists n (not_contained_in n left right) (held false ys zs)
unfolding not_contained_in
not_contained_in_listed n left right ys zs ly lz =
    same_lists n _ (not_contained_in n left right) _ (λ x. ap (λ (b : Bool). left x && not b) (some_listed n right (λ y. holds y x) zs lz))
    (filter_lists n left (λ x. not (list_any (λ y. holds y x) zs)) ys ly)

-- no extent of an ascending list holds another
pub no_other : (xs : List Extent) (x y : Extent) → IsAscending xs → Has xs x → Has xs y → Holds x y → x ≡ y
no_other [] x y up hx hy h = absurd hx
no_other (z ∷ zs) x y up (inl a) (inl b) h = sym a ∙ b
no_other (z ∷ zs) x y up (inl a) (inr b) h =
    let before : IsBefore x y = subst (λ (e : Extent). IsBefore e y) a (all_has (IsBefore z) zs y up.0 b) in
    absurd (omega (arith, before.ends, h.last))
no_other (z ∷ zs) x y up (inr a) (inl b) h =
    let before : IsBefore y x = subst (λ (e : Extent). IsBefore e x) b (all_has (IsBefore z) zs x up.0 a) in
    absurd (omega (arith, before.starts, h.start))
no_other (z ∷ zs) x y up (inr a) (inr b) h = no_other zs x y up.1 a b h

pub holds_through : (x y z : Extent) → Holds x y → Holds y z → Holds x z
holds_through x y z h k = record { start = omega (arith, h.start, k.start); last = omega (arith, h.last, k.last) }

-- An ascending list of extents of the set, of which each extent of the set holds one.
pub innermost_listed : (n : ℕ) (set : Extent → Bool) (xs : List Extent) → IsAscending xs →
    ((x : Extent) → Has xs x → IsExtentIn n x × (set x ≡ true)) →
    ((x : Extent) → IsExtentIn n x → set x ≡ true → (y : Extent) × Has xs y × Holds x y) →
    Lists n (innermost n set) xs
unfolding innermost
innermost_listed n set xs up sound dense = record {
  ascending = up;
  sound = λ x has.
      let s = sound x has in
      let alone : some_extent n (λ y. holds x y && not (same_extent x y) && set y) ≡ true → ⊥ =
      (λ (is : some_extent n (λ y. holds x y && not (same_extent x y) && set y) ≡ true).
      let f = some_found n (λ y. holds x y && not (same_extent x y) && set y) is in
      let y = f.0 in
      let b = and_parts (holds x y && not (same_extent x y)) (set y) f.2 in
      let c = and_parts (holds x y) (not (same_extent x y)) b.0 in
      let d = dense y f.1 b.1 in
      let h = holds_means x y c.0 in
      let is_x : x ≡ d.0 = no_other xs x d.0 up has d.1 (holds_through x y d.0 h d.2) in
      let back : Holds y x = subst (λ (e : Extent). Holds y e) (sym is_x) d.2 in
      let same : x ≡ y = same_ends x y (omega (arith, h.start, back.start)) (omega (arith, h.last, back.last)) in
      false≢true (sym (ap not (same_from x y same)) ∙ c.1)) in
      (s.0, and_from (set x) _ s.1 (not_from_false _ (false_from_ne_true _ alone)));
  complete = λ x is passes.
      let b = and_parts (set x) (not (some_extent n (λ y. holds x y && not (same_extent x y) && set y))) passes in
      let d = dense x is b.0 in
      let s = sound d.0 d.1 in
      let other : same_extent x d.0 ≡ false → ⊥ =
      (λ (differs : same_extent x d.0 ≡ false).
      false≢true (sym (ap not (some_from n (λ y. holds x y && not (same_extent x y) && set y) d.0 s.0
      (and_from (holds x d.0 && not (same_extent x d.0)) (set d.0)
      (and_from (holds x d.0) (not (same_extent x d.0)) (holds_from x d.0 d.2) (ap not differs)) s.1))) ∙ b.1)) in
      let same : x ≡ d.0 = same_means x d.0 (true_from_ne_false (same_extent x d.0) other) in
      subst (λ (e : Extent). Has xs e) (sym same) d.1;
}
