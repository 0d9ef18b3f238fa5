-- One more term of two lists of entries, which are gone through side by side.
use Rattle.std.proofs.Common.{◌≡◌, ℕ, suc, ◌+◌, nat_eq, Bool, true, false, cond, List, [], ◌∷◌, length, ◌++◌, map, drop, refl, ap, sym, ◌∙◌}
use Rattle.std.proofs.Common.{subst, arith, append-nil}
use Rattle.std.specs.Prelude.{Option, None, Some, MatchOption, option_map, slice_get}
use Rattle.std.specs.declared.cmp.Ordering.{Ordering}
use Rattle.std.specs.declared.cmp.Ordering.TheVariants.{Less, Equal, Greater}
use Rattle.std.specs.Ordering.{is_le, is_ge, ordering_reverse}
use Rattle.std.specs.Cmp.Lexicographic.{pointwise, same_text, nat_list_eq_equiv}
use Rattle.std.proofs.lemmas.Cmp.{nat_list_cmp_total}
use Rattle.std.proofs.lemmas.Map.Lookups.{exact_bytes}
use Rattle.wu_base.proofs.Members.{Has}
use Rattle.wu_base.proofs.SortedLists.{sorted_once_is}
use Rattle.wu_part.specs.declared.entries.TermEntry.{TermEntry}
use Rattle.wu_job.specs.Sources.{lesser_of, merged, order_of, with_entry}
use Rattle.wu_job.proofs.Merging.{IsUp, first_of_merged, less_itself, text_cmp, without}
use Rattle.wu_job.proofs.Walking.{up_dropped}

abbrev terms : List TermEntry → List (List ℕ)
terms entries = map (λ (entry : TermEntry). entry.term) entries

abbrev passed_if : {A : Type 0} → Bool → List A → List A
passed_if done xs = cond done (drop 1 xs) xs

terms_passed : (done : Bool) (entries : List TermEntry) → terms (passed_if done entries) ≡ passed_if done (terms entries)
terms_passed true [] = refl
terms_passed true (x ∷ xs) = refl
terms_passed false xs = refl

up_passed : (done : Bool) (xs : List (List ℕ)) → IsUp xs → IsUp (passed_if done xs)
up_passed true xs s = up_dropped 1 xs s
up_passed false xs s = s

pub texts_differ : (a b : List ℕ) → text_cmp a b ≡ Less → pointwise nat_eq a b ≡ false
texts_differ a b less =
    elim (pointwise nat_eq a b) as (λ v. pointwise nat_eq a b ≡ v → v ≡ false) [
      | true ↦ λ p. absurd (less_itself a b less (same_text a b (sym p)))
      | false ↦ λ p. refl
    ] refl

without_itself : (t : List ℕ) (xs : List (List ℕ)) → without t (t ∷ xs) ≡ xs
without_itself t xs = let same : pointwise nat_eq t t ≡ true = nat_list_eq_equiv.refl t in rw same refl

without_more : (t x : List ℕ) (xs : List (List ℕ)) → text_cmp t x ≡ Less → without t (x ∷ xs) ≡ x ∷ xs
without_more t x xs less =
    elim (pointwise nat_eq x t) as (λ v. pointwise nat_eq x t ≡ v → cond v xs (x ∷ xs) ≡ x ∷ xs) [
      | true ↦ λ p. absurd (less_itself t x less (sym (same_text x t (sym p))))
      | false ↦ λ p. refl
    ] refl

some_order : (a b : Ordering) → Some a ≡ Some b → a ≡ b
some_order a b e = cc

none_order : (a : Ordering) → None ≡ Some a → ⊥
none_order a e = cc

-- the first term goes, from each list that it is the first of
first_gone : (o : Ordering) (xs ys : List (List ℕ)) → IsUp xs → IsUp ys → order_of (slice_get xs 0) (slice_get ys 0) ≡ Some o
    → length (merged xs ys) ≡ suc (length (merged (passed_if (is_le o) xs) (passed_if (is_ge o) ys)))
first_gone o [] [] s u e = absurd (none_order o e)
first_gone o [] (y ∷ ys) s u e =
    let is : Greater ≡ o = some_order Greater o e in
    subst (λ p. length (merged [] (y ∷ ys)) ≡ suc (length (merged (passed_if (is_le p) []) (passed_if (is_ge p) (y ∷ ys))))) is
    (ap (λ (zs : List (List ℕ)). length zs) (first_of_merged y [] (y ∷ ys) s u refl)
    ∙ ap (λ (zs : List (List ℕ)). suc (length (merged [] zs))) (without_itself y ys))
first_gone o (x ∷ xs) [] s u e =
    let is : Less ≡ o = some_order Less o e in
    subst (λ p. length (merged (x ∷ xs) []) ≡ suc (length (merged (passed_if (is_le p) (x ∷ xs)) (passed_if (is_ge p) [])))) is
    (ap (λ (zs : List (List ℕ)). length zs) (first_of_merged x (x ∷ xs) [] s u refl)
    ∙ ap (λ (zs : List (List ℕ)). suc (length (merged zs []))) (without_itself x xs))
first_gone o (x ∷ xs) (y ∷ ys) s u e =
    let is : text_cmp x y ≡ o = some_order (text_cmp x y) o e in
    let back : text_cmp y x ≡ ordering_reverse o = nat_list_cmp_total.antisymm y x ∙ ap ordering_reverse is in
    by_order o is back
  where
    by_order : (p : Ordering) → text_cmp x y ≡ p → text_cmp y x ≡ ordering_reverse p
        → length (merged (x ∷ xs) (y ∷ ys)) ≡ suc (length (merged (passed_if (is_le p) (x ∷ xs)) (passed_if (is_ge p) (y ∷ ys))))
    by_order Less is back =
        let first : lesser_of (Some x) (Some y) ≡ Some x = rw back refl in
        ap (λ (zs : List (List ℕ)). length zs) (first_of_merged x (x ∷ xs) (y ∷ ys) s u first)
        ∙ (ap (λ (zs : List (List ℕ)). suc (length (merged zs (without x (y ∷ ys))))) (without_itself x xs)
        ∙ ap (λ (zs : List (List ℕ)). suc (length (merged xs zs))) (without_more x y ys is))
    by_order Equal is back =
        let first : lesser_of (Some x) (Some y) ≡ Some x = rw back refl in
        let same : x ≡ y = exact_bytes x y is in
        ap (λ (zs : List (List ℕ)). length zs) (first_of_merged x (x ∷ xs) (y ∷ ys) s u first)
        ∙ (ap (λ (zs : List (List ℕ)). suc (length (merged zs (without x (y ∷ ys))))) (without_itself x xs)
        ∙ ap (λ (zs : List (List ℕ)). suc (length (merged xs zs)))
        (subst (λ z. without z (y ∷ ys) ≡ ys) (sym same) (without_itself y ys)))
    by_order Greater is back =
        let first : lesser_of (Some x) (Some y) ≡ Some y = rw back refl in
        ap (λ (zs : List (List ℕ)). length zs) (first_of_merged y (x ∷ xs) (y ∷ ys) s u first)
        ∙ (ap (λ (zs : List (List ℕ)). suc (length (merged (without y (x ∷ xs)) zs))) (without_itself y ys)
        ∙ ap (λ (zs : List (List ℕ)). suc (length (merged zs ys))) (without_more y x xs back))

-- the entries that are left, where those of the first term are passed
pub record AreLeft (before_left before_right left right : List TermEntry) : Type 0 where
  pub count : length (merged (terms before_left) (terms before_right)) ≡ length (merged (terms left) (terms right)) + 1
  pub terms : IsUp (map (λ entry. entry.term) left)
  pub others : IsUp (map (λ entry. entry.term) right)

first_term_is : (first : Option TermEntry) (left : List TermEntry) → (first ≡ None → left ≡ [])
    → option_map (λ entry. entry.term) first ≡ slice_get (terms (with_entry first left)) 0
first_term_is None left none = sym (ap (λ (es : List TermEntry). slice_get (terms es) 0) (none refl))
first_term_is (Some entry) left none = refl

pub one_term : (first second : Option TermEntry) (left right after after_right : List TermEntry) (o : Ordering) (le ge : Bool)
    → (first ≡ None → left ≡ []) → (second ≡ None → right ≡ [])
    → IsUp (terms (with_entry first left)) → IsUp (terms (with_entry second right))
    → order_of (option_map (λ entry. entry.term) first) (option_map (λ entry. entry.term) second) ≡ Some o
    → le ≡ is_le o → ge ≡ is_ge o
    → after ≡ passed_if le (with_entry first left) → after_right ≡ passed_if ge (with_entry second right)
    → AreLeft (with_entry first left) (with_entry second right) after after_right
one_term first second left right after after_right o le ge none nothing s u e is_le_o is_ge_o is its =
    let xs = with_entry first left in
    let ys = with_entry second right in
    let a : terms after ≡ passed_if (is_le o) (terms xs) =
    ap terms (is ∙ ap (λ (b : Bool). passed_if b xs) is_le_o) ∙ terms_passed (is_le o) xs in
    let b : terms after_right ≡ passed_if (is_ge o) (terms ys) =
    ap terms (its ∙ ap (λ (b : Bool). passed_if b ys) is_ge_o) ∙ terms_passed (is_ge o) ys in
    let order : order_of (slice_get (terms xs) 0) (slice_get (terms ys) 0) ≡ Some o =
    ap (λ (t : Option (List ℕ)). order_of t (slice_get (terms ys) 0)) (sym (first_term_is first left none))
    ∙ (ap (λ (t : Option (List ℕ)). order_of (option_map (λ (entry : TermEntry). entry.term) first) t)
    (sym (first_term_is second right nothing)) ∙ e) in
    record {
      count =
          omega (
            arith,
            first_gone o (terms xs) (terms ys) s u order,
            ap (λ (zs : List (List ℕ)). length (merged zs (terms after_right))) a,
            ap (λ (zs : List (List ℕ)). length (merged (passed_if (is_le o) (terms xs)) zs)) b,
          );
      terms = subst IsUp (sym a) (up_passed (is_le o) (terms xs) s);
      others = subst IsUp (sym b) (up_passed (is_ge o) (terms ys) u);
    }

-- the first entry of a walk, and those after it
pub walk_opened : (first : Option TermEntry) (all rest : List TermEntry)
    → MatchOption first ((all ≡ []) × (rest ≡ [])) (λ entry. all ≡ entry ∷ rest)
    → (with_entry first rest ≡ all) × (first ≡ None → rest ≡ [])
walk_opened None all rest steps = (steps.1 ∙ sym steps.0, λ e. steps.1)
walk_opened (Some entry) all rest steps = (sym steps, λ e. absurd cc)

-- no entry is left of both
pub none_left_over : (first second : Option TermEntry) (left right : List TermEntry) → (first ≡ None → left ≡ [])
    → (second ≡ None → right ≡ [])
    → order_of (option_map (λ entry. entry.term) first) (option_map (λ entry. entry.term) second) ≡ None
    → length (merged (terms (with_entry first left)) (terms (with_entry second right))) ≡ 0
none_left_over None None left right none nothing e =
    ap (λ (es : List TermEntry). length (merged (terms es) (terms right))) (none refl)
    ∙ ap (λ (es : List TermEntry). length (merged [] (terms es))) (nothing refl)
none_left_over None (Some b) left right none nothing e = absurd cc
none_left_over (Some a) None left right none nothing e = absurd cc
none_left_over (Some a) (Some b) left right none nothing e = absurd cc

-- terms in order are those that they make alone
pub merged_alone : (xs : List (List ℕ)) → IsUp xs → merged xs [] ≡ xs
merged_alone xs s =
    sym (sorted_once_is nat_list_cmp_total exact_bytes xs (xs ++ []) s (λ q h. subst (Has q) (sym (append-nil xs)) h)
    (λ q h. subst (Has q) (append-nil xs) h))
