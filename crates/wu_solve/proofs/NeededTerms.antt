-- Lists of needed terms.
use Rattle.std.proofs.Common.{◌≡◌, ◌↔◌, ◌⊎◌, ℕ, List, [], ◌∷◌, ◌++◌, sym, subst, inl, inr, nat_eq}
use Rattle.std.specs.Prelude.{Contains, filter}
use Rattle.std.specs.List.{list_any}
use Rattle.std.specs.Cmp.Lexicographic.{pointwise, same_text, nat_list_eq_equiv}
use Rattle.std.proofs.lemmas.List.Elements.{Contains-append_left, Contains-append_right, Contains-append_cases}
use Rattle.wu_base.proofs.Members.{Has, Has-from_Contains, Contains-from_Has, Has-filter, filter_has, any_has, has_any}
use Rattle.wu_gcl.specs.declared.expressions.Op.{Op}
use Rattle.wu_gcl.specs.declared.expressions.Op.TheVariants.{Containing, ContainedIn, NotContaining, NotContainedIn, OneOf, BothOf}
use Rattle.wu_gcl.specs.declared.expressions.Op.TheVariants.{FollowedBy}
use Rattle.wu_solve.specs.Needed.{NeedsOf}

pub in_joined : (one other : List (List ℕ)) (term : List ℕ) → Contains (one ++ other) term ↔ (Contains one term ⊎ Contains other term)
in_joined one other term = (
  Contains-append_cases one other term,
  λ either. elim either [
    | inl left ↦ Contains-append_left one other term left
    | inr right ↦ Contains-append_right one other term right
  ],
)

pub alone : (one term : List ℕ) → Contains (one ∷ []) term ↔ (one ≡ term)
alone one term = (
  λ has. elim (Has-from_Contains term (one ∷ []) has) [ inl here ↦ here | inr none ↦ absurd none ],
  λ same. Contains-from_Has term (one ∷ []) (inl same),
)

pub none_there : (term : List ℕ) → Contains [] term → ⊥
none_there term has = Has-from_Contains term [] has

-- the terms of one list that are among those of the other
pub in_common : (left right : List (List ℕ)) (term : List ℕ)
    → Contains (filter (λ term. list_any (λ other. pointwise nat_eq other term) right) left) term
    ↔ (Contains left term × Contains right term)
in_common left right term = (
  λ has.
      let f = filter_has (λ term. list_any (λ other. pointwise nat_eq other term) right) term left
      (Has-from_Contains term (filter (λ term. list_any (λ other. pointwise nat_eq other term) right) left) has) in
      let o = any_has (λ other. pointwise nat_eq other term) right f.1 in
      let same : o.0 ≡ term = same_text o.0 term (sym o.1.1) in
      (Contains-from_Has term left f.0, Contains-from_Has term right (subst (λ (t : List ℕ). Has t right) same o.1.0)),
  λ both.
      let there = has_any (λ other. pointwise nat_eq other term) term right (Has-from_Contains term right both.1)
      (nat_list_eq_equiv.refl term) in
      Contains-from_Has term (filter (λ term. list_any (λ other. pointwise nat_eq other term) right) left)
      (Has-filter (λ term. list_any (λ other. pointwise nat_eq other term) right) term left (Has-from_Contains term left both.0) there),
)

pub both_ways_through : (A B C : Type 0) → A ↔ B → B ↔ C → A ↔ C
both_ways_through A B C one other = (λ a. other.0 (one.0 a), λ c. one.1 (other.1 c))

pub either_alike : (A B C D : Type 0) → A ↔ C → B ↔ D → (A ⊎ B) ↔ (C ⊎ D)
either_alike A B C D one other = (
  λ e. elim e [ inl a ↦ inl (one.0 a) | inr b ↦ inr (other.0 b) ],
  λ e. elim e [ inl c ↦ inl (one.1 c) | inr d ↦ inr (other.1 d) ],
)

-- what the operator needs, where the operands' needs are told otherwise
pub needs_alike : (op : Op) (A B C D : Type 0) → A ↔ C → B ↔ D → NeedsOf op A B ↔ NeedsOf op C D
needs_alike Containing A B C D one other = either_alike A B C D one other
needs_alike ContainedIn A B C D one other = either_alike A B C D one other
needs_alike NotContaining A B C D one other = one
needs_alike NotContainedIn A B C D one other = one
needs_alike OneOf A B C D one other = (λ e. (one.0 e.0, other.0 e.1), λ e. (one.1 e.0, other.1 e.1))
needs_alike BothOf A B C D one other = either_alike A B C D one other
needs_alike FollowedBy A B C D one other = either_alike A B C D one other
