-- Where a needed term stands nowhere, an expression has no extent.
use Rattle.std.proofs.Common.{◌≡◌, ℕ, zero, suc, ◌+◌, ◌<◌, ◌≤◌, Bool, true, ◌&&◌, ◌⊎◌, List, [], ◌∷◌, length, get_or, map, refl, sym, ap}
use Rattle.std.proofs.Common.{◌∙◌, subst, inl, inr, arith, eqb, eqb-true}
use Rattle.std.specs.Prelude.{Contains, nat_lt}
use Rattle.std.proofs.lemmas.Bool.{false≢true, and_parts, or_cases}
use Rattle.wu_base.specs.declared.addresses.Extent.{Extent}
use Rattle.wu_base.specs.declared.addresses.Range.{Range}
use Rattle.wu_base.specs.declared.addresses.TermList.{TermList}
use Rattle.wu_gcl.specs.declared.expressions.Tag.TheVariants.{FileStart, FileEnd, LineStart, LineEnd}
use Rattle.wu_gcl.specs.declared.expressions.Op.{Op}
use Rattle.wu_gcl.specs.declared.expressions.Op.TheVariants.{Containing, ContainedIn, NotContaining, NotContainedIn, OneOf, BothOf}
use Rattle.wu_gcl.specs.declared.expressions.Op.TheVariants.{FollowedBy}
use Rattle.wu_gcl.specs.Regions.{Region, Phrase, Mark, WholeFile, WholeLine, Window, Both}
use Rattle.wu_gcl.specs.Reading.{tag_text}
use Rattle.wu_gcl.specs.Extents.{holds, some_extent, containing, contained_in, not_containing, not_contained_in, innermost, in_either}
use Rattle.wu_gcl.specs.Extents.{holds_both, holds_in_order, combined, words_stand, is_term_at, is_in, hits}
use Rattle.wu_solve.specs.Addresses.{stands_by}
use Rattle.wu_solve.specs.Listing.{Has, IsExtentIn}
use Rattle.wu_solve.specs.Needed.{NeedsOf, Needs, HasNone}
use Rattle.wu_solve.specs.Solving.{moved, frame_hits}
use Rattle.wu_solve.proofs.Order.{some_found}
use Rattle.wu_solve.proofs.Results.{hits_listed}

-- the term stands at some place of a text of n places
abbrev Stands : ℕ → (List ℕ → ℕ → Bool) → List ℕ → Type 0
Stands n stands term = (place : ℕ) × (place < n) × (stands term place ≡ true)

-- each extent of the set has the term stand somewhere in the text
abbrev Gives : ℕ → (List ℕ → ℕ → Bool) → List ℕ → (Extent → Bool) → Type 0
Gives n stands term set = (x : Extent) → IsExtentIn n x → set x ≡ true → Stands n stands term

word_stands : (n : ℕ) (stands : List ℕ → ℕ → Bool) (term : List ℕ) (words : List (List ℕ)) (place k : ℕ) → place + length words ≤ n
    → words_stand stands words place ≡ true → k < length words → get_or words k term ≡ term → Stands n stands term
word_stands n stands term [] place k fits is within same = absurd (omega arith)
word_stands n stands term (word ∷ words) place zero fits is within same =
    let b = and_parts (stands word place) (words_stand stands words (place + 1)) is in
    (place, omega arith, subst (λ (t : List ℕ). stands t place ≡ true) same b.0)
word_stands n stands term (word ∷ words) place (suc k) fits is within same =
    let b = and_parts (stands word place) (words_stand stands words (place + 1)) is in
    word_stands n stands term words (place + 1) k (omega arith) b.1 (omega arith) same

term_given : (n : ℕ) (stands : List ℕ → ℕ → Bool) (term other : List ℕ) → other ≡ term → Gives n stands term (is_term_at stands other)
term_given n stands term other same x is passes =
    let b = and_parts (eqb x.start x.end) (stands other x.start) passes in
    let ordered : x.start ≤ x.end = is.ordered in
    let within : x.end < n = is.within in
    (x.start, omega arith, subst (λ (t : List ℕ). stands t x.start ≡ true) same b.1)

-- from the operands to the operator

module _ (n : ℕ) (stands : List ℕ → ℕ → Bool) (term : List ℕ) (left right : Extent → Bool) where
  left_kept : (test : Extent → Bool) → Gives n stands term left → Gives n stands term (λ x. left x && test x)
  left_kept test gives x is passes = gives x is (and_parts (left x) (test x) passes).0

  some_kept : (test : Extent → Extent → Bool) → Gives n stands term right
      → Gives n stands term (λ x. left x && some_extent n (λ y. test x y && right y))
  some_kept test gives x is passes =
      let b = and_parts (left x) (some_extent n (λ y. test x y && right y)) passes in
      let f = some_found n (λ y. test x y && right y) b.1 in
      gives f.0 f.1 (and_parts (test x f.0) (right f.0) f.2).1

innermost_given : (n : ℕ) (stands : List ℕ → ℕ → Bool) (term : List ℕ) (set : Extent → Bool) → Gives n stands term set
    → Gives n stands term (innermost n set)
unfolding innermost
innermost_given n stands term set gives x is passes = gives x is (and_parts (set x) _ passes).0

either_given : (n : ℕ) (stands : List ℕ → ℕ → Bool) (term : List ℕ) (left right : Extent → Bool) → Gives n stands term left
    → Gives n stands term right → Gives n stands term (in_either left right)
either_given n stands term left right one other x is passes =
    elim (or_cases (left x) (right x) passes) [ inl l ↦ one x is l | inr r ↦ other x is r ]

both_given : (n : ℕ) (stands : List ℕ → ℕ → Bool) (term : List ℕ) (left right : Extent → Bool)
    → Gives n stands term left ⊎ Gives n stands term right → Gives n stands term (holds_both n left right)
unfolding holds_both
both_given n stands term left right (inl gives) x is passes =
    let f = some_found n (λ y. holds x y && left y) (and_parts (some_extent n (λ y. holds x y && left y)) _ passes).0 in
    gives f.0 f.1 (and_parts (holds x f.0) (left f.0) f.2).1
both_given n stands term left right (inr gives) x is passes =
    let f = some_found n (λ z. holds x z && right z) (and_parts _ (some_extent n (λ z. holds x z && right z)) passes).1 in
    gives f.0 f.1 (and_parts (holds x f.0) (right f.0) f.2).1

in_order_given : (n : ℕ) (stands : List ℕ → ℕ → Bool) (term : List ℕ) (left right : Extent → Bool)
    → Gives n stands term left ⊎ Gives n stands term right → Gives n stands term (holds_in_order n left right)
unfolding holds_in_order
in_order_given n stands term left right gives x is passes =
    let f = some_found n (λ y. holds x y && left y && some_extent n (λ z. holds x z && right z && nat_lt y.end z.start)) passes in
    let b = and_parts (holds x f.0 && left f.0) (some_extent n (λ z. holds x z && right z && nat_lt f.0.end z.start)) f.2 in
    let g = some_found n (λ z. holds x z && right z && nat_lt f.0.end z.start) b.1 in
    let c = and_parts (holds x g.0 && right g.0) (nat_lt f.0.end g.0.start) g.2 in
    elim gives [
      | inl one ↦ one f.0 f.1 (and_parts (holds x f.0) (left f.0) b.0).1
      | inr other ↦ other g.0 g.1 (and_parts (holds x g.0) (right g.0) c.0).1
    ]

combined_given : (op : Op) (n : ℕ) (stands : List ℕ → ℕ → Bool) (term : List ℕ) (left right : Extent → Bool)
    → NeedsOf op (Gives n stands term left) (Gives n stands term right) → Gives n stands term (combined op n left right)
unfolding combined containing contained_in not_containing not_contained_in
combined_given Containing n stands term left right (inl gives) = left_kept n stands term left right _ gives
combined_given Containing n stands term left right (inr gives) = some_kept n stands term left right (λ x y. holds x y) gives
combined_given ContainedIn n stands term left right (inl gives) = left_kept n stands term left right _ gives
combined_given ContainedIn n stands term left right (inr gives) = some_kept n stands term left right (λ x y. holds y x) gives
combined_given NotContaining n stands term left right gives = left_kept n stands term left right _ gives
combined_given NotContainedIn n stands term left right gives = left_kept n stands term left right _ gives
combined_given OneOf n stands term left right gives =
    innermost_given n stands term (in_either left right) (either_given n stands term left right gives.0 gives.1)
combined_given BothOf n stands term left right gives =
    innermost_given n stands term (holds_both n left right) (both_given n stands term left right gives)
combined_given FollowedBy n stands term left right gives =
    innermost_given n stands term (holds_in_order n left right) (in_order_given n stands term left right gives)

-- what the operator needs, from what each operand gives
needs_of : (op : Op) (one other : Type 0) (left right : Type 0) → (one → left) → (other → right) → NeedsOf op one other
    → NeedsOf op left right
needs_of Containing one other left right l r (inl n) = inl (l n)
needs_of Containing one other left right l r (inr n) = inr (r n)
needs_of ContainedIn one other left right l r (inl n) = inl (l n)
needs_of ContainedIn one other left right l r (inr n) = inr (r n)
needs_of NotContaining one other left right l r n = l n
needs_of NotContainedIn one other left right l r n = l n
needs_of OneOf one other left right l r n = (l n.0, r n.1)
needs_of BothOf one other left right l r (inl n) = inl (l n)
needs_of BothOf one other left right l r (inr n) = inr (r n)
needs_of FollowedBy one other left right l r (inl n) = inl (l n)
needs_of FollowedBy one other left right l r (inr n) = inr (r n)

tags_given : (n : ℕ) (stands : List ℕ → ℕ → Bool) (term first last : List ℕ) → (first ≡ term) ⊎ (last ≡ term)
    → Gives n stands term (combined FollowedBy n (is_term_at stands first) (is_term_at stands last))
tags_given n stands term first last (inl same) =
    combined_given FollowedBy n stands term (is_term_at stands first) (is_term_at stands last) (inl (term_given n stands term first same))
tags_given n stands term first last (inr same) =
    combined_given FollowedBy n stands term (is_term_at stands first) (is_term_at stands last) (inr (term_given n stands term last same))

phrase_given : (words : List (List ℕ)) (n : ℕ) (stands : List ℕ → ℕ → Bool) (term : List ℕ) → Contains words term
    → Gives n stands term (is_in (Phrase words) stands n)
unfolding is_in
phrase_given words n stands term needs x is passes =
    let b = and_parts (eqb (x.start + length words) (x.end + 1)) (words_stand stands words x.start) passes in
    let ends : x.start + length words ≡ x.end + 1 = eqb-true _ _ b.0 in
    let within : x.end < n = is.within in
    word_stands n stands term words x.start needs.0 (omega arith) b.1 needs.1 needs.2

needed_stands : (region : Region) (n : ℕ) (stands : List ℕ → ℕ → Bool) (term : List ℕ) → Needs region term
    → Gives n stands term (is_in region stands n)
unfolding is_in
needed_stands (Phrase words) n stands term needs = phrase_given words n stands term needs
needed_stands (Mark tag) n stands term needs = term_given n stands term (tag_text tag) needs
needed_stands WholeFile n stands term needs = tags_given n stands term (tag_text FileStart) (tag_text FileEnd) needs
needed_stands WholeLine n stands term needs = tags_given n stands term (tag_text LineStart) (tag_text LineEnd) needs
needed_stands (Window size) n stands term needs = absurd needs
needed_stands (Both op left right) n stands term needs =
    combined_given op n stands term (is_in left stands n) (is_in right stands n)
    (needs_of op _ _ _ _ (needed_stands left n stands term) (needed_stands right n stands term) needs)

without_any : (xs : List Extent) → ((x : Extent) → Has xs x → ⊥) → xs ≡ []
without_any [] none = refl
without_any (x ∷ xs) none = absurd (none x (inl refl))

pub none_without : (region : Region) (lists : List TermList) (frame : Range) (term : List ℕ) → Needs region term → HasNone lists term frame
    → frame_hits region lists frame ≡ []
none_without region lists frame term needs none =
    let stands = stands_by lists frame.start in
    ap (map (moved frame.start)) (without_any (hits region stands frame.len) (λ x has.
    let s = (hits_listed region stands frame.len).sound x has in
    let p = needed_stands region frame.len stands term needs x s.0 s.1 in
    false≢true (sym (none (frame.start + p.0) (omega arith) (omega (arith, p.1))) ∙ p.2)))
