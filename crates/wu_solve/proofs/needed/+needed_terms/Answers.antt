use Rattle.std.proofs.Common.{◌≡◌, ◌↔◌, ◌⊎◌, ℕ, List, [], ◌∷◌, inl, inr}
use Rattle.std.specs.Prelude.{Contains}
use Rattle.std.specs.List.Sorted.{IsStrictlySortedBy}
use Rattle.std.specs.Cmp.Lexicographic.{slice_cmp}
use Rattle.std.specs.Ordering.{nat_cmp}
use Rattle.std.proofs.lemmas.Result.{IfOk-weaker}
use Rattle.wu_gcl.specs.Reading.{tag_text}
use Rattle.wu_gcl.specs.Regions.{region_of, Phrase, Mark, Both}
use Rattle.wu_solve.specs.Needed.{NeedsOf, Needs}
use Rattle.wu_solve.proofs.NeededTerms.{alone, none_there, needs_alike, both_ways_through}
use Rattle.wu_solve.proofs.needed.+needed_terms.Goals as goal

pub returns-in-Phrase-clause-members : goal.returns-in-Phrase-clause-members
returns-in-Phrase-clause-members t c =
    let words = c.in-Phrase.words in
    rw c.in-Phrase.is
    (IfOk-weaker c.in_either.result
    (λ v. (term : List ℕ) → Contains v.items term ↔ (Contains c.new.result.items term ⊎ Contains c.as_slice.result.now term))
    (λ v. (term : List ℕ) → Contains v.items term ↔ Needs (Phrase words) term)
    (λ v members term.
    let m : Contains v.items term ↔ (Contains [] term ⊎ Contains words term) =
    rw (c.new.ensures.items, c.as_slice.ensures) at (members term) in (
      λ has. elim (m.0 has) [ inl none ↦ absurd (none_there term none) | inr there ↦ there ],
      λ there. m.1 (inr there),
    )) c.in_either.ensures.members)

pub returns-in-Tag-clause-ascending : goal.returns-in-Tag-clause-ascending
unfolding IsStrictlySortedBy
returns-in-Tag-clause-ascending t c =
    IfOk-weaker c.tag_alone.result (λ v. v.items ≡ tag_text c.in-Tag.tag ∷ []) (λ v. IsStrictlySortedBy (slice_cmp nat_cmp) v.items)
    (λ v same. rw same (tt, tt)) c.tag_alone.ensures

pub returns-in-Tag-clause-members : goal.returns-in-Tag-clause-members
returns-in-Tag-clause-members t c =
    rw c.in-Tag.is
    (IfOk-weaker c.tag_alone.result (λ v. v.items ≡ tag_text c.in-Tag.tag ∷ [])
    (λ v. (term : List ℕ) → Contains v.items term ↔ Needs (Mark c.in-Tag.tag) term)
    (λ v same term. rw same (alone (tag_text c.in-Tag.tag) term)) c.tag_alone.ensures)

pub returns-in-File-clause-members : goal.returns-in-File-clause-members
returns-in-File-clause-members t c = rw c.in-File.is c.both_tags.ensures.members

pub returns-in-Line-clause-members : goal.returns-in-Line-clause-members
returns-in-Line-clause-members t c = rw c.in-Line.is c.both_tags-in-Line.ensures.members

pub returns-in-Window-clause-ascending : goal.returns-in-Window-clause-ascending
unfolding IsStrictlySortedBy
returns-in-Window-clause-ascending t c = rw c.new-in-Window.ensures.items tt

pub returns-in_ok-right-in-Both-clause-members : goal.returns-in_ok-right-in-Both-clause-members
returns-in_ok-right-in-Both-clause-members t c =
    let op = c.in-Both.op in
    let one = c.in_ok-left-in-Both.left.items in
    let other = c.in_ok-right-in-Both.right.items in
    let left = region_of c.in-Both.left.value in
    let right = region_of c.in-Both.right.value in
    rw c.in-Both.is
    (IfOk-weaker c.needed_of.result
    (λ v. (term : List ℕ) → Contains v.items term ↔ NeedsOf op (Contains one term) (Contains c.deref-in-Both-2.result.now term))
    (λ v. (term : List ℕ) → Contains v.items term ↔ Needs (Both op left right) term)
    (λ v members term.
    both_ways_through (Contains v.items term) (NeedsOf op (Contains one term) (Contains other term)) (Needs (Both op left right) term)
    (rw c.deref-in-Both-2.ensures.value at (members term))
    (needs_alike op (Contains one term) (Contains other term) (Needs left term) (Needs right term)
    (rw c.deref.ensures at (c.in_ok-left-in-Both.ensures.members term))
    (rw c.deref-in-Both.ensures at (c.in_ok-right-in-Both.ensures.members term)))) c.needed_of.ensures.members)
