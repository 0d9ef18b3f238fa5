use Rattle.std.proofs.Common.{◌≡◌, ◌++◌, ◌∷◌, ◌∙◌, [], ℕ, Bool, List, nat_eq, take, sym, ap, arith}
use Rattle.std.proofs.lemmas.List.Elements.{filter_more}
use Rattle.std.proofs.lemmas.Grind.{common_steps}
use Rattle.std.specs.Prelude.{filter}
use Rattle.std.specs.List.{list_any}
use Rattle.std.specs.Cmp.Lexicographic.{pointwise, slice_cmp}
use Rattle.std.specs.Ordering.{nat_cmp}
use Rattle.std.proofs.lemmas.List.Kept.{IsStrictlySortedBy-filter}
use Rattle.wu_solve.proofs.NeededTerms.{in_common}
use Rattle.wu_solve.proofs.needed.in_both.Goals as goal

pub loop-term-preserved : goal.loop-term-preserved
loop-term-preserved c =
    let left = c.args.left.now in
    let i = c.loop-term.term-index in
    let x = c.term-item.result in
    let p : List ℕ → Bool = λ term. list_any (λ other. pointwise nat_eq other term) c.args.right.now in
    c.in_ok-put_common.ensures ∙ ap (λ (ys : List (List ℕ)). ys ++ filter p (x ∷ [])) c.loop-term.invariant
    ∙ ap (λ (z : List ℕ). filter p (take i left) ++ filter p (z ∷ [])) c.term-item.is
    ∙ sym (filter_more p left i x c.loop-term-test.true)

pub returns-clause-ascending : goal.returns-clause-ascending
returns-clause-ascending c =
    let whole : c.loop-term.terms.items
    ≡ filter (λ term. list_any (λ other. pointwise nat_eq other term) c.args.right.now) c.args.left.now =
    grind (arith, common_steps) in
    rw whole (IsStrictlySortedBy-filter (slice_cmp nat_cmp) (λ term. list_any (λ other. pointwise nat_eq other term) c.args.right.now)
    c.args.left.now c.requires.left)

pub returns-clause-members : goal.returns-clause-members
returns-clause-members c = λ term.
    let whole : c.loop-term.terms.items
    ≡ filter (λ term. list_any (λ other. pointwise nat_eq other term) c.args.right.now) c.args.left.now =
    grind (arith, common_steps) in
    rw whole (in_common c.args.left.now c.args.right.now term)
