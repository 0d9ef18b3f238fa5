use Rattle.std.proofs.Common.{sym, ◌∙◌}
use Rattle.std.specs.Cmp.Lexicographic.{same_text}
use Rattle.wu_part.proofs.WalkLemmas.{first_in_all, first_less, one_passed, passed_others, nothing_left}
use Rattle.wu_part.proofs.walks.entry_among.Goals as goal

pub loop-terms-preserved : goal.loop-terms-preserved
loop-terms-preserved c =
    let before = sym c.begins_before.ensures ∙ c.loop-terms-test.true in
    one_passed _ _ _ _ _ c.in-Some.ensures.steps (first_less _ _ _ _ c.in-Some.ensures.steps before) c.loop-terms.invariant

pub returns-in_default-first : goal.returns-in_default-first
returns-in_default-first c = nothing_left _ _ _ c.in_default-first.ensures c.loop-terms.invariant

pub returns-then-eq : goal.returns-then-eq
returns-then-eq c = (
  first_in_all _ _ _ c.in-Some-first.ensures.0 _ c.in-Some-first.ensures.1 c.loop-terms.invariant,
  sym c.term.ensures ∙ same_text _ _ c.if-eq.ensures,
)

pub returns-else-eq : goal.returns-else-eq
returns-else-eq c =
    passed_others _ _ _ c.in-Some-first.ensures.0 _ c.in-Some-first.ensures.1 (sym c.begins_before.ensures ∙ c.loop-terms-test.false)
    (rw c.term.ensures at (sym c.if-eq.ensures)) c.loop-terms.invariant
